-- What the log reports released, where something happened to one write.
use Rattle.std.proofs.Common.{ℕ, ◌≡◌, Bool, true, false, not, ◌&&◌, List, map, filter, Some, slice_get, sym, ◌∙◌, ap, subst, ◌==◌}
use Rattle.std.specs.Prelude.{option_map}
use Rattle.std.specs.List.{list_any}
use Rattle.std.proofs.lemmas.Bool.{and_parts, and_from, not-true, eq-eqb}
use Rattle.std.proofs.lemmas.Option.{slice_get-map}
use Rattle.model.specs.Contents.{Write}
use Rattle.model.specs.Primary.{Accepted, PrimaryHistory, is_released, unreleased}
use Rattle.transferlog.specs.Writes.{released_of}
use Rattle.transferlog.specs.declared.report.Released.{Released}
use Rattle.laws.proofs.Lists.Elements.{same-at}
use Rattle.laws.proofs.Lists.Picks.{any-pick, pick-filtered, filtered-pick, pick-image}
use Rattle.laws.proofs.Releases.Cleared.{IsNew}
use Rattle.primary_protocol.specs.Leaves.{logged_of}
use Rattle.primary_protocol.proofs.Common.Marks.{Reports}

-- The report has the writes that the step releases, and no other.
pub reports-of : (h later : PrimaryHistory) (g : Accepted → Accepted) (released : List Released)
    → released ≡ map (λ a. released_of (logged_of later (g a))) (filter (λ a. not (is_released h a) && is_released later (g a)) h.writes)
    → later.writes ≡ map g h.writes → ((a : Accepted) → (g a).write ≡ a.write) → Reports h later released
reports-of h later g released is writes same = record { only = only; all = all }
  where
    passes : Accepted → Bool
    passes a = not (is_released h a) && is_released later (g a)

    out : Accepted → Released
    out a = released_of (logged_of later (g a))

    at-then : (i : ℕ) (a : Accepted) → slice_get h.writes i ≡ Some a → slice_get later.writes i ≡ Some (g a)
    at-then i a at = ap (λ (ws : List Accepted). slice_get ws i) writes ∙ (slice_get-map g h.writes i ∙ ap (option_map g) at)

    only : (n : ℕ) (r : Released) → slice_get released n ≡ Some r
        → (i : ℕ) × (b : Accepted) × IsNew h later i b × (list_any (λ (was : Accepted). was.write.number == b.write.number) (unreleased h) ≡ true)
        × (r ≡ released_of (logged_of later b))
    only n r there =
        let of = pick-image out (filter passes h.writes) n r (subst (λ (rs : List Released). slice_get rs n ≡ Some r) is there) in
        let stood = pick-filtered passes h.writes n of.0 of.1 in
        let parts = and_parts (not (is_released h of.0)) (is_released later (g of.0)) stood.2 in
        let held = filtered-pick (λ a. not (is_released h a)) h.writes stood.0 of.0 stood.1 parts.0 in (
          stood.0,
          g of.0,
          record {
            at = at-then stood.0 of.0 stood.1;
            now = parts.1;
            before = λ b atb. subst (λ (x : Accepted). is_released h x ≡ false) (same-at h.writes stood.0 of.0 b stood.1 atb)
                (not-true (is_released h of.0) parts.0);
          },
          any-pick (λ (was : Accepted). was.write.number == (g of.0).write.number) (unreleased h) held.0 of.0 held.1
              (eq-eqb of.0.write.number (g of.0).write.number (ap (λ (w : Write). w.number) (sym (same of.0)))),
          sym of.2,
        )

    all : (i : ℕ) (b : Accepted) → IsNew h later i b → (n : ℕ) × (slice_get released n ≡ Some (released_of (logged_of later b)))
    all i b new =
        let of = pick-image g h.writes i b (subst (λ (ws : List Accepted). slice_get ws i ≡ Some b) writes new.at) in
        let passed : passes of.0 ≡ true = and_from (not (is_released h of.0)) (is_released later (g of.0)) (ap not (new.before of.0 of.1))
        (ap (is_released later) of.2 ∙ new.now) in
        let there = filtered-pick passes h.writes i of.0 of.1 passed in (
          there.0,
          ap (λ (rs : List Released). slice_get rs there.0) is
              ∙ (slice_get-map out (filter passes h.writes) there.0
              ∙ (ap (option_map out) there.1 ∙ ap (λ (x : Accepted). Some (released_of (logged_of later x))) of.2)),
        )
