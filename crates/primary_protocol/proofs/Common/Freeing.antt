-- What completed writes held is free.
use Rattle.std.proofs.Common.{ℕ, ◌≡◌, Bool, true, false, not, ◌&&◌, ◌||◌, List, [], ◌∷◌, ◌++◌, map, filter, Some, slice_get, refl, sym, ◌∙◌, ap, arith, ◌==◌}
use Rattle.std.specs.Prelude.{if◌then◌else◌}
use Rattle.std.specs.List.{list_any}
use Rattle.std.proofs.lemmas.Bool.{both_ways, eqb-true, eq-eqb, false_from_ne_true}
use Rattle.std.proofs.lemmas.List.Elements.{filter-append}
use Rattle.model.specs.Stream.{StreamItem}
use Rattle.model.specs.Primary.{Accepted, PrimaryHistory, is_established, primary_connection, under_way, is_open, open_writes, completes, is_completed}
use Rattle.model.specs.Primary.{is_failed}
use Rattle.model.specs.PrimarySteps.{newly_completed, with_completions}
use Rattle.transferlog.specs.Writes.{completed_of}
use Rattle.transferlog.specs.declared.report.Completed as report
use Rattle.overlap.specs.Holdings.{Holding, without}
use Rattle.laws.proofs.Lists.Picks.{pick-any, pick-image, pick-filtered}
use Rattle.primary_protocol.specs.Core.{freeing}
use Rattle.primary_protocol.specs.Leaves.{logged_of, holding_item, holding_write, held_of}
use Rattle.primary_protocol.proofs.Common.Filters.{filter-at, filter-map, filter-twice, filter-all}
use Rattle.primary_protocol.proofs.Common.Completing.{MayComplete, any-report, journal-is}

-- two numbers are the same in either order
pub same-either : (a b : ℕ) → (a == b) ≡ (b == a)
same-either a b = go (a == b) refl
  where
    go : (v : Bool) → (a == b) ≡ v → v ≡ (b == a)
    go true is = sym (eq-eqb b a (sym (eqb-true a b is)))
    go false is = sym (false_from_ne_true (b == a) (λ e. both_ways (a == b) is (eq-eqb a b (sym (eqb-true b a e)))))

-- none of these completed the holder
abbrev pub stays : List report.Completed → Holding → Bool
stays cs x = not (list_any (λ (c : report.Completed). c.number == x.number) cs)

pub freeing-is : (cs : List report.Completed) (held : List Holding) → freeing cs held ≡ filter (stays cs) held
freeing-is [] held = sym (filter-all (stays []) held (λ i x at. refl))
freeing-is (c ∷ cs) held =
    freeing-is cs (without c.number held)
    ∙ (filter-twice (stays cs) (λ x. not (x.number == c.number)) held
    ∙ filter-at (λ x. not (x.number == c.number) && stays cs x) (stays (c ∷ cs)) held (λ i x at. ap (λ b. not b && stays cs x) (same-either x.number c.number)
    ∙ go (c.number == x.number) (list_any (λ (c : report.Completed). c.number == x.number) cs)))
  where
    go : (a b : Bool) → (not a && not b) ≡ not (a || b)
    go true b = refl
    go false b = refl

module _ (h : PrimaryHistory) (may : MayComplete h) where
  abbrev reports : List report.Completed
  reports = map (λ a. completed_of (logged_of h a)) (newly_completed h)

  -- no write has the number that the block under way has
  none-zero : list_any (λ (c : report.Completed). c.number == 0) reports ≡ false
  none-zero = false_from_ne_true (list_any (λ (c : report.Completed). c.number == 0) reports) (λ some.
      let c = pick-any (λ (c : report.Completed). c.number == 0) reports some in
      let of = pick-image (λ b. completed_of (logged_of h b)) (newly_completed h) c.0 c.1 c.2 in
      let stood = pick-filtered (λ a. is_open h a && completes h a) h.writes c.0 of.0 of.1 in
      let number : of.0.write.number ≡ c.1.number = ap (λ (x : report.Completed). x.number) of.2 in
      let zero_is = eqb-true c.1.number 0 c.3 in
      let index = may.numbered stood.0 of.0 stood.1 in
      omega arith)

  zeros-stay : (entries : List (ℕ × StreamItem)) → filter (stays reports) (map holding_item entries) ≡ map holding_item entries
  zeros-stay entries = filter-all (stays reports) (map holding_item entries) (λ i x at.
      let of = pick-image holding_item entries i x at in
      let zero_is : x.number ≡ 0 = ap (λ (y : Holding). y.number) (sym of.2) in
      ap (λ n. not (list_any (λ (c : report.Completed). c.number == n) reports)) zero_is ∙ ap not none-zero)

  -- what is held then
  pub held-completed : freeing reports (held_of h) ≡ held_of (with_completions h)
  held-completed =
      let zeros : List Holding = map holding_item (if is_established (primary_connection h) then under_way (primary_connection h) else []) in
      freeing-is reports (held_of h)
      ∙ (filter-append (stays reports) zeros (map holding_write (open_writes h))
      ∙ λ i. zeros-stay (if is_established (primary_connection h) then under_way (primary_connection h) else []) i ++ rest i)
    where
      rest : filter (stays reports) (map holding_write (open_writes h)) ≡ map holding_write (open_writes (with_completions h))
      rest =
          filter-map (stays reports) holding_write (open_writes h)
          ∙ ap (map holding_write) (filter-twice (λ a. stays reports (holding_write a)) (is_open h) h.writes
          ∙ filter-at (λ a. is_open h a && stays reports (holding_write a)) (is_open (with_completions h)) h.writes pointwise)
        where
          pointwise : (i : ℕ) (a : Accepted) → slice_get h.writes i ≡ Some a → (is_open h a && stays reports (holding_write a)) ≡ is_open (with_completions h) a
          pointwise i a at =
              ap (λ b. is_open h a && not b) (any-report h may i a at)
              ∙ (go (is_completed h a.write.number) (not (is_failed a.outcome)) (completes h a)
              ∙ ap (λ b. not b && not (is_failed a.outcome)) (sym (journal-is h may i a at)))
            where
              go : (was good now : Bool) → ((not was && good) && not ((not was && good) && now)) ≡ (not (was || ((not was && good) && now)) && good)
              go true good now = refl
              go false true now = elim now as (λ b. not b ≡ (not b && true)) [ true ↦ refl | false ↦ refl ]
              go false false now = refl
