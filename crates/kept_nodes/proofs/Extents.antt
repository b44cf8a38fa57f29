-- Each accepted write lies in one extent, so that a block of an extent that has no unreleased write is covered only if it is marked.
use Rattle.std.proofs.Common.{ℕ, ◌≡◌, ◌+◌, ◌-◌, ◌≤◌, ◌<◌, ◌==◌, inl, inr, Bool, true, false, not, nat_lt, ◌&&◌, List, [], ◌∷◌, ◌++◌, length, map, filter}
use Rattle.std.proofs.Common.{Option, Some, None, slice_get, refl}
use Rattle.std.proofs.Common.{sym, ◌∙◌, subst, arith}
use Rattle.std.specs.Prelude.{nat_le}
use Rattle.std.specs.List.{list_any}
use Rattle.std.proofs.lemmas.Bool.{and_parts, eq-eqb, eqb-true, leb-true, ltb-true, or_cases}
use Rattle.std.proofs.lemmas.Option.{slice_get_within}
use Rattle.blocks.specs.declared.outcome.Decision.{Decision}
use Rattle.blocks.specs.declared.outcome.Decision.TheVariants.{NoSync, BitmapSync, FullSync}
use Rattle.blocks.specs.declared.settings.Settings.{Settings}
use Rattle.laws.proofs.Lists.Elements.{get-more}
use Rattle.laws.proofs.Lists.Picks.{filtered-pick, pick-any, pick-filtered}
use Rattle.laws.proofs.Primary.Moves.{IsKeptByMoves, following-from, keeps-run, kept-by-releases}
use Rattle.laws.proofs.Primary.Writes.{keeps-outcome}
use Rattle.model.specs.Acknowledgements.{begun_with}
use Rattle.model.specs.Contents.{Write, covers, extent_of, is_range}
use Rattle.model.specs.Headline.{is_covered, is_marked}
use Rattle.model.specs.Primary.{Accepted, Failed, LocalOutcome, OnDisk, PrimaryHistory, is_established, is_released, is_waiting, primary_connection}
use Rattle.model.specs.Primary.{primary_opening}
use Rattle.model.specs.Primary.{unreleased}
use Rattle.model.specs.PrimarySteps.{accepted_at, faulted, faulted_by, set_outcome, submission, submitted, submitted_with}
use Rattle.model.specs.Stream.{within}
use Rattle.primary_protocol.specs.Steps.{IsReached}

-- the write has blocks of one extent alone
abbrev LiesInOne : Write → Type 0
LiesInOne write = (block : ℕ) → covers write block ≡ true → extent_of block ≡ extent_of write.first

abbrev HasExtents : PrimaryHistory → Type 0
HasExtents h = (i : ℕ) (a : Accepted) → slice_get h.writes i ≡ Some a → LiesInOne a.write

in-one : (settings : Settings) (write : Write) → is_range settings write.first (length write.contents) ≡ true → LiesInOne write
in-one settings write range block has =
    let count : ℕ = length write.contents in
    let parts = and_parts ((nat_lt 0 count && nat_le count 32) && nat_le (write.first + count) settings.blocks)
    (extent_of write.first == extent_of (write.first + count - 1)) range in
    let same : extent_of write.first ≡ extent_of (write.first + count - 1) = eqb-true (extent_of write.first) (extent_of (write.first + count - 1)) parts.1 in
    let bounds = and_parts (nat_le write.first block) (nat_lt block (write.first + count)) has in
    let low : write.first ≤ block = leb-true write.first block bounds.0 in
    let high : block < write.first + count = ltb-true block (write.first + count) bounds.1 in
    omega arith

added-one : (writes : List Accepted) (added : Accepted) → LiesInOne added.write → ((i : ℕ) (a : Accepted) → slice_get writes i ≡ Some a → LiesInOne a.write)
    → (i : ℕ) (a : Accepted) → slice_get (writes ++ added ∷ []) i ≡ Some a → LiesInOne a.write
added-one writes added one each i a at = elim (get-more writes added i a at) [
  | inl old ↦ each i a old
  | inr new ↦ subst (λ (x : Accepted). LiesInOne x.write) (sym new.1) one
]

submits : (h : PrimaryHistory) (first : ℕ) (contents : List (List ℕ)) → is_range h.settings first (length contents) ≡ true → HasExtents h
    → HasExtents (submitted h first contents)
submits h first contents range each = go (is_established (primary_connection h))
  where
    go : (b : Bool) → HasExtents (submitted_with b h first contents)
    go true = added-one h.writes _ (in-one h.settings (submission h first contents) range) each
    go false = added-one h.writes _ (in-one h.settings (submission h first contents) range) each

turned : (number : ℕ) (outcome : LocalOutcome) (writes : List Accepted) → is_waiting outcome ≡ false
    → ((i : ℕ) (a : Accepted) → slice_get writes i ≡ Some a → LiesInOne a.write)
    → (i : ℕ) (a : Accepted) → slice_get (map (set_outcome number outcome) writes) i ≡ Some a → LiesInOne a.write
turned number outcome writes done each i a at =
    let was = (keeps-outcome number outcome writes done).back i a at in
    subst LiesInOne (sym was.2) (each i was.0 was.1)

faults : (h : PrimaryHistory) (number : ℕ) (offsets : List ℕ) → HasExtents h → HasExtents (faulted number offsets h)
faults h number offsets each = go (accepted_at h number)
  where
    go : (v : Option Accepted) → HasExtents (faulted_by v number offsets h)
    go None = each
    go (Some accepted) = turned number (Failed (within (length accepted.write.contents) offsets)) h.writes refl each

begins : (h : PrimaryHistory) (decided : Decision) → HasExtents h → HasExtents (begun_with decided h)
begins h NoSync each = each
begins h BitmapSync each = each
begins h FullSync each = each

extents-kept : IsKeptByMoves HasExtents HasExtents
extents-kept = record {
  following = following-from HasExtents HasExtents HasExtents (λ h each. each) (λ g over each. each) (λ g on each. each) (λ g over each. each) (λ g each. each);
  opens = λ h sync loss closed fresh each. each;
  submits = λ h first contents may each. submits h first contents may.range each;
  writes = λ h number waits each. turned number OnDisk h.writes refl each;
  faults = λ h number offsets waits each. faults h number offsets each;
  sends = λ h standing due each. each;
  greets = λ h frame standing new met each. each;
  begins = λ h peer decided standing new late at fresh each. begins _ decided each;
  receives = λ h ack standing begun may each. each;
  applies = λ h ack standing begun may each. each;
  clears = λ h ack standing begun may each. each;
  confirms = λ h number size standing begun turn each. each;
  refuses = λ h frame peer standing each. each;
  resyncs = λ h block read own runs alone at each. each;
  closes = λ h standing each. each;
  receipts = λ h number each. each;
}

has-extents : (h : PrimaryHistory) → IsReached h → HasExtents h
has-extents h r = subst HasExtents r.is (keeps-run HasExtents HasExtents extents-kept (kept-by-releases HasExtents HasExtents (λ g marks each. each)) r.events
    (primary_opening r.settings r.disk r.tuple r.marks) (λ i a at. absurd (cc)))

-- no write of the extent is unreleased
pub covered-marked : (h : PrimaryHistory) (extent block : ℕ) → IsReached h → length (filter (λ (a : Accepted). extent_of a.write.first == extent) (unreleased h)) ≡ 0
    → extent_of block ≡ extent → is_covered h block ≡ true → is_marked h block ≡ true
covered-marked h extent block r none here covered =
    elim (or_cases (is_marked h block) (list_any (λ (a : Accepted). covers a.write block) (unreleased h)) covered) [
      | inl marked ↦ marked
      | inr under ↦
          let found = pick-any (λ (a : Accepted). covers a.write block) (unreleased h) under in
          let a : Accepted = found.1 in
          let stands = pick-filtered (λ (x : Accepted). not (is_released h x)) h.writes found.0 a found.2 in
          let same : extent_of block ≡ extent_of a.write.first = has-extents h r stands.0 a stands.1 block found.3 in
          let there = filtered-pick (λ (x : Accepted). extent_of x.write.first == extent) (unreleased h) found.0 a found.2
          (eq-eqb (extent_of a.write.first) extent (sym same ∙ here)) in
          let within = slice_get_within (filter (λ (x : Accepted). extent_of x.write.first == extent) (unreleased h)) there.0 a there.1 in
          absurd (omega (arith, within, none))
    ]
