-- What a release clears: which write clears a block, and that such a write clears it.
use Rattle.std.proofs.Common.{ℕ, ◌≡◌, ◌<◌, Bool, true, false, not, ◌&&◌, Some, slice_get, ap, ◌==◌, nat_lt}
use Rattle.std.specs.List.{list_any}
use Rattle.std.proofs.lemmas.Bool.{both_ways, and_parts, and_from, not-true, lt-ltb, ltb-true, false_from_ne_true}
use Rattle.model.specs.Contents.{covers}
use Rattle.model.specs.Marks.{is_releasing, is_under_later, is_cleared}
use Rattle.model.specs.Primary.{Accepted, PrimaryHistory, is_on_disk, is_alone, is_released, unreleased}
use Rattle.laws.proofs.Lists.Picks.{pick-any, any-pick}

-- A write that clears a block: it has the block, it was in the transfer log, and is released, on the local disk, with its
-- connection; and no later one that is in the transfer log still has the block.
pub record Clears (before h : PrimaryHistory) (block : ℕ) : Type 0 where
  pub index : ℕ
  pub accepted : Accepted
  pub at : slice_get h.writes index ≡ Some accepted
  pub covered : covers accepted.write block ≡ true
  pub was : list_any (λ (was : Accepted). was.write.number == accepted.write.number) (unreleased before) ≡ true
  pub released : is_released h accepted ≡ true
  pub done : is_on_disk accepted.outcome ≡ true
  pub linked : is_alone h accepted ≡ false
  pub last : (j : ℕ) (later : Accepted) → slice_get (unreleased h) j ≡ Some later → accepted.write.number < later.write.number
      → covers later.write block ≡ false

-- the rule, for one write
abbrev clears : PrimaryHistory → PrimaryHistory → ℕ → Accepted → Bool
clears before h block accepted = (is_releasing before h accepted && covers accepted.write block) && not (is_under_later h accepted.write.number block)

-- a later write that has the block
abbrev is_over : ℕ → ℕ → Accepted → Bool
is_over number block later = nat_lt number later.write.number && covers later.write block

-- where a block is cleared, a write clears it
pub cleared-by : (before h : PrimaryHistory) (block : ℕ) → is_cleared before h block ≡ true → Clears before h block
cleared-by before h block cleared =
    let found = pick-any (clears before h block) h.writes cleared in
    let a : Accepted = found.1 in
    let outer = and_parts (is_releasing before h a && covers a.write block) (not (is_under_later h a.write.number block)) found.3 in
    let inner = and_parts (is_releasing before h a) (covers a.write block) outer.0 in
    let was : Bool = list_any (λ (was : Accepted). was.write.number == a.write.number) (unreleased before) in
    let both = and_parts (was && is_released h a) (is_on_disk a.outcome && not (is_alone h a)) inner.0 in
    let moved = and_parts was (is_released h a) both.0 in
    let kept = and_parts (is_on_disk a.outcome) (not (is_alone h a)) both.1 in
    record {
      index = found.0;
      accepted = found.1;
      at = found.2;
      covered = inner.1;
      was = moved.0;
      released = moved.1;
      done = kept.0;
      linked = not-true (is_alone h a) kept.1;
      last = λ j later at more. false_from_ne_true (covers later.write block) (λ its.
          both_ways (is_under_later h a.write.number block) (not-true (is_under_later h a.write.number block) outer.1)
          (any-pick (is_over a.write.number block) (unreleased h) j later at (and_from (nat_lt a.write.number later.write.number) (covers later.write block)
          (lt-ltb a.write.number later.write.number more) its)));
    }

-- where a write clears a block, it is cleared
pub clears-it : (before h : PrimaryHistory) (block : ℕ) → Clears before h block → is_cleared before h block ≡ true
clears-it before h block c =
    any-pick (clears before h block) h.writes c.index c.accepted c.at
    (and_from _ _ (and_from (is_releasing before h c.accepted) (covers c.accepted.write block) (and_from _ _ (and_from _ _ c.was c.released)
    (and_from _ _ c.done (ap not c.linked))) c.covered)
    (ap not (false_from_ne_true (is_under_later h c.accepted.write.number block) (λ under.
    let later = pick-any (is_over c.accepted.write.number block) (unreleased h) under in
    let parts = and_parts (nat_lt c.accepted.write.number later.1.write.number) (covers later.1.write block) later.3 in
    both_ways (covers later.1.write block) (c.last later.0 later.1 later.2 (ltb-true c.accepted.write.number later.1.write.number parts.0)) parts.1))))
