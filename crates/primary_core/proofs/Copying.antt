-- A resync's block comes under way.
use Rattle.std.proofs.Common.{ℕ, ◌≡◌, ◌<◌, nat_le, Bool, true, false, not, ◌&&◌, ◌||◌, List, [], ◌∷◌, length, drop, refl, sym, ◌∙◌, ap, Option, Some, None}
use Rattle.std.specs.Prelude.{Result, Ok, Err, is_some, is_none, ok_or, option_map}
use Rattle.std.specs.List.{AllByRecursion}
use Rattle.std.proofs.lemmas.Bool.{lt-ltb, not-false, or_parts}
use Rattle.blocks.specs.Ranges.{below}
use Rattle.blocks.specs.declared.refusal.Refusal.{Refusal}
use Rattle.blocks.specs.declared.refusal.Refusal.TheVariants.{NotConnected, NothingToDo, StreamFull}
use Rattle.bitmap.specs.Marks.{marked}
use Rattle.overlap.specs.Holdings.{Holding, holding, holding_too}
use Rattle.model.specs.Refusals.{first_refusal}
use Rattle.laws.proofs.Lists.Tests.{test-passed}
use Rattle.resync.specs.Next.{is_free, next_block}
use Rattle.resync.proofs.Free.{find-filter, found_below}
use Rattle.primary_protocol.specs.Core.{EndState, PrimaryState}
use Rattle.primary_protocol.specs.Transitions.{resync_tests}
use Rattle.primary_core.specs.Kept.{IsWriter}
use Rattle.resync.specs.declared.under_way.UnderWay.{UnderWay}
use Rattle.primary_core.specs.State.{held_with, way_of}
use Rattle.primary_core.specs.Resyncing.{resync_choice}

-- what is known of the block that is chosen
pub record Chosen (s : PrimaryState) (e : EndState) (block : ℕ) : Type 0 where
  pub resync : e.resync ≡ true
  pub free : is_some e.under_way ≡ false
  pub places : nat_le 4294967288 s.log.epochs.places ≡ false
  pub inside : block < length s.marks

next-inside : (marks : List Bool) (held : List Holding) (block : ℕ) → next_block marks held ≡ Some block → block < length marks
next-inside marks held block is =
    (found_below (λ k. marked marks k && is_free held k) (length marks) block (sym is
    ∙ find-filter (is_free held) (marked marks) (below (length marks)))).within

chosen-at : (v : Option Refusal) (next : Option ℕ) (block : ℕ)
    → (elim v as (λ _. Result ℕ Refusal) [ Some refusal ↦ Err refusal | None ↦ ok_or next NothingToDo ]) ≡ Ok block → (v ≡ None) × (next ≡ Some block)
chosen-at (Some refusal) next block is = absurd (cc)
chosen-at None None block is = absurd (cc)
chosen-at None (Some b) block is = (refl, cc)

pub chosen : (s : PrimaryState) (e : EndState) (block : ℕ) → s.end ≡ Some e → resync_choice false s ≡ Ok block → Chosen s e block
chosen s e block is choice =
    let here : (elim (first_refusal (resync_tests false e s)) as
    (λ _. Result ℕ Refusal) [ Some refusal ↦ Err refusal | None ↦ ok_or (next_block s.marks s.held) NothingToDo ]) ≡ Ok block =
    sym (ap (λ (o : Option EndState). elim o as (λ _. Result ℕ Refusal) [
      | None ↦ Err NotConnected
      | Some x ↦ elim (first_refusal (resync_tests false x s)) as
          (λ _. Result ℕ Refusal) [ Some refusal ↦ Err refusal | None ↦ ok_or (next_block s.marks s.held) NothingToDo ]
    ]) is) ∙ choice in
    let found = chosen-at (first_refusal (resync_tests false e s)) (next_block s.marks s.held) block here in
    let busy = is_some e.under_way || is_none (next_block s.marks s.held) in
    let one = test-passed (not e.resync || busy) NothingToDo (drop 1 (resync_tests false e s)) found.0 in
    let two = test-passed (nat_le 4294967288 s.log.epochs.places) StreamFull (drop 2 (resync_tests false e s)) one.1 in
    let parts = or_parts (not e.resync) busy one.0 in
    record {
      resync = not-false e.resync parts.0;
      free = (or_parts (is_some e.under_way) (is_none (next_block s.marks s.held)) parts.1).0;
      places = two.0;
      inside = next-inside s.marks s.held block found.1;
    }

-- it lies in the device
pub chosen-inside : (s : PrimaryState) (block : ℕ) → resync_choice false s ≡ Ok block → block < length s.marks
chosen-inside s block choice = go s.end refl
  where
    go : (o : Option EndState) → s.end ≡ o → block < length s.marks
    go None at = absurd (let none : Err NotConnected ≡ Ok block = rw at at choice in cc)
    go (Some e) at = (chosen s e block at choice).inside

-- the block's number is the lowest that holds something
pub holding-zero : (accepted block : ℕ) (held : List Holding) → AllByRecursion (IsWriter accepted) held
    → holding_too (holding 0 block 1) held ≡ holding 0 block 1 ∷ held
holding-zero accepted block [] all = refl
holding-zero accepted block (h ∷ held) all = rw (lt-ltb 0 h.number all.0.numbered) refl

-- where no block is under way, the writes alone hold something
pub held-free : (way : Option UnderWay) (held : List Holding) → is_some (option_map way_of way) ≡ false → held_with way held ≡ held
held-free None held free = refl
held-free (Some w) held free = absurd (cc)
