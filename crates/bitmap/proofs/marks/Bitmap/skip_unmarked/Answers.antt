use Rattle.std.proofs.Common.{ℕ, ◌≡◌, ◌<◌, ◌≤◌, ◌&&◌, ◌⊎◌, inl, inr, nat_le, Some, None, Bool, true, false, List, length, sym, arith}
use Rattle.std.proofs.lemmas.Bool.{cases_lt, le-leb}
use Rattle.bitmap.specs.Marks.{marked, first_marked}
use Rattle.bitmap.proofs.Below.{find-below_all, find-below_before}
use Rattle.bitmap.proofs.Bits.{length-bits}
use Rattle.bitmap.proofs.Counted.{passed-unmarked, skipped-counted}
use Rattle.bitmap.proofs.marks.Bitmap.skip_unmarked.Goals.{in-Some, in-None}
use Rattle.bitmap.proofs.marks.Bitmap.skip_unmarked.Goals as goal

-- a block that is not both at or past `from` and marked, where none before `from` is
not_here : (xs : List Bool) (from q : ℕ) → ((b : ℕ) → b < from → marked xs b ≡ false) → (nat_le from q && marked xs q) ≡ false → marked xs q ≡ false
not_here xs from q before is = go (cases_lt q from)
  where
    go : (q < from) ⊎ (from ≤ q) → marked xs q ≡ false
    go (inl below) = before q below
    go (inr past) = let reached : nat_le from q ≡ true = le-leb from q past in rw reached at is

below_first : (xs : List Bool) (from block : ℕ) → ((b : ℕ) → b < from → marked xs b ≡ false) → Some block ≡ first_marked from xs
    → (q : ℕ) → q < block → marked xs q ≡ false
below_first xs from block before is q below = not_here xs from q before (find-below_before (λ b. nat_le from b && marked xs b) (length xs) block (sym is) q below)

none_marked : (xs : List Bool) (from : ℕ) → ((b : ℕ) → b < from → marked xs b ≡ false) → None ≡ first_marked from xs
    → (q : ℕ) → q < length xs → marked xs q ≡ false
none_marked xs from before is q within = not_here xs from q before (find-below_all (λ b. nat_le from b && marked xs b) (length xs) (sym is) q within)

pub invariant_of-self : goal.invariant_of-self
invariant_of-self c =
    let old = c.self.inside in
    let before : (b : ℕ) → b < old.cursor → marked c.args.self.now b ≡ false = λ b h. rw (← c.self.view_is) (passed-unmarked old.blocks
    old.words.items old.counts.items old.total old.cursor c.self.invariant b h) in
    let long : old.blocks ≡ length c.args.self.now = rw (← c.self.view_is) (sym (length-bits 0 old.blocks old.words.items)) in
    elim c.match-first_from.branch [
      | in-Some w ↦ rw w.self-is (skipped-counted old.blocks old.words.items old.counts.items old.total old.cursor _ c.self.invariant
          (λ q h. rw c.self.view_is (below_first c.args.self.now old.cursor _ before w.in-Some.ensures q h)))
      | in-None w ↦ rw w.self-is (skipped-counted old.blocks old.words.items old.counts.items old.total old.cursor old.blocks c.self.invariant
          (λ q h. rw c.self.view_is (none_marked c.args.self.now old.cursor before w.in-None.ensures q (omega arith))))
    ]
