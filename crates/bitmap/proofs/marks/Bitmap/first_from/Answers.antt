use Rattle.std.proofs.Common.{ℕ, ◌≡◌, ◌+◌, ◌*◌, ◌/◌, ◌<◌, ◌≤◌, ◌&&◌, ◌∙◌, ◌⊎◌, inl, inr, nat_le, Some, None, refl, List, Bool, false, true, length, sym, arith}
use Rattle.std.specs.Prelude.{slice_index}
use Rattle.std.proofs.Math.Nat.{zero-div}
use Rattle.std.proofs.lemmas.Bool.{cases_lt, le-leb, lt-leb}
use Rattle.std.proofs.lemmas.List.{get_or_read}
use Rattle.bitmap.specs.Marks.{marked, first_marked}
use Rattle.bitmap.specs.Fields.{marks_of}
use Rattle.bitmap.proofs.Below.{find-below_none, find-below_some}
use Rattle.bitmap.proofs.Lists.{count_in-none, marked-past}
use Rattle.bitmap.proofs.Bits.{length-bits, marked-bits}
use Rattle.bitmap.proofs.Counted.{passed-unmarked}
use Rattle.bitmap.proofs.marks.Bitmap.first_from.Goals as goal

-- no bit of a word that is zero is one
none_in_word : (n : ℕ) (words : List ℕ) (word q : ℕ) → slice_index words word ≡ 0 → q / 64 ≡ word → marked (marks_of n words) q ≡ false
none_in_word n words word q none same = go (cases_lt q n)
  where
    go : (q < n) ⊎ (n ≤ q) → marked (marks_of n words) q ≡ false
    go (inl within) = marked-bits n words q within ∙ rw (same, none, zero-div) refl
    go (inr past) = marked-past (marks_of n words) q (omega (arith, length-bits 0 n words))

-- what is before a block, or in one part of the device with it
up_to : (xs : List Bool) (from block end : ℕ) → ((q : ℕ) → from ≤ q → q < block → marked xs q ≡ false) → ((q : ℕ) → block ≤ q → q < end → marked xs q ≡ false)
    → (q : ℕ) → from ≤ q → q < end → marked xs q ≡ false
up_to xs from block end before after q start stop = go (cases_lt q block)
  where
    go : (q < block) ⊎ (block ≤ q) → marked xs q ≡ false
    go (inl h) = before q start h
    go (inr h) = after q h stop

pub loop-block-init : goal.loop-block-init
loop-block-init c = record {
  from = omega (arith, c.max-block.ensures);
  none = λ q start stop. rw (← c.self.view_is) (passed-unmarked c.self.inside.blocks c.self.inside.words.items c.self.inside.counts.items
      c.self.inside.total c.self.inside.cursor c.self.invariant q (omega (arith, c.max-block.ensures)));
}

pub loop-block-preserved-then-index-eq0 : goal.loop-block-preserved-then-index-eq0
loop-block-preserved-then-index-eq0 c =
    let there : c.loop-block.block / 1024 < length c.self.inside.counts.items = omega (arith, c.self.invariant.enough_counts) in
    let read = get_or_read c.self.inside.counts.items _ _ there c.index.ensures 0 in
    record {
      from = omega (arith, c.loop-block.invariant.from);
      none = up_to c.args.self.now c.args.from.0 c.loop-block.block ((c.loop-block.block / 1024 + 1) * 1024) c.loop-block.invariant.none
          (λ q start stop. rw (← c.self.view_is) (count_in-none (marks_of c.self.inside.blocks c.self.inside.words.items) (c.loop-block.block / 1024) q
          (omega (arith, c.self.invariant.counted (c.loop-block.block / 1024))) (omega arith)));
    }

pub loop-block-preserved-then-index-eq0-2 : goal.loop-block-preserved-then-index-eq0-2
loop-block-preserved-then-index-eq0-2 c =
    let there : c.loop-block.block / 64 < length c.self.inside.words.items = omega (arith, c.self.invariant.enough_words) in
    let read = get_or_read c.self.inside.words.items _ _ there c.index-else-index-eq0.ensures 0 in
    record {
      from = omega (arith, c.loop-block.invariant.from);
      none = up_to c.args.self.now c.args.from.0 c.loop-block.block ((c.loop-block.block / 64 + 1) * 64) c.loop-block.invariant.none
          (λ q start stop. rw (← c.self.view_is) (none_in_word c.self.inside.blocks c.self.inside.words.items (c.loop-block.block / 64) q (omega arith)
          (omega arith)));
    }

pub loop-block-preserved : goal.loop-block-preserved
loop-block-preserved c = record {
  from = omega (arith, c.loop-block.invariant.from);
  none = up_to c.args.self.now c.args.from.0 c.loop-block.block (c.loop-block.block + 1) c.loop-block.invariant.none
      (λ q start stop. let same : q ≡ c.loop-block.block = omega arith in rw same (sym c.is_marked.ensures ∙ c.if-is_marked.false));
}

-- the first of those from a block on
first_is : (xs : List Bool) (from block : ℕ) → from ≤ block → block < length xs → marked xs block ≡ true
    → ((q : ℕ) → from ≤ q → q < block → marked xs q ≡ false) → Some block ≡ first_marked from xs
first_is xs from block start within is none =
    let reached : nat_le from block ≡ true = le-leb from block start in
    sym (find-below_some (λ b. nat_le from b && marked xs b) (length xs) block within (rw (reached, is) refl) (λ q h. go q h (cases_lt q from)))
  where
    go : (q : ℕ) → q < block → (q < from) ⊎ (from ≤ q) → (nat_le from q && marked xs q) ≡ false
    go q h (inl before) = let short : nat_le from q ≡ false = lt-leb from q before in rw short refl
    go q h (inr after) = let reach : nat_le from q ≡ true = le-leb from q after in rw (reach, none q after h) refl

none_is : (xs : List Bool) (from block : ℕ) → length xs ≤ block → ((q : ℕ) → from ≤ q → q < block → marked xs q ≡ false) → None ≡ first_marked from xs
none_is xs from block all none = sym (find-below_none (λ b. nat_le from b && marked xs b) (length xs) (λ q h. go q h (cases_lt q from)))
  where
    go : (q : ℕ) → q < length xs → (q < from) ⊎ (from ≤ q) → (nat_le from q && marked xs q) ≡ false
    go q h (inl before) = let short : nat_le from q ≡ false = lt-leb from q before in rw short refl
    go q h (inr after) = let reach : nat_le from q ≡ true = le-leb from q after in rw (reach, none q after (omega arith)) refl

pub returns-then-is_marked : goal.returns-then-is_marked
returns-then-is_marked c =
    let long : length c.args.self.now ≡ c.self.inside.blocks = rw (← c.self.view_is) (length-bits 0 c.self.inside.blocks c.self.inside.words.items) in
    first_is c.args.self.now c.args.from.0 c.loop-block.block c.loop-block.invariant.from (omega arith) (sym c.is_marked.ensures
    ∙ c.if-is_marked.true) c.loop-block.invariant.none

pub returns : goal.returns
returns c =
    let long : length c.args.self.now ≡ c.self.inside.blocks = rw (← c.self.view_is) (length-bits 0 c.self.inside.blocks c.self.inside.words.items) in
    none_is c.args.self.now c.args.from.0 c.loop-block.block (omega arith) c.loop-block.invariant.none
