use Rattle.std.proofs.Common.{ℕ, zero, suc, ◌≡◌, ◌≤◌, ◌/◌, ◌+◌, ◌∙◌, false, sym, arith, refl}
use Rattle.std.specs.Prelude.{replicate, slice_index}
use Rattle.std.proofs.lemmas.List.{length-replicate}
use Rattle.std.proofs.Math.Nat.{zero-div}
use Rattle.blocks.specs.declared.block.TheConstants.{MAX_DEVICE_BLOCKS}
use Rattle.bitmap.specs.Marks.{bit_of}
use Rattle.bitmap.specs.Fields.{AreCounted, bits_from}
use Rattle.bitmap.proofs.Lists.{count-replicate, count_in-replicate}
use Rattle.bitmap.proofs.marks.Bitmap.unmarked.Goals as goal

-- a word of zeros, and past the last
zero_word : (n i : ℕ) → slice_index (replicate n 0) i ≡ 0
zero_word zero i = refl
zero_word (suc n) zero = refl
zero_word (suc n) (suc i) = zero_word n i

zero_bit : (n b : ℕ) → bit_of (replicate n 0) b ≡ false
zero_bit n b = rw (zero_word n (b / 64), zero-div) refl

no_marks : (from n m : ℕ) → bits_from from n (replicate m 0) ≡ replicate n false
no_marks from zero m = refl
no_marks from (suc n) m = rw (zero_bit m from, no_marks (suc from) n m) refl

no_counts : (n words counts : ℕ) → n ≤ MAX_DEVICE_BLOCKS → words ≡ (n + 63) / 64 → counts ≡ (n + 1023) / 1024 → AreCounted n (replicate words 0) (replicate counts 0) 0 0
no_counts n words counts small enough_words enough_counts = record {
  small = small;
  enough_words = length-replicate words 0 ∙ enough_words;
  rest = λ b past. zero_bit words b;
  enough_counts = length-replicate counts 0 ∙ enough_counts;
  counted = λ extent. rw (no_marks 0 n words, zero_word counts extent) (sym (count_in-replicate n extent));
  totalled = rw (no_marks 0 n words) (sym (count-replicate n));
  passed = λ b below. zero_bit words b;
}

pub invariant_of-result : goal.invariant_of-result
invariant_of-result c =
    let words : c.in_ok-words.words.items ≡ replicate c.div_ceil.result 0 = c.in_ok-words.ensures.items_if_clones_equal (λ y e. e) in
    let counts : c.in_ok-counts.counts.items ≡ replicate c.div_ceil-2.result 0 = c.in_ok-counts.ensures.items_if_clones_equal (λ y e. e) in
    rw (words, counts) (no_counts c.args.blocks c.div_ceil.result c.div_ceil-2.result c.requires (omega (arith, c.div_ceil.ensures))
    (omega (arith, c.div_ceil-2.ensures)))

pub returns-clause-made : goal.returns-clause-made
returns-clause-made c =
    let words : c.in_ok-words.words.items ≡ replicate c.div_ceil.result 0 = c.in_ok-words.ensures.items_if_clones_equal (λ y e. e) in
    rw words (no_marks 0 c.args.blocks c.div_ceil.result)
