-- The counts follow the marks.
use Rattle.std.proofs.Common.{ℕ, ◌≡◌, ◌+◌, ◌/◌, ◌<◌, ◌≤◌, ◌⊎◌, inl, inr, Bool, true, false, not, List, length, sym, ◌∙◌, arith}
use Rattle.std.specs.Prelude.{slice_set, slice_index, if◌then◌else◌}
use Rattle.std.proofs.Math.ListN.{length-set}
use Rattle.std.proofs.lemmas.Bool.{cases_eq, cases_lt}
use Rattle.std.proofs.lemmas.List.{get_or-set_same, get_or-set_other}
use Rattle.bitmap.specs.Marks.{bit_of, count_in, marked}
use Rattle.bitmap.specs.Fields.{AreCounted, marks_of}
use Rattle.bitmap.proofs.Lists.{marked-past, count-set, count_in-set, count_in-set_other}
use Rattle.bitmap.proofs.Bits.{turned, length-bits, marked-bits, bit_of-turned_other, marks-turned}

-- a marked block was not passed
pub not-passed : (n : ℕ) (words counts : List ℕ) (total cursor b : ℕ) → AreCounted n words counts total cursor → b < n
    → marked (marks_of n words) b ≡ true → cursor ≤ b
not-passed n words counts total cursor b is within on = go (cases_lt b cursor)
  where
    go : (b < cursor) ⊎ (cursor ≤ b) → cursor ≤ b
    go (inl below) = absurd (let none = is.passed b below in let some = sym (marked-bits n words b within) ∙ on in cc)
    go (inr from) = from

-- the cursor at a block below which none is marked
pub skipped-counted : (n : ℕ) (words counts : List ℕ) (total cursor later : ℕ) → AreCounted n words counts total cursor
    → ((q : ℕ) → q < later → marked (marks_of n words) q ≡ false) → AreCounted n words counts total later
skipped-counted n words counts total cursor later is none = record {
  small = is.small;
  enough_words = is.enough_words;
  rest = is.rest;
  enough_counts = is.enough_counts;
  counted = is.counted;
  totalled = is.totalled;
  passed = λ q below. go q below (cases_lt q n);
}
  where
    go : (q : ℕ) → q < later → (q < n) ⊎ (n ≤ q) → bit_of words q ≡ false
    go q below (inl within) = sym (marked-bits n words q within) ∙ none q below
    go q below (inr past) = is.rest q past

-- no block below the cursor is marked
pub passed-unmarked : (n : ℕ) (words counts : List ℕ) (total cursor : ℕ) → AreCounted n words counts total cursor
    → (q : ℕ) → q < cursor → marked (marks_of n words) q ≡ false
passed-unmarked n words counts total cursor is q below = go (cases_lt q n)
  where
    go : (q < n) ⊎ (n ≤ q) → marked (marks_of n words) q ≡ false
    go (inl within) = marked-bits n words q within ∙ is.passed q below
    go (inr past) = marked-past (marks_of n words) q (omega (arith, length-bits 0 n words))

pub turned-counted : (n : ℕ) (words counts : List ℕ) (total cursor b : ℕ) (v : Bool) (in_extent in_all later : ℕ) → AreCounted n words counts total cursor → b < n
    → marked (marks_of n words) b ≡ not v
    → in_extent + (if v then 0 else 1) ≡ slice_index counts (b / 1024) + (if v then 1 else 0)
    → in_all + (if v then 0 else 1) ≡ total + (if v then 1 else 0)
    → later ≤ cursor → later ≤ b
    → AreCounted n (turned words b) (slice_set counts (b / 1024) in_extent) in_all later
turned-counted n words counts total cursor b v in_extent in_all later is within was extent_is all_is lower before =
    let inside : b / 64 < length words = omega (arith, is.enough_words) in
    let new = marks-turned n words b v within inside was in
    let long : b < length (marks_of n words) = omega (arith, length-bits 0 n words) in
    record {
      small = is.small;
      enough_words = length-set words (b / 64) _ ∙ is.enough_words;
      rest = λ q past. bit_of-turned_other words b q inside (λ e. omega arith) ∙ is.rest q past;
      enough_counts = length-set counts (b / 1024) in_extent ∙ is.enough_counts;
      counted = λ extent. rw new (go extent long (cases_eq extent (b / 1024)));
      totalled = rw new (omega (arith, count-set (marks_of n words) b v long was, is.totalled));
      passed = λ q below. bit_of-turned_other words b q inside (λ e. omega arith) ∙ is.passed q (omega arith);
    }
  where
    go : (extent : ℕ) → b < length (marks_of n words) → (extent ≡ b / 1024) ⊎ (extent ≡ b / 1024 → ⊥)
        → slice_index (slice_set counts (b / 1024) in_extent) extent ≡ count_in (slice_set (marks_of n words) b v) extent
    go extent long (inl same) =
        let there : b / 1024 < length counts = omega (arith, is.enough_counts) in
        rw (same, get_or-set_same counts (b / 1024) in_extent 0 there) (omega (arith, count_in-set (marks_of n words) b v long was, is.counted (b / 1024)))
    go extent long (inr other) = get_or-set_other counts (b / 1024) extent in_extent 0 other ∙ is.counted extent
        ∙ sym (count_in-set_other (marks_of n words) b v extent other)
