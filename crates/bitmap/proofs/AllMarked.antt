-- The words and counts where every block is marked.
use Rattle.std.proofs.Common.{ℕ, zero, suc, ◌≡◌, ◌+◌, ◌-◌, ◌*◌, ◌/◌, ◌%◌, ◌^◌, ◌<◌, ◌≤◌, ◌⊎◌, inl, inr, true, false, List, length, take}
use Rattle.std.proofs.Common.{refl, sym, ◌∙◌, ap, arith, nat_lt}
use Rattle.std.specs.Prelude.{replicate, slice_set, slice_index}
use Rattle.std.proofs.Math.Nat.{zero-div}
use Rattle.std.proofs.lemmas.Bool.{cases_eq, cases_lt, lt-ltb, le-ltb}
use Rattle.std.proofs.lemmas.Nat.Bits.{bit_at_ones, bit_at_ones_above}
use Rattle.std.proofs.lemmas.List.{get_or_past, get_or-replicate, length-replicate, drop-replicate, take-replicate, get_or-set_same, get_or-set_other}
use Rattle.bitmap.specs.Marks.{bit_of, count, count_in}
use Rattle.bitmap.specs.Fields.{marks_of, AreCounted}
use Rattle.bitmap.proofs.Lists.{same-marks, marked-replicate}
use Rattle.bitmap.proofs.Bits.{length-bits, marked-bits}

-- Words.
bit-none : (words : List ℕ) (b : ℕ) → slice_index words (b / 64) ≡ 0 → bit_of words b ≡ false
bit-none words b none = rw (none, zero-div) refl

bit-ones : (words : List ℕ) (b k : ℕ) → slice_index words (b / 64) ≡ 2 ^ k - 1 → b % 64 < k → bit_of words b ≡ true
bit-ones words b k word within = rw (word, bit_at_ones k (b % 64) within) refl

bit-ones_above : (words : List ℕ) (b k : ℕ) → slice_index words (b / 64) ≡ 2 ^ k - 1 → k ≤ b % 64 → bit_of words b ≡ false
bit-ones_above words b k word past = rw (word, bit_at_ones_above k (b % 64) past) refl

-- the whole words, which have ones
pub whole-bits : (size blocks : ℕ) → size ≡ (blocks + 63) / 64 → blocks % 64 ≡ 0 → (b : ℕ) → bit_of (replicate size 18446744073709551615) b ≡ nat_lt b blocks
whole-bits size blocks long whole b = go (cases_lt b blocks)
  where
    go : (b < blocks) ⊎ (blocks ≤ b) → bit_of (replicate size 18446744073709551615) b ≡ nat_lt b blocks
    go (inl within) =
        bit-ones (replicate size 18446744073709551615) b 64 (get_or-replicate {A = ℕ} size (b / 64) 18446744073709551615 0 (omega arith)) (omega arith)
        ∙ sym (lt-ltb b blocks within)
    go (inr past) =
        bit-none (replicate size 18446744073709551615) b
        (get_or_past {X = ℕ} (replicate size 18446744073709551615) (b / 64) 0 (omega (arith, length-replicate {A = ℕ} size 18446744073709551615)))
        ∙ sym (le-ltb b blocks past)

-- and a last word in part
pub part-bits : (size blocks mask : ℕ) → size ≡ (blocks + 63) / 64 → 0 < blocks % 64 → mask ≡ 2 ^ (blocks % 64) - 1
    → (b : ℕ) → bit_of (slice_set (replicate size 18446744073709551615) (blocks / 64) mask) b ≡ nat_lt b blocks
part-bits size blocks mask long part is b = go (cases_eq (b / 64) (blocks / 64)) (cases_lt b blocks)
  where
    last : b / 64 ≡ blocks / 64 → slice_index (slice_set (replicate size 18446744073709551615) (blocks / 64) mask) (b / 64) ≡ 2 ^ (blocks % 64) - 1
    last same =
        let inside : blocks / 64 < length (replicate size 18446744073709551615) = omega (arith, length-replicate {A = ℕ} size 18446744073709551615) in
        ap (slice_index (slice_set (replicate size 18446744073709551615) (blocks / 64) mask)) same
        ∙ get_or-set_same (replicate size 18446744073709551615) (blocks / 64) mask 0 inside ∙ is

    before : (b / 64 ≡ blocks / 64 → ⊥) → slice_index (slice_set (replicate size 18446744073709551615) (blocks / 64) mask) (b / 64)
        ≡ slice_index (replicate size 18446744073709551615) (b / 64)
    before other = get_or-set_other (replicate size 18446744073709551615) (blocks / 64) (b / 64) mask 0 other

    go : (b / 64 ≡ blocks / 64) ⊎ (b / 64 ≡ blocks / 64 → ⊥) → (b < blocks) ⊎ (blocks ≤ b)
        → bit_of (slice_set (replicate size 18446744073709551615) (blocks / 64) mask) b ≡ nat_lt b blocks
    go (inl same) (inl within) =
        bit-ones (slice_set (replicate size 18446744073709551615) (blocks / 64) mask) b (blocks % 64) (last same) (omega arith) ∙ sym (lt-ltb b blocks within)
    go (inl same) (inr past) =
        bit-ones_above (slice_set (replicate size 18446744073709551615) (blocks / 64) mask) b (blocks % 64) (last same) (omega arith)
        ∙ sym (le-ltb b blocks past)
    go (inr other) (inl within) =
        bit-ones (slice_set (replicate size 18446744073709551615) (blocks / 64) mask) b 64
        (before other ∙ get_or-replicate {A = ℕ} size (b / 64) 18446744073709551615 0 (omega arith)) (omega arith) ∙ sym (lt-ltb b blocks within)
    go (inr other) (inr past) =
        bit-none (slice_set (replicate size 18446744073709551615) (blocks / 64) mask) b
        (before other
        ∙ get_or_past {X = ℕ} (replicate size 18446744073709551615) (b / 64) 0 (omega (arith, length-replicate {A = ℕ} size 18446744073709551615)))
        ∙ sym (le-ltb b blocks past)

-- Counts.
count-full : (n : ℕ) → count (replicate n true) ≡ n
count-full zero = refl
count-full (suc n) = omega (arith, count-full n)

count-front : (m n : ℕ) → n ≤ m → count (take m (replicate n true)) ≡ n
count-front zero zero within = refl
count-front (suc m) zero within = refl
count-front zero (suc n) within = absurd (omega arith)
count-front (suc m) (suc n) within = omega (arith, count-front m n (omega arith))

whole-extent : (blocks extent : ℕ) → 1024 * extent + 1024 ≤ blocks → count_in (replicate blocks true) extent ≡ 1024
whole-extent blocks extent within =
    let enough : 1024 ≤ blocks - 1024 * extent = omega arith in
    rw (drop-replicate (1024 * extent) blocks true, take-replicate 1024 (blocks - 1024 * extent) true enough) (count-full 1024)

part-extent : (blocks extent : ℕ) → blocks ≤ 1024 * extent + 1024 → count_in (replicate blocks true) extent ≡ blocks - 1024 * extent
part-extent blocks extent short =
    rw (drop-replicate (1024 * extent) blocks true) (count-front 1024 (blocks - 1024 * extent) (omega arith))

pub whole-counts : (size blocks : ℕ) → size ≡ (blocks + 1023) / 1024 → blocks % 1024 ≡ 0
    → (extent : ℕ) → slice_index (replicate size 1024) extent ≡ count_in (replicate blocks true) extent
whole-counts size blocks long whole extent = go (cases_lt extent size)
  where
    go : (extent < size) ⊎ (size ≤ extent) → slice_index (replicate size 1024) extent ≡ count_in (replicate blocks true) extent
    go (inl within) = get_or-replicate {A = ℕ} size extent 1024 0 within ∙ sym (whole-extent blocks extent (omega arith))
    go (inr past) =
        let none = get_or_past {X = ℕ} (replicate size 1024) extent 0 (omega (arith, length-replicate {A = ℕ} size 1024)) in
        omega (arith, none, part-extent blocks extent (omega arith))

pub part-counts : (size blocks rest : ℕ) → size ≡ (blocks + 1023) / 1024 → 0 < blocks % 1024 → rest ≡ blocks % 1024
    → (extent : ℕ) → slice_index (slice_set (replicate size 1024) (blocks / 1024) rest) extent ≡ count_in (replicate blocks true) extent
part-counts size blocks rest long part is extent = go (cases_eq extent (blocks / 1024)) (cases_lt extent size)
  where
    before : (extent ≡ blocks / 1024 → ⊥) → slice_index (slice_set (replicate size 1024) (blocks / 1024) rest) extent ≡ slice_index (replicate size 1024) extent
    before other = get_or-set_other (replicate size 1024) (blocks / 1024) extent rest 0 other

    go : (extent ≡ blocks / 1024) ⊎ (extent ≡ blocks / 1024 → ⊥) → (extent < size) ⊎ (size ≤ extent)
        → slice_index (slice_set (replicate size 1024) (blocks / 1024) rest) extent ≡ count_in (replicate blocks true) extent
    go (inl same) place =
        let inside : blocks / 1024 < length (replicate size 1024) = omega (arith, length-replicate {A = ℕ} size 1024) in
        let here = get_or-set_same (replicate size 1024) (blocks / 1024) rest 0 inside in
        rw same (omega (arith, here, part-extent blocks (blocks / 1024) (omega arith)))
    go (inr other) (inl within) =
        before other ∙ get_or-replicate {A = ℕ} size extent 1024 0 within ∙ sym (whole-extent blocks extent (omega arith))
    go (inr other) (inr past) =
        let none = get_or_past {X = ℕ} (replicate size 1024) extent 0 (omega (arith, length-replicate {A = ℕ} size 1024)) in
        omega (arith, before other, none, part-extent blocks extent (omega arith))

-- The marks, and what a bitmap of them keeps.
pub full-marks : (blocks : ℕ) (words : List ℕ) → ((b : ℕ) → bit_of words b ≡ nat_lt b blocks) → marks_of blocks words ≡ replicate blocks true
full-marks blocks words bits =
    same-marks (marks_of blocks words) (replicate blocks true) (length-bits 0 blocks words ∙ sym (length-replicate blocks true))
    (λ b h. let within : b < blocks = omega (arith, length-bits 0 blocks words) in
    marked-bits blocks words b within ∙ bits b ∙ lt-ltb b blocks within ∙ sym (marked-replicate blocks true b within))

pub full-counted : (blocks : ℕ) (words counts words_before counts_before : List ℕ) (total cursor : ℕ) → AreCounted blocks words_before counts_before total cursor
    → length words ≡ length words_before → length counts ≡ length counts_before
    → ((b : ℕ) → bit_of words b ≡ nat_lt b blocks)
    → ((extent : ℕ) → slice_index counts extent ≡ count_in (replicate blocks true) extent)
    → AreCounted blocks words counts blocks 0
full-counted blocks words counts words_before counts_before total cursor is same_words same_counts bits counted =
    let marks = full-marks blocks words bits in
    record {
      small = is.small;
      enough_words = same_words ∙ is.enough_words;
      rest = λ b past. bits b ∙ le-ltb b blocks past;
      enough_counts = same_counts ∙ is.enough_counts;
      counted = λ extent. rw marks (counted extent);
      totalled = rw marks (sym (count-full blocks));
      passed = λ b below. absurd (omega arith);
    }
