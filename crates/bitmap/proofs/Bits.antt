-- The bits of the words.
use Rattle.std.proofs.Common.{ℕ, zero, suc, ◌≡◌, ◌≢◌, ◌+◌, ◌*◌, ◌/◌, ◌%◌, ◌^◌, ◌<◌, ◌==◌, ◌⊎◌, inl, inr, Bool, true, false, not, List, length, refl, sym, ◌∙◌}
use Rattle.std.proofs.Common.{ap, arith, add-zero}
use Rattle.std.specs.Prelude.{slice_set, slice_index}
use Rattle.std.specs.Int.{bit_at}
use Rattle.std.specs.Int.RustNames.{bit_xor}
use Rattle.std.proofs.lemmas.Bool.{cases_eq}
use Rattle.std.proofs.lemmas.Bool.Decides.{nat_tests}
use Rattle.std.proofs.lemmas.Nat.Bits.{bit_at_xor, bit_at-pow_same, bit_at-pow_other, bit_at-lt}
use Rattle.std.proofs.lemmas.List.{get_or-set_same, get_or-set_other}
use Rattle.std.proofs.Math.Pow.{pow-lt}
use Rattle.std.proofs.Math.Nat.{mod-eq_of_lt}
use Rattle.std.proofs.Math.ListN.{length-set}
use Rattle.bitmap.proofs.Lists.{same-marks, marked-set_same, marked-set_other}
use Rattle.bitmap.specs.Marks.{bit_of, marked}
use Rattle.bitmap.specs.Fields.{bits_from, marks_of}

pub length-bits : (from n : ℕ) (words : List ℕ) → length (bits_from from n words) ≡ n
length-bits from zero words = refl
length-bits from (suc n) words = ap suc (length-bits (suc from) n words)

not_not : (v : Bool) → not (not v) ≡ v
not_not true = refl
not_not false = refl

marked-bits_from : (from n : ℕ) (words : List ℕ) (b : ℕ) → b < n → marked (bits_from from n words) b ≡ bit_of words (from + b)
marked-bits_from from zero words b within = absurd (omega arith)
marked-bits_from from (suc n) words zero within = rw add-zero refl
marked-bits_from from (suc n) words (suc b) within =
    let same : suc from + b ≡ from + suc b = omega arith in
    marked-bits_from (suc from) n words b (omega arith) ∙ ap (bit_of words) same

pub marked-bits : (n : ℕ) (words : List ℕ) (b : ℕ) → b < n → marked (marks_of n words) b ≡ bit_of words b
marked-bits n words b within = let same : 0 + b ≡ b = omega arith in marked-bits_from 0 n words b within ∙ ap (bit_of words) same

-- a bit of a word, turned
pub shifted : (k : ℕ) → k < 64 → 1 * 2 ^ k % 18446744073709551616 ≡ 2 ^ k
shifted k small =
    let below : 2 ^ k < 2 ^ 64 = pow-lt small in
    let one : 1 * 2 ^ k ≡ 2 ^ k = omega arith in
    rw one (mod-eq_of_lt below)

abbrev pub turned : List ℕ → ℕ → List ℕ
turned words b = slice_set words (b / 64) (bit_xor (slice_index words (b / 64)) (1 * 2 ^ (b % 64) % 18446744073709551616))

turned_bit : (w k : ℕ) → k < 64 → (bit_at (bit_xor w (1 * 2 ^ k % 18446744073709551616)) k == 1) ≡ not (bit_at w k == 1)
turned_bit w k small =
    let low = bit_at-lt w k in
    let one = bit_at-pow_same k in
    rw (shifted k small, bit_at_xor w (2 ^ k) k, one) (grind (arith, nat_tests))

kept_bit : (w k i : ℕ) → k < 64 → i ≢ k → (bit_at (bit_xor w (1 * 2 ^ k % 18446744073709551616)) i == 1) ≡ (bit_at w i == 1)
kept_bit w k i small other =
    let low = bit_at-lt w i in
    let none = bit_at-pow_other k i other in
    rw (shifted k small, bit_at_xor w (2 ^ k) i, none) (grind (arith, nat_tests))

pub bit_of-turned : (words : List ℕ) (b : ℕ) → b / 64 < length words → bit_of (turned words b) b ≡ not (bit_of words b)
bit_of-turned words b within =
    rw (get_or-set_same words (b / 64) (bit_xor (slice_index words (b / 64)) (1 * 2 ^ (b % 64) % 18446744073709551616)) 0 within)
    (turned_bit (slice_index words (b / 64)) (b % 64) (omega arith))

pub bit_of-turned_other : (words : List ℕ) (b q : ℕ) → b / 64 < length words → q ≢ b → bit_of (turned words b) q ≡ bit_of words q
bit_of-turned_other words b q within other = go (cases_eq (q / 64) (b / 64))
  where
    go : (q / 64 ≡ b / 64) ⊎ (q / 64 ≡ b / 64 → ⊥) → bit_of (turned words b) q ≡ bit_of words q
    go (inl same) =
        let apart : q % 64 ≢ b % 64 = λ e. other (omega arith) in
        rw (same, get_or-set_same words (b / 64) (bit_xor (slice_index words (b / 64)) (1 * 2 ^ (b % 64) % 18446744073709551616)) 0 within)
        (kept_bit (slice_index words (b / 64)) (b % 64) (q % 64) (omega arith) apart)
    go (inr apart) = rw (get_or-set_other words (b / 64) (q / 64) (bit_xor (slice_index words (b / 64)) (1 * 2 ^ (b % 64) % 18446744073709551616)) 0 apart) refl

-- a turned bit is a mark that was written
pub marks-turned : (n : ℕ) (words : List ℕ) (b : ℕ) (v : Bool) → b < n → b / 64 < length words → marked (marks_of n words) b ≡ not v
    → marks_of n (turned words b) ≡ slice_set (marks_of n words) b v
marks-turned n words b v within inside was =
    same-marks (marks_of n (turned words b)) (slice_set (marks_of n words) b v) (length-bits 0 n (turned words b)
    ∙ sym (length-set (marks_of n words) b v ∙ length-bits 0 n words))
    (λ q h. let in_n : q < n = omega (arith, length-bits 0 n (turned words b)) in marked-bits n (turned words b) q in_n ∙ go q in_n (cases_eq q b))
  where
    go : (q : ℕ) → q < n → (q ≡ b) ⊎ (q ≡ b → ⊥) → bit_of (turned words b) q ≡ marked (slice_set (marks_of n words) b v) q
    go q in_n (inl same) =
        let long = length-bits 0 n words in
        let old : bit_of words b ≡ not v = sym (marked-bits n words b within) ∙ was in
        rw same (bit_of-turned words b inside ∙ rw old (not_not v) ∙ sym (marked-set_same (marks_of n words) b v (omega arith)))
    go q in_n (inr other) = bit_of-turned_other words b q inside other ∙ sym (marked-set_other (marks_of n words) b v q other ∙ marked-bits n words q in_n)
