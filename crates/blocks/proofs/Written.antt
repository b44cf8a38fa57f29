-- What a block of a disk holds after blocks were written to it.
use Rattle.std.proofs.Common.{ℕ, zero, suc, ◌≡◌, ◌+◌, ◌-◌, ◌<◌, ◌≤◌, List, [], ◌∷◌, ◌++◌, length, drop, slice_get, refl, sym, ◌∙◌, ap, arith}
use Rattle.blocks.specs.Contents.{overwritten}

-- What a block holds after blocks were written from a place on: one of them, or what it held.
pub written-inside : (device written : List (List ℕ)) (first block : ℕ) → first ≤ length device → first ≤ block → block < first + length written
    → slice_get (overwritten device first written) block ≡ slice_get written (block - first)
written-inside device written zero block fits from less = let same : block - 0 ≡ block = omega arith in front written (drop (0 + length written) device) block
    (omega arith) ∙ ap (slice_get written) (sym same)
  where
    front : (xs ys : List (List ℕ)) (n : ℕ) → n < length xs → slice_get (xs ++ ys) n ≡ slice_get xs n
    front [] ys n less = absurd (omega arith)
    front (x ∷ xs) ys zero less = refl
    front (x ∷ xs) ys (suc n) less = front xs ys n (omega arith)
written-inside [] written (suc first) block fits from less = absurd (omega arith)
written-inside (d ∷ device) written (suc first) zero fits from less = absurd (omega arith)
written-inside (d ∷ device) written (suc first) (suc block) fits from less =
    let next : suc first + length written ≡ suc (first + length written) = omega arith in
    let same : suc block - suc first ≡ block - first = omega arith in
    rw (next, same) (written-inside device written first block (omega arith) (omega arith) (omega arith))

pub written-before : (device written : List (List ℕ)) (first block : ℕ) → first ≤ length device → block < first
    → slice_get (overwritten device first written) block ≡ slice_get device block
written-before device written zero block fits less = absurd (omega arith)
written-before [] written (suc first) block fits less = absurd (omega arith)
written-before (d ∷ device) written (suc first) zero fits less = refl
written-before (d ∷ device) written (suc first) (suc block) fits less =
    let next : suc first + length written ≡ suc (first + length written) = omega arith in
    rw next (written-before device written first block (omega arith) (omega arith))

pub written-after : (device written : List (List ℕ)) (first block : ℕ) → first ≤ length device → first + length written ≤ block
    → slice_get (overwritten device first written) block ≡ slice_get device block
written-after device written zero block fits past = let none : 0 + length written ≡ length written =
    omega arith in rw none (behind written device block (omega arith))
  where
    nothing : (n : ℕ) → drop {A = List ℕ} n [] ≡ []
    nothing zero = refl
    nothing (suc n) = refl

    behind : (xs ys : List (List ℕ)) (n : ℕ) → length xs ≤ n → slice_get (xs ++ drop (length xs) ys) n ≡ slice_get ys n
    behind [] ys n past = refl
    behind (x ∷ xs) ys zero past = absurd (omega arith)
    behind (x ∷ xs) [] (suc n) past = ap (λ (l : List (List ℕ)). slice_get (xs ++ l) n) (sym (nothing (length xs))) ∙ behind xs [] n (omega arith)
    behind (x ∷ xs) (y ∷ ys) (suc n) past = behind xs ys n (omega arith)
written-after [] written (suc first) block fits past = absurd (omega arith)
written-after (d ∷ device) written (suc first) zero fits past = absurd (omega arith)
written-after (d ∷ device) written (suc first) (suc block) fits past =
    let next : suc first + length written ≡ suc (first + length written) = omega arith in
    rw next (written-after device written first block (omega arith) (omega arith))
