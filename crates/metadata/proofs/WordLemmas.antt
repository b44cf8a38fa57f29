-- Words in bytes.
use Rattle.std.proofs.Common.{ℕ, zero, suc, ◌≡◌, ◌+◌, ◌*◌, ◌^◌, ◌<◌, List, [], ◌∷◌, ◌++◌, length, take, drop, slice_index, refl, sym, ◌∙◌, ap, arith}
use Rattle.std.proofs.Common.{append_assoc, length-append}
use Rattle.std.specs.Int.{w64, from_be_bytes, to_be_bytes}
use Rattle.std.proofs.lemmas.Nat.{from_be_bytes-to_be_bytes_8}
use Rattle.std.proofs.lemmas.List.{drop-drop, take_at, drop_at}
use Rattle.metadata.specs.Words.{word, bytes_of, sealed, sum_of}

pub length-word : (w : ℕ) → length (to_be_bytes w64 w) ≡ 8
length-word w = refl

pub length-bytes_of : (words : List ℕ) → length (bytes_of words) ≡ 8 * length words
length-bytes_of [] = refl
length-bytes_of (w ∷ words) =
    let all = length-append (to_be_bytes w64 w) (bytes_of words) in
    let rest = length-bytes_of words in
    let one = length-word w in
    omega (arith, all, rest, one)

pub bytes_of-append : (xs ys : List ℕ) → bytes_of (xs ++ ys) ≡ bytes_of xs ++ bytes_of ys
bytes_of-append [] ys = refl
bytes_of-append (x ∷ xs) ys =
    ap (λ (l : List ℕ). to_be_bytes w64 x ++ l) (bytes_of-append xs ys) ∙ sym (append_assoc (to_be_bytes w64 x) (bytes_of xs) (bytes_of ys))

-- a word that was put is the one that is read
pub word-bytes_of : (words rest : List ℕ) (i : ℕ) → i < length words → ((k : ℕ) → slice_index words k < 2 ^ 64) → word (bytes_of words ++ rest) i ≡ slice_index words i
unfolding word
word-bytes_of [] rest i low fit = absurd (omega arith)
word-bytes_of (w ∷ words) rest zero low fit = from_be_bytes-to_be_bytes_8 w (fit 0)
word-bytes_of (w ∷ words) rest (suc i) low fit =
    let place : 8 * suc i ≡ 8 + 8 * i = omega arith in
    ap (λ n. from_be_bytes w64 (take 8 (drop n (bytes_of (w ∷ words) ++ rest)))) place
    ∙ ap (λ (l : List ℕ). from_be_bytes w64 (take 8 l)) (sym (drop-drop (8 * i) 8 (bytes_of (w ∷ words) ++ rest)))
    ∙ word-bytes_of words rest i (omega arith) (λ k. fit (suc k))

-- the first words of sealed bytes
pub word-sealed : (words : List ℕ) (i : ℕ) → i < length words → ((k : ℕ) → slice_index words k < 2 ^ 64) → word (sealed words) i ≡ slice_index words i
word-sealed words i low fit = word-bytes_of words (to_be_bytes w64 (sum_of (bytes_of words))) i low fit

-- their sum
pub sum-sealed : (words : List ℕ) (n : ℕ) → length words ≡ n → sum_of (bytes_of words) < 2 ^ 64 → word (sealed words) n ≡ sum_of (bytes_of words)
unfolding word
sum-sealed words n is fits =
    let sum : ℕ = sum_of (bytes_of words) in
    let size : length (bytes_of words) ≡ 8 * n = omega (arith, length-bytes_of words, is) in
    ap (λ (l : List ℕ). from_be_bytes w64 (take 8 l)) (drop_at (bytes_of words) (to_be_bytes w64 sum) (8 * n) size) ∙ from_be_bytes-to_be_bytes_8 sum fits

-- what the sum is over
pub body-sealed : (words : List ℕ) (n : ℕ) → 8 * length words ≡ n → take n (sealed words) ≡ bytes_of words
body-sealed words n is = take_at (bytes_of words) (to_be_bytes w64 (sum_of (bytes_of words))) n (length-bytes_of words ∙ is)
