-- What a test of each byte says of a run.
use Rattle.std.proofs.Common.{◌≡◌, ◌==◌, ◌&&◌, true, ℕ, zero, suc, List, [], ◌∷◌, length, take, drop, replicate, refl, sym, ap, ap₂, ◌∙◌}
use Rattle.std.proofs.lemmas.Bool.{and_parts, eqb-true}
use Rattle.std.proofs.lemmas.List.{take-append-drop}
use Rattle.std.proofs.lemmas.List.Folds.{list_all-append}
use Rattle.std.specs.List.{list_all}

-- a run in which each byte is 0 is the run of as many zeros
pub zeros_from_test : (xs : List ℕ) → list_all (λ byte. byte == 0) xs ≡ true → xs ≡ replicate (length xs) 0
zeros_from_test [] each = refl
zeros_from_test (x ∷ xs) each =
    let parts = and_parts (x == 0) (list_all (λ byte. byte == 0) xs) each in
    ap₂ (λ (byte : ℕ) (rest : List ℕ). byte ∷ rest) (eqb-true x 0 parts.0) (zeros_from_test xs parts.1)

tested_zeros : (n : ℕ) → list_all (λ byte. byte == 0) (replicate n 0) ≡ true
tested_zeros zero = refl
tested_zeros (suc n) = tested_zeros n

-- in a run of zeros each byte is 0
pub test_from_zeros : (xs : List ℕ) → xs ≡ replicate (length xs) 0 → list_all (λ byte. byte == 0) xs ≡ true
test_from_zeros xs zeros = ap (list_all (λ byte. byte == 0)) zeros ∙ tested_zeros (length xs)

-- the bytes of a run and those after it tell what all of them do
pub test_of_parts : (n : ℕ) (rest run after : List ℕ) → run ≡ take n rest → after ≡ drop n rest →
    list_all (λ byte. byte == 0) rest ≡ (list_all (λ byte. byte == 0) run && list_all (λ byte. byte == 0) after)
test_of_parts n rest run after front back =
    ap (list_all (λ byte. byte == 0)) (sym (take-append-drop n rest))
    ∙ (list_all-append (λ byte. byte == 0) (take n rest) (drop n rest)
    ∙ ap₂ (λ a b. a && b) (ap (list_all (λ byte. byte == 0)) (sym front)) (ap (list_all (λ byte. byte == 0)) (sym back)))
