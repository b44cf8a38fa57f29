-- Disks with the same blocks are the same.
use Rattle.std.proofs.Common.{ℕ, suc, ◌≡◌, ◌<◌, List, [], ◌∷◌, length, Some, slice_get, refl, arith}

-- lists of one length, with the same elements
pub same-lists : {X : Type 0} (xs ys : List X) → length xs ≡ length ys → ((k : ℕ) → k < length xs → slice_get xs k ≡ slice_get ys k) → xs ≡ ys
same-lists [] [] long each = refl
same-lists [] (y ∷ ys) long each = absurd (omega (arith, long))
same-lists (x ∷ xs) [] long each = absurd (omega (arith, long))
same-lists (x ∷ xs) (y ∷ ys) long each =
    let rest : xs ≡ ys = same-lists xs ys (omega (arith, long)) (λ k less. each (suc k) (omega (arith, less))) in
    let here : Some x ≡ Some y = each 0 (omega arith) in
    let first : x ≡ y = cc here in
    cc (first, rest)
