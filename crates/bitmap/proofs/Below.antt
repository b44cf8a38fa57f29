-- The first number below a bound that passes a test.
use Rattle.std.proofs.Common.{ℕ, zero, suc, ◌≡◌, ◌<◌, ◌≤◌, ◌⊎◌, inl, inr, Bool, true, false, List, [], ◌∷◌, ◌++◌, Option, Some, None, refl, sym, ◌∙◌, arith}
use Rattle.std.specs.Prelude.{find, if◌then◌else◌}
use Rattle.std.proofs.lemmas.Bool.{cases_lt}
use Rattle.blocks.specs.Ranges.{below}

find-append_some : {X : Type 0} (p : X → Bool) (xs ys : List X) (x : X) → find p xs ≡ Some x → find p (xs ++ ys) ≡ Some x
find-append_some p [] ys x is = absurd (cc)
find-append_some {X} p (z ∷ xs) ys x is = go (find-append_some p xs ys x) (p z) refl
  where
    go : (find p xs ≡ Some x → find p (xs ++ ys) ≡ Some x) → (b : Bool) → p z ≡ b → find p (z ∷ (xs ++ ys)) ≡ Some x
    go rest true at = rw at (rw at at is)
    go rest false at = rw at (rest (rw at at is))

find-append_none : {X : Type 0} (p : X → Bool) (xs ys : List X) → find p xs ≡ None → find p (xs ++ ys) ≡ find p ys
find-append_none p [] ys is = refl
find-append_none {X} p (z ∷ xs) ys is = go (find-append_none p xs ys) (p z) refl
  where
    go : (find p xs ≡ None → find p (xs ++ ys) ≡ find p ys) → (b : Bool) → p z ≡ b → find p (z ∷ (xs ++ ys)) ≡ find p ys
    go rest true at = absurd (let some = rw at at is in cc)
    go rest false at = rw at (rest (rw at at is))

pub find-below_none : (p : ℕ → Bool) (n : ℕ) → ((k : ℕ) → k < n → p k ≡ false) → find p (below n) ≡ None
find-below_none p zero none = refl
find-below_none p (suc n) none =
    let here = none n (omega arith) in
    rw (find-append_none p (below n) (n ∷ []) (find-below_none p n (λ k h. none k (omega arith))), here) refl

pub find-below_some : (p : ℕ → Bool) (n b : ℕ) → b < n → p b ≡ true → ((k : ℕ) → k < b → p k ≡ false) → find p (below n) ≡ Some b
find-below_some p zero b within passes none = absurd (omega arith)
find-below_some p (suc n) b within passes none = go (find-below_some p n b) (cases_lt b n)
  where
    go : (b < n → p b ≡ true → ((k : ℕ) → k < b → p k ≡ false) → find p (below n) ≡ Some b) → (b < n) ⊎ (n ≤ b) → find p (below n ++ n ∷ []) ≡ Some b
    go rest (inl earlier) = find-append_some p (below n) (n ∷ []) b (rest earlier passes none)
    go rest (inr last) =
        let same : n ≡ b = omega arith in
        rw (find-append_none p (below n) (n ∷ []) (find-below_none p n (λ k h. none k (omega arith))), same, passes) refl

-- what no number below the bound passes, and none below the first that does
find-last : (p : ℕ → Bool) (n : ℕ) (v : Bool) → p n ≡ v → find p (n ∷ []) ≡ (if v then Some n else None)
find-last p n true at = rw at refl
find-last p n false at = rw at refl

pub find-below_all : (p : ℕ → Bool) (n : ℕ) → find p (below n) ≡ None → (k : ℕ) → k < n → p k ≡ false
find-below_all p zero is k within = absurd (omega arith)
find-below_all p (suc n) is k within = go (find-below_all p n) (find p (below n)) refl (p n) refl (cases_lt k n)
  where
    go : (find p (below n) ≡ None → (k : ℕ) → k < n → p k ≡ false) → (o : Option ℕ) → find p (below n) ≡ o → (v : Bool) → p n ≡ v
        → (k < n) ⊎ (n ≤ k) → p k ≡ false
    go rest (Some x) at v here place = absurd (let some = sym is ∙ find-append_some p (below n) (n ∷ []) x at in cc)
    go rest None at true here place =
        absurd (let some = sym is ∙ (find-append_none p (below n) (n ∷ []) at ∙ find-last p n true here) in cc)
    go rest None at false here (inl earlier) = rest at k earlier
    go rest None at false here (inr last) = let same : k ≡ n = omega arith in rw same here

pub find-below_before : (p : ℕ → Bool) (n b : ℕ) → find p (below n) ≡ Some b → (k : ℕ) → k < b → p k ≡ false
find-below_before p zero b is k within = absurd (cc)
find-below_before p (suc n) b is k within = go (find-below_before p n b) (find p (below n)) refl (p n) refl
  where
    go : (find p (below n) ≡ Some b → (k : ℕ) → k < b → p k ≡ false) → (o : Option ℕ) → find p (below n) ≡ o → (v : Bool) → p n ≡ v → p k ≡ false
    go rest (Some x) at v here =
        let some = sym is ∙ find-append_some p (below n) (n ∷ []) x at in
        let same : b ≡ x = cc in
        rest (rw same at) k within
    go rest None at true here =
        let some = sym is ∙ (find-append_none p (below n) (n ∷ []) at ∙ find-last p n true here) in
        let same : b ≡ n = cc in
        find-below_all p n at k (omega arith)
    go rest None at false here =
        absurd (let none = sym is ∙ (find-append_none p (below n) (n ∷ []) at ∙ find-last p n false here) in cc)
