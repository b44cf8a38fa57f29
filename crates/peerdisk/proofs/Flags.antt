-- A truth value for each block, and the blocks one by one.
use Rattle.std.proofs.Common.{ℕ, zero, suc, ◌≡◌, ◌+◌, ◌<◌, ◌≤◌, ◌⊎◌, inl, inr, Bool, true, false, ◌||◌, List, [], ◌∷◌, ◌++◌, length, refl, sym, ◌∙◌, ap, arith}
use Rattle.std.proofs.Common.{length-append, add-one}
use Rattle.std.specs.List.{list_any}
use Rattle.std.proofs.lemmas.Bool.{cases_lt, or_right}
use Rattle.std.proofs.lemmas.List.{length-map, map-append}
use Rattle.std.proofs.lemmas.List.Folds.{list_any-append}
use Rattle.blocks.specs.Ranges.{below, is_between}
use Rattle.peerdisk.specs.Blocks.{adding, flags, has}

length-below : (n : ℕ) → length (below n) ≡ n
length-below zero = refl
length-below (suc n) = simp length-append (omega (arith, length-below n))

pub length-flags : (n : ℕ) (f : ℕ → Bool) → length (flags n f) ≡ n
length-flags n f = length-map (below n) f ∙ length-below n

has-before : (xs : List Bool) (x : Bool) (k : ℕ) → k < length xs → has (xs ++ x ∷ []) k ≡ has xs k
has-before [] x k within = absurd (omega arith)
has-before (y ∷ xs) x zero within = refl
has-before (y ∷ xs) x (suc k) within = has-before xs x k (omega arith)

has-last : (xs : List Bool) (x : Bool) (k : ℕ) → k ≡ length xs → has (xs ++ x ∷ []) k ≡ x
has-last [] x zero is = refl
has-last [] x (suc k) is = absurd (omega arith)
has-last (y ∷ xs) x zero is = absurd (omega arith)
has-last (y ∷ xs) x (suc k) is = has-last xs x k (omega arith)

pub has-flags : (n : ℕ) (f : ℕ → Bool) (k : ℕ) → k < n → has (flags n f) k ≡ f k
has-flags zero f k within = absurd (omega arith)
has-flags (suc n) f k within = rw (map-append f (below n) (n ∷ [])) (go (has-flags n f k) (cases_lt k n))
  where
    go : (k < n → has (flags n f) k ≡ f k) → (k < n) ⊎ (n ≤ k) → has (flags n f ++ f n ∷ []) k ≡ f k
    go rest (inl less) = has-before (flags n f) (f n) k (rw (length-flags n f) less) ∙ rest less
    go rest (inr more) = let same : k ≡ n = omega arith in has-last (flags n f) (f n) k (rw (length-flags n f) same) ∙ ap f (sym same)

pub flags-same : (n : ℕ) (f g : ℕ → Bool) → ((k : ℕ) → k < n → f k ≡ g k) → flags n f ≡ flags n g
flags-same zero f g same = refl
flags-same (suc n) f g same =
    let here : f n ≡ g n = same n (omega arith) in
    let rest = flags-same n f g (λ (k : ℕ) (within : k < n). same k (omega arith)) in
    rw (map-append f (below n) (n ∷ []), map-append g (below n) (n ∷ []), here, rest) refl

-- Blocks are added to those that pass a test.
pub adding-flags : (n : ℕ) (f g : ℕ → Bool) (first count : ℕ) → ((k : ℕ) → k < n → g k ≡ (f k || is_between first count k))
    → flags n g ≡ adding first count (flags n f)
adding-flags n f g first count each =
    let added = λ (block : ℕ). has (flags n f) block || is_between first count block in
    flags-same n g added (λ (k : ℕ) (within : k < n). each k within ∙ ap (λ b. b || is_between first count k) (sym (has-flags n f k within)))
    ∙ ap (λ size. flags size added) (sym (length-flags n f))

-- Blocks are looked up one after another.
pub any-same : (p q : ℕ → Bool) (n : ℕ) → ((k : ℕ) → k < n → p k ≡ q k) → list_any p (below n) ≡ list_any q (below n)
any-same p q zero same = refl
any-same p q (suc n) same =
    let here : p n ≡ q n = same n (omega arith) in
    let rest = any-same p q n (λ (k : ℕ) (within : k < n). same k (omega arith)) in
    rw (list_any-append p (below n) (n ∷ []), list_any-append q (below n) (n ∷ []), here, rest) refl

pub any-none : (n : ℕ) → list_any (λ k. false) (below n) ≡ false
any-none zero = refl
any-none (suc n) = rw (list_any-append (λ k. false) (below n) (n ∷ []), any-none n) refl

pub any-more : (p : ℕ → Bool) (n m : ℕ) → m ≡ n + 1 → list_any p (below n) ≡ false → p n ≡ false → list_any p (below m) ≡ false
any-more p n m is none here = rw (is, add-one, list_any-append p (below n) (n ∷ []), none, here) refl

pub any-found : (p : ℕ → Bool) (n k : ℕ) → k < n → p k ≡ true → list_any p (below n) ≡ true
any-found p zero k within passes = absurd (omega arith)
any-found p (suc n) k within passes = rw (list_any-append p (below n) (n ∷ [])) (go (any-found p n k) (cases_lt k n))
  where
    go : (k < n → p k ≡ true → list_any p (below n) ≡ true) → (k < n) ⊎ (n ≤ k) → (list_any p (below n) || (p n || false)) ≡ true
    go rest (inl less) = rw (rest less passes) refl
    go rest (inr more) = let same : n ≡ k = omega arith in rw same (or_right (list_any p (below k)) (p k || false) (rw passes refl))
