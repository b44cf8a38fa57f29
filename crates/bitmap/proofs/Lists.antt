-- Marks by their places, and how many there are.
use Rattle.std.proofs.Common.{ℕ, zero, suc, ◌≡◌, ◌≢◌, ◌+◌, ◌*◌, ◌/◌, ◌<◌, ◌≤◌, ◌⊎◌, inl, inr, Bool, true, false, not, ◌||◌, List, [], ◌∷◌, length, take, drop}
use Rattle.std.proofs.Common.{refl, ◌∙◌, ap, arith, add-zero, length-take}
use Rattle.std.specs.Prelude.{slice_set, replicate, if◌then◌else◌}
use Rattle.std.proofs.lemmas.Bool.{cases_lt}
use Rattle.bitmap.specs.Marks.{marked, marking_from, count, count_in}

-- the same marks at each place
pub same-marks : (xs ys : List Bool) → length xs ≡ length ys → ((b : ℕ) → b < length xs → marked xs b ≡ marked ys b) → xs ≡ ys
same-marks [] [] long each = refl
same-marks [] (y ∷ ys) long each = absurd (omega arith)
same-marks (x ∷ xs) [] long each = absurd (omega arith)
same-marks (x ∷ xs) (y ∷ ys) long each =
    let head : x ≡ y = each 0 (omega arith) in
    let tail = same-marks xs ys (omega arith) (λ b h. each (suc b) (omega arith)) in
    rw (head, tail) refl

pub marked-past : (xs : List Bool) (b : ℕ) → length xs ≤ b → marked xs b ≡ false
marked-past [] b past = refl
marked-past (x ∷ xs) zero past = absurd (omega arith)
marked-past (x ∷ xs) (suc b) past = marked-past xs b (omega arith)

-- a mark that was written
pub marked-set_same : (xs : List Bool) (b : ℕ) (v : Bool) → b < length xs → marked (slice_set xs b v) b ≡ v
marked-set_same [] b v within = absurd (omega arith)
marked-set_same (x ∷ xs) zero v within = refl
marked-set_same (x ∷ xs) (suc b) v within = marked-set_same xs b v (omega arith)

pub marked-set_other : (xs : List Bool) (b : ℕ) (v : Bool) (q : ℕ) → q ≢ b → marked (slice_set xs b v) q ≡ marked xs q
marked-set_other [] b v q other = refl
marked-set_other (x ∷ xs) zero v zero other = absurd (other refl)
marked-set_other (x ∷ xs) zero v (suc q) other = refl
marked-set_other (x ∷ xs) (suc b) v zero other = refl
marked-set_other (x ∷ xs) (suc b) v (suc q) other = marked-set_other xs b v q (λ e. other (ap suc e))

pub set_same : (xs : List Bool) (b : ℕ) → slice_set xs b (marked xs b) ≡ xs
set_same [] b = refl
set_same (x ∷ xs) zero = refl
set_same (x ∷ xs) (suc b) = ap (λ ys. x ∷ ys) (set_same xs b)

-- marks of such blocks
pub length-marking : (from : ℕ) (such : ℕ → Bool) (xs : List Bool) → length (marking_from from such xs) ≡ length xs
length-marking from such [] = refl
length-marking from such (x ∷ xs) = ap suc (length-marking (suc from) such xs)

pub marked-marking : (from : ℕ) (such : ℕ → Bool) (xs : List Bool) (b : ℕ) → b < length xs
    → marked (marking_from from such xs) b ≡ (marked xs b || such (from + b))
marked-marking from such [] b within = absurd (omega arith)
marked-marking from such (x ∷ xs) zero within = rw add-zero refl
marked-marking from such (x ∷ xs) (suc b) within =
    let same : suc from + b ≡ from + suc b = omega arith in
    marked-marking (suc from) such xs b (omega arith) ∙ ap (λ n. marked xs b || such n) same

pub marked-replicate : (n : ℕ) (v : Bool) (b : ℕ) → b < n → marked (replicate n v) b ≡ v
marked-replicate zero v b within = absurd (omega arith)
marked-replicate (suc n) v zero within = refl
marked-replicate (suc n) v (suc b) within = marked-replicate n v b (omega arith)

-- Counts.
pub count-le : (xs : List Bool) → count xs ≤ length xs
count-le [] = omega arith
count-le (true ∷ xs) = omega (arith, count-le xs)
count-le (false ∷ xs) = omega (arith, count-le xs)

pub count_in-le : (xs : List Bool) (extent : ℕ) → count_in xs extent ≤ 1024
count_in-le xs extent = omega (arith, count-le (take 1024 (drop (1024 * extent) xs)), length-take 1024 (drop (1024 * extent) xs))

count-head : (v x : Bool) (n : ℕ) → x ≡ not v → ((if v then 1 else 0) + n) + (if v then 0 else 1) ≡ ((if x then 1 else 0) + n) + (if v then 1 else 0)
count-head true x n is = rw is (omega arith)
count-head false x n is = rw is (omega arith)

pub count-set : (xs : List Bool) (b : ℕ) (v : Bool) → b < length xs → marked xs b ≡ not v
    → count (slice_set xs b v) + (if v then 0 else 1) ≡ count xs + (if v then 1 else 0)
count-set [] b v within was = absurd (omega arith)
count-set (x ∷ xs) zero v within was = count-head v x (count xs) was
count-set (x ∷ xs) (suc b) v within was = omega (arith, count-set xs b v (omega arith) was)

-- the marks in a window, where one of them is written
window-set : (k n : ℕ) (xs : List Bool) (b : ℕ) (v : Bool) → b < length xs → k ≤ b → b < k + n → marked xs b ≡ not v
    → count (take n (drop k (slice_set xs b v))) + (if v then 0 else 1) ≡ count (take n (drop k xs)) + (if v then 1 else 0)
window-set k n [] b v within from to was = absurd (omega arith)
window-set zero zero (x ∷ xs) b v within from to was = absurd (omega arith)
window-set zero (suc n) (x ∷ xs) zero v within from to was = count-head v x (count (take n xs)) was
window-set zero (suc n) (x ∷ xs) (suc b) v within from to was = omega (arith, window-set zero n xs b v (omega arith) (omega arith) (omega arith) was)
window-set (suc k) n (x ∷ xs) zero v within from to was = absurd (omega arith)
window-set (suc k) n (x ∷ xs) (suc b) v within from to was = window-set k n xs b v (omega arith) (omega arith) (omega arith) was

-- and where none is
window-set_outside : (k n : ℕ) (xs : List Bool) (b : ℕ) (v : Bool) → (b < k) ⊎ (k + n ≤ b) → take n (drop k (slice_set xs b v)) ≡ take n (drop k xs)
window-set_outside k n [] b v outside = refl
window-set_outside zero zero (x ∷ xs) b v outside = refl
window-set_outside zero (suc n) (x ∷ xs) zero v (inl before) = absurd (omega arith)
window-set_outside zero (suc n) (x ∷ xs) zero v (inr after) = absurd (omega arith)
window-set_outside zero (suc n) (x ∷ xs) (suc b) v (inl before) = absurd (omega arith)
window-set_outside zero (suc n) (x ∷ xs) (suc b) v (inr after) = ap (λ ys. x ∷ ys) (window-set_outside zero n xs b v (inr (omega arith)))
window-set_outside (suc k) n (x ∷ xs) zero v outside = refl
window-set_outside (suc k) n (x ∷ xs) (suc b) v (inl before) = window-set_outside k n xs b v (inl (omega arith))
window-set_outside (suc k) n (x ∷ xs) (suc b) v (inr after) = window-set_outside k n xs b v (inr (omega arith))

pub count_in-set : (xs : List Bool) (b : ℕ) (v : Bool) → b < length xs → marked xs b ≡ not v
    → count_in (slice_set xs b v) (b / 1024) + (if v then 0 else 1) ≡ count_in xs (b / 1024) + (if v then 1 else 0)
count_in-set xs b v within was = window-set (1024 * (b / 1024)) 1024 xs b v within (omega arith) (omega arith) was

pub count_in-set_other : (xs : List Bool) (b : ℕ) (v : Bool) (extent : ℕ) → extent ≢ b / 1024 → count_in (slice_set xs b v) extent ≡ count_in xs extent
count_in-set_other xs b v extent other = ap count (window-set_outside (1024 * extent) 1024 xs b v (go (cases_lt b (1024 * extent))))
  where
    go : (b < 1024 * extent) ⊎ (1024 * extent ≤ b) → (b < 1024 * extent) ⊎ (1024 * extent + 1024 ≤ b)
    go (inl before) = inl before
    go (inr from) = inr (omega arith)

-- no mark in a window without marks
window-none : (k n : ℕ) (xs : List Bool) (q : ℕ) → count (take n (drop k xs)) ≡ 0 → k ≤ q → q < k + n → marked xs q ≡ false
window-none k n [] q none from to = refl
window-none zero zero (x ∷ xs) q none from to = absurd (omega arith)
window-none zero (suc n) (true ∷ xs) q none from to = absurd (omega arith)
window-none zero (suc n) (false ∷ xs) zero none from to = refl
window-none zero (suc n) (false ∷ xs) (suc q) none from to = window-none zero n xs q (omega arith) (omega arith) (omega arith)
window-none (suc k) n (x ∷ xs) zero none from to = absurd (omega arith)
window-none (suc k) n (x ∷ xs) (suc q) none from to = window-none k n xs q none (omega arith) (omega arith)

pub count_in-none : (xs : List Bool) (extent q : ℕ) → count_in xs extent ≡ 0 → q / 1024 ≡ extent → marked xs q ≡ false
count_in-none xs extent q none is = window-none (1024 * extent) 1024 xs q none (omega arith) (omega arith)

-- where nothing is marked
pub count-replicate : (n : ℕ) → count (replicate n false) ≡ 0
count-replicate zero = refl
count-replicate (suc n) = omega (arith, count-replicate n)

window-replicate_empty : (m : ℕ) → count (take m []) ≡ 0
window-replicate_empty zero = refl
window-replicate_empty (suc m) = refl

window-replicate : (k m n : ℕ) → count (take m (drop k (replicate n false))) ≡ 0
window-replicate zero zero n = refl
window-replicate zero (suc m) zero = refl
window-replicate (suc k) m zero = window-replicate_empty m
window-replicate zero (suc m) (suc n) = omega (arith, window-replicate zero m n)
window-replicate (suc k) m (suc n) = window-replicate k m n

pub count_in-replicate : (n extent : ℕ) → count_in (replicate n false) extent ≡ 0
count_in-replicate n extent = window-replicate (1024 * extent) 1024 n
