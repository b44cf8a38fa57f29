-- Which barriers wait among the items that were not sent.
use Rattle.std.proofs.Common.{ℕ, zero, suc, ◌≡◌, ◌+◌, ◌-◌, ◌<◌, ◌≤◌, ◌==◌, nat_lt, nat_le, Bool, false}
use Rattle.std.proofs.Common.{◌&&◌, ◌||◌, List, [], ◌∷◌, ◌++◌, length, refl, ◌∙◌, ap, arith, Some, None}
use Rattle.std.specs.List.{list_any}
use Rattle.std.proofs.lemmas.Bool.Decides.{nat_tests}
use Rattle.std.proofs.lemmas.List.{append-nil}
use Rattle.model.specs.Stream.{StreamItem, WriteItem, ResyncItem, BarrierItem, SyncUuidItem, UuidsItem}
use Rattle.primary_protocol.specs.Taking.{is_unsent}
use Rattle.primary_core.specs.Outbox.{barrier_of, numbers, run}

pub few-numbers : (xs : List StreamItem) → length (numbers xs) ≤ length xs
few-numbers [] = omega arith
few-numbers (WriteItem write ∷ xs) = omega (arith, few-numbers xs)
few-numbers (ResyncItem block contents ∷ xs) = omega (arith, few-numbers xs)
few-numbers (BarrierItem epoch ∷ xs) = omega (arith, few-numbers xs)
few-numbers (SyncUuidItem word ∷ xs) = omega (arith, few-numbers xs)
few-numbers (UuidsItem tuple ∷ xs) = omega (arith, few-numbers xs)

-- An item more, at the end or at the front.

pub more-numbers : (xs ys : List StreamItem) → numbers (xs ++ ys) ≡ numbers xs ++ numbers ys
more-numbers [] ys = refl
more-numbers (WriteItem write ∷ xs) ys = more-numbers xs ys
more-numbers (ResyncItem block contents ∷ xs) ys = more-numbers xs ys
more-numbers (BarrierItem epoch ∷ xs) ys = ap (λ (ns : List ℕ). epoch ∷ ns) (more-numbers xs ys)
more-numbers (SyncUuidItem word ∷ xs) ys = more-numbers xs ys
more-numbers (UuidsItem tuple ∷ xs) ys = more-numbers xs ys

pub first-barrier : (x : StreamItem) (xs : List StreamItem) (n : ℕ) → barrier_of x ≡ Some n → numbers (x ∷ xs) ≡ n ∷ numbers xs
first-barrier (WriteItem write) xs n is = absurd (cc)
first-barrier (ResyncItem block contents) xs n is = absurd (cc)
first-barrier (BarrierItem epoch) xs n is = let same : epoch ≡ n = cc in ap (λ (k : ℕ). k ∷ numbers xs) same
first-barrier (SyncUuidItem word) xs n is = absurd (cc)
first-barrier (UuidsItem tuple) xs n is = absurd (cc)

pub first-other : (x : StreamItem) (xs : List StreamItem) → barrier_of x ≡ None → numbers (x ∷ xs) ≡ numbers xs
first-other (WriteItem write) xs is = refl
first-other (ResyncItem block contents) xs is = refl
first-other (BarrierItem epoch) xs is = absurd (cc)
first-other (SyncUuidItem word) xs is = refl
first-other (UuidsItem tuple) xs is = refl

-- A run.

pub run-longer : (first n : ℕ) → run first n ++ (first + n) ∷ [] ≡ run first (suc n)
run-longer first zero = let same : first + 0 ≡ first = omega arith in ap (λ (k : ℕ). k ∷ []) same
run-longer first (suc n) =
    let same : first + suc n ≡ (first + 1) + n = omega arith in
    ap (λ (ns : List ℕ). first ∷ ns) (ap (λ (k : ℕ). run (first + 1) n ++ k ∷ []) same ∙ run-longer (first + 1) n)

run-has-none : (epoch first : ℕ) → false ≡ (nat_le first epoch && nat_lt epoch (first + 0))
run-has-none epoch first = grind (arith, nat_tests)

run-has-first : (epoch first n : ℕ)
    → (first == epoch || (nat_le (first + 1) epoch && nat_lt epoch ((first + 1) + n))) ≡ (nat_le first epoch && nat_lt epoch (first + suc n))
run-has-first epoch first n = grind (arith, nat_tests)

run-has : (epoch first n : ℕ) → list_any (λ k. k == epoch) (run first n) ≡ (nat_le first epoch && nat_lt epoch (first + n))
run-has epoch first zero = run-has-none epoch first
run-has epoch first (suc n) = ap (λ (b : Bool). first == epoch || b) (run-has epoch (first + 1) n) ∙ run-has-first epoch first n

-- the barrier of an epoch waits where its number is among the barriers'
waits-among : (epoch : ℕ) (xs : List StreamItem) → is_unsent epoch xs ≡ list_any (λ k. k == epoch) (numbers xs)
waits-among epoch [] = refl
waits-among epoch (WriteItem write ∷ xs) = waits-among epoch xs
waits-among epoch (ResyncItem block contents ∷ xs) = waits-among epoch xs
waits-among epoch (BarrierItem number ∷ xs) = ap (λ (b : Bool). number == epoch || b) (waits-among epoch xs)
waits-among epoch (SyncUuidItem word ∷ xs) = waits-among epoch xs
waits-among epoch (UuidsItem tuple ∷ xs) = waits-among epoch xs

pub waits-in-run : (epoch first n : ℕ) (xs : List StreamItem) → numbers xs ≡ run first n → is_unsent epoch xs ≡ (nat_le first epoch && nat_lt epoch (first + n))
waits-in-run epoch first n xs is = waits-among epoch xs ∙ (ap (list_any (λ k. k == epoch)) is ∙ run-has epoch first n)

-- A test of an epoch against a run, as it is made.

pub from-first : (epoch first n : ℕ) → first ≤ epoch → nat_lt (epoch - first) n ≡ (nat_le first epoch && nat_lt epoch (first + n))
from-first epoch first n from = grind (arith, nat_tests)

pub before-first : (epoch first n : ℕ) → epoch < first → nat_le first epoch ≡ (nat_le first epoch && nat_lt epoch (first + n))
before-first epoch first n before = grind (arith, nat_tests)

-- An item more at the end.

pub end-barrier : (xs : List StreamItem) (x : StreamItem) (n : ℕ) → barrier_of x ≡ Some n → numbers (xs ++ x ∷ []) ≡ numbers xs ++ n ∷ []
end-barrier xs x n is = more-numbers xs (x ∷ []) ∙ ap (λ (ns : List ℕ). numbers xs ++ ns) (first-barrier x [] n is)

pub end-other : (xs : List StreamItem) (x : StreamItem) → barrier_of x ≡ None → numbers (xs ++ x ∷ []) ≡ numbers xs
end-other xs x is = more-numbers xs (x ∷ []) ∙ (ap (λ (ns : List ℕ). numbers xs ++ ns) (first-other x [] is) ∙ append-nil (numbers xs))
