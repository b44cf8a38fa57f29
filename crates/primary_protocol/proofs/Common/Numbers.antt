-- Writes that are numbered from a number on, and the entries of one number.
use Rattle.std.proofs.Common.{ℕ, zero, suc, ◌≡◌, ◌+◌, ◌-◌, ◌<◌, Bool, true, false, cond, ◌&&◌, ◌||◌, List, [], ◌∷◌, map, Some, None, slice_get, refl, sym, ◌∙◌}
use Rattle.std.proofs.Common.{ap, subst, arith, ◌==◌}
use Rattle.std.specs.Prelude.{find, is_some, option_map}
use Rattle.std.specs.List.{list_any}
use Rattle.std.proofs.lemmas.Bool.{eqb-true, eq-eqb, false_from_ne_true}
use Rattle.std.proofs.lemmas.Bool.Decides.{nat_tests}
use Rattle.model.specs.Primary.{Accepted}
use Rattle.primary_protocol.specs.Core.{JournalEntry, with_entry}

pub same-number : (n : ℕ) → (n == n) ≡ true
same-number n = eq-eqb n n refl

pub other-number : (a b : ℕ) → a < b → (a == b) ≡ false
other-number a b less = false_from_ne_true (a == b) (λ e. let is : a ≡ b = eqb-true a b e in omega arith)

-- writes numbered from a number on
abbrev pub AreNumberedFrom : ℕ → List Accepted → Type 0
AreNumberedFrom n xs = (i : ℕ) (accepted : Accepted) → slice_get xs i ≡ Some accepted → accepted.write.number ≡ n + i

pub numbered-rest : (n : ℕ) (x : Accepted) (xs : List Accepted) → AreNumberedFrom n (x ∷ xs) → AreNumberedFrom (suc n) xs
numbered-rest n x xs all i accepted at = all (suc i) accepted at ∙ omega arith

pub numbered-first : (n : ℕ) (x : Accepted) (xs : List Accepted) → AreNumberedFrom n (x ∷ xs) → x.write.number ≡ n
numbered-first n x xs all = all 0 x refl ∙ omega arith

-- the write of a number stands at its place
pub find-number : (n k : ℕ) (xs : List Accepted) → AreNumberedFrom n xs → find (λ (a : Accepted). a.write.number == (n + k)) xs ≡ slice_get xs k
find-number n k [] all = refl
find-number n zero (x ∷ xs) all =
    let first = numbered-first n x xs all in
    let same : (x.write.number == (n + 0)) ≡ true = eq-eqb x.write.number (n + 0) (omega arith) in
    rw same refl
find-number n (suc k) (x ∷ xs) all =
    let first = numbered-first n x xs all in
    let other : (x.write.number == (n + suc k)) ≡ false = other-number x.write.number (n + suc k) (omega arith) in
    let on : suc n + k ≡ n + suc k = omega arith in
    rw other (ap (λ (m : ℕ). find (λ (a : Accepted). a.write.number == m) xs) (sym on) ∙ find-number (suc n) k xs (numbered-rest n x xs all))

pub find-none : (m n : ℕ) (xs : List Accepted) → AreNumberedFrom n xs → m < n → find (λ (a : Accepted). a.write.number == m) xs ≡ None
find-none m n [] all less = refl
find-none m n (x ∷ xs) all less =
    let first = numbered-first n x xs all in
    let other : (x.write.number == m) ≡ false = false_from_ne_true (x.write.number == m)
    (λ e. let is : x.write.number ≡ m = eqb-true x.write.number m e in omega arith) in
    rw other (find-none m (suc n) xs (numbered-rest n x xs all) (omega arith))

-- a test of the write of a number is that of the write at its place
pub any-number : (n k : ℕ) (p : Accepted → Bool) (xs : List Accepted) → AreNumberedFrom n xs
    → list_any (λ (a : Accepted). (a.write.number == (n + k)) && p a) xs ≡ elim (slice_get xs k) as (λ _. Bool) [ None ↦ false | Some a ↦ p a ]
any-number n k p [] all = refl
any-number n zero p (x ∷ xs) all =
    let first = numbered-first n x xs all in
    let same : (x.write.number == (n + 0)) ≡ true = eq-eqb x.write.number (n + 0) (omega arith) in
    let none : list_any (λ (a : Accepted). (a.write.number == (n + 0)) && p a) xs ≡ false = none-behind (n + 0) (suc n) p xs (numbered-rest n x xs all)
    (omega arith) in
    rw (same, none) (or-none (p x))
  where
    none-behind : (m n : ℕ) (p : Accepted → Bool) (xs : List Accepted) → AreNumberedFrom n xs → m < n
        → list_any (λ (a : Accepted). (a.write.number == m) && p a) xs ≡ false
    none-behind m n p [] all less = refl
    none-behind m n p (x ∷ xs) all less =
        let first = numbered-first n x xs all in
        let other : (x.write.number == m) ≡ false = false_from_ne_true (x.write.number == m)
        (λ e. let is : x.write.number ≡ m = eqb-true x.write.number m e in omega arith) in
        rw other (none-behind m (suc n) p xs (numbered-rest n x xs all) (omega arith))

    or-none : (b : Bool) → (b || false) ≡ b
    or-none true = refl
    or-none false = refl
any-number n (suc k) p (x ∷ xs) all =
    let first = numbered-first n x xs all in
    let other : (x.write.number == (n + suc k)) ≡ false = other-number x.write.number (n + suc k) (omega arith) in
    let on : suc n + k ≡ n + suc k = omega arith in
    rw other (ap (λ (m : ℕ). list_any (λ (a : Accepted). (a.write.number == m) && p a) xs) (sym on) ∙ any-number (suc n) k p xs (numbered-rest n x xs all))

-- Entries.

-- the entry at a place is that of the write there
pub get-map : {X Y : Type 0} (f : X → Y) (xs : List X) (n : ℕ) → slice_get (map f xs) n ≡ option_map f (slice_get xs n)
get-map f [] n = refl
get-map f (x ∷ xs) zero = refl
get-map f (x ∷ xs) (suc n) = get-map f xs n

-- a change of the entry of one number, where a function of the writes changes so
pub with-entry-map : (f g : Accepted → JournalEntry) (change : JournalEntry → JournalEntry) (n k : ℕ) (xs : List Accepted) → AreNumberedFrom n xs
    → ((a : Accepted) → a.write.number ≡ n + k → change (f a) ≡ g a) → ((a : Accepted) → (a.write.number == (n + k)) ≡ false → f a ≡ g a)
    → with_entry (suc k) change (map f xs) ≡ map g xs
with-entry-map f g change n k [] all same others = refl
with-entry-map f g change n zero (x ∷ xs) all same others =
    let first = numbered-first n x xs all in
    (λ i. same x (omega arith) i ∷ rest i)
  where
    rest : map f xs ≡ map g xs
    rest = map-same xs (suc n) (numbered-rest n x xs all) (omega arith)
      where
        map-same : (ys : List Accepted) (m : ℕ) → AreNumberedFrom m ys → n < m → map f ys ≡ map g ys
        map-same [] m all less = refl
        map-same (y ∷ ys) m all less =
            let first = numbered-first m y ys all in
            let other : (y.write.number == (n + 0)) ≡ false = false_from_ne_true (y.write.number == (n + 0))
            (λ e. let is : y.write.number ≡ n + 0 = eqb-true y.write.number (n + 0) e in omega arith) in
            λ i. others y other i ∷ map-same ys (suc m) (numbered-rest m y ys all) (omega arith) i
with-entry-map f g change n (suc k) (x ∷ xs) all same others =
    let first = numbered-first n x xs all in
    let other : (x.write.number == (n + suc k)) ≡ false = other-number x.write.number (n + suc k) (omega arith) in
    let not_first : (suc (suc k) == 1) ≡ false = grind (arith, nat_tests) in
    let on : suc n + k ≡ n + suc k = omega arith in
    let one_less : suc (suc k) - 1 ≡ suc k = omega arith in
    rw (not_first, one_less) (λ i. others x other i ∷ with-entry-map f g change (suc n) k xs (numbered-rest n x xs all) (λ a is. same a (is ∙ on))
    (λ a no_number. others a (subst (λ (m : ℕ). (a.write.number == m) ≡ false) on no_number)) i)

-- a test of a list finds something exactly where one passes
pub any-some : {X : Type 0} (p : X → Bool) (xs : List X) → list_any p xs ≡ is_some (find p xs)
any-some p [] = refl
any-some {X} p (x ∷ xs) = go (any-some p xs) (p x)
  where
    go : list_any p xs ≡ is_some (find p xs) → (b : Bool) → (b || list_any p xs) ≡ is_some (cond b (Some x) (find p xs))
    go rest true = refl
    go rest false = rest
