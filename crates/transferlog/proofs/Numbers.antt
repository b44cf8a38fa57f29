-- Writes that do not have a number.
use Rattle.std.proofs.Common.{◌≡◌, ℕ, ◌<◌, ◌==◌, Bool, true, false, List, [], ◌∷◌, refl, ap, arith, None, Some}
use Rattle.std.proofs.lemmas.Bool.Decides.{nat_tests}
use Rattle.transferlog.specs.Writes.{LogWrite}
use Rattle.transferlog.specs.Ring.{has_number, write_at, with_change, without}

pub same_number : (a b : ℕ) → a ≡ b → (a == b) ≡ true
same_number a b is = grind (arith, nat_tests)

pub is_same : (a b : ℕ) → (a == b) ≡ true → a ≡ b
is_same a b is = grind (arith, nat_tests)

pub lower_number : (a b : ℕ) → a < b → (a == b) ≡ false
lower_number a b less = grind (arith, nat_tests)

pub higher_number : (a b : ℕ) → b < a → (a == b) ≡ false
higher_number a b less = grind (arith, nat_tests)

-- none of these writes has the number
abbrev pub NoneHas : ℕ → List LogWrite → Type 0
NoneHas number [] = Unit {0}
NoneHas number (w ∷ ws) = (has_number number w ≡ false) × NoneHas number ws

pub write_at-none : (number : ℕ) (ws : List LogWrite) → NoneHas number ws → write_at number ws ≡ None
write_at-none number [] none = refl
write_at-none number (w ∷ ws) none = rw none.0 (write_at-none number ws none.1)

pub with_change-none : (number : ℕ) (f : LogWrite → LogWrite) (ws : List LogWrite) → NoneHas number ws → with_change number f ws ≡ ws
with_change-none number f [] none = refl
with_change-none number f (w ∷ ws) none = rw none.0 (ap (λ more. w ∷ more) (with_change-none number f ws none.1))

pub without-none : (number : ℕ) (ws : List LogWrite) → NoneHas number ws → without number ws ≡ ws
without-none number [] none = refl
without-none number (w ∷ ws) none = rw none.0 (ap (λ more. w ∷ more) (without-none number ws none.1))

number_by : (same : Bool) (n : ℕ) (w v : LogWrite) (ws : List LogWrite) → has_number n v ≡ same → write_at n (v ∷ ws) ≡ Some w
    → (write_at n ws ≡ Some w → w.number ≡ n) → w.number ≡ n
number_by true n w v ws is some rest =
    let first : Some v ≡ Some w = rw is at some in
    let same : v ≡ w = cc in
    rw same at (is_same v.number n is)
number_by false n w v ws is some rest = rest (rw is at some)

-- a write that is found by its number has that
pub found_number : (n : ℕ) (w : LogWrite) (ws : List LogWrite) → write_at n ws ≡ Some w → w.number ≡ n
found_number n w [] some = absurd (cc)
found_number n w (v ∷ ws) some = number_by (has_number n v) n w v ws refl some (found_number n w ws)
