-- The first write whose number is a given one or more, as it is found number by number.
use Rattle.std.proofs.Common.{◌≡◌, ℕ, suc, ◌+◌, ◌<◌, ◌≤◌, nat_le, Bool, true, false, List, [], ◌∷◌, refl, arith, Some, None}
use Rattle.std.specs.Prelude.{find}
use Rattle.std.proofs.lemmas.Bool.Decides.{nat_tests}
use Rattle.transferlog.specs.Writes.{LogWrite}
use Rattle.transferlog.specs.Ring.{Each, Rises, has_number, write_at}
use Rattle.transferlog.proofs.Moves.{none_above}
use Rattle.transferlog.proofs.Numbers.{is_same, write_at-none}
use Rattle.transferlog.proofs.Waiting.{is_other}

-- a write with at least the first number has at least the second
abbrev pub LiesFrom : ℕ → ℕ → LogWrite → Type 0
LiesFrom from number w = from ≤ w.number → number ≤ w.number

next_by : (same : Bool) (from n : ℕ) (w : LogWrite) (ws : List LogWrite) → has_number n w ≡ same → LiesFrom from n w → write_at n (w ∷ ws) ≡ None
    → (write_at n ws ≡ None → Each (LiesFrom from (n + 1)) ws) → Each (LiesFrom from (n + 1)) (w ∷ ws)
next_by true from n w ws is here none rest = let some : Some w ≡ None = rw is at none in absurd (cc)
next_by false from n w ws is here none rest = ((λ least. is_other w.number n is (here least)), rest (rw is at none))

-- no write has this number
pub lies_next : (from n : ℕ) (ws : List LogWrite) → Each (LiesFrom from n) ws → write_at n ws ≡ None → Each (LiesFrom from (n + 1)) ws
lies_next from n [] each none = tt
lies_next from n (w ∷ ws) each none = next_by (has_number n w) from n w ws refl each.0 none (lies_next from n ws each.1)

within : (from n : ℕ) → nat_le from n ≡ true → from ≤ n
within from n is = grind (arith, nat_tests)

outside : (from n : ℕ) → nat_le from n ≡ false → n < from
outside from n is = grind (arith, nat_tests)

found_by : (passes same : Bool) (from n low : ℕ) (w v : LogWrite) (ws : List LogWrite) → nat_le from w.number ≡ passes → has_number n w ≡ same
    → Rises low (w ∷ ws) → from ≤ n
    → LiesFrom from n w → write_at n (w ∷ ws) ≡ Some v → (write_at n ws ≡ Some v → write_at n ws ≡ find (λ x. nat_le from x.number) ws)
    → write_at n (w ∷ ws) ≡ find (λ x. nat_le from x.number) (w ∷ ws)
found_by true true from n low w v ws passes is rises least here some rest = rw (is, passes) refl
found_by true false from n low w v ws passes is rises least here some rest =
    let above = is_other w.number n is (here (within from w.number passes)) in
    let none = write_at-none n ws (none_above n (suc w.number) ws (omega arith) rises.1) in
    let now : write_at n ws ≡ Some v = rw is at some in
    absurd (cc)
found_by false true from n low w v ws passes is rises least here some rest =
    absurd (omega (arith, is_same w.number n is, outside from w.number passes))
found_by false false from n low w v ws passes is rises least here some rest = rw (is, passes) (rest (rw is at some))

-- the write with a number below which there is none
pub first_found : (from n low : ℕ) (w : LogWrite) (ws : List LogWrite) → Rises low ws → from ≤ n → Each (LiesFrom from n) ws → write_at n ws ≡ Some w
    → write_at n ws ≡ find (λ x. nat_le from x.number) ws
first_found from n low v [] rises least each some = refl
first_found from n low v (w ∷ ws) rises least each some =
    found_by (nat_le from w.number) (has_number n w) from n low w v ws refl refl rises least each.0 some
    (first_found from n (suc w.number) v ws rises.1 least each.1)

none_by : (passes : Bool) (from n : ℕ) (w : LogWrite) (ws : List LogWrite) → nat_le from w.number ≡ passes → LiesFrom from n w → w.number < n
    → find (λ x. nat_le from x.number) ws ≡ None → find (λ x. nat_le from x.number) (w ∷ ws) ≡ None
none_by true from n w ws passes here below rest = absurd (omega (arith, here (within from w.number passes)))
none_by false from n w ws passes here below rest = rw passes rest

-- where all numbers are below it, there is none
pub none_found : (from n : ℕ) (ws : List LogWrite) → Each (LiesFrom from n) ws → Each (λ w. w.number < n) ws → find (λ x. nat_le from x.number) ws ≡ None
none_found from n [] each below = refl
none_found from n (w ∷ ws) each below = none_by (nat_le from w.number) from n w ws refl each.0 below.0 (none_found from n ws each.1 below.1)
