-- Reading more digits makes a number no smaller.
use Rattle.std.proofs.Common.{ℕ, ◌≡◌, ◌+◌, ◌*◌, ◌≤◌, ◌<◌, List, [], ◌∷◌, Option, Some, None, length, drop, get_or, suc, refl, sym, ◌∙◌, ap, arith, drop-cons}
use Rattle.std.specs.Option.{option_and_then}
use Rattle.program_values.specs.Numbers.{decimal_digit, decimal_from}

step : (value n : ℕ) (digits : List ℕ) (digit : Option ℕ) → option_and_then (λ units. decimal_from (10 * value + units) digits) digit ≡ Some n
    → (units : ℕ) × (digit ≡ Some units) × (decimal_from (10 * value + units) digits ≡ Some n)
step value n digits None h = cc
step value n digits (Some units) h = (units, refl, h)

pub grows : (value n : ℕ) (digits : List ℕ) → decimal_from value digits ≡ Some n → value ≤ n
grows value n [] h = let e : value ≡ n = cc in omega arith
grows value n (digit ∷ digits) h =
    let s = step value n digits (decimal_digit digit) h in
    let g = grows (10 * value + s.0) n digits s.2 in
    omega arith

-- the digits spell no less than the number so far with one digit more
pub too_large : (digits : List ℕ) (index value units n : ℕ) → index < length digits → decimal_digit (get_or digits index 0) ≡ Some units
    → decimal_from value (drop index digits) ≡ decimal_from 0 digits → decimal_from 0 digits ≡ Some n → 10 * value + units ≤ n
too_large digits index value units n there digit same spelled =
    let rest = drop (suc index) digits in
    let all : decimal_from value (get_or digits index 0 ∷ rest) ≡ Some n = ap (decimal_from value) (sym (drop-cons digits index 0 there)) ∙ same ∙ spelled in
    let s = step value n rest (decimal_digit (get_or digits index 0)) all in
    let least = grows (10 * value + s.0) n rest s.2 in
    let first = s.1 in
    let same_units : s.0 ≡ units = cc in
    omega arith
