-- How numbers are spelled.
use Rattle.std.specs.Prelude.{ℕ, ◌≡◌, ◌+◌, ◌-◌, ◌*◌, ◌<◌, ◌&&◌, nat_le, List, [], ◌∷◌, Option, Some, None, option_and_then, length, if◌then◌else◌}

-- the value of a decimal digit, 0 to 9
abbrev pub decimal_digit : ℕ → Option ℕ
decimal_digit digit = if nat_le 48 digit && nat_le digit 57 then Some (digit - 48) else None

-- the value of a hexadecimal digit, of either case
abbrev pub hexadecimal_digit : ℕ → Option ℕ
hexadecimal_digit digit =
    if nat_le 48 digit && nat_le digit 57 then Some (digit - 48) else
    if nat_le 97 digit && nat_le digit 102 then Some (digit - 97 + 10) else
    if nat_le 65 digit && nat_le digit 70 then Some (digit - 65 + 10) else None

-- the number that more decimal digits make of one that was read
abbrev pub decimal_from : ℕ → List ℕ → Option ℕ
decimal_from value [] = Some value
decimal_from value (digit ∷ digits) = option_and_then (λ units. decimal_from (10 * value + units) digits) (decimal_digit digit)

-- at least one digit, and they spell the number
abbrev pub IsDecimal : List ℕ → ℕ → Type 0
IsDecimal word n = (0 < length word) × (decimal_from 0 word ≡ Some n)

-- the byte that two digits spell, the higher one first
abbrev pub hexadecimal_byte : List ℕ → Option ℕ
hexadecimal_byte (high ∷ low ∷ []) = option_and_then (λ tens. option_and_then (λ units. Some (16 * tens + units)) (hexadecimal_digit low))
    (hexadecimal_digit high)
hexadecimal_byte _ = None
