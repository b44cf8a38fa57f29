-- Numbers among bytes, the highest byte first (big-endian, "network order").
use Rattle.std.specs.Prelude.{ℕ, List, drop}
use Rattle.byteorder.specs.Endian.{big_number, big_bytes}

-- the number in `width` bytes from a place on
unfoldable pub number_in : ℕ → ℕ → List ℕ → ℕ
number_in width place bytes = big_number width (drop place bytes)

-- the lowest `width` bytes of a number
unfoldable pub number_bytes : ℕ → ℕ → List ℕ
number_bytes width n = big_bytes width n
