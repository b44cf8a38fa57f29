-- Numbers among bytes.
use Rattle.std.proofs.Common.{◌≡◌, ℕ, ◌+◌, ◌≤◌, List, ◌++◌, length, drop, ap, ◌∙◌, arith}
use Rattle.std.proofs.lemmas.List.{drop-append-le, length-drop}
use Rattle.byteorder.specs.Endian.{big_number}
use Rattle.byteorder.specs.Numbers.{length-bytes_high_first, big_from-append}
use Rattle.packets.specs.Numbers.{number_in, number_bytes}

pub number_bytes_length : (width n : ℕ) → length (number_bytes width n) ≡ width
unfolding number_bytes
number_bytes_length width n = length-bytes_high_first width n

-- what follows the number does not change it
pub number_in_front : (width place : ℕ) (xs ys : List ℕ) → place + width ≤ length xs → number_in width place (xs ++ ys) ≡ number_in width place xs
unfolding number_in
number_in_front width place xs ys h =
    ap (big_number width) (drop-append-le place xs ys (omega arith)) ∙ big_from-append width (drop place xs) ys (omega (arith, length-drop place xs))
