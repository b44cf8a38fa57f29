-- The three numbers of a header are digits of the one word in its eight bytes.
use Rattle.std.proofs.Common.{◌≡◌, ℕ, zero, suc, ◌+◌, ◌*◌, ◌/◌, ◌%◌, ◌<◌, List, drop, refl, ap, ◌∙◌, arith}
use Rattle.std.proofs.lemmas.List.{get_or-drop}
use Rattle.byteorder.specs.Endian.{big_from}
use Rattle.packets.specs.Numbers.{number_in}
use Rattle.packets.proofs.Digits.{IsBytes, number_fits}

-- bytes after a place are read as those from that place on
from_place : (width place i : ℕ) (bytes : List ℕ) → big_from i width (drop place bytes) ≡ big_from (place + i) width bytes
from_place zero place i bytes = refl
from_place (suc width) place i bytes =
    let byte = get_or-drop place bytes i 0 in
    let next : place + suc i ≡ suc (place + i) = omega arith in
    let rest : big_from (suc i) width (drop place bytes) ≡ big_from (suc (place + i)) width bytes =
    from_place width place (suc i) bytes ∙ ap (λ (j : ℕ). big_from j width bytes) next in
    rw (byte, rest) refl

-- the digits of the word
word_split : (bytes : List ℕ) → number_in 8 0 bytes ≡ number_in 2 0 bytes * 281474976710656 + (number_in 2 2 bytes * 4294967296 + number_in 4 4 bytes)
unfolding number_in
word_split bytes =
    let second : number_in 2 2 bytes ≡ big_from 2 2 bytes = from_place 2 2 0 bytes in
    let third : number_in 4 4 bytes ≡ big_from 4 4 bytes = from_place 4 4 0 bytes in
    rw (second, third) (omega arith)

pub word_magic : (bytes : List ℕ) → IsBytes bytes → number_in 8 0 bytes / 281474976710656 ≡ number_in 2 0 bytes
word_magic bytes h =
    let split = word_split bytes in
    let second : number_in 2 2 bytes < 65536 = number_fits 2 2 bytes h in
    let third : number_in 4 4 bytes < 4294967296 = number_fits 4 4 bytes h in
    omega (arith, split, second, third)

pub word_command : (bytes : List ℕ) → IsBytes bytes → number_in 8 0 bytes / 4294967296 % 65536 ≡ number_in 2 2 bytes
word_command bytes h =
    let split = word_split bytes in
    let second : number_in 2 2 bytes < 65536 = number_fits 2 2 bytes h in
    let third : number_in 4 4 bytes < 4294967296 = number_fits 4 4 bytes h in
    omega (arith, split, second, third)

pub word_length : (bytes : List ℕ) → IsBytes bytes → number_in 8 0 bytes % 4294967296 ≡ number_in 4 4 bytes
word_length bytes h =
    let split = word_split bytes in
    let third : number_in 4 4 bytes < 4294967296 = number_fits 4 4 bytes h in
    omega (arith, split, third)
