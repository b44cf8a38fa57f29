-- The bytes of a number and the number of some bytes are each other's inverse.
use Rattle.std.proofs.Common.{◌≡◌, ℕ, zero, suc, ◌+◌, ◌*◌, ◌/◌, ◌^◌, ◌<◌, ◌≤◌, List, [], ◌∷◌, ◌++◌, length, take, drop, get_or, refl, sym, ap, ◌∙◌}
use Rattle.std.proofs.Common.{append_assoc, zero-add, arith}
use Rattle.std.proofs.Math.Nat.{mod-lt}
use Rattle.std.proofs.Math.Seq.{take-add}
use Rattle.std.proofs.lemmas.Nat.{div-mul-add}
use Rattle.std.proofs.lemmas.List.{append-nil, drop_at, length-drop, length-take, get_or-drop, get_or-take, get_or_past}
use Rattle.std.proofs.lemmas.Bool.{cases_lt}
use Rattle.std.proofs.Common.{inl, inr}
use Rattle.std.specs.Int.{byte_at, bytes_high_first}
use Rattle.byteorder.specs.Endian.{big_from, big_number, big_bytes}
use Rattle.byteorder.specs.Numbers.{big_from-cons, big_from-take, big_from-lt, big_number-reads_back, length-bytes_high_first}
use Rattle.packets.specs.Numbers.{number_in, number_bytes}

-- each is a byte
abbrev pub IsBytes : List ℕ → Type 0
IsBytes bytes = (i : ℕ) → get_or bytes i 0 < 256

pub IsBytes_drop : (n : ℕ) (bytes : List ℕ) → IsBytes bytes → IsBytes (drop n bytes)
IsBytes_drop n bytes h i = rw get_or-drop (h (n + i))

pub IsBytes_take : (n : ℕ) (bytes : List ℕ) → IsBytes bytes → IsBytes (take n bytes)
IsBytes_take n bytes h i =
    elim (cases_lt i n) [
      | inl lt ↦ rw (get_or-take n bytes i 0 lt) (h i)
      | inr le ↦ rw (get_or_past (take n bytes) i 0 (omega (arith, length-take n bytes))) (omega arith)
    ]

byte_below : (i n : ℕ) → byte_at i n < 256
byte_below zero n = mod-lt n (omega arith)
byte_below (suc i) n = mod-lt (n / 256 ^ suc i) (omega arith)

IsBytes_made : (width n : ℕ) → IsBytes (bytes_high_first width n)
IsBytes_made zero n i = omega arith
IsBytes_made (suc width) n zero = byte_below width n
IsBytes_made (suc width) n (suc i) = IsBytes_made width n i

-- a number has one highest digit and one rest
one_split : (c a b r s : ℕ) → r < c → s < c → a * c + r ≡ b * c + s → (a ≡ b) × (r ≡ s)
one_split c a b r s hr hs e =
    let high : a ≡ b = sym (div-mul-add a c r hr) ∙ ap (λ (x : ℕ). x / c) e ∙ div-mul-add b c s hs in
    let same : a * c ≡ b * c = ap (λ (x : ℕ). x * c) high in
    (high, omega (arith, same, e))

-- as many bytes of the same number are the same bytes
one_spelling : (xs ys : List ℕ) → IsBytes xs → IsBytes ys → length xs ≡ length ys → big_from 0 (length xs) xs ≡ big_from 0 (length xs) ys → xs ≡ ys
one_spelling [] [] hx hy len e = refl
one_spelling [] (y ∷ ys) hx hy len e = absurd (omega (arith, len))
one_spelling (x ∷ xs) [] hx hy len e = absurd (omega (arith, len))
one_spelling (x ∷ xs) (y ∷ ys) hx hy len e =
    let n = length xs in
    let hxs : IsBytes xs = λ i. hx (suc i) in
    let hys : IsBytes ys = λ i. hy (suc i) in
    let moved : x * 256 ^ n + big_from 0 n xs ≡ y * 256 ^ n + big_from 0 n ys =
    ap (λ (r : ℕ). x * 256 ^ n + r) (sym (big_from-cons 0 n x xs)) ∙ e ∙ ap (λ (r : ℕ). y * 256 ^ n + r) (big_from-cons 0 n y ys) in
    let p = one_split (256 ^ n) x y (big_from 0 n xs) (big_from 0 n ys) (big_from-lt 0 n xs hxs) (big_from-lt 0 n ys hys) moved in
    let rest = one_spelling xs ys hxs hys (omega (arith, len)) p.1 in
    rw (p.0, rest) refl

-- the bytes of the number of some bytes are those bytes
bytes_again : (xs : List ℕ) → IsBytes xs → bytes_high_first (length xs) (big_from 0 (length xs) xs) ≡ xs
bytes_again xs h =
    let n = length xs in
    let x = big_from 0 n xs in
    let len : length (bytes_high_first n x) ≡ n = length-bytes_high_first n x in
    let same : big_from 0 n (bytes_high_first n x) ≡ x =
    ap (big_from 0 n) (sym (append-nil (bytes_high_first n x))) ∙ big_number-reads_back n x [] (big_from-lt 0 n xs h) in
    sym (one_spelling xs (bytes_high_first n x) h (IsBytes_made n x) (sym len) (sym same))

-- a number that is read fits its field
pub number_fits : (width place : ℕ) (bytes : List ℕ) → IsBytes bytes → number_in width place bytes < 256 ^ width
unfolding number_in
number_fits width place bytes h = big_from-lt 0 width (drop place bytes) (IsBytes_drop place bytes h)

-- what stands before a number, and the number's bytes
pub number_taken : (width place : ℕ) (bytes : List ℕ) → IsBytes bytes → place + width ≤ length bytes
    → take place bytes ++ number_bytes width (number_in width place bytes) ≡ take (place + width) bytes
unfolding number_in number_bytes
number_taken width place bytes h long =
    let part = take width (drop place bytes) in
    let fits : IsBytes part = IsBytes_take width (drop place bytes) (IsBytes_drop place bytes h) in
    let len : length part ≡ width = omega (arith, length-take width (drop place bytes), length-drop place bytes) in
    let read : big_from 0 width part ≡ big_from 0 width (drop place bytes) = big_from-take 0 width width (drop place bytes) (omega arith) in
    let again : bytes_high_first width (big_from 0 width part) ≡ part = ap (λ (n : ℕ). bytes_high_first n (big_from 0 n part)) (sym len)
    ∙ bytes_again part fits in
    let same : big_bytes width (big_number width (drop place bytes)) ≡ part = ap (bytes_high_first width) (sym read) ∙ again in
    ap (λ (x : List ℕ). take place bytes ++ x) same ∙ sym (take-add place width bytes)

-- the first number
pub number_first : (width : ℕ) (bytes : List ℕ) → IsBytes bytes → width ≤ length bytes → number_bytes width (number_in width 0 bytes) ≡ take width bytes
number_first width bytes h long =
    number_taken width 0 bytes h (omega arith) ∙ ap (λ (n : ℕ). take n bytes) (zero-add width)

-- a number that was written is read again
pub number_again : (width place n : ℕ) (front back : List ℕ) → length front ≡ place → n < 256 ^ width
    → number_in width place (front ++ number_bytes width n ++ back) ≡ n
unfolding number_in number_bytes
number_again width place n front back len fits =
    let at : drop place (front ++ bytes_high_first width n ++ back) ≡ bytes_high_first width n ++ back =
    ap (drop place) (append_assoc front (bytes_high_first width n) back) ∙ drop_at front (bytes_high_first width n ++ back) place len in
    ap (big_number width) at ∙ big_number-reads_back width n back fits

-- the same where nothing follows it
pub number_last : (width place n : ℕ) (front : List ℕ) → length front ≡ place → n < 256 ^ width → number_in width place (front ++ number_bytes width n) ≡ n
number_last width place n front len fits =
    ap (number_in width place) (sym (append-nil (front ++ number_bytes width n))) ∙ number_again width place n front [] len fits

pub number_only : (width n : ℕ) → n < 256 ^ width → number_in width 0 (number_bytes width n) ≡ n
number_only width n fits = number_last width 0 n [] refl fits
