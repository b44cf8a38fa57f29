-- The ranges that a request's blocks are cut into.
use Rattle.std.proofs.Common.{◌≡◌, ℕ, zero, suc, ◌+◌, ◌-◌, ◌/◌, ◌<◌, ◌≤◌, false, eqb, List, [], ◌∷◌, refl, sym, ap, ◌∙◌, subst, arith}
use Rattle.std.specs.List.{AllByRecursion}
use Rattle.std.proofs.lemmas.Bool.{ne_eqb}
use Rattle.blocks.specs.Ranges.{IsRange}
use Rattle.nbd.specs.Pieces.{piece, first_pieces, pieces, Joins}

-- a range has at least one block
pub piece_some : (first count : ℕ) → 0 < count → 0 < piece first count
piece_some first count some = omega arith

pub piece_within : (first count : ℕ) → piece first count ≤ count
piece_within first count = omega arith

pub not_zero : (count : ℕ) → 0 < count → eqb count 0 ≡ false
not_zero count some = ne_eqb count 0 (λ same. omega (arith, same, some))

no_pieces : (n first count : ℕ) → count ≡ 0 → first_pieces n first count ≡ []
unfolding first_pieces
no_pieces zero first count none = refl
no_pieces (suc n) first count none = rw none refl

some_pieces : (n first count : ℕ) → 0 < count
    → first_pieces (suc n) first count ≡ (first, piece first count) ∷ first_pieces n (first + piece first count) (count - piece first count)
unfolding first_pieces
some_pieces n first count some = rw (not_zero count some) refl

-- as many ranges as blocks are all of them
enough : (n m first count : ℕ) → count ≤ n → count ≤ m → first_pieces n first count ≡ first_pieces m first count
enough n m first zero hn hm = no_pieces n first zero refl ∙ sym (no_pieces m first zero refl)
enough zero m first (suc count) hn hm = absurd (omega (arith, hn))
enough (suc n) zero first (suc count) hn hm = absurd (omega (arith, hm))
enough (suc n) (suc m) first (suc count) hn hm =
    let p = piece first (suc count) in
    let some : 0 < p = piece_some first (suc count) (omega arith) in
    some_pieces n first (suc count) (omega arith)
    ∙ ap (λ (ps : List (ℕ × ℕ)). (first, p) ∷ ps) (enough n m (first + p) (suc count - p) (omega (arith, some, hn)) (omega (arith, some, hm)))
    ∙ sym (some_pieces m first (suc count) (omega arith))

-- the first range, and the ranges of the rest
pub pieces_next : (first count : ℕ) → 0 < count
    → pieces first count ≡ (first, piece first count) ∷ pieces (first + piece first count) (count - piece first count)
pieces_next first zero some = absurd (omega (arith, some))
pieces_next first (suc count) some =
    let p = piece first (suc count) in
    let least : 0 < p = piece_some first (suc count) some in
    some_pieces count first (suc count) some
    ∙ ap (λ (ps : List (ℕ × ℕ)). (first, p) ∷ ps) (enough count (suc count - p) (first + p) (suc count - p) (omega (arith, least)) (omega arith))

pub pieces_none : (first count : ℕ) → count ≡ 0 → pieces first count ≡ []
pieces_none first count none = no_pieces count first count none

joins_first : (n first count : ℕ) → count ≤ n → Joins first (first_pieces n first count) (first + count)
joins_first n first zero h = subst (λ (ps : List (ℕ × ℕ)). Joins first ps (first + 0)) (sym (no_pieces n first zero refl)) (omega arith)
joins_first zero first (suc count) h = absurd (omega (arith, h))
joins_first (suc n) first (suc count) h =
    let p = piece first (suc count) in
    let least : 0 < p = piece_some first (suc count) (omega arith) in
    let most = piece_within first (suc count) in
    let end : first + p + (suc count - p) ≡ first + suc count = omega (arith, most) in
    let rest : Joins (first + p) (first_pieces n (first + p) (suc count - p)) (first + suc count) =
    subst (λ (x : ℕ). Joins (first + p) (first_pieces n (first + p) (suc count - p)) x) end
    (joins_first n (first + p) (suc count - p) (omega (arith, least, h))) in
    subst (λ (ps : List (ℕ × ℕ)). Joins first ps (first + suc count)) (sym (some_pieces n first (suc count) (omega arith))) (refl, rest)

pub pieces_join : (first count : ℕ) → Joins first (pieces first count) (first + count)
pieces_join first count = joins_first count first count (omega arith)

-- a range lies in one extent
pub in_extent : (first count : ℕ) → 0 < count → first / 1024 ≡ (first + piece first count - 1) / 1024
in_extent first count some = omega arith

first_each : (n first count end : ℕ) → count ≤ n → first + count ≤ end → AllByRecursion (λ p. IsRange end p.0 p.1) (first_pieces n first count)
first_each n first zero end h le = subst (AllByRecursion (λ p. IsRange end p.0 p.1)) (sym (no_pieces n first zero refl)) tt
first_each zero first (suc count) end h le = absurd (omega (arith, h))
first_each (suc n) first (suc count) end h le =
    let p = piece first (suc count) in
    let least : 0 < p = piece_some first (suc count) (omega arith) in
    let most = piece_within first (suc count) in
    let one : IsRange end first p = record {
      some = least;
      few = omega arith;
      inside = omega (arith, most, le);
      one_extent = in_extent first (suc count) (omega arith);
    } in
    subst (AllByRecursion (λ p. IsRange end p.0 p.1)) (sym (some_pieces n first (suc count) (omega arith)))
    (one, first_each n (first + p) (suc count - p) end (omega (arith, least, h)) (omega (arith, most, le)))

pub pieces_each : (first count : ℕ) → AllByRecursion (λ p. IsRange (first + count) p.0 p.1) (pieces first count)
pieces_each first count = first_each count first count (first + count) (omega arith) (omega arith)

-- the ranges that are left, after one of `k` blocks was taken
pub next_is : (first count k : ℕ) (left : List (ℕ × ℕ)) → pieces first count ≡ left → 0 < count → k ≡ piece first count
    → left ≡ (first, k) ∷ pieces (first + k) (count - k)
next_is first count k left view some is =
    sym view ∙ pieces_next first count some ∙ ap (λ (x : ℕ). (first, x) ∷ pieces (first + x) (count - x)) (sym is)
