-- The portions of a READ.
use Rattle.std.proofs.Common.{ℕ, zero, suc, ◌≡◌, ◌+◌, ◌-◌, ◌<◌, ◌≤◌, List, [], ◌∷◌, sym, ◌∙◌, ap, subst, refl, arith}
use Rattle.std.specs.List.{AllByRecursion}
use Rattle.nbd.specs.Pieces.{Joins}
use Rattle.serve_requests.specs.Portions.{ArePortions}
use Rattle.serve_requests.specs.Reading.{ReadingState, after, portion}

-- a portion has a byte, where one is left, and no more than are left
portion-some : (r : ReadingState) → r.told < r.request.length → 0 < portion r
portion-some r some = omega (arith, some)

portion-left : (r : ReadingState) → r.told ≤ r.request.length → r.told + portion r ≤ r.request.length
portion-left r most = omega (arith, most)

portion-few : (r : ReadingState) → portion r ≤ 1048576
portion-few r = omega arith

-- they begin where the one before ends
joined-from : (r : ReadingState) (ps : List (ℕ × ℕ)) (end : ℕ) → end ≡ r.request.offset + r.request.length → ArePortions r ps
    → Joins (r.request.offset + r.told) ps end
joined-from r [] end is are = ap (λ n. r.request.offset + n) are ∙ sym is
joined-from r (p ∷ ps) end is are = (
  ap (λ (q : ℕ × ℕ). q.0) are.1.0,
  subst (λ n. Joins n ps end) (omega (arith, ap (λ (q : ℕ × ℕ). q.1) are.1.0)) (joined-from (after r) ps end is are.1.1),
)

pub portions-joined : (r : ReadingState) (ps : List (ℕ × ℕ)) → r.told ≡ 0 → ArePortions r ps
    → Joins r.request.offset ps (r.request.offset + r.request.length)
portions-joined r ps none are =
    subst (λ n. Joins n ps (r.request.offset + r.request.length)) (omega (arith, none)) (joined-from r ps (r.request.offset + r.request.length) (omega arith) are)

-- each has some bytes
pub portions-some : (r : ReadingState) (ps : List (ℕ × ℕ)) → ArePortions r ps → AllByRecursion (λ p. (0 < p.1) × (p.1 ≤ 1048576)) ps
portions-some r [] are = tt
portions-some r (p ∷ ps) are =
    let long : p.1 ≡ portion r = ap (λ (q : ℕ × ℕ). q.1) are.1.0 in
    ((omega (arith, long, portion-some r are.0), omega (arith, long, portion-few r)), portions-some (after r) ps are.1.1)

-- there is a last one
end-by : (left : ℕ) (r : ReadingState) → r.told + left ≡ r.request.length → (most : ℕ) → left ≤ most → (ps : List (ℕ × ℕ)) × ArePortions r ps
end-by zero r is most few = ([], omega (arith, is))
end-by (suc left) r is zero few = absurd (omega (arith, few))
end-by (suc left) r is (suc most) few =
    let some : r.told < r.request.length = omega (arith, is) in
    let one : 0 < portion r = portion-some r some in
    let fits : r.told + portion r ≤ r.request.length = portion-left r (omega (arith, some)) in
    let rest : (ps : List (ℕ × ℕ)) × ArePortions (after r) ps
    = end-by (r.request.length - (r.told + portion r)) (after r) (omega (arith, fits)) most (omega (arith, fits, one, is, few)) in
    ((r.request.offset + r.told, portion r) ∷ rest.0, (some, (refl, rest.1)))

pub portions-end : (r : ReadingState) → r.told ≤ r.request.length → (ps : List (ℕ × ℕ)) × ArePortions r ps
portions-end r most = end-by (r.request.length - r.told) r (omega (arith, most)) (r.request.length - r.told) (omega arith)
