-- The spans that bytes of a device are cut into, one after another.
use Rattle.std.proofs.Common.{◌≡◌, ◌⊎◌, inl, inr, ℕ, ◌+◌, ◌-◌, ◌*◌, ◌/◌, ◌%◌, ◌<◌, ◌≤◌, Bool, true, false, eqb, List, [], ◌∷◌, ◌++◌, map, refl, sym, ap, ◌∙◌, subst, append_assoc, arith}
use Rattle.std.proofs.Common.{eq-eqb}
use Rattle.std.specs.Prelude.{nat_le, nat_lt, min}
use Rattle.std.proofs.lemmas.Bool.{eqb-true}
use Rattle.std.proofs.lemmas.Bool.Decides.{nat_tests}
use Rattle.std.proofs.lemmas.List.{append-nil}
use Rattle.nbd.specs.Pieces.{piece, pieces}
use Rattle.nbd.specs.Spans.{Span, head, edge, whole, spans, span_length}
use Rattle.nbd.proofs.Cutting.{pieces_next, pieces_none, piece_within, not_zero}

pub edge_none : (at n : ℕ) → n ≡ 0 → edge at n ≡ []
edge_none at n none = rw none refl

pub edge_some : (at n : ℕ) → 0 < n → edge at n ≡ (at / 4096, (at % 4096, n)) ∷ []
edge_some at n some = rw (not_zero n some) refl

-- what follows the first `h` bytes
abbrev pub rest_of : ℕ → ℕ → ℕ → List Span
rest_of at left h =
    map whole (pieces ((at + h) / 4096) ((left - h) / 4096)) ++ edge (at + h + (left - h) / 4096 * 4096) ((left - h) % 4096)

-- whole blocks from a block on, and then some bytes of the next
abbrev pub body : ℕ → ℕ → ℕ → List Span
body b m t = map whole (pieces b m) ++ edge ((b + m) * 4096) t

body_same : (b c m n t u : ℕ) → b ≡ c → m ≡ n → t ≡ u → body b m t ≡ body c n u
body_same b c m n t u hb hm ht = ap (λ (x : ℕ). body x m t) hb ∙ ap (λ (x : ℕ). body c x t) hm ∙ ap (λ (x : ℕ). body c n x) ht

body_none : (b t : ℕ) → t ≡ 0 → body b 0 t ≡ []
body_none b t none =
    ap (λ (ps : List (ℕ × ℕ)). map whole ps ++ edge ((b + 0) * 4096) t) (pieces_none b 0 refl) ∙ edge_none ((b + 0) * 4096) t none

body_next : (b m t : ℕ) → 0 < m → body b m t ≡ whole (b, piece b m) ∷ body (b + piece b m) (m - piece b m) t
body_next b m t some =
    let p = piece b m in
    let end : b + m ≡ b + p + (m - p) = omega (arith, piece_within b m) in
    ap (λ (ps : List (ℕ × ℕ)). map whole ps ++ edge ((b + m) * 4096) t) (pieces_next b m some)
    ∙ ap (λ (x : ℕ). whole (b, p) ∷ (map whole (pieces (b + p) (m - p)) ++ edge (x * 4096) t)) end

rest_none : (at left h : ℕ) → left - h ≡ 0 → rest_of at left h ≡ []
rest_none at left h none =
    ap (λ (ps : List (ℕ × ℕ)). map whole ps ++ edge (at + h + (left - h) / 4096 * 4096) ((left - h) % 4096))
    (pieces_none ((at + h) / 4096) ((left - h) / 4096) (omega (arith, none)))
    ∙ edge_none (at + h + (left - h) / 4096 * 4096) ((left - h) % 4096) (omega (arith, none))

rest_aligned : (at left h : ℕ) → (at + h) % 4096 ≡ 0 → rest_of at left h ≡ body ((at + h) / 4096) ((left - h) / 4096) ((left - h) % 4096)
rest_aligned at left h aligned =
    let same : at + h + (left - h) / 4096 * 4096 ≡ ((at + h) / 4096 + (left - h) / 4096) * 4096 = omega (arith, aligned) in
    ap (λ (x : ℕ). map whole (pieces ((at + h) / 4096) ((left - h) / 4096)) ++ edge x ((left - h) % 4096)) same

with_head : (at left h : ℕ) → head at left ≡ h → spans at left ≡ edge at h ++ rest_of at left h
with_head at left h is =
    ap (λ (x : ℕ). edge at x ++ map whole (pieces ((at + x) / 4096) ((left - x) / 4096)) ++ edge (at + x + (left - x) / 4096 * 4096) ((left - x) % 4096)) is
    ∙ append_assoc (edge at h) (map whole (pieces ((at + h) / 4096) ((left - h) / 4096))) (edge (at + h + (left - h) / 4096 * 4096) ((left - h) % 4096))

-- from a block's first byte on
short_head : (at left : ℕ) → at % 4096 ≡ 0 → nat_lt left 4096 ≡ true → head at left ≡ left
short_head at left aligned short = rw (eq-eqb (at % 4096) 0 aligned, short) refl

long_head : (at left : ℕ) → at % 4096 ≡ 0 → nat_lt left 4096 ≡ false → head at left ≡ 0
long_head at left aligned long = rw (eq-eqb (at % 4096) 0 aligned, long) refl

pub below : (a b : ℕ) → nat_lt a b ≡ true → a < b
below a b h = grind (arith, nat_tests)

pub not_below : (a b : ℕ) → nat_lt a b ≡ false → b ≤ a
not_below a b h = grind (arith, nat_tests)

pub reached : (a b : ℕ) → nat_le a b ≡ true → a ≤ b
reached a b h = grind (arith, nat_tests)

pub not_reached : (a b : ℕ) → nat_le a b ≡ false → b < a
not_reached a b h = grind (arith, nat_tests)

aligned_by : (at left : ℕ) (short : Bool) → nat_lt left 4096 ≡ short → at % 4096 ≡ 0 → spans at left ≡ body (at / 4096) (left / 4096) (left % 4096)
aligned_by at left true is aligned =
    let less = below left 4096 is in
    let same : at ≡ (at / 4096 + 0) * 4096 = omega (arith, aligned) in
    with_head at left left (short_head at left aligned is)
    ∙ ap (λ (ss : List Span). edge at left ++ ss) (rest_none at left left (omega arith)) ∙ append-nil (edge at left)
    ∙ ap (λ (x : ℕ). edge x left) same
    ∙ sym (ap (λ (ps : List (ℕ × ℕ)). map whole ps ++ edge ((at / 4096 + 0) * 4096) left) (pieces_none (at / 4096) 0 refl))
    ∙ body_same (at / 4096) (at / 4096) 0 (left / 4096) left (left % 4096) refl (omega (arith, less)) (omega (arith, less))
aligned_by at left false is aligned =
    with_head at left 0 (long_head at left aligned is) ∙ rest_aligned at left 0 (omega (arith, aligned))
    ∙ body_same ((at + 0) / 4096) (at / 4096) ((left - 0) / 4096) (left / 4096) ((left - 0) % 4096) (left % 4096) (omega arith) (omega arith) (omega arith)

pub spans_aligned : (at left : ℕ) → at % 4096 ≡ 0 → spans at left ≡ body (at / 4096) (left / 4096) (left % 4096)
spans_aligned at left aligned = aligned_by at left (nat_lt left 4096) refl aligned

-- whole blocks
pub spans_whole : (first count : ℕ) → spans (first * 4096) (count * 4096) ≡ map whole (pieces first count)
spans_whole first count =
    spans_aligned (first * 4096) (count * 4096) (omega arith)
    ∙ body_same (first * 4096 / 4096) first (count * 4096 / 4096) count (count * 4096 % 4096) 0 (omega arith) (omega arith) (omega arith)
    ∙ ap (λ (ss : List Span). map whole (pieces first count) ++ ss) (edge_none ((first + count) * 4096) 0 refl) ∙ append-nil (map whole (pieces first count))

-- no bytes
none_by : (at : ℕ) (aligned : Bool) → eqb (at % 4096) 0 ≡ aligned → spans at 0 ≡ []
none_by at true is =
    spans_aligned at 0 (eqb-true (at % 4096) 0 is) ∙ body_same (at / 4096) (at / 4096) (0 / 4096) 0 (0 % 4096) 0 refl (omega arith) (omega arith)
    ∙ body_none (at / 4096) 0 refl
none_by at false is =
    let no : head at 0 ≡ min 0 (4096 - at % 4096) = rw is refl in
    with_head at 0 0 (no ∙ omega arith) ∙ rest_none at 0 0 (omega arith)

pub spans_none : (at : ℕ) → spans at 0 ≡ []
spans_none at = none_by at (eqb (at % 4096) 0) refl

-- the first span has so many bytes
abbrev IsNext : ℕ → ℕ → ℕ → Type 0
IsNext at left n = spans at left ≡ (at / 4096, (at % 4096, n)) ∷ spans (at + n) (left - n)

-- whole blocks come first
long_next : (at left p : ℕ) → at % 4096 ≡ 0 → p ≤ left / 4096
    → body (at / 4096) (left / 4096) (left % 4096) ≡ whole (at / 4096, p) ∷ body (at / 4096 + p) (left / 4096 - p) (left % 4096)
    → IsNext at left (p * 4096)
long_next at left p aligned most next =
    let b = at / 4096 in
    let m = left / 4096 in
    let t = left % 4096 in
    let after : spans (at + p * 4096) (left - p * 4096) ≡ body (b + p) (m - p) t =
    spans_aligned (at + p * 4096) (left - p * 4096) (omega (arith, aligned))
    ∙ body_same ((at + p * 4096) / 4096) (b + p) ((left - p * 4096) / 4096) (m - p) ((left - p * 4096) % 4096) t (omega (arith, aligned)) (omega (arith, most))
    (omega (arith, most)) in
    spans_aligned at left aligned ∙ next
    ∙ ap (λ (from : ℕ). (b, (from, p * 4096)) ∷ body (b + p) (m - p) t) (sym aligned)
    ∙ ap (λ (ss : List Span). (b, (at % 4096, p * 4096)) ∷ ss) (sym after)

-- some bytes of one block are all
last_next : (at left : ℕ) → at % 4096 ≡ 0 → left < 4096 → 0 < left → IsNext at left left
last_next at left aligned less some =
    let b = at / 4096 in
    let same : (b + 0) * 4096 ≡ at = omega (arith, aligned) in
    let end : left - left ≡ 0 = omega arith in
    spans_aligned at left aligned
    ∙ body_same b b (left / 4096) 0 (left % 4096) left refl (omega (arith, less)) (omega (arith, less))
    ∙ ap (λ (ps : List (ℕ × ℕ)). map whole ps ++ edge ((b + 0) * 4096) left) (pieces_none b 0 refl)
    ∙ ap (λ (x : ℕ). edge x left) same ∙ edge_some at left some
    ∙ sym (ap (λ (ss : List Span). (b, (at % 4096, left)) ∷ ss) (ap (λ (x : ℕ). spans (at + left) x) end ∙ spans_none (at + left)))

-- the bytes up to the end of a block come first
front_next : (at left h : ℕ) → head at left ≡ h → 0 < h → h ≤ left → ((at + h) % 4096 ≡ 0) ⊎ (left - h ≡ 0) → IsNext at left h
front_next at left h is some most (inl aligned) =
    with_head at left h is ∙ ap (λ (ss : List Span). ss ++ rest_of at left h) (edge_some at h some)
    ∙ ap (λ (ss : List Span). (at / 4096, (at % 4096, h)) ∷ ss) (rest_aligned at left h aligned ∙ sym (spans_aligned (at + h) (left - h) aligned))
front_next at left h is some most (inr none) =
    with_head at left h is ∙ ap (λ (ss : List Span). ss ++ rest_of at left h) (edge_some at h some)
    ∙ ap (λ (ss : List Span). (at / 4096, (at % 4096, h)) ∷ ss)
    (rest_none at left h none ∙ sym (ap (λ (x : ℕ). spans (at + h) x) none ∙ spans_none (at + h)))

ends_by : (at left : ℕ) (all : Bool) → nat_lt left (4096 - at % 4096) ≡ all
    → ((at + min left (4096 - at % 4096)) % 4096 ≡ 0) ⊎ (left - min left (4096 - at % 4096) ≡ 0)
ends_by at left true is = inr (omega (arith, below left (4096 - at % 4096) is))
ends_by at left false is = inl (omega (arith, not_below left (4096 - at % 4096) is))

front_ends : (at left : ℕ) → ((at + min left (4096 - at % 4096)) % 4096 ≡ 0) ⊎ (left - min left (4096 - at % 4096) ≡ 0)
front_ends at left = ends_by at left (nat_lt left (4096 - at % 4096)) refl

next_by : (at left : ℕ) (aligned long : Bool) → eqb (at % 4096) 0 ≡ aligned → nat_le 4096 left ≡ long → 0 < left → IsNext at left (span_length at left)
next_by at left true true is far some =
    let aligned = eqb-true (at % 4096) 0 is in
    let many = reached 4096 left far in
    let b = at / 4096 in
    let m = left / 4096 in
    let count : span_length at left ≡ piece b m * 4096 = rw (is, far) refl in
    subst (IsNext at left) (sym count)
    (long_next at left (piece b m) aligned (piece_within b m) (body_next b m (left % 4096) (omega (arith, many))))
next_by at left true false is far some =
    let aligned = eqb-true (at % 4096) 0 is in
    let less = not_reached 4096 left far in
    let count : span_length at left ≡ min left (4096 - at % 4096) = rw (is, far) refl in
    let all : min left (4096 - at % 4096) ≡ left = omega (arith, aligned, less) in
    subst (IsNext at left) (sym (count ∙ all)) (last_next at left aligned less some)
next_by at left false long is far some =
    let count : span_length at left ≡ min left (4096 - at % 4096) = rw is refl in
    let first : head at left ≡ min left (4096 - at % 4096) = rw is refl in
    subst (IsNext at left) (sym count)
    (front_next at left (min left (4096 - at % 4096)) first (omega (arith, some)) (omega arith) (front_ends at left))

-- the first span, and those of the rest
pub spans_next : (at left : ℕ) → 0 < left → spans at left ≡ (at / 4096, (at % 4096, span_length at left)) ∷ spans (at + span_length at left) (left - span_length at left)
spans_next at left some = next_by at left (eqb (at % 4096) 0) (nat_le 4096 left) refl refl some
