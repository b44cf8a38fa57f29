-- Spans cover the bytes that they were cut from.
use Rattle.std.proofs.Common.{◌≡◌, ◌⊎◌, ⊎_elim, inl, inr, ℕ, zero, suc, ◌+◌, ◌-◌, ◌*◌, ◌/◌, ◌%◌, ◌<◌, ◌≤◌, Bool, true, false, cond, eqb, List, [], ◌∷◌, ◌++◌, length, map, take, drop, replicate, refl, sym, ap, ◌∙◌, subst, arith}
use Rattle.std.proofs.Common.{eq-eqb}
use Rattle.std.specs.Prelude.{nat_le, nat_lt, min, filter, flat_map}
use Rattle.std.specs.List.{AllByRecursion}
use Rattle.std.proofs.lemmas.Bool.{eqb-true, eqb-false}
use Rattle.std.proofs.lemmas.List.{length-replicate, length-drop, take-append-drop}
use Rattle.device_parts.specs.Places.{Place}
use Rattle.nbd.specs.declared.command.NbdCommand.{NbdCommand}
use Rattle.nbd.specs.declared.command.NbdCommand.TheVariants as command
use Rattle.nbd.specs.Inside.{IsInside}
use Rattle.nbd.specs.Pieces.{Joins, piece, pieces}
use Rattle.nbd.specs.Requested.{Requested}
use Rattle.nbd.specs.Spans.{IsInsideSpan, IsWholeSpan, IsWithinSpan, JoinsBytes, Span, bytes_in, contents_as, contents_of, count_inside, covering, first_inside, is_edge, places, places_of, span_length, spans, trimmed, whole, written_as}
use Rattle.nbd.proofs.Answering.{none_of}
use Rattle.nbd.proofs.Cutting.{in_extent, pieces_join, pieces_none, piece_some, piece_within}
use Rattle.nbd.proofs.Spanning.{below, not_below, not_reached, reached, spans_next, spans_none}

-- the first span is a range of whole blocks
pub record IsWholeFirst (at left n : ℕ) : Type 0 where
  pub aligned : at % 4096 ≡ 0
  pub many : 4096 ≤ left
  pub blocks : n ≡ piece (at / 4096) (left / 4096) * 4096

-- or bytes within one block: all that are left, or up to its end
pub record IsPartFirst (at left n : ℕ) : Type 0 where
  pub some : 0 < n
  pub most : n ≤ left
  pub within : at % 4096 + n ≤ 4096
  pub ends : (left - n ≡ 0) ⊎ (((at + n) % 4096 ≡ 0) × (0 < at % 4096))

part_ends : (at left : ℕ) (all : Bool) → nat_lt left (4096 - at % 4096) ≡ all → 0 < at % 4096
    → (left - min left (4096 - at % 4096) ≡ 0) ⊎ (((at + min left (4096 - at % 4096)) % 4096 ≡ 0) × (0 < at % 4096))
part_ends at left true is later = inl (omega (arith, below left (4096 - at % 4096) is))
part_ends at left false is later = inr (omega (arith, not_below left (4096 - at % 4096) is), later)

kind_by : (at left : ℕ) (aligned long : Bool) → eqb (at % 4096) 0 ≡ aligned → nat_le 4096 left ≡ long → 0 < left
    → IsWholeFirst at left (span_length at left) ⊎ IsPartFirst at left (span_length at left)
kind_by at left true true is far some =
    inl (record { aligned = eqb-true (at % 4096) 0 is; many = reached 4096 left far; blocks = rw (is, far) refl })
kind_by at left true false is far some =
    let aligned = eqb-true (at % 4096) 0 is in
    let less = not_reached 4096 left far in
    let count : span_length at left ≡ min left (4096 - at % 4096) = rw (is, far) refl in
    let all : min left (4096 - at % 4096) ≡ left = omega (arith, aligned, less) in
    inr (subst (IsPartFirst at left) (sym (count ∙ all))
    (record { some = some; most = omega arith; within = omega (arith, aligned, less); ends = inl (omega arith) }))
kind_by at left false long is far some =
    let count : span_length at left ≡ min left (4096 - at % 4096) = rw is refl in
    let no = eqb-false (at % 4096) 0 is in
    let later : 0 < at % 4096 = omega (arith, no) in
    inr (subst (IsPartFirst at left) (sym count)
    (record {
      some = omega (arith, some);
      most = omega arith;
      within = omega arith;
      ends = part_ends at left (nat_lt left (4096 - at % 4096)) refl later;
    }))

pub first_kind : (at left : ℕ) → 0 < left → IsWholeFirst at left (span_length at left) ⊎ IsPartFirst at left (span_length at left)
first_kind at left some = kind_by at left (eqb (at % 4096) 0) (nat_le 4096 left) refl refl some

-- so many bytes
pub record IsCount (left n : ℕ) : Type 0 where
  pub some : 0 < n
  pub most : n ≤ left

blocks_count : (left n p : ℕ) → n ≡ p * 4096 → 0 < p → p ≤ left / 4096 → IsCount left n
blocks_count left n p is some most = record { some = omega (arith, is, some); most = omega (arith, is, most) }

counted : (at left n : ℕ) → IsWholeFirst at left n ⊎ IsPartFirst at left n → IsCount left n
counted at left n (inl w) =
    blocks_count left n (piece (at / 4096) (left / 4096)) w.blocks (piece_some (at / 4096) (left / 4096) (omega (arith, w.many)))
    (piece_within (at / 4096) (left / 4096))
counted at left n (inr part) = record { some = part.some; most = part.most }

pub first_count : (at left : ℕ) → 0 < left → IsCount left (span_length at left)
first_count at left some = counted at left (span_length at left) (first_kind at left some)

less_left : (k left n : ℕ) → IsCount (suc left) n → suc left ≤ suc k → suc left - n ≤ k
less_left k left n count h = omega (arith, count.some, h)

-- ---- they join

same_end : (at left n : ℕ) → IsCount left n → at + n + (left - n) ≡ at + left
same_end at left n count = omega (arith, count.most)

same_start : (at : ℕ) → at / 4096 * 4096 + at % 4096 ≡ at
same_start at = omega arith

joins_by : (k at left : ℕ) → left ≤ k → JoinsBytes at (spans at left) (at + left)
joins_by k at zero h = subst (λ (ss : List Span). JoinsBytes at ss (at + 0)) (sym (spans_none at)) (omega arith)
joins_by zero at (suc left) h = absurd (omega (arith, h))
joins_by (suc k) at (suc left) h =
    let some : 0 < suc left = omega arith in
    let n = span_length at (suc left) in
    let count = first_count at (suc left) some in
    let rest : JoinsBytes (at + n) (spans (at + n) (suc left - n)) (at + suc left) =
    subst (λ (x : ℕ). JoinsBytes (at + n) (spans (at + n) (suc left - n)) x) (same_end at (suc left) n count)
    (joins_by k (at + n) (suc left - n) (less_left k left n count h)) in
    subst (λ (ss : List Span). JoinsBytes at ss (at + suc left)) (sym (spans_next at (suc left) some)) (same_start at, rest)

pub spans_join : (at left : ℕ) → JoinsBytes at (spans at left) (at + left)
spans_join at left = joins_by left at left (omega arith)

-- ---- each is of whole blocks or within one

abbrev AreCut : ℕ → List Span → Type 0
AreCut end ss = AllByRecursion (λ (s : Span). IsWithinSpan s ⊎ IsWholeSpan end s) ss

fits_end : (at left p : ℕ) → at % 4096 ≡ 0 → p ≤ left / 4096 → at / 4096 + p ≤ (at + left) / 4096
fits_end at left p aligned most = omega (arith, aligned, most)

pub few_blocks : (b m : ℕ) → piece b m ≤ 32
few_blocks b m = omega arith

cut_first : (at left n : ℕ) → IsWholeFirst at left n ⊎ IsPartFirst at left n
    → IsWithinSpan (at / 4096, (at % 4096, n)) ⊎ IsWholeSpan (at + left) (at / 4096, (at % 4096, n))
cut_first at left n (inl w) =
    let b = at / 4096 in
    let m = left / 4096 in
    let many : 0 < m = omega (arith, w.many) in
    inr (record {
      count = piece b m;
      from = w.aligned;
      bytes = w.blocks;
      range = record {
        some = piece_some b m many;
        few = few_blocks b m;
        inside = fits_end at left (piece b m) w.aligned (piece_within b m);
        one_extent = in_extent b m many;
      };
    })
cut_first at left n (inr part) = inl (record { some = part.some; within = part.within })

cut_by : (k at left : ℕ) → left ≤ k → AreCut (at + left) (spans at left)
cut_by k at zero h = subst (AreCut (at + 0)) (sym (spans_none at)) tt
cut_by zero at (suc left) h = absurd (omega (arith, h))
cut_by (suc k) at (suc left) h =
    let some : 0 < suc left = omega arith in
    let n = span_length at (suc left) in
    let count = first_count at (suc left) some in
    let rest : AreCut (at + suc left) (spans (at + n) (suc left - n)) =
    subst (λ (x : ℕ). AreCut x (spans (at + n) (suc left - n))) (same_end at (suc left) n count)
    (cut_by k (at + n) (suc left - n) (less_left k left n count h)) in
    subst (AreCut (at + suc left)) (sym (spans_next at (suc left) some)) (cut_first at (suc left) n (first_kind at (suc left) some), rest)

pub spans_cut : (at left : ℕ) → AreCut (at + left) (spans at left)
spans_cut at left = cut_by left at left (omega arith)

-- ---- at most two are edges

abbrev edges : List Span → ℕ
edges ss = length (filter is_edge ss)

at_most_one : (b : Bool) (s : Span) (ss : List Span) → length (cond b (s ∷ ss) ss) ≤ 1 + length ss
at_most_one true s ss = omega arith
at_most_one false s ss = omega arith

edges_more : (s : Span) (ss : List Span) → edges (s ∷ ss) ≤ 1 + edges ss
edges_more s ss = at_most_one (is_edge s) s (filter is_edge ss)

left_out : (b : Bool) (s : Span) (ss : List Span) → b ≡ false → length (cond b (s ∷ ss) ss) ≡ length ss
left_out true s ss is = absurd cc
left_out false s ss is = refl

no_edge : (s : Span) (ss : List Span) → is_edge s ≡ false → edges (s ∷ ss) ≡ edges ss
no_edge s ss is = left_out (is_edge s) s (filter is_edge ss) is

whole_is_no_edge : (b from n : ℕ) → from ≡ 0 → n % 4096 ≡ 0 → is_edge (b, (from, n)) ≡ false
whole_is_no_edge b from n first blocks = rw (eq-eqb from 0 first, eq-eqb (n % 4096) 0 blocks) refl

still_aligned : (at n p : ℕ) → at % 4096 ≡ 0 → n ≡ p * 4096 → (at + n) % 4096 ≡ 0
still_aligned at n p aligned is = omega (arith, aligned, is)

blocks_even : (n p : ℕ) → n ≡ p * 4096 → n % 4096 ≡ 0
blocks_even n p is = omega (arith, is)

no_spans : (at left : ℕ) → left ≡ 0 → edges (spans at left) ≡ 0
no_spans at left none = ap (λ (x : ℕ). edges (spans at x)) none ∙ ap edges (spans_none at)

edges_from : (k at left n : ℕ) (ss : List Span) → at % 4096 ≡ 0 → IsWholeFirst at left n ⊎ IsPartFirst at left n
    → ((at + n) % 4096 ≡ 0 → edges ss ≤ 1) → (left - n ≡ 0 → edges ss ≡ 0) → edges ((at / 4096, (at % 4096, n)) ∷ ss) ≤ 1
edges_from k at left n ss aligned (inl w) later none =
    let same = no_edge (at / 4096, (at % 4096, n)) ss (whole_is_no_edge (at / 4096) (at % 4096) n aligned (blocks_even n (piece (at / 4096) (left / 4096)) w.blocks)) in
    omega (arith, same, later (still_aligned at n (piece (at / 4096) (left / 4096)) aligned w.blocks))
edges_from k at left n ss aligned (inr part) later none =
    let s : Span = (at / 4096, (at % 4096, n)) in
    let more = edges_more s ss in
    ⊎_elim (λ empty. omega (arith, more, none empty)) (λ (goes : ((at + n) % 4096 ≡ 0) × (0 < at % 4096)). absurd (omega (arith, aligned, goes.1))) part.ends

edges_by : (k at left : ℕ) → left ≤ k → at % 4096 ≡ 0 → edges (spans at left) ≤ 1
edges_by k at zero h aligned = omega (arith, no_spans at 0 refl)
edges_by zero at (suc left) h aligned = absurd (omega (arith, h))
edges_by (suc k) at (suc left) h aligned =
    let some : 0 < suc left = omega arith in
    let n = span_length at (suc left) in
    subst (λ (ss : List Span). edges ss ≤ 1) (sym (spans_next at (suc left) some))
    (edges_from k at (suc left) n (spans (at + n) (suc left - n)) aligned (first_kind at (suc left) some)
    (λ later. edges_by k (at + n) (suc left - n) (less_left k left n (first_count at (suc left) some) h) later)
    (λ none. no_spans (at + n) (suc left - n) none))

edges_any : (at left : ℕ) (ss : List Span) (n : ℕ) → IsPartFirst at left n → ((at + n) % 4096 ≡ 0 → edges ss ≤ 1) → (left - n ≡ 0 → edges ss ≡ 0)
    → edges ((at / 4096, (at % 4096, n)) ∷ ss) ≤ 2
edges_any at left ss n part later none =
    let s : Span = (at / 4096, (at % 4096, n)) in
    let more = edges_more s ss in
    ⊎_elim (λ empty. omega (arith, more, none empty)) (λ (goes : ((at + n) % 4096 ≡ 0) × (0 < at % 4096)). omega (arith, more, later goes.0)) part.ends

two_by : (at left : ℕ) (aligned : Bool) → eqb (at % 4096) 0 ≡ aligned → 0 < left → edges (spans at left) ≤ 2
two_by at left true is some = omega (arith, edges_by left at left (omega arith) (eqb-true (at % 4096) 0 is))
two_by at left false is some =
    let n = span_length at left in
    let no = eqb-false (at % 4096) 0 is in
    let part : IsPartFirst at left n = ⊎_elim (λ (w : IsWholeFirst at left n). absurd (no w.aligned)) (λ (p : IsPartFirst at left n). p) (first_kind at left some) in
    subst (λ (ss : List Span). edges ss ≤ 2) (sym (spans_next at left some))
    (edges_any at left (spans (at + n) (left - n)) n part (λ later. edges_by (left - n) (at + n) (left - n) (omega arith) later)
    (λ none. no_spans (at + n) (left - n) none))

pub two_edges : (at left : ℕ) → edges (spans at left) ≤ 2
two_edges at zero = omega (arith, no_spans at 0 refl)
two_edges at (suc left) = two_by at (suc left) (eqb (at % 4096) 0) refl (omega arith)

-- ---- a TRIM and a READ

joins_le : (first end : ℕ) (ps : List (ℕ × ℕ)) → Joins first ps end → first ≤ end
joins_le first end [] joined = omega (arith, joined)
joins_le first end (p ∷ ps) joined = omega (arith, joins_le (first + p.1) end ps joined.1)

whole_inside : (first end offset last : ℕ) (ps : List (ℕ × ℕ)) → Joins first ps end → offset ≤ first * 4096 → end * 4096 ≤ last
    → AllByRecursion (IsInsideSpan offset last) (map whole ps)
whole_inside first end offset last [] joined after before = tt
whole_inside first end offset last (p ∷ ps) joined after before =
    let le = joins_le (first + p.1) end ps joined.1 in (
      record { first_byte = omega (arith, joined.0, after); last_byte = omega (arith, joined.0, le, before) },
      whole_inside (first + p.1) end offset last ps joined.1 (omega (arith, after)) before,
    )

inside_by : (offset long count : ℕ) → count ≡ count_inside offset long → AllByRecursion (IsInsideSpan offset (offset + long)) (map whole (pieces (first_inside offset) count))
inside_by offset long zero is = subst (λ (ps : List (ℕ × ℕ)). AllByRecursion (IsInsideSpan offset (offset + long)) (map whole ps)) (sym (pieces_none (first_inside offset) 0 refl)) tt
inside_by offset long (suc count) is =
    whole_inside (first_inside offset) (first_inside offset + suc count) offset (offset + long) (pieces (first_inside offset) (suc count))
    (pieces_join (first_inside offset) (suc count)) (omega arith) (omega (arith, is))

pub trimmed_inside : (offset long : ℕ) → AllByRecursion (IsInsideSpan offset (offset + long)) (trimmed offset long)
trimmed_inside offset long = inside_by offset long (count_inside offset long) refl

pub covering_joins : (offset long : ℕ) → 0 < long → Joins (offset / 4096) (covering offset long) ((offset + long + 4095) / 4096)
covering_joins offset long some =
    let first = offset / 4096 in
    let count = (offset + long + 4095) / 4096 - first in
    let end : first + count ≡ (offset + long + 4095) / 4096 = omega (arith, some) in
    subst (Joins first (pieces first count)) end (pieces_join first count)

-- ---- the bytes of places

pub bytes_joined : (at end : ℕ) (ss : List Span) → JoinsBytes at ss end → at + bytes_in ss ≡ end
unfolding bytes_in
bytes_joined at end [] joined = omega (arith, joined)
bytes_joined at end (s ∷ ss) joined = omega (arith, bytes_joined (at + s.1.1) end ss joined.1)

pub spans_bytes : (at left : ℕ) → bytes_in (spans at left) ≡ left
spans_bytes at left = omega (arith, bytes_joined at (at + left) (spans at left) (spans_join at left))

pub places_bytes : (ss : List Span) (bytes : List ℕ) → length bytes ≡ bytes_in ss → flat_map (λ (p : Place). p.bytes) (places_of ss bytes) ≡ bytes
unfolding places_of bytes_in
places_bytes [] bytes long = sym (none_of bytes long)
places_bytes (s ∷ ss) bytes long =
    ap (λ (xs : List ℕ). take s.1.1 bytes ++ xs) (places_bytes ss (drop s.1.1 bytes) (omega (arith, length-drop s.1.1 bytes, long)))
    ∙ take-append-drop s.1.1 bytes

zeros_bytes : (ss : List Span) → flat_map (λ (p : Place). p.bytes) (places_of ss (replicate (bytes_in ss) 0)) ≡ replicate (bytes_in ss) 0
zeros_bytes ss = places_bytes ss (replicate (bytes_in ss) 0) (length-replicate (bytes_in ss) 0)

by_command : (c : NbdCommand) (offset long : ℕ) (payload : List ℕ) → (c ≡ command.Write → length payload ≡ long)
    → flat_map (λ (p : Place). p.bytes) (places_of (written_as c offset long) (contents_as c payload (written_as c offset long)))
    ≡ contents_as c payload (written_as c offset long)
by_command command.Write offset long payload whole = places_bytes (spans offset long) payload (whole refl ∙ sym (spans_bytes offset long))
by_command command.WriteZeroes offset long payload whole = zeros_bytes (spans offset long)
by_command command.Trim offset long payload whole = zeros_bytes (trimmed offset long)
by_command command.Read offset long payload whole = zeros_bytes []
by_command command.Disconnect offset long payload whole = zeros_bytes []
by_command command.Flush offset long payload whole = zeros_bytes []
by_command command.BlockStatus offset long payload whole = zeros_bytes []

pub request_bytes : (blocks : ℕ) (r : Requested) → IsInside blocks r → flat_map (λ (p : Place). p.bytes) (places r) ≡ contents_of r
request_bytes blocks r inside = by_command r.command r.offset r.length r.payload inside.payload
