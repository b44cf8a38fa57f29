-- The pieces of what a request writes, one after another.
use Rattle.std.proofs.Common.{◌≡◌, ◌⊎◌, inl, inr, ℕ, ◌+◌, ◌-◌, ◌*◌, ◌/◌, ◌%◌, ◌<◌, ◌≤◌, List, [], ◌∷◌, map, take, drop, replicate, refl, sym, ap, ◌∙◌, arith}
use Rattle.device_parts.specs.Places.{Place}
use Rattle.nbd.specs.declared.command.NbdCommand.{NbdCommand}
use Rattle.nbd.specs.declared.command.NbdCommand.TheVariants as command
use Rattle.nbd.specs.Pieces.{piece}
use Rattle.nbd.specs.Requested.{Requested}
use Rattle.nbd.specs.Spans.{Span, bytes_in, contents_as, count_inside, first_inside, places, places_of, span_length, spans, trimmed, whole, written_as}
use Rattle.nbd.proofs.Covering.{IsPartFirst, IsWholeFirst, few_blocks, first_kind, spans_bytes}
use Rattle.nbd.proofs.Cutting.{pieces_none}
use Rattle.nbd.proofs.Spanning.{spans_next, spans_none, spans_whole}

-- the piece of so many bytes
abbrev pub first_place : ℕ → ℕ → List ℕ → Place
first_place at n contents = record { block = at / 4096; from = at % 4096; bytes = take n contents }

pub places_next : (at left : ℕ) (contents : List ℕ) → 0 < left → (let n = span_length at left in
    places_of (spans at left) contents ≡ first_place at n contents ∷ places_of (spans (at + n) (left - n)) (drop n contents))
unfolding places_of
places_next at left contents some = ap (λ (ss : List Span). places_of ss contents) (spans_next at left some)

pub places_none : (at left : ℕ) (contents : List ℕ) → left ≡ 0 → places_of (spans at left) contents ≡ []
unfolding places_of
places_none at left contents none =
    ap (λ (x : ℕ). places_of (spans at x) contents) none ∙ ap (λ (ss : List Span). places_of ss contents) (spans_none at)

-- the whole blocks inside
pub trimmed_spans : (offset long : ℕ) → trimmed offset long ≡ spans (first_inside offset * 4096) (count_inside offset long * 4096)
trimmed_spans offset long = sym (spans_whole (first_inside offset) (count_inside offset long))

pub trimmed_bytes : (offset long : ℕ) → bytes_in (trimmed offset long) ≡ count_inside offset long * 4096
trimmed_bytes offset long =
    ap bytes_in (trimmed_spans offset long) ∙ spans_bytes (first_inside offset * 4096) (count_inside offset long * 4096)

pub nothing_inside : (offset long : ℕ) (contents : List ℕ) → count_inside offset long ≡ 0 → places_of (trimmed offset long) contents ≡ []
unfolding places_of
nothing_inside offset long contents none =
    ap (λ (ps : List (ℕ × ℕ)). places_of (map whole ps) contents) (pieces_none (first_inside offset) (count_inside offset long) none)

-- no piece has more than 32 blocks
few_bytes : (n p : ℕ) → n ≡ p * 4096 → p ≤ 32 → n ≤ 131072
few_bytes n p is few = omega (arith, is, few)

longest_by : (at left n : ℕ) → IsWholeFirst at left n ⊎ IsPartFirst at left n → n ≤ 131072
longest_by at left n (inl w) = few_bytes n (piece (at / 4096) (left / 4096)) w.blocks (few_blocks (at / 4096) (left / 4096))
longest_by at left n (inr part) = omega (arith, part.within)

pub longest : (at left : ℕ) → 0 < left → span_length at left ≤ 131072
longest at left some = longest_by at left (span_length at left) (first_kind at left some)

-- the first piece was taken
pub place_taken : (at left count : ℕ) (contents bytes rest : List ℕ) (piece : Place) → 0 < left → count ≡ span_length at left
    → bytes ≡ take count contents → rest ≡ drop count contents → piece ≡ record { block = at / 4096; from = at % 4096; bytes = bytes }
    → places_of (spans at left) contents ≡ piece ∷ places_of (spans (at + count) (left - count)) rest
place_taken at left count contents bytes rest piece some is front back made =
    let from : List ℕ → Place = λ (xs : List ℕ). record { block = at / 4096; from = at % 4096; bytes = xs } in
    let same : first_place at (span_length at left) contents ≡ piece =
    ap (λ (n : ℕ). from (take n contents)) (sym is) ∙ ap from (sym front) ∙ sym made in
    places_next at left contents some
    ∙ ap (λ (p : Place). p ∷ places_of (spans (at + span_length at left) (left - span_length at left)) (drop (span_length at left) contents)) same
    ∙ ap (λ (n : ℕ). piece ∷ places_of (spans (at + n) (left - n)) (drop n contents)) (sym is)
    ∙ ap (λ (xs : List ℕ). piece ∷ places_of (spans (at + count) (left - count)) xs) (sym back)

-- zeros for the whole blocks inside
pub trimmed_zeros : (offset long first count : ℕ) → first ≡ first_inside offset → count ≡ count_inside offset long
    → places_of (spans (first * 4096) (count * 4096)) (replicate (count * 4096) 0) ≡ places_of (trimmed offset long) (replicate (bytes_in (trimmed offset long)) 0)
trimmed_zeros offset long first count from is =
    ap (λ (x : ℕ). places_of (spans (x * 4096) (count * 4096)) (replicate (count * 4096) 0)) from
    ∙ ap (λ (x : ℕ). places_of (spans (first_inside offset * 4096) (x * 4096)) (replicate (x * 4096) 0)) is
    ∙ ap (λ (ss : List Span). places_of ss (replicate (count_inside offset long * 4096) 0)) (sym (trimmed_spans offset long))
    ∙ ap (λ (x : ℕ). places_of (trimmed offset long) (replicate x 0)) (sym (trimmed_bytes offset long))

-- ---- by the command

pub places_written : (r : Requested) → r.command ≡ command.Write → places r ≡ places_of (spans r.offset r.length) r.payload
places_written r is =
    ap (λ (c : NbdCommand). places_of (written_as c r.offset r.length) (contents_as c r.payload (written_as c r.offset r.length))) is

pub places_zeroed : (r : Requested) → r.command ≡ command.WriteZeroes → places r ≡ places_of (spans r.offset r.length) (replicate r.length 0)
places_zeroed r is =
    ap (λ (c : NbdCommand). places_of (written_as c r.offset r.length) (contents_as c r.payload (written_as c r.offset r.length))) is
    ∙ ap (λ (n : ℕ). places_of (spans r.offset r.length) (replicate n 0)) (spans_bytes r.offset r.length)

pub places_trimmed : (r : Requested) → r.command ≡ command.Trim
    → places r ≡ places_of (trimmed r.offset r.length) (replicate (bytes_in (trimmed r.offset r.length)) 0)
places_trimmed r is =
    ap (λ (c : NbdCommand). places_of (written_as c r.offset r.length) (contents_as c r.payload (written_as c r.offset r.length))) is

-- any other command has none
no_places : (c : NbdCommand) (r : Requested) → r.command ≡ c → written_as c r.offset r.length ≡ [] → places r ≡ []
unfolding places_of
no_places c r is none =
    ap (λ (d : NbdCommand). places_of (written_as d r.offset r.length) (contents_as d r.payload (written_as d r.offset r.length))) is
    ∙ ap (λ (ss : List Span). places_of ss (contents_as c r.payload ss)) none

pub places_nothing : (r : Requested)
    → (r.command ≡ command.Read) ⊎ ((r.command ≡ command.Disconnect) ⊎ ((r.command ≡ command.Flush) ⊎ (r.command ≡ command.BlockStatus))) → places r ≡ []
places_nothing r (inl is) = no_places command.Read r is refl
places_nothing r (inr (inl is)) = no_places command.Disconnect r is refl
places_nothing r (inr (inr (inl is))) = no_places command.Flush r is refl
places_nothing r (inr (inr (inr is))) = no_places command.BlockStatus r is refl
