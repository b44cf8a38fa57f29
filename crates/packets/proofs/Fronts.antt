-- What the front of a frame tells of the whole frame.
use Rattle.std.proofs.Common.{◌≡◌, ◌≢◌, ℕ, zero, suc, ◌+◌, ◌<◌, ◌≤◌, true, List, [], ◌∷◌, ◌++◌, length, take, drop, get_or, refl, sym, ap, subst, ◌∙◌, arith, Result, Err, inl, inr}
use Rattle.std.proofs.lemmas.List.{length-append, length-take, length-drop, take-append-drop, take-append-le, drop-append-le, drop-take}
use Rattle.std.proofs.Math.Seq.{drop-append_seam}
use Rattle.std.proofs.lemmas.Bool.{cases_lt}
use Rattle.blocks.specs.declared.refusal.Refusal.{Refusal}
use Rattle.blocks.specs.declared.refusal.Refusal.TheVariants.{BadField, BadLength}
use Rattle.packets.specs.Frames.{IsFaultAfter, IsFrameFault}
use Rattle.packets.specs.declared.header.Header.{Header}
use Rattle.packets.specs.declared.packet.Packet.{Packet}
use Rattle.packets.specs.declared.packet.Packet.TheVariants as packet
use Rattle.packets.specs.Numbers.{number_in}
use Rattle.packets.specs.Reading.{header_at}
use Rattle.packets.specs.Table.{has_blocks}
use Rattle.packets.specs.Written.{front}
use Rattle.packets.proofs.Digits.{IsBytes}
use Rattle.packets.proofs.Rows.{header_front}
use Rattle.packets.proofs.Steps.{header_no_field}
use Rattle.packets.proofs.Widths.{number_bytes_length, number_in_front}

-- a front that is stored apart has the frame's first bytes
pub fronted_take : (first blocks : List ℕ) → length first ≡ 32 → take 32 first ≡ take 32 (first ++ blocks)
fronted_take first blocks e = sym (take-append-le 32 first blocks (omega (arith, e)))

-- and the blocks are what follows it
pub fronted_drop : (first blocks : List ℕ) → length first ≡ 32 → blocks ≡ drop 32 (first ++ blocks)
fronted_drop first blocks e = sym (subst (λ (n : ℕ). drop n (first ++ blocks) ≡ blocks) e (drop-append_seam first blocks))

-- what the first 32 bytes of a frame with blocks say behind the header
pub numbers_seen : (width place : ℕ) (first frame bytes : List ℕ) → 32 ≤ length frame → take 32 first ≡ take 32 frame → bytes ≡ take 24 (drop 8 first)
    → place + width ≤ 24 → number_in width place bytes ≡ number_in width place (drop 8 frame)
numbers_seen width place first frame bytes long same is fits =
    let seen : bytes ≡ drop 8 (take 32 frame) = is ∙ sym (drop-take 8 24 first) ∙ ap (drop 8) same in
    let count : length (take 32 frame) ≡ 32 = omega (arith, long, length-take 32 frame) in
    let behind : drop 8 frame ≡ drop 8 (take 32 frame) ++ drop 32 frame =
    ap (drop 8) (sym (take-append-drop 32 frame)) ∙ drop-append-le 8 (take 32 frame) (drop 32 frame) (omega (arith, count)) in
    let whole : drop 8 frame ≡ bytes ++ drop 32 frame = behind ∙ ap (λ (x : List ℕ). x ++ drop 32 frame) (sym seen) in
    let enough : place + width ≤ length bytes = omega (arith, fits, ap length seen, length-drop 8 (take 32 frame), count) in
    sym (ap (number_in width place) whole ∙ number_in_front width place bytes (drop 32 frame) enough)

-- a front of at least 32 bytes, if the frame has so many
pub numbers_there : (first frame : List ℕ) → 32 ≤ length frame → take 32 first ≡ take 32 frame → 32 ≤ length first
numbers_there first frame long same = omega (arith, long, ap length same, length-take 32 first, length-take 32 frame)

-- the header is in the front
pub header_seen : (first rest frame : List ℕ) → first ++ rest ≡ frame → 8 ≤ length first → header_at first ≡ header_at frame
header_seen first rest frame e h = sym (header_front first rest h) ∙ ap header_at e

-- a front without a header is the front of a frame without one
pub no_header : (first frame : List ℕ) → take 32 first ≡ take 32 frame → length first < 8 → length frame < 8
no_header first frame same few = omega (arith, few, ap length same, length-take 32 first, length-take 32 frame)

-- bytes behind bytes are bytes
pub bytes_joined : (xs ys : List ℕ) → IsBytes xs → IsBytes ys → IsBytes (xs ++ ys)
bytes_joined [] ys hx hy i = hy i
bytes_joined (x ∷ xs) ys hx hy zero = hx 0
bytes_joined (x ∷ xs) ys hx hy (suc i) = bytes_joined xs ys (λ j. hx (suc j)) hy i

-- the front of a packet with blocks is its header and its numbers
pub front_length : (p : Packet) → has_blocks p ≡ true → length (front p) ≡ 32
unfolding front
front_length (packet.Protocol protocol) e = absurd cc
front_length (packet.Sizes blocks) e = absurd cc
front_length (packet.Uuids t) e = absurd cc
front_length (packet.Data first number place contents) e = simp (length-append, number_bytes_length) (omega arith)
front_length (packet.RsDataReply first place contents) e = simp (length-append, number_bytes_length) (omega arith)
front_length (packet.Barrier number) e = absurd cc
front_length (packet.SyncUuid word) e = absurd cc
front_length (packet.RecvAck ack) e = absurd cc
front_length (packet.WriteAck ack) e = absurd cc
front_length (packet.RsWriteAck ack) e = absurd cc
front_length (packet.BarrierAck number size) e = absurd cc

abbrev refused : Refusal → Result Header Refusal
refused e = Err e

same_refusal : (a b : Refusal) → refused a ≡ refused b → a ≡ b
same_refusal a b e = cc

apart : BadLength ≢ BadField
apart e = cc

-- what is refused of a header is the frame's first fault, and no fault of its fields
pub header_fault : (frame : List ℕ) (r : Result Header Refusal) (e : Refusal) → r ≡ Err e → (8 ≤ length frame → r ≡ header_at frame)
    → (length frame < 8 → r ≡ Err BadLength) → IsFrameFault frame e × (e ≢ BadField)
header_fault frame r e was judged none =
    elim (cases_lt (length frame) 8) [
      | inl few ↦
          let same : e ≡ BadLength = same_refusal e BadLength (sym was ∙ none few) in
          (inl (few, same), λ (field : e ≡ BadField). apart (sym same ∙ field))
      | inr many ↦
          let at : header_at frame ≡ Err e = sym (judged many) ∙ was in
          (inr (many, subst (λ (x : Result Header Refusal). IsFaultAfter x frame e) (sym at) refl), header_no_field frame e at)
    ]
