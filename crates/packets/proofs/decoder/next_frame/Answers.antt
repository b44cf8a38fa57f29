-- A frame that is whole has its header and the payload that its header announces.
use Rattle.std.proofs.Common.{◌≡◌, ℕ, ◌+◌, ◌-◌, ◌≤◌, List, ◌++◌, length, take, drop, ap, sym, ◌∙◌, subst, arith, inr, true, Option, Some, Ok, Err}
use Rattle.std.proofs.lemmas.List.{length-append, length-take, length-drop}
use Rattle.std.proofs.lemmas.Result.{err_from_is_err_and}
use Rattle.packets.specs.declared.header.Header.{Header}
use Rattle.packets.specs.Reading.{payload_at}
use Rattle.packets.specs.Stream.{IsPart}
use Rattle.packets.specs.Steps.{IsJudged}
use Rattle.packets.specs.Table.{is_length}
use Rattle.packets.proofs.Rows.{header_length, part_within}
use Rattle.packets.proofs.Steps.{joined_whole, whole_goes, whole_stops}
use Rattle.packets.proofs.decoder.next_frame.Goals as goal

pub overflow_sub-missing : goal.overflow_sub-missing
overflow_sub-missing c =
    let judged : IsJudged (Ok (Some c.in-Some.header)) (c.args.front.now ++ c.args.piece.now) =
    subst (λ o. IsJudged (Ok o) (c.args.front.now ++ c.args.piece.now)) c.in-Some.is c.in_ok-header.ensures in
    omega (arith, part_within c.args.header c.args.front.now c.args.piece.now c.in-Some.header c.requires judged.1)

-- a frame is as long as its header says
frame_length : (o : Option Header) (front piece end frame : List ℕ) (h : Header) → IsPart o front → IsJudged (Ok (Some h)) (front ++ piece)
    → 8 + h.len - length front ≤ length piece → end ≡ take (8 + h.len - length front) piece → frame ≡ front ++ end → length frame ≡ 8 + h.len
frame_length o front piece end frame h part judged long e f =
    let within = part_within o front piece h part judged.1 in
    ap length f ∙ omega (arith, length-append front end, ap length e, length-take (8 + h.len - length front) piece, within)

pub packet_of-requires-clause-whole : goal.packet_of-requires-clause-whole
packet_of-requires-clause-whole c =
    let h = c.in-Some.header in
    let front = c.args.front.now in
    let judged : IsJudged (Ok (Some h)) (front ++ c.args.piece.now) =
    subst (λ o. IsJudged (Ok o) (front ++ c.args.piece.now)) c.in-Some.is c.in_ok-header.ensures in
    frame_length c.args.header front c.args.piece.now c.split_at.result.0.now c.in_ok-frame.frame h c.requires judged c.if-piece-missing.false
    c.split_at.ensures.front c.in_ok-frame.ensures.joined

pub packet_of-requires-clause-row : goal.packet_of-requires-clause-row
packet_of-requires-clause-row c =
    let h = c.in-Some.header in
    let front = c.args.front.now in
    let judged : IsJudged (Ok (Some h)) (front ++ c.args.piece.now) =
    subst (λ o. IsJudged (Ok o) (front ++ c.args.piece.now)) c.in-Some.is c.in_ok-header.ensures in
    header_length _ h judged.1

pub returns-in_err-packet_of : goal.returns-in_err-packet_of
returns-in_err-packet_of c =
    let h = c.in-Some.header in
    let front = c.args.front.now in
    let piece = c.args.piece.now in
    let frame = c.in_ok-frame.frame in
    let judged : IsJudged (Ok (Some h)) (front ++ piece) = subst (λ o. IsJudged (Ok o) (front ++ piece)) c.in-Some.is c.in_ok-header.ensures in
    let long = frame_length c.args.header front piece c.split_at.result.0.now frame h c.requires judged c.if-piece-missing.false c.split_at.ensures.front
    c.in_ok-frame.ensures.joined in
    let is = joined_whole front piece c.split_at.result.0.now c.split_at.result.1.now frame (8 + h.len - length front) h c.split_at.ensures.front
    c.split_at.ensures.back
    c.in_ok-frame.ensures.joined long judged.1 (λ i. omega (arith, c.type_inv.front i)) (λ i. omega (arith, c.type_inv.piece i)) in
    let rest : length (drop 8 frame) ≡ h.len = omega (arith, length-drop 8 frame, long) in
    let row : is_length h.command (length (drop 8 frame)) ≡ true = ap (is_length h.command) rest ∙ header_length _ h judged.1 in
    let said : payload_at h.command (drop 8 frame) ≡ Err c.in_err-packet_of.field-0.0 = sym c.packet_of.ensures ∙ c.in_err-packet_of.was in
    let p = err_from_is_err_and c.from_residual-in_err-packet_of.result c.from_residual-in_err-packet_of.ensures.1 in
    rw (p.1, p.2) (inr (whole_stops (front ++ piece) frame c.split_at.result.1.now h c.in_err-packet_of.field-0.0 is row said))

pub returns : goal.returns
returns c =
    let h = c.in-Some.header in
    let front = c.args.front.now in
    let piece = c.args.piece.now in
    let frame = c.in_ok-frame.frame in
    let judged : IsJudged (Ok (Some h)) (front ++ piece) = subst (λ o. IsJudged (Ok o) (front ++ piece)) c.in-Some.is c.in_ok-header.ensures in
    let long = frame_length c.args.header front piece c.split_at.result.0.now frame h c.requires judged c.if-piece-missing.false c.split_at.ensures.front
    c.in_ok-frame.ensures.joined in
    let is = joined_whole front piece c.split_at.result.0.now c.split_at.result.1.now frame (8 + h.len - length front) h c.split_at.ensures.front
    c.split_at.ensures.back
    c.in_ok-frame.ensures.joined long judged.1 (λ i. omega (arith, c.type_inv.front i)) (λ i. omega (arith, c.type_inv.piece i)) in
    let said : payload_at h.command (drop 8 frame) ≡ Ok c.in_ok-packet_of.field-0 = sym c.packet_of.ensures ∙ c.in_ok-packet_of.was in
    whole_goes (front ++ piece) frame c.split_at.result.1.now h c.in_ok-packet_of.field-0 is said
