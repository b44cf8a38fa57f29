-- An end that refuses a frame has all effects of a close: its step leaves what the close leaves once the frame counts as taken.
use Rattle.std.proofs.Common.{◌+◌, ◌-◌, ◌⊎◌, drop, take, filter, arith, ℕ, zero, suc, ◌≡◌, Bool, true, false, ◌||◌, List, [], ◌∷◌, ◌++◌, length}
use Rattle.std.proofs.Common.{Option, Some, None, Result, Ok, Err, refl, ap, inl, inr, sym, ◌∙◌}
use Rattle.std.specs.Prelude.{filter_map}
use Rattle.std.proofs.Math.Seq.{take-append_seam}
use Rattle.std.proofs.lemmas.List.{length-append}
use Rattle.model.specs.Contents.{overlay}
use Rattle.model.specs.Stream.{StreamItem, placed, layers_of}
use Rattle.model.specs.Frames.{counting}
use Rattle.model.specs.Secondary.{received_item, items_taken, is_pending, map_of}
use Rattle.std.specs.Prelude.{if◌then◌else◌}
use Rattle.std.proofs.lemmas.Bool.{both_ways}
use Rattle.blocks.specs.declared.tuple.Tuple.{Tuple}
use Rattle.blocks.specs.declared.refusal.Refusal.{Refusal}
use Rattle.blocks.specs.declared.refusal.Refusal.TheVariants.{NotConnected, UsedIdentifier}
use Rattle.blocks.specs.declared.outcome.Decision.{Decision}
use Rattle.blocks.specs.declared.outcome.What.{What}
use Rattle.blocks.specs.declared.outcome.What.TheVariants as what
use Rattle.blocks.specs.declared.outcome.Reply.{Reply}
use Rattle.blocks.specs.declared.outcome.Reply.TheVariants as reply
use Rattle.model.specs.Frames.{Packet, DataFrame, RsDataReplyFrame, BarrierFrame, ProtocolFrame, UuidsFrame, SizesFrame, SyncUuidFrame, RecvAckFrame}
use Rattle.model.specs.Frames.{WriteAckFrame, RsWriteAckFrame, BarrierAckFrame, Received}
use Rattle.model.specs.Refusals.{first_refusal, done_with}
use Rattle.model.specs.Identifiers.{stands_in, decision}
use Rattle.model.specs.Primary.{PrimaryHistory, PrimaryConnection, primary_connection, with_primary_connection, no_primary_connection, last_of, change_last}
use Rattle.model.specs.PrimarySteps.{follows, closing, close_primary}
use Rattle.model.specs.Acknowledgements.{Taken, begun_with, meeting, taking_hello, taking_ack, taking, take_frame, ack_in}
use Rattle.model.specs.Secondary.{SecondaryHistory, SecondaryConnection, secondary_connection, with_secondary_connection, pending, no_secondary_connection}
use Rattle.model.specs.SecondarySteps.{take_item, receive, close_secondary}
use Rattle.laws.specs.Statements.{is_refused_frame, seen_after, with_refused, with_refused_too, RefusedFramesCloseThePrimary, RefusedFramesCloseTheSecondary}
use Rattle.laws.specs.Statements.{RefusedFramesLeaveTheItems}
use Rattle.laws.proofs.Lists.Last.{change-twice, last-change}
use Rattle.laws.proofs.Primary.Moves.{with_frame}
use Rattle.laws.proofs.Secondary.Moves.{framed, closed_end}
use Rattle.std.proofs.Common.{subst}
use Rattle.laws.proofs.Rules.Memory.{ack-in-has, receive-has}
use Rattle.laws.proofs.Rules.RefusedFrames.{refusing, refusing_frame, refusing-last, refusing_too, refused_end, refused-last-too, frame-has, item-has}

-- What a refused frame leaves of the primary's history, beside the frame.

-- the history, but for the peer's tuple last seen
abbrev IsLeft : PrimaryHistory → Option Tuple → Taken → Type 0
IsLeft h peer (Ok done) = Unit {0}
IsLeft h peer (Err error) = error.1 ≡ record h { peer = peer }

-- a frame that is taken, or refused
left-if : (h : PrimaryHistory) (peer : Option Tuple) (holds : Bool) (done : What × PrimaryHistory) (error : Refusal × PrimaryHistory)
    → error.1 ≡ record h { peer = peer } → IsLeft h peer (if holds then Ok done else Err error)
left-if h peer true done error left = tt
left-if h peer false done error left = left

-- the peer's tuple
meeting-left : (peer : Tuple) (h : PrimaryHistory) → IsLeft h (Some peer) (meeting peer h)
meeting-left peer h = go (stands_in (primary_connection h).sync peer || stands_in (primary_connection h).loss peer) (decision h.tuple peer)
  where
    seen : PrimaryHistory
    seen = record h { peer = Some peer }

    go : (used : Bool) (d : Result Decision Refusal)
        → IsLeft h (Some peer) (elim used as (λ _. Taken) [
          | true ↦ Err (UsedIdentifier, seen)
          | false ↦ elim d as (λ _. Taken) [ Err refusal ↦ Err (refusal, seen) | Ok decided ↦ Ok (what.Decided decided, begun_with decided seen) ]
        ])
    go true d = refl
    go false (Ok decided) = tt
    go false (Err refusal) = refl

-- a frame of the hello
hello-left : (n : ℕ) (packet : Packet) (h : PrimaryHistory) → IsLeft h (seen_after n (Ok packet) h.peer) (taking_hello n packet h)
hello-left zero (DataFrame write place) h = refl
hello-left zero (RsDataReplyFrame block contents place) h = refl
hello-left zero (BarrierFrame number) h = refl
hello-left zero (ProtocolFrame asked) h = left-if h _ _ _ _ refl
hello-left zero (UuidsFrame tuple) h = refl
hello-left zero (SizesFrame blocks) h = refl
hello-left zero (SyncUuidFrame word) h = refl
hello-left zero (RecvAckFrame of) h = refl
hello-left zero (WriteAckFrame of) h = refl
hello-left zero (RsWriteAckFrame of) h = refl
hello-left zero (BarrierAckFrame number size) h = refl
hello-left (suc zero) (DataFrame write place) h = refl
hello-left (suc zero) (RsDataReplyFrame block contents place) h = refl
hello-left (suc zero) (BarrierFrame number) h = refl
hello-left (suc zero) (ProtocolFrame asked) h = refl
hello-left (suc zero) (UuidsFrame tuple) h = refl
hello-left (suc zero) (SizesFrame blocks) h = left-if h _ _ _ _ refl
hello-left (suc zero) (SyncUuidFrame word) h = refl
hello-left (suc zero) (RecvAckFrame of) h = refl
hello-left (suc zero) (WriteAckFrame of) h = refl
hello-left (suc zero) (RsWriteAckFrame of) h = refl
hello-left (suc zero) (BarrierAckFrame number size) h = refl
hello-left (suc (suc n)) (DataFrame write place) h = refl
hello-left (suc (suc n)) (RsDataReplyFrame block contents place) h = refl
hello-left (suc (suc n)) (BarrierFrame number) h = refl
hello-left (suc (suc n)) (ProtocolFrame asked) h = refl
hello-left (suc (suc n)) (UuidsFrame tuple) h = meeting-left tuple h
hello-left (suc (suc n)) (SizesFrame blocks) h = refl
hello-left (suc (suc n)) (SyncUuidFrame word) h = refl
hello-left (suc (suc n)) (RecvAckFrame of) h = refl
hello-left (suc (suc n)) (WriteAckFrame of) h = refl
hello-left (suc (suc n)) (RsWriteAckFrame of) h = refl
hello-left (suc (suc n)) (BarrierAckFrame number size) h = refl

-- an acknowledgement
ack-left : (packet : Packet) (before h : PrimaryHistory) → IsLeft h h.peer (taking_ack packet before h)
ack-left (DataFrame write place) before h = refl
ack-left (RsDataReplyFrame block contents place) before h = refl
ack-left (BarrierFrame number) before h = refl
ack-left (ProtocolFrame asked) before h = refl
ack-left (UuidsFrame tuple) before h = refl
ack-left (SizesFrame blocks) before h = refl
ack-left (SyncUuidFrame word) before h = refl
ack-left (RecvAckFrame of) before h = left-if h _ _ _ _ refl
ack-left (WriteAckFrame of) before h = left-if h _ _ _ _ refl
ack-left (RsWriteAckFrame of) before h = left-if h _ _ _ _ refl
ack-left (BarrierAckFrame number size) before h = left-if h _ _ _ _ refl

-- the peer's tuple last seen, once a frame was taken
abbrev seen_by : Received → PrimaryHistory → PrimaryHistory → Option Tuple
seen_by frame before h = elim (primary_connection before).begun [ true ↦ h.peer | false ↦ seen_after (length (primary_connection before).taken) frame h.peer ]

-- a fault of the bytes shows no tuple
fault-unseen : (n : ℕ) (fault : Refusal) (peer : Option Tuple) → seen_after n (Err fault) peer ≡ peer
fault-unseen zero fault peer = refl
fault-unseen (suc zero) fault peer = refl
fault-unseen (suc (suc n)) fault peer = refl

-- any frame
taking-left : (frame : Received) (before h : PrimaryHistory) → IsLeft h (seen_by frame before h) (taking frame before h)
taking-left (Err fault) before h = go (primary_connection before).begun
  where
    go : (begun : Bool) → h ≡ record h
        { peer = elim begun as (λ _. Option Tuple) [ true ↦ h.peer | false ↦ seen_after (length (primary_connection before).taken) (Err fault) h.peer ] }
    go true = refl
    go false = ap (λ (peer : Option Tuple). record h { peer = peer }) (sym (fault-unseen (length (primary_connection before).taken) fault h.peer))
taking-left (Ok packet) before h = go (primary_connection before).begun
  where
    go : (begun : Bool) → IsLeft h (elim begun as (λ _. Option Tuple) [
      | true ↦ h.peer
      | false ↦ seen_after (length (primary_connection before).taken)
          (Ok packet) h.peer
    ])
        (elim begun as (λ _. Taken) [ true ↦ taking_ack packet before h | false ↦ taking_hello (length (primary_connection before).taken) packet h ])
    go true = ack-left packet before h
    go false = hello-left (length (primary_connection before).taken) packet h

-- Closes of an open end.

-- a primary's, past its test
pub close-open : (h : PrimaryHistory) → (primary_connection h).closed ≡ false → (close_primary h).1 ≡ (follows (closing h)).history
close-open h standing = go (primary_connection h).closed standing
  where
    go : (closed : Bool) → closed ≡ false
        → (elim (first_refusal ((closed, NotConnected) ∷ [])) as (λ _. Reply × PrimaryHistory) [
          | Some refusal ↦ (reply.Refused refusal, h)
          | None ↦ let after =
              follows (closing h) in (reply.Closed (length after.completed), after.history)
        ]).1 ≡ (follows (closing h)).history
    go true standing = absurd (cc)
    go false standing = refl

-- a secondary's
close-open-too : (h : SecondaryHistory) → (secondary_connection h).closed ≡ false → (close_secondary h).1 ≡ with_secondary_connection closed_end h
close-open-too h standing = go (secondary_connection h).closed standing
  where
    go : (closed : Bool) → closed ≡ false
        → (elim (first_refusal ((closed, NotConnected) ∷ [])) as
        (λ _. Reply × SecondaryHistory) [
          | Some refusal ↦ (reply.Refused refusal, h)
          | None ↦ (
            reply.Ok (done_with what.Nothing),
            with_secondary_connection closed_end h,
          )
        ]).1 ≡ with_secondary_connection closed_end h
    go true standing = absurd (cc)
    go false standing = refl

-- a refused frame leaves the primary's end open until the close
pub refused-open : (frame : Received) (p : PrimaryHistory) → (primary_connection p).closed ≡ false → (primary_connection (with_refused frame p)).closed ≡ false
refused-open frame p standing =
    elim (last-change (λ (c : PrimaryConnection). refusing_frame frame c) (no_primary_connection p.tuple) (no_primary_connection p.tuple) p.connections) [
      | inl empty ↦ absurd (both_ways (primary_connection p).closed standing
          (ap (λ (cs : List PrimaryConnection). (last_of (no_primary_connection p.tuple) cs).closed) empty))
      | inr last ↦ ap (λ (c : PrimaryConnection). c.closed) last ∙ standing
    ]

-- and the secondary's
refused-open-too : (frame : Received) (s : SecondaryHistory) → (secondary_connection s).closed ≡ false
    → (secondary_connection (with_refused_too frame s)).closed ≡ false
refused-open-too frame s standing =
    elim (last-change (refusing_too frame) (no_secondary_connection s) (no_secondary_connection (with_refused_too frame s)) s.connections) [
      | inl empty ↦ absurd (both_ways (secondary_connection s).closed standing
          (ap (λ (cs : List SecondaryConnection). (last_of (no_secondary_connection s) cs).closed) empty))
      | inr last ↦ ap (λ (c : SecondaryConnection). c.closed) last ∙ standing
    ]

-- The two statements.

-- a frame that an open primary takes, and refuses
frame-closes : (frame : Received) (p : PrimaryHistory) (refusal : Refusal) → (primary_connection p).closed ≡ false
    → (take_frame frame p).0 ≡ reply.Refused refusal
    → (take_frame frame p).1 ≡ (close_primary (with_refused frame p)).1
frame-closes frame p refusal standing =
    frame-has (λ r. r.0 ≡ reply.Refused refusal → r.1 ≡ (close_primary (with_refused frame p)).1)
    (IsLeft (with_primary_connection (with_frame frame) p) (seen_by frame p p)) frame p (taking-left frame p (with_primary_connection (with_frame frame) p))
    (λ done left refused. absurd (cc)) (λ error left refused.
    ap (λ (h : PrimaryHistory). (follows (closing h)).history) (same error.1 left) ∙ sym (close-open (with_refused frame p) (refused-open frame p standing)))
  where
    -- what the step closes is the history with the frame taken and refused
    same : (h : PrimaryHistory) → h ≡ record (with_primary_connection (with_frame frame) p) { peer = seen_by frame p p }
        → with_primary_connection refusing h ≡ with_refused frame p
    same h is =
        ap (λ (g : PrimaryHistory). with_primary_connection refusing g) is
        ∙ ap (λ (cs : List PrimaryConnection). record p { peer = seen_by frame p p; connections = cs }) (refusing-last frame p.connections)

-- one that an open secondary takes, and refuses
frame-closes-too : (frame : Received) (s : SecondaryHistory) (refusal : Refusal) → (secondary_connection s).closed ≡ false
    → (take_item frame s).0 ≡ reply.Refused refusal
    → (take_item frame s).1 ≡ (close_secondary (with_refused_too frame s)).1
frame-closes-too frame s refusal standing =
    item-has (λ r. r.0 ≡ reply.Refused refusal → r.1 ≡ (close_secondary (with_refused_too frame s)).1) (λ v. Unit {0}) frame s tt
    (λ done any refused. absurd (cc)) (λ error any refused. ap (λ (cs : List SecondaryConnection). record s { connections = cs }) same
    ∙ sym (close-open-too (with_refused_too frame s) (refused-open-too frame s standing)))
  where
    -- both closes change the last end alike
    same : change_last refused_end (change_last (framed frame) s.connections) ≡ change_last closed_end (with_refused_too frame s).connections
    same = refused-last-too frame s ∙ sym (change-twice (refusing_too frame) closed_end s.connections)

-- there is one frame to take
only : (frame taken : Received) → Some frame ≡ Some taken → frame ≡ taken
only frame taken same = cc

-- what is about no frame is another refusal
not-first : (first refusal : Refusal) → is_refused_frame first ≡ false → is_refused_frame refusal ≡ true → reply.Refused first ≡ reply.Refused refusal → ⊥
not-first first refusal mild other is =
    let same : first ≡ refusal = cc in both_ways (is_refused_frame refusal) (ap is_refused_frame (sym same) ∙ mild) other

-- A primary that refuses a frame has all effects of a close.
pub refused_frames_close_the_primary : RefusedFramesCloseThePrimary
refused_frames_close_the_primary frame out_of_memory p refusal is other =
    ack-in-has (λ r. r.0 ≡ reply.Refused refusal → r.1 ≡ (close_primary (with_refused frame p)).1) (Some frame) out_of_memory p
    (λ first mild refused. absurd (not-first first refusal mild other refused))
    (λ taken same standing. subst (λ (f : Received). (take_frame f p).0 ≡ reply.Refused refusal → (take_frame f p).1 ≡ (close_primary (with_refused frame p)).1)
    (only frame taken same) (frame-closes frame p refusal standing)) is

-- A secondary that refuses a frame has all effects of a close.
pub refused_frames_close_the_secondary : RefusedFramesCloseTheSecondary
refused_frames_close_the_secondary frame out_of_memory s refusal is other =
    receive-has (λ r. r.0 ≡ reply.Refused refusal → r.1 ≡ (close_secondary (with_refused_too frame s)).1) (Some frame) out_of_memory s
    (λ first mild refused. absurd (not-first first refusal mild other refused))
    (λ taken same standing. subst (λ (f : Received). (take_item f s).0 ≡ reply.Refused refusal → (take_item f s).1 ≡ (close_secondary
    (with_refused_too frame s)).1) (only frame taken same) (frame-closes-too frame s refusal standing)) is

-- Items.

-- where the last frame is refused, those before it count
pub others-count : (frame : Received) (taken : List Received) → counting true (taken ++ frame ∷ []) ≡ taken
others-count frame taken =
    let one : length (taken ++ frame ∷ []) ≡ length taken + 1 = length-append taken (frame ∷ []) in
    let count : length (taken ++ frame ∷ []) - 1 ≡ length taken = omega arith in
    ap (λ n. take n (taken ++ frame ∷ [])) count ∙ take-append_seam taken (frame ∷ [])

-- a frame that is refused brings none
items-stay : (frame : Received) (c : SecondaryConnection) → c.refused ≡ false → items_taken (closed_end (refusing_too frame c)) ≡ items_taken c
items-stay frame c unrefused = ap (λ (taken : List Received). filter_map received_item (drop 3 taken)) (others-count frame c.taken
    ∙ sym (ap (λ b. counting b c.taken) unrefused))

-- a secondary that refuses a frame was open
was-open : (frame : Received) (out_of_memory : Bool) (s : SecondaryHistory) (refusal : Refusal)
    → (receive (Some frame) out_of_memory s).0 ≡ reply.Refused refusal
    → is_refused_frame refusal ≡ true → (secondary_connection s).closed ≡ false
was-open frame out_of_memory s refusal is other = receive-has (λ r. r.0 ≡ reply.Refused refusal
    → (secondary_connection s).closed ≡ false) (Some frame) out_of_memory s
    (λ first mild refused. absurd (not-first first refusal mild other refused))
    (λ taken same standing refused. standing) is

-- nor was a primary closed that refuses one
pub had-open : (frame : Received) (out_of_memory : Bool) (p : PrimaryHistory) (refusal : Refusal)
    → (ack_in (Some frame) out_of_memory p).0 ≡ reply.Refused refusal
    → is_refused_frame refusal ≡ true → (primary_connection p).closed ≡ false
had-open frame out_of_memory p refusal is other = ack-in-has (λ r. r.0 ≡ reply.Refused refusal
    → (primary_connection p).closed ≡ false) (Some frame) out_of_memory p
    (λ first mild refused. absurd (not-first first refusal mild other refused))
    (λ taken same standing refused. standing) is

-- its end after the step
refused-end : (frame : Received) (s : SecondaryHistory) → (secondary_connection s).closed ≡ false
    → secondary_connection (close_secondary (with_refused_too frame s)).1 ≡ closed_end (refusing_too frame (secondary_connection s))
refused-end frame s standing =
    ap secondary_connection (close-open-too (with_refused_too frame s) (refused-open-too frame s standing))
    ∙ (ap (λ (cs : List SecondaryConnection). last_of (no_secondary_connection s) cs) (change-twice (refusing_too frame) closed_end s.connections)
    ∙ last (last-change (λ (c : SecondaryConnection). closed_end (refusing_too frame c)) (no_secondary_connection s) (no_secondary_connection s) s.connections))
  where
    last : (s.connections ≡ []) ⊎ (last_of (no_secondary_connection s)
        (change_last (λ (c : SecondaryConnection). closed_end (refusing_too frame c)) s.connections) ≡ closed_end
        (refusing_too frame (secondary_connection s)))
        → last_of (no_secondary_connection s) (change_last (λ (c : SecondaryConnection). closed_end (refusing_too frame c)) s.connections) ≡ closed_end
        (refusing_too frame (secondary_connection s))
    last (inl empty) = absurd (both_ways (secondary_connection s).closed standing
        (ap (λ (cs : List SecondaryConnection). (last_of (no_secondary_connection s) cs).closed) empty))
    last (inr is) = is

-- What was pending stays so, and the disk holds what it held.
pub refused_frames_leave_the_items : RefusedFramesLeaveTheItems
refused_frames_leave_the_items frame out_of_memory s refusal unrefused is other =
    let end : secondary_connection (receive (Some frame) out_of_memory s).1 ≡ closed_end (refusing_too frame (secondary_connection s)) =
    ap secondary_connection (refused_frames_close_the_secondary frame out_of_memory s refusal is other)
    ∙ refused-end frame s (was-open frame out_of_memory s refusal is other) in
    let items : items_taken (closed_end (refusing_too frame (secondary_connection s))) ≡ items_taken (secondary_connection s) =
    items-stay frame (secondary_connection s) unrefused in (
      ap pending end ∙ ap (λ (l : List StreamItem). filter (is_pending (secondary_connection s)) (placed l)) items,
      ap map_of end
          ∙ ap (λ (l : List StreamItem). overlay (secondary_connection s).base (layers_of l (secondary_connection s).applied)) items,
    )
