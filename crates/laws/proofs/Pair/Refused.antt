-- A step of the pair that is refused leaves the history as it was, but where a frame is refused: then that end closes.
use Rattle.std.proofs.Common.{ℕ, zero, suc, ◌≡◌, Bool, true, false, not, ◌&&◌, ◌||◌, nat_lt, List, [], ◌∷◌, ◌++◌, length, Option, Some, None, Result}
use Rattle.std.proofs.Common.{Ok, Err, slice_get, refl, ap, subst, ◌⊎◌, inl, inr, sym, ◌∙◌}
use Rattle.std.specs.Prelude.{option_map, if◌then◌else◌}
use Rattle.std.proofs.lemmas.Bool.{both_ways}
use Rattle.blocks.specs.declared.tuple.Tuple.{Tuple}
use Rattle.blocks.specs.declared.refusal.Refusal.{Refusal}
use Rattle.blocks.specs.declared.refusal.Refusal.TheVariants.{BadRange, NothingToDo, NotConnected, ReadFault, UnknownJob}
use Rattle.blocks.specs.declared.refusal.Refusal.TheVariants.{UsedIdentifier, NotDrained}
use Rattle.blocks.specs.declared.outcome.Decision.{Decision}
use Rattle.blocks.specs.declared.outcome.Done.{Done}
use Rattle.blocks.specs.declared.outcome.What.{What}
use Rattle.blocks.specs.declared.outcome.What.TheVariants as what
use Rattle.blocks.specs.declared.outcome.Reply.{Reply}
use Rattle.blocks.specs.declared.outcome.Reply.TheVariants as reply
use Rattle.model.specs.Stream.{below, contents_of}
use Rattle.model.specs.Frames.{Packet, DataFrame, RsDataReplyFrame, BarrierFrame, ProtocolFrame, UuidsFrame, SizesFrame, SyncUuidFrame, RecvAckFrame}
use Rattle.model.specs.Frames.{WriteAckFrame, RsWriteAckFrame, BarrierAckFrame, Received}
use Rattle.model.specs.Refusals.{Test, first_refusal, done_with}
use Rattle.model.specs.Identifiers.{stands_in, decision}
use Rattle.model.specs.Primary.{PrimaryHistory, OnDisk, primary_connection, with_primary_connection, free_block, PrimaryConnection}
use Rattle.model.specs.Primary.{no_primary_connection, last_of, change_last}
use Rattle.model.specs.Marks.{releasing}
use Rattle.model.specs.PrimarySteps.{follows, succeeding, open_primary, submit_tests, submitted, submit, is_unfinished, with_outcome, local_done}
use Rattle.model.specs.PrimarySteps.{accepted_at, faulted, local_fault, send_tests, sending, send, resync_tests, resync_next, resync_fault, closing}
use Rattle.model.specs.PrimarySteps.{close_primary, open_tests, opened}
use Rattle.model.specs.Acknowledgements.{Taken, begun_with, meeting, taking_hello, taking_ack, taking, take_frame, ack_in}
use Rattle.model.specs.Secondary.{SecondaryHistory, SecondaryConnection, secondary_connection, with_secondary_connection, items_taken, is_drained}
use Rattle.model.specs.Secondary.{no_secondary_connection}
use Rattle.model.specs.SecondarySteps.{succeeding_secondary, Checked, checking_hello, checking_item, checking, take_item, receive, peer_tests, peer, peer_fault}
use Rattle.model.specs.SecondarySteps.{applying, failing, answering_with, ack_out_tests, ack_out, open_secondary, close_secondary}
use Rattle.model.specs.Pair.{Event, OpenEvent, SubmitEvent, LocalEvent, LocalFaultEvent, SendEvent, ReceiveEvent, PeerEvent, PeerFaultEvent, AckOutEvent}
use Rattle.model.specs.Pair.{AckInEvent, ResyncEvent, ResyncFaultEvent, ClosePrimaryEvent, CloseSecondaryEvent, PairHistory, pushed_frames, pushed_answers}
use Rattle.model.specs.Pair.{next_frame, next_answer, has_room, answers_have_room, open_pair_tests, open_pair, keeps_too_many, local_fault_kept}
use Rattle.model.specs.Pair.{peer_fault_kept, step}
use Rattle.laws.proofs.Rules.Decisions.{decision-has}
use Rattle.laws.proofs.Rules.EpochEnds.{over-standing}
use Rattle.laws.specs.Statements.{is_refused_frame, is_refused_by, is_closed_by, RefusedStepsChangeNothing, RefusedFramesClose}
use Rattle.laws.proofs.Lists.Tests.{test-passed}
use Rattle.laws.proofs.Primary.Moves.{with_frame, pushing, following-from}
use Rattle.laws.proofs.Secondary.Moves.{framed, pushed_one, closed_end}
use Rattle.laws.proofs.Primary.StaysClosed.{open-established}
use Rattle.laws.proofs.Rules.ResyncEnds.{over-established}
use Rattle.laws.proofs.Rules.Memory.{ack-in-has, receive-has}
use Rattle.laws.proofs.Rules.RefusedFrames.{refusing, refused_end, frame-has, item-has}
use Rattle.model.specs.PrimarySteps.{copying}

-- a step that leaves what it was given, where it is refused
abbrev IsSpared : {X : Type 0} → X → Reply × X → Type 0
IsSpared {X} h done = (refusal : Refusal) → done.0 ≡ reply.Refused refusal → done.1 ≡ h

-- a step that did something
spared-ok : {X : Type 0} (h after : X) (done : Done) → IsSpared h (reply.Ok done, after)
spared-ok h after done refusal refused = absurd (cc)

-- one that closed an end
spared-closed : {X : Type 0} (h after : X) (count : ℕ) → IsSpared h (reply.Closed count, after)
spared-closed h after count refusal refused = absurd (cc)

-- one that is refused
spared-same : {X : Type 0} (h : X) (refusal : Refusal) → IsSpared h (reply.Refused refusal, h)
spared-same h refusal other refused = refl

-- one by tests, where what it does after them is spared
spared-tests : {X : Type 0} (tests : List Test) (h : X) (done : Unit {0} → Reply × X) → IsSpared h (done tt)
    → IsSpared h (elim (first_refusal tests) as (λ _. Reply × X) [ Some refusal ↦ (reply.Refused refusal, h) | None ↦ done tt ])
spared-tests {X} tests h done spared = go (first_refusal tests)
  where
    go : (v : Option Refusal) → IsSpared h (elim v as (λ _. Reply × X) [ Some refusal ↦ (reply.Refused refusal, h) | None ↦ done tt ])
    go (Some refusal) = spared-same h refusal
    go None = spared

-- The same of a step that takes a frame: it leaves what it was given, or refuses the frame and closes its end.
abbrev IsSparedOrCloses : {X : Type 0} → (X → Bool) → X → Reply × X → Type 0
IsSparedOrCloses {X} closed h done =
    (refusal : Refusal) → done.0 ≡ reply.Refused refusal
    → ((is_refused_frame refusal ≡ false) × (done.1 ≡ h)) ⊎ ((is_refused_frame refusal ≡ true) × (closed done.1 ≡ true))

-- one that is refused for no frame
spared-mild : {X : Type 0} (closed : X → Bool) (h : X) (first : Refusal) → is_refused_frame first ≡ false → IsSparedOrCloses closed h (reply.Refused first, h)
spared-mild closed h first mild refusal refused = let same : first ≡ refusal = cc in inl (ap is_refused_frame (sym same) ∙ mild, refl)

-- what holds of each packet that was read
of-packet : (P : Received → Type 0) (v : Option Packet) → ((packet : Packet) → P (Ok packet)) → (taken : Received)
    → option_map {U = Received} (λ packet. Ok packet) v ≡ Some taken → P taken
of-packet P None each taken is = absurd (cc)
of-packet P (Some packet) each taken is = subst P (let same : Ok packet ≡ taken = cc in same) (each packet)

-- The last of the connections, once it is closed.
last-closed : {X : Type 0} (closed : X → Bool) (f : X → X) → ((x : X) → closed (f x) ≡ true) → (none : X) → closed none ≡ true → (xs : List X)
    → closed (last_of none (change_last f xs)) ≡ true
last-closed closed f closes none nothing [] = nothing
last-closed closed f closes none nothing (x ∷ []) = closes x
last-closed closed f closes none nothing (x ∷ y ∷ xs) = later x y xs
  where
    later : (before first : _) (rest : List _) → closed (last_of before (change_last f (first ∷ rest))) ≡ true
    later before first [] = closes first
    later before first (second ∷ rest) = later first second rest

-- what follows a step leaves a closed end so
follows-closed : (h : PrimaryHistory) → (primary_connection h).closed ≡ true → (primary_connection (follows h).history).closed ≡ true
follows-closed = following-from (λ g. (primary_connection g).closed ≡ true) (λ g. (primary_connection g).closed ≡ true)
    (λ g. (primary_connection g).closed ≡ true) (λ h closed. closed)
    (λ g over closed. absurd (both_ways (primary_connection g).closed (open-established (primary_connection g) (over-standing g over)) closed))
    (λ g on closed. closed)
    (λ g over closed. absurd (both_ways (primary_connection g).closed (open-established (primary_connection g) (over-established g over)) closed))
    (λ g closed. closed)

-- a primary that refused a frame has closed its end
refused-closed : (h : PrimaryHistory) → (primary_connection (follows (closing h)).history).closed ≡ true
refused-closed h = follows-closed (closing h)
    (last-closed (λ (c : PrimaryConnection). c.closed) (λ c. record c { closed = true }) (λ c. refl) (no_primary_connection (closing h).tuple) refl
    h.connections)

-- a secondary that refused a frame has closed its end
refused-closed-too : (h : SecondaryHistory) → (secondary_connection (with_secondary_connection refused_end h)).closed ≡ true
refused-closed-too h = last-closed (λ (d : SecondaryConnection). d.closed) refused_end (λ d. refl) (no_secondary_connection h) refl h.connections

-- Once the primary takes a frame, it refuses it as such.

-- what two tuples lead to: a refusal of the frame, or none
abbrev IsOtherChoice : Result Decision Refusal → Type 0
IsOtherChoice (Ok decided) = Unit {0}
IsOtherChoice (Err refusal) = is_refused_frame refusal ≡ true

-- what taking a frame of the secondary leads to
abbrev pub IsOtherTaken : Taken → Type 0
IsOtherTaken (Ok done) = Unit {0}
IsOtherTaken (Err error) = is_refused_frame error.0 ≡ true

-- what taking a frame of the primary leads to
abbrev IsOtherChecked : Checked → Type 0
IsOtherChecked (Ok done) = Unit {0}
IsOtherChecked (Err refusal) = is_refused_frame refusal ≡ true

-- a frame of the secondary that is taken, or refused as such
taken-if : (holds : Bool) (done : What × PrimaryHistory) (error : Refusal × PrimaryHistory) → is_refused_frame error.0 ≡ true
    → IsOtherTaken (if holds then Ok done else Err error)
taken-if true done error other = tt
taken-if false done error other = other

-- a frame of the primary that is taken, or refused as such
checked-if : (holds : Bool) (done : What × SecondaryHistory) (refusal : Refusal) → is_refused_frame refusal ≡ true
    → IsOtherChecked (if holds then Ok done else Err refusal)
checked-if true done refusal other = tt
checked-if false done refusal other = other

-- two tuples, as they are decided upon
decision-other : (own peer : Tuple) → IsOtherChoice (decision own peer)
decision-other = decision-has IsOtherChoice (λ decided. tt) refl refl refl

-- the peer's tuple
meeting-other : (peer : Tuple) (h : PrimaryHistory) → IsOtherTaken (meeting peer h)
meeting-other peer h = go (stands_in (primary_connection h).sync peer || stands_in (primary_connection h).loss peer) (decision h.tuple peer)
    (decision-other h.tuple peer)
  where
    seen : PrimaryHistory
    seen = record h { peer = Some peer }

    go : (used : Bool) (d : Result Decision Refusal) → IsOtherChoice d
        → IsOtherTaken (elim used as (λ _. Taken) [
          | true ↦ Err (UsedIdentifier, seen)
          | false ↦ elim d as (λ _. Taken) [ Err refusal ↦ Err (refusal, seen) | Ok decided ↦ Ok (what.Decided decided, begun_with decided seen) ]
        ])
    go true d other = refl
    go false (Ok decided) other = tt
    go false (Err refusal) other = other

-- the secondary's hello
greeting-other : (n : ℕ) (packet : Packet) (h : PrimaryHistory) → IsOtherTaken (taking_hello n packet h)
greeting-other zero (DataFrame write place) h = refl
greeting-other zero (RsDataReplyFrame block contents place) h = refl
greeting-other zero (BarrierFrame number) h = refl
greeting-other zero (ProtocolFrame asked) h = taken-if _ _ _ refl
greeting-other zero (UuidsFrame tuple) h = refl
greeting-other zero (SizesFrame blocks) h = refl
greeting-other zero (SyncUuidFrame word) h = refl
greeting-other zero (RecvAckFrame of) h = refl
greeting-other zero (WriteAckFrame of) h = refl
greeting-other zero (RsWriteAckFrame of) h = refl
greeting-other zero (BarrierAckFrame number size) h = refl
greeting-other (suc zero) (DataFrame write place) h = refl
greeting-other (suc zero) (RsDataReplyFrame block contents place) h = refl
greeting-other (suc zero) (BarrierFrame number) h = refl
greeting-other (suc zero) (ProtocolFrame asked) h = refl
greeting-other (suc zero) (UuidsFrame tuple) h = refl
greeting-other (suc zero) (SizesFrame blocks) h = taken-if _ _ _ refl
greeting-other (suc zero) (SyncUuidFrame word) h = refl
greeting-other (suc zero) (RecvAckFrame of) h = refl
greeting-other (suc zero) (WriteAckFrame of) h = refl
greeting-other (suc zero) (RsWriteAckFrame of) h = refl
greeting-other (suc zero) (BarrierAckFrame number size) h = refl
greeting-other (suc (suc n)) (DataFrame write place) h = refl
greeting-other (suc (suc n)) (RsDataReplyFrame block contents place) h = refl
greeting-other (suc (suc n)) (BarrierFrame number) h = refl
greeting-other (suc (suc n)) (ProtocolFrame asked) h = refl
greeting-other (suc (suc n)) (UuidsFrame tuple) h = meeting-other tuple h
greeting-other (suc (suc n)) (SizesFrame blocks) h = refl
greeting-other (suc (suc n)) (SyncUuidFrame word) h = refl
greeting-other (suc (suc n)) (RecvAckFrame of) h = refl
greeting-other (suc (suc n)) (WriteAckFrame of) h = refl
greeting-other (suc (suc n)) (RsWriteAckFrame of) h = refl
greeting-other (suc (suc n)) (BarrierAckFrame number size) h = refl

-- an acknowledgement
ack-other : (packet : Packet) (before h : PrimaryHistory) → IsOtherTaken (taking_ack packet before h)
ack-other (DataFrame write place) before h = refl
ack-other (RsDataReplyFrame block contents place) before h = refl
ack-other (BarrierFrame number) before h = refl
ack-other (ProtocolFrame asked) before h = refl
ack-other (UuidsFrame tuple) before h = refl
ack-other (SizesFrame blocks) before h = refl
ack-other (SyncUuidFrame word) before h = refl
ack-other (RecvAckFrame of) before h = taken-if _ _ _ refl
ack-other (WriteAckFrame of) before h = taken-if _ _ _ refl
ack-other (RsWriteAckFrame of) before h = taken-if _ _ _ refl
ack-other (BarrierAckFrame number size) before h = taken-if _ _ _ refl

-- a packet of the secondary
pub taking-other : (packet : Packet) (before h : PrimaryHistory) → IsOtherTaken (taking (Ok packet) before h)
taking-other packet before h = go (primary_connection before).begun
  where
    go : (begun : Bool) → IsOtherTaken
        (elim begun as (λ _. Taken) [ true ↦ taking_ack packet before h | false ↦ taking_hello (length (primary_connection before).taken) packet h ])
    go true = ack-other packet before h
    go false = greeting-other (length (primary_connection before).taken) packet h

-- Nor does the secondary.

-- the primary's hello
hello-other : (n : ℕ) (packet : Packet) (h : SecondaryHistory) → IsOtherChecked (checking_hello n packet h)
hello-other zero (DataFrame write place) h = refl
hello-other zero (RsDataReplyFrame block contents place) h = refl
hello-other zero (BarrierFrame number) h = refl
hello-other zero (ProtocolFrame asked) h = checked-if _ _ _ refl
hello-other zero (UuidsFrame tuple) h = refl
hello-other zero (SizesFrame blocks) h = refl
hello-other zero (SyncUuidFrame word) h = refl
hello-other zero (RecvAckFrame of) h = refl
hello-other zero (WriteAckFrame of) h = refl
hello-other zero (RsWriteAckFrame of) h = refl
hello-other zero (BarrierAckFrame number size) h = refl
hello-other (suc zero) (DataFrame write place) h = refl
hello-other (suc zero) (RsDataReplyFrame block contents place) h = refl
hello-other (suc zero) (BarrierFrame number) h = refl
hello-other (suc zero) (ProtocolFrame asked) h = refl
hello-other (suc zero) (UuidsFrame tuple) h = refl
hello-other (suc zero) (SizesFrame blocks) h = checked-if _ _ _ refl
hello-other (suc zero) (SyncUuidFrame word) h = refl
hello-other (suc zero) (RecvAckFrame of) h = refl
hello-other (suc zero) (WriteAckFrame of) h = refl
hello-other (suc zero) (RsWriteAckFrame of) h = refl
hello-other (suc zero) (BarrierAckFrame number size) h = refl
hello-other (suc (suc n)) (DataFrame write place) h = refl
hello-other (suc (suc n)) (RsDataReplyFrame block contents place) h = refl
hello-other (suc (suc n)) (BarrierFrame number) h = refl
hello-other (suc (suc n)) (ProtocolFrame asked) h = refl
hello-other (suc (suc n)) (UuidsFrame tuple) h = tt
hello-other (suc (suc n)) (SizesFrame blocks) h = refl
hello-other (suc (suc n)) (SyncUuidFrame word) h = refl
hello-other (suc (suc n)) (RecvAckFrame of) h = refl
hello-other (suc (suc n)) (WriteAckFrame of) h = refl
hello-other (suc (suc n)) (RsWriteAckFrame of) h = refl
hello-other (suc (suc n)) (BarrierAckFrame number size) h = refl

-- an item of the stream
item-other : (packet : Packet) (place : ℕ) (c : SecondaryConnection) (h : SecondaryHistory) → IsOtherChecked (checking_item packet place c h)
item-other (DataFrame write at) place c h = checked-if _ _ _ refl
item-other (RsDataReplyFrame block contents at) place c h = checked-if _ _ _ refl
item-other (BarrierFrame number) place c h = checked-if _ _ _ refl
item-other (ProtocolFrame asked) place c h = refl
item-other (UuidsFrame tuple) place c h = checked-if _ _ _ refl
item-other (SizesFrame blocks) place c h = refl
item-other (SyncUuidFrame word) place c h = checked-if _ _ _ refl
item-other (RecvAckFrame of) place c h = refl
item-other (WriteAckFrame of) place c h = refl
item-other (RsWriteAckFrame of) place c h = refl
item-other (BarrierAckFrame number size) place c h = refl

-- a packet of the primary
checking-other : (packet : Packet) (c : SecondaryConnection) (h : SecondaryHistory) → IsOtherChecked (checking (Ok packet) c h)
checking-other packet c h = go (nat_lt (length c.taken) 3)
  where
    go : (early : Bool) → IsOtherChecked
        (elim early as (λ _. Checked) [ true ↦ checking_hello (length c.taken) packet h | false ↦ checking_item packet (length (items_taken c)) c h ])
    go true = hello-other (length c.taken) packet h
    go false = item-other packet (length (items_taken c)) c h

-- Steps of the primary.

-- a write is submitted
spared-submit : (first : ℕ) (contents : List (List ℕ)) (out_of_memory : Bool) (h : PrimaryHistory) → IsSpared h (submit first contents out_of_memory h)
spared-submit first contents out_of_memory h = spared-tests (submit_tests h first contents out_of_memory) h
    (λ _. succeeding (what.Write (suc (length h.writes))) (submitted h first contents)) (spared-ok h _ _)

-- the local disk does a write
spared-local : (number : ℕ) (h : PrimaryHistory) → IsSpared h (local_done number h)
spared-local number h = spared-tests ((not (is_unfinished h number), UnknownJob) ∷ []) h
    (λ _. succeeding what.Nothing (releasing h (with_outcome number OnDisk h))) (spared-ok h _ _)

-- the local disk fails a write
spared-fault : (number kept : ℕ) (h : PrimaryHistory) → IsSpared h (local_fault_kept number kept h)
spared-fault number kept h =
    spared-tests ((not (is_unfinished h number), UnknownJob) ∷
    (keeps_too_many kept (option_map (λ accepted. length accepted.write.contents) (accepted_at h number)), BadRange) ∷ []) h
    (λ _. local_fault number (below kept) h)
    (spared-tests ((not (is_unfinished h number), UnknownJob) ∷ []) h (λ _. succeeding what.Nothing (faulted number (below kept) h)) (spared-ok h _ _))

-- the primary pushes a frame
spared-send : (room out_of_memory : Bool) (h : PrimaryHistory) → IsSpared h (send room out_of_memory h)
spared-send room out_of_memory h = spared-tests (send_tests h room out_of_memory) h (λ _. succeeding (sending h) (with_primary_connection pushing h))
    (spared-ok h _ _)

-- a block that is copied, if there is one
spared-block : (h : PrimaryHistory) (v : Option ℕ) → IsSpared h (elim v as (λ _. Reply × PrimaryHistory) [
  | None ↦ (reply.Refused NothingToDo, h)
  | Some block ↦ succeeding (what.Block (record { 0 = block }) (length (primary_connection h).stream))
      (copying None block h)
])
spared-block h None = spared-same h NothingToDo
spared-block h (Some block) = spared-ok h _ _

-- the primary copies the next block
spared-resync : (out_of_memory : Bool) (h : PrimaryHistory) → IsSpared h (resync_next None out_of_memory h)
spared-resync out_of_memory h = spared-tests (resync_tests h out_of_memory) h (λ _. elim (free_block h) as (λ _. Reply × PrimaryHistory) [
  | None ↦ (reply.Refused NothingToDo, h)
  | Some block ↦ succeeding (what.Block (record { 0 = block }) (length (primary_connection h).stream))
      (copying None block h)
]) (spared-block h (free_block h))

-- the local disk fails to read it
spared-resync-fault : (out_of_memory : Bool) (h : PrimaryHistory) → IsSpared h (resync_fault out_of_memory h)
spared-resync-fault out_of_memory h = spared-tests (resync_tests h out_of_memory) h (λ _. (reply.Refused ReadFault, h)) (spared-same h ReadFault)

-- the primary closes its end
spared-close : (h : PrimaryHistory) → IsSpared h (close_primary h)
spared-close h = spared-tests (((primary_connection h).closed, NotConnected) ∷ []) h
    (λ _. let after = follows (closing h) in (reply.Closed (length after.completed), after.history)) (spared-closed h _ _)

-- a frame that the primary takes
closes-frame : (packet : Packet) (h : PrimaryHistory) → IsSparedOrCloses (λ (p : PrimaryHistory). (primary_connection p).closed) h (take_frame (Ok packet) h)
closes-frame packet h = frame-has (IsSparedOrCloses (λ (p : PrimaryHistory). (primary_connection p).closed) h) IsOtherTaken (Ok packet) h
    (taking-other packet h (with_primary_connection (with_frame (Ok packet)) h)) (λ done other refusal refused. absurd (cc))
    (λ error other refusal refused. let same : error.0 ≡ refusal = cc in
    inr (ap is_refused_frame (sym same) ∙ other, refused-closed (with_primary_connection refusing error.1)))

-- the primary takes what the link has for it
closes-ack-in : (out_of_memory : Bool) (h : PairHistory)
    → IsSparedOrCloses (λ (p : PrimaryHistory). (primary_connection p).closed) h.primary (ack_in (next_answer h) out_of_memory h.primary)
closes-ack-in out_of_memory h = ack-in-has (IsSparedOrCloses (λ (p : PrimaryHistory). (primary_connection p).closed) h.primary)
    (next_answer h) out_of_memory h.primary
    (spared-mild (λ (p : PrimaryHistory). (primary_connection p).closed) h.primary)
    (λ taken is standing. of-packet (λ frame. IsSparedOrCloses (λ (p : PrimaryHistory). (primary_connection p).closed) h.primary (take_frame frame h.primary))
    (slice_get (pushed_answers h) (length (primary_connection h.primary).taken)) (λ packet. closes-frame packet h.primary) taken is)

-- Steps of the secondary.

-- a frame that the secondary takes
closes-item : (packet : Packet) (h : SecondaryHistory)
    → IsSparedOrCloses (λ (s : SecondaryHistory). (secondary_connection s).closed) h (take_item (Ok packet) h)
closes-item packet h = item-has (IsSparedOrCloses (λ (s : SecondaryHistory). (secondary_connection s).closed) h) IsOtherChecked (Ok packet) h
    (checking-other packet (secondary_connection h) (with_secondary_connection (framed (Ok packet)) h)) (λ done other refusal refused. absurd (cc))
    (λ error other refusal refused. let same : error ≡ refusal = cc in
    inr (ap is_refused_frame (sym same) ∙ other, refused-closed-too (with_secondary_connection (framed (Ok packet)) h)))

-- the secondary takes what the link has for it
closes-receive : (out_of_memory : Bool) (h : PairHistory)
    → IsSparedOrCloses (λ (s : SecondaryHistory). (secondary_connection s).closed) h.secondary (receive (next_frame h) out_of_memory h.secondary)
closes-receive out_of_memory h = receive-has (IsSparedOrCloses (λ (s : SecondaryHistory). (secondary_connection s).closed) h.secondary)
    (next_frame h) out_of_memory h.secondary
    (spared-mild (λ (s : SecondaryHistory). (secondary_connection s).closed) h.secondary)
    (λ taken is standing. of-packet
    (λ frame. IsSparedOrCloses (λ (s : SecondaryHistory). (secondary_connection s).closed) h.secondary (take_item frame h.secondary))
    (slice_get (pushed_frames h) (length (secondary_connection h.secondary).taken)) (λ packet. closes-item packet h.secondary) taken is)

-- the secondary's disk does an item
spared-peer : (place : ℕ) (h : SecondaryHistory) → IsSpared h (peer place h)
spared-peer place h = spared-tests (peer_tests h place) h
    (λ _. succeeding_secondary what.Nothing (with_secondary_connection (applying h.settings.protocol place) h))
    (spared-ok h _ _)

-- the secondary's disk fails an item
spared-peer-fault : (place kept : ℕ) (h : SecondaryHistory) → IsSpared h (peer_fault_kept place kept h)
spared-peer-fault place kept h =
    spared-tests (peer_tests h place ++ (
      keeps_too_many kept (option_map (λ item. length (contents_of item)) (slice_get (items_taken (secondary_connection h)) place)),
      BadRange,
    ) ∷ []) h (λ _. peer_fault place (below kept) h)
    (spared-tests (peer_tests h place) h (λ _. (reply.Ok (done_with what.Nothing), with_secondary_connection (failing place (below kept)) h)) (spared-ok h _ _))

-- the secondary pushes an answer
spared-push : (room out_of_memory : Bool) (h : SecondaryHistory) → IsSpared h (ack_out room out_of_memory h)
spared-push room out_of_memory h = spared-tests (ack_out_tests h room out_of_memory) h
    (λ _. (reply.Ok (done_with (answering_with h)), with_secondary_connection pushed_one h))
    (spared-ok h _ _)

-- the secondary closes its end
spared-close-too : (h : SecondaryHistory) → IsSpared h (close_secondary h)
spared-close-too h = spared-tests (((secondary_connection h).closed, NotConnected) ∷ []) h
    (λ _. (reply.Ok (done_with what.Nothing), with_secondary_connection closed_end h))
    (spared-ok h _ _)

-- Steps of the pair.

-- one of the primary, which leaves the secondary
with-primary : (h : PairHistory) (done : Reply × PrimaryHistory) → IsSpared h.primary done → IsSpared h (done.0, record h { primary = done.1 })
with-primary h done spared refusal refused = ap (λ (p : PrimaryHistory). record h { primary = p }) (spared refusal refused)

-- one of the secondary, which leaves the primary
with-secondary : (h : PairHistory) (done : Reply × SecondaryHistory) → IsSpared h.secondary done → IsSpared h (done.0, record h { secondary = done.1 })
with-secondary h done spared refusal refused = ap (λ (s : SecondaryHistory). record h { secondary = s }) (spared refusal refused)

-- where its tests pass, the primary's opening is not refused
opening-done : (sync loss : ℕ) (out_of_memory : Bool) (p : PrimaryHistory) (refusal : Refusal) → first_refusal (open_tests p sync loss out_of_memory) ≡ None
    → (open_primary sync loss out_of_memory p).0 ≡ reply.Refused refusal → ⊥
opening-done sync loss out_of_memory p refusal = go (first_refusal (open_tests p sync loss out_of_memory))
  where
    go : (v : Option Refusal) → v ≡ None
        → (elim v as (λ _. Reply × PrimaryHistory) [ Some refusal ↦ (reply.Refused refusal, p) | None ↦ succeeding what.Nothing (opened p sync loss) ]).0 ≡
        reply.Refused refusal → ⊥
    go (Some first) none refused = cc
    go None none refused = cc

-- both ends open, or none
spared-open : (sync loss : ℕ) (out_of_memory : Bool) (h : PairHistory) → IsSpared h (open_pair sync loss out_of_memory h)
spared-open sync loss out_of_memory h = go (first_refusal (open_pair_tests h sync loss out_of_memory)) refl
  where
    go : (v : Option Refusal) → first_refusal (open_pair_tests h sync loss out_of_memory) ≡ v → IsSpared h (elim v as (λ _. Reply × PairHistory) [
      | Some refusal ↦ (reply.Refused refusal, h)
      | None ↦ let primary = open_primary sync loss out_of_memory h.primary in (
        primary.0,
        record { primary = primary.1; secondary = (open_secondary 0 h.secondary).1 },
      )
    ])
    go (Some first) is refusal refused = refl
    go None is refusal refused =
        let passed = test-passed (not ((secondary_connection h.secondary).closed && is_drained h.secondary)) NotDrained
        (open_tests h.primary sync loss out_of_memory) is in
        absurd (opening-done sync loss out_of_memory h.primary refusal passed.1 refused)

-- The two statements, event by event.
refused-step : (event : Event) (out_of_memory : Bool) (h : PairHistory) (refusal : Refusal) → (step event out_of_memory h).0 ≡ reply.Refused refusal
    → ((is_refused_by event refusal ≡ false) × ((step event out_of_memory h).1 ≡ h))
    ⊎ ((is_refused_by event refusal ≡ true) × (is_closed_by event (step event out_of_memory h).1 ≡ true))
refused-step (OpenEvent sync loss) out_of_memory h refusal is = inl (refl, spared-open sync loss out_of_memory h refusal is)
refused-step (SubmitEvent first contents) out_of_memory h refusal is =
    inl (refl, with-primary h _ (spared-submit first contents out_of_memory h.primary) refusal is)
refused-step (LocalEvent number) out_of_memory h refusal is = inl (refl, with-primary h _ (spared-local number h.primary) refusal is)
refused-step (LocalFaultEvent number kept) out_of_memory h refusal is = inl (refl, with-primary h _ (spared-fault number kept h.primary) refusal is)
refused-step SendEvent out_of_memory h refusal is = inl (refl, with-primary h _ (spared-send (has_room h) out_of_memory h.primary) refusal is)
refused-step ReceiveEvent out_of_memory h refusal is =
    elim (closes-receive out_of_memory h refusal is) [
      | inl same ↦ inl (same.0, ap (λ (s : SecondaryHistory). record h { secondary = s }) same.1)
      | inr closed ↦ inr
          closed
    ]
refused-step (PeerEvent place) out_of_memory h refusal is = inl (refl, with-secondary h _ (spared-peer place h.secondary) refusal is)
refused-step (PeerFaultEvent place kept) out_of_memory h refusal is = inl (refl, with-secondary h _ (spared-peer-fault place kept h.secondary) refusal is)
refused-step AckOutEvent out_of_memory h refusal is = inl (refl, with-secondary h _ (spared-push (answers_have_room h) out_of_memory h.secondary) refusal is)
refused-step AckInEvent out_of_memory h refusal is =
    elim (closes-ack-in out_of_memory h refusal is) [
      | inl same ↦ inl (same.0, ap (λ (p : PrimaryHistory). record h { primary = p }) same.1)
      | inr closed ↦ inr closed
    ]
refused-step ResyncEvent out_of_memory h refusal is = inl (refl, with-primary h _ (spared-resync out_of_memory h.primary) refusal is)
refused-step ResyncFaultEvent out_of_memory h refusal is = inl (refl, with-primary h _ (spared-resync-fault out_of_memory h.primary) refusal is)
refused-step ClosePrimaryEvent out_of_memory h refusal is = inl (refl, with-primary h _ (spared-close h.primary) refusal is)
refused-step CloseSecondaryEvent out_of_memory h refusal is = inl (refl, with-secondary h _ (spared-close-too h.secondary) refusal is)

-- A refused step leaves the pair's history as it was, but where it refuses a frame.
pub refused_steps_change_nothing : RefusedStepsChangeNothing
refused_steps_change_nothing event out_of_memory h refusal is other = elim (refused-step event out_of_memory h refusal is) [
  | inl same ↦ same.1
  | inr closed ↦ absurd (both_ways (is_refused_by event refusal) other closed.0)
]

-- Where it refuses a frame, its end is closed then.
pub refused_frames_close : RefusedFramesClose
refused_frames_close event out_of_memory h refusal is frame = elim (refused-step event out_of_memory h refusal is) [
  | inl same ↦ absurd (both_ways (is_refused_by event refusal) same.0 frame)
  | inr closed ↦ closed.1
]
