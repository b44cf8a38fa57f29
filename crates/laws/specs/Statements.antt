-- The theorems that are proved, as the contracts name them. Those of joined nodes and of the pair are stated over
-- openings, with `JoinedRuns` and `EveryRun` of the model.
use Rattle.std.specs.Prelude.{ℕ, suc, ◌≡◌, ◌<◌, ◌≤◌, ◌⊎◌, Bool, true, false, List, [], ◌∷◌, ◌++◌, length, take, if◌then◌else◌, Option, Some, slice_get, Ok}
use Rattle.blocks.specs.declared.tuple.Tuple.{Tuple}
use Rattle.blocks.specs.declared.refusal.Refusal.{Refusal}
use Rattle.blocks.specs.declared.refusal.Refusal.TheVariants.{BadRange, Conflict, LogFull, ActivityFull, JournalFull, StreamFull, NoMemory, LocalFault}
use Rattle.blocks.specs.declared.refusal.Refusal.TheVariants.{NotCompleted, NothingToDo, LinkFull, NotConnected, NothingThere, ReadFault, BadSetting}
use Rattle.blocks.specs.declared.refusal.Refusal.TheVariants.{UnknownJob, EpochOpen, PendingFull, StrangeReceipt, BadMagic, BadCommand, BadLength, BadField}
use Rattle.blocks.specs.declared.refusal.Refusal.TheVariants.{BadBarrierAck, UnknownAck, PrimaryStale, SplitBrain, Unrelated, UsedIdentifier, OtherProtocol}
use Rattle.blocks.specs.declared.refusal.Refusal.TheVariants.{OtherSize, NotDrained}
use Rattle.blocks.specs.declared.outcome.Reply.TheVariants as reply
use Rattle.model.specs.Contents.{Write, IsDisk, covers}
use Rattle.model.specs.LocalRuns.{PrimaryEvent, primary_run, SecondaryEvent, secondary_run}
use Rattle.model.specs.Acknowledgements.{ack_in}
use Rattle.model.specs.Frames.{UuidsFrame, Received}
use Rattle.model.specs.Identifiers.{lost}
use Rattle.model.specs.Marks.{marking_unreleased}
use Rattle.model.specs.PrimarySteps.{close_primary}
use Rattle.model.specs.SecondarySteps.{receive, close_secondary}
use Rattle.model.specs.Primary.{PrimaryConnection, PrimaryHistory, primary_connection, with_primary_connection, primary_connection_at, is_established}
use Rattle.model.specs.Primary.{items_sent, active_extents, Accepted, OnDisk, Completion, is_released}
use Rattle.model.specs.Primary.{is_on_disk, is_completed, last_index}
use Rattle.model.specs.Secondary.{SecondaryConnection, SecondaryHistory, secondary_connection_at, items_taken, pending, secondary_connection}
use Rattle.model.specs.Secondary.{with_secondary_connection, secondary_map}
use Rattle.model.specs.Stream.{WriteItem, IsBeginning, IsLawful}
use Rattle.model.specs.Pair.{Event, PairHistory, step, run, ReceiveEvent, AckInEvent}
use Rattle.model.specs.Headline.{IsJoined, TakesABeginning, StaysClosed, StaysClosedToo, HoldsEarlierEpochs, KeepsPromises, MarksDifferences, is_marked}
use Rattle.model.specs.Headline.{is_covered}
use Rattle.model.specs.Theorems.{Opening, primary_at, secondary_at, pair_at, SharesSettings, AnyOpening, HasRanges, IsSoundOpening, EveryRun, JoinedRuns}
use Rattle.laws.specs.Reflections.{FromItem, FromOpening}
use Rattle.std.specs.Prelude.{IsTrue}

-- A primary by itself, whatever frames it takes.

-- a write has at most one place, on at most one connection
abbrev pub PrimaryWritesOnce : Type 0
PrimaryWritesOnce =
    (o : Opening) (events : List PrimaryEvent) (k l place other : ℕ) (c d : PrimaryConnection) (a b : Write)
    → slice_get (primary_run events (primary_at o)).connections k ≡ Some c
    → slice_get (primary_run events (primary_at o)).connections l ≡ Some d
    → slice_get c.stream place ≡ Some (WriteItem a) → slice_get d.stream other ≡ Some (WriteItem b) → a.number ≡ b.number → (k ≡ l) × (place ≡ other)

-- each of its streams is lawful
abbrev pub PrimaryStreamsAreLawful : Type 0
PrimaryStreamsAreLawful =
    (o : Opening) (events : List PrimaryEvent) → HasRanges o
    → (k : ℕ) (c : PrimaryConnection) → slice_get (primary_run events (primary_at o)).connections k ≡ Some c → IsLawful o.settings.max_epoch c.stream

-- its unreleased writes lie in at most as many extents as there are slots
abbrev pub PrimaryExtentsAreFew : Type 0
PrimaryExtentsAreFew = (o : Opening) (events : List PrimaryEvent) → length (active_extents (primary_run events (primary_at o))) ≤ o.settings.slots

-- if two writes share a block and the later one is released, so is the earlier one
abbrev pub PrimaryReleasesInOrder : Type 0
PrimaryReleasesInOrder =
    (o : Opening) (events : List PrimaryEvent) → HasRanges o → IsDisk o.settings.blocks o.local
    → (i j block : ℕ) (a b : Accepted) → i < j → slice_get (primary_run events (primary_at o)).writes i ≡ Some a
    → slice_get (primary_run events (primary_at o)).writes j ≡ Some b → covers a.write block ≡ true → covers b.write block ≡ true
    → is_released (primary_run events (primary_at o)) b ≡ true → is_released (primary_run events (primary_at o)) a ≡ true

-- The entry is of an accepted write, with its range and its bytes, and the local disk has all of that write.
pub record IsOfWriteOnDisk (p : PrimaryHistory) (entry : Completion) : Type 0 where
  pub index : ℕ
  pub accepted : Accepted
  pub there : slice_get p.writes index ≡ Some accepted
  pub write : entry.write ≡ accepted.write
  pub outcome : accepted.outcome ≡ OnDisk

-- each entry of its journal is of an accepted write that is on the local disk
abbrev pub JournalIsOnDisk : Type 0
JournalIsOnDisk =
    (o : Opening) (events : List PrimaryEvent) (n : ℕ) (entry : Completion)
    → slice_get (primary_run events (primary_at o)).journal n ≡ Some entry → IsOfWriteOnDisk (primary_run events (primary_at o)) entry

-- a closed connection does not change, from any history on
abbrev pub PrimaryStaysClosed : Type 0
PrimaryStaysClosed = (p : PrimaryHistory) (events : List PrimaryEvent) → StaysClosed p (primary_run events p)

-- its half of the cover: a block that is neither marked nor covered by an unreleased write holds what the streams or
-- the opening say
abbrev pub PrimaryReflects : Type 0
PrimaryReflects =
    (o : Opening) (events : List PrimaryEvent) → HasRanges o → IsDisk o.settings.blocks o.local
    → IsTrue (primary_run events (primary_at o)).faithful → (block : ℕ) → is_covered (primary_run events (primary_at o)) block ≡ false
    → FromItem (primary_run events (primary_at o)) block ⊎ FromOpening (primary_run events (primary_at o)) block

-- while no connection is established, every block that an unreleased write covers is marked
abbrev pub PrimaryMarksAtRest : Type 0
PrimaryMarksAtRest =
    (o : Opening) (events : List PrimaryEvent) → HasRanges o → IsDisk o.settings.blocks o.local
    → is_established (primary_connection (primary_run events (primary_at o))) ≡ false
    → (block : ℕ) → is_covered (primary_run events (primary_at o)) block ≡ true → is_marked (primary_run events (primary_at o)) block ≡ true

-- A secondary by itself, whatever frames it takes and however its disk fails.

-- its disk holds every write of earlier epochs and part of one
abbrev pub SecondaryHoldsEarlierEpochs : Type 0
SecondaryHoldsEarlierEpochs = (o : Opening) (events : List SecondaryEvent) → HoldsEarlierEpochs (secondary_run events (secondary_at o))

-- on a connection before the last one nothing is pending: it opens only when it is drained
abbrev pub SecondaryDrainsFirst : Type 0
SecondaryDrainsFirst =
    (o : Opening) (events : List SecondaryEvent) (k : ℕ) (d : SecondaryConnection) → slice_get (secondary_run events (secondary_at o)).connections k ≡ Some d
    → suc k < length (secondary_run events (secondary_at o)).connections → length (pending d) ≡ 0

-- a closed connection changes only in what is still applied, failed or dropped, from any history on
abbrev pub SecondaryStaysClosed : Type 0
SecondaryStaysClosed = (s : SecondaryHistory) (events : List SecondaryEvent) → StaysClosedToo s (secondary_run events s)

-- The two, joined.

-- what the secondary took on a connection is a beginning of what the primary sent on it, for any two joined histories
abbrev pub JoinedTakesABeginning : Type 0
JoinedTakesABeginning =
    (p : PrimaryHistory) (s : SecondaryHistory) → IsJoined p s
    → (number : ℕ) → IsBeginning (items_taken (secondary_connection_at s number))
    (take (items_sent (primary_connection_at p number)) (primary_connection_at p number).stream)

-- every write completed over the link has what its protocol promises
abbrev pub JoinedRunsKeepPromises : Type 0
JoinedRunsKeepPromises = JoinedRuns AnyOpening KeepsPromises

-- The pair: its two nodes ran by themselves, and are joined.
pub record AreJoinedRuns (o : Opening) (p : PrimaryHistory) (s : SecondaryHistory) : Type 0 where
  pub here : List PrimaryEvent
  pub there : List SecondaryEvent
  pub primary : p ≡ primary_run here (primary_at o)
  pub secondary : s ≡ secondary_run there (secondary_at o)
  pub joined : IsJoined p s

-- every list of events leads to such a pair
abbrev pub EveryRunIsJoined : Type 0
EveryRunIsJoined = (o : Opening) (events : List (Event × Bool)) → AreJoinedRuns o (run events (pair_at o)).1.primary (run events (pair_at o)).1.secondary

-- The clauses of the headline, each with the premises that it needs.

-- what the secondary took is a beginning of a lawful stream, each write once
abbrev pub EveryRunTakesABeginning : Type 0
EveryRunTakesABeginning = EveryRun HasRanges TakesABeginning

-- after its close an end changes only in what is still applied, failed or dropped
abbrev pub EveryRunStaysClosed : Type 0
EveryRunStaysClosed =
    (o : Opening) (events more : List (Event × Bool)) → StaysClosed (run events (pair_at o)).1.primary (run more (run events (pair_at o)).1).1.primary
    × StaysClosedToo (run events (pair_at o)).1.secondary (run more (run events (pair_at o)).1).1.secondary

-- the secondary's disk holds every write of earlier epochs and part of one
abbrev pub EveryRunHoldsEarlierEpochs : Type 0
EveryRunHoldsEarlierEpochs = EveryRun AnyOpening (λ p s. HoldsEarlierEpochs s)

-- every write completed over the link has what its protocol promises
abbrev pub EveryRunKeepsPromises : Type 0
EveryRunKeepsPromises = EveryRun AnyOpening KeepsPromises

-- in a grounded history, while no connection is established, every block on which the disks differ is marked
abbrev pub EveryRunMarksDifferences : Type 0
EveryRunMarksDifferences = EveryRun IsSoundOpening MarksDifferences

-- a frame that the other end could not have sent, or that belongs to other settings
abbrev pub is_protocol_error : Refusal → Bool
is_protocol_error BadRange = false
is_protocol_error (Conflict number) = false
is_protocol_error LogFull = false
is_protocol_error ActivityFull = false
is_protocol_error JournalFull = false
is_protocol_error StreamFull = false
is_protocol_error NoMemory = false
is_protocol_error LocalFault = false
is_protocol_error NotCompleted = false
is_protocol_error NothingToDo = false
is_protocol_error LinkFull = false
is_protocol_error NotConnected = false
is_protocol_error NothingThere = false
is_protocol_error ReadFault = false
is_protocol_error BadSetting = false
is_protocol_error UnknownJob = false
is_protocol_error EpochOpen = false
is_protocol_error PendingFull = false
is_protocol_error StrangeReceipt = false
is_protocol_error BadMagic = true
is_protocol_error BadCommand = true
is_protocol_error BadLength = true
is_protocol_error BadField = true
is_protocol_error BadBarrierAck = true
is_protocol_error UnknownAck = true
is_protocol_error PrimaryStale = false
is_protocol_error SplitBrain = false
is_protocol_error Unrelated = false
is_protocol_error UsedIdentifier = false
is_protocol_error OtherProtocol = true
is_protocol_error OtherSize = true
is_protocol_error NotDrained = false

-- No step of the pair is refused as a protocol error: the link holds only frames that the other end sent.
abbrev pub EveryStepIsHonest : Type 0
EveryStepIsHonest =
    (o : Opening) (events : List (Event × Bool)) (event : Event) (out_of_memory : Bool) (refusal : Refusal) → SharesSettings o → HasRanges o
    → (step event out_of_memory (run events (pair_at o)).1).0 ≡ reply.Refused refusal → is_protocol_error refusal ≡ false

-- A refusal of a frame that was taken: it has a fault, the other end could not have sent it, or its hello does not fit.
abbrev pub is_refused_frame : Refusal → Bool
is_refused_frame PrimaryStale = true
is_refused_frame SplitBrain = true
is_refused_frame Unrelated = true
is_refused_frame UsedIdentifier = true
is_refused_frame refusal = is_protocol_error refusal

-- the event takes a frame, and this refusal is one of that frame
abbrev pub is_refused_by : Event → Refusal → Bool
is_refused_by ReceiveEvent refusal = is_refused_frame refusal
is_refused_by AckInEvent refusal = is_refused_frame refusal
is_refused_by event refusal = false

-- the end that took it is closed
abbrev pub is_closed_by : Event → PairHistory → Bool
is_closed_by ReceiveEvent h = (secondary_connection h.secondary).closed
is_closed_by event h = (primary_connection h.primary).closed

-- A step that is refused leaves the pair's history as it was, unless it refuses a frame. This includes steps that are
-- out of memory.
abbrev pub RefusedStepsChangeNothing : Type 0
RefusedStepsChangeNothing =
    (event : Event) (out_of_memory : Bool) (h : PairHistory) (refusal : Refusal) → (step event out_of_memory h).0 ≡ reply.Refused refusal
    → is_refused_by event refusal ≡ false → (step event out_of_memory h).1 ≡ h

-- A step that refuses a frame closes the end that took it.
abbrev pub RefusedFramesClose : Type 0
RefusedFramesClose =
    (event : Event) (out_of_memory : Bool) (h : PairHistory) (refusal : Refusal) → (step event out_of_memory h).0 ≡ reply.Refused refusal
    → is_refused_by event refusal ≡ true → is_closed_by event (step event out_of_memory h).1 ≡ true

-- The peer's tuple last seen, once this frame of the hello was taken, by how many were taken before it: the third names
-- the tuple, even if it is then refused.
abbrev pub seen_after : ℕ → Received → Option Tuple → Option Tuple
seen_after (suc (suc n)) (Ok (UuidsFrame peer)) seen = Some peer
seen_after n frame seen = seen

-- A primary's history with another frame that counts as taken, and as refused.
abbrev pub with_refused : Received → PrimaryHistory → PrimaryHistory
with_refused frame p =
    let c = primary_connection p in
    with_primary_connection (λ c. record c { taken = c.taken ++ frame ∷ []; refused = true })
    (record p { peer = elim c.begun [ true ↦ p.peer | false ↦ seen_after (length c.taken) frame p.peer ] })

-- the same of a secondary
abbrev pub with_refused_too : Received → SecondaryHistory → SecondaryHistory
with_refused_too frame s = with_secondary_connection (λ c. record c { taken = c.taken ++ frame ∷ []; refused = true }) s

-- A primary that refuses a frame, whatever the frame is, has all effects of a close in the same step: its history is
-- what the close leaves once the frame counts as taken. Unreleased writes are marked, the tuple changes by the loss
-- word if the stream had begun, and what the local disk has done is completed alone, unless the peer had answered it
-- before.
abbrev pub RefusedFramesCloseThePrimary : Type 0
RefusedFramesCloseThePrimary =
    (frame : Received) (out_of_memory : Bool) (p : PrimaryHistory) (refusal : Refusal) → (ack_in (Some frame) out_of_memory p).0 ≡ reply.Refused refusal
    → is_refused_frame refusal ≡ true
    → (ack_in (Some frame) out_of_memory p).1 ≡ (close_primary (with_refused frame p)).1

-- The same of a secondary: its items stay, and nothing more is taken or sent.
abbrev pub RefusedFramesCloseTheSecondary : Type 0
RefusedFramesCloseTheSecondary =
    (frame : Received) (out_of_memory : Bool) (s : SecondaryHistory) (refusal : Refusal) → (receive (Some frame) out_of_memory s).0 ≡ reply.Refused refusal
    → is_refused_frame refusal ≡ true
    → (receive (Some frame) out_of_memory s).1 ≡ (close_secondary (with_refused_too frame s)).1

-- What was pending at the secondary stays pending, and its disk holds what it held: a refused frame brings no item. (An
-- open end has refused none before.)
abbrev pub RefusedFramesLeaveTheItems : Type 0
RefusedFramesLeaveTheItems =
    (frame : Received) (out_of_memory : Bool) (s : SecondaryHistory) (refusal : Refusal) → (secondary_connection s).refused ≡ false
    → (receive (Some frame) out_of_memory s).0 ≡ reply.Refused refusal → is_refused_frame refusal ≡ true
    → (pending (secondary_connection (receive (Some frame) out_of_memory s).1) ≡ pending (secondary_connection s))
    × (secondary_map (receive (Some frame) out_of_memory s).1 ≡ secondary_map s)

-- What a primary that loses its connection does: it marks every block of the writes that were unreleased before; its
-- tuple changes by the loss word, if the stream had begun; and each write of the connection that its local disk has
-- done is completed.
pub record LosesItsConnection (p q : PrimaryHistory) : Type 0 where
  pub marks : (block : ℕ) → q.marks block ≡ marking_unreleased p block
  pub tuple : q.tuple ≡ (if (primary_connection p).begun then lost (primary_connection p).loss p.tuple else p.tuple)
  pub completed : (n place : ℕ) (a : Accepted) → slice_get p.writes n ≡ Some a → a.home ≡ Some (record { index = last_index p.connections; place = place })
      → is_on_disk a.outcome ≡ true
      → is_completed q a.write.number ≡ true

-- A primary that refuses a frame loses its connection so. The frame itself releases nothing. (An open end has refused
-- none before.)
abbrev pub RefusedFramesLoseTheConnection : Type 0
RefusedFramesLoseTheConnection =
    (frame : Received) (out_of_memory : Bool) (p : PrimaryHistory) (refusal : Refusal) → (primary_connection p).refused ≡ false
    → (ack_in (Some frame) out_of_memory p).0 ≡ reply.Refused refusal → is_refused_frame refusal ≡ true
    → LosesItsConnection p (ack_in (Some frame) out_of_memory p).1
