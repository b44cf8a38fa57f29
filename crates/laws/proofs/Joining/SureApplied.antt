-- What the peer has surely applied, as a primary reads it off the frames that it took, the secondary has taken and applied.
use Rattle.std.proofs.Common.{ℕ, ◌≡◌, ◌≤◌, inl, inr, true, List, length, map, take, ◌++◌, Some, slice_get, Ok, Err, refl, sym, ◌∙◌, ap, subst, arith, Bool}
use Rattle.std.proofs.Common.{false, ◌-◌}
use Rattle.std.proofs.lemmas.Bool.{cases_Bool, both_ways, eqb-true, lt-ltb, cases_lt}
use Rattle.blocks.specs.declared.settings.Settings.{Settings}
use Rattle.model.specs.Contents.{Write}
use Rattle.model.specs.Stream.{StreamItem, WriteItem, ResyncItem, BarrierItem, SyncUuidItem, UuidsItem, Part, IsBeginning, is_whole, has_blocks, contents_of}
use Rattle.model.specs.Stream.{epoch_of}
use Rattle.model.specs.Frames.{DataFrame, RsDataReplyFrame, BarrierFrame, ProtocolFrame, UuidsFrame, SizesFrame, SyncUuidFrame, RecvAckFrame, WriteAckFrame}
use Rattle.model.specs.Frames.{RsWriteAckFrame, BarrierAckFrame, Acknowledged, Received, naming, counting}
use Rattle.model.specs.Primary.{PrimaryConnection, items_sent, accepted_frames, same_naming, is_rs_write_ack, is_barrier_ack, PrimaryHistory}
use Rattle.model.specs.Secondary.{SecondaryConnection, items_taken, answers_due, SecondaryHistory}
use Rattle.model.specs.LocalRuns.{PrimaryEvent, primary_run, SecondaryEvent, secondary_run}
use Rattle.model.specs.Headline.{IsJoined}
use Rattle.model.specs.Theorems.{Opening, primary_at, secondary_at}
use Rattle.laws.specs.Reflections.{is_sure}
use Rattle.laws.proofs.Lists.Beginnings.{begins-take, begins-trans, get-beginning, begins-self}
use Rattle.laws.proofs.Streams.Parts.{whole-from}
use Rattle.laws.proofs.Streams.Places.{epoch-grows, epoch-behind, get-grows}
use Rattle.laws.proofs.Secondary.TrueAnswers.{same-place}
use Rattle.laws.proofs.Joining.Promises.{was-due}
use Rattle.laws.proofs.Secondary.TrueBarriers.{barrier_is_applied, resynced_is_applied}
use Rattle.laws.proofs.Lists.Elements.{same-at}
use Rattle.laws.proofs.Lists.Picks.{pick-any}
use Rattle.laws.proofs.Joining.Taking.{items-begin, read}
use Rattle.laws.proofs.Joining.Ends.{AreEnds, joined-out, joined-back}
use Rattle.laws.proofs.Secondary.Numbers.{NumbersRise, numbers-rise}
use Rattle.std.specs.List.{list_any}

-- the acknowledgement of a barrier in a frame that passes
barrier-ack : (epoch : ℕ) (frame : Received) → is_barrier_ack epoch frame ≡ true
    → (number : ℕ) × (size : ℕ) × (frame ≡ Ok (BarrierAckFrame number size)) × (number ≡ epoch)
barrier-ack epoch (Err fault) h = absurd (cc)
barrier-ack epoch (Ok (DataFrame write at)) h = absurd (cc)
barrier-ack epoch (Ok (RsDataReplyFrame block contents at)) h = absurd (cc)
barrier-ack epoch (Ok (BarrierFrame number)) h = absurd (cc)
barrier-ack epoch (Ok (ProtocolFrame asked)) h = absurd (cc)
barrier-ack epoch (Ok (UuidsFrame tuple)) h = absurd (cc)
barrier-ack epoch (Ok (SizesFrame blocks)) h = absurd (cc)
barrier-ack epoch (Ok (SyncUuidFrame word)) h = absurd (cc)
barrier-ack epoch (Ok (RecvAckFrame ack)) h = absurd (cc)
barrier-ack epoch (Ok (WriteAckFrame ack)) h = absurd (cc)
barrier-ack epoch (Ok (RsWriteAckFrame ack)) h = absurd (cc)
barrier-ack epoch (Ok (BarrierAckFrame number size)) h = (number, size, refl, eqb-true number epoch h)

-- the acknowledgement of a resync block in a frame that passes
resync-ack : (of : Acknowledged) (frame : Received) → is_rs_write_ack of frame ≡ true
    → (ack : Acknowledged) × (frame ≡ Ok (RsWriteAckFrame ack)) × (same_naming of ack ≡ true)
resync-ack of (Err fault) h = absurd (cc)
resync-ack of (Ok (DataFrame write at)) h = absurd (cc)
resync-ack of (Ok (RsDataReplyFrame block contents at)) h = absurd (cc)
resync-ack of (Ok (BarrierFrame number)) h = absurd (cc)
resync-ack of (Ok (ProtocolFrame asked)) h = absurd (cc)
resync-ack of (Ok (UuidsFrame tuple)) h = absurd (cc)
resync-ack of (Ok (SizesFrame blocks)) h = absurd (cc)
resync-ack of (Ok (SyncUuidFrame word)) h = absurd (cc)
resync-ack of (Ok (RecvAckFrame ack)) h = absurd (cc)
resync-ack of (Ok (WriteAckFrame ack)) h = absurd (cc)
resync-ack of (Ok (RsWriteAckFrame ack)) h = (ack, refl, h)
resync-ack of (Ok (BarrierAckFrame number size)) h = absurd (cc)

-- an item is whole if it is so where it has blocks
whole-blocks : (part : Part) (place : ℕ) (item : StreamItem) → (has_blocks item ≡ true → is_whole part place item ≡ true) → is_whole part place item ≡ true
whole-blocks part place item whole = elim (cases_Bool (has_blocks item)) [
  | inl blocks ↦ whole blocks
  | inr none ↦ whole-from part place item (λ offset less. absurd (both_ways (has_blocks item) none (lt-ltb 0 (length (contents_of item)) (omega arith))))
]

-- What the secondary took on a connection begins the primary's stream.
pub taken-begins : (p : PrimaryHistory) (s : SecondaryHistory) → NumbersRise s.connections → IsJoined p s
    → (k j : ℕ) (c : PrimaryConnection) (d : SecondaryConnection)
    → AreEnds p s k j c d → IsBeginning (items_taken d) c.stream
taken-begins p s rise joined k j c d ends =
    begins-trans (items_taken d) (take (items_sent c) c.stream) c.stream (items-begin p c d (joined-out p s rise joined k j c d ends))
    (begins-take (items_sent c) c.stream)

sure-write : (o : Opening) (there : List SecondaryEvent) (settings : Settings) (k place : ℕ) (c : PrimaryConnection) (d : SecondaryConnection) (write : Write)
    → slice_get (secondary_run there (secondary_at o)).connections k ≡ Some d
    → IsBeginning c.taken (map read (take d.pushed (answers_due settings d))) → IsBeginning (items_taken d) c.stream
    → slice_get c.stream place ≡ Some (WriteItem write) → is_sure c place (WriteItem write) ≡ true
    → (slice_get (items_taken d) place ≡ Some (WriteItem write)) × (is_whole d.applied place (WriteItem write) ≡ true)
sure-write o there settings k place c d write secondary_connection joined begins at sure =
    let found = pick-any (is_barrier_ack (epoch_of c.stream place)) (accepted_frames c) sure in
    let ack = barrier-ack (epoch_of c.stream place) found.1 found.3 in
    let due = was-due settings c d found.0 (BarrierAckFrame ack.0 ack.1) refl joined (found.2 ∙ ap (λ (f : Received). Some f) ack.2) in
    let applied = barrier_is_applied o.peer_settings o.peer o.peer_tuple there k due.0 d ack.0 ack.1 secondary_connection due.1 in
    let number : ack.0 ≡ epoch_of c.stream place = ack.3 in
    let stream : items_taken d ++ begins.0 ≡ c.stream = begins.1 in
    let epochs : epoch_of (items_taken d ++ begins.0) place ≡ epoch_of c.stream place = ap (λ (l : List StreamItem). epoch_of l place) stream in
    elim (cases_lt place (length (items_taken d))) [
      | inl within ↦
          let taken : slice_get (items_taken d) place ≡ Some (WriteItem write) = sym (get-grows (items_taken d) begins.0 place within)
          ∙ (ap (λ (l : List StreamItem). slice_get l place) stream ∙ at) in
          let early : epoch_of (items_taken d) place ≤ ack.0 = let same = epoch-grows (items_taken d) begins.0 place (omega arith) in omega arith in
          (taken, whole-blocks d.applied place (WriteItem write) (λ blocks. applied.1 place (WriteItem write) taken early blocks))
      | inr behind ↦ absurd (let late = epoch-behind (items_taken d) begins.0 place behind in let upto = applied.0 in omega arith)
    ]

sure-resync : (o : Opening) (there : List SecondaryEvent) (settings : Settings) (k place : ℕ) (c : PrimaryConnection) (d : SecondaryConnection) (block : ℕ)
    (contents : List ℕ)
    → slice_get (secondary_run there (secondary_at o)).connections k ≡ Some d
    → IsBeginning c.taken (map read (take d.pushed (answers_due settings d))) → IsBeginning (items_taken d) c.stream
    → slice_get c.stream place ≡ Some (ResyncItem block contents) → is_sure c place (ResyncItem block contents) ≡ true
    → (slice_get (items_taken d) place ≡ Some (ResyncItem block contents)) × (is_whole d.applied place (ResyncItem block contents) ≡ true)
sure-resync o there settings k place c d block contents secondary_connection joined begins at sure =
    let item : StreamItem = ResyncItem block contents in
    let found = pick-any (is_rs_write_ack (naming place item)) (accepted_frames c) sure in
    let ack = resync-ack (naming place item) found.1 found.3 in
    let due = was-due settings c d found.0 (RsWriteAckFrame ack.0) refl joined (found.2 ∙ ap (λ (f : Received). Some f) ack.1) in
    let applied = resynced_is_applied o.peer_settings o.peer o.peer_tuple there k due.0 d ack.0 secondary_connection due.1 in
    let same : place ≡ ack.0.place = same-place (naming place item) ack.0 ack.2 in
    let taken : slice_get (items_taken d) place ≡ Some applied.0 = subst (λ n. slice_get (items_taken d) n ≡ Some applied.0) (sym same) applied.1 in
    let is : applied.0 ≡ item = same-at c.stream place applied.0 item (get-beginning (items_taken d) c.stream place applied.0 begins taken) at in (
      subst (λ (i : StreamItem). slice_get (items_taken d) place ≡ Some i) is taken,
      subst (λ (i : StreamItem). is_whole d.applied place i ≡ true) is (subst (λ n. is_whole d.applied n applied.0 ≡ true) (sym same) applied.2),
    )

-- What is surely on the peer's disk, as the primary reads it, was taken at its place, and all of it is applied.
pub sure-is-applied : (o : Opening) (here : List PrimaryEvent) (there : List SecondaryEvent)
    → IsJoined (primary_run here (primary_at o)) (secondary_run there (secondary_at o))
    → (k j place : ℕ) (c : PrimaryConnection) (d : SecondaryConnection) (item : StreamItem)
    → AreEnds (primary_run here (primary_at o)) (secondary_run there (secondary_at o)) k j c d
    → slice_get c.stream place ≡ Some item → is_sure c place item ≡ true
    → (slice_get (items_taken d) place ≡ Some item) × (is_whole d.applied place item ≡ true)
sure-is-applied o here there joined k j place c d item ends at sure = go item at sure
  where
    p : PrimaryHistory
    p = primary_run here (primary_at o)

    s : SecondaryHistory
    s = secondary_run there (secondary_at o)

    rise : NumbersRise s.connections
    rise = numbers-rise there (secondary_at o) refl

    go : (item : StreamItem) → slice_get c.stream place ≡ Some item → is_sure c place item ≡ true
        → (slice_get (items_taken d) place ≡ Some item) × (is_whole d.applied place item ≡ true)
    go (WriteItem write) at sure = sure-write o there s.settings j place c d write ends.secondary_connection (joined-back p s rise joined k j c d ends)
        (taken-begins p s rise joined k j c d ends) at sure
    go (ResyncItem block contents) at sure = sure-resync o there s.settings j place c d block contents ends.secondary_connection
        (joined-back p s rise joined k j c d ends)
        (taken-begins p s rise joined k j c d ends) at sure
    go (BarrierItem epoch) at sure = absurd (cc)
    go (SyncUuidItem word) at sure = absurd (cc)
    go (UuidsItem tuple) at sure = absurd (cc)

-- What is sure on a connection was taken there, so the secondary opened it.
pub sure-taken : (c : PrimaryConnection) (place : ℕ) (item : StreamItem) → is_sure c place item ≡ true
    → (n : ℕ) × (frame : Received) × (slice_get c.taken n ≡ Some frame)
sure-taken c place item sure = go item sure
  where
    front : IsBeginning (accepted_frames c) c.taken
    front = elim c.refused as (λ b. IsBeginning (counting b c.taken) c.taken) [ true ↦ begins-take (length c.taken - 1) c.taken | false ↦ begins-self c.taken ]

    one : (test : Received → Bool) → list_any test (accepted_frames c) ≡ true → (n : ℕ) × (frame : Received) × (slice_get c.taken n ≡ Some frame)
    one test some = let found = pick-any test (accepted_frames c) some in (
      found.0,
      found.1,
      get-beginning (accepted_frames c) c.taken found.0 found.1 front found.2,
    )

    go : (item : StreamItem) → is_sure c place item ≡ true → (n : ℕ) × (frame : Received) × (slice_get c.taken n ≡ Some frame)
    go (WriteItem write) sure = one (is_barrier_ack (epoch_of c.stream place)) sure
    go (ResyncItem block contents) sure = one (is_rs_write_ack (naming place (ResyncItem block contents))) sure
    go (BarrierItem epoch) sure = absurd (cc)
    go (SyncUuidItem word) sure = absurd (cc)
    go (UuidsItem tuple) sure = absurd (cc)
