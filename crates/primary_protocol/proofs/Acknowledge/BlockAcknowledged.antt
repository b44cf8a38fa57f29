-- The peer has the block under way: what that leaves, before what follows.
use Rattle.std.proofs.Common.{ℕ, zero, suc, ◌≡◌, ◌+◌, ◌-◌, ◌<◌, ◌≤◌, Bool, true, false, not, ◌&&◌, ◌||◌, List, [], ◌∷◌, ◌++◌, length, map, filter, Some}
use Rattle.std.proofs.Common.{None, slice_get, Ok, refl, sym, ◌∙◌, ap, subst, arith, ◌==◌}
use Rattle.std.proofs.Math.Bool.{or-false}
use Rattle.std.specs.Prelude.{set, if◌then◌else◌}
use Rattle.std.specs.List.{list_any}
use Rattle.std.proofs.lemmas.Bool.{both_ways, and_parts, not-true, eqb-true, eq-eqb, false_from_ne_true}
use Rattle.std.proofs.lemmas.List.Elements.{filter-append}
use Rattle.std.proofs.lemmas.Option.{slice_get_within}
use Rattle.std.proofs.Math.Bool.{and-false, and-true, or-true}
use Rattle.blocks.specs.Positions.{StreamPosition}
use Rattle.blocks.specs.declared.settings.Settings.{Settings}
use Rattle.blocks.specs.declared.settings.Protocol.{Protocol}
use Rattle.blocks.specs.Ranges.{below}
use Rattle.epochs.specs.Epochs.{EpochsState, ended_if}
use Rattle.model.specs.Contents.{Write}
use Rattle.model.specs.Stream.{StreamItem, WriteItem, ResyncItem, BarrierItem, SyncUuidItem, UuidsItem, barriers_in, epoch_of, last_epoch, items_of_epoch}
use Rattle.model.specs.Stream.{placed}
use Rattle.model.specs.Frames.{RsWriteAckFrame, Acknowledged, Received, naming}
use Rattle.model.specs.Marks.{clearing}
use Rattle.model.specs.Primary.{Accepted, PrimaryConnection, PrimaryHistory, no_primary_connection, primary_connection, last_index, is_established, is_resync}
use Rattle.model.specs.Primary.{is_rs_write_ack, is_barrier_ack, same_naming, was_resynced, is_answered_by, is_answered, is_alone, is_confirmed}
use Rattle.model.specs.Primary.{is_open, open_writes, barrier_acknowledged, under_way}
use Rattle.model.specs.PrimarySteps.{with_completions, epoch_is_over, appending}
use Rattle.overlap.specs.Holdings.{Holding, without}
use Rattle.transferlog.specs.Log as log
use Rattle.transferlog.specs.Log.{LogState}
use Rattle.transferlog.specs.Writes.{completed_of}
use Rattle.laws.proofs.Rules.EpochEnds.{TakesWrites, GoesOn, goes-on, not-over, over-by-block}
use Rattle.laws.proofs.Lists.Last.{length-change}
use Rattle.laws.proofs.Lists.Picks.{pick-any, pick-filtered, pick-none}
use Rattle.laws.proofs.Primary.Homes.{open-at}
use Rattle.laws.proofs.Releases.InOrderMoves.{Ordered, OrderedAfter, in-order-kept}
use Rattle.laws.proofs.Primary.LawfulMoves.{last-changed}
use Rattle.laws.proofs.Streams.Lawful.{barrier-empties}
use Rattle.laws.proofs.Primary.Moves.{with_frame}
use Rattle.laws.proofs.Streams.Places.{placed-back}
use Rattle.primary_protocol.specs.Core.{EndState, PrimaryState, unmarking}
use Rattle.primary_protocol.specs.Leaves.{is_sent, logged_of, holding_item, holding_write, held_of, marks_in, LeavesEpochs, LeavesEnd, LeavesStream, Leaves}
use Rattle.primary_protocol.specs.Taking.{without_block}
use Rattle.primary_protocol.proofs.Acknowledge.WriteAnswered.{any-frame}
use Rattle.primary_protocol.proofs.Common.Connections.{SeesSame}
use Rattle.primary_protocol.proofs.Common.Epochs.{epochs-same, epochs-barrier}
use Rattle.primary_protocol.proofs.Common.Filters.{map-at, filter-map, filter-all, filter-none}
use Rattle.primary_protocol.proofs.Common.Following.{IsDue, parted, barrier_of}
use Rattle.primary_protocol.proofs.Acknowledge.AcceptedFrame.{end-framed, other-place}
use Rattle.primary_protocol.proofs.Common.Reached.{primary-connection-of}
use Rattle.primary_protocol.proofs.Common.Marks.{get-below, length-below, unmarking-none}
use Rattle.primary_protocol.proofs.Acknowledge.AwaitedBlock.{NamesBlock, block-waits, block-sent, block-fresh, only-one}
use Rattle.primary_protocol.proofs.Common.NothingFollows.{quiet-none}
use Rattle.primary_protocol.proofs.Common.EndChanges.{IsUnseen, turned, journal-stays, writes-same, quiet-same, connections-same, activity-same}
use Rattle.laws.proofs.Rules.Releases.{released-same}
use Rattle.primary_protocol.proofs.Acknowledge.WriteAnswered.{frames-more}
use Rattle.laws.proofs.Rules.Answered.{answered-other}
use Rattle.laws.proofs.Primary.WriteConnections.{alone-seen, sent-seen, answered-seen, confirmed-seen}

-- the mark of a block goes
pub set-marks : (blocks : ℕ) (marks : ℕ → Bool) (block : ℕ) → set (marks_in blocks marks) block false ≡ marks_in blocks (clearing block marks)
set-marks blocks marks block = go 0 block (below blocks) (omega arith)
    (λ i x at. let is = sym (get-below blocks i (let within = slice_get_within (below blocks) i x at in let size = length-below blocks in omega arith))
    ∙ at in let same : i ≡ x = cc in omega arith)
  where
    kept : (x : ℕ) → (x ≡ block → ⊥) → marks x ≡ (marks x && not (x == block))
    kept x other = sym (ap (λ b. marks x && not b) (false_from_ne_true (x == block) (λ same. other (eqb-true x block same))) ∙ and-true (marks x))

    go : (from k : ℕ) (xs : List ℕ) → block ≡ from + k → ((i x : ℕ) → slice_get xs i ≡ Some x → x ≡ from + i)
        → set (map marks xs) k false ≡ map (clearing block marks) xs
    go from k [] is rising = refl
    go from zero (x ∷ xs) is rising =
        let first : x ≡ block = let at = rising 0 x refl in omega arith in
        (λ i. (sym (ap (λ b. marks x && not b) (eq-eqb x block first) ∙ and-false (marks x)) i) ∷ map-at marks (clearing block marks) xs
        (λ j y at. kept y (λ same. let place = rising (suc j) y at in omega arith)) i)
    go from (suc k) (x ∷ xs) is rising =
        let place : x ≡ from = let at = rising 0 x refl in omega arith in
        (λ i. kept x (λ same. omega arith) i ∷ go (suc from) k xs (omega arith) (λ j y at. let so = rising (suc j) y at in omega arith) i)

module _ (settings : Settings) (bound : TakesWrites settings) (s : PrimaryState) (h : PrimaryHistory) (e : EndState) (left : Leaves s h)
    (ordered : Ordered settings h) (end : LeavesEnd e (primary_connection h)) (begun : (primary_connection h).begun ≡ true)
    (long : 2 < length (primary_connection h).taken) (ack : Acknowledged) (names : NamesBlock (primary_connection h) ack) where
  abbrev frame : Received
  frame = Ok (RsWriteAckFrame ack)

  abbrev later : PrimaryHistory
  later = turned (with_frame frame) h.tuple h.peer (clearing ack.first h.marks) h

  on : is_established (primary_connection h) ≡ true
  on = λ i. not (end.is_open i) && begun i

  after : OrderedAfter settings later
  after = (in-order-kept settings bound).clears h ack end.is_open begun
      (record { names = block-sent (primary_connection h) ack names; first = block-fresh (primary_connection h) ack names }) ordered

  out : primary_connection later ≡ with_frame frame (primary_connection h)
  out = primary-connection-of (with_frame frame) h later refl end.is_open

  -- No write sees the frame.

  answers : (asked : Protocol) (place : ℕ) (item : StreamItem)
      → is_answered_by asked (with_frame frame (primary_connection h)) place item ≡ is_answered_by asked (primary_connection h) place item
  answers asked place item =
      answered-other asked (primary_connection h) (with_frame frame (primary_connection h)) frame place item refl
      (frames-more (primary_connection h) frame end.plain) refl refl

  acknowledged : (epoch : ℕ) → barrier_acknowledged (with_frame frame (primary_connection h)) epoch ≡ barrier_acknowledged (primary_connection h) epoch
  acknowledged epoch = any-frame (is_barrier_ack epoch) (primary_connection h) frame end.plain ∙ or-false (barrier_acknowledged (primary_connection h) epoch)

  alone-framed : (a : Accepted) → is_alone later a ≡ is_alone h a
  alone-framed = alone-seen h later (with_frame frame) refl refl

  sent-framed : (a : Accepted) → is_sent later a ≡ is_sent h a
  sent-framed = sent-seen h later (with_frame frame) refl refl

  answered-framed : (a : Accepted) → is_answered later a ≡ is_answered h a
  answered-framed = answered-seen h later (with_frame frame) refl refl (answers h.settings.protocol)

  confirmed-framed : (a : Accepted) → is_confirmed later a ≡ is_confirmed h a
  confirmed-framed = confirmed-seen h later (with_frame frame) refl (λ place. acknowledged (epoch_of (primary_connection h).stream place))

  unseen : IsUnseen h (turned (with_frame frame) h.tuple h.peer (clearing ack.first h.marks) h)
  unseen = record {
    logged = λ i a at. λ j. record (logged_of h a) { linked = not (alone-framed a j); sent = sent-framed a j; answered = answered-framed a j };
    released = λ i a at. released-same h later a (confirmed-framed a) (alone-framed a);
  }

  -- Nothing is under way then.

  -- a block of the stream is acknowledged now
  acked : (i : ℕ) (entry : ℕ × StreamItem) → slice_get (placed (primary_connection h).stream) i ≡ Some entry → is_resync entry.1 ≡ true
      → was_resynced (with_frame frame (primary_connection h)) entry.0 entry.1 ≡ true
  acked i entry at block = any-frame (is_rs_write_ack (naming entry.0 entry.1)) (primary_connection h) frame end.plain
      ∙ go (was_resynced (primary_connection h) entry.0 entry.1) refl
    where
      go : (b : Bool) → was_resynced (primary_connection h) entry.0 entry.1 ≡ b
          → (was_resynced (primary_connection h) entry.0 entry.1 || same_naming (naming entry.0 entry.1) ack) ≡ true
      go true is = ap (λ b. b || same_naming (naming entry.0 entry.1) ack) is
      go false is =
          let behind = placed-back 0 (primary_connection h).stream i entry at in
          let index : i ≡ entry.0 = let p = behind.0 in omega arith in
          let there = block-waits (primary_connection h) entry.0 entry.1 (ap (slice_get (primary_connection h).stream) (sym index) ∙ behind.1) block is in
          let same : (ack.place, ResyncItem ack.first names.contents) ≡ (entry.0, entry.1) = only-one (ack.place, ResyncItem ack.first names.contents) (
            entry.0,
            entry.1,
          ) (under_way (primary_connection h)) there.0 names.alone there.1 in
          ap (λ b. was_resynced (primary_connection h) entry.0 entry.1 || b) (ap (λ (x : ℕ × StreamItem). same_naming (naming x.0 x.1) ack) (sym same)
          ∙ names.naming_is)
          ∙ or-true (was_resynced (primary_connection h) entry.0 entry.1)

  none-way : under_way (with_frame frame (primary_connection h)) ≡ []
  none-way = filter-none (λ (entry : ℕ × StreamItem). is_resync entry.1 && not (was_resynced (with_frame frame (primary_connection h)) entry.0 entry.1))
      (placed (primary_connection h).stream) (λ i entry at.
      false_from_ne_true (is_resync entry.1 && not (was_resynced (with_frame frame (primary_connection h)) entry.0 entry.1)) (λ so.
      let parts = and_parts (is_resync entry.1) (not (was_resynced (with_frame frame (primary_connection h)) entry.0 entry.1)) so in
      both_ways (was_resynced (with_frame frame (primary_connection h)) entry.0 entry.1)
      (not-true (was_resynced (with_frame frame (primary_connection h)) entry.0 entry.1) parts.1)
      (acked i entry at parts.0)))

  later-place : (place : ℕ) → length (primary_connection h).stream ≤ place → (place == ack.place) ≡ false
  later-place place past = false_from_ne_true (place == ack.place) (λ same. let is_it = eqb-true place ack.place same in let within =
      slice_get_within (primary_connection h).stream ack.place (ResyncItem ack.first names.contents) names.there in omega arith)

  pub cleared-end : LeavesEnd (record e { under_way = None }) (with_frame frame (primary_connection h))
  cleared-end = end-framed e (primary_connection h) frame None end begun long
      (record {
        received = λ place item past. refl;
        written = λ place item past. refl;
        resynced = λ place item past. other-place ack place item (later-place place past);
      }) none-way

  -- what is held, without the block
  held-is : without 0 s.held ≡ held_of later
  held-is =
      ap (without 0) left.rest.held
      ∙ (filter-append (λ (x : Holding). not (x.number == 0)) (map holding_item (if is_established (primary_connection h) then under_way (primary_connection h)
      else []))
      (map holding_write (open_writes h))
      ∙ ((λ i. zeros (if is_established (primary_connection h) then under_way (primary_connection h) else []) i ++ rest i)
      ∙ sym (λ i. map holding_item (if (ap is_established out ∙ on) i then (ap under_way out ∙ none-way) i else []) ++ map holding_write (open_writes h))))
    where
      zeros : (entries : List (ℕ × StreamItem)) → filter (λ (x : Holding). not (x.number == 0)) (map holding_item entries) ≡ []
      zeros entries = filter-map (λ (x : Holding). not (x.number == 0)) holding_item entries
          ∙ ap (map holding_item) (filter-none (λ entry. not (0 == 0)) entries (λ i entry at. refl))

      rest : filter (λ (x : Holding). not (x.number == 0)) (map holding_write (open_writes h)) ≡ map holding_write (open_writes h)
      rest =
          filter-map (λ (x : Holding). not (x.number == 0)) holding_write (open_writes h)
          ∙ ap (map holding_write) (filter-all (λ a. not (a.write.number == 0)) (open_writes h) (λ i a at.
          let stood = pick-filtered (is_open h) h.writes i a at in
          let index = ordered.1.1.0.0.numbered stood.0 a stood.1 in
          ap not (false_from_ne_true (a.write.number == 0) (λ e. let zero_is = eqb-true a.write.number 0 e in omega arith))))

  -- The last epoch is over where it has a block: none of them was acknowledged before.

  going : GoesOn h (primary_connection h)
  going = goes-on h on ordered.1.1.0.1.on

  -- the blocks of the last epoch
  abbrev blocks : Bool
  blocks = list_any (λ (entry : ℕ × StreamItem). is_resync entry.1) (items_of_epoch (primary_connection h).stream (last_epoch (primary_connection h).stream))

  over-is : epoch_is_over later ≡ s.log.epochs.resync
  over-is = go blocks refl ∙ sym (left.stream.on on).resync
    where
      by-item : (j place : ℕ) (item : StreamItem)
          → slice_get (items_of_epoch (primary_connection h).stream (last_epoch (primary_connection h).stream)) j ≡ Some (place, item)
          → is_resync item ≡ true → epoch_is_over later ≡ true
      by-item j place (ResyncItem block contents) at is =
          let stood = pick-filtered (λ (x : ℕ × StreamItem). epoch_of (primary_connection h).stream x.0 == last_epoch (primary_connection h).stream)
          (placed (primary_connection h).stream) j (
            place,
            ResyncItem block contents,
          ) at in
          over-by-block later (with_frame frame (primary_connection h)) out on j place block contents at
          (acked stood.0 (place, ResyncItem block contents) stood.1 refl)
      by-item j place (WriteItem write) at is = absurd (cc)
      by-item j place (BarrierItem epoch) at is = absurd (cc)
      by-item j place (SyncUuidItem word) at is = absurd (cc)
      by-item j place (UuidsItem tuple) at is = absurd (cc)

      go : (b : Bool) → blocks ≡ b → epoch_is_over later ≡ blocks
      go true some =
          let found = pick-any (λ (entry : ℕ × StreamItem). is_resync entry.1)
          (items_of_epoch (primary_connection h).stream (last_epoch (primary_connection h).stream)) some in
          by-item found.0 found.1.0 found.1.1 found.2 found.3 ∙ sym some
      go false none = not-over later (with_frame frame (primary_connection h)) out (record {
        unsettled = record {
          writes = going.unsettled.writes;
          blocks = λ j place block contents at. absurd
              (let no = pick-none (λ (entry : ℕ × StreamItem). is_resync entry.1)
              (items_of_epoch (primary_connection h).stream (last_epoch (primary_connection h).stream)) j (
                place,
                ResyncItem block contents,
              ) none at in cc);
        };
        room = going.room;
      }) ∙ sym none

  journal : with_completions later ≡ later
  journal = journal-stays later (quiet-same s h left (with_frame frame) h.tuple h.peer (clearing ack.first h.marks) unseen)

  -- the log's answer is the history's barrier
  barrier-is : (log.resync_acked s.log).0 ≡ barrier_of later
  barrier-is = ap (λ b. (ended_if b s.log.epochs).0) (sym over-is) ∙ go (epoch_is_over later) refl
    where
      go : (b : Bool) → epoch_is_over later ≡ b → (ended_if (epoch_is_over later) s.log.epochs).0 ≡ barrier_of later
      go false is = ap (λ b. (ended_if b s.log.epochs).0) is ∙ sym (ap (λ b. if b then Some (last_epoch (primary_connection later).stream) else None) is)
      go true is =
          let more : s.log.epochs.ended + 1 ≡ suc (barriers_in (primary_connection h).stream) = let x = (left.stream.on on).ended in omega arith in
          ap (λ b. (ended_if b s.log.epochs).0) is
          ∙ (ap (λ m. Some m) (more ∙ ap (λ (c : PrimaryConnection). last_epoch c.stream) (sym out))
          ∙ sym (ap (λ b. if b then Some (last_epoch (primary_connection later).stream) else None) is))

  index : last_index later.connections ≡ last_index h.connections
  index = ap (λ m. m - 1) (length-change (with_frame frame) h.connections)

  -- the epochs before a barrier
  before : (l : LogState) → l.protocol ≡ s.log.protocol → l.acknowledged_through ≡ s.log.acknowledged_through → l.accepted ≡ s.log.accepted → l.epochs ≡ s.log.epochs
      → LeavesEpochs l (primary_connection later)
  before l protocol confirmed accepted epochs =
      subst (LeavesEpochs l) (sym out)
      (epochs-same s.log l (primary_connection h) (with_frame frame (primary_connection h)) (left.stream.on on) refl acknowledged
      (λ asked place item so. answers asked place item
      ∙ so) protocol confirmed accepted epochs)

  -- The log's epochs are left, with the barrier.
  stream-then : LeavesStream (log.resync_acked s.log).1 (parted later)
  stream-then = go (epoch_is_over later) refl (ap (λ b. (ended_if b s.log.epochs).1) (sym over-is))
    where
      go : (b : Bool) → epoch_is_over later ≡ b → (log.resync_acked s.log).1.epochs ≡ (ended_if (epoch_is_over later) s.log.epochs).1
          → LeavesStream (log.resync_acked s.log).1
          (elim b as (λ _. PrimaryHistory) [ true ↦ appending (BarrierItem (last_epoch (primary_connection later).stream)) later | false ↦ later ])
      go false is so =
          let epochs : (log.resync_acked s.log).1.epochs ≡ s.log.epochs = so ∙ ap (λ b. (ended_if b s.log.epochs).1) is in
          record {
            max_epoch = ap (λ (x : EpochsState). x.max_epoch) epochs ∙ left.stream.max_epoch;
            on = λ so. before (log.resync_acked s.log).1 refl refl refl epochs;
            here = λ so i a at behind. let place = left.stream.here on i a at behind in
                (place.0, place.1 ∙ ap (λ m. let at : StreamPosition = record { index = m; place = place.0 } in Some at) (sym index));
            off = λ none. absurd (both_ways (is_established (primary_connection later)) none (ap is_established out ∙ on));
          }
      go true is so =
          let epochs : (log.resync_acked s.log).1.epochs ≡ (ended_if true s.log.epochs).1 = so ∙ ap (λ b. (ended_if b s.log.epochs).1) is in
          record {
            max_epoch = ap (λ (x : EpochsState). x.max_epoch) epochs ∙ left.stream.max_epoch;
            on = λ so. epochs-barrier s.log (log.resync_acked s.log).1 (primary_connection later)
                (primary_connection (appending (BarrierItem (last_epoch (primary_connection later).stream)) later))
                (BarrierItem (last_epoch (primary_connection later).stream))
                (before s.log refl refl refl refl)
                (subst (SeesSame (primary_connection later)) (sym longer) (record { closed = refl; pushed = refl; taken = refl; refused = refl }))
                (ap (λ (x : PrimaryConnection). x.stream) longer) refl refl refl refl
                (ap (λ (x : List StreamItem). items_of_epoch x (last_epoch x)) (ap (λ (x : PrimaryConnection). x.stream) longer)
                ∙ barrier-empties (primary_connection later).stream (last_epoch (primary_connection later).stream)) refl epochs few;
            here = λ so i a at behind.
                let place = left.stream.here on i a at behind in (
                  place.0,
                  place.1 ∙ ap (λ m. let at : StreamPosition = record { index = m; place = place.0 } in Some at)
                      (sym (ap (λ m. m - 1) (length-change
                      (λ (x : PrimaryConnection). record x { stream = x.stream ++ BarrierItem (last_epoch (primary_connection later).stream) ∷ [] })
                      later.connections) ∙ index)),
                );
            off = λ none. absurd (both_ways (is_established (primary_connection (appending (BarrierItem (last_epoch (primary_connection later).stream)) later)))
                none (ap is_established longer
                ∙ (ap is_established out ∙ on)));
          }
        where
          longer : primary_connection (appending (BarrierItem (last_epoch (primary_connection later).stream)) later) ≡ record (primary_connection later) {
            stream =
                (primary_connection later).stream ++ BarrierItem (last_epoch (primary_connection later).stream) ∷ [];
          }
          longer = last-changed later (λ (x : PrimaryConnection). record x
              { stream = x.stream ++ BarrierItem (last_epoch (primary_connection later).stream) ∷ [] })
              (no_primary_connection later.tuple) (ap (λ (x : PrimaryConnection). x.closed) out ∙ end.is_open)

          few : (place : ℕ) (write : Write) → slice_get (primary_connection later).stream place ≡ Some (WriteItem write) → write.number ≤ s.log.accepted
          few place write at =
              let found = ordered.1.1.0.0.homed (last_index h.connections) place (primary_connection h) write (open-at h end.is_open)
              (subst (λ (x : PrimaryConnection). slice_get x.stream place ≡ Some (WriteItem write)) out at) in
              let number = ordered.1.1.0.0.numbered found.0 found.1 found.2 in
              let same : found.1.write.number ≡ write.number = ap (λ (w : Write). w.number) found.3 in
              let within = slice_get_within h.writes found.0 found.1 found.2 in
              let all = left.rest.log.accepted in
              omega arith

  -- The block is no more under way, before what follows.
  pub cleared-due : IsDue (without_block ack.first e (record s { log = (log.resync_acked s.log).1 })) (log.resync_acked s.log).0 later
  cleared-due = record {
    homes = after.1.1.0.0;
    done = λ i a at completed. sym (quiet-same s h left (with_frame frame) h.tuple h.peer (clearing ack.first h.marks) unseen i a at) ∙ completed;
    settings = left.rest.settings;
    tuple = left.rest.tuple;
    peer = left.rest.peer;
    connections = connections-same s h left (with_frame frame) h.tuple h.peer (clearing ack.first h.marks) unseen;
    log = record {
      protocol = left.rest.log.protocol;
      backlog = left.rest.log.backlog;
      accepted = left.rest.log.accepted;
      connection = left.rest.log.connection ∙ sym (λ i. if is_established (out i) then Some (index i) else None);
      writes = writes-same s h left (with_frame frame) h.tuple h.peer (clearing ack.first h.marks) unseen;
      last_writes = left.rest.log.last_writes;
    };
    completed = sym (ap (map (λ a. completed_of (logged_of later a)))
        (quiet-none later (quiet-same s h left (with_frame frame) h.tuple h.peer (clearing ack.first h.marks) unseen)));
    barrier_is = barrier-is ∙ sym (ap barrier_of journal);
    stream = subst (LeavesStream (log.resync_acked s.log).1) (sym (ap parted journal)) stream-then;
    entries = left.rest.entries.entries;
    receipts = left.rest.entries.receipts;
    held = held-is;
    marks =
        ap (λ m. unmarking [] s.log.last_writes (set m ack.first false)) left.rest.marks
        ∙ (ap (unmarking [] s.log.last_writes) (set-marks h.settings.blocks h.marks ack.first)
        ∙ unmarking-none [] s.log.last_writes h.settings.blocks (clearing ack.first h.marks) (λ n r at. absurd (cc)));
    activity = activity-same s h left (with_frame frame) h.tuple h.peer (clearing ack.first h.marks) unseen;
    end = subst (LeavesEnd (record e { under_way = None })) (sym out) cleared-end;
  }
