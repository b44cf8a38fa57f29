-- Whatever frames a primary takes, its streams can be sent, and an open end has taken three frames once its stream has begun.
use Rattle.std.proofs.Common.{ℕ, zero, suc, ◌≡◌, ◌+◌, ◌-◌, ◌≤◌, ◌<◌, Bool, true, false, cond, not, ◌||◌, List, [], ◌∷◌, ◌++◌, length, Option, Some, None}
use Rattle.std.proofs.Common.{Result, Ok, Err, refl, sym, ◌∙◌, ap, subst, arith, nat_lt, length-append}
use Rattle.std.specs.Prelude.{unwrap_or}
use Rattle.std.proofs.lemmas.Bool.{both_ways, and_parts, ltb-true, le-leb, eq-eqb, and_from}
use Rattle.blocks.specs.declared.refusal.Refusal.{Refusal}
use Rattle.blocks.specs.declared.refusal.Refusal.TheVariants.{NothingToDo, NotConnected, ReadFault, UnknownJob}
use Rattle.blocks.specs.declared.refusal.Refusal.TheVariants.{UsedIdentifier}
use Rattle.blocks.specs.declared.outcome.Decision.{Decision}
use Rattle.blocks.specs.declared.outcome.Decision.TheVariants.{NoSync, BitmapSync, FullSync}
use Rattle.blocks.specs.declared.outcome.What.{What}
use Rattle.blocks.specs.declared.outcome.What.TheVariants as what
use Rattle.blocks.specs.declared.outcome.Reply.{Reply}
use Rattle.blocks.specs.declared.outcome.Reply.TheVariants as reply
use Rattle.blocks.specs.declared.settings.Settings.{Settings}
use Rattle.blocks.specs.declared.tuple.Tuple.{Tuple}
use Rattle.model.specs.Contents.{BlockMap, is_range, extent_of}
use Rattle.model.specs.Stream.{StreamItem, WriteItem, ResyncItem, SyncUuidItem, within, last_epoch, items_of_epoch}
use Rattle.model.specs.Frames.{Packet, ProtocolFrame, UuidsFrame, SizesFrame, RecvAckFrame, WriteAckFrame, RsWriteAckFrame, BarrierAckFrame, Received}
use Rattle.model.specs.Identifiers.{decision, stands_in, sync_end}
use Rattle.model.specs.Marks.{releasing}
use Rattle.model.specs.Primary.{Accepted, OnDisk, PrimaryConnection, PrimaryHistory, primary_opening, no_primary_connection, primary_connection, change_last}
use Rattle.model.specs.Primary.{with_primary_connection, is_established, local_map, in_resync, resync_runs, free_block}
use Rattle.model.specs.PrimarySteps.{follows, appending, succeeding, epoch_is_over, open_tests, opened, open_primary, submission, submit_tests, copying}
use Rattle.model.specs.PrimarySteps.{submitted, submit, is_unfinished, with_outcome, local_done, accepted_at, faulted, local_fault, send_tests, sending, send}
use Rattle.model.specs.PrimarySteps.{resync_tests, resync_next, resync_fault, closing, close_primary, take_completed, submitted_with, faulted_by}
use Rattle.model.specs.Acknowledgements.{Taken, begun_with, meeting, taking_hello, taking_ack, taking, take_frame, ack_in}
use Rattle.model.specs.LocalRuns.{PrimaryEvent, Opens, Submits, WritesLocally, FailsLocally, Sends, Takes, Resyncs, FailsResync, Closes, Receipts}
use Rattle.model.specs.LocalRuns.{primary_after, primary_run}
use Rattle.laws.proofs.Rules.Receipts.{receipt-has}
use Rattle.laws.proofs.Rules.FreeBlocks.{free-found}
use Rattle.laws.proofs.Rules.ResyncEnds.{over-runs}
use Rattle.laws.proofs.Rules.Submissions.{accepted-by-tests}
use Rattle.laws.proofs.Rules.EpochEnds.{TakesWrites, over-work}
use Rattle.laws.proofs.Lists.Each.{Each, each-append, each-change}
use Rattle.laws.proofs.Lists.Last.{change-twice}
use Rattle.laws.proofs.Lists.Picks.{any-pick}
use Rattle.laws.proofs.Primary.Moves.{with_frame, pushing, tested-keeps, following-from}
use Rattle.laws.proofs.Primary.LawfulMoves.{last-changed}
use Rattle.laws.proofs.Streams.Sendable.{IsSendable, is_work, is_busy, sendable-work, sendable-barrier, sendable-end, sendable-empty, sendable-start}
use Rattle.laws.proofs.Rules.Memory.{may-open, may-copy-open, ack-in-has}
use Rattle.laws.proofs.Rules.RefusedFrames.{refusing, refused_out, refused-last, frame-has}
use Rattle.model.specs.PrimarySteps.{given}

-- A connection whose stream can be sent and whose sync word is not zero; while it is open, its stream begins with the third
-- frame that it takes.
pub record IsFitEnd (settings : Settings) (c : PrimaryConnection) : Type 0 where
  pub stream : IsSendable settings c.stream
  pub fresh : 0 < c.sync
  pub early : c.closed ≡ false → c.begun ≡ false → length c.taken < 3
  pub late : c.begun ≡ true → 2 < length c.taken

-- every connection is so
pub record HasFitEnds (settings : Settings) (h : PrimaryHistory) : Type 0 where
  pub setting : h.settings ≡ settings
  pub ends : Each (IsFitEnd settings) h.connections

-- An epoch that is over had a write or a block.
pub over-busy : (settings : Settings) → TakesWrites settings → (h : PrimaryHistory) → h.settings ≡ settings → epoch_is_over h ≡ true
    → is_busy (primary_connection h).stream ≡ true
over-busy settings bound h same over =
    let found = over-work h (subst TakesWrites (sym same) bound) over in
    any-pick is_work (items_of_epoch (primary_connection h).stream (last_epoch (primary_connection h).stream)) found.0 found.1 found.2 found.3

-- Changes of the last connection.

module _ (settings : Settings) (bound : TakesWrites settings) where
  fit-change : (h later : PrimaryHistory) (f : PrimaryConnection → PrimaryConnection) → later.settings ≡ h.settings
      → later.connections ≡ change_last f h.connections
      → (IsFitEnd settings (primary_connection h) → IsFitEnd settings (f (primary_connection h))) → HasFitEnds settings h → HasFitEnds settings later
  fit-change h later f same connections keeps a = record {
    setting = same ∙ a.setting;
    ends = subst (Each (IsFitEnd settings)) (sym connections) (each-change (IsFitEnd settings) f (no_primary_connection h.tuple) h.connections a.ends keeps);
  }

  fit-same : (h later : PrimaryHistory) → later.settings ≡ h.settings → later.connections ≡ h.connections → HasFitEnds settings h → HasFitEnds settings later
  fit-same h later same connections a = record { setting = same ∙ a.setting; ends = subst (Each (IsFitEnd settings)) (sym connections) a.ends }

  -- an item goes to the end of the last stream
  fit-appending : (item : StreamItem) (h later : PrimaryHistory) → later.settings ≡ h.settings
      → later.connections ≡ change_last (λ c. record c { stream = c.stream ++ item ∷ [] }) h.connections
      → (IsSendable settings (primary_connection h).stream → IsSendable settings ((primary_connection h).stream ++ item ∷ [])) → HasFitEnds settings h
      → HasFitEnds settings later
  fit-appending item h later same connections keeps = fit-change h later _ same connections
      (λ e. record { stream = keeps e.stream; fresh = e.fresh; early = e.early; late = e.late })

  fit-following : (h : PrimaryHistory) → HasFitEnds settings h → HasFitEnds settings (follows h).history
  fit-following = following-from (HasFitEnds settings) (HasFitEnds settings) (HasFitEnds settings) (λ h a. fit-same h _ refl refl a)
      (λ g over a. fit-appending _ g _ refl refl (λ s. sendable-barrier settings (primary_connection g).stream s (over-busy settings bound g a.setting over)) a)
      (λ g on a. a)
      (λ g over a. fit-appending _ g _ refl refl (λ s. sendable-end settings (primary_connection g).stream (sync_end g.tuple) s (over-runs g over)) a)
      (λ g a. a)

  -- Steps.

  fit-open : (sync loss : ℕ) (out_of_memory : Bool) (h : PrimaryHistory) → HasFitEnds settings h
      → HasFitEnds settings (open_primary sync loss out_of_memory h).1
  fit-open sync loss out_of_memory h a = tested-keeps (HasFitEnds settings) h (open_tests h sync loss out_of_memory)
      (λ _. succeeding what.Nothing (opened h sync loss)) a
      (λ none.
      let fresh = (may-open h sync loss out_of_memory none).fresh in
      let sync_word = (and_parts _ _ (and_parts _ _ fresh).0).0 in
      let word = ltb-true 0 sync (and_parts (nat_lt 0 sync) _ sync_word).0 in
      fit-following (opened h sync loss) (record {
        setting = a.setting;
        ends = each-append (IsFitEnd settings) h.connections _ a.ends
            (record { stream = sendable-empty settings; fresh = word; early = λ standing new. omega arith; late = λ begun. absurd (cc) });
      }))

  fit-submitted : (h : PrimaryHistory) (first : ℕ) (contents : List (List ℕ)) → is_range h.settings first (length contents) ≡ true
      → (is_established (primary_connection h) ≡ true → length (primary_connection h).stream < 4294967288)
      → HasFitEnds settings h → HasFitEnds settings (submitted h first contents)
  fit-submitted h first contents range few a = go (is_established (primary_connection h)) refl
    where
      go : (b : Bool) → is_established (primary_connection h) ≡ b → HasFitEnds settings (submitted_with b h first contents)
      go true is = fit-appending (WriteItem (submission h first contents)) h _ refl refl
          (λ s. sendable-work settings (primary_connection h).stream (WriteItem (submission h first contents)) s
          (subst (λ (x : Settings). is_range x first (length contents) ≡ true) a.setting range) refl (few is)) a
      go false is = fit-same h _ refl refl a

  fit-submit : (first : ℕ) (contents : List (List ℕ)) (out_of_memory : Bool) (h : PrimaryHistory) → HasFitEnds settings h
      → HasFitEnds settings (submit first contents out_of_memory h).1
  fit-submit first contents out_of_memory h a =
      tested-keeps (HasFitEnds settings) h (submit_tests h first contents out_of_memory)
      (λ _. succeeding (what.Write (suc (length h.writes))) (submitted h first contents)) a (λ none.
      let may = accepted-by-tests h first contents out_of_memory none in
      fit-following (submitted h first contents) (fit-submitted h first contents may.range may.places a))

  fit-local : (number : ℕ) (h : PrimaryHistory) → HasFitEnds settings h → HasFitEnds settings (local_done number h).1
  fit-local number h a = tested-keeps (HasFitEnds settings) h ((not (is_unfinished h number), UnknownJob) ∷ [])
      (λ _. succeeding what.Nothing (releasing h (with_outcome number OnDisk h))) a (λ none.
      fit-following (releasing h (with_outcome number OnDisk h)) (fit-same h _ refl refl a))

  fit-fault : (number : ℕ) (offsets : List ℕ) (h : PrimaryHistory) → HasFitEnds settings h → HasFitEnds settings (local_fault number offsets h).1
  fit-fault number offsets h a = tested-keeps (HasFitEnds settings) h ((not (is_unfinished h number), UnknownJob) ∷ [])
      (λ _. succeeding what.Nothing (faulted number offsets h)) a (λ none.
      fit-following (faulted number offsets h) (go (accepted_at h number)))
    where
      go : (v : Option Accepted) → HasFitEnds settings
          (faulted_by v number offsets h)
      go None = a
      go (Some accepted) = fit-same h _ refl refl a

  fit-send : (room out_of_memory : Bool) (h : PrimaryHistory) → HasFitEnds settings h → HasFitEnds settings (send room out_of_memory h).1
  fit-send room out_of_memory h a = tested-keeps (HasFitEnds settings) h (send_tests h room out_of_memory)
      (λ _. succeeding (sending h) (with_primary_connection pushing h)) a (λ none.
      fit-following (with_primary_connection pushing h)
      (fit-change h _ pushing refl refl (λ e. record { stream = e.stream; fresh = e.fresh; early = e.early; late = e.late }) a))

  fit-closing : (h : PrimaryHistory) → HasFitEnds settings h → HasFitEnds settings (closing h)
  fit-closing h a = fit-change h _ (λ c. record c { closed = true }) refl refl
      (λ e. record { stream = e.stream; fresh = e.fresh; early = λ standing. absurd (cc); late = e.late }) a

  fit-close : (h : PrimaryHistory) → HasFitEnds settings h → HasFitEnds settings (close_primary h).1
  fit-close h a = tested-keeps (HasFitEnds settings) h (((primary_connection h).closed, NotConnected) ∷ [])
      (λ _. let after = follows (closing h) in (reply.Closed (length after.completed), after.history)) a (λ none.
      fit-following (closing h) (fit-closing h a))

  one-block : (blocks block : ℕ) (s : Settings) → s.blocks ≡ blocks → block < blocks → is_range s block 1 ≡ true
  one-block blocks block s same less =
      let end : block + 1 ≤ s.blocks = omega arith in
      let index : extent_of block ≡ extent_of (block + 1 - 1) = ap extent_of (omega arith) in
      and_from _ _ (and_from _ _ refl (le-leb (block + 1) s.blocks end)) (eq-eqb (extent_of block) (extent_of (block + 1 - 1)) index)

  fit-resync : (read : Option (List ℕ)) (out_of_memory : Bool) (h : PrimaryHistory) → HasFitEnds settings h → HasFitEnds settings (resync_next read out_of_memory h).1
  fit-resync read out_of_memory h a = tested-keeps (HasFitEnds settings) h (resync_tests h out_of_memory)
      (λ _. elim (free_block h) as (λ _. Reply × PrimaryHistory) [
        | None ↦ (reply.Refused NothingToDo, h)
        | Some block ↦ succeeding (what.Block (record { 0 = block }) (length (primary_connection h).stream))
            (copying read block h)
      ]) a (λ none.
      let may = (may-copy-open h out_of_memory none).1 in
      go (free_block h) refl may.runs may.places)
    where
      go : (v : Option ℕ) → free_block h ≡ v → resync_runs (primary_connection h) ≡ true → length (primary_connection h).stream < 4294967288
          → HasFitEnds settings (elim v as (λ _. Reply × PrimaryHistory) [
            | None ↦ (reply.Refused NothingToDo, h)
            | Some block ↦ succeeding (what.Block (record { 0 = block }) (length (primary_connection h).stream))
                (copying read block h)
          ]).1
      go None is runs few = a
      go (Some block) is runs few = fit-following (copying read block h) (fit-appending _ h _ refl refl (λ s.
          sendable-work settings (primary_connection h).stream (ResyncItem block (given read h block)) s (
            one-block h.settings.blocks block settings (ap (λ (x : Settings). x.blocks) (sym a.setting)) (free-found h block is).within,
            (and_parts (is_established (primary_connection h)) (in_resync (primary_connection h).stream) runs).1,
          ) refl few) a)

  fit-resync-fault : (out_of_memory : Bool) (h : PrimaryHistory) → HasFitEnds settings h → HasFitEnds settings (resync_fault out_of_memory h).1
  fit-resync-fault out_of_memory h a = tested-keeps (HasFitEnds settings) h (resync_tests h out_of_memory) (λ _. (reply.Refused ReadFault, h)) a (λ none. a)

  -- Taking a frame.

  -- What comes of a taken frame: the ends are fit, or it is refused and nothing but the peer's tuple has changed.
  abbrev FitTaken : PrimaryHistory → Taken → Type 0
  FitTaken taken (Ok done) = HasFitEnds settings done.1
  FitTaken taken (Err error) = (error.1.settings ≡ taken.settings) × (error.1.connections ≡ taken.connections)

  fit-if : (taken done : PrimaryHistory) (good : Bool) (name : What) (refusal : Refusal) → HasFitEnds settings done
      → FitTaken taken (cond good (Ok (name, done)) (Err (refusal, taken)))
  fit-if taken done true name refusal a = a
  fit-if taken done false name refusal a = (refl, refl)

  longer : (c : PrimaryConnection) (frame : Received) → length (c.taken ++ frame ∷ []) ≡ length c.taken + 1
  longer c frame = length-append c.taken (frame ∷ [])

  fit-begins : (h : PrimaryHistory) (frame : Received) (peer : Tuple) (decided : Decision) → (primary_connection h).closed ≡ false
      → 1 < length (primary_connection h).taken
      → HasFitEnds settings h
      → HasFitEnds settings (begun_with decided (record (with_primary_connection (with_frame frame) h) { peer = Some peer }))
  fit-begins h frame peer decided standing third a = go decided
    where
      taken : PrimaryHistory
      taken = record (with_primary_connection (with_frame frame) h) { peer = Some peer }

      sync : (primary_connection (record (with_primary_connection (with_frame frame) h) { peer = Some peer })).sync ≡ (primary_connection h).sync
      sync = ap (λ (c : PrimaryConnection). c.sync) (last-changed h (with_frame frame) (no_primary_connection h.tuple) standing)

      starts : (later : PrimaryHistory) → later.settings ≡ h.settings
          → later.connections ≡ change_last
          (λ c. record c {
            begun = true;
            stream =
                SyncUuidItem (primary_connection (record (with_primary_connection (with_frame frame) h) { peer = Some peer })).sync ∷ [];
          })
          (change_last (with_frame frame) h.connections)
          → HasFitEnds settings later
      starts later same connections = fit-change h later _ same (connections ∙ change-twice (with_frame frame) _ h.connections) (λ e. record {
        stream = sendable-start settings _ (let fresh = e.fresh in let is = sync in omega arith);
        fresh = e.fresh;
        early = λ standing new. absurd (cc);
        late = λ begun. let long = longer (primary_connection h) frame in omega arith;
      }) a

      go : (v : Decision) → HasFitEnds settings (begun_with v (record (with_primary_connection (with_frame frame) h) { peer = Some peer }))
      go NoSync = fit-change h _ _ refl (change-twice (with_frame frame) (λ c. record c { begun = true }) h.connections) (λ e. record {
        stream = e.stream;
        fresh = e.fresh;
        early = λ standing new. absurd (cc);
        late = λ begun. let long = longer (primary_connection h) frame in omega arith;
      }) a
      go BitmapSync = starts _ refl refl
      go FullSync = starts _ refl refl

  fit-meeting : (h : PrimaryHistory) (frame : Received) (peer : Tuple) → (primary_connection h).closed ≡ false → 1 < length (primary_connection h).taken
      → HasFitEnds settings h
      → FitTaken (with_primary_connection (with_frame frame) h) (meeting peer (with_primary_connection (with_frame frame) h))
  fit-meeting h frame peer standing third a = go (stands_in (primary_connection taken).sync peer || stands_in (primary_connection taken).loss peer)
      (decision h.tuple peer)
    where
      taken : PrimaryHistory
      taken = with_primary_connection (with_frame frame) h

      go : (used : Bool) (v : Result Decision Refusal) → FitTaken (with_primary_connection (with_frame frame) h) (elim used as (λ _. Taken) [
        | true ↦ Err (UsedIdentifier, record (with_primary_connection (with_frame frame) h) { peer = Some peer })
        | false ↦ elim v as (λ _. Taken) [
          | Err refusal ↦ Err (refusal, record (with_primary_connection (with_frame frame) h) { peer = Some peer })
          | Ok decided ↦ Ok
              (what.Decided decided, begun_with decided (record (with_primary_connection (with_frame frame) h) { peer = Some peer }))
        ]
      ])
      go true v = (refl, refl)
      go false (Err refusal) = (refl, refl)
      go false (Ok decided) = fit-begins h frame peer decided standing third a

  -- a frame of the hello before the last one
  fit-greets : (h : PrimaryHistory) (frame : Received) → (primary_connection h).begun ≡ false → length (primary_connection h).taken < 2 → HasFitEnds settings h
      → HasFitEnds settings (with_primary_connection (with_frame frame) h)
  fit-greets h frame new few = fit-change h _ (with_frame frame) refl refl (λ e. record {
    stream = e.stream;
    fresh = e.fresh;
    early = λ standing other. let long = longer (primary_connection h) frame in omega arith;
    late = λ begun. absurd (both_ways (primary_connection h).begun new begun);
  })

  fit-hello : (h : PrimaryHistory) (n : ℕ) (packet : Packet) → n ≡ length (primary_connection h).taken → (primary_connection h).closed ≡ false
      → (primary_connection h).begun ≡ false
      → HasFitEnds settings h
      → FitTaken (with_primary_connection (with_frame (Ok packet)) h) (taking_hello n packet (with_primary_connection (with_frame (Ok packet)) h))
  fit-hello h zero (ProtocolFrame asked) is standing new a = fit-if _ _ _ _ _ (fit-greets h (Ok (ProtocolFrame asked)) new (omega arith) a)
  fit-hello h (suc zero) (SizesFrame blocks) is standing new a = fit-if _ _ _ _ _ (fit-greets h (Ok (SizesFrame blocks)) new (omega arith) a)
  fit-hello h (suc (suc n)) (UuidsFrame peer) is standing new a = fit-meeting h (Ok (UuidsFrame peer)) peer standing (omega arith) a
  fit-hello h n packet is standing new a = (refl, refl)

  -- a frame after the hello
  fit-takes : (h : PrimaryHistory) (frame : Received) → (primary_connection h).begun ≡ true → HasFitEnds settings h
      → HasFitEnds settings (with_primary_connection (with_frame frame) h)
  fit-takes h frame old = fit-change h _ (with_frame frame) refl refl (λ e. record {
    stream = e.stream;
    fresh = e.fresh;
    early = λ standing new. absurd (both_ways (primary_connection h).begun new old);
    late = λ begun. let long = longer (primary_connection h) frame in let was = e.late old in omega arith;
  })

  fit-ack : (h : PrimaryHistory) (packet : Packet) → (primary_connection h).begun ≡ true → HasFitEnds settings h
      → FitTaken (with_primary_connection (with_frame (Ok packet)) h) (taking_ack packet h (with_primary_connection (with_frame (Ok packet)) h))
  fit-ack h (RecvAckFrame ack) old a = fit-if _ _ _ _ _ (fit-takes h (Ok (RecvAckFrame ack)) old a)
  fit-ack h (WriteAckFrame ack) old a = fit-if _ _ _ _ _ (fit-takes h (Ok (WriteAckFrame ack)) old a)
  fit-ack h (RsWriteAckFrame ack) old a =
      fit-if _ _ _ _ _ (fit-same (with_primary_connection (with_frame (Ok (RsWriteAckFrame ack))) h) _ refl refl (fit-takes h (Ok (RsWriteAckFrame ack)) old a))
  fit-ack h (BarrierAckFrame number size) old a =
      fit-if _ _ _ _ _ (fit-same (with_primary_connection (with_frame (Ok (BarrierAckFrame number size))) h) _ refl refl
      (fit-takes h (Ok (BarrierAckFrame number size)) old a))
  fit-ack h packet old a = (refl, refl)

  fit-taking : (h : PrimaryHistory) (frame : Received) → (primary_connection h).closed ≡ false → HasFitEnds settings h
      → FitTaken (with_primary_connection (with_frame frame) h) (taking frame h (with_primary_connection (with_frame frame) h))
  fit-taking h (Err fault) standing a = (refl, refl)
  fit-taking h (Ok packet) standing a = go (primary_connection h).begun refl
    where
      go : (begun : Bool) → (primary_connection h).begun ≡ begun → FitTaken (with_primary_connection (with_frame (Ok packet)) h) (elim begun as (λ _. Taken) [
        | true ↦ taking_ack packet h (with_primary_connection (with_frame (Ok packet)) h)
        | false ↦ taking_hello (length (primary_connection h).taken) packet (with_primary_connection (with_frame (Ok packet)) h)
      ])
      go true is = fit-ack h packet is a
      go false is = fit-hello h (length (primary_connection h).taken) packet refl standing is a

  -- a refused frame closes the end
  fit-refuses : (h : PrimaryHistory) (frame : Received) (e : PrimaryHistory) → e.settings ≡ h.settings
      → e.connections ≡ change_last (with_frame frame) h.connections → HasFitEnds settings h
      → HasFitEnds settings (closing (with_primary_connection refusing e))
  fit-refuses h frame e same connections a = fit-change h _ (refused_out frame) same
      (ap (λ (l : List PrimaryConnection). change_last (λ (c : PrimaryConnection). record c { closed = true }) (change_last refusing l)) connections
      ∙ refused-last frame h.peer h)
      (λ f. record {
        stream = f.stream;
        fresh = f.fresh;
        early = λ standing. absurd (cc);
        late = λ begun. let long = longer (primary_connection h) frame in let was =
            f.late begun in omega arith;
      }) a

  fit-frame : (h : PrimaryHistory) (frame : Received) → (primary_connection h).closed ≡ false → HasFitEnds settings h
      → HasFitEnds settings (take_frame frame h).1
  fit-frame h frame standing a =
      frame-has (λ r. HasFitEnds settings r.1) (FitTaken (with_primary_connection (with_frame frame) h)) frame h (fit-taking h frame standing a)
      (λ done fine. fit-following done.1 fine) (λ error fine. fit-following _ (fit-refuses h frame error.1 fine.0 fine.1 a))

  fit-ack-in : (frame : Option Received) (out_of_memory : Bool) (h : PrimaryHistory) → HasFitEnds settings h
      → HasFitEnds settings (ack_in frame out_of_memory h).1
  fit-ack-in frame out_of_memory h a =
      ack-in-has (λ r. HasFitEnds settings r.1) frame out_of_memory h (λ refusal other. a) (λ taken is standing. fit-frame h taken standing a)

  fit-receipt : (number : ℕ) (h : PrimaryHistory) → HasFitEnds settings h → HasFitEnds settings (take_completed number h).1
  fit-receipt number h a = receipt-has (λ r. HasFitEnds settings r.1) number h (λ refusal. a) (fit-same h _ refl refl a) (λ entry. fit-same h _ refl refl a)

  fit-after : (event : PrimaryEvent) (h : PrimaryHistory) → HasFitEnds settings h → HasFitEnds settings (primary_after event h)
  fit-after (Opens sync loss out_of_memory) h a = fit-open sync loss out_of_memory h a
  fit-after (Submits first contents out_of_memory) h a = fit-submit first contents out_of_memory h a
  fit-after (WritesLocally number) h a = fit-local number h a
  fit-after (FailsLocally number offsets) h a = fit-fault number offsets h a
  fit-after (Sends room out_of_memory) h a = fit-send room out_of_memory h a
  fit-after (Takes frame out_of_memory) h a = fit-ack-in frame out_of_memory h a
  fit-after (Resyncs read out_of_memory) h a = fit-resync read out_of_memory h a
  fit-after (FailsResync out_of_memory) h a = fit-resync-fault out_of_memory h a
  fit-after Closes h a = fit-close h a
  fit-after (Receipts number) h a = fit-receipt number h a

  fit-run : (events : List PrimaryEvent) (h : PrimaryHistory) → HasFitEnds settings h → HasFitEnds settings (primary_run events h)
  fit-run [] h a = a
  fit-run (event ∷ events) h a = fit-run events (primary_after event h) (fit-after event h a)

-- Whatever frames a primary takes, its streams can be sent.
pub primary_fit : (settings : Settings) (disk : BlockMap) (tuple : Tuple) (marks : ℕ → Bool) (events : List PrimaryEvent) → TakesWrites settings
    → HasFitEnds settings (primary_run events (primary_opening settings disk tuple marks))
primary_fit settings disk tuple marks events bound = fit-run settings bound events (primary_opening settings disk tuple marks)
    (record { setting = refl; ends = tt })
