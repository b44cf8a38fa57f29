-- A primary's steps, taken apart: what has to be shown of a property so that every step keeps it.
use Rattle.std.proofs.Common.{ℕ, suc, ◌≡◌, ◌<◌, ◌⊎◌, inl, inr, Bool, true, false, cond, not, ◌&&◌, ◌||◌, List, [], ◌∷◌, ◌++◌, length, Option, Some, None}
use Rattle.std.proofs.Common.{Result, Ok, Err, refl, sym, ◌∙◌, subst, ◌==◌, nat_lt, ap, arith}
use Rattle.std.specs.Prelude.{is_some, unwrap_or}
use Rattle.std.proofs.lemmas.Bool.{both_ways, not-true, not-false, or_parts, and_parts}
use Rattle.blocks.specs.declared.refusal.Refusal.{Refusal}
use Rattle.blocks.specs.declared.refusal.Refusal.TheVariants.{NothingToDo, NotConnected, ReadFault, UnknownJob}
use Rattle.blocks.specs.declared.refusal.Refusal.TheVariants.{BadBarrierAck, UnknownAck, UsedIdentifier}
use Rattle.blocks.specs.declared.outcome.Decision.{Decision}
use Rattle.blocks.specs.declared.outcome.What.{What}
use Rattle.blocks.specs.declared.outcome.What.TheVariants as what
use Rattle.blocks.specs.declared.outcome.Reply.{Reply}
use Rattle.blocks.specs.declared.outcome.Reply.TheVariants as reply
use Rattle.blocks.specs.declared.command.Command.TheVariants as command
use Rattle.blocks.specs.declared.settings.Protocol.TheVariants as protocol
use Rattle.blocks.specs.declared.tuple.Tuple.{Tuple}
use Rattle.model.specs.Contents.{is_range, extent_of}
use Rattle.model.specs.Stream.{StreamItem, ResyncItem, BarrierItem, is_write, last_epoch}
use Rattle.model.specs.Frames.{Packet, DataFrame, RsDataReplyFrame, BarrierFrame, ProtocolFrame, UuidsFrame, SizesFrame, SyncUuidFrame, RecvAckFrame}
use Rattle.model.specs.Frames.{WriteAckFrame, RsWriteAckFrame, BarrierAckFrame, Acknowledged, Received}
use Rattle.model.specs.Identifiers.{are_fresh, decision, stands_in}
use Rattle.model.specs.Refusals.{Test, first_refusal}
use Rattle.model.specs.Primary.{OnDisk, PrimaryHistory, PrimaryConnection, primary_connection, no_primary_connection, last_of, with_primary_connection}
use Rattle.model.specs.Primary.{is_established, frames_due, local_map, resync_runs}
use Rattle.model.specs.Primary.{under_way, free_block, is_resync, was_received, was_written, was_resynced}
use Rattle.model.specs.Marks.{Marks, clearing, releasing}
use Rattle.model.specs.PrimarySteps.{Followed, with_completions, epoch_is_over, resync_is_over, ending_resync, follows, appending, succeeding, tested}
use Rattle.model.specs.PrimarySteps.{known_tuples, open_tests, opened, open_primary, conflict, activity_is_full, submission, submit_tests, submitted, submit}
use Rattle.model.specs.PrimarySteps.{is_unfinished, with_outcome, local_done, faulted, local_fault, send_tests, sending, send, resync_tests, resync_next}
use Rattle.model.specs.PrimarySteps.{resync_fault, closing, close_primary, receipted, take_completed}
use Rattle.model.specs.Acknowledgements.{same_protocol, Taken, begun_with, meeting, taking_hello, names_sent, was_named, is_protocol, is_in_turn, taking_ack}
use Rattle.model.specs.Acknowledgements.{taking, take_frame, ack_in}
use Rattle.model.specs.LocalRuns.{PrimaryEvent, Opens, Submits, WritesLocally, FailsLocally, Sends, Takes, Resyncs, FailsResync, Closes, Receipts}
use Rattle.model.specs.LocalRuns.{primary_after, primary_run}
use Rattle.laws.proofs.Rules.Hellos.{taking-is, hello-has}
use Rattle.laws.proofs.Rules.Receipts.{receipt-has}
use Rattle.laws.proofs.Rules.Submissions.{accepted-by-tests}
use Rattle.laws.proofs.Lists.Last.{last-change}
use Rattle.laws.proofs.Lists.Tests.{test-passed}
use Rattle.blocks.specs.declared.settings.Protocol.{Protocol}
use Rattle.laws.proofs.Rules.Memory.{may-open, may-send, may-copy-open, ack-in-has}
use Rattle.laws.proofs.Rules.RefusedFrames.{refusing, refused_by, frame-has}
use Rattle.model.specs.PrimarySteps.{copying}

-- a frame is taken
abbrev pub with_frame : Received → PrimaryConnection → PrimaryConnection
with_frame frame c = record c { taken = c.taken ++ frame ∷ [] }

-- an end that pushed a frame more
abbrev pub pushing : PrimaryConnection → PrimaryConnection
pushing c = record c { pushed = suc c.pushed }

-- What is tested before a write is accepted.
pub record MaySubmit (h : PrimaryHistory) (first : ℕ) (contents : List (List ℕ)) : Type 0 where
  pub range : is_range h.settings first (length contents) ≡ true
  pub free : is_some (conflict h (submission h first contents)) ≡ false
  pub active : activity_is_full h (extent_of first) ≡ false
  pub connected : (not (is_established (primary_connection h)) && (h.tuple.bitmap == 0)) ≡ false

-- What an accepted acknowledgement was tested for, on the history before it.
pub record MayAcknowledge (h : PrimaryHistory) (kind : StreamItem → Bool) (before : PrimaryConnection → ℕ → StreamItem
    → Bool) (ack : Acknowledged) : Type 0 where
  pub names : names_sent kind ack (primary_connection h) ≡ true
  pub first : was_named before ack (primary_connection h) ≡ false

-- A frame of the hello that is accepted: the peer's protocol first, and then its size.
abbrev pub IsGreeting : PrimaryHistory → Received → Type 0
IsGreeting h frame =
    ((length (primary_connection h).taken ≡ 0) × ((asked : Protocol) × (frame ≡ Ok (ProtocolFrame asked)) × (same_protocol asked h.settings.protocol ≡ true)))
    ⊎ ((length (primary_connection h).taken ≡ 1) × (frame ≡ Ok (SizesFrame h.settings.blocks)))

-- `P` holds between steps, and `Q` after a step's effect, before what follows from it. A property is kept by every step if
-- each effect leads from `P` to `Q`, and what follows leads back. `O` says which reads a resync may be given.
pub record IsKeptByMovesOf (O : Option (List ℕ) → Type 0) (P Q : PrimaryHistory → Type 0) : Type 0 where
  pub following : (h : PrimaryHistory) → Q h → P (follows h).history
  pub opens : (h : PrimaryHistory) (sync loss : ℕ) → (primary_connection h).closed ≡ true → are_fresh sync loss (known_tuples h) ≡ true → P h
      → Q (opened h sync loss)
  pub submits : (h : PrimaryHistory) (first : ℕ) (contents : List (List ℕ)) → MaySubmit h first contents → P h → Q (submitted h first contents)
  pub writes : (h : PrimaryHistory) (number : ℕ) → is_unfinished h number ≡ true → P h → Q (with_outcome number OnDisk h)
  pub faults : (h : PrimaryHistory) (number : ℕ) (offsets : List ℕ) → is_unfinished h number ≡ true → P h → Q (faulted number offsets h)
  pub sends : (h : PrimaryHistory) → (primary_connection h).closed ≡ false
      → (primary_connection h).pushed < length (frames_due h.settings (primary_connection h)) → P h
      → Q (with_primary_connection pushing h)
  -- the frames that are accepted, each on the history with the frame taken
  pub greets : (h : PrimaryHistory) (frame : Received) → (primary_connection h).closed ≡ false → (primary_connection h).begun ≡ false → IsGreeting h frame → P h
      → Q (with_primary_connection (with_frame frame) h)
  pub begins : (h : PrimaryHistory) (peer : Tuple) (decided : Decision) → (primary_connection h).closed ≡ false → (primary_connection h).begun ≡ false
      → 1 < length (primary_connection h).taken
      → decision h.tuple peer ≡ Ok decided → stands_in (primary_connection h).loss peer ≡ false → P h
      → Q (begun_with decided (record (with_primary_connection (with_frame (Ok (UuidsFrame peer))) h) { peer = Some peer }))
  pub receives : (h : PrimaryHistory) (ack : Acknowledged) → (primary_connection h).closed ≡ false → (primary_connection h).begun ≡ true
      → MayAcknowledge h is_write was_received ack
      → P h
      → Q (with_primary_connection (with_frame (Ok (RecvAckFrame ack))) h)
  pub applies : (h : PrimaryHistory) (ack : Acknowledged) → (primary_connection h).closed ≡ false → (primary_connection h).begun ≡ true
      → MayAcknowledge h is_write was_written ack
      → P h
      → Q (with_primary_connection (with_frame (Ok (WriteAckFrame ack))) h)
  pub clears : (h : PrimaryHistory) (ack : Acknowledged) → (primary_connection h).closed ≡ false → (primary_connection h).begun ≡ true
      → MayAcknowledge h is_resync was_resynced ack
      → P h
      → Q (record (with_primary_connection (with_frame (Ok (RsWriteAckFrame ack))) h) { marks = clearing ack.first h.marks })
  pub confirms : (h : PrimaryHistory) (number size : ℕ) → (primary_connection h).closed ≡ false → (primary_connection h).begun ≡ true
      → is_in_turn h number size ≡ true → P h
      → Q (with_primary_connection (with_frame (Ok (BarrierAckFrame number size))) h)
  -- a protocol error: the frame is taken and refused, the peer's tuple may have been seen, and the end closes
  pub refuses : (h : PrimaryHistory) (frame : Received) (peer : Option Tuple) → (primary_connection h).closed ≡ false → P h
      → Q (closing (refused_by frame peer h))
  pub resyncs : (h : PrimaryHistory) (block : ℕ) (read : Option (List ℕ)) → O read → resync_runs (primary_connection h) ≡ true → nat_lt 0 (length (under_way (primary_connection h))) ≡ false
      → free_block h ≡ Some block → P h
      → Q (copying read block h)
  pub closes : (h : PrimaryHistory) → (primary_connection h).closed ≡ false → P h → Q (closing h)
  pub receipts : (h : PrimaryHistory) (number : ℕ) → P h → P (receipted number h)

-- whatever bytes a resync is given
abbrev pub any_read : Option (List ℕ) → Type 0
any_read read = Unit {0}

abbrev pub IsKeptByMoves : (P Q : PrimaryHistory → Type 0) → Type 0
IsKeptByMoves P Q = IsKeptByMovesOf any_read P Q

-- such reads only
abbrev pub Reads : (Option (List ℕ) → Type 0) → PrimaryEvent → Type 0
Reads O (Resyncs read out_of_memory) = O read
Reads O _ = Unit {0}

-- The two steps that may release a write: its effect stands, and then the marks are cleared of what it released.
pub record IsKeptByReleases (P Q : PrimaryHistory → Type 0) : Type 0 where
  pub writes : (h : PrimaryHistory) (number : ℕ) → is_unfinished h number ≡ true → P h → Q (with_outcome number OnDisk h)
      → Q (releasing h (with_outcome number OnDisk h))
  pub confirms : (h : PrimaryHistory) (number size : ℕ) → (primary_connection h).closed ≡ false → (primary_connection h).begun ≡ true
      → is_in_turn h number size ≡ true → P h
      → Q (with_primary_connection (with_frame (Ok (BarrierAckFrame number size))) h)
      → Q (releasing h (with_primary_connection (with_frame (Ok (BarrierAckFrame number size))) h))

-- A property that no mark matters to is kept by them.
pub kept-by-releases : (P Q : PrimaryHistory → Type 0) → ((h : PrimaryHistory) (marks : Marks) → Q h → Q (record h { marks = marks })) → IsKeptByReleases P Q
kept-by-releases P Q same = record {
  writes = λ h number waiting p q. same (with_outcome number OnDisk h) _ q;
  confirms = λ h number size standing begun turn p q. same (with_primary_connection (with_frame (Ok (BarrierAckFrame number size))) h) _ q;
}

-- Two properties that are kept, together.
pub both-kept : (P Q P' Q' : PrimaryHistory → Type 0) → IsKeptByMoves P Q → IsKeptByMoves P' Q' → IsKeptByMoves (λ h. P h × P' h) (λ h. Q h × Q' h)
both-kept P Q P' Q' one two = record {
  following = λ h q. (one.following h q.0, two.following h q.1);
  opens = λ h sync loss closed fresh p. (one.opens h sync loss closed fresh p.0, two.opens h sync loss closed fresh p.1);
  submits = λ h first contents may p. (one.submits h first contents may p.0, two.submits h first contents may p.1);
  writes = λ h number waiting p. (one.writes h number waiting p.0, two.writes h number waiting p.1);
  faults = λ h number offsets waiting p. (one.faults h number offsets waiting p.0, two.faults h number offsets waiting p.1);
  sends = λ h standing due p. (one.sends h standing due p.0, two.sends h standing due p.1);
  greets = λ h frame standing new met p. (one.greets h frame standing new met p.0, two.greets h frame standing new met p.1);
  begins = λ h peer decided standing new late is fresh p. (
    one.begins h peer decided standing new late is fresh p.0,
    two.begins h peer decided standing new late is fresh p.1,
  );
  receives = λ h ack standing begun may p. (one.receives h ack standing begun may p.0, two.receives h ack standing begun may p.1);
  applies = λ h ack standing begun may p. (one.applies h ack standing begun may p.0, two.applies h ack standing begun may p.1);
  clears = λ h ack standing begun may p. (one.clears h ack standing begun may p.0, two.clears h ack standing begun may p.1);
  confirms = λ h number size standing begun turn p. (one.confirms h number size standing begun turn p.0, two.confirms h number size standing begun turn p.1);
  refuses = λ h frame peer standing p. (one.refuses h frame peer standing p.0, two.refuses h frame peer standing p.1);
  resyncs = λ h block read may runs alone is p. (one.resyncs h block read may runs alone is p.0, two.resyncs h block read may runs alone is p.1);
  closes = λ h standing p. (one.closes h standing p.0, two.closes h standing p.1);
  receipts = λ h number p. (one.receipts h number p.0, two.receipts h number p.1);
}

-- Tests.

-- a step that its tests refuse leaves the history
pub tested-keeps : (P : PrimaryHistory → Type 0) (h : PrimaryHistory) (tests : List Test) (done : Unit {0} → Reply × PrimaryHistory) → P h
    → (first_refusal tests ≡ None → P (done tt).1) → P (tested h tests done).1
tested-keeps P h tests done same new = go (first_refusal tests) refl
  where
    go : (v : Option Refusal) → first_refusal tests ≡ v
        → P (elim v as (λ _. Reply × PrimaryHistory) [ Some refusal ↦ (reply.Refused refusal, h) | None ↦ done tt ]).1
    go (Some refusal) is = same
    go None is = new is

-- What follows a step's effect, taken apart: the journal, then the barrier, then the end of a resync.

abbrev pub after_barrier : PrimaryHistory → PrimaryHistory
after_barrier g = elim (epoch_is_over g) [ true ↦ appending (BarrierItem (last_epoch (primary_connection g).stream)) g | false ↦ g ]

abbrev pub after_resync : PrimaryHistory → PrimaryHistory
after_resync g = elim (resync_is_over g) [ true ↦ ending_resync g | false ↦ g ]

history-of : (b : Bool) (x y : Followed)
    → (elim b as (λ _. Followed) [ true ↦ x | false ↦ y ]).history ≡ elim b as (λ _. PrimaryHistory) [ true ↦ x.history | false ↦ y.history ]
history-of true x y = refl
history-of false x y = refl

pub follows-history : (h : PrimaryHistory) → (follows h).history ≡ after_resync (after_barrier (with_completions h))
follows-history h = history-of (resync_is_over (after_barrier (with_completions h))) _ _

by-case : (P : PrimaryHistory → Type 0) (b : Bool) (x y : PrimaryHistory) → (b ≡ true → P x) → (b ≡ false → P y)
    → P (elim b as (λ _. PrimaryHistory) [ true ↦ x | false ↦ y ])
by-case P true x y one two = one refl
by-case P false x y one two = two refl

-- A property that the parts of what follows keep, from the effect to the end of the step.
pub following-from : (Q R P : PrimaryHistory → Type 0) → ((h : PrimaryHistory) → Q h → Q (with_completions h))
    → ((g : PrimaryHistory) → epoch_is_over g ≡ true → Q g → R (appending (BarrierItem (last_epoch (primary_connection g).stream)) g))
    → ((g : PrimaryHistory) → epoch_is_over g ≡ false → Q g → R g) → ((g : PrimaryHistory) → resync_is_over g ≡ true → R g → P (ending_resync g))
    → ((g : PrimaryHistory) → R g → P g)
    → (h : PrimaryHistory) → Q h → P (follows h).history
following-from Q R P completes parts goes_on ends stays h q =
    let done : PrimaryHistory = with_completions h in
    let parted : R (after_barrier done) = by-case R (epoch_is_over done) (appending (BarrierItem (last_epoch (primary_connection done).stream)) done) done
    (λ over. parts done over (completes h q)) (λ on. goes_on done on (completes h q)) in
    subst P (sym (follows-history h)) (by-case P (resync_is_over (after_barrier done)) (ending_resync (after_barrier done)) (after_barrier done)
    (λ over. ends (after_barrier done) over parted) (λ on. stays (after_barrier done) parted))

-- What comes of a taken frame: it is accepted, with `Q` then, or refused, and only the peer's tuple may have changed.
abbrev Fine : (PrimaryHistory → Type 0) → PrimaryHistory → Taken → Type 0
Fine Q taken (Ok done) = Q done.1
Fine Q taken (Err error) = (peer : Option Tuple) × (error.1 ≡ record taken { peer = peer })

fine-if : (Q : PrimaryHistory → Type 0) (taken done : PrimaryHistory) (good : Bool) (name : What) (refusal : Refusal) → (good ≡ true → Q done)
    → Fine Q taken (cond good (Ok (name, done)) (Err (refusal, taken)))
fine-if Q taken done true name refusal q = q refl
fine-if Q taken done false name refusal q = (taken.peer, refl)

module _ (O : Option (List ℕ) → Type 0) (P Q : PrimaryHistory → Type 0) (K : IsKeptByMovesOf O P Q) (R : IsKeptByReleases P Q) where
  keeps-open : (sync loss : ℕ) (out_of_memory : Bool) (h : PrimaryHistory) → P h → P (open_primary sync loss out_of_memory h).1
  keeps-open sync loss out_of_memory h p = tested-keeps P h (open_tests h sync loss out_of_memory) (λ _. succeeding what.Nothing (opened h sync loss)) p
      (λ none.
      let may = may-open h sync loss out_of_memory none in K.following (opened h sync loss) (K.opens h sync loss may.closed may.fresh p))

  keeps-submit : (first : ℕ) (contents : List (List ℕ)) (out_of_memory : Bool) (h : PrimaryHistory) → P h → P (submit first contents out_of_memory h).1
  keeps-submit first contents out_of_memory h p =
      tested-keeps P h (submit_tests h first contents out_of_memory) (λ _. succeeding (what.Write (suc (length h.writes))) (submitted h first contents)) p
      (λ none.
      let may = accepted-by-tests h first contents out_of_memory none in
      K.following (submitted h first contents)
      (K.submits h first contents (record { range = may.range; free = may.free; active = may.active; connected = may.connected }) p))

  keeps-local : (number : ℕ) (h : PrimaryHistory) → P h → P (local_done number h).1
  keeps-local number h p = tested-keeps P h ((not (is_unfinished h number), UnknownJob) ∷ [])
      (λ _. succeeding what.Nothing (releasing h (with_outcome number OnDisk h))) p (λ none.
      let waiting : is_unfinished h number ≡ true = not-false (is_unfinished h number) (test-passed (not (is_unfinished h number)) UnknownJob [] none).0 in
      K.following (releasing h (with_outcome number OnDisk h)) (R.writes h number waiting p (K.writes h number waiting p)))

  keeps-fault : (number : ℕ) (offsets : List ℕ) (h : PrimaryHistory) → P h → P (local_fault number offsets h).1
  keeps-fault number offsets h p = tested-keeps P h ((not (is_unfinished h number), UnknownJob) ∷ []) (λ _. succeeding what.Nothing (faulted number offsets h))
      p (λ none.
      let one = test-passed (not (is_unfinished h number)) UnknownJob [] none in
      K.following (faulted number offsets h) (K.faults h number offsets (not-false (is_unfinished h number) one.0) p))

  keeps-send : (room out_of_memory : Bool) (h : PrimaryHistory) → P h → P (send room out_of_memory h).1
  keeps-send room out_of_memory h p = tested-keeps P h (send_tests h room out_of_memory) (λ _. succeeding (sending h) (with_primary_connection pushing h)) p
      (λ none.
      let may = may-send h room out_of_memory none in K.following (with_primary_connection pushing h) (K.sends h may.is_open may.owes p))

  keeps-close : (h : PrimaryHistory) → P h → P (close_primary h).1
  keeps-close h p = tested-keeps P h (((primary_connection h).closed, NotConnected) ∷ [])
      (λ _. let after = follows (closing h) in (reply.Closed (length after.completed), after.history)) p (λ none.
      K.following (closing h) (K.closes h (test-passed (primary_connection h).closed NotConnected [] none).0 p))

  keeps-resync : (read : Option (List ℕ)) → O read → (out_of_memory : Bool) (h : PrimaryHistory) → P h → P (resync_next read out_of_memory h).1
  keeps-resync read fits out_of_memory h p = tested-keeps P h (resync_tests h out_of_memory) (λ _. elim (free_block h) as (λ _. Reply × PrimaryHistory) [
    | None ↦ (reply.Refused NothingToDo, h)
    | Some block ↦ succeeding (what.Block (record { 0 = block }) (length (primary_connection h).stream))
        (copying read block h)
  ]) p (λ none.
      let may = (may-copy-open h out_of_memory none).1 in
      go (free_block h) refl may.runs may.alone)
    where
      go : (v : Option ℕ) → free_block h ≡ v → resync_runs (primary_connection h) ≡ true → nat_lt 0 (length (under_way (primary_connection h))) ≡ false
          → P (elim v as (λ _. Reply × PrimaryHistory) [
            | None ↦ (reply.Refused NothingToDo, h)
            | Some block ↦ succeeding (what.Block (record { 0 = block }) (length (primary_connection h).stream))
                (copying read block h)
          ]).1
      go None is runs alone = p
      go (Some block) is runs alone = K.following (copying read block h) (K.resyncs h block read fits runs alone is p)

  keeps-resync-fault : (out_of_memory : Bool) (h : PrimaryHistory) → P h → P (resync_fault out_of_memory h).1
  keeps-resync-fault out_of_memory h p = tested-keeps P h (resync_tests h out_of_memory) (λ _. (reply.Refused ReadFault, h)) p (λ none. p)

  keeps-meeting : (h : PrimaryHistory) → (primary_connection h).closed ≡ false → (primary_connection h).begun ≡ false → 1 < length (primary_connection h).taken
      → P h → (peer : Tuple)
      → Fine Q (with_primary_connection (with_frame (Ok (UuidsFrame peer))) h) (meeting peer (with_primary_connection (with_frame (Ok (UuidsFrame peer))) h))
  keeps-meeting h standing new late p peer = go (stands_in (primary_connection taken).sync peer || stands_in (primary_connection taken).loss peer)
      (decision h.tuple peer) refl refl
    where
      taken : PrimaryHistory
      taken = with_primary_connection (with_frame (Ok (UuidsFrame peer))) h

      seen : PrimaryHistory
      seen = record (with_primary_connection (with_frame (Ok (UuidsFrame peer))) h) { peer = Some peer }

      -- the words are those of the end before the frame
      fresh-words : (stands_in (primary_connection taken).sync peer || stands_in (primary_connection taken).loss peer) ≡ false
          → stands_in (primary_connection h).loss peer ≡ false
      fresh-words used = elim (last-change (with_frame (Ok (UuidsFrame peer))) (no_primary_connection h.tuple) (no_primary_connection h.tuple) h.connections) [
        | inl none ↦ absurd (both_ways (primary_connection h).closed standing
            (ap (λ (l : List PrimaryConnection). (last_of (no_primary_connection h.tuple) l).closed) none))
        | inr last ↦ ap (λ (c : PrimaryConnection). stands_in c.loss peer) (sym last)
            ∙ (or_parts (stands_in (primary_connection taken).sync peer) (stands_in (primary_connection taken).loss peer) used).1
      ]

      go : (used : Bool) (v : Result Decision Refusal)
          → (stands_in (primary_connection taken).sync peer || stands_in (primary_connection taken).loss peer) ≡ used
          → decision h.tuple peer ≡ v → Fine Q (with_primary_connection (with_frame (Ok (UuidsFrame peer))) h) (elim used as (λ _. Taken) [
            | true ↦ Err (UsedIdentifier, record (with_primary_connection (with_frame (Ok (UuidsFrame peer))) h) { peer = Some peer })
            | false ↦ elim v as (λ _. Taken) [
              | Err refusal ↦ Err (refusal, record (with_primary_connection (with_frame (Ok (UuidsFrame peer))) h) { peer = Some peer })
              | Ok
                  decided ↦ Ok (
                    what.Decided decided,
                    begun_with decided (record (with_primary_connection (with_frame (Ok (UuidsFrame peer))) h) { peer = Some peer }),
                  )
            ]
          ])
      go true v used is = (Some peer, refl)
      go false (Err refusal) used is = (Some peer, refl)
      go false (Ok decided) used is = K.begins h peer decided standing new late is (fresh-words used) p

  keeps-hello : (h : PrimaryHistory) → (primary_connection h).closed ≡ false → (primary_connection h).begun ≡ false → P h → (n : ℕ) (packet : Packet)
      → length (primary_connection h).taken ≡ n
      → Fine Q (with_primary_connection (with_frame (Ok packet)) h) (taking_hello n packet (with_primary_connection (with_frame (Ok packet)) h))
  keeps-hello h standing new p n packet is = subst (Fine Q taken) (taking-is n packet taken)
      (hello-has (Fine Q taken) (λ name. Ok (name, taken)) (λ refusal. Err (refusal, taken)) (λ peer. meeting peer taken) h.settings n packet
      (λ asked none of same. K.greets h (Ok packet) standing new (inl (is ∙ none, (asked, ap Ok of, same))) p)
      (λ one of. K.greets h (Ok packet) standing new (inr (is ∙ one, ap Ok of)) p)
      (λ m peer late of.
      subst (λ (x : Packet). Fine Q (with_primary_connection (with_frame (Ok x)) h) (meeting peer (with_primary_connection (with_frame (Ok x)) h))) (sym of)
      (keeps-meeting h standing new (omega (arith, is, late)) p peer)) (h.peer, refl) (h.peer, refl) (h.peer, refl))
    where
      taken : PrimaryHistory
      taken = with_primary_connection (with_frame (Ok packet)) h

  keeps-ack : (h : PrimaryHistory) → (primary_connection h).closed ≡ false → (primary_connection h).begun ≡ true → P h → (packet : Packet)
      → Fine Q (with_primary_connection (with_frame (Ok packet)) h) (taking_ack packet h (with_primary_connection (with_frame (Ok packet)) h))
  keeps-ack h standing begun p (DataFrame write at) = (h.peer, refl)
  keeps-ack h standing begun p (RsDataReplyFrame block contents at) = (h.peer, refl)
  keeps-ack h standing begun p (BarrierFrame number) = (h.peer, refl)
  keeps-ack h standing begun p (ProtocolFrame asked) = (h.peer, refl)
  keeps-ack h standing begun p (UuidsFrame tuple) = (h.peer, refl)
  keeps-ack h standing begun p (SizesFrame blocks) = (h.peer, refl)
  keeps-ack h standing begun p (SyncUuidFrame word) = (h.peer, refl)
  keeps-ack h standing begun p (RecvAckFrame ack) =
      let names : Bool = is_protocol protocol.B h && names_sent is_write ack (primary_connection h) in
      let again : Bool = was_named was_received ack (primary_connection h) in
      fine-if Q (with_primary_connection (with_frame (Ok (RecvAckFrame ack))) h) (with_primary_connection (with_frame (Ok (RecvAckFrame ack))) h)
      (names && not again)
      (what.Frame command.RecvAck None) UnknownAck (λ good.
      let parts = and_parts names (not again) good in
      K.receives h ack standing begun (record {
        names = (and_parts (is_protocol protocol.B h) (names_sent is_write ack (primary_connection h)) parts.0).1;
        first = not-true again parts.1;
      }) p)
  keeps-ack h standing begun p (WriteAckFrame ack) =
      let names : Bool = is_protocol protocol.C h && names_sent is_write ack (primary_connection h) in
      let again : Bool = was_named was_written ack (primary_connection h) in
      fine-if Q (with_primary_connection (with_frame (Ok (WriteAckFrame ack))) h) (with_primary_connection (with_frame (Ok (WriteAckFrame ack))) h)
      (names && not again)
      (what.Frame command.WriteAck None) UnknownAck (λ good.
      let parts = and_parts names (not again) good in
      K.applies h ack standing begun (record {
        names = (and_parts (is_protocol protocol.C h) (names_sent is_write ack (primary_connection h)) parts.0).1;
        first = not-true again parts.1;
      }) p)
  keeps-ack h standing begun p (RsWriteAckFrame ack) =
      let names : Bool = names_sent is_resync ack (primary_connection h) in
      let again : Bool = was_named was_resynced ack (primary_connection h) in
      fine-if Q (with_primary_connection (with_frame (Ok (RsWriteAckFrame ack))) h)
      (record (with_primary_connection (with_frame (Ok (RsWriteAckFrame ack))) h) { marks = clearing ack.first h.marks }) (names && not again)
      (what.Frame command.RsWriteAck None) UnknownAck (λ good.
      let parts = and_parts names (not again) good in
      K.clears h ack standing begun (record { names = parts.0; first = not-true again parts.1 }) p)
  keeps-ack h standing begun p (BarrierAckFrame number size) =
      let taken : PrimaryHistory = with_primary_connection (with_frame (Ok (BarrierAckFrame number size))) h in
      fine-if Q taken (releasing h taken) (is_in_turn h number size) (what.Frame command.BarrierAck None) BadBarrierAck
      (λ good. R.confirms h number size standing begun good p (K.confirms h number size standing begun good p))

  keeps-taking : (h : PrimaryHistory) → (primary_connection h).closed ≡ false → P h → (frame : Received)
      → Fine Q (with_primary_connection (with_frame frame) h) (taking frame h (with_primary_connection (with_frame frame) h))
  keeps-taking h standing p (Err fault) = (h.peer, refl)
  keeps-taking h standing p (Ok packet) = go (primary_connection h).begun refl
    where
      go : (begun : Bool) → (primary_connection h).begun ≡ begun → Fine Q (with_primary_connection (with_frame (Ok packet)) h) (elim begun as (λ _. Taken) [
        | true ↦ taking_ack packet h (with_primary_connection (with_frame (Ok packet)) h)
        | false ↦ taking_hello (length (primary_connection h).taken) packet (with_primary_connection (with_frame (Ok packet)) h)
      ])
      go true is = keeps-ack h standing is p packet
      go false is = keeps-hello h standing is p (length (primary_connection h).taken) packet refl

  keeps-frame : (h : PrimaryHistory) → (primary_connection h).closed ≡ false → P h → (frame : Received) → P (take_frame frame h).1
  keeps-frame h standing p frame =
      frame-has (λ r. P r.1) (Fine Q (with_primary_connection (with_frame frame) h)) frame h (keeps-taking h standing p frame)
      (λ done fine. K.following done.1 fine)
      (λ error fine. subst (λ (e : PrimaryHistory). P (follows (closing (with_primary_connection refusing e))).history) (sym fine.1)
      (K.following _ (K.refuses h frame fine.0 standing p)))

  keeps-ack-in : (frame : Option Received) (out_of_memory : Bool) (h : PrimaryHistory) → P h → P (ack_in frame out_of_memory h).1
  keeps-ack-in frame out_of_memory h p = ack-in-has (λ r. P r.1) frame out_of_memory h (λ refusal other. p)
      (λ taken is standing. keeps-frame h standing p taken)

  keeps-receipt : (number : ℕ) (h : PrimaryHistory) → P h → P (take_completed number h).1
  keeps-receipt number h p = receipt-has (λ r. P r.1) number h (λ refusal. p) (K.receipts h number p) (λ entry. K.receipts h number p)

  -- every step keeps it
  pub keeps-after-of : (event : PrimaryEvent) → Reads O event → (h : PrimaryHistory) → P h → P (primary_after event h)
  keeps-after-of (Opens sync loss out_of_memory) fits h p = keeps-open sync loss out_of_memory h p
  keeps-after-of (Submits first contents out_of_memory) fits h p = keeps-submit first contents out_of_memory h p
  keeps-after-of (WritesLocally number) fits h p = keeps-local number h p
  keeps-after-of (FailsLocally number offsets) fits h p = keeps-fault number offsets h p
  keeps-after-of (Sends room out_of_memory) fits h p = keeps-send room out_of_memory h p
  keeps-after-of (Takes frame out_of_memory) fits h p = keeps-ack-in frame out_of_memory h p
  keeps-after-of (Resyncs read out_of_memory) fits h p = keeps-resync read fits out_of_memory h p
  keeps-after-of (FailsResync out_of_memory) fits h p = keeps-resync-fault out_of_memory h p
  keeps-after-of Closes fits h p = keeps-close h p
  keeps-after-of (Receipts number) fits h p = keeps-receipt number h p

any-reads : (event : PrimaryEvent) → Reads any_read event
any-reads (Opens sync loss out_of_memory) = tt
any-reads (Submits first contents out_of_memory) = tt
any-reads (WritesLocally number) = tt
any-reads (FailsLocally number offsets) = tt
any-reads (Sends room out_of_memory) = tt
any-reads (Takes frame out_of_memory) = tt
any-reads (Resyncs read out_of_memory) = tt
any-reads (FailsResync out_of_memory) = tt
any-reads Closes = tt
any-reads (Receipts number) = tt

module _ (P Q : PrimaryHistory → Type 0) (K : IsKeptByMoves P Q) (R : IsKeptByReleases P Q) where
  -- whatever the resyncs were given, and so does every run
  pub keeps-after : (event : PrimaryEvent) (h : PrimaryHistory) → P h → P (primary_after event h)
  keeps-after event h p = keeps-after-of any_read P Q K R event (any-reads event) h p

  pub keeps-run : (events : List PrimaryEvent) (h : PrimaryHistory) → P h → P (primary_run events h)
  keeps-run [] h p = p
  keeps-run (event ∷ events) h p = keeps-run events (primary_after event h) (keeps-after event h p)
