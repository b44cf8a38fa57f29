-- The primary's steps keep its connections linked to the ends of the other node, whatever those are.
use Rattle.std.proofs.Common.{ℕ, zero, suc, ◌≡◌, ◌-◌, ◌<◌, inl, inr, Bool, true, false, cond, not, ◌||◌, List, [], ◌∷◌, ◌++◌, length, take, map, Option}
use Rattle.std.proofs.Common.{Some, None, slice_get, Result, Ok, Err, refl, sym, ◌∙◌, ap, subst}
use Rattle.std.specs.Prelude.{option_map, unwrap_or}
use Rattle.std.proofs.lemmas.Option.{slice_get-map}
use Rattle.blocks.specs.declared.refusal.Refusal.{Refusal}
use Rattle.blocks.specs.declared.refusal.Refusal.TheVariants.{NotConnected, NothingToDo, ReadFault, UnknownJob}
use Rattle.blocks.specs.declared.refusal.Refusal.TheVariants.{UsedIdentifier}
use Rattle.blocks.specs.declared.outcome.Decision.{Decision}
use Rattle.blocks.specs.declared.outcome.Decision.TheVariants.{NoSync, BitmapSync, FullSync}
use Rattle.blocks.specs.declared.outcome.What.{What}
use Rattle.blocks.specs.declared.outcome.What.TheVariants as what
use Rattle.blocks.specs.declared.outcome.Reply.{Reply}
use Rattle.blocks.specs.declared.outcome.Reply.TheVariants as reply
use Rattle.blocks.specs.declared.settings.Settings.{Settings}
use Rattle.blocks.specs.declared.tuple.Tuple.{Tuple}
use Rattle.model.specs.Stream.{StreamItem, WriteItem, ResyncItem, SyncUuidItem, IsBeginning}
use Rattle.model.specs.Frames.{Packet, ProtocolFrame, UuidsFrame, SizesFrame, RecvAckFrame, WriteAckFrame, RsWriteAckFrame, BarrierAckFrame, Received}
use Rattle.model.specs.Identifiers.{decision, stands_in}
use Rattle.model.specs.Marks.{clearing, releasing}
use Rattle.model.specs.Primary.{Accepted, OnDisk, PrimaryHistory, PrimaryConnection, no_primary_connection, primary_connection, last_of, change_last}
use Rattle.model.specs.Primary.{with_primary_connection}
use Rattle.model.specs.Primary.{is_established, frames_due, local_map, free_block}
use Rattle.model.specs.PrimarySteps.{follows, appending, succeeding, submission, submit_tests, submitted, submit, is_unfinished, with_outcome, local_done}
use Rattle.model.specs.PrimarySteps.{accepted_at, faulted, local_fault, send_tests, sending, send, resync_tests, resync_next, resync_fault, closing}
use Rattle.model.specs.PrimarySteps.{close_primary, submitted_with, faulted_by}
use Rattle.model.specs.Acknowledgements.{Taken, begun_with, meeting, taking_hello, taking_ack, taking, take_frame, ack_in}
use Rattle.model.specs.Secondary.{SecondaryConnection, answers_due}
use Rattle.laws.proofs.Lists.Beginnings.{begins-self}
use Rattle.laws.proofs.Lists.Last.{last-at, last-change, change-none}
use Rattle.laws.proofs.Primary.Moves.{with_frame, pushing, following-from, tested-keeps}
use Rattle.laws.proofs.Primary.Homes.{HasHomes}
use Rattle.laws.proofs.Pair.Links.{AreLinked, GoesOn, linked-on, linked-pushing, linked-taking}
use Rattle.laws.proofs.Joining.Taking.{read}
use Rattle.laws.proofs.Lists.Pairs.{Pairs, pairs-here}
use Rattle.laws.proofs.Rules.Memory.{may-send, ack-in-has}
use Rattle.laws.proofs.Rules.RefusedFrames.{refusing, frame-has}
use Rattle.model.specs.PrimarySteps.{copying}

-- The connections of a primary are linked to these ends.
pub record HasEnds (here there : Settings) (ends : List SecondaryConnection) (h : PrimaryHistory) : Type 0 where
  pub settings : h.settings ≡ here
  pub pairs : Pairs (AreLinked here there) h.connections ends

-- What a taken frame leads to: more is due where it is accepted, and nothing where it is refused.
abbrev TakesSo : PrimaryHistory → Taken → Type 0
TakesSo taken (Ok done) = (g : PrimaryConnection → PrimaryConnection) × GoesOn (primary_connection taken) (g (primary_connection taken))
    × (done.1.settings ≡ taken.settings)
    × (done.1.connections ≡ change_last g taken.connections)
TakesSo taken (Err error) = (error.1.settings ≡ taken.settings) × (error.1.connections ≡ taken.connections)

goes-self : (c : PrimaryConnection) → GoesOn c c
goes-self c = record { hello = refl; stream = begins-self c.stream; pushed = refl; taken = refl }

so-if : (taken done : PrimaryHistory) (good : Bool) (name : What) (refusal : Refusal) → done.settings ≡ taken.settings → done.connections ≡ taken.connections
    → TakesSo taken (cond good (Ok (name, done)) (Err (refusal, taken)))
so-if taken done true name refusal settings connections = (
  λ c. c,
  goes-self (primary_connection taken),
  settings,
  connections
      ∙ sym (change-none taken.connections),
)
so-if taken done false name refusal settings connections = (refl, refl)

-- a stream that begins was empty
so-begins : (peer : Tuple) (taken : PrimaryHistory) (decided : Decision) → (primary_connection taken).stream ≡ []
    → TakesSo taken (Ok (what.Decided decided, begun_with decided (record taken { peer = Some peer })))
so-begins peer taken NoSync empty =
    (λ c. record c { begun = true }, record { hello = refl; stream = begins-self (primary_connection taken).stream; pushed = refl; taken = refl }, refl, refl)
so-begins peer taken BitmapSync empty =
    let start : List StreamItem = SyncUuidItem (primary_connection taken).sync ∷ [] in (
      λ c. record c { begun = true; stream = start },
      record {
        hello = refl;
        stream = subst (λ (s : List StreamItem). IsBeginning s start) (sym empty) (start, refl);
        pushed = refl;
        taken = refl;
      },
      refl,
      refl,
    )
so-begins peer taken FullSync empty =
    let start : List StreamItem = SyncUuidItem (primary_connection taken).sync ∷ [] in (
      λ c. record c { begun = true; stream = start },
      record {
        hello = refl;
        stream = subst (λ (s : List StreamItem). IsBeginning s start) (sym empty) (start, refl);
        pushed = refl;
        taken = refl;
      },
      refl,
      refl,
    )

so-meeting : (peer : Tuple) (taken : PrimaryHistory) → (primary_connection taken).stream ≡ [] → TakesSo taken (meeting peer taken)
so-meeting peer taken empty = go (stands_in (primary_connection taken).sync peer || stands_in (primary_connection taken).loss peer) (decision taken.tuple peer)
  where
    go : (used : Bool) (v : Result Decision Refusal) → TakesSo taken (elim used as (λ _. Taken) [
      | true ↦ Err (UsedIdentifier, record taken { peer = Some peer })
      | false ↦ elim v as (λ _. Taken) [
        | Err refusal ↦ Err (refusal, record taken { peer = Some peer })
        | Ok decided ↦ Ok (
          what.Decided decided,
          begun_with decided (record taken { peer = Some peer }),
        )
      ]
    ])
    go true v = (refl, refl)
    go false (Err refusal) = (refl, refl)
    go false (Ok decided) = so-begins peer taken decided empty

so-hello : (n : ℕ) (packet : Packet) (taken : PrimaryHistory) → (primary_connection taken).stream ≡ [] → TakesSo taken (taking_hello n packet taken)
so-hello zero (ProtocolFrame asked) taken empty = so-if taken taken _ _ _ refl refl
so-hello (suc zero) (SizesFrame blocks) taken empty = so-if taken taken _ _ _ refl refl
so-hello (suc (suc n)) (UuidsFrame peer) taken empty = so-meeting peer taken empty
so-hello n packet taken empty = (refl, refl)

so-ack : (packet : Packet) (before taken : PrimaryHistory) → TakesSo taken (taking_ack packet before taken)
so-ack (RecvAckFrame ack) before taken = so-if taken taken _ _ _ refl refl
so-ack (WriteAckFrame ack) before taken = so-if taken taken _ _ _ refl refl
so-ack (RsWriteAckFrame ack) before taken = so-if taken (record taken { marks = clearing ack.first taken.marks }) _ _ _ refl refl
so-ack (BarrierAckFrame number size) before taken = so-if taken (releasing before taken) _ _ _ refl refl
so-ack packet before taken = (refl, refl)

-- the stream of an end that has not begun is empty, also after a frame was taken
stream-empty : (h : PrimaryHistory) → HasHomes h → (primary_connection h).begun ≡ false → (primary_connection h).stream ≡ []
stream-empty h homes new = elim (last-at (no_primary_connection h.tuple) h.connections) [
  | inl none ↦ ap (λ (l : List PrimaryConnection). (last_of (no_primary_connection h.tuple) l).stream) none
  | inr at ↦ homes.empty (length h.connections - 1) (primary_connection h) at new
]

taken-empty : (h : PrimaryHistory) (frame : Received) → (primary_connection h).stream ≡ []
    → (primary_connection (with_primary_connection (with_frame frame) h)).stream ≡ []
taken-empty h frame empty = elim (last-change (with_frame frame) (no_primary_connection h.tuple) (no_primary_connection h.tuple) h.connections) [
  | inl none ↦ ap (λ (l : List PrimaryConnection). (last_of (no_primary_connection h.tuple) (change_last (with_frame frame) l)).stream) none
  | inr last ↦ ap (λ (c : PrimaryConnection). c.stream) last ∙ empty
]

so-taking : (frame : Received) (h : PrimaryHistory) → HasHomes h
    → TakesSo (with_primary_connection (with_frame frame) h) (taking frame h (with_primary_connection (with_frame frame) h))
so-taking (Err fault) h homes = (refl, refl)
so-taking (Ok packet) h homes = go (primary_connection h).begun refl
  where
    go : (begun : Bool) → (primary_connection h).begun ≡ begun → TakesSo (with_primary_connection (with_frame (Ok packet)) h) (elim begun as (λ _. Taken) [
      | true ↦ taking_ack packet h (with_primary_connection (with_frame (Ok packet)) h)
      | false ↦ taking_hello (length (primary_connection h).taken) packet (with_primary_connection (with_frame (Ok packet)) h)
    ])
    go true is = so-ack packet h (with_primary_connection (with_frame (Ok packet)) h)
    go false is = so-hello (length (primary_connection h).taken) packet (with_primary_connection (with_frame (Ok packet)) h)
        (taken-empty h (Ok packet) (stream-empty h homes is))

module _ (here there : Settings) (ends : List SecondaryConnection) (none : SecondaryConnection) where
  -- the last connection changes
  ends-change : (h later : PrimaryHistory) (f : PrimaryConnection → PrimaryConnection) → HasEnds here there ends h → later.settings ≡ h.settings
      → later.connections ≡ change_last f h.connections
      → (AreLinked here there (primary_connection h) (last_of none ends) → AreLinked here there (f (primary_connection h)) (last_of none ends))
      → HasEnds here there ends later
  ends-change h later f e settings connections keeps = record {
    settings = settings ∙ e.settings;
    pairs = rw connections (pairs-here (AreLinked here there) f (no_primary_connection h.tuple) none h.connections ends e.pairs keeps);
  }

  ends-on : (h later : PrimaryHistory) (f : PrimaryConnection → PrimaryConnection) → HasEnds here there ends h → later.settings ≡ h.settings
      → later.connections ≡ change_last f h.connections
      → GoesOn (primary_connection h) (f (primary_connection h)) → HasEnds here there ends later
  ends-on h later f e settings connections on = ends-change h later f e settings connections
      (linked-on here there (primary_connection h) (f (primary_connection h)) (last_of none ends) on)

  ends-appending : (item : StreamItem) (h later : PrimaryHistory) → HasEnds here there ends h → later.settings ≡ h.settings
      → later.connections ≡ (appending item h).connections → HasEnds here there ends later
  ends-appending item h later e settings connections =
      ends-on h later (λ c. record c { stream = c.stream ++ item ∷ [] }) e settings connections
      (record { hello = refl; stream = (item ∷ [], refl); pushed = refl; taken = refl })

  -- what follows an effect
  pub ends-following : (h : PrimaryHistory) → HasEnds here there ends h → HasEnds here there ends (follows h).history
  ends-following = following-from (HasEnds here there ends) (HasEnds here there ends) (HasEnds here there ends)
      (λ h e. record { settings = e.settings; pairs = e.pairs })
      (λ g over e. ends-appending _ g _ e refl refl)
      (λ g on e. e)
      (λ g over e. ends-appending _ g _ e refl refl)
      (λ g e. e)

  -- The steps but the opening.

  -- a write is submitted
  pub ends-submit : (first : ℕ) (contents : List (List ℕ)) (out_of_memory : Bool) (h : PrimaryHistory) → HasEnds here there ends h
      → HasEnds here there ends (submit first contents out_of_memory h).1
  ends-submit first contents out_of_memory h e = tested-keeps (HasEnds here there ends) h (submit_tests h first contents out_of_memory)
      (λ _. succeeding (what.Write (suc (length h.writes))) (submitted h first contents)) e (λ passed.
      ends-following (submitted h first contents) (go (is_established (primary_connection h))))
    where
      go : (b : Bool) → HasEnds here there ends (submitted_with b h first contents)
      go true = ends-appending (WriteItem (submission h first contents)) h _ e refl refl
      go false = record { settings = e.settings; pairs = e.pairs }

  -- the local disk does a write
  pub ends-local : (number : ℕ) (h : PrimaryHistory) → HasEnds here there ends h → HasEnds here there ends (local_done number h).1
  ends-local number h e = tested-keeps (HasEnds here there ends) h ((not (is_unfinished h number), UnknownJob) ∷ [])
      (λ _. succeeding what.Nothing (releasing h (with_outcome number OnDisk h))) e (λ passed.
      ends-following (releasing h (with_outcome number OnDisk h)) (record { settings = e.settings; pairs = e.pairs }))

  -- the local disk fails a write
  pub ends-fault : (number : ℕ) (offsets : List ℕ) (h : PrimaryHistory) → HasEnds here there ends h → HasEnds here there ends (local_fault number offsets h).1
  ends-fault number offsets h e = tested-keeps (HasEnds here there ends) h ((not (is_unfinished h number), UnknownJob) ∷ [])
      (λ _. succeeding what.Nothing (faulted number offsets h)) e (λ passed.
      ends-following (faulted number offsets h) (go (accepted_at h number)))
    where
      go : (v : Option Accepted) → HasEnds here there ends
          (faulted_by v number offsets h)
      go None = e
      go (Some accepted) = record { settings = e.settings; pairs = e.pairs }

  -- a frame is pushed, which was due
  pub ends-send : (room out_of_memory : Bool) (h : PrimaryHistory) → HasEnds here there ends h → HasEnds here there ends (send room out_of_memory h).1
  ends-send room out_of_memory h e = tested-keeps (HasEnds here there ends) h (send_tests h room out_of_memory)
      (λ _. succeeding (sending h) (with_primary_connection pushing h)) e
      (λ passed.
      let due = (may-send h room out_of_memory passed).owes in
      ends-following (with_primary_connection pushing h) (ends-change h (with_primary_connection pushing h) pushing e refl refl
      (linked-pushing here there (primary_connection h) (last_of none ends)
      (subst (λ (s : Settings). (primary_connection h).pushed < length (frames_due s (primary_connection h))) e.settings due))))

  -- a resync block is appended
  pub ends-resync : (out_of_memory : Bool) (h : PrimaryHistory) → HasEnds here there ends h → HasEnds here there ends (resync_next None out_of_memory h).1
  ends-resync out_of_memory h e = tested-keeps (HasEnds here there ends) h (resync_tests h out_of_memory)
      (λ _. elim (free_block h) as (λ _. Reply × PrimaryHistory) [
        | None ↦ (reply.Refused NothingToDo, h)
        | Some block ↦ succeeding (what.Block (record { 0 = block }) (length (primary_connection h).stream))
            (copying None block h)
      ]) e (λ passed. go (free_block h))
    where
      go : (v : Option ℕ) → HasEnds here there ends (elim v as (λ _. Reply × PrimaryHistory) [
        | None ↦ (reply.Refused NothingToDo, h)
        | Some block ↦ succeeding (what.Block (record { 0 = block }) (length (primary_connection h).stream))
            (copying None block h)
      ]).1
      go None = e
      go (Some block) = ends-following (copying None block h) (ends-appending _ h _ e refl refl)

  -- the read of a resync block fails
  pub ends-resync-fault : (out_of_memory : Bool) (h : PrimaryHistory) → HasEnds here there ends h → HasEnds here there ends (resync_fault out_of_memory h).1
  ends-resync-fault out_of_memory h e = tested-keeps (HasEnds here there ends) h (resync_tests h out_of_memory) (λ _. (reply.Refused ReadFault, h)) e
      (λ passed. e)

  ends-closing : (h : PrimaryHistory) → HasEnds here there ends h → HasEnds here there ends (closing h)
  ends-closing h e = ends-on h (closing h) (λ c. record c { closed = true }) e refl refl
      (record { hello = refl; stream = begins-self (primary_connection h).stream; pushed = refl; taken = refl })

  -- the end closes
  pub ends-close : (h : PrimaryHistory) → HasEnds here there ends h → HasEnds here there ends (close_primary h).1
  ends-close h e = tested-keeps (HasEnds here there ends) h (((primary_connection h).closed, NotConnected) ∷ [])
      (λ _. let after = follows (closing h) in (reply.Closed (length after.completed), after.history)) e (λ passed.
      ends-following (closing h) (ends-closing h e))

  -- a frame is taken that the other end pushed
  ends-frame : (frame : Received) (h : PrimaryHistory) → HasHomes h → HasEnds here there ends h
      → slice_get (map read (take (last_of none ends).pushed (answers_due there (last_of none ends)))) (length (primary_connection h).taken) ≡ Some frame
      → HasEnds here there ends (take_frame frame h).1
  ends-frame frame h homes e next =
      frame-has (λ r. HasEnds here there ends r.1) (TakesSo (with_primary_connection (with_frame frame) h)) frame h (so-taking frame h homes)
      (λ done so. ends-following done.1 (ends-on (with_primary_connection (with_frame frame) h) done.1 so.0 taken so.2 so.3 so.1))
      (λ error so. ends-following (closing (with_primary_connection refusing error.1))
      (ends-closing (with_primary_connection refusing error.1) (refused error.1 (record { settings = so.0 ∙ taken.settings; pairs = rw so.1 taken.pairs }))))
    where
      taken : HasEnds here there ends (with_primary_connection (with_frame frame) h)
      taken = ends-change h (with_primary_connection (with_frame frame) h) (with_frame frame) e refl refl
          (linked-taking here there (primary_connection h) (last_of none ends) frame next)

      refused : (f : PrimaryHistory) → HasEnds here there ends f → HasEnds here there ends (with_primary_connection refusing f)
      refused f e' = ends-on f (with_primary_connection refusing f) refusing e' refl refl
          (record { hello = refl; stream = begins-self (primary_connection f).stream; pushed = refl; taken = refl })

  -- the next frame that the other end pushed is taken, if there is one
  pub ends-ack-in : (frame : Option Received) (out_of_memory : Bool) (h : PrimaryHistory) → HasHomes h → HasEnds here there ends h
      → frame ≡ option_map read (slice_get (take (last_of none ends).pushed (answers_due there (last_of none ends))) (length (primary_connection h).taken))
      → HasEnds here there ends (ack_in frame out_of_memory h).1
  ends-ack-in frame out_of_memory h homes e next = ack-in-has (λ r. HasEnds here there ends r.1) frame out_of_memory h (λ refusal other. e)
      (λ taken is standing. ends-frame taken h homes e
      (slice_get-map read (take (last_of none ends).pushed (answers_due there (last_of none ends))) (length (primary_connection h).taken) ∙ (sym next ∙ is)))
