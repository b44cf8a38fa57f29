-- No step of a pair is refused as a protocol error.
use Rattle.std.proofs.Common.{ℕ, suc, ◌≡◌, ◌-◌, ◌⊎◌, inl, inr, Bool, true, false, not, List, [], ◌∷◌, ◌++◌, length, take, map, Option, Some, None}
use Rattle.std.proofs.Common.{slice_get, Ok, refl, sym, ◌∙◌, ap, subst, arith}
use Rattle.std.specs.Prelude.{option_map, unwrap_or}
use Rattle.std.specs.List.{list_any}
use Rattle.std.proofs.lemmas.Bool.{both_ways, or_parts}
use Rattle.blocks.specs.declared.refusal.Refusal.{Refusal}
use Rattle.blocks.specs.declared.refusal.Refusal.TheVariants.{BadRange, NothingToDo, NotConnected, ReadFault, UnknownJob}
use Rattle.blocks.specs.declared.refusal.Refusal.TheVariants.{PrimaryStale, SplitBrain, Unrelated, UsedIdentifier}
use Rattle.blocks.specs.declared.outcome.What.TheVariants as what
use Rattle.blocks.specs.declared.outcome.Reply.{Reply}
use Rattle.blocks.specs.declared.outcome.Reply.TheVariants as reply
use Rattle.blocks.specs.declared.settings.Settings.{Settings}
use Rattle.model.specs.Stream.{ResyncItem, IsBeginning, below, contents_of}
use Rattle.model.specs.Frames.{Packet, Received}
use Rattle.model.specs.Refusals.{Test, first_refusal, done_with}
use Rattle.model.specs.Primary.{PrimaryHistory, PrimaryConnection, OnDisk, no_primary_connection, last_of, primary_connection, with_primary_connection}
use Rattle.model.specs.Primary.{items_sent, frames_due, local_map, free_block}
use Rattle.model.specs.Marks.{releasing}
use Rattle.model.specs.PrimarySteps.{follows, appending, succeeding, open_tests, open_primary, opened, submit_tests, submitted, submit, is_unfinished}
use Rattle.model.specs.PrimarySteps.{with_outcome, local_done, accepted_at, faulted, local_fault, send_tests, sending, send, resync_tests, resync_next}
use Rattle.model.specs.PrimarySteps.{resync_fault, closing, close_primary}
use Rattle.model.specs.Acknowledgements.{take_frame, ack_in}
use Rattle.model.specs.Secondary.{SecondaryHistory, SecondaryConnection, no_secondary_connection, secondary_connection, with_secondary_connection, items_taken}
use Rattle.model.specs.Secondary.{answers_due}
use Rattle.model.specs.SecondarySteps.{succeeding_secondary, take_item, receive, peer_tests, peer, peer_fault, applying, failing}
use Rattle.model.specs.SecondarySteps.{answering_with, ack_out_tests, ack_out, open_secondary, close_secondary}
use Rattle.model.specs.LocalRuns.{PrimaryEvent, primary_run, SecondaryEvent, secondary_run}
use Rattle.model.specs.Headline.{IsJoined}
use Rattle.model.specs.Pair.{Event, OpenEvent, SubmitEvent, LocalEvent, LocalFaultEvent, SendEvent, ReceiveEvent, PeerEvent, PeerFaultEvent, AckOutEvent}
use Rattle.model.specs.Pair.{AckInEvent, ResyncEvent, ResyncFaultEvent, ClosePrimaryEvent, CloseSecondaryEvent, PairHistory, pushed_frames, pushed_answers}
use Rattle.model.specs.Pair.{next_frame, next_answer, has_room, answers_have_room, open_pair_tests, open_pair, keeps_too_many, local_fault_kept}
use Rattle.model.specs.Pair.{peer_fault_kept, step, run}
use Rattle.model.specs.Theorems.{Opening, primary_at, secondary_at, pair_at, HasRanges, SharesSettings}
use Rattle.laws.proofs.Rules.EpochEnds.{takes-writes}
use Rattle.laws.specs.Statements.{is_protocol_error, is_refused_frame, EveryStepIsHonest}
use Rattle.laws.proofs.Lists.Each.{each-get}
use Rattle.laws.proofs.Lists.Last.{last-at}
use Rattle.laws.proofs.Primary.Moves.{with_frame, pushing}
use Rattle.laws.proofs.Primary.Homes.{HasHomes}
use Rattle.laws.proofs.Primary.LawfulMoves.{primary-between, primary_lawful}
use Rattle.laws.proofs.Primary.Sendable.{IsFitEnd, primary_fit}
use Rattle.laws.proofs.Secondary.Moves.{framed}
use Rattle.laws.proofs.Secondary.Orderly.{IsOrderly}
use Rattle.laws.proofs.Secondary.OrderlyRuns.{secondary_orderly, HasOrderlyEnds}
use Rattle.laws.proofs.Joining.Openings.{kept-opening-primary, kept-opening-secondary}
use Rattle.laws.proofs.Joining.Taking.{read, items-begin}
use Rattle.laws.proofs.Joining.HonestEnds.{AreHonestEnds}
use Rattle.laws.proofs.Joining.Receiving.{IsFine, receiving-fine}
use Rattle.laws.proofs.Joining.Acknowledging.{IsFineToo, acknowledging-fine}
use Rattle.laws.proofs.Pair.Runs.{pair_runs_are_joined}
use Rattle.laws.proofs.Joining.Ends.{AreEnds, joined-out, joined-back}
use Rattle.laws.proofs.Secondary.Numbers.{AreCounted, numbers-rise}
use Rattle.laws.proofs.Rules.Memory.{ack-in-has, receive-has}
use Rattle.laws.proofs.Rules.RefusedFrames.{frame-has, item-has}
use Rattle.model.specs.PrimarySteps.{copying}

-- Two nodes whose ends of each connection are honest ones of a link.
record AreHonest (settings : Settings) (p : PrimaryHistory) (s : SecondaryHistory) : Type 0 where
  pub here : p.settings ≡ settings
  pub there : s.settings ≡ settings
  pub same : length p.connections ≡ length s.connections
  pub counted : AreCounted s.connections
  pub ends : (k : ℕ) (c : PrimaryConnection) (d : SecondaryConnection) → AreEnds p s k k c d → AreHonestEnds settings c d
  pub begins : (k : ℕ) (c : PrimaryConnection) (d : SecondaryConnection) → AreEnds p s k k c d → IsBeginning (items_taken d) (take (items_sent c) c.stream)

-- two nodes that ran by themselves and whose frames are joined are so
honest-joined : (o : Opening) (events : List PrimaryEvent) (others : List SecondaryEvent) → SharesSettings o → HasRanges o
    → IsJoined (primary_run events (primary_at o)) (secondary_run others (secondary_at o))
    → length (primary_run events (primary_at o)).connections ≡ length (secondary_run others (secondary_at o)).connections
    → AreCounted (secondary_run others (secondary_at o)).connections
    → AreHonest o.settings (primary_run events (primary_at o)) (secondary_run others (secondary_at o))
honest-joined o events others shares ranges joined same counted =
    let p : PrimaryHistory = primary_run events (primary_at o) in
    let s : SecondaryHistory = secondary_run others (secondary_at o) in
    let homes : HasHomes p = (primary-between o.settings o.local o.own o.marks events ranges.here).0 in
    let fit = primary_fit o.settings o.local o.own o.marks events (takes-writes o.settings ranges.here) in
    let orderly = subst (λ (x : Settings). HasOrderlyEnds x.protocol s) shares (secondary_orderly o.peer_settings o.peer o.peer_tuple others) in
    let rise = numbers-rise others (secondary_at o) refl in
    let here : p.settings ≡ o.settings = (kept-opening-primary o events).settings in
    let there : s.settings ≡ o.settings = (kept-opening-secondary o others).settings ∙ shares in
    record {
      here = here;
      there = there;
      same = same;
      counted = counted;
      begins = λ k c d ends. items-begin p c d (joined-out p s rise joined k k c d ends);
      ends = λ k c d ends. record {
        lawful = primary_lawful o.settings o.local o.own o.marks events ranges.here k c ends.primary_connection;
        fit = each-get (IsFitEnd o.settings) p.connections k c fit.ends ends.primary_connection;
        orderly = each-get (IsOrderly o.settings.protocol) s.connections k d orderly.ends ends.secondary_connection;
        numbered = λ place write at.
            let home = homes.homed k place c write ends.primary_connection at in
            let number = homes.numbered home.0 home.1 home.2 in
            let same : home.1.write.number ≡ write.number = ap (λ w. w.number) home.3 in
            omega arith;
        refused = homes.refused k c ends.primary_connection;
        out = subst (λ (x : Settings). IsBeginning d.taken (map read (take c.pushed (frames_due x c)))) here (joined-out p s rise joined k k c d ends);
        back = subst (λ (x : Settings). IsBeginning c.taken (map read (take d.pushed (answers_due x d)))) there (joined-back p s rise joined k k c d ends);
      };
    }

-- so are the two nodes of a pair after every run
honest-run : (o : Opening) (events : List (Event × Bool)) → SharesSettings o → HasRanges o
    → AreHonest o.settings (run events (pair_at o)).1.primary (run events (pair_at o)).1.secondary
honest-run o events shares ranges =
    let runs = pair_runs_are_joined o events in
    let here : PrimaryHistory = primary_run runs.0 (primary_at o) in
    let there : SecondaryHistory = secondary_run runs.1 (secondary_at o) in
    let both = subst (λ p. IsJoined p (run events (pair_at o)).1.secondary) runs.2 runs.4 in
    let ends = subst (λ s. IsJoined here s) runs.3 both in
    let same : length here.connections ≡ length there.connections = ap (λ (p : PrimaryHistory). length p.connections) (sym runs.2)
    ∙ (runs.5 ∙ ap (λ (s : SecondaryHistory). length s.connections) runs.3) in
    let counted = subst (λ (s : SecondaryHistory). AreCounted s.connections) runs.3 runs.6 in
    subst (λ p. AreHonest o.settings p (run events (pair_at o)).1.secondary) (sym runs.2)
    (subst (λ s. AreHonest o.settings here s) (sym runs.3) (honest-joined o runs.0 runs.1 shares ranges ends same counted))

-- the last ends, where one of them is open
last-ends : (settings : Settings) (p : PrimaryHistory) (s : SecondaryHistory) → AreHonest settings p s
    → ((primary_connection p).closed ≡ false) ⊎ ((secondary_connection s).closed ≡ false)
    → AreEnds p s (length p.connections - 1) (length p.connections - 1) (primary_connection p) (secondary_connection s)
last-ends settings p s a standing = go (last-at (no_primary_connection p.tuple) p.connections) (last-at (no_secondary_connection s) s.connections)
  where
    none-here : p.connections ≡ [] → (primary_connection p).closed ≡ true
    none-here none = ap (λ (l : List PrimaryConnection). (last_of (no_primary_connection p.tuple) l).closed) none

    none-there : s.connections ≡ [] → (secondary_connection s).closed ≡ true
    none-there none = ap (λ (l : List SecondaryConnection). (last_of (no_secondary_connection s) l).closed) none

    no-length : {X : Type 0} (xs : List X) → length xs ≡ 0 → xs ≡ []
    no-length [] size = refl
    no-length (x ∷ xs) size = absurd (omega arith)

    neither : p.connections ≡ [] → s.connections ≡ [] → ⊥
    neither here there = elim standing [
      | inl still ↦ both_ways (primary_connection p).closed still (none-here here)
      | inr still ↦ both_ways (secondary_connection s).closed still
          (none-there there)
    ]

    go : (p.connections ≡ []) ⊎ (slice_get p.connections (length p.connections - 1) ≡ Some (primary_connection p))
        → (s.connections ≡ []) ⊎ (slice_get s.connections (length s.connections - 1) ≡ Some (secondary_connection s))
        → AreEnds p s (length p.connections - 1) (length p.connections - 1) (primary_connection p) (secondary_connection s)
    go (inl none) other = absurd (neither none (no-length s.connections (sym a.same ∙ ap length none)))
    go (inr here) (inl none) = absurd (neither (no-length p.connections (a.same ∙ ap length none)) none)
    go (inr here) (inr there) =
        let last : slice_get s.connections (length p.connections - 1) ≡ Some (secondary_connection s) =
        subst (λ n. slice_get s.connections (n - 1) ≡ Some (secondary_connection s))
        (sym a.same) there in
        record { primary_connection = here; secondary_connection = last; number = a.counted (length p.connections - 1) (secondary_connection s) last }

-- Replies.

-- a reply that refuses nothing as a protocol error
abbrev IsHonestReply : Reply → Type 0
IsHonestReply (reply.Ok done) = Unit {0}
IsHonestReply (reply.Refused refusal) = is_protocol_error refusal ≡ false
IsHonestReply (reply.Closed count) = Unit {0}

-- tests that refuse nothing as one
abbrev AreMild : List Test → Type 0
AreMild tests = list_any (λ (test : Test). is_protocol_error test.1) tests ≡ false

first-mild : (tests : List Test) → AreMild tests → (refusal : Refusal) → first_refusal tests ≡ Some refusal → is_protocol_error refusal ≡ false
first-mild [] mild refusal is = absurd (cc)
first-mild ((true, first) ∷ tests) mild refusal is = let same : first ≡ refusal = cc in ap is_protocol_error (sym same) ∙ (or_parts _ _ mild).0
first-mild ((false, first) ∷ tests) mild refusal is = first-mild tests (or_parts _ _ mild).1 refusal is

-- what follows of tests, where those that refuse are mild
by-tests : {X : Type 0} (tests : List Test) (h : X) (done : Unit {0} → Reply × X) → AreMild tests → (first_refusal tests ≡ None → IsHonestReply (done tt).0)
    → IsHonestReply (elim (first_refusal tests) as (λ _. Reply × X) [ Some refusal ↦ (reply.Refused refusal, h) | None ↦ done tt ]).0
by-tests {X} tests h done mild honest = go (first_refusal tests) refl
  where
    go : (v : Option Refusal) → first_refusal tests ≡ v
        → IsHonestReply (elim v as (λ _. Reply × X) [ Some refusal ↦ (reply.Refused refusal, h) | None ↦ done tt ]).0
    go (Some refusal) is = first-mild tests mild refusal is
    go None is = honest is

-- what refuses no frame is no protocol error
mild-other : (refusal : Refusal) → is_refused_frame refusal ≡ false → is_protocol_error refusal ≡ false
mild-other PrimaryStale other = refl
mild-other SplitBrain other = refl
mild-other Unrelated other = refl
mild-other UsedIdentifier other = refl
mild-other refusal other = other

-- Steps of the primary.

honest-submit : (first : ℕ) (contents : List (List ℕ)) (out_of_memory : Bool) (h : PrimaryHistory) → IsHonestReply (submit first contents out_of_memory h).0
honest-submit first contents out_of_memory h =
    by-tests (submit_tests h first contents out_of_memory) h (λ _. succeeding (what.Write (suc (length h.writes))) (submitted h first contents)) refl
    (λ none. tt)

honest-local : (number : ℕ) (h : PrimaryHistory) → IsHonestReply (local_done number h).0
honest-local number h = by-tests ((not (is_unfinished h number), UnknownJob) ∷ []) h (λ _. succeeding what.Nothing (releasing h (with_outcome number OnDisk h)))
    refl (λ none. tt)

honest-fault : (number kept : ℕ) (h : PrimaryHistory) → IsHonestReply (local_fault_kept number kept h).0
honest-fault number kept h =
    by-tests ((not (is_unfinished h number), UnknownJob) ∷
    (keeps_too_many kept (option_map (λ accepted. length accepted.write.contents) (accepted_at h number)), BadRange) ∷ []) h
    (λ _. local_fault number (below kept) h) refl (λ none.
    by-tests ((not (is_unfinished h number), UnknownJob) ∷ []) h (λ _. succeeding what.Nothing (faulted number (below kept) h)) refl (λ free. tt))

honest-send : (room out_of_memory : Bool) (h : PrimaryHistory) → IsHonestReply (send room out_of_memory h).0
honest-send room out_of_memory h = by-tests (send_tests h room out_of_memory) h (λ _. succeeding (sending h) (with_primary_connection pushing h)) refl
    (λ none. tt)

honest-resync : (out_of_memory : Bool) (h : PrimaryHistory) → IsHonestReply (resync_next None out_of_memory h).0
honest-resync out_of_memory h = by-tests (resync_tests h out_of_memory) h (λ _. elim (free_block h) as (λ _. Reply × PrimaryHistory) [
  | None ↦ (reply.Refused NothingToDo, h)
  | Some block ↦ succeeding (what.Block (record { 0 = block }) (length (primary_connection h).stream))
      (copying None block h)
]) refl (λ none. go (free_block h))
  where
    go : (v : Option ℕ) → IsHonestReply (elim v as (λ _. Reply × PrimaryHistory) [
      | None ↦ (reply.Refused NothingToDo, h)
      | Some block ↦ succeeding (what.Block (record { 0 = block }) (length (primary_connection h).stream))
          (copying None block h)
    ]).0
    go None = refl
    go (Some block) = tt

honest-resync-fault : (out_of_memory : Bool) (h : PrimaryHistory) → IsHonestReply (resync_fault out_of_memory h).0
honest-resync-fault out_of_memory h = by-tests (resync_tests h out_of_memory) h (λ _. (reply.Refused ReadFault, h)) refl (λ none. refl)

honest-close : (h : PrimaryHistory) → IsHonestReply (close_primary h).0
honest-close h = by-tests (((primary_connection h).closed, NotConnected) ∷ []) h
    (λ _. let after = follows (closing h) in (reply.Closed (length after.completed), after.history)) refl (λ none. tt)

-- a frame that is read is a packet that was pushed
read-packet : (v : Option Packet) (frame : Received) → option_map (λ packet. Ok packet) v ≡ Some frame
    → (packet : Packet) × (v ≡ Some packet) × (frame ≡ Ok packet)
read-packet None frame is = absurd (cc)
read-packet (Some packet) frame is = (packet, refl, let same : Ok packet ≡ frame = cc in sym same)

honest-frame : (settings : Settings) (h : PairHistory) (packet : Packet) → AreHonest settings h.primary h.secondary
    → (primary_connection h.primary).closed ≡ false
    → slice_get (pushed_answers h) (length (primary_connection h.primary).taken) ≡ Some packet
    → IsHonestReply (take_frame (Ok packet) h.primary).0
honest-frame settings h packet a standing next =
    let p : PrimaryHistory = h.primary in
    let s : SecondaryHistory = h.secondary in
    let ends = last-ends settings p s a (inl standing) in
    let at : slice_get (take (secondary_connection s).pushed (answers_due settings (secondary_connection s))) (length (primary_connection p).taken) ≡ Some
    packet
    = subst (λ (x : Settings). slice_get (take (secondary_connection s).pushed (answers_due x (secondary_connection s))) (length (primary_connection p).taken) ≡
    Some packet) a.there next in
    frame-has (λ r. IsHonestReply r.0) IsFineToo (Ok packet) p
    (acknowledging-fine settings p (with_primary_connection (with_frame (Ok packet)) p) (secondary_connection s) packet a.here a.here
    (a.ends _ (primary_connection p) (secondary_connection s) ends) standing
    (a.begins _ (primary_connection p) (secondary_connection s) ends) at) (λ done fine. tt) (λ error fine. fine)

honest-ack-in : (settings : Settings) (out_of_memory : Bool) (h : PairHistory) → AreHonest settings h.primary h.secondary
    → IsHonestReply (ack_in (next_answer h) out_of_memory h.primary).0
honest-ack-in settings out_of_memory h a = ack-in-has (λ r. IsHonestReply r.0) (next_answer h) out_of_memory h.primary
    (λ refusal other. mild-other refusal other)
    (λ taken is standing.
    let found = read-packet (slice_get (pushed_answers h) (length (primary_connection h.primary).taken)) taken is in
    subst (λ (f : Received). IsHonestReply (take_frame f h.primary).0) (sym found.2) (honest-frame settings h found.0 a standing found.1))

-- Steps of the secondary.

honest-item : (settings : Settings) (h : PairHistory) (packet : Packet) → AreHonest settings h.primary h.secondary
    → (secondary_connection h.secondary).closed ≡ false
    → slice_get (pushed_frames h) (length (secondary_connection h.secondary).taken) ≡ Some packet
    → IsHonestReply (take_item (Ok packet) h.secondary).0
honest-item settings h packet a standing next =
    let p : PrimaryHistory = h.primary in
    let s : SecondaryHistory = h.secondary in
    let ends = last-ends settings p s a (inr standing) in
    let at : slice_get (take (primary_connection p).pushed (frames_due settings (primary_connection p))) (length (secondary_connection s).taken) ≡ Some packet
    = subst (λ (x : Settings). slice_get (take (primary_connection p).pushed (frames_due x (primary_connection p))) (length (secondary_connection s).taken) ≡
    Some packet) a.here next in
    item-has (λ r. IsHonestReply r.0) IsFine (Ok packet) s
    (receiving-fine settings (primary_connection p) (secondary_connection s) packet (with_secondary_connection (framed (Ok packet)) s)
    (a.ends _ (primary_connection p) (secondary_connection s) ends) standing a.there at)
    (λ done fine. tt) (λ refusal fine. fine)

honest-receive : (settings : Settings) (out_of_memory : Bool) (h : PairHistory) → AreHonest settings h.primary h.secondary
    → IsHonestReply (receive (next_frame h) out_of_memory h.secondary).0
honest-receive settings out_of_memory h a = receive-has (λ r. IsHonestReply r.0) (next_frame h) out_of_memory h.secondary
    (λ refusal other. mild-other refusal other)
    (λ taken is standing.
    let found = read-packet (slice_get (pushed_frames h) (length (secondary_connection h.secondary).taken)) taken is in
    subst (λ (f : Received). IsHonestReply (take_item f h.secondary).0) (sym found.2) (honest-item settings h found.0 a standing found.1))

honest-peer : (place : ℕ) (h : SecondaryHistory) → IsHonestReply (peer place h).0
honest-peer place h =
    by-tests (peer_tests h place) h (λ _. succeeding_secondary what.Nothing (with_secondary_connection (applying h.settings.protocol place) h)) refl
    (λ none. tt)

honest-peer-fault : (place kept : ℕ) (h : SecondaryHistory) → IsHonestReply (peer_fault_kept place kept h).0
honest-peer-fault place kept h =
    by-tests (peer_tests h place ++ (
      keeps_too_many kept (option_map (λ item. length (contents_of item)) (slice_get (items_taken (secondary_connection h)) place)),
      BadRange,
    ) ∷ []) h (λ _. peer_fault place (below kept) h) refl (λ none.
    by-tests (peer_tests h place) h (λ _. (reply.Ok (done_with what.Nothing), with_secondary_connection (failing place (below kept)) h)) refl (λ free. tt))

honest-push : (room out_of_memory : Bool) (h : SecondaryHistory) → IsHonestReply (ack_out room out_of_memory h).0
honest-push room out_of_memory h = by-tests (ack_out_tests h room out_of_memory) h
    (λ _. (reply.Ok (done_with (answering_with h)), with_secondary_connection (λ c. record c { pushed = suc c.pushed }) h)) refl (λ none. tt)

honest-close-too : (h : SecondaryHistory) → IsHonestReply (close_secondary h).0
honest-close-too h = by-tests (((secondary_connection h).closed, NotConnected) ∷ []) h
    (λ _. (reply.Ok (done_with what.Nothing), with_secondary_connection (λ c. record c { closed = true }) h)) refl (λ none. tt)

-- Steps of the pair.

honest-open : (sync loss : ℕ) (out_of_memory : Bool) (h : PairHistory) → IsHonestReply (open_pair sync loss out_of_memory h).0
honest-open sync loss out_of_memory h = by-tests (open_pair_tests h sync loss out_of_memory) h
    (λ _. let primary = open_primary sync loss out_of_memory h.primary in (
      primary.0,
      record { primary = primary.1; secondary = (open_secondary 0 h.secondary).1 },
    ))
    refl
    (λ none. by-tests (open_tests h.primary sync loss out_of_memory) h.primary (λ _. succeeding what.Nothing (opened h.primary sync loss)) refl (λ free. tt))

honest-step : (settings : Settings) (event : Event) (out_of_memory : Bool) (h : PairHistory) → AreHonest settings h.primary h.secondary
    → IsHonestReply (step event out_of_memory h).0
honest-step settings (OpenEvent sync loss) out_of_memory h a = honest-open sync loss out_of_memory h
honest-step settings (SubmitEvent first contents) out_of_memory h a = honest-submit first contents out_of_memory h.primary
honest-step settings (LocalEvent number) out_of_memory h a = honest-local number h.primary
honest-step settings (LocalFaultEvent number kept) out_of_memory h a = honest-fault number kept h.primary
honest-step settings SendEvent out_of_memory h a = honest-send (has_room h) out_of_memory h.primary
honest-step settings ReceiveEvent out_of_memory h a = honest-receive settings out_of_memory h a
honest-step settings (PeerEvent place) out_of_memory h a = honest-peer place h.secondary
honest-step settings (PeerFaultEvent place kept) out_of_memory h a = honest-peer-fault place kept h.secondary
honest-step settings AckOutEvent out_of_memory h a = honest-push (answers_have_room h) out_of_memory h.secondary
honest-step settings AckInEvent out_of_memory h a = honest-ack-in settings out_of_memory h a
honest-step settings ResyncEvent out_of_memory h a = honest-resync out_of_memory h.primary
honest-step settings ResyncFaultEvent out_of_memory h a = honest-resync-fault out_of_memory h.primary
honest-step settings ClosePrimaryEvent out_of_memory h a = honest-close h.primary
honest-step settings CloseSecondaryEvent out_of_memory h a = honest-close-too h.secondary

-- No step of the pair is refused as a protocol error.
pub every_step_is_honest : EveryStepIsHonest
every_step_is_honest o events event out_of_memory refusal shares ranges is =
    subst IsHonestReply is (honest-step o.settings event out_of_memory (run events (pair_at o)).1 (honest-run o events shares ranges))
