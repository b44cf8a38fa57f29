-- The primary sends the next frame that it owes.
use Rattle.std.proofs.Common.{ℕ, suc, ◌≡◌, ◌-◌, ◌<◌, ◌≤◌, inl, inr, Bool, true, false, not, ◌&&◌, ◌||◌, List, [], ◌∷◌, length, map, filter, drop, Option, Some}
use Rattle.std.proofs.Common.{None, slice_get, Result, Ok, Err, refl, sym, ◌∙◌, ap, subst, arith, nat_lt, nat_le, ◌==◌}
use Rattle.std.specs.Prelude.{option_map, if◌then◌else◌}
use Rattle.std.proofs.lemmas.Bool.{cases_lt, both_ways, and_parts, lt-ltb, le-ltb, eqb-true, eq-eqb}
use Rattle.std.proofs.lemmas.Option.{slice_get_within}
use Rattle.std.proofs.Math.Bool.{or-true}
use Rattle.blocks.specs.Positions.{StreamPosition}
use Rattle.blocks.specs.declared.settings.Settings.{Settings}
use Rattle.blocks.specs.declared.settings.Protocol.{Protocol}
use Rattle.blocks.specs.declared.refusal.Refusal.{Refusal}
use Rattle.blocks.specs.declared.refusal.Refusal.TheVariants.{NotConnected, NothingThere}
use Rattle.blocks.specs.declared.outcome.Done.{Done}
use Rattle.blocks.specs.declared.outcome.What.{What}
use Rattle.blocks.specs.declared.outcome.What.TheVariants as what
use Rattle.blocks.specs.declared.outcome.Reply.{Reply}
use Rattle.blocks.specs.declared.outcome.Reply.TheVariants as reply
use Rattle.model.specs.Contents.{Write}
use Rattle.model.specs.Stream.{StreamItem, WriteItem, ResyncItem, BarrierItem, SyncUuidItem, UuidsItem, is_write}
use Rattle.model.specs.Frames.{Packet, command_of, frame_of}
use Rattle.model.specs.Refusals.{Test, done_with}
use Rattle.model.specs.Primary.{Accepted, PrimaryConnection, PrimaryHistory, no_primary_connection, primary_connection, last_index, change_last}
use Rattle.model.specs.Primary.{with_primary_connection, items_sent, frames_due}
use Rattle.model.specs.Primary.{is_answered_by, is_answered, is_alone, is_confirmed, is_released, is_on_disk, completes}
use Rattle.model.specs.PrimarySteps as step
use Rattle.model.specs.PrimarySteps.{resync_is_over}
use Rattle.transferlog.specs.Log as log
use Rattle.transferlog.specs.Log.{answers_sent}
use Rattle.transferlog.specs.Ring.{on}
use Rattle.transferlog.specs.Writes as writes
use Rattle.laws.proofs.Rules.Completions.{completes-parts}
use Rattle.laws.proofs.Rules.EpochEnds.{TakesWrites}
use Rattle.laws.proofs.Lists.Elements.{same-at}
use Rattle.laws.proofs.Lists.Last.{get-last-changed}
use Rattle.laws.proofs.Lists.Picks.{pick-filtered, pick-image}
use Rattle.laws.proofs.Primary.Homes.{HasHomes, open-at}
use Rattle.laws.proofs.Releases.InOrderMoves.{Ordered, OrderedAfter, in-order-kept}
use Rattle.laws.proofs.Primary.Moves.{pushing}
use Rattle.primary_protocol.specs.Core as core
use Rattle.primary_protocol.specs.Core.{EndState, PrimaryState}
use Rattle.primary_protocol.specs.Transitions.{owed, next_place, called, sent_from, sent_tests, pushed_item}
use Rattle.primary_protocol.specs.Leaves.{is_sent, logged_of, LeavesEnd, EndLeft, Leaves}
use Rattle.primary_protocol.specs.Steps.{Agrees, SendsAgree}
use Rattle.transferlog.specs.Writes.{released_of}
use Rattle.transferlog.specs.declared.report.Released.{Released}
use Rattle.primary_protocol.proofs.Common.Homes.{sent-at, answered-at}
use Rattle.primary_protocol.proofs.Common.OneWriteLeaves.{change-due, entries-stay, held-stays}
use Rattle.primary_protocol.proofs.Common.OneWrite.{IsChange, released-is}
use Rattle.primary_protocol.proofs.Common.Following.{IsDue, follow}
use Rattle.primary_protocol.proofs.Common.Marks.{unmarking-none}
use Rattle.primary_protocol.proofs.Common.Reached.{IsOrdered, reached-ordered, primary-connection-of, from-follow, tested-agrees, refused-agrees}
use Rattle.primary_protocol.proofs.Common.NothingFollows.{reached-rests}
use Rattle.primary_protocol.proofs.Common.WriteStates.{completes-seen, disk-seen}
use Rattle.primary_protocol.proofs.Send.Due.{get-drop, place-is, owed-is, owed-late, none-owed, some-owed, said-early, said-late, pushed-agrees}
use Rattle.primary_protocol.proofs.Send.Pushing.{hello-pushed, item-pushed, logged-with, alone-pushed, unseen, other-place}
use Rattle.laws.proofs.Rules.Releases.{released-same}
use Rattle.laws.proofs.Lists.Beginnings.{begins-self}
use Rattle.model.specs.Primary.{accepted_frames}
use Rattle.laws.proofs.Rules.Answered.{answered-more, answered-sent}
use Rattle.laws.proofs.Primary.WriteConnections.{confirmed-seen}

-- A write's frame is pushed.
module _ (settings : Settings) (bound : TakesWrites settings) (s : PrimaryState) (h : PrimaryHistory) (e : EndState) (left : Leaves s h)
    (ordered : Ordered settings h) (end : LeavesEnd e (primary_connection h)) (write : Write)
    (late : 3 ≤ (primary_connection h).pushed) (there : slice_get (primary_connection h).stream (items_sent (primary_connection h)) ≡ Some (WriteItem write))
    (owes : (primary_connection h).pushed < length (frames_due h.settings (primary_connection h))) where
  homes : HasHomes h
  homes = ordered.1.1.0.0

  after : OrderedAfter settings (with_primary_connection pushing h)
  after = (in-order-kept settings bound).sends h end.is_open owes ordered

  last-at : slice_get h.connections (last_index h.connections) ≡ Some (primary_connection h)
  last-at = open-at h end.is_open

  out-write : primary_connection (with_primary_connection pushing h) ≡ pushing (primary_connection h)
  out-write = primary-connection-of pushing h (with_primary_connection pushing h) refl end.is_open

  next : ℕ
  next = items_sent (primary_connection h)

  -- the write is at home there
  its-home : (i : ℕ) (a : Accepted) → slice_get h.writes i ≡ Some a → a.write.number ≡ write.number
      → a.home ≡ Some (record { index = last_index h.connections; place = items_sent (primary_connection h) })
  its-home i a at same =
      let found = homes.homed (last_index h.connections) (items_sent (primary_connection h)) (primary_connection h) write last-at there in
      let na = homes.numbered i a at in
      let nb = homes.numbered found.0 found.1 found.2 in
      let number : found.1.write.number ≡ write.number = ap (λ (w : Write). w.number) found.3 in
      let index : found.0 ≡ i = omega arith in
      let one : found.1 ≡ a = same-at h.writes i found.1 a (subst (λ n. slice_get h.writes n ≡ Some found.1) index found.2) at in
      ap (λ (x : Accepted). x.home) (sym one) ∙ found.4

  sees : (i : ℕ) (a : Accepted) → slice_get h.writes i ≡ Some a
      → logged_of (with_primary_connection pushing h) a ≡ on write.number (writes.sending (answers_sent s.log.protocol)) (logged_of h a)
  sees i a at = go (a.write.number == write.number) refl
    where
      go : (b : Bool) → (a.write.number == write.number) ≡ b
          → logged_of (with_primary_connection pushing h) a ≡ (if b then writes.sending (answers_sent s.log.protocol) (logged_of h a) else logged_of h a)
      go false is = unseen h homes i a at (λ place item. other-place (primary_connection h) place (λ same.
          let both : Some (WriteItem write) ≡ Some (WriteItem a.write) = sym there ∙ (ap (slice_get (primary_connection h).stream) (sym same) ∙ item) in
          let equal : write ≡ a.write = cc in
          both_ways (a.write.number == write.number) is (eq-eqb a.write.number write.number (ap (λ (w : Write). w.number) (sym equal)))))
      go true is = logged-with h (with_primary_connection pushing h) a (alone-pushed h a) true (is_answered h a || answers_sent s.log.protocol) sent_now
          (answered_now
          ∙ sym (ap (λ b. b || answers_sent s.log.protocol) answered_was
          ∙ ap (λ (p : Protocol). is_answered_by h.settings.protocol (primary_connection h) (items_sent (primary_connection h)) (WriteItem a.write)
          || answers_sent p)
          left.rest.log.protocol))
        where
          home : a.home ≡ Some (record { index = last_index h.connections; place = items_sent (primary_connection h) })
          home = its-home i a at (eqb-true a.write.number write.number is)

          end-then : slice_get (change_last pushing h.connections) (last_index h.connections) ≡ Some (pushing (primary_connection h))
          end-then = get-last-changed pushing (no_primary_connection h.tuple) h.connections (primary_connection h) last-at refl

          sent_now : is_sent (with_primary_connection pushing h) a ≡ true
          sent_now =
              sent-at (with_primary_connection pushing h) a (last_index h.connections) (items_sent (primary_connection h)) (pushing (primary_connection h)) home
              end-then
              ∙ lt-ltb (items_sent (primary_connection h)) (items_sent (pushing (primary_connection h))) (omega arith)

          answered_was : is_answered h a ≡ is_answered_by h.settings.protocol (primary_connection h) (items_sent (primary_connection h)) (WriteItem a.write)
          answered_was = answered-at h a (last_index h.connections) (items_sent (primary_connection h)) (primary_connection h) home last-at

          by-protocol : (asked : Protocol)
              → is_answered_by asked (pushing (primary_connection h)) (items_sent (primary_connection h)) (WriteItem a.write) ≡
              (is_answered_by asked (primary_connection h) (items_sent (primary_connection h)) (WriteItem a.write) || answers_sent asked)
          by-protocol asked = answered-sent answers_sent asked (primary_connection h) (pushing (primary_connection h)) (items_sent (primary_connection h))
              (WriteItem a.write) refl refl refl
              (omega arith) refl

          answered_now : is_answered (with_primary_connection pushing h) a ≡
              (is_answered_by h.settings.protocol (primary_connection h) (items_sent (primary_connection h)) (WriteItem a.write)
              || answers_sent h.settings.protocol)
          answered_now =
              ap (λ (v : Option StreamPosition). elim v as (λ _. Bool) [
                | None ↦ false
                | Some home ↦ elim (slice_get (change_last pushing h.connections) home.index) as
                    (λ _. Bool) [ None ↦ false | Some c ↦ is_answered_by h.settings.protocol c home.place (WriteItem a.write) ]
              ]) home
              ∙ (ap (λ (v : Option PrimaryConnection). elim v as (λ _. Bool) [
                | None ↦ false
                | Some c ↦ is_answered_by h.settings.protocol c (items_sent (primary_connection h))
                    (WriteItem a.write)
              ]) end-then ∙ by-protocol h.settings.protocol)

  same-writes : h.writes ≡ map (λ a. a) h.writes
  same-writes = go h.writes
    where
      go : (ws : List Accepted) → ws ≡ map (λ a. a) ws
      go [] = refl
      go (a ∷ ws) = ap (λ (l : List Accepted). a ∷ l) (go ws)

  -- nothing that was answered is unanswered
  grows : (asked : Protocol) (place : ℕ) (item : StreamItem) → is_answered_by asked (primary_connection h) place item ≡ true
      → is_answered_by asked (pushing (primary_connection h)) place item ≡ true
  grows asked place item so = answered-more asked (primary_connection h) (pushing (primary_connection h)) place item (omega arith)
      (begins-self (accepted_frames (primary_connection h))) so

  confirmed-pushed : (a : Accepted) → is_confirmed (with_primary_connection pushing h) a ≡ is_confirmed h a
  confirmed-pushed = confirmed-seen h (with_primary_connection pushing h) pushing refl (λ place. refl)

  -- what completes does so still
  completes-still : (i : ℕ) (a : Accepted) → slice_get h.writes i ≡ Some a → completes h a ≡ true → completes (with_primary_connection pushing h) a ≡ true
  completes-still i a at done =
      let parts = completes-parts h a done in
      sym (completes-seen (with_primary_connection pushing h) a)
      ∙ (ap writes.is_completed (sees i a at) ∙ by-number (a.write.number == write.number) (is_answered h a) (is_alone h a) refl refl parts.0 parts.1)
    where
      by-number : (b answered alone : Bool) → is_answered h a ≡ answered → is_alone h a ≡ alone → is_on_disk a.outcome ≡ true → (answered || alone) ≡ true
          → writes.is_completed (if b then writes.sending (answers_sent s.log.protocol) (logged_of h a) else logged_of h a) ≡ true
      by-number false answered alone is so disk returned = completes-seen h a ∙ done
      by-number true true alone is so disk returned = λ j. (disk-seen a.outcome ∙ disk) j && ((is j || answers_sent s.log.protocol) || not (not (is_alone h a)))
      by-number true false true is so disk returned =
          (λ j. (disk-seen a.outcome ∙ disk) j && ((is_answered h a || answers_sent s.log.protocol) || not (not (so j))))
          ∙ or-true (is_answered h a || answers_sent s.log.protocol)
      by-number true false false is so disk returned = absurd (cc)

  sent-change : IsChange h (with_primary_connection pushing h) write.number (writes.sending (answers_sent s.log.protocol)) (λ a. a) pushing
  sent-change = record {
    settings = refl;
    journal = refl;
    connections = refl;
    last = out-write;
    writes = same-writes;
    write = λ a. refl;
    home = λ a. refl;
    logged = sees;
    alone = λ i a at. alone-pushed h a;
    confirmed = λ i a at. confirmed-pushed a;
    settled = λ i a at settled. settled;
    failed = λ i a at failed. failed;
    completed = completes-still;
    stream = refl;
    closed = refl;
    begun = refl;
    acknowledged = λ epoch. refl;
    resynced = λ place item. refl;
    answered = grows;
  }

  -- nothing is released by it
  clears-none : (n : ℕ) (r : Released) → slice_get (log.sent write.number s.log).1.released n ≡ Some r → r.clears ≡ false
  clears-none n r at =
      let of = pick-image (λ a. released_of (logged_of (with_primary_connection pushing h) a))
      (filter (λ a. not (is_released h a) && is_released (with_primary_connection pushing h) a) h.writes) n r
      (subst (λ (rs : List Released). slice_get rs n ≡ Some r)
      (released-is s h (with_primary_connection pushing h) write.number (writes.sending (answers_sent s.log.protocol)) (λ a. a) pushing left homes ordered.1.0
      sent-change) at) in
      let stood = pick-filtered (λ a. not (is_released h a) && is_released (with_primary_connection pushing h) a) h.writes n of.0 of.1 in
      let parts = and_parts (not (is_released h of.0)) (is_released (with_primary_connection pushing h) of.0) stood.2 in
      let same : is_released (with_primary_connection pushing h) of.0 ≡ is_released h of.0 = released-same h (with_primary_connection pushing h) of.0
      (confirmed-pushed of.0) (alone-pushed h of.0) in
      absurd (both_ways (not (is_released h of.0)) (ap not (sym same ∙ parts.1)) parts.0)

  pub sent-due : s.end ≡ Some e → IsDue (record s { log = (log.sent write.number s.log).1; end = Some (record e { unsent = drop 1 e.unsent }) })
      (log.sent write.number s.log).0 (with_primary_connection pushing h)
  sent-due is =
      change-due s h (with_primary_connection pushing h) write.number (writes.sending (answers_sent s.log.protocol)) (λ a. a) pushing left homes ordered.1.0
      ordered.1.1.0.1.on after.1.1.0.0 sent-change
      s.entries s.held s.marks (Some (record e { unsent = drop 1 e.unsent })) refl refl refl
      (entries-stay s h (with_primary_connection pushing h) write.number (writes.sending (answers_sent s.log.protocol)) (λ a. a) pushing left homes ordered.1.0
      ordered.1.1.0.1.on after.1.1.0.0 sent-change (λ i a at. refl) refl)
      (held-stays s h (with_primary_connection pushing h) write.number (writes.sending (answers_sent s.log.protocol)) (λ a. a) pushing left homes ordered.1.0
      ordered.1.1.0.1.on after.1.1.0.0 sent-change (λ i a at. refl))
      (ap (core.unmarking (log.sent write.number s.log).1.released (log.sent write.number s.log).1.last_writes) left.rest.marks
      ∙ unmarking-none (log.sent write.number s.log).1.released (log.sent write.number s.log).1.last_writes h.settings.blocks h.marks clears-none)
      (subst (LeavesEnd (record e { unsent = drop 1 e.unsent })) (sym out-write)
      (item-pushed e (primary_connection h) late (slice_get_within (primary_connection h).stream (items_sent (primary_connection h)) (WriteItem write) there)
      end))

-- What was due is pushed.
module _ (settings : Settings) (bound : TakesWrites settings) (s : PrimaryState) (h : PrimaryHistory) (e : EndState) (left : Leaves s h)
    (ordered : Ordered settings h) (rests : resync_is_over h ≡ false) (end : LeavesEnd e (primary_connection h)) (is : s.end ≡ Some e)
    (packet : Packet) (due : slice_get (frames_due h.settings (primary_connection h)) (primary_connection h).pushed ≡ Some packet) where
  called-is : called e s packet ≡ step.sending h
  called-is =
      elim (cases_lt (primary_connection h).pushed 3) [
        | inl early ↦ ap (λ b. what.Frame (command_of packet) (if b then None else Some (next_place e s))) (said-early s h e left ordered.1.1.0.0 end early
            ∙ sym (lt-ltb (primary_connection h).pushed 3 early)) ∙ (place ∙ sym model)
        | inr late ↦ ap (λ b. what.Frame (command_of packet) (if b then None else Some (next_place e s))) (said-late s h e left ordered.1.1.0.0 end late
            ∙ sym (le-ltb (primary_connection h).pushed 3 late)) ∙ (place ∙ sym model)
      ]
    where
      place : what.Frame (command_of packet) (if nat_lt (primary_connection h).pushed 3 then None else Some (next_place e s)) ≡ what.Frame (command_of packet)
          (if nat_lt (primary_connection h).pushed 3 then None else Some ((primary_connection h).pushed - 3))
      place = ap (λ n. what.Frame (command_of packet) (if nat_lt (primary_connection h).pushed 3 then None else Some n))
          (place-is s h e left ordered.1.1.0.0 end)

      model : step.sending h ≡ what.Frame (command_of packet) (if nat_lt (primary_connection h).pushed 3 then None
          else Some ((primary_connection h).pushed - 3))
      model = ap (λ (v : Option Packet). elim v as
          (λ _. What) [
            | None ↦ what.Nothing
            | Some packet ↦ what.Frame (command_of packet) (if nat_lt (primary_connection h).pushed 3 then None
                else Some ((primary_connection h).pushed - 3))
          ]) due

  abbrev answer : What → Result Done Refusal × PrimaryState
  answer name = (Ok (sent_from e name s).0, (sent_from e name s).1)

  owes : (primary_connection h).pushed < length (frames_due h.settings (primary_connection h))
  owes = slice_get_within (frames_due h.settings (primary_connection h)) (primary_connection h).pushed packet due

  by-hello : (name : What) → (primary_connection h).pushed < 3
      → Agrees reply.Ok (Ok (sent_from e name s).0, (sent_from e name s).1) (step.succeeding name (with_primary_connection pushing h))
  by-hello name early =
      subst (λ b. Agrees reply.Ok (Ok (sent_by b).0, (sent_by b).1) (step.succeeding name (with_primary_connection pushing h)))
      (sym (said-early s h e left ordered.1.1.0.0 end early))
      (pushed-agrees s h e (record e { hello_sent = suc e.hello_sent }) left ordered.1.1.0.0 end is
      (λ i a at. unseen h ordered.1.1.0.0 i a at (λ place item. ap (nat_lt place) same)) (hello-pushed e (primary_connection h) early end) ordered.1.1.0.1.on
      rests
      name)
    where
      sent_by : Bool → Done × PrimaryState
      sent_by b = if b then (done_with name, record s { end = Some (record e { hello_sent = suc e.hello_sent }) })
          else pushed_item name (slice_get e.unsent 0) (record s { end = Some (record e { unsent = drop 1 e.unsent }) })

      same : items_sent (pushing (primary_connection h)) ≡ items_sent (primary_connection h)
      same = omega arith

  by-item : (name : What) → 3 ≤ (primary_connection h).pushed → (item : StreamItem)
      → slice_get (primary_connection h).stream (items_sent (primary_connection h)) ≡ Some item
      → Agrees reply.Ok (Ok (sent_from e name s).0, (sent_from e name s).1) (step.succeeding name (with_primary_connection pushing h))
  by-item name late item there =
      subst (λ b. Agrees reply.Ok (Ok (sent_by b (slice_get e.unsent 0)).0, (sent_by b (slice_get e.unsent 0)).1)
      (step.succeeding name (with_primary_connection pushing h))) (sym (said-late s h e left ordered.1.1.0.0 end late))
      (subst (λ v. Agrees reply.Ok (Ok (sent_by false v).0, (sent_by false v).1) (step.succeeding name (with_primary_connection pushing h))) (sym first)
      (cases item there))
    where
      sent_by : Bool → Option StreamItem → Done × PrimaryState
      sent_by b v = if b then (done_with name, record s { end = Some (record e { hello_sent = suc e.hello_sent }) })
          else pushed_item name v (record s { end = Some (record e { unsent = drop 1 e.unsent }) })

      first : slice_get e.unsent 0 ≡ Some item
      first = ap (λ (l : List StreamItem). slice_get l 0) end.unsent ∙ (get-drop (items_sent (primary_connection h)) (primary_connection h).stream ∙ there)

      -- an item that is no write
      plain : (other : StreamItem) → slice_get (primary_connection h).stream (items_sent (primary_connection h)) ≡ Some other → is_write other ≡ false
          → Agrees reply.Ok (Ok (done_with name), record s { end = Some (record e { unsent = drop 1 e.unsent }) })
          (step.succeeding name (with_primary_connection pushing h))
      plain other at no_write =
          pushed-agrees s h e (record e { unsent = drop 1 e.unsent }) left ordered.1.1.0.0 end is
          (λ i a ati. unseen h ordered.1.1.0.0 i a ati (λ place its. other-place (primary_connection h) place (λ same.
          let both : Some other ≡ Some (WriteItem a.write) = sym at ∙ (ap (slice_get (primary_connection h).stream) (sym same) ∙ its) in
          let equal : other ≡ WriteItem a.write = cc in
          both_ways (is_write other) no_write (ap is_write equal))))
          (item-pushed e (primary_connection h) late (slice_get_within (primary_connection h).stream (items_sent (primary_connection h)) other at) end)
          ordered.1.1.0.1.on rests name

      cases : (other : StreamItem) → slice_get (primary_connection h).stream (items_sent (primary_connection h)) ≡ Some other
          → Agrees reply.Ok (
            Ok (pushed_item name (Some other) (record s { end = Some (record e { unsent = drop 1 e.unsent }) })).0,
            (pushed_item name (Some other) (record s { end = Some (record e { unsent = drop 1 e.unsent }) })).1,
          )
          (step.succeeding name (with_primary_connection pushing h))
      cases (WriteItem write) at = from-follow _ _
          (follow _ (log.sent write.number s.log).0 (with_primary_connection pushing h) (sent-due settings bound s h e left ordered end write late at owes is)
          name)
      cases (ResyncItem block contents) at = plain (ResyncItem block contents) at refl
      cases (BarrierItem epoch) at = plain (BarrierItem epoch) at refl
      cases (SyncUuidItem word) at = plain (SyncUuidItem word) at refl
      cases (UuidsItem tuple) at = plain (UuidsItem tuple) at refl

  pub sent-agrees : Agrees reply.Ok (Ok (sent_from e (called e s packet) s).0, (sent_from e (called e s packet) s).1)
      (step.succeeding (step.sending h) (with_primary_connection pushing h))
  sent-agrees =
      subst (λ name. Agrees reply.Ok (Ok (sent_from e name s).0, (sent_from e name s).1) (step.succeeding (step.sending h) (with_primary_connection pushing h)))
      (sym called-is) (elim (cases_lt (primary_connection h).pushed 3) [
        | inl early ↦ by-hello (step.sending h) early
        | inr late ↦ by-stream late (slice_get (primary_connection h).stream (items_sent (primary_connection h))) refl
      ])
    where
      by-stream : 3 ≤ (primary_connection h).pushed → (v : Option StreamItem) → slice_get (primary_connection h).stream (items_sent (primary_connection h)) ≡ v
          → Agrees reply.Ok (
            Ok (sent_from e (step.sending h) s).0,
            (sent_from e (step.sending h) s).1,
          ) (step.succeeding (step.sending h) (with_primary_connection pushing h))
      by-stream late (Some item) at = by-item (step.sending h) late item at
      by-stream late None none = absurd (
          let owed_none : owed e s ≡ None = owed-late s h e left ordered.1.1.0.0 end late
          ∙ ap (option_map (frame_of (items_sent (primary_connection h)))) none in
          let some : owed e s ≡ Some packet = owed-is s h e left ordered.1.1.0.0 end ∙ due in
          cc)

-- the primary sends a frame
pub sends-agree : SendsAgree
sends-agree room out_of_memory s h reached left = by-end s.end refl left.rest.end
  where
    known : IsOrdered h
    known = reached-ordered h reached

    rest : List Test
    rest = sent_tests room out_of_memory

    core-by : Option EndState → Result Done Refusal × PrimaryState
    core-by v = elim v [
      | None ↦ (Err NotConnected, s)
      | Some e ↦ elim (owed e s) [
        | None ↦ (Err NothingThere, s)
        | Some packet ↦ core.tested s (sent_tests room out_of_memory)
            (λ _. let after = sent_from e (called e s packet) s in (Ok after.0, after.1))
      ]
    ]

    model-by : Bool → Bool → Reply × PrimaryHistory
    model-by closed nothing = step.tested h ((closed, NotConnected) ∷ (nothing, NothingThere) ∷ rest)
        (λ _. step.succeeding (step.sending h) (with_primary_connection pushing h))

    by-end : (v : Option EndState) → s.end ≡ v → EndLeft v (primary_connection h) → Agrees reply.Ok (core-by s.end) (step.send room out_of_memory h)
    by-end None none shut =
        refused-agrees reply.Ok s h NotConnected (core-by s.end) (step.send room out_of_memory h) (ap core-by none)
        (ap (λ b. model-by b (nat_le (length (frames_due h.settings (primary_connection h))) (primary_connection h).pushed)) shut) left
    by-end (Some e) is end =
        subst (λ v. Agrees reply.Ok (core-by v) (step.send room out_of_memory h)) (sym is)
        (subst (λ b. Agrees reply.Ok (core-by (Some e))
        (model-by b (nat_le (length (frames_due h.settings (primary_connection h))) (primary_connection h).pushed))) (sym end.is_open)
        (by-owed (slice_get (frames_due h.settings (primary_connection h)) (primary_connection h).pushed) refl))
      where
        owing : Option Packet → Result Done Refusal × PrimaryState
        owing v = elim v [
          | None ↦ (Err NothingThere, s)
          | Some packet ↦ core.tested s (sent_tests room out_of_memory)
              (λ _. let after = sent_from e (called e s packet) s in (Ok after.0, after.1))
        ]

        by-owed : (v : Option Packet) → slice_get (frames_due h.settings (primary_connection h)) (primary_connection h).pushed ≡ v
            → Agrees reply.Ok (owing (owed e s)) (model-by false (nat_le (length (frames_due h.settings (primary_connection h))) (primary_connection h).pushed))
        by-owed None none = refused-agrees reply.Ok s h NothingThere (owing (owed e s))
            (model-by false (nat_le (length (frames_due h.settings (primary_connection h))) (primary_connection h).pushed))
            (ap owing (owed-is s h e left known.ordered.1.1.0.0 end
            ∙ none)) (ap (model-by false) (none-owed s h e left known.ordered.1.1.0.0 end none)) left
        by-owed (Some packet) due =
            subst (λ v. Agrees reply.Ok (owing v)
            (model-by false (nat_le (length (frames_due h.settings (primary_connection h))) (primary_connection h).pushed)))
            (sym (owed-is s h e left known.ordered.1.1.0.0 end ∙ due))
            (subst (λ b. Agrees reply.Ok (owing (Some packet)) (model-by false b)) (sym (some-owed s h e left known.ordered.1.1.0.0 end packet due))
            (tested-agrees reply.Ok s h rest rest (λ _. (Ok (sent_from e (called e s packet) s).0, (sent_from e (called e s packet) s).1))
            (λ _. step.succeeding (step.sending h) (with_primary_connection pushing h)) refl left
            (λ none. sent-agrees known.settings known.bound s h e left known.ordered (reached-rests h reached) end is packet due)))
