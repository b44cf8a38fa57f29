-- Which refusals each call may answer: those of its tests, and of the frame that it takes.
use Rattle.std.proofs.Common.{ℕ, zero, suc, ◌≡◌, ◌≤◌, Bool, true, false, not, ◌&&◌, ◌==◌, nat_lt, List, [], ◌∷◌, length, take, Option, Some, None}
use Rattle.std.proofs.Common.{slice_get, Ok, Err, refl, sym, ◌∙◌, ap, subst, arith}
use Rattle.std.specs.Prelude.{cond, filter, find, if◌then◌else◌, option_map}
use Rattle.std.specs.List.{list_all}
use Rattle.std.proofs.lemmas.Bool.{and_from, and_parts, eq-eqb}
use Rattle.blocks.specs.declared.outcome.What.TheVariants as what
use Rattle.blocks.specs.declared.outcome.Reply.{Reply}
use Rattle.blocks.specs.declared.outcome.Reply.TheVariants as reply
use Rattle.blocks.specs.declared.refusal.Refusal.{Refusal}
use Rattle.blocks.specs.declared.refusal.Refusal.TheVariants as refusal
use Rattle.model.specs.CallRefusals.{ack_in_refuses, receive_refuses, reopen_refuses, resync_next_refuses, send_refuses, submit_refuses}
use Rattle.model.specs.CallRefusals.{take_completed_refuses}
use Rattle.model.specs.Frames.{Packet, Received}
use Rattle.model.specs.Marks.{releasing}
use Rattle.model.specs.Stream.{StreamItem, barriers_in, epoch_of, is_barrier, placed_from}
use Rattle.model.specs.Primary.{Accepted, OnDisk, PrimaryHistory, free_block, is_waiting, next_local, primary_connection, with_primary_connection}
use Rattle.model.specs.PrimarySteps.{close_primary, closing, copying, faulted, follows, is_unfinished, local_done, local_fault, open_primary, open_tests}
use Rattle.model.specs.PrimarySteps.{opened}
use Rattle.model.specs.PrimarySteps.{resync_fault, resync_next, resync_tests, send, send_tests, sending, submit, submit_tests, submitted, succeeding}
use Rattle.model.specs.PrimarySteps.{take_completed}
use Rattle.model.specs.PrimarySteps.{with_outcome}
use Rattle.blocks.specs.declared.command.Command.TheVariants as command
use Rattle.model.specs.Acknowledgements.{Taken, ack_in, ack_in_tests, take_frame, taking}
use Rattle.model.specs.Refusals.{Test, done_with, first_refusal}
use Rattle.model.specs.Secondary.{SecondaryConnection, SecondaryHistory, is_drained, is_pending, items_taken, next_pending, pending, secondary_connection}
use Rattle.model.specs.Secondary.{with_secondary_connection}
use Rattle.model.specs.SecondarySteps.{Checked, applying, failing, peer, peer_fault, ack_out, ack_out_tests, answering_with, checking, checking_hello}
use Rattle.model.specs.SecondarySteps.{checking_item, close_secondary, has_earlier, is_pending_at, open_secondary}
use Rattle.model.specs.SecondarySteps.{opened_secondary, receive, receive_tests, succeeding_secondary, take_item}
use Rattle.laws.proofs.Lists.Picks.{any-pick, pick-filtered, pick-found}
use Rattle.laws.proofs.Streams.Places.{placed-back}
use Rattle.laws.proofs.Rules.DiskTurns.{none-before}
use Rattle.laws.proofs.Primary.Moves.{pushing, with_frame}
use Rattle.laws.proofs.Rules.Hellos.{checking-is, hello-has, refused-frame-so}
use Rattle.laws.proofs.Rules.RefusedFrames.{frame-has}
use Rattle.laws.proofs.Rules.RefusedFrames as frame-taken
use Rattle.laws.proofs.Rules.Receipts.{receipt-or-refusal}
use Rattle.laws.proofs.Rules.TakenItems.{item-has}
use Rattle.laws.proofs.Secondary.Moves.{framed}
use Rattle.laws.proofs.Pair.Refused.{IsOtherTaken, taking-other}

-- A reply refuses only so.
abbrev pub RefusesSo : (Refusal → Bool) → Reply → Type 0
RefusesSo so one = (e : Refusal) → one ≡ reply.Refused e → so e ≡ true

-- each test's refusal is such a one
abbrev are_so : (Refusal → Bool) → List Test → Bool
are_so so tests = list_all (λ (test : Test). so test.1) tests

-- what is no refusal
done-so : (so : Refusal → Bool) (done : _) → RefusesSo so (reply.Ok done)
done-so so done e is = absurd (cc)

refused-so : (so : Refusal → Bool) (first : Refusal) → so first ≡ true → RefusesSo so (reply.Refused first)
refused-so so first is e same = let one : first ≡ e = cc in ap so (sym one) ∙ is

-- the first test that holds
first-so : (so : Refusal → Bool) (tests : List Test) → are_so so tests ≡ true → (e : Refusal) → first_refusal tests ≡ Some e → so e ≡ true
first-so so [] all e is = absurd (cc)
first-so so ((true, one) ∷ tests) all e is = let same : one ≡ e = cc in ap so (sym same) ∙ (and_parts (so one) (are_so so tests) all).0
first-so so ((false, one) ∷ tests) all e is = first-so so tests (and_parts (so one) (are_so so tests) all).1 e is

-- a step by its tests, and by what it does after them
tests-so : {X : Type 0} (so : Refusal → Bool) (tests : List Test) (h : X) (done : Unit {0} → Reply × X) → are_so so tests ≡ true → RefusesSo so (done tt).0
    → RefusesSo so (elim (first_refusal tests) as (λ _. Reply × X) [ Some first ↦ (reply.Refused first, h) | None ↦ done tt ]).0
tests-so {X} so tests h done all rest = go (first_refusal tests) refl
  where
    go : (v : Option Refusal) → first_refusal tests ≡ v
        → RefusesSo so (elim v as (λ _. Reply × X) [ Some first ↦ (reply.Refused first, h) | None ↦ done tt ]).0
    go (Some first) is = refused-so so first (first-so so tests all first is)
    go None is = rest

-- A primary.

pub submit-so : (first : ℕ) (contents : List (List ℕ)) (out_of_memory : Bool) (h : PrimaryHistory)
    → RefusesSo submit_refuses (submit first contents out_of_memory h).0
submit-so first contents out_of_memory h = tests-so submit_refuses (submit_tests h first contents out_of_memory) h
    (λ _. succeeding (what.Write (suc (length h.writes))) (submitted h first contents)) refl (done-so _ _)

pub opens-so : (sync loss : ℕ) (out_of_memory : Bool) (h : PrimaryHistory) → RefusesSo reopen_refuses (open_primary sync loss out_of_memory h).0
opens-so sync loss out_of_memory h = tests-so reopen_refuses (open_tests h sync loss out_of_memory) h
    (λ _. succeeding what.Nothing (opened h sync loss)) refl (done-so _ _)

pub send-so : (room out_of_memory : Bool) (h : PrimaryHistory) → RefusesSo send_refuses (send room out_of_memory h).0
send-so room out_of_memory h = tests-so send_refuses (send_tests h room out_of_memory) h
    (λ _. succeeding (sending h) (with_primary_connection pushing h)) refl (done-so _ _)

pub resync-so : (read : Option (List ℕ)) (out_of_memory : Bool) (h : PrimaryHistory) → RefusesSo resync_next_refuses (resync_next read out_of_memory h).0
resync-so read out_of_memory h = tests-so resync_next_refuses (resync_tests h out_of_memory) h (λ _. elim (free_block h) as (λ _. Reply × PrimaryHistory) [
  | None ↦ (reply.Refused refusal.NothingToDo, h)
  | Some block ↦ succeeding (what.Block (record { 0 = block }) (length (primary_connection h).stream))
      (copying read block h)
]) refl (go (free_block h))
  where
    go : (v : Option ℕ) → RefusesSo resync_next_refuses (elim v as (λ _. Reply × PrimaryHistory) [
      | None ↦ (reply.Refused refusal.NothingToDo, h)
      | Some block ↦ succeeding (what.Block (record { 0 = block }) (length (primary_connection h).stream)) (copying read block h)
    ]).0
    go None = refused-so _ _ refl
    go (Some block) = done-so _ _

pub resync-fault-so : (out_of_memory : Bool) (h : PrimaryHistory) → RefusesSo resync_next_refuses (resync_fault out_of_memory h).0
resync-fault-so out_of_memory h = tests-so resync_next_refuses (resync_tests h out_of_memory) h (λ _. (reply.Refused refusal.ReadFault, h))
    refl (refused-so _ _ refl)

-- a close is refused at a closed end alone
pub closes-so : (h : PrimaryHistory) (e : Refusal) → (close_primary h).0 ≡ reply.Refused e → e ≡ refusal.NotConnected
closes-so h = go (primary_connection h).closed
  where
    go : (closed : Bool) (e : Refusal)
        → (elim (first_refusal ((closed, refusal.NotConnected) ∷ [])) as (λ _. Reply × PrimaryHistory) [
          | Some first ↦ (reply.Refused first, h)
          | None ↦ let after = follows (closing h) in (reply.Closed (length after.completed), after.history)
        ]).0 ≡ reply.Refused e → e ≡ refusal.NotConnected
    go true e is = cc
    go false e is = absurd (cc)

-- a receipt
pub receipt-so : (number : ℕ) (h : PrimaryHistory) (e : Refusal) → (take_completed number h).0 ≡ Err e → take_completed_refuses e ≡ true
receipt-so number h = receipt-or-refusal (λ r. (e : Refusal) → r ≡ Err e → take_completed_refuses e ≡ true) number h
    (λ e is. let one : refusal.UnknownJob ≡ e = cc in ap take_completed_refuses (sym one))
    (λ e is. let one : refusal.NotCompleted ≡ e = cc in ap take_completed_refuses (sym one))
    (λ e is. let one : refusal.LocalFault ≡ e = cc in ap take_completed_refuses (sym one)) (λ entry e is. absurd (cc))

-- The frame that a primary takes.

-- what taking a frame leads to
abbrev IsSoTaken : Taken → Type 0
IsSoTaken (Ok done) = Unit {0}
IsSoTaken (Err error) = ack_in_refuses error.0 ≡ true

-- a packet
so-taken : (v : Taken) → IsOtherTaken v → IsSoTaken v
so-taken (Ok done) other = tt
so-taken (Err error) other = refused-frame-so error.0 other

pub ack-in-so : (frame : Option Received) (out_of_memory : Bool) (h : PrimaryHistory)
    → ((fault : Refusal) → frame ≡ Some (Err fault) → ack_in_refuses fault ≡ true)
    → RefusesSo ack_in_refuses (ack_in frame out_of_memory h).0
ack-in-so frame out_of_memory h faults = tests-so ack_in_refuses (ack_in_tests h frame out_of_memory) h (λ _. elim frame as (λ _. Reply × PrimaryHistory) [
  | None ↦ (reply.Refused refusal.NothingThere, h)
  | Some taken ↦ take_frame taken h
]) refl (go frame faults)
  where
    by : (taken : Received) → ((fault : Refusal) → taken ≡ Err fault → ack_in_refuses fault ≡ true)
        → IsSoTaken (taking taken h (with_primary_connection (with_frame taken) h))
    by (Err fault) is = is fault refl
    by (Ok packet) is = so-taken (taking (Ok packet) h (with_primary_connection (with_frame (Ok packet)) h))
        (taking-other packet h (with_primary_connection (with_frame (Ok packet)) h))

    go : (v : Option Received) → ((fault : Refusal) → v ≡ Some (Err fault) → ack_in_refuses fault ≡ true)
        → RefusesSo ack_in_refuses (elim v as (λ _. Reply × PrimaryHistory) [
          | None ↦ (reply.Refused refusal.NothingThere, h)
          | Some taken ↦ take_frame taken h
        ]).0
    go None is = refused-so _ _ refl
    go (Some taken) is = frame-has (λ r. RefusesSo ack_in_refuses r.0) IsSoTaken taken h (by taken (λ fault same. is fault (ap Some same)))
        (λ done so. done-so _ _) (λ error so. refused-so _ _ so)

-- A secondary.

pub opens-too-so : (unseen : ℕ) (h : SecondaryHistory) (e : Refusal) → (open_secondary unseen h).0 ≡ reply.Refused e → e ≡ refusal.NotDrained
opens-too-so unseen h = go (not ((secondary_connection h).closed && is_drained h))
  where
    go : (busy : Bool) (e : Refusal)
        → (elim (first_refusal ((busy, refusal.NotDrained) ∷ [])) as (λ _. Reply × SecondaryHistory) [
          | Some first ↦ (reply.Refused first, h)
          | None ↦ succeeding_secondary what.Nothing (opened_secondary unseen h)
        ]).0 ≡ reply.Refused e → e ≡ refusal.NotDrained
    go true e is = cc
    go false e is = absurd (cc)

pub closes-too-so : (h : SecondaryHistory) (e : Refusal) → (close_secondary h).0 ≡ reply.Refused e → e ≡ refusal.NotConnected
closes-too-so h = go (secondary_connection h).closed
  where
    go : (closed : Bool) (e : Refusal)
        → (elim (first_refusal ((closed, refusal.NotConnected) ∷ [])) as (λ _. Reply × SecondaryHistory) [
          | Some first ↦ (reply.Refused first, h)
          | None ↦ (reply.Ok (done_with what.Nothing), with_secondary_connection (λ c. record c { closed = true }) h)
        ]).0 ≡ reply.Refused e → e ≡ refusal.NotConnected
    go true e is = cc
    go false e is = absurd (cc)

pub ack-out-so : (room out_of_memory : Bool) (h : SecondaryHistory) → RefusesSo send_refuses (ack_out room out_of_memory h).0
ack-out-so room out_of_memory h = tests-so send_refuses (ack_out_tests h room out_of_memory) h
    (λ _. (reply.Ok (done_with (answering_with h)), with_secondary_connection (λ c. record c { pushed = suc c.pushed }) h)) refl
    (done-so _ _)

-- The frame that a secondary takes.

-- what taking a frame leads to
abbrev IsSoChecked : Checked → Type 0
IsSoChecked (Ok done) = Unit {0}
IsSoChecked (Err refusal) = receive_refuses refusal ≡ true

-- a packet, of the hello or an item
so-checked : (packet : Packet) (c : SecondaryConnection) (h : SecondaryHistory) → IsSoChecked (checking (Ok packet) c h)
so-checked packet c h = go (nat_lt (length c.taken) 3)
  where
    hello : IsSoChecked (checking_hello (length c.taken) packet h)
    hello = subst IsSoChecked (checking-is (length c.taken) packet h)
        (hello-has {R = Checked} IsSoChecked (λ name. Ok (name, h)) (λ e. Err e) (λ peer. Ok (what.Frame command.Uuids None, h)) h.settings (length c.taken) packet
        (λ asked none of same. tt) (λ one of. tt) (λ m peer late of. tt) refl refl refl)

    go : (early : Bool) → IsSoChecked
        (elim early as (λ _. Checked) [ true ↦ checking_hello (length c.taken) packet h | false ↦ checking_item packet (length (items_taken c)) c h ])
    go true = hello
    go false = item-has IsSoChecked (λ done. tt) refl refl packet (length (items_taken c)) c h

pub receive-so : (frame : Option Received) (out_of_memory : Bool) (h : SecondaryHistory)
    → ((fault : Refusal) → frame ≡ Some (Err fault) → receive_refuses fault ≡ true)
    → RefusesSo receive_refuses (receive frame out_of_memory h).0
receive-so frame out_of_memory h faults = tests-so receive_refuses (receive_tests h frame out_of_memory) h (λ _. elim frame as (λ _. Reply × SecondaryHistory) [
  | None ↦ (reply.Refused refusal.NothingThere, h)
  | Some taken ↦ take_item taken h
]) refl (go frame faults)
  where
    by : (taken : Received) → ((fault : Refusal) → taken ≡ Err fault → receive_refuses fault ≡ true)
        → IsSoChecked (checking taken (secondary_connection h) (with_secondary_connection (framed taken) h))
    by (Err fault) is = is fault refl
    by (Ok packet) is = so-checked packet (secondary_connection h) (with_secondary_connection (framed (Ok packet)) h)

    go : (v : Option Received) → ((fault : Refusal) → v ≡ Some (Err fault) → receive_refuses fault ≡ true)
        → RefusesSo receive_refuses (elim v as (λ _. Reply × SecondaryHistory) [
          | None ↦ (reply.Refused refusal.NothingThere, h)
          | Some taken ↦ take_item taken h
        ]).0
    go None is = refused-so _ _ refl
    go (Some taken) is = frame-taken.item-has (λ r. RefusesSo receive_refuses r.0) IsSoChecked taken h (by taken (λ fault same. is fault (ap Some same)))
        (λ done so. done-so _ _) (λ e so. refused-so _ _ so)

-- What the disk is given is refused by no test.

-- the lowest write that waits
pub next-unfinished : (h : PrimaryHistory) (number : ℕ) → next_local h ≡ Some number → is_unfinished h number ≡ true
next-unfinished h number is = go (find (λ (a : Accepted). is_waiting a.outcome) h.writes) refl is
  where
    go : (v : Option Accepted) → find (λ (a : Accepted). is_waiting a.outcome) h.writes ≡ v → option_map (λ (a : Accepted). a.write.number) v ≡ Some number
        → is_unfinished h number ≡ true
    go None found none = absurd (cc)
    go (Some a) found some =
        let at = pick-found (λ (x : Accepted). is_waiting x.outcome) h.writes a found in
        let same : a.write.number ≡ number = cc in
        any-pick (λ (x : Accepted). (x.write.number == number) && is_waiting x.outcome) h.writes at.0 a at.1
        (and_from (a.write.number == number) (is_waiting a.outcome) (eq-eqb a.write.number number same) at.2)

pub done-next : (number : ℕ) (h : PrimaryHistory) (e : Refusal) → next_local h ≡ Some number → (local_done number h).0 ≡ reply.Refused e → ⊥
done-next number h e next = go (is_unfinished h number) (next-unfinished h number next)
  where
    go : (b : Bool) → b ≡ true → (elim (first_refusal ((not b, refusal.UnknownJob) ∷ [])) as (λ _. Reply × PrimaryHistory) [
      | Some first ↦ (reply.Refused first, h)
      | None ↦ succeeding what.Nothing (releasing h (with_outcome number OnDisk h))
    ]).0 ≡ reply.Refused e → ⊥
    go true is refused = cc
    go false is refused = absurd (cc)

pub failed-next : (number : ℕ) (offsets : List ℕ) (h : PrimaryHistory) (e : Refusal) → next_local h ≡ Some number
    → (local_fault number offsets h).0 ≡ reply.Refused e → ⊥
failed-next number offsets h e next = go (is_unfinished h number) (next-unfinished h number next)
  where
    go : (b : Bool) → b ≡ true → (elim (first_refusal ((not b, refusal.UnknownJob) ∷ [])) as (λ _. Reply × PrimaryHistory) [
      | Some first ↦ (reply.Refused first, h)
      | None ↦ succeeding what.Nothing (faulted number offsets h)
    ]).0 ≡ reply.Refused e → ⊥
    go true is refused = cc
    go false is refused = absurd (cc)

-- of a list of items with their places, the first that passes has the lowest place
first-lowest : (p : ℕ × StreamItem → Bool) (start : ℕ) (items : List StreamItem) (n : ℕ) (x y : ℕ × StreamItem)
    → slice_get (filter p (placed_from start items)) 0 ≡ Some x → slice_get (filter p (placed_from start items)) n ≡ Some y → x.0 ≤ y.0
first-lowest p start [] n x y first other = absurd (cc)
first-lowest p start (item ∷ items) n x y first other = go (λ m before at. first-lowest p (suc start) items m x y before at) (p (start, item)) first n other
  where
    later : (m : ℕ) → slice_get (filter p (placed_from (suc start) items)) m ≡ Some y → start ≤ y.0
    later m at =
        let there = pick-filtered p (placed_from (suc start) items) m y at in
        let place = (placed-back (suc start) items there.0 y there.1).0 in
        omega arith

    go : ((m : ℕ) → slice_get (filter p (placed_from (suc start) items)) 0 ≡ Some x → slice_get (filter p (placed_from (suc start) items)) m ≡ Some y → x.0 ≤ y.0)
        → (b : Bool) → slice_get (if b then (start, item) ∷ filter p (placed_from (suc start) items) else filter p (placed_from (suc start) items)) 0 ≡ Some x → (m : ℕ)
        → slice_get (if b then (start, item) ∷ filter p (placed_from (suc start) items) else filter p (placed_from (suc start) items)) m ≡ Some y → x.0 ≤ y.0
    go rest true is zero at = let one : (start, item) ≡ x = cc in let two : (start, item) ≡ y = cc in
        let low = ap (λ (e : ℕ × StreamItem). e.0) one in let same = ap (λ (e : ℕ × StreamItem). e.0) two in omega arith
    go rest true is (suc m) at = let one : (start, item) ≡ x = cc in let low = ap (λ (e : ℕ × StreamItem). e.0) one in let high = later m at in omega arith
    go rest false is m at = rest m is at

-- epochs rise with the places
epoch-rises : (items : List StreamItem) (place later : ℕ) → place ≤ later → epoch_of items place ≤ epoch_of items later
epoch-rises items place later least = let n = go items place later least in omega arith
  where
    go : (items : List StreamItem) (place later : ℕ) → place ≤ later → barriers_in (take place items) ≤ barriers_in (take later items)
    go items zero later before = omega arith
    go [] (suc place) later before = omega arith
    go (x ∷ items) (suc place) zero before = absurd (omega arith)
    go (x ∷ items) (suc place) (suc later) before = by (is_barrier x) (go items place later (omega arith))
      where
        by : (b : Bool) → barriers_in (take place items) ≤ barriers_in (take later items)
            → length (cond b (x ∷ filter is_barrier (take place items)) (filter is_barrier (take place items))) ≤ length
            (cond b (x ∷ filter is_barrier (take later items)) (filter is_barrier (take later items)))
        by true less = omega arith
        by false less = less

-- the lowest pending item is of no later epoch than any other that is pending
next-first : (h : SecondaryHistory) (place : ℕ) → next_pending h ≡ Some place
    → (is_pending_at (secondary_connection h) place ≡ true) × (has_earlier (secondary_connection h) place ≡ false)
next-first h place is = go (slice_get (pending (secondary_connection h)) 0) refl is
  where
    items : List StreamItem
    items = items_taken (secondary_connection h)

    go : (v : Option (ℕ × StreamItem)) → slice_get (pending (secondary_connection h)) 0 ≡ v → option_map (λ (e : ℕ × StreamItem). e.0) v ≡ Some place
        → (is_pending_at (secondary_connection h) place ≡ true) × (has_earlier (secondary_connection h) place ≡ false)
    go None first none = absurd (cc)
    go (Some entry) first some =
        let same : entry.0 ≡ place = cc in (
          any-pick (λ (e : ℕ × StreamItem). e.0 == place) (pending (secondary_connection h)) 0 entry first (eq-eqb entry.0 place same),
          none-before (secondary_connection h) place (λ n other at.
              let lowest = first-lowest (is_pending (secondary_connection h)) 0 (items_taken (secondary_connection h)) n entry other first at in
              epoch-rises items place other.0 (omega arith)),
        )

applied-by : (done : SecondaryHistory → Reply × SecondaryHistory) (h : SecondaryHistory) (place : ℕ) (pending earlier : Bool) (e : Refusal) → pending ≡ true
    → earlier ≡ false → ((first : Refusal) → (done h).0 ≡ reply.Refused first → ⊥)
    → (elim (first_refusal ((not pending, refusal.UnknownJob) ∷ (earlier, refusal.EpochOpen) ∷ [])) as (λ _. Reply × SecondaryHistory)
    [ Some first ↦ (reply.Refused first, h) | None ↦ done h ]).0 ≡ reply.Refused e → ⊥
applied-by done h place true true e waits first never = absurd (cc)
applied-by done h place true false e waits first never = never e
applied-by done h place false earlier e waits first never = absurd (cc)

pub applies-next : (place : ℕ) (h : SecondaryHistory) (e : Refusal) → next_pending h ≡ Some place → (peer place h).0 ≡ reply.Refused e → ⊥
applies-next place h e is = let may = next-first h place is in
    applied-by (λ h. succeeding_secondary what.Nothing (with_secondary_connection (applying h.settings.protocol place) h)) h place
    (is_pending_at (secondary_connection h) place) (has_earlier (secondary_connection h) place) e may.0 may.1 (λ first no. absurd (cc))

pub fails-next : (place : ℕ) (offsets : List ℕ) (h : SecondaryHistory) (e : Refusal) → next_pending h ≡ Some place
    → (peer_fault place offsets h).0 ≡ reply.Refused e → ⊥
fails-next place offsets h e is = let may = next-first h place is in
    applied-by (λ h. (reply.Ok (done_with what.Nothing), with_secondary_connection (failing place offsets) h)) h place
    (is_pending_at (secondary_connection h) place) (has_earlier (secondary_connection h) place) e may.0 may.1 (λ first no. absurd (cc))
