-- The local disk does a write, or fails it.
use Rattle.std.proofs.Common.{ℕ, ◌≡◌, Bool, true, false, not, ◌&&◌, List, [], ◌∷◌, Option, Some, None, slice_get, Ok, refl, sym, ◌∙◌, ap, subst, arith}
use Rattle.std.proofs.Common.{◌==◌}
use Rattle.std.specs.Prelude.{find, is_some, option_map, if◌then◌else◌}
use Rattle.std.specs.List.{list_any}
use Rattle.std.proofs.lemmas.Bool.{both_ways, and_parts, and_from, not-false, eqb-true, false_from_ne_true}
use Rattle.blocks.specs.declared.settings.Settings.{Settings}
use Rattle.blocks.specs.declared.refusal.Refusal.TheVariants.{UnknownJob}
use Rattle.blocks.specs.declared.outcome.What.TheVariants as what
use Rattle.blocks.specs.declared.outcome.Reply.TheVariants as reply
use Rattle.model.specs.Marks.{releasing}
use Rattle.model.specs.Primary.{LocalOutcome, Waiting, OnDisk, Failed, Accepted, PrimaryHistory, is_waiting, is_failed, is_alone}
use Rattle.model.specs.Primary.{is_confirmed, is_released, completes, unreleased}
use Rattle.model.specs.PrimarySteps as step
use Rattle.model.specs.PrimarySteps.{is_unfinished, set_outcome, with_outcome}
use Rattle.transferlog.specs.Log as log
use Rattle.transferlog.specs.Log.{changing}
use Rattle.transferlog.specs.Ring.{on, has_number, write_at}
use Rattle.transferlog.specs.Writes as writes
use Rattle.transferlog.specs.Writes.{LogWrite}
use Rattle.laws.proofs.Rules.Completions.{completes-parts, completes-by}
use Rattle.laws.proofs.Rules.EpochEnds.{TakesWrites}
use Rattle.laws.proofs.Lists.Elements.{same-at}
use Rattle.laws.proofs.Lists.Last.{change-none}
use Rattle.laws.proofs.Lists.Tests.{test-passed}
use Rattle.laws.proofs.Lists.Picks.{pick-any, any-pick, pick-found, pick-filtered, filtered-pick}
use Rattle.laws.proofs.Primary.Homes.{HasHomes, outcome-write, outcome-home}
use Rattle.laws.proofs.Releases.InOrderMoves.{Ordered, OrderedAfter, in-order-kept}
use Rattle.laws.proofs.Releases.Cleared.{done-releases}
use Rattle.laws.proofs.Releases.Runs.{ordered-release}
use Rattle.primary_protocol.specs.Core as core
use Rattle.primary_protocol.specs.Core.{PrimaryState}
use Rattle.primary_protocol.specs.Transitions as transition
use Rattle.primary_protocol.specs.Leaves.{logged_of, marks_in, Leaves}
use Rattle.primary_protocol.specs.Steps.{WritesAgree}
use Rattle.primary_protocol.proofs.Common.OneWriteLeaves.{change-due, entries-stay, held-stays}
use Rattle.primary_protocol.proofs.Common.OneWrite.{IsChange, released-is, log-then}
use Rattle.primary_protocol.proofs.Common.Filters.{find-map}
use Rattle.primary_protocol.proofs.Common.Following.{IsDue, follow}
use Rattle.primary_protocol.proofs.Common.Reached.{reached-ordered, from-follow, tested-agrees}
use Rattle.primary_protocol.proofs.Common.Marks.{unmarking-is}
use Rattle.primary_protocol.proofs.Common.Numbers.{any-some}
use Rattle.primary_protocol.proofs.Common.Reporting.{reports-of}
use Rattle.primary_protocol.proofs.Common.WriteStates.{waiting-seen}
use Rattle.laws.proofs.Rules.Releases.{held-waiting}

-- What is known of the write that the disk has to do.
pub record Waits (s : PrimaryState) (h : PrimaryHistory) (number : ℕ) : Type 0 where
  pub index : ℕ
  pub accepted : Accepted
  pub at : slice_get h.writes index ≡ Some accepted
  pub number_is : accepted.write.number ≡ number
  pub waits : is_waiting accepted.outcome ≡ true
  pub logged : write_at number s.log.writes ≡ Some (logged_of h accepted)

module _ (s : PrimaryState) (h : PrimaryHistory) (number : ℕ) (left : Leaves s h) (homes : HasHomes h) where
  abbrev named : Accepted → Bool
  named a = a.write.number == number

  -- two accepted writes of the number are one
  pub one : (i j : ℕ) (a b : Accepted) → slice_get h.writes i ≡ Some a → slice_get h.writes j ≡ Some b → a.write.number ≡ b.write.number → a ≡ b
  one i j a b ata atb same =
      let na = homes.numbered i a ata in
      let nb = homes.numbered j b atb in
      let index : i ≡ j = omega arith in
      same-at h.writes j a b (subst (λ n. slice_get h.writes n ≡ Some a) index ata) atb

  -- what the log finds of the number
  pub found-is : write_at number s.log.writes ≡ option_map (logged_of h) (find named (unreleased h))
  found-is = ap (find (has_number number)) left.rest.log.writes ∙ find-map (has_number number) (logged_of h) (unreleased h)

  pub waits-so : is_unfinished h number ≡ true → Waits s h number
  waits-so unfinished =
      let some = pick-any (λ accepted. (accepted.write.number == number) && is_waiting accepted.outcome) h.writes unfinished in
      let parts = and_parts (some.1.write.number == number) (is_waiting some.1.outcome) some.3 in
      let held = filtered-pick (λ a. not (is_released h a)) h.writes some.0 some.1 some.2 (ap not (held-waiting h some.1 parts.1)) in
      record {
        index = some.0;
        accepted = some.1;
        at = some.2;
        number_is = eqb-true some.1.write.number number parts.0;
        waits = parts.1;
        logged = found-is ∙ go some.0 some.1 some.2 (eqb-true some.1.write.number number parts.0) (find named (unreleased h)) refl
            (any-pick named (unreleased h) held.0 some.1 held.1 parts.0);
      }
    where
      go : (i : ℕ) (a : Accepted) → slice_get h.writes i ≡ Some a → a.write.number ≡ number → (v : Option Accepted) → find named (unreleased h) ≡ v
          → list_any named (unreleased h) ≡ true → option_map (logged_of h) v ≡ Some (logged_of h a)
      go i a at number_is None none some = absurd (both_ways (list_any named (unreleased h)) (any-some named (unreleased h) ∙ ap is_some none) some)
      go i a at number_is (Some b) found some =
          let there = pick-found named (unreleased h) b found in
          let stood = pick-filtered (λ x. not (is_released h x)) h.writes there.0 b there.1 in
          ap (λ (x : Accepted). Some (logged_of h x)) (one stood.0 i b a stood.1 at (eqb-true b.write.number number there.2 ∙ sym number_is))

  -- the log says the same of it
  pub unfinished-same : transition.is_unfinished number s ≡ is_unfinished h number
  unfinished-same = go (is_unfinished h number) refl
    where
      looked : Option LogWrite → Bool
      looked v = elim v [ None ↦ false | Some w ↦ writes.is_waiting w ]

      go : (b : Bool) → is_unfinished h number ≡ b → transition.is_unfinished number s ≡ is_unfinished h number
      go true is = let w = waits-so is in ap looked w.logged ∙ (waiting-seen h w.accepted ∙ (w.waits ∙ sym is))
      go false is = ap looked found-is ∙ (by (find named (unreleased h)) refl ∙ sym is)
        where
          by : (v : Option Accepted) → find named (unreleased h) ≡ v → looked (option_map (logged_of h) v) ≡ false
          by None none = refl
          by (Some b) found = waiting-seen h b ∙ false_from_ne_true (is_waiting b.outcome) (λ waits.
              let there = pick-found named (unreleased h) b found in
              let stood = pick-filtered (λ x. not (is_released h x)) h.writes there.0 b there.1 in
              both_ways (is_unfinished h number) is
              (any-pick (λ accepted. (accepted.write.number == number) && is_waiting accepted.outcome) h.writes stood.0 b stood.1
              (and_from (b.write.number == number) (is_waiting b.outcome) there.2 waits)))

-- The disk does it.

module _ (settings : Settings) (bound : TakesWrites settings) (s : PrimaryState) (h : PrimaryHistory) (number : ℕ) (left : Leaves s h)
    (ordered : Ordered settings h) (unfinished : is_unfinished h number ≡ true) where
  after : OrderedAfter settings (with_outcome number OnDisk h)
  after = (in-order-kept settings bound).writes h number unfinished ordered

  after-releasing : OrderedAfter settings (releasing h (with_outcome number OnDisk h))
  after-releasing = ordered-release settings h (with_outcome number OnDisk h) (done-releases h number ordered.1.1.0.0) ordered after

  the : Waits s h number
  the = waits-so s h number left ordered.1.1.0.0 unfinished

  done-logged : (a : Accepted) → logged_of (releasing h (with_outcome number OnDisk h)) (set_outcome number OnDisk a) ≡ on number writes.storing (logged_of h a)
  done-logged a = elim (a.write.number == number) as (λ b. logged_of (releasing h (with_outcome number OnDisk h)) (if b then record a { outcome = OnDisk }
      else a) ≡ (if b then writes.storing (logged_of h a) else logged_of h a)) [ true ↦ refl | false ↦ refl ]

  -- of a test that sees the outcome alone
  outcomes : (see : LocalOutcome → Bool) → see OnDisk ≡ false → (i : ℕ) (a : Accepted) → slice_get h.writes i ≡ Some a
      → (is_waiting a.outcome ≡ true → see a.outcome ≡ false) → see (set_outcome number OnDisk a).outcome ≡ see a.outcome
  outcomes see none i a at waiting = go (a.write.number == number) refl
    where
      go : (b : Bool) → (a.write.number == number) ≡ b → see (if b then record a { outcome = OnDisk } else a).outcome ≡ see a.outcome
      go false is = refl
      go true is =
          let same : a ≡ the.accepted = one s h number left ordered.1.1.0.0 i the.index a the.accepted at the.at (eqb-true a.write.number number is
          ∙ sym the.number_is) in
          none ∙ sym (waiting (ap (λ (x : Accepted). is_waiting x.outcome) same ∙ the.waits))

  done-change : IsChange h (releasing h (with_outcome number OnDisk h)) number writes.storing (set_outcome number OnDisk) (λ c. c)
  done-change = record {
    settings = refl;
    journal = refl;
    connections = sym (change-none h.connections);
    last = refl;
    writes = refl;
    write = λ a. outcome-write number OnDisk a;
    home = λ a. outcome-home number OnDisk a;
    logged = λ i a at. done-logged a;
    alone = λ i a at. elim (a.write.number == number) as (λ b. is_alone h (if b then record a { outcome = OnDisk } else a) ≡ is_alone h a)
        [ true ↦ refl | false ↦ refl ];
    confirmed = λ i a at. elim (a.write.number == number) as (λ b. is_confirmed h (if b then record a { outcome = OnDisk } else a) ≡ is_confirmed h a)
        [ true ↦ refl | false ↦ refl ];
    settled = λ i a at settled. elim (a.write.number == number) as (λ b. is_waiting (if b then record a { outcome = OnDisk } else a).outcome ≡ false)
        [ true ↦ refl | false ↦ settled ];
    failed = λ i a at failed. outcomes is_failed refl i a at (waiting-unfailed a.outcome) ∙ failed;
    completed = λ i a at completed. elim (a.write.number == number) as (λ b. completes h (if b then record a { outcome = OnDisk } else a) ≡ true) [
      | true ↦ completes-by h (record a { outcome = OnDisk }) refl (completes-parts h a completed).1
      | false ↦ completed
    ];
    stream = refl;
    closed = refl;
    begun = refl;
    acknowledged = λ epoch. refl;
    resynced = λ place item. refl;
    answered = λ asked place item is. is;
  }
    where
      waiting-unfailed : (o : LocalOutcome) → is_waiting o ≡ true → is_failed o ≡ false
      waiting-unfailed Waiting waits = refl
      waiting-unfailed OnDisk waits = refl
      waiting-unfailed (Failed offsets) waits = absurd (cc)

  pub done-due : IsDue (record s { log = (log.local_done number s.log).1 }) (log.local_done number s.log).0 (releasing h (with_outcome number OnDisk h))
  done-due =
      change-due s h (releasing h (with_outcome number OnDisk h)) number writes.storing (set_outcome number OnDisk) (λ c. c) left ordered.1.1.0.0 ordered.1.0
      ordered.1.1.0.1.on after-releasing.1.1.0.0 done-change
      s.entries s.held s.marks s.end refl refl refl
      (entries-stay s h (releasing h (with_outcome number OnDisk h)) number writes.storing (set_outcome number OnDisk) (λ c. c) left ordered.1.1.0.0 ordered.1.0
      ordered.1.1.0.1.on after-releasing.1.1.0.0 done-change unfailed refl)
      (held-stays s h (releasing h (with_outcome number OnDisk h)) number writes.storing (set_outcome number OnDisk) (λ c. c) left ordered.1.1.0.0 ordered.1.0
      ordered.1.1.0.1.on after-releasing.1.1.0.0 done-change unfailed)
      (ap (bits_unmarking) left.rest.marks ∙ marks)
      left.rest.end
    where
      bits_unmarking : List Bool → List Bool
      bits_unmarking = core.unmarking (changing number writes.storing s.log).1.released (changing number writes.storing s.log).1.last_writes

      waiting-unfailed : (o : LocalOutcome) → is_waiting o ≡ true → is_failed o ≡ false
      waiting-unfailed Waiting waits = refl
      waiting-unfailed OnDisk waits = refl
      waiting-unfailed (Failed offsets) waits = absurd (cc)

      unfailed : (i : ℕ) (a : Accepted) → slice_get h.writes i ≡ Some a → is_failed (set_outcome number OnDisk a).outcome ≡ is_failed a.outcome
      unfailed i a at = outcomes is_failed refl i a at (waiting-unfailed a.outcome)

      marks : core.unmarking (changing number writes.storing s.log).1.released (changing number writes.storing s.log).1.last_writes
          (marks_in h.settings.blocks h.marks) ≡ marks_in h.settings.blocks (releasing h (with_outcome number OnDisk h)).marks
      marks =
          unmarking-is settings h (with_outcome number OnDisk h) (changing number writes.storing s.log).1.released
          (changing number writes.storing s.log).1.last_writes ordered after.1.1.0.0 after.1.0 (done-releases h number ordered.1.1.0.0)
          (reports-of h (with_outcome number OnDisk h) (set_outcome number OnDisk) (changing number writes.storing s.log).1.released
          (released-is s h (releasing h (with_outcome number OnDisk h)) number writes.storing (set_outcome number OnDisk)
          (λ c. c) left ordered.1.1.0.0 ordered.1.0 done-change) refl (outcome-write number OnDisk))
          h.settings.blocks h.marks
          (log-then s h (releasing h (with_outcome number OnDisk h)) number writes.storing (set_outcome number OnDisk) (λ c. c) left ordered.1.1.0.0 ordered.1.0
          done-change).last_writes

-- the local disk does a write
pub writes-agree : WritesAgree
writes-agree number s h reached left =
    let known = reached-ordered h reached in
    tested-agrees reply.Ok s h ((not (transition.is_unfinished number s), UnknownJob) ∷ []) ((not (is_unfinished h number), UnknownJob) ∷ [])
    (λ _. (Ok (transition.logged what.Nothing (log.local_done number s.log) s).0, (transition.logged what.Nothing (log.local_done number s.log) s).1))
    (λ _. step.succeeding what.Nothing (releasing h (with_outcome number OnDisk h)))
    (ap (λ b. (not b, UnknownJob) ∷ []) (unfinished-same s h number left known.ordered.1.1.0.0)) left
    (λ none.
    let unfinished = not-false (is_unfinished h number) (test-passed (not (is_unfinished h number)) UnknownJob [] none).0 in
    from-follow _ _ (follow (record s { log = (log.local_done number s.log).1 }) (log.local_done number s.log).0 (releasing h (with_outcome number OnDisk h))
    (done-due known.settings known.bound s h number left known.ordered unfinished) what.Nothing))
