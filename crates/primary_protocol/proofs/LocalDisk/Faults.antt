-- The local disk fails a write.
use Rattle.std.proofs.Common.{ℕ, suc, ◌≡◌, ◌+◌, Bool, true, false, not, ◌&&◌, List, [], ◌∷◌, ◌++◌, length, map, filter, Option, Some, None, slice_get, Ok}
use Rattle.std.proofs.Common.{refl, sym, ◌∙◌, ap, subst, arith, ◌==◌}
use Rattle.std.specs.Prelude.{find, if◌then◌else◌}
use Rattle.std.proofs.lemmas.Bool.{both_ways, and_parts, not-false, eqb-true, eq-eqb, false_from_ne_true}
use Rattle.std.proofs.lemmas.List.Elements.{filter-append}
use Rattle.std.proofs.Math.Bool.{and-false, and-true}
use Rattle.blocks.specs.declared.settings.Settings.{Settings}
use Rattle.blocks.specs.declared.refusal.Refusal.TheVariants.{UnknownJob}
use Rattle.blocks.specs.declared.outcome.What.TheVariants as what
use Rattle.blocks.specs.declared.outcome.Reply.TheVariants as reply
use Rattle.blocks.specs.Ranges.{is_between}
use Rattle.model.specs.Stream.{StreamItem, within}
use Rattle.model.specs.Marks.{marking}
use Rattle.model.specs.Primary.{LocalOutcome, Waiting, OnDisk, Failed, Accepted, PrimaryHistory, primary_connection, is_waiting, is_on_disk, is_failed}
use Rattle.model.specs.Primary.{is_alone}
use Rattle.model.specs.Primary.{is_confirmed, is_released, is_completed, is_open, open_writes, completes, is_established, under_way}
use Rattle.model.specs.PrimarySteps as step
use Rattle.model.specs.PrimarySteps.{is_unfinished, set_outcome, with_outcome, accepted_at, faulted, faulted_by}
use Rattle.transferlog.specs.Log as log
use Rattle.transferlog.specs.Log.{changing}
use Rattle.transferlog.specs.Writes as writes
use Rattle.transferlog.specs.Writes.{LogWrite, released_of}
use Rattle.transferlog.specs.declared.report.Released.{Released}
use Rattle.overlap.specs.Holdings.{Holding, without}
use Rattle.bitmap.specs.Marks as bits
use Rattle.laws.proofs.Rules.Completions.{completes-parts}
use Rattle.laws.proofs.Rules.EpochEnds.{TakesWrites}
use Rattle.laws.proofs.Lists.Last.{change-none}
use Rattle.laws.proofs.Lists.Tests.{test-passed}
use Rattle.laws.proofs.Lists.Picks.{pick-filtered, pick-image}
use Rattle.laws.proofs.Primary.Homes.{HasHomes, outcome-write, outcome-home}
use Rattle.laws.proofs.Releases.InOrderMoves.{Ordered, OrderedAfter, in-order-kept}
use Rattle.primary_protocol.specs.Core as core
use Rattle.primary_protocol.specs.Core.{PrimaryState, with_entry}
use Rattle.primary_protocol.specs.Transitions as transition
use Rattle.primary_protocol.specs.Leaves.{logged_of, entry_of, holding_item, holding_write, held_of, marks_in, Leaves}
use Rattle.primary_protocol.specs.Steps.{Agrees, FaultsAgree}
use Rattle.primary_protocol.proofs.Common.OneWriteLeaves.{change-due}
use Rattle.primary_protocol.proofs.Common.OneWrite.{IsChange, released-is}
use Rattle.primary_protocol.proofs.Common.Filters.{filter-at, filter-map, filter-twice, filter-all, map-at, map-twice}
use Rattle.primary_protocol.proofs.Common.Following.{IsDue, follow}
use Rattle.primary_protocol.proofs.Common.Reached.{reached-ordered, from-follow, tested-agrees}
use Rattle.primary_protocol.proofs.Common.Marks.{unmarking-none, marking-in}
use Rattle.primary_protocol.proofs.Common.Numbers.{AreNumberedFrom, find-number, with-entry-map}
use Rattle.primary_protocol.proofs.LocalDisk.Writes.{Waits, one, waits-so, unfinished-same}

module _ (settings : Settings) (bound : TakesWrites settings) (s : PrimaryState) (h : PrimaryHistory) (number : ℕ) (offsets : List ℕ) (left : Leaves s h)
    (ordered : Ordered settings h) (unfinished : is_unfinished h number ≡ true) where
  homes : HasHomes h
  homes = ordered.1.1.0.0

  the : Waits s h number
  the = waits-so s h number left homes unfinished

  outcome : LocalOutcome
  outcome = Failed (within (length the.accepted.write.contents) offsets)

  from-one : AreNumberedFrom 1 h.writes
  from-one i a at = homes.numbered i a at ∙ omega arith

  -- the history's fault
  found : accepted_at h number ≡ Some the.accepted
  found =
      let index = homes.numbered the.index the.accepted the.at in
      let is = the.number_is in
      let place : number ≡ 1 + the.index = omega arith in
      ap (λ m. find (λ (x : Accepted). x.write.number == m) h.writes) place ∙ (find-number 1 the.index h.writes from-one ∙ the.at)

  faulted-is : faulted number offsets h ≡ with_outcome number (Failed (within (length the.accepted.write.contents) offsets))
      (record h { marks = marking the.accepted.write h.marks })
  faulted-is = ap (λ (v : Option Accepted). faulted_by v number offsets h) found

  -- the core's
  failing-is : transition.failing number s ≡ record s {
    entries = with_entry number (λ entry. record entry { fate = core.Failed }) s.entries;
    held = without number s.held;
    marks = bits.marking (is_between the.accepted.write.first (length the.accepted.write.contents)) s.marks;
  }
  failing-is = ap (λ (v : Option LogWrite). elim v as (λ _. PrimaryState) [
    | None ↦ s
    | Some w ↦ record s {
      entries = with_entry number (λ entry. record entry { fate = core.Failed }) s.entries;
      held = without number s.held;
      marks = bits.marking (is_between w.first w.count) s.marks;
    }
  ]) the.logged

  after : OrderedAfter settings (with_outcome number (Failed (within (length the.accepted.write.contents) offsets))
      (record h { marks = marking the.accepted.write h.marks }))
  after = subst (OrderedAfter settings) faulted-is ((in-order-kept settings bound).faults h number offsets unfinished ordered)

  -- the write of the number waits
  waits-at : (i : ℕ) (a : Accepted) → slice_get h.writes i ≡ Some a → (a.write.number == number) ≡ true → is_waiting a.outcome ≡ true
  waits-at i a at is =
      let same : a ≡ the.accepted = one s h number left homes i the.index a the.accepted at the.at (eqb-true a.write.number number is ∙ sym the.number_is) in
      ap (λ (x : Accepted). is_waiting x.outcome) same ∙ the.waits

  waiting-undone : (o : LocalOutcome) → is_waiting o ≡ true → is_on_disk o ≡ false
  waiting-undone Waiting waits = refl
  waiting-undone OnDisk waits = absurd (cc)
  waiting-undone (Failed offsets) waits = refl

  fault-change : IsChange h (with_outcome number (Failed (within (length the.accepted.write.contents) offsets))
      (record h { marks = marking the.accepted.write h.marks })) number writes.failing
      (set_outcome number (Failed (within (length the.accepted.write.contents) offsets))) (λ c. c)
  fault-change = record {
    settings = refl;
    journal = refl;
    connections = sym (change-none h.connections);
    last = refl;
    writes = refl;
    write = λ a. outcome-write number (Failed (within (length the.accepted.write.contents) offsets)) a;
    home = λ a. outcome-home number (Failed (within (length the.accepted.write.contents) offsets)) a;
    logged = λ i a at. elim (a.write.number == number) as
        (λ b. logged_of h (if b then record a { outcome = Failed (within (length the.accepted.write.contents) offsets) } else a) ≡ (if b
        then writes.failing (logged_of h a) else logged_of h a)) [ true ↦ refl | false ↦ refl ];
    alone = λ i a at. elim (a.write.number == number) as
        (λ b. is_alone h (if b then record a { outcome = Failed (within (length the.accepted.write.contents) offsets) } else a) ≡ is_alone h a)
        [ true ↦ refl | false ↦ refl ];
    confirmed = λ i a at. elim (a.write.number == number) as
        (λ b. is_confirmed h (if b then record a { outcome = Failed (within (length the.accepted.write.contents) offsets) } else a) ≡ is_confirmed h a)
        [ true ↦ refl | false ↦ refl ];
    settled = λ i a at settled. elim (a.write.number == number) as
        (λ b. is_waiting (if b then record a { outcome = Failed (within (length the.accepted.write.contents) offsets) } else a).outcome ≡ false)
        [ true ↦ refl | false ↦ settled ];
    failed = λ i a at failed. elim (a.write.number == number) as
        (λ b. is_failed (if b then record a { outcome = Failed (within (length the.accepted.write.contents) offsets) } else a).outcome ≡ true)
        [ true ↦ refl | false ↦ failed ];
    completed = λ i a at completed. completes-still i a at completed (a.write.number == number) refl;
    stream = refl;
    closed = refl;
    begun = refl;
    acknowledged = λ epoch. refl;
    resynced = λ place item. refl;
    answered = λ asked place item is. is;
  }
    where
      completes-still : (i : ℕ) (a : Accepted) → slice_get h.writes i ≡ Some a → completes h a ≡ true → (b : Bool) → (a.write.number == number) ≡ b
          → completes h (if b then record a { outcome = Failed (within (length the.accepted.write.contents) offsets) } else a) ≡ true
      completes-still i a at completed false is = completed
      completes-still i a at completed true is =
          absurd (both_ways (is_on_disk a.outcome) (waiting-undone a.outcome (waits-at i a at is))
          (completes-parts h a completed).0)

  -- what is released did not reach the disk
  clears-none : (n : ℕ) (r : Released) → slice_get (changing number writes.failing s.log).1.released n ≡ Some r → r.clears ≡ false
  clears-none n r at =
      let of = pick-image (λ a. released_of (logged_of h (set_outcome number (Failed (within (length the.accepted.write.contents) offsets)) a)))
      (filter (λ a. not (is_released h a) && is_released h (set_outcome number (Failed (within (length the.accepted.write.contents) offsets)) a)) h.writes)
      n r
      (subst (λ (rs : List Released). slice_get rs n ≡ Some r)
      (released-is s h (with_outcome number (Failed (within (length the.accepted.write.contents) offsets))
      (record h { marks = marking the.accepted.write h.marks })) number writes.failing
      (set_outcome number (Failed (within (length the.accepted.write.contents) offsets))) (λ c. c) left homes ordered.1.0 fault-change) at) in
      let stood = pick-filtered (λ a. not (is_released h a)
      && is_released h (set_outcome number (Failed (within (length the.accepted.write.contents) offsets)) a)) h.writes n of.0 of.1 in
      ap (λ (x : Released). x.clears) (sym of.2) ∙ go of.0 stood.2 (of.0.write.number == number) refl
    where
      go : (a : Accepted) → (not (is_released h a) && is_released h (set_outcome number (Failed (within (length the.accepted.write.contents) offsets)) a)) ≡
          true → (b : Bool) → (a.write.number == number) ≡ b
          → (released_of (logged_of h (set_outcome number (Failed (within (length the.accepted.write.contents) offsets)) a))).clears ≡ false
      go a passed true same = (λ j. (released_of
          (logged_of h (if same j then record a { outcome = Failed (within (length the.accepted.write.contents) offsets) } else a))).clears)
          ∙ and-false (not (is_alone h a))
      go a passed false same =
          let parts = and_parts (not (is_released h a)) (is_released h (set_outcome number (Failed (within (length the.accepted.write.contents) offsets)) a))
          passed in
          let now : is_released h a ≡ true =
          ap (λ b. is_released h (if b then record a { outcome = Failed (within (length the.accepted.write.contents) offsets) } else a)) (sym same)
          ∙ parts.1 in
          absurd (both_ways (not (is_released h a)) (ap not now) parts.0)

  -- the marks then
  marks-are : core.unmarking (changing number writes.failing s.log).1.released (changing number writes.failing s.log).1.last_writes
      (bits.marking (is_between the.accepted.write.first (length the.accepted.write.contents)) s.marks)
      ≡ marks_in h.settings.blocks (marking the.accepted.write h.marks)
  marks-are =
      ap (λ m. core.unmarking (changing number writes.failing s.log).1.released (changing number writes.failing s.log).1.last_writes
      (bits.marking (is_between the.accepted.write.first (length the.accepted.write.contents)) m)) left.rest.marks
      ∙ (ap (core.unmarking (changing number writes.failing s.log).1.released (changing number writes.failing s.log).1.last_writes)
      (marking-in h.settings.blocks (is_between the.accepted.write.first (length the.accepted.write.contents)) h.marks)
      ∙ unmarking-none (changing number writes.failing s.log).1.released (changing number writes.failing s.log).1.last_writes h.settings.blocks
      (marking the.accepted.write h.marks) clears-none)

  -- the entries then
  entries-are : with_entry number (λ entry. record entry { fate = core.Failed }) s.entries
      ≡ map (entry_of (with_outcome number (Failed (within (length the.accepted.write.contents) offsets))
      (record h { marks = marking the.accepted.write h.marks })))
      (map (set_outcome number (Failed (within (length the.accepted.write.contents) offsets))) h.writes)
  entries-are =
      let index = homes.numbered the.index the.accepted the.at in
      let is = the.number_is in
      let place : number ≡ suc the.index = omega arith in
      ap (λ m. with_entry m (λ entry. record entry { fate = core.Failed }) s.entries) place
      ∙ (ap (with_entry (suc the.index) (λ entry. record entry { fate = core.Failed })) left.rest.entries.entries
      ∙ (with-entry-map (entry_of h) (λ a. entry_of h (set_outcome number (Failed (within (length the.accepted.write.contents) offsets)) a))
      (λ entry. record entry { fate = core.Failed }) 1 the.index h.writes from-one
      (λ a named. sym (ap (λ b. entry_of h (if b then record a { outcome = Failed (within (length the.accepted.write.contents) offsets) } else a))
      (eq-eqb a.write.number number (omega arith))))
      (λ a other. sym (ap (λ b. entry_of h (if b then record a { outcome = Failed (within (length the.accepted.write.contents) offsets) } else a))
      (false_from_ne_true (a.write.number == number)
      (λ e. both_ways (a.write.number == (1 + the.index)) other
      (let n = eqb-true a.write.number number e in eq-eqb a.write.number (1 + the.index) (omega arith))))))
      ∙ sym (map-twice (entry_of h) (set_outcome number (Failed (within (length the.accepted.write.contents) offsets))) h.writes)))

  -- what is held then
  held-is : without number s.held ≡ held_of
      (with_outcome number (Failed (within (length the.accepted.write.contents) offsets)) (record h { marks = marking the.accepted.write h.marks }))
  held-is =
      ap (without number) left.rest.held
      ∙ (filter-append (λ (x : Holding). not (x.number == number)) (map holding_item (if is_established (primary_connection h)
      then under_way (primary_connection h) else []))
      (map holding_write (open_writes h))
      ∙ λ i. zeros (if is_established (primary_connection h) then under_way (primary_connection h) else []) i ++ rest i)
    where
      some : (0 == number) ≡ false
      some = let index = homes.numbered the.index the.accepted the.at in let is = the.number_is in false_from_ne_true (0 == number)
          (λ e. let zero_is = eqb-true 0 number e in omega arith)

      zeros : (entries : List (ℕ × StreamItem)) → filter (λ (x : Holding). not (x.number == number)) (map holding_item entries) ≡ map holding_item entries
      zeros entries = filter-map (λ (x : Holding). not (x.number == number)) holding_item entries
          ∙ ap (map holding_item) (filter-all (λ entry. not (0 == number)) entries (λ i entry at. ap not some))

      rest : filter (λ (x : Holding). not (x.number == number)) (map holding_write (open_writes h))
          ≡ map holding_write (filter (is_open h) (map (set_outcome number (Failed (within (length the.accepted.write.contents) offsets))) h.writes))
      rest =
          filter-map (λ (x : Holding). not (x.number == number)) holding_write (open_writes h)
          ∙ (ap (map holding_write) (filter-twice (λ a. not (a.write.number == number)) (is_open h) h.writes
          ∙ filter-at (λ a. is_open h a && not (a.write.number == number))
          (λ a. is_open h (set_outcome number (Failed (within (length the.accepted.write.contents) offsets)) a)) h.writes
          (λ i a at. pointwise a (a.write.number == number)))
          ∙ (map-at holding_write (λ a. holding_write (set_outcome number (Failed (within (length the.accepted.write.contents) offsets)) a))
          (filter (λ a. is_open h (set_outcome number (Failed (within (length the.accepted.write.contents) offsets)) a)) h.writes)
          (λ i a at. elim (a.write.number == number) as
          (λ b. holding_write a ≡ holding_write (if b then record a { outcome = Failed (within (length the.accepted.write.contents) offsets) } else a))
          [ true ↦ refl | false ↦ refl ])
          ∙ (sym (map-twice holding_write (set_outcome number (Failed (within (length the.accepted.write.contents) offsets)))
          (filter (λ a. is_open h (set_outcome number (Failed (within (length the.accepted.write.contents) offsets)) a)) h.writes))
          ∙ ap (map holding_write) (sym (filter-map (is_open h) (set_outcome number (Failed (within (length the.accepted.write.contents) offsets)))
          h.writes)))))
        where
          pointwise : (a : Accepted) (b : Bool)
              → (is_open h a && not b) ≡ is_open h (if b then record a { outcome = Failed (within (length the.accepted.write.contents) offsets) } else a)
          pointwise a true = and-false (is_open h a) ∙ sym (and-false (not (is_completed h a.write.number)))
          pointwise a false = and-true (is_open h a)

  fault-due : IsDue (record s {
    log = (log.local_fault number s.log).1;
    entries = with_entry number (λ entry. record entry { fate = core.Failed }) s.entries;
    held = without number s.held;
    marks = bits.marking (is_between the.accepted.write.first (length the.accepted.write.contents)) s.marks;
  })
      (log.local_fault number s.log).0
      (with_outcome number (Failed (within (length the.accepted.write.contents) offsets)) (record h { marks = marking the.accepted.write h.marks }))
  fault-due =
      change-due s h (with_outcome number (Failed (within (length the.accepted.write.contents) offsets))
      (record h { marks = marking the.accepted.write h.marks })) number writes.failing
      (set_outcome number (Failed (within (length the.accepted.write.contents) offsets))) (λ c. c) left homes ordered.1.0 ordered.1.1.0.1.on after.1.1.0.0
      fault-change
      (with_entry number (λ entry. record entry { fate = core.Failed }) s.entries) (without number s.held)
      (bits.marking (is_between the.accepted.write.first (length the.accepted.write.contents)) s.marks) s.end refl refl refl entries-are held-is marks-are
      left.rest.end

  pub fault-follows : Agrees reply.Ok (
    Ok (transition.logged what.Nothing (log.local_fault number s.log) (transition.failing number s)).0,
    (transition.logged what.Nothing (log.local_fault number s.log) (transition.failing number s)).1,
  )
      (step.succeeding what.Nothing (faulted number offsets h))
  fault-follows =
      subst (λ (x : PrimaryHistory). Agrees reply.Ok (
        Ok (transition.logged what.Nothing (log.local_fault number s.log) (transition.failing number s)).0,
        (transition.logged what.Nothing (log.local_fault number s.log) (transition.failing number s)).1,
      ) (step.succeeding what.Nothing x)) (sym faulted-is)
      (subst (λ (t : PrimaryState). Agrees reply.Ok (
        Ok (transition.logged what.Nothing (log.local_fault number s.log) t).0,
        (transition.logged what.Nothing (log.local_fault number s.log) t).1,
      )
      (step.succeeding what.Nothing (with_outcome number (Failed (within (length the.accepted.write.contents) offsets))
      (record h { marks = marking the.accepted.write h.marks })))) (sym failing-is)
      (from-follow _ _ (follow _ (log.local_fault number s.log).0
      (with_outcome number (Failed (within (length the.accepted.write.contents) offsets)) (record h { marks = marking the.accepted.write h.marks }))
      fault-due what.Nothing)))

-- the local disk fails a write
pub faults-agree : FaultsAgree
faults-agree number offsets s h reached left =
    let known = reached-ordered h reached in
    tested-agrees reply.Ok s h ((not (transition.is_unfinished number s), UnknownJob) ∷ []) ((not (is_unfinished h number), UnknownJob) ∷ [])
    (λ _. (
      Ok (transition.logged what.Nothing (log.local_fault number s.log) (transition.failing number s)).0,
      (transition.logged what.Nothing (log.local_fault number s.log) (transition.failing number s)).1,
    ))
    (λ _. step.succeeding what.Nothing (faulted number offsets h))
    (ap (λ b. (not b, UnknownJob) ∷ []) (unfinished-same s h number left known.ordered.1.1.0.0)) left
    (λ none. fault-follows known.settings known.bound s h number offsets left known.ordered
    (not-false (is_unfinished h number) (test-passed (not (is_unfinished h number)) UnknownJob [] none).0))
