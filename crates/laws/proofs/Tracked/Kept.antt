-- Every move of a primary keeps what its history keeps of its blocks, and that the journal has accepted writes alone.
use Rattle.std.proofs.Common.{ℕ, suc, ◌≡◌, ◌≤◌, ◌<◌, inl, inr, Bool, true, false, ◌&&◌, List, [], ◌∷◌, ◌++◌, length, map, Option, Some, None, slice_get, Ok, ap}
use Rattle.std.proofs.Common.{arith, ◌==◌, length-append, not, sym, ◌∙◌, refl}
use Rattle.std.specs.Prelude.{is_some}
use Rattle.std.proofs.lemmas.Bool.{cases_Bool, eqb-true, and_parts, both_ways, not-true, eq-eqb}
use Rattle.std.proofs.lemmas.List.{length-map}
use Rattle.std.proofs.lemmas.Option.{slice_get_within}
use Rattle.blocks.specs.declared.settings.Settings.{Settings}
use Rattle.blocks.specs.declared.tuple.Tuple.{Tuple}
use Rattle.blocks.specs.declared.outcome.Decision.{Decision}
use Rattle.blocks.specs.declared.outcome.Decision.TheVariants.{NoSync, BitmapSync, FullSync}
use Rattle.model.specs.Contents.{BlockMap}
use Rattle.model.specs.Stream.{BarrierItem, last_epoch, within}
use Rattle.model.specs.Frames.{UuidsFrame}
use Rattle.model.specs.Primary.{LocalOutcome, Waiting, OnDisk, Failed, Accepted, Completion, PrimaryHistory, primary_opening, primary_connection, last_index}
use Rattle.model.specs.Primary.{with_primary_connection}
use Rattle.model.specs.Primary.{is_established, is_open, completes, is_completed, is_failed, is_waiting, is_on_disk}
use Rattle.model.specs.PrimarySteps.{newly_completed, completion_of, with_completions, epoch_is_over, resync_is_over, ending_resync, follows, submission}
use Rattle.model.specs.PrimarySteps.{submitted, appending, set_outcome, accepted_at, faulted, submitted_with, faulted_by}
use Rattle.model.specs.Acknowledgements.{begun_with}
use Rattle.laws.proofs.Primary.Moves.{IsKeptByMoves, following-from, with_frame}
use Rattle.laws.proofs.Primary.Homes.{HasHomes}
use Rattle.laws.proofs.Primary.HomesMoves.{homes-kept}
use Rattle.laws.proofs.Tracked.{IsTracked}
use Rattle.laws.proofs.Lists.Picks.{pick-any, pick-filtered, pick-image, any-pick}
use Rattle.laws.proofs.Tracked.Moves.{tracked-opening}
use Rattle.laws.proofs.Tracked.Quiet.{tracked-completions, tracked-parting, tracked-ending, tracked-opens, tracked-begins, tracked-closes, tracked-refuses}
use Rattle.laws.proofs.Tracked.Quiet.{tracked-sends, tracked-takes, tracked-receipts, tracked-clears}
use Rattle.laws.proofs.Tracked.Outcomes.{tracked-writes, tracked-faults}
use Rattle.laws.proofs.Tracked.Added.{tracked-submits, tracked-resyncs}
use Rattle.laws.proofs.Lists.Elements.{get-split}
use Rattle.laws.proofs.Lists.Once.{Once, once-append, once-map, once-filter}

-- No entry of the journal has a number that no accepted write has, and none has that of another.
abbrev pub HasNumbers : PrimaryHistory → Type 0
HasNumbers h = ((n : ℕ) (entry : Completion) → slice_get h.journal n ≡ Some entry → entry.write.number ≤ length h.writes)
    × Once (λ (entry : Completion). entry.write.number) h.journal

-- the next number is new to the journal
pub fresh-number : (h : PrimaryHistory) → HasNumbers h → is_completed h (suc (length h.writes)) ≡ false
fresh-number h numbers = elim (cases_Bool (is_completed h (suc (length h.writes)))) [
  | inl done ↦
      let entry = pick-any (λ (entry : Completion). entry.write.number == suc (length h.writes)) h.journal done in
      let is : entry.1.write.number ≡ suc (length h.writes) = eqb-true entry.1.write.number (suc (length h.writes)) entry.3 in
      let low = numbers.0 entry.0 entry.1 entry.2 in
      absurd (omega arith)
  | inr new ↦ new
]

-- The history is tracked, and the journal has accepted writes alone.
pub record IsKnown (h : PrimaryHistory) : Type 0 where
  pub tracked : IsTracked h
  pub numbers : HasNumbers h

-- a write that waits for the local disk is open
pub waits-open : (h : PrimaryHistory) → IsKnown h → (i : ℕ) (a : Accepted) → slice_get h.writes i ≡ Some a → is_waiting a.outcome ≡ true → is_open h a ≡ true
waits-open h known i a at waits = go (is_completed h a.write.number) refl a.outcome refl
  where
    go : (b : Bool) → is_completed h a.write.number ≡ b → (o : LocalOutcome) → a.outcome ≡ o → (not b && not (is_failed o)) ≡ true
    go b is OnDisk o = absurd (both_ways (is_waiting a.outcome) (ap is_waiting o) waits)
    go b is (Failed offsets) o = absurd (both_ways (is_waiting a.outcome) (ap is_waiting o) waits)
    go true is Waiting o = absurd (let done = known.tracked.on_disk i a at is in both_ways (is_on_disk a.outcome) (ap is_on_disk o) done)
    go false is Waiting o = refl

-- What follows a step.

-- completions go to the journal, each with the number of an open write
pub numbers-completions : (h : PrimaryHistory) → HasHomes h → HasNumbers h → HasNumbers (with_completions h)
numbers-completions h homes numbers = (
  λ n entry at. elim (get-split h.journal (map (completion_of h) (newly_completed h)) n entry at) [
    | inl old ↦ numbers.0 n entry old
    | inr new ↦
        let of = pick-image (completion_of h) (newly_completed h) new.0 entry new.2 in
        let stood = pick-filtered (λ (a : Accepted). is_open h a && completes h a) h.writes new.0 of.0 of.1 in
        let number : of.0.write.number ≡ suc stood.0 = homes.numbered stood.0 of.0 stood.1 in
        let same : of.0.write.number ≡ entry.write.number = ap (λ (e : Completion). e.write.number) of.2 in
        let within = slice_get_within h.writes stood.0 of.0 stood.1 in
        omega arith
  ],
  once,
)
  where
    passes : Accepted → Bool
    passes a = is_open h a && completes h a

    -- what is completed now was not completed before
    new : (m n : ℕ) (old added : Completion) → slice_get h.journal m ≡ Some old → slice_get (map (completion_of h) (newly_completed h)) n ≡ Some added
        → old.write.number ≡ added.write.number → ⊥
    new m n old added was now same =
        let of = pick-image (completion_of h) (newly_completed h) n added now in
        let stood = pick-filtered passes h.writes n of.0 of.1 in
        let waits = and_parts (not (is_completed h of.0.write.number)) (not (is_failed of.0.outcome))
        (and_parts (is_open h of.0) (completes h of.0) stood.2).0 in
        let number : old.write.number ≡ of.0.write.number = same ∙ ap (λ (e : Completion). e.write.number) (sym of.2) in
        both_ways (is_completed h of.0.write.number) (not-true (is_completed h of.0.write.number) waits.0)
        (any-pick (λ (entry : Completion). entry.write.number == of.0.write.number) h.journal m old was (eq-eqb old.write.number of.0.write.number number))

    distinct : Once (λ (a : Accepted). a.write.number) h.writes
    distinct m n a b ata atb same =
        let one = homes.numbered m a ata in
        let two = homes.numbered n b atb in
        omega arith

    once : Once (λ (entry : Completion). entry.write.number) (h.journal ++ map (completion_of h) (newly_completed h))
    once = once-append (λ (entry : Completion). entry.write.number) h.journal (map (completion_of h) (newly_completed h)) numbers.1
        (once-map (λ (entry : Completion). entry.write.number) (completion_of h) (newly_completed h)
        (once-filter (λ (a : Accepted). a.write.number) passes h.writes distinct)) new

-- completions go to the journal
pub known-completions : (h : PrimaryHistory) → IsKnown h → IsKnown (with_completions h)
known-completions h known = record { tracked = tracked-completions h known.tracked; numbers = numbers-completions h known.tracked.homes known.numbers }

-- a barrier goes to the end of the stream
pub known-parting : (g : PrimaryHistory) → epoch_is_over g ≡ true → IsKnown g → IsKnown (appending (BarrierItem (last_epoch (primary_connection g).stream)) g)
known-parting g over known = record { tracked = tracked-parting g over known.tracked; numbers = known.numbers }

-- a resync ends
pub known-ending : (g : PrimaryHistory) → resync_is_over g ≡ true → IsKnown g → IsKnown (ending_resync g)
known-ending g over known = record { tracked = tracked-ending g over known.tracked; numbers = known.numbers }

known-following : (h : PrimaryHistory) → IsKnown h → IsKnown (follows h).history
known-following = following-from IsKnown IsKnown IsKnown known-completions known-parting (λ g on known. known) known-ending (λ g known. known)

-- Moves that change the list of writes.

-- an accepted write is in no entry of the journal
pub numbers-submitted : (h : PrimaryHistory) (first : ℕ) (contents : List (List ℕ)) → HasNumbers h → HasNumbers (submitted h first contents)
numbers-submitted h first contents numbers = go (is_established (primary_connection h))
  where
    more : (added : Accepted) (n : ℕ) (entry : Completion) → slice_get h.journal n ≡ Some entry → entry.write.number ≤ length (h.writes ++ added ∷ [])
    more added n entry at = let low = numbers.0 n entry at in let long = length-append h.writes (added ∷ []) in omega arith

    go : (b : Bool) → HasNumbers (submitted_with b h first contents)
    go true = (
      more (record {
        write = submission h first contents;
        journal_length = length h.journal;
        home = Some (record { index = last_index h.connections; place = length (primary_connection h).stream });
        outcome = Waiting;
      }),
      numbers.1,
    )
    go false = (more (record { write = submission h first contents; journal_length = length h.journal; home = None; outcome = Waiting }), numbers.1)

-- an outcome that is put down adds no write
pub numbers-outcome : (h : PrimaryHistory) (number : ℕ) (outcome : LocalOutcome) → HasNumbers h → (n : ℕ) (entry : Completion)
    → slice_get h.journal n ≡ Some entry
    → entry.write.number ≤ length (map (set_outcome number outcome) h.writes)
numbers-outcome h number outcome numbers n entry at = let low = numbers.0 n entry at in let long =
    length-map h.writes (set_outcome number outcome) in omega arith

-- nor does a failed one
pub numbers-faulted : (h : PrimaryHistory) (number : ℕ) (offsets : List ℕ) → HasNumbers h → HasNumbers (faulted number offsets h)
numbers-faulted h number offsets numbers = go (accepted_at h number)
  where
    go : (v : Option Accepted) → HasNumbers
        (faulted_by v number offsets h)
    go None = numbers
    go (Some accepted) = (numbers-outcome h number (Failed (within (length accepted.write.contents) offsets)) numbers, numbers.1)

-- nor the begin of a stream
pub numbers-begun : (h : PrimaryHistory) (decided : Decision) → HasNumbers h → HasNumbers (begun_with decided h)
numbers-begun h NoSync numbers = numbers
numbers-begun h BitmapSync numbers = numbers
numbers-begun h FullSync numbers = numbers

-- Every move of a primary keeps it.
pub known-kept : IsKeptByMoves IsKnown IsKnown
known-kept = record {
  following = known-following;
  opens = λ h sync loss closed fresh known. record { tracked = tracked-opens h sync loss closed fresh known.tracked; numbers = known.numbers };
  submits = λ h first contents may known. record {
    tracked = tracked-submits h first contents may (fresh-number h known.numbers) known.tracked (homes-kept.submits h first contents may known.tracked.homes);
    numbers = numbers-submitted h first contents known.numbers;
  };
  writes = λ h number waiting known. record {
    tracked = tracked-writes h number waiting known.tracked;
    numbers = (numbers-outcome h number OnDisk known.numbers, known.numbers.1);
  };
  faults = λ h number offsets waiting known. record {
    tracked = tracked-faults h number offsets waiting known.tracked (homes-kept.faults h number offsets waiting known.tracked.homes);
    numbers = numbers-faulted h number offsets known.numbers;
  };
  sends = λ h standing due known. record {
    tracked = tracked-sends h standing known.tracked (homes-kept.sends h standing due known.tracked.homes);
    numbers = known.numbers;
  };
  greets = λ h frame standing new met known. record {
    tracked = tracked-takes h frame standing known.tracked
        (homes-kept.greets h frame standing new met known.tracked.homes);
    numbers = known.numbers;
  };
  begins = λ h peer decided standing new late is fresh known. record {
    tracked = tracked-begins h peer decided standing new known.tracked (homes-kept.begins h peer decided standing new late is fresh known.tracked.homes);
    numbers = numbers-begun (record (with_primary_connection (with_frame (Ok (UuidsFrame peer))) h) { peer = Some peer }) decided known.numbers;
  };
  receives = λ h ack standing begun may known.
      record { tracked = tracked-takes h _ standing known.tracked (homes-kept.receives h ack standing begun may known.tracked.homes); numbers = known.numbers };
  applies = λ h ack standing begun may known.
      record { tracked = tracked-takes h _ standing known.tracked (homes-kept.applies h ack standing begun may known.tracked.homes); numbers = known.numbers };
  clears = λ h ack standing begun may known. record { tracked = tracked-clears h ack standing begun may known.tracked; numbers = known.numbers };
  confirms = λ h number size standing begun turn known.
      record {
        tracked = tracked-takes h _ standing known.tracked (homes-kept.confirms h number size standing begun turn known.tracked.homes);
        numbers = known.numbers;
      };
  refuses = λ h frame peer standing known. record { tracked = tracked-refuses h frame peer standing known.tracked; numbers = known.numbers };
  resyncs = λ h block read may runs alone is known. record {
    tracked = tracked-resyncs h block read runs alone is known.tracked
        (homes-kept.resyncs h block read may runs alone is known.tracked.homes);
    numbers = known.numbers;
  };
  closes = λ h standing known. record { tracked = tracked-closes h standing known.tracked; numbers = known.numbers };
  receipts = λ h number known. record { tracked = tracked-receipts h number known.tracked; numbers = known.numbers };
}

-- It holds at the opening.
pub known-opening : (settings : Settings) (disk : BlockMap) (tuple : Tuple) (marks : ℕ → Bool)
    → ((block : ℕ) → block < settings.blocks → is_some (disk block) ≡ true) → IsKnown (primary_opening settings disk tuple marks)
known-opening settings disk tuple marks sized = record {
  tracked = tracked-opening settings disk tuple marks sized;
  numbers = (λ n entry at. absurd (cc), λ m n a b ata. absurd (cc));
}
