-- A receipt is given as the journal has it.
use Rattle.std.proofs.Common.{ℕ, zero, suc, ◌≡◌, ◌+◌, inl, inr, Bool, true, false, not, ◌&&◌, ◌||◌, List, [], ◌∷◌, ◌++◌, length, Option, Some, None, slice_get}
use Rattle.std.proofs.Common.{Result, Err, refl, sym, ◌∙◌, ap, subst, arith, ◌==◌}
use Rattle.std.specs.Prelude.{find, is_some, is_none, option_map, if◌then◌else◌}
use Rattle.std.specs.List.{list_any}
use Rattle.std.proofs.lemmas.Bool.{both_ways, eqb-true, eq-eqb, or_right, false_from_ne_true}
use Rattle.std.proofs.lemmas.List.Folds.{list_any-append}
use Rattle.blocks.specs.declared.refusal.Refusal.{Refusal}
use Rattle.blocks.specs.declared.refusal.Refusal.TheVariants.{UnknownJob}
use Rattle.model.specs.Primary.{LocalOutcome, Waiting, OnDisk, Accepted, Completion, PrimaryHistory, is_failed, is_on_disk, is_open, is_completed}
use Rattle.model.specs.PrimarySteps as model
use Rattle.model.specs.PrimarySteps.{accepted_at, receipted}
use Rattle.laws.proofs.Lists.Picks.{pick-found}
use Rattle.std.proofs.lemmas.Option.{slice_get_within}
use Rattle.laws.proofs.Lists.Elements.{get-more, same-at}
use Rattle.laws.proofs.Primary.Journal.{JournalIsAccepted}
use Rattle.model.specs.Contents.{Write}
use Rattle.model.specs.Primary as history
use Rattle.primary_protocol.specs.Core.{Fate, Failed, JournalEntry, PrimaryState, with_entry}
use Rattle.primary_protocol.specs.Transitions.{entry_at, completed_entry, is_given, take_completed}
use Rattle.primary_protocol.specs.Transitions as core
use Rattle.primary_protocol.proofs.Common.Numbers.{AreNumberedFrom, find-number, find-none, any-number, get-map, with-entry-map, any-some}
use Rattle.primary_protocol.specs.Leaves.{fate_in, fate_of, entry_of, LeavesEntries}
use Rattle.primary_protocol.specs.Steps.{SameAnswer}
use Rattle.laws.proofs.Rules.Receipts.{receipt_by, receipt-by}

-- The transition tells what the model's step tells, and leaves its entries.
pub record TellsEntries (number : ℕ) (s : PrimaryState) (h : PrimaryHistory) : Type 0 where
  pub answer : SameAnswer number (take_completed number s).0 (model.take_completed number h).0
  pub leaves : LeavesEntries (take_completed number s).1 (model.take_completed number h).1

-- What is known of a history: writes are numbered by their places, a completed write is on the local disk, and the journal
-- has accepted writes.
pub record IsNumbered (h : PrimaryHistory) : Type 0 where
  pub numbered : (i : ℕ) (accepted : Accepted) → slice_get h.writes i ≡ Some accepted → accepted.write.number ≡ suc i
  pub on_disk : (i : ℕ) (accepted : Accepted) → slice_get h.writes i ≡ Some accepted → is_completed h accepted.write.number ≡ true
      → is_on_disk accepted.outcome ≡ true
  pub journal : JournalIsAccepted h

-- Receipts.

-- a failed write is not completed
pub failed-open : (h : PrimaryHistory) → IsNumbered h → (i : ℕ) (a : Accepted) → slice_get h.writes i ≡ Some a → is_failed a.outcome ≡ true
    → is_completed h a.write.number ≡ false
failed-open h known i a at failed = false_from_ne_true (is_completed h a.write.number) (λ completed. both a.outcome failed (known.on_disk i a at completed))
  where
    both : (o : LocalOutcome) → is_failed o ≡ true → is_on_disk o ≡ true → ⊥
    both Waiting f d = absurd (cc)
    both OnDisk f d = absurd (cc)
    both (history.Failed offsets) f d = absurd (cc)

-- what the model answers of a write that is there
module _ (h : PrimaryHistory) (known : IsNumbered h) (n : ℕ) (a : Accepted) (at : slice_get h.writes n ≡ Some a) (s : PrimaryState)
    (left : LeavesEntries s h) where
  number-is : a.write.number ≡ suc n
  number-is = known.numbered n a at

  from-one : AreNumberedFrom 1 h.writes
  from-one i accepted there = known.numbered i accepted there ∙ omega arith

  there-is : accepted_at h (suc n) ≡ Some a
  there-is = ap (λ (m : ℕ). find (λ (x : Accepted). x.write.number == m) h.writes) (omega arith) ∙ (find-number 1 n h.writes from-one ∙ at)

  open-is : list_any (λ (x : Accepted). (x.write.number == suc n) && is_open h x) h.writes ≡ is_open h a
  open-is =
      let index : 1 + n ≡ suc n = omega arith in
      ap (λ (m : ℕ). list_any (λ (x : Accepted). (x.write.number == m) && is_open h x) h.writes) (sym index)
      ∙ (any-number 1 n (is_open h) h.writes from-one ∙ ap (λ (v : Option Accepted). elim v as (λ _. Bool) [ None ↦ false | Some x ↦ is_open h x ]) at)

  pub entry-is : entry_at (suc n) s ≡ Some (entry_of h a)
  entry-is = ap (λ (l : List JournalEntry). slice_get l n) left.entries ∙ (get-map (entry_of h) h.writes n ∙ ap (option_map (entry_of h)) at)

  -- the entry that the journal has of it is of this write
  pub write-is : (c : Completion) → find (λ (entry : Completion). entry.write.number == a.write.number) h.journal ≡ Some c → c.write ≡ a.write
  write-is c found =
      let place = pick-found (λ (entry : Completion). entry.write.number == a.write.number) h.journal c found in
      let of = known.journal place.0 c place.1 in
      let number : c.write.number ≡ a.write.number = eqb-true c.write.number a.write.number place.2 in
      let there = known.numbered of.0 of.1 of.2 in
      let index : of.0 ≡ n = omega (arith, there, number-is, number, ap (λ (w : Write). w.number) of.3) in
      of.3 ∙ ap (λ (x : Accepted). x.write) (same-at h.writes n of.1 a (subst (λ (k : ℕ). slice_get h.writes k ≡ Some of.1) index of.2) at)

  -- the entries once the receipt is taken
  receipted-left : LeavesEntries (core.receipted (suc n) s) (receipted (suc n) h)
  receipted-left = record {
    receipts = λ i number there. elim (get-more h.receipts (suc n) i number there) [
      | inl old ↦ left.receipts i number old
      | inr new ↦ let within = slice_get_within h.writes n a at in let is = new.1 in omega arith
    ];
    entries =
        ap (with_entry (suc n) (λ entry. record entry { taken = true })) left.entries
        ∙ with-entry-map (entry_of h) (entry_of (receipted (suc n) h)) (λ entry. record entry { taken = true }) 1 n h.writes from-one
        (λ x is. λ i. record { first = x.write.first; count = length x.write.contents; fate = fate_of h x; taken = now x (is ∙ omega arith) i })
        (λ x other. λ i. record { first = x.write.first; count = length x.write.contents; fate = fate_of h x; taken = still x other i });
  }
    where
      now : (x : Accepted) → x.write.number ≡ suc n → true ≡ list_any (λ number. number == x.write.number) (h.receipts ++ suc n ∷ [])
      now x is =
          let same : (suc n == x.write.number) ≡ true = eq-eqb (suc n) x.write.number (sym is) in
          sym (list_any-append (λ number. number == x.write.number) h.receipts (suc n ∷ [])
          ∙ or_right (list_any (λ number. number == x.write.number) h.receipts) ((suc n == x.write.number) || false) (rw same refl))

      still : (x : Accepted) → (x.write.number == (1 + n)) ≡ false
          → list_any (λ number. number == x.write.number) h.receipts ≡ list_any (λ number. number == x.write.number) (h.receipts ++ suc n ∷ [])
      still x other =
          let none : (suc n == x.write.number) ≡ false = false_from_ne_true (suc n == x.write.number)
          (λ e. both_ways (x.write.number == (1 + n)) other (eq-eqb x.write.number (1 + n) (sym (eqb-true (suc n) x.write.number e) ∙ omega arith))) in
          sym (list_any-append (λ number. number == x.write.number) h.receipts (suc n ∷ [])
          ∙ (ap (λ b. list_any (λ number. number == x.write.number) h.receipts || (b || false)) none
          ∙ or-none (list_any (λ number. number == x.write.number) h.receipts)))
        where
          or-none : (b : Bool) → (b || (false || false)) ≡ b
          or-none true = refl
          or-none false = refl

  -- the receipt was taken, where the write is there
  gone : (given : Bool) → list_any (λ taken. taken == suc n) h.receipts ≡ given
      → given ≡ (is_none (accepted_at h (suc n)) || list_any (λ taken. taken == suc n) h.receipts)
  gone given is = sym (ap (λ (v : Option Accepted). is_none v || list_any (λ taken. taken == suc n) h.receipts) there-is ∙ is)

  -- what the transition is then
  abbrev core-by : Option JournalEntry → Result JournalEntry Refusal × PrimaryState
  core-by v = (completed_entry v, if is_given (completed_entry v) then core.receipted (suc n) s else s)

  -- both alike
  abbrev Alike : Result JournalEntry Refusal × PrimaryState → Result Completion Refusal × PrimaryHistory → Type 0
  Alike got step = SameAnswer (suc n) got.0 step.0 × LeavesEntries got.1 step.1

  -- by whether the receipt was taken, whether the local disk failed the write, and what the journal has of it
  by-fate : (given failed : Bool) → list_any (λ taken. taken == suc n) h.receipts ≡ given → is_failed a.outcome ≡ failed → (found : Option Completion)
      → find (λ (entry : Completion). entry.write.number == a.write.number) h.journal ≡ found
      → Alike (core-by (Some (record {
        first = a.write.first;
        count = length a.write.contents;
        fate = elim failed as (λ _. Fate) [ true ↦ Failed | false ↦ fate_in found ];
        taken = given;
      })))
      (receipt_by (suc n) h given (not (is_some found) && not failed) found)
  by-fate true failed is_given_so is_failed_so found is = (refl, left)
  by-fate false true is_given_so is_failed_so None is = (refl, receipted-left)
  by-fate false true is_given_so is_failed_so (Some c) is =
      absurd (both_ways (is_completed h a.write.number) (failed-open h known n a at is_failed_so)
      (any-some (λ (entry : Completion). entry.write.number == a.write.number) h.journal ∙ ap is_some is))
  by-fate false false is_given_so is_failed_so None is = (refl, left)
  by-fate false false is_given_so is_failed_so (Some c) is =
      let same = write-is c is in (
        (ap (λ (w : Write). w.number) same ∙ number-is, ap (λ (w : Write). w.first) (sym same), ap (λ (w : Write). length w.contents) (sym same), refl),
        receipted-left,
      )

  -- the receipt of a write that is there
  tells-there : TellsEntries (suc n) s h
  tells-there =
      let given : Bool = list_any (λ taken. taken == suc n) h.receipts in
      let found : Option Completion = find (λ (entry : Completion). entry.write.number == a.write.number) h.journal in
      let open_so : is_open h a ≡ (not (is_some found) && not (is_failed a.outcome)) = ap (λ b. not b && not (is_failed a.outcome))
      (any-some (λ (entry : Completion). entry.write.number == a.write.number) h.journal) in
      let numbers : found ≡ find (λ (entry : Completion). entry.write.number == suc n) h.journal =
      ap (λ (m : ℕ). find (λ (entry : Completion). entry.write.number == m) h.journal) number-is in
      let taken_is : list_any (λ number. number == a.write.number) h.receipts ≡ given = ap (λ (m : ℕ). list_any (λ number. number == m) h.receipts) number-is in
      let alike = by-fate given (is_failed a.outcome) refl refl found refl in
      let got : core-by (Some (record { first = a.write.first; count = length a.write.contents; fate = fate_of h a; taken = given })) ≡ take_completed
      (suc n) s =
      ap core-by (sym (entry-is ∙ λ i. Some (record { first = a.write.first; count = length a.write.contents; fate = fate_of h a; taken = taken_is i }))) in
      let step = receipt-by (suc n) h given (not (is_some found) && not (is_failed a.outcome)) found (gone given refl) (sym (open-is ∙ open_so)) numbers in
      let both = subst (λ x. Alike x (model.take_completed (suc n) h)) got
      (subst (Alike (core-by (Some (record { first = a.write.first; count = length a.write.contents; fate = fate_of h a; taken = given })))) step alike) in
      record { answer = both.0; leaves = both.1 }

-- a number that no write has is refused
tells-none : (h : PrimaryHistory) (number : ℕ) (s : PrimaryState) → LeavesEntries s h → accepted_at h number ≡ None → entry_at number s ≡ None
    → TellsEntries number s h
tells-none h number s left none nothing =
    let step : model.take_completed number h ≡ (Err UnknownJob, h) =
    sym (receipt-by number h true _ _ (sym (ap (λ (v : Option Accepted). is_none v || list_any (λ taken. taken == number) h.receipts) none)) refl refl) in
    let got : take_completed number s ≡ (Err UnknownJob, s) = ap (λ (v : Option JournalEntry). (
      completed_entry v,
      if is_given (completed_entry v) then core.receipted number s
          else s,
    ))
    nothing in
    record {
      answer = subst (λ x. SameAnswer number x (model.take_completed number h).0) (sym (ap (λ x. x.0) got))
          (subst (SameAnswer number (Err UnknownJob)) (sym (ap (λ x. x.0) step)) refl);
      leaves = subst (λ x. LeavesEntries x (model.take_completed number h).1) (sym (ap (λ x. x.1) got))
          (subst (LeavesEntries s) (sym (ap (λ x. x.1) step)) left);
    }

-- a receipt is given as the journal has it
pub tells : (h : PrimaryHistory) → IsNumbered h → (number : ℕ) (s : PrimaryState) → LeavesEntries s h → TellsEntries number s h
tells h known zero s left = tells-none h 0 s left (find-none 0 1 h.writes (λ i accepted there. known.numbered i accepted there ∙ omega arith) (omega arith))
    refl
tells h known (suc n) s left = by-place (slice_get h.writes n) refl
  where
    from-first : AreNumberedFrom 1 h.writes
    from-first i accepted there = known.numbered i accepted there ∙ omega arith

    by-place : (v : Option Accepted) → slice_get h.writes n ≡ v → TellsEntries (suc n) s h
    by-place (Some a) at = tells-there h known n a at s left
    by-place None none = tells-none h (suc n) s left
        (ap (λ (m : ℕ). find (λ (x : Accepted). x.write.number == m) h.writes) (omega arith) ∙ (find-number 1 n h.writes from-first ∙ none))
        (ap (λ (l : List JournalEntry). slice_get l n) left.entries ∙ (get-map (entry_of h) h.writes n ∙ ap (option_map (entry_of h)) none))
