-- A receipt that is given is that of an entry of the journal, and the journal only grows.
use Rattle.std.proofs.Common.{ℕ, suc, ◌≡◌, Bool, true, false, List, [], ◌∷◌, Option, Some, None, Result, Ok, Err, slice_get, refl, sym, ◌∙◌, ap, subst}
use Rattle.std.proofs.Common.{◌==◌, ◌&&◌, ◌||◌, is_none}
use Rattle.std.specs.Prelude.{find, if◌then◌else◌}
use Rattle.std.specs.List.{list_any}
use Rattle.std.specs.Result.{result_map_both}
use Rattle.blocks.specs.declared.refusal.Refusal.{Refusal}
use Rattle.blocks.specs.declared.refusal.Refusal.TheVariants.{LocalFault, NotCompleted, UnknownJob}
use Rattle.blocks.specs.declared.outcome.Decision.{Decision}
use Rattle.blocks.specs.declared.outcome.Decision.TheVariants.{NoSync, BitmapSync, FullSync}
use Rattle.model.specs.Frames.{UuidsFrame}
use Rattle.model.specs.Primary.{Accepted, Completion, PrimaryHistory, primary_connection, is_established, is_open, with_primary_connection}
use Rattle.model.specs.PrimarySteps.{follows, faulted, faulted_by, accepted_at, submitted, submitted_with, receipted, take_completed}
use Rattle.model.specs.Acknowledgements.{begun_with}
use Rattle.model.specs.LocalRuns.{PrimaryEvent, primary_run}
use Rattle.model.specs.Settlement.{Receipt, receipt_of}
use Rattle.primary_protocol.specs.Node.{take_receipt}
use Rattle.told.specs.Stands.{IsEntry}
use Rattle.laws.proofs.Lists.Elements.{get-left}
use Rattle.laws.proofs.Rules.Receipts.{receipt_by, receipt-by}
use Rattle.laws.proofs.Primary.Moves.{IsKeptByMoves, IsKeptByReleases, following-from, kept-by-releases, keeps-run, with_frame}

module _ (receipt : Receipt) where
  abbrev P : PrimaryHistory → Type 0
  P h = IsEntry h receipt

  entry-follows : (h : PrimaryHistory) → P h → P (follows h).history
  entry-follows = following-from P P P (λ h is. (is.0, is.1, get-left h.journal _ is.0 is.1 is.2, is.3)) (λ g over is. is) (λ g on is. is) (λ g over is. is)
      (λ g is. is)

  entry-submits : (h : PrimaryHistory) (first : ℕ) (contents : List (List ℕ)) → P h → P (submitted h first contents)
  entry-submits h first contents is = go (is_established (primary_connection h))
    where
      go : (b : Bool) → P (submitted_with b h first contents)
      go true = is
      go false = is

  entry-faults : (h : PrimaryHistory) (number : ℕ) (offsets : List ℕ) → P h → P (faulted number offsets h)
  entry-faults h number offsets is = go (accepted_at h number)
    where
      go : (v : Option Accepted) → P (faulted_by v number offsets h)
      go None = is
      go (Some accepted) = is

  entry-begins : (h : PrimaryHistory) (decided : Decision) → P h → P (begun_with decided h)
  entry-begins h NoSync is = is
  entry-begins h BitmapSync is = is
  entry-begins h FullSync is = is

  entry-kept : IsKeptByMoves P P
  entry-kept = record {
    following = entry-follows;
    opens = λ h sync loss closed fresh is. is;
    submits = λ h first contents may is. entry-submits h first contents is;
    writes = λ h number waiting is. is;
    faults = λ h number offsets waiting is. entry-faults h number offsets is;
    sends = λ h standing due is. is;
    greets = λ h frame standing new met is. is;
    begins = λ h peer decided standing new late fresh was is.
        entry-begins (record (with_primary_connection (with_frame (Ok (UuidsFrame peer))) h) { peer = Some peer }) decided is;
    receives = λ h ack standing begun may is. is;
    applies = λ h ack standing begun may is. is;
    clears = λ h ack standing begun may is. is;
    confirms = λ h number size standing begun turn is. is;
    refuses = λ h frame peer standing is. is;
    resyncs = λ h block read any runs alone free is. is;
    closes = λ h standing is. is;
    receipts = λ h number is. is;
  }

  entry-released : IsKeptByReleases P P
  entry-released = kept-by-releases P P (λ h marks is. is)

  -- a later journal has it too
  pub entry-stays : (events : List PrimaryEvent) (h : PrimaryHistory) → P h → P (primary_run events h)
  entry-stays = keeps-run P P entry-kept entry-released

found-or : {X : Type 0} (y : X) (xs : List X) (rest : Option X) (x : X) (b : Bool) → (rest ≡ Some x → (k : ℕ) × (slice_get xs k ≡ Some x))
    → (if b then Some y else rest) ≡ Some x → (k : ℕ) × (slice_get (y ∷ xs) k ≡ Some x)
found-or y xs rest x true later is = (0, is)
found-or y xs rest x false later is = let there = later is in (suc there.0, there.1)

found-at : {X : Type 0} (p : X → Bool) (xs : List X) (x : X) → find p xs ≡ Some x → (k : ℕ) × (slice_get xs k ≡ Some x)
found-at p [] x at = absurd (cc)
found-at {X} p (y ∷ xs) x at = found-or y xs (find p xs) x (p y) (found-at p xs x) at

-- the receipt of what is taken
abbrev receipt_in : Result Completion Refusal → Result Receipt Refusal
receipt_in r = result_map_both receipt_of (λ (e : Refusal). e) r

-- a refusal gives none
given-nothing : (e : Refusal) (h : PrimaryHistory) (r : Result Completion Refusal × PrimaryHistory) {receipt : Receipt} → (Err e, h) ≡ r
    → Ok receipt ≡ receipt_in r.0 → ⊥
given-nothing e h r {receipt} by said =
    let wrong : Ok receipt ≡ Err e = said ∙ sym (ap (λ (r : Result Completion Refusal × PrimaryHistory). receipt_in r.0) by) in
    cc (wrong)

-- The receipt that is given is of the journal.
pub given-entry : (h : PrimaryHistory) (number : ℕ) (receipt : Receipt) → Ok receipt ≡ (take_receipt number h).0 → IsEntry (take_receipt number h).1 receipt
given-entry h number receipt said = go gone waits found refl (receipt-by number h gone waits found refl refl refl)
  where
    gone : Bool
    gone = is_none (accepted_at h number) || list_any (λ taken. taken == number) h.receipts

    waits : Bool
    waits = list_any (λ (a : Accepted). (a.write.number == number) && is_open h a) h.writes

    found : Option Completion
    found = find (λ (entry : Completion). entry.write.number == number) h.journal

    go : (gone waits : Bool) (found : Option Completion) → find (λ (entry : Completion). entry.write.number == number) h.journal ≡ found
        → receipt_by number h gone waits found ≡ take_completed number h → IsEntry (take_receipt number h).1 receipt
    go true waits found is by = absurd (given-nothing UnknownJob h (take_completed number h) by said)
    go false true found is by = absurd (given-nothing NotCompleted h (take_completed number h) by said)
    go false false None is by = absurd (given-nothing LocalFault (receipted number h) (take_completed number h) by said)
    go false false (Some entry) is by =
        let at = found-at (λ (e : Completion). e.write.number == number) h.journal entry is in
        let same = said ∙ sym (ap (λ (r : Result Completion Refusal × PrimaryHistory). receipt_in r.0) by) in
        let of : receipt ≡ receipt_of entry = cc (same) in
        subst (λ (r : Result Completion Refusal × PrimaryHistory). IsEntry r.1 receipt) by (at.0, entry, at.1, sym of)
