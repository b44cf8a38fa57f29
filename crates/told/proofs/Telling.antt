-- What was told stays told while a history goes on, and something more may be told.
use Rattle.std.proofs.Common.{◌≡◌, ℕ, Bool, List, [], ◌∷◌, ◌++◌, Ok, refl, sym, ◌∙◌, ap}
use Rattle.std.specs.Prelude.{IsTrue}
use Rattle.model.specs.Primary.{PrimaryHistory}
use Rattle.model.specs.LocalRuns.{PrimaryEvent, primary_after, primary_run}
use Rattle.model.specs.Settlement.{Receipt}
use Rattle.primary_protocol.specs.Node.{take_receipt}
use Rattle.told.specs.declared.entry.Told.{Told}
use Rattle.told.specs.declared.entry.Told.TheVariants.{Accepted, Given, Held, Patched}
use Rattle.told.specs.Log.{Leads, Happens, AreTold}

pub run-both : (events more : List PrimaryEvent) (h : PrimaryHistory) → primary_run more (primary_run events h) ≡ primary_run (events ++ more) h
run-both [] more h = refl
run-both (event ∷ events) more h = run-both events more (primary_after event h)

pub leads-self : (h : PrimaryHistory) → Leads h h
leads-self h = ([], refl)

pub leads-on : (g h k : PrimaryHistory) → Leads g h → Leads h k → Leads g k
leads-on g h k one other = (one.0 ++ other.0, other.1 ∙ (ap (primary_run other.0) one.1 ∙ run-both one.0 other.0 g))

pub told-on : (faithful : Bool) (log : List Told) (a h k : PrimaryHistory) → AreTold faithful log a h → Leads h k → AreTold faithful log a k
told-on faithful [] a h k told leads = leads-on a h k told leads
told-on faithful (one ∷ log) a h k told leads = (told.0, told.1, told.2, told.3, told-on faithful log told.1 h k told.4 leads)

pub told-more : (faithful : Bool) (log : List Told) (one : Told) (a h k : PrimaryHistory) → AreTold faithful log a h → Happens faithful one h k → AreTold faithful (log ++ one ∷ []) a k
told-more faithful [] one a h k told happens = (h, k, told, happens, leads-self k)
told-more faithful (first ∷ log) one a h k told happens = (told.0, told.1, told.2, told.3, told-more faithful log one told.1 h k told.4 happens)

-- Of a disk of which less is known, less was told.
happens-falls : (was now : Bool) (one : Told) (h after : PrimaryHistory) → (IsTrue now → IsTrue was) → Happens was one h after → Happens now one h after
happens-falls was now (Accepted number first bytes) h after falls happens = happens
happens-falls was now (Patched number block from bytes) h after falls happens = record {
  old = happens.old;
  read = λ still. happens.read (falls still);
  settled = happens.settled;
  submitted = happens.submitted;
}
happens-falls was now (Given receipt) h after falls happens = happens
happens-falls was now (Held first count bytes) h after falls happens = ((λ still. happens.0 (falls still)), happens.1)

pub told-falls : (was now : Bool) (log : List Told) (a h : PrimaryHistory) → (IsTrue now → IsTrue was) → AreTold was log a h → AreTold now log a h
told-falls was now [] a h falls told = told
told-falls was now (one ∷ log) a h falls told =
    (told.0, told.1, told.2, happens-falls was now one told.0 told.1 falls told.3, told-falls was now log told.1 h falls told.4)

pub given-at : (faithful : Bool) (h : PrimaryHistory) (receipt : Receipt) (number : ℕ) → receipt.number ≡ number → Ok receipt ≡ (take_receipt number h).0
    → Happens faithful (Given receipt) h (take_receipt number h).1
given-at faithful h receipt number is said = (said ∙ ap (λ n. (take_receipt n h).0) (sym is), ap (λ n. (take_receipt n h).1) (sym is))
