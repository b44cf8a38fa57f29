-- Resyncs that copy what the local disk has leave a history faithful.
use Rattle.std.proofs.Common.{ℕ, ◌≡◌, Bool, true, false, ◌&&◌, ◌∷◌, ◌++◌, List, [], Option, Some, None, refl, sym, ◌∙◌, ap, subst}
use Rattle.std.specs.Prelude.{IsTrue, is_none}
use Rattle.blocks.specs.declared.outcome.Decision.{Decision}
use Rattle.blocks.specs.declared.outcome.Decision.TheVariants.{NoSync, BitmapSync, FullSync}
use Rattle.model.specs.Acknowledgements.{begun_with}
use Rattle.model.specs.LocalRuns.{PrimaryEvent, primary_after, primary_run}
use Rattle.model.specs.Primary.{Accepted, PrimaryConnection, PrimaryHistory, is_established, primary_connection}
use Rattle.model.specs.PrimarySteps.{submitted, submitted_with, faulted, faulted_by, accepted_at}
use Rattle.laws.proofs.Primary.Moves.{IsKeptByMovesOf, Reads, kept-by-releases, following-from, keeps-after-of}

-- what the local disk has
abbrev pub own_read : Option (List ℕ) → Type 0
own_read read = read ≡ None

abbrev pub IsFaithful : PrimaryHistory → Type 0
IsFaithful h = IsTrue h.faithful

submits : (h : PrimaryHistory) (first : ℕ) (contents : List (List ℕ)) → IsFaithful h → IsFaithful (submitted h first contents)
submits h first contents is = go (is_established (primary_connection h))
  where
    go : (b : Bool) → IsFaithful (submitted_with b h first contents)
    go true = is
    go false = is

faults : (h : PrimaryHistory) (number : ℕ) (offsets : List ℕ) → IsFaithful h → IsFaithful (faulted number offsets h)
faults h number offsets is = go (accepted_at h number)
  where
    go : (v : Option Accepted) → IsFaithful (faulted_by v number offsets h)
    go None = is
    go (Some accepted) = is

begins : (h : PrimaryHistory) (decided : Decision) → IsFaithful h → IsFaithful (begun_with decided h)
begins h NoSync is = is
begins h BitmapSync is = is
begins h FullSync is = is

faithful-kept : IsKeptByMovesOf own_read IsFaithful IsFaithful
faithful-kept = record {
  following = following-from IsFaithful IsFaithful IsFaithful (λ h is. is) (λ g over is. is) (λ g on is. is) (λ g over is. is) (λ g is. is);
  opens = λ h sync loss closed fresh is. is;
  submits = λ h first contents may is. submits h first contents is;
  writes = λ h number waits is. is;
  faults = λ h number offsets waits is. faults h number offsets is;
  sends = λ h standing due is. is;
  greets = λ h frame standing new met is. is;
  begins = λ h peer decided standing new late at fresh is. begins _ decided is;
  receives = λ h ack standing begun may is. is;
  applies = λ h ack standing begun may is. is;
  clears = λ h ack standing begun may is. is;
  confirms = λ h number size standing begun turn is. is;
  refuses = λ h frame peer standing is. is;
  resyncs = λ h block read own runs alone at is. subst (λ (r : Option (List ℕ)). IsTrue (is_none r && h.faithful)) (sym own) is;
  closes = λ h standing is. is;
  receipts = λ h number is. is;
}

-- every step keeps it
pub faithful-after : (event : PrimaryEvent) → Reads own_read event → (h : PrimaryHistory) → IsFaithful h → IsFaithful (primary_after event h)
faithful-after event own h is =
    keeps-after-of own_read IsFaithful IsFaithful faithful-kept (kept-by-releases IsFaithful IsFaithful (λ g marks is. is)) event own h is

-- events that read nothing else
abbrev pub AreOwn : List PrimaryEvent → Type 0
AreOwn [] = Unit {0}
AreOwn (event ∷ events) = Reads own_read event × AreOwn events

pub own-append : (first second : List PrimaryEvent) → AreOwn first → AreOwn second → AreOwn (first ++ second)
own-append [] second a b = b
own-append (event ∷ first) second a b = (a.0, own-append first second a.1 b)

-- and so does every run of such
pub faithful-run : (events : List PrimaryEvent) → AreOwn events → (h : PrimaryHistory) → IsFaithful h → IsFaithful (primary_run events h)
faithful-run [] own h is = is
faithful-run (event ∷ events) own h is = faithful-run events own.1 (primary_after event h) (faithful-after event own.0 h is)
