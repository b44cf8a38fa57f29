-- A stream of a primary that has begun stays so.
use Rattle.std.proofs.Common.{ℕ, ◌≡◌, inl, inr, Bool, true, false, ◌||◌, List, [], ◌∷◌, Option, Some, None, sym, ◌∙◌, ap, refl}
use Rattle.std.specs.List.{list_any}
use Rattle.std.proofs.lemmas.Bool.{cases_Bool, or_left, or_right}
use Rattle.std.proofs.lemmas.List.Folds.{list_any-append}
use Rattle.blocks.specs.declared.outcome.Decision.{Decision}
use Rattle.blocks.specs.declared.outcome.Decision.TheVariants.{NoSync, BitmapSync, FullSync}
use Rattle.model.specs.Acknowledgements.{begun_with}
use Rattle.model.specs.LocalRuns.{PrimaryEvent, primary_run}
use Rattle.model.specs.Primary.{Accepted, PrimaryConnection, PrimaryHistory, primary_connection, change_last, is_established, new_primary_connection}
use Rattle.model.specs.PrimarySteps.{submitted, opened, faulted, accepted_at, submitted_with, faulted_by}
use Rattle.laws.proofs.Primary.Moves.{IsKeptByMoves, kept-by-releases, following-from, keeps-run, with_frame}
use Rattle.laws.proofs.Rules.RefusedFrames.{refusing}

-- one of its streams has begun
abbrev pub HasBegun : PrimaryHistory → Type 0
HasBegun h = list_any (λ (c : PrimaryConnection). c.begun) h.connections ≡ true

-- a change of the last connection that leaves it begun
changes : (f : PrimaryConnection → PrimaryConnection) → ((c : PrimaryConnection) → c.begun ≡ true → (f c).begun ≡ true) → (cs : List PrimaryConnection)
    → list_any (λ (c : PrimaryConnection). c.begun) cs ≡ true
    → list_any (λ (c : PrimaryConnection). c.begun) (change_last f cs) ≡ true
changes f kept [] has = absurd (cc)
changes f kept (c ∷ []) has = elim (cases_Bool c.begun) [
  | inl begun ↦ or_left (f c).begun false (kept c begun)
  | inr new ↦ let none : false ≡ true = sym (ap (λ b. b || false) new) ∙ has in absurd (cc)
]
changes f kept (c ∷ d ∷ cs) has = elim (cases_Bool c.begun) [
  | inl begun ↦ or_left c.begun (list_any (λ (x : PrimaryConnection). x.begun) (change_last f (d ∷ cs))) begun
  | inr new ↦ or_right c.begun (list_any (λ (x : PrimaryConnection). x.begun) (change_last f (d ∷ cs)))
      (changes f kept (d ∷ cs) (sym (ap (λ b. b || list_any (λ (x : PrimaryConnection). x.begun) (d ∷ cs)) new) ∙ has))
]

opens : (h : PrimaryHistory) (sync loss : ℕ) → HasBegun h → HasBegun (opened h sync loss)
opens h sync loss has =
    let new : PrimaryConnection = new_primary_connection sync loss h.tuple in
    list_any-append (λ (c : PrimaryConnection). c.begun) h.connections (new ∷ [])
    ∙ or_left (list_any (λ (c : PrimaryConnection). c.begun) h.connections) false has

submits : (h : PrimaryHistory) (first : ℕ) (contents : List (List ℕ)) → HasBegun h → HasBegun (submitted h first contents)
submits h first contents has = go (is_established (primary_connection h))
  where
    go : (b : Bool) → HasBegun (submitted_with b h first contents)
    go true = changes _ (λ c is. is) h.connections has
    go false = has

faults : (h : PrimaryHistory) (number : ℕ) (offsets : List ℕ) → HasBegun h → HasBegun (faulted number offsets h)
faults h number offsets has = go (accepted_at h number)
  where
    go : (v : Option Accepted) → HasBegun
        (faulted_by v number offsets h)
    go None = has
    go (Some accepted) = has

begins : (h : PrimaryHistory) (decided : Decision) → HasBegun h → HasBegun (begun_with decided h)
begins h NoSync has = changes _ (λ c is. refl) h.connections has
begins h BitmapSync has = changes _ (λ c is. refl) h.connections has
begins h FullSync has = changes _ (λ c is. refl) h.connections has

-- Every move keeps it.
begun-kept : IsKeptByMoves HasBegun HasBegun
begun-kept = record {
  following = following-from HasBegun HasBegun HasBegun (λ h has. has) (λ g over has. changes _ (λ c is. is) g.connections has) (λ g on has. has)
      (λ g over has. changes _ (λ c is. is) g.connections has) (λ g has. has);
  opens = λ h sync loss closed fresh has. opens h sync loss has;
  submits = λ h first contents may has. submits h first contents has;
  writes = λ h number waits has. has;
  faults = λ h number offsets waits has. faults h number offsets has;
  sends = λ h standing due has. changes _ (λ c is. is) h.connections has;
  greets = λ h frame standing new met has. changes _ (λ c is. is) h.connections has;
  begins = λ h peer decided standing new late is fresh has. begins _ decided (changes _ (λ c was. was) h.connections has);
  receives = λ h ack standing begun may has. changes _ (λ c is. is) h.connections has;
  applies = λ h ack standing begun may has. changes _ (λ c is. is) h.connections has;
  clears = λ h ack standing begun may has. changes _ (λ c is. is) h.connections has;
  confirms = λ h number size standing begun turn has. changes _ (λ c is. is) h.connections has;
  refuses = λ h frame peer standing has. changes (λ (c : PrimaryConnection). record c { closed = true }) (λ c is. is)
      (change_last refusing (change_last (with_frame frame) h.connections))
      (changes refusing (λ c is. is) (change_last (with_frame frame) h.connections) (changes (with_frame frame) (λ c is. is) h.connections has));
  resyncs = λ h block read may runs alone is has. changes _ (λ c is. is) h.connections has;
  closes = λ h standing has. changes _ (λ c is. is) h.connections has;
  receipts = λ h number has. has;
}

-- So does every run of a primary, from any history on.
pub begun-run : (events : List PrimaryEvent) (h : PrimaryHistory) → HasBegun h → HasBegun (primary_run events h)
begun-run events h has = keeps-run HasBegun HasBegun begun-kept (kept-by-releases HasBegun HasBegun (λ g marks is. is)) events h has
