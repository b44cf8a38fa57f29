-- A primary on which no stream began has copied nothing in a resync: its history is faithful.
use Rattle.std.proofs.Common.{ℕ, ◌≡◌, ◌-◌, ◌⊎◌, inl, inr, Bool, true, false, List, [], ◌∷◌, ◌++◌, length, Option, Some, None, Ok, refl, sym, ap, subst}
use Rattle.std.specs.Prelude.{IsTrue}
use Rattle.std.specs.List.{list_any}
use Rattle.std.proofs.lemmas.Bool.{and_parts, both_ways}
use Rattle.blocks.specs.declared.outcome.Decision.{Decision}
use Rattle.blocks.specs.declared.outcome.Decision.TheVariants.{NoSync, BitmapSync, FullSync}
use Rattle.laws.specs.Reflections.{NoneBegan}
use Rattle.laws.proofs.Lists.Elements.{get-left}
use Rattle.laws.proofs.Lists.Last.{get-change, last-at}
use Rattle.laws.proofs.Lists.Picks.{any-pick, pick-any}
use Rattle.laws.proofs.Primary.Ends.{established-parts}
use Rattle.laws.proofs.Primary.Moves.{following-from, IsKeptByMoves, kept-by-releases, keeps-run, with_frame, pushing}
use Rattle.laws.proofs.Rules.RefusedFrames.{refused_out, refused-last}
use Rattle.model.specs.Acknowledgements.{begun_with}
use Rattle.model.specs.Frames.{UuidsFrame}
use Rattle.model.specs.LocalRuns.{PrimaryEvent, primary_run}
use Rattle.model.specs.Primary.{Accepted, PrimaryConnection, PrimaryHistory, change_last, in_resync, is_established, last_of, no_primary_connection}
use Rattle.model.specs.Primary.{primary_connection, resync_runs, with_primary_connection}
use Rattle.model.specs.PrimarySteps.{accepted_at, faulted, faulted_by, submission, submitted, submitted_with}
use Rattle.model.specs.Stream.{SyncUuidItem, WriteItem}
use Rattle.model.specs.Theorems.{Opening, primary_at}

-- some stream has begun
abbrev HasBegun : List PrimaryConnection → Type 0
HasBegun cs = list_any (λ (c : PrimaryConnection). c.begun) cs ≡ true

-- the history is faithful, or some stream has begun
record IsPlain (h : PrimaryHistory) : Type 0 where
  either : IsTrue h.faithful ⊎ HasBegun h.connections

begun-change : (f : PrimaryConnection → PrimaryConnection) (none : PrimaryConnection) → ((c : PrimaryConnection) → c.begun ≡ true → (f c).begun ≡ true)
    → (cs : List PrimaryConnection) → HasBegun cs → HasBegun (change_last f cs)
begun-change f none keeps cs begun =
    let some = pick-any (λ (c : PrimaryConnection). c.begun) cs begun in
    elim (get-change f none cs some.0 some.1 some.2) [
      | inl same ↦ any-pick (λ (c : PrimaryConnection). c.begun) (change_last f cs) some.0 some.1 same some.3
      | inr changed ↦ any-pick (λ (c : PrimaryConnection). c.begun) (change_last f cs) some.0 (f some.1) changed.0 (keeps some.1 some.3)
    ]

begun-more : (cs : List PrimaryConnection) (c : PrimaryConnection) → HasBegun cs → HasBegun (cs ++ c ∷ [])
begun-more cs c begun =
    let some = pick-any (λ (c : PrimaryConnection). c.begun) cs begun in
    any-pick (λ (c : PrimaryConnection). c.begun) (cs ++ c ∷ []) some.0 some.1 (get-left cs (c ∷ []) some.0 some.1 some.2) some.3

-- the last connection changes, and what was copied does not
plain-change : (h later : PrimaryHistory) (f : PrimaryConnection → PrimaryConnection) → later.connections ≡ change_last f h.connections
    → later.faithful ≡ h.faithful → ((c : PrimaryConnection) → c.begun ≡ true → (f c).begun ≡ true) → IsPlain h → IsPlain later
plain-change h later f connections faithful keeps plain = record {
  either = elim plain.either [
    | inl is ↦ inl (subst IsTrue (sym faithful) is)
    | inr begun ↦ inr (subst HasBegun (sym connections) (begun-change f (no_primary_connection h.tuple) keeps h.connections begun))
  ];
}

-- neither changes
plain-same : (h later : PrimaryHistory) → later.connections ≡ h.connections → later.faithful ≡ h.faithful → IsPlain h → IsPlain later
plain-same h later connections faithful plain = record {
  either = elim plain.either [ inl is ↦ inl (subst IsTrue (sym faithful) is) | inr begun ↦ inr (subst HasBegun (sym connections) begun) ];
}

plain-submits : (h : PrimaryHistory) (first : ℕ) (contents : List (List ℕ)) → IsPlain h → IsPlain (submitted h first contents)
plain-submits h first contents is = go (is_established (primary_connection h))
  where
    go : (b : Bool) → IsPlain (submitted_with b h first contents)
    go true = plain-change h (submitted_with true h first contents) (λ c. record c { stream = c.stream ++ WriteItem (submission h first contents) ∷ [] }) refl refl (λ c was. was) is
    go false = plain-same h (submitted_with false h first contents) refl refl is

plain-faults : (h : PrimaryHistory) (number : ℕ) (offsets : List ℕ) → IsPlain h → IsPlain (faulted number offsets h)
plain-faults h number offsets is = go (accepted_at h number)
  where
    go : (v : Option Accepted) → IsPlain (faulted_by v number offsets h)
    go None = is
    go (Some accepted) = plain-same h (faulted_by (Some accepted) number offsets h) refl refl is

plain-begins : (h : PrimaryHistory) (decided : Decision) → IsPlain h → IsPlain (begun_with decided h)
plain-begins h NoSync is = plain-change h (begun_with NoSync h) (λ c. record c { begun = true }) refl refl (λ c was. refl) is
plain-begins h BitmapSync is =
    plain-change h (begun_with BitmapSync h) (λ c. record c { begun = true; stream = SyncUuidItem (primary_connection h).sync ∷ [] }) refl refl (λ c was. refl) is
plain-begins h FullSync is =
    plain-change h (begun_with FullSync h) (λ c. record c { begun = true; stream = SyncUuidItem (primary_connection h).sync ∷ [] }) refl refl (λ c was. refl) is

-- a resync runs only where a stream has begun
runs-begun : (h : PrimaryHistory) → resync_runs (primary_connection h) ≡ true → HasBegun h.connections
runs-begun h runs =
    let begun = (established-parts (primary_connection h)
    (and_parts (is_established (primary_connection h)) (in_resync (primary_connection h).stream) runs).0).1 in
    elim (last-at (no_primary_connection h.tuple) h.connections) [
      | inl none ↦ absurd (both_ways (primary_connection h).begun
          (ap (λ (l : List PrimaryConnection). (last_of (no_primary_connection h.tuple) l).begun) none) begun)
      | inr at ↦ any-pick (λ (c : PrimaryConnection). c.begun) h.connections (length h.connections - 1) (primary_connection h) at begun
    ]

plain-kept : IsKeptByMoves IsPlain IsPlain
plain-kept = record {
  following = following-from IsPlain IsPlain IsPlain (λ h is. plain-same h _ refl refl is) (λ g over is. plain-change g _ _ refl refl (λ c was. was) is) (λ g on is. is)
      (λ g over is. plain-change g _ _ refl refl (λ c was. was) is) (λ g is. is);
  opens = λ h sync loss closed fresh is. record { either = elim is.either [ inl faithful ↦ inl faithful | inr begun ↦ inr (begun-more h.connections _ begun) ] };
  submits = λ h first contents may is. plain-submits h first contents is;
  writes = λ h number waits is. plain-same h _ refl refl is;
  faults = λ h number offsets waits is. plain-faults h number offsets is;
  sends = λ h standing due is. plain-change h _ pushing refl refl (λ c was. was) is;
  greets = λ h frame standing new met is. plain-change h _ (with_frame frame) refl refl (λ c was. was) is;
  begins = λ h peer decided standing new late at fresh is. plain-begins _ decided
      (plain-change h (record (with_primary_connection (with_frame (Ok (UuidsFrame peer))) h) { peer = Some peer }) (with_frame (Ok (UuidsFrame peer))) refl refl (λ c was. was) is);
  receives = λ h ack standing begun may is. plain-change h _ (with_frame _) refl refl (λ c was. was) is;
  applies = λ h ack standing begun may is. plain-change h _ (with_frame _) refl refl (λ c was. was) is;
  clears = λ h ack standing begun may is. plain-change h _ (with_frame _) refl refl (λ c was. was) is;
  confirms = λ h number size standing begun turn is. plain-change h _ (with_frame _) refl refl (λ c was. was) is;
  refuses = λ h frame peer standing is. plain-change h _ (refused_out frame) (refused-last frame peer h) refl (λ c was. was) is;
  resyncs = λ h block read may runs alone at is. record {
    either = inr (begun-change _ (no_primary_connection h.tuple) (λ c was. was) h.connections (runs-begun h runs));
  };
  closes = λ h standing is. plain-change h _ (λ c. record c { closed = true }) refl refl (λ c was. was) is;
  receipts = λ h number is. plain-same h _ refl refl is;
}

pub alone-faithful : (q : Opening) (events : List PrimaryEvent) → NoneBegan (primary_run events (primary_at q))
    → IsTrue (primary_run events (primary_at q)).faithful
alone-faithful q events none = elim (keeps-run IsPlain IsPlain plain-kept (kept-by-releases IsPlain IsPlain (λ h marks is. plain-same h _ refl refl is)) events
    (primary_at q) (record { either = inl refl })).either [
      | inl faithful ↦ faithful
      | inr begun ↦ absurd (
          let some = pick-any (λ (c : PrimaryConnection). c.begun) (primary_run events (primary_at q)).connections begun in
          both_ways some.1.begun (none.none some.0 some.1 some.2) some.3)
    ]
