-- A secondary whose identifiers were saved is kept.
use Rattle.std.proofs.Common.{◌≡◌, ◌∙◌, Bool, false, ◌&&◌, not, List, ℕ, [], ◌∷◌, ◌++◌, Option, Some, None, ap, refl, subst, sym}
use Rattle.std.specs.Prelude.{IfSome, is_some}
use Rattle.blocks.specs.declared.outcome.Reply.{Reply}
use Rattle.blocks.specs.declared.settings.Settings.{Settings}
use Rattle.blocks.specs.declared.tuple.Tuple.{Tuple}
use Rattle.kept_nodes.specs.Kept.{SaysSecondary, SecondaryIsKept}
use Rattle.kept_nodes.specs.Left.{Across, LosesNothing}
use Rattle.laws.proofs.Joining.Openings.{kept-opening-secondary}
use Rattle.metadata.specs.State.{MetadataState}
use Rattle.metadata.specs.declared.header.Header.{Header}
use Rattle.model.specs.LocalRuns.{SecondaryEvent, secondary_after, secondary_run}
use Rattle.model.specs.Secondary.{SecondaryHistory}
use Rattle.model.specs.Theorems.{Opening, secondary_at}
use Rattle.secondary.specs.State.{SecondaryView, node}
use Rattle.secondary_protocol.specs.Node.{IsReached, NodeHas, secondary_step}
use Rattle.session_nodes.specs.Secondaries.{SecondaryHas, SecondaryIsHad, SecondaryRuns, SecondarySteps}

-- The metadata is of the device of the node.

abbrev pub IsSized : {F : Type 0} → Option (MetadataState F) → SecondaryView → Type 0
IsSized m v = IfSome m (λ m. m.header.blocks ≡ v.core.settings.blocks)

-- an opening that leads to the history
abbrev from : {h : SecondaryHistory} → IsReached h → Opening
from r = record {
  settings = r.settings;
  peer_settings = r.settings;
  local = r.disk;
  peer = r.disk;
  own = r.tuple;
  peer_tuple = r.tuple;
  marks = λ block. false;
}

run-both : (one two : List SecondaryEvent) (h : SecondaryHistory) → secondary_run two (secondary_run one h) ≡ secondary_run (one ++ two) h
run-both [] two h = refl
run-both (event ∷ one) two h = run-both one two (secondary_after event h)

-- no event changes the settings
settings-run : (h : SecondaryHistory) (events : List SecondaryEvent) → IsReached h → (secondary_run events h).settings ≡ h.settings
settings-run h events r = subst (λ (x : SecondaryHistory). (secondary_run events x).settings ≡ x.settings) (sym r.reached)
    (ap (λ (x : SecondaryHistory). x.settings) (run-both r.events events (secondary_at (from r)))
    ∙ ((kept-opening-secondary (from r) (r.events ++ events)).settings ∙ sym (kept-opening-secondary (from r) r.events).settings))

sized-from : {F : Type 0} (m : Option (MetadataState F)) (is_doubted : Bool) (h later : SecondaryHistory) (w : SecondaryView) → SecondaryHas w later
    → later.settings ≡ h.settings → IfSome m (λ m. SaysSecondary m is_doubted h) → IsSized m w
sized-from None is_doubted h later w has same says = tt
sized-from (Some m) is_doubted h later w has same says = says.blocks ∙ ap (λ (x : Settings). x.blocks) (sym (has.has.leaves.core.settings ∙ same))

-- it is so after a run
pub sized-runs : {F : Type 0} (o : Option Opening) (v w : SecondaryView) (m : Option (MetadataState F)) (is_doubted : Bool) → SecondaryIsKept o v m is_doubted
    → SecondaryRuns v w → IsSized m w
sized-runs o v w m is_doubted had runs =
    let run = runs had.history had.has in
    sized-from m is_doubted had.history (secondary_run run.0 had.history) w run.1.1 (settings-run had.history run.0 had.has.has.reached) had.says

-- after an event
pub sized-steps : {F : Type 0} (o : Option Opening) (event : SecondaryEvent) (v w : SecondaryView) (reply : Reply) (m : Option (MetadataState F)) (is_doubted : Bool)
    → ((h : SecondaryHistory) → (secondary_step event h).1 ≡ secondary_after event h) → SecondaryIsKept o v m is_doubted → SecondarySteps event v reply w
    → IsSized m w
sized-steps o event v w reply m is_doubted is had steps =
    sized-from m is_doubted had.history (secondary_step event had.history).1 w (steps.after had.history had.has)
    (ap (λ (x : SecondaryHistory). x.settings) (is had.history) ∙ settings-run had.history (event ∷ []) had.has.has.reached) had.says

-- and where nothing happened
pub sized-still : {F : Type 0} (o : Option Opening) (v : SecondaryView) (m : Option (MetadataState F)) (is_doubted : Bool) → SecondaryIsKept o v m is_doubted
    → IsSized m v
sized-still o v m is_doubted had = sized-from m is_doubted had.history had.history v had.has refl had.says

-- Saved identifiers.

module _ {F : Type 0} (seen : F → List ℕ) (may_leave : F → List ℕ → Type 0) (faithful : F → Bool) where
  says-saved : (v : SecondaryView) (is_doubted : Bool) (tuple : Tuple) (consistent : Bool) (h : SecondaryHistory) (old new : Option (MetadataState F))
      → SecondaryHas v h → tuple ≡ h.tuple → consistent ≡ (h.consistent && not is_doubted) → IsSized old v
      → Across (LosesNothing seen may_leave faithful) old new
      → IfSome new (λ m. m.is_broken ≡ false → (m.identifiers.tuple ≡ tuple) × (m.identifiers.is_consistent ≡ consistent))
      → IfSome new (λ m. SaysSecondary m is_doubted h)
  says-saved v is_doubted tuple consistent h None None has same so sized lost saved = tt
  says-saved v is_doubted tuple consistent h None (Some new) has same so sized lost saved = absurd lost
  says-saved v is_doubted tuple consistent h (Some old) None has same so sized lost saved = absurd lost
  says-saved v is_doubted tuple consistent h (Some old) (Some new) has same so sized lost saved = record {
    blocks = ap (λ (x : Header). x.blocks) lost.header ∙ (sized ∙ ap (λ (x : Settings). x.blocks) has.has.leaves.core.settings);
    tuple = λ whole. (saved whole).0 ∙ same;
    consistent = λ whole. (saved whole).1 ∙ so;
  }

  pub kept-saved : (o : Option Opening) (v : SecondaryView) (is_doubted : Bool) (tuple : Tuple) (consistent : Bool) (old new : Option (MetadataState F))
      → SecondaryIsHad o v → ((h : SecondaryHistory) → NodeHas (node v) h → tuple ≡ h.tuple)
      → ((h : SecondaryHistory) → NodeHas (node v) h → consistent ≡ (h.consistent && not is_doubted)) → IsSized old v
      → Across (LosesNothing seen may_leave faithful) old new
      → IfSome new (λ m. m.is_broken ≡ false → (m.identifiers.tuple ≡ tuple) × (m.identifiers.is_consistent ≡ consistent))
      → SecondaryIsKept o v new is_doubted
  kept-saved o v is_doubted tuple consistent old new had same so sized lost saved = record {
    history = had.history;
    has = had.has;
    began = had.began;
    says = says-saved v is_doubted tuple consistent had.history old new had.has (same had.history had.has.has) (so had.history had.has.has) sized lost saved;
  }

  -- no metadata comes, and none goes
  pub there-still : (old new : Option (MetadataState F)) → Across (LosesNothing seen may_leave faithful) old new → is_some new ≡ is_some old
  there-still None None lost = refl
  there-still None (Some new) lost = absurd lost
  there-still (Some old) None lost = absurd lost
  there-still (Some old) (Some new) lost = refl

-- a node without metadata
pub secondary-unfiled : (F : Type 0) (o : Option Opening) (v : SecondaryView) (is_doubted : Bool) → SecondaryIsHad o v → SecondaryIsKept {F = F} o v None is_doubted
secondary-unfiled F o v is_doubted had = record {
  history = had.history;
  has = had.has;
  began = had.began;
  says = tt;
}
