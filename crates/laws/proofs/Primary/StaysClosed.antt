-- A closed end of the primary stays as it is, whatever the run and wherever it began.
use Rattle.std.proofs.Common.{ℕ, ◌≡◌, inl, inr, Bool, true, false, not, List, ◌∷◌, [], Option, Some, None, slice_get, Ok, refl, sym, ◌∙◌}
use Rattle.std.proofs.Common.{subst, ◌++◌}
use Rattle.std.proofs.lemmas.Bool.{both_ways, not-true, and_parts}
use Rattle.blocks.specs.declared.tuple.Tuple.{Tuple}
use Rattle.blocks.specs.declared.outcome.Decision.{Decision}
use Rattle.blocks.specs.declared.outcome.Decision.TheVariants.{NoSync, BitmapSync, FullSync}
use Rattle.model.specs.Stream.{WriteItem, SyncUuidItem}
use Rattle.model.specs.Frames.{UuidsFrame}
use Rattle.model.specs.Primary.{Accepted, PrimaryConnection, PrimaryHistory, no_primary_connection, primary_connection, change_last, with_primary_connection}
use Rattle.model.specs.Primary.{is_established}
use Rattle.model.specs.Primary.{in_resync}
use Rattle.model.specs.PrimarySteps.{submission, submitted, faulted, accepted_at, submitted_with, faulted_by}
use Rattle.model.specs.Acknowledgements.{begun_with}
use Rattle.model.specs.LocalRuns.{PrimaryEvent, primary_run}
use Rattle.model.specs.Headline.{StaysClosed}
use Rattle.laws.proofs.Rules.ResyncEnds.{over-established}
use Rattle.laws.proofs.Rules.EpochEnds.{over-standing}
use Rattle.laws.proofs.Lists.Last.{get-change, change-twice}
use Rattle.laws.proofs.Primary.Moves.{following-from, IsKeptByMoves, IsKeptByReleases, kept-by-releases, keeps-run, with_frame, pushing}
use Rattle.laws.proofs.Lists.Elements.{get-left}
use Rattle.laws.proofs.Rules.RefusedFrames.{refused_out, refused-last}

-- an end that stands is open
pub open-established : (c : PrimaryConnection) → is_established c ≡ true → c.closed ≡ false
open-established c standing = not-true c.closed (and_parts (not c.closed) c.begun standing).0

-- only an open last end changes
stays-change : (p h later : PrimaryHistory) (f : PrimaryConnection → PrimaryConnection) → later.connections ≡ change_last f h.connections
    → (primary_connection h).closed ≡ false
    → StaysClosed p h → StaysClosed p later
stays-change p h later f connections standing stays = record {
  same = λ k c at closed. subst (λ (l : List PrimaryConnection). slice_get l k ≡ Some c) (sym connections)
      (elim (get-change f (no_primary_connection h.tuple) h.connections k c (stays.same k c at closed)) [
        | inl same ↦ same
        | inr changed ↦ absurd (both_ways (primary_connection h).closed standing (subst (λ (x : PrimaryConnection). x.closed ≡ true) changed.1 closed))
      ]);
}

-- no connection changes
stays-same : (p h later : PrimaryHistory) → later.connections ≡ h.connections → StaysClosed p h → StaysClosed p later
stays-same p h later connections stays =
    record { same = λ k c at closed. subst (λ (l : List PrimaryConnection). slice_get l k ≡ Some c) (sym connections) (stays.same k c at closed) }

stays-submits : (p h : PrimaryHistory) (first : ℕ) (contents : List (List ℕ)) → StaysClosed p h → StaysClosed p (submitted h first contents)
stays-submits p h first contents stays = go (is_established (primary_connection h)) refl
  where
    go : (b : Bool) → is_established (primary_connection h) ≡ b → StaysClosed p (submitted_with b h first contents)
    go true is = stays-change p h _ (λ c. record c { stream = c.stream ++ WriteItem (submission h first contents) ∷ [] }) refl
        (open-established (primary_connection h) is) stays
    go false is = stays-same p h _ refl stays

stays-faults : (p h : PrimaryHistory) (number : ℕ) (offsets : List ℕ) → StaysClosed p h → StaysClosed p (faulted number offsets h)
stays-faults p h number offsets stays = go (accepted_at h number)
  where
    go : (v : Option Accepted) → StaysClosed p
        (faulted_by v number offsets h)
    go None = stays
    go (Some accepted) = stays-same p h _ refl stays

stays-begins : (p h : PrimaryHistory) (peer : Tuple) (decided : Decision) → (primary_connection h).closed ≡ false → StaysClosed p h
    → StaysClosed p (begun_with decided (record (with_primary_connection (with_frame (Ok (UuidsFrame peer))) h) { peer = Some peer }))
stays-begins p h peer decided standing stays = go decided
  where
    taken : PrimaryHistory
    taken = record (with_primary_connection (with_frame (Ok (UuidsFrame peer))) h) { peer = Some peer }

    twice : (later : PrimaryHistory) (g : PrimaryConnection → PrimaryConnection)
        → later.connections ≡ change_last g (change_last (with_frame (Ok (UuidsFrame peer))) h.connections)
        → StaysClosed p later
    twice later g connections = stays-change p h later (λ c. g (with_frame (Ok (UuidsFrame peer)) c)) (connections
        ∙ change-twice (with_frame (Ok (UuidsFrame peer))) g h.connections) standing stays

    go : (v : Decision) → StaysClosed p (begun_with v (record (with_primary_connection (with_frame (Ok (UuidsFrame peer))) h) { peer = Some peer }))
    go NoSync = twice _ (λ c. record c { begun = true }) refl
    go BitmapSync = twice _ (λ c. record c { begun = true; stream = SyncUuidItem (primary_connection taken).sync ∷ [] }) refl
    go FullSync = twice _ (λ c. record c { begun = true; stream = SyncUuidItem (primary_connection taken).sync ∷ [] }) refl

stays-kept : (p : PrimaryHistory) → IsKeptByMoves (StaysClosed p) (StaysClosed p)
stays-kept p = record {
  following = following-from (StaysClosed p) (StaysClosed p) (StaysClosed p) (λ h stays. stays-same p h _ refl stays)
      (λ g over stays. stays-change p g _ _ refl (open-established (primary_connection g) (over-standing g over)) stays) (λ g on stays. stays)
      (λ g over stays. stays-change p g _ _ refl (open-established (primary_connection g) (over-established g over)) stays) (λ g stays. stays);
  opens = λ h sync loss closed fresh stays. record { same = λ k c at was. get-left h.connections _ k c (stays.same k c at was) };
  submits = λ h first contents may stays. stays-submits p h first contents stays;
  writes = λ h number waiting stays. stays-same p h _ refl stays;
  faults = λ h number offsets waiting stays. stays-faults p h number offsets stays;
  sends = λ h standing due stays. stays-change p h _ pushing refl standing stays;
  greets = λ h frame standing new met stays. stays-change p h _ (with_frame frame) refl standing stays;
  begins = λ h peer decided standing new late is fresh stays. stays-begins p h peer decided standing stays;
  receives = λ h ack standing begun may stays. stays-change p h _ (with_frame _) refl standing stays;
  applies = λ h ack standing begun may stays. stays-change p h _ (with_frame _) refl standing stays;
  clears = λ h ack standing begun may stays. stays-change p h _ (with_frame _) refl standing stays;
  confirms = λ h number size standing begun turn stays. stays-change p h _ (with_frame _) refl standing stays;
  refuses = λ h frame peer standing stays. stays-change p h _ (refused_out frame)
      (refused-last frame peer h) standing stays;
  resyncs = λ h block read may runs alone is stays. stays-change p h _ _ refl
      (open-established (primary_connection h) (and_parts (is_established (primary_connection h)) (in_resync (primary_connection h).stream) runs).0) stays;
  closes = λ h standing stays. stays-change p h _ (λ c. record c { closed = true }) refl standing stays;
  receipts = λ h number stays. stays-same p h _ refl stays;
}

stays-released : (p : PrimaryHistory) → IsKeptByReleases (StaysClosed p) (StaysClosed p)
stays-released p = kept-by-releases (StaysClosed p) (StaysClosed p) (λ h marks stays. stays-same p h _ refl stays)

-- A closed end of the primary stays as it is in every run, from any history on.
pub primary_stays_closed : (events : List PrimaryEvent) (p : PrimaryHistory) → StaysClosed p (primary_run events p)
primary_stays_closed events p = keeps-run (StaysClosed p) (StaysClosed p) (stays-kept p) (stays-released p) events p (record { same = λ k c at closed. at })
