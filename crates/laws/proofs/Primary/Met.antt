-- A stream begins only where the peer's device is of the primary's size: its SIZES frame was taken and accepted before.
use Rattle.std.proofs.Common.{ℕ, ◌≡◌, ◌<◌, ◌⊎◌, inl, inr, Bool, true, false, List, [], ◌∷◌, ◌++◌, length, Option, Some, None, slice_get, Ok, refl, sym, ◌∙◌, ap}
use Rattle.std.proofs.Common.{subst, arith, length-append, ◌-◌}
use Rattle.std.specs.Prelude.{unwrap_or}
use Rattle.std.proofs.lemmas.Bool.{both_ways}
use Rattle.blocks.specs.declared.settings.Settings.{Settings}
use Rattle.blocks.specs.declared.tuple.Tuple.{Tuple}
use Rattle.blocks.specs.declared.outcome.Decision.{Decision}
use Rattle.blocks.specs.declared.outcome.Decision.TheVariants.{NoSync, BitmapSync, FullSync}
use Rattle.model.specs.Stream.{StreamItem, WriteItem, ResyncItem, BarrierItem, SyncUuidItem, UuidsItem, last_epoch}
use Rattle.model.specs.Frames.{Received, SizesFrame, UuidsFrame, RsWriteAckFrame}
use Rattle.model.specs.Identifiers.{sync_end}
use Rattle.model.specs.Primary.{Accepted, PrimaryConnection, PrimaryHistory, no_primary_connection, primary_connection, change_last, with_primary_connection}
use Rattle.model.specs.Primary.{is_established}
use Rattle.model.specs.Primary.{local_map, primary_opening}
use Rattle.model.specs.PrimarySteps.{submission, submitted, faulted, accepted_at, closing, submitted_with, faulted_by, given}
use Rattle.model.specs.Acknowledgements.{begun_with}
use Rattle.model.specs.LocalRuns.{PrimaryEvent, primary_run}
use Rattle.laws.proofs.Lists.Each.{Each, each-append, each-change}
use Rattle.laws.proofs.Lists.Elements.{get-left, get-end}
use Rattle.laws.proofs.Lists.Last.{change-twice}
use Rattle.laws.proofs.Primary.Moves.{IsKeptByMoves, IsKeptByReleases, kept-by-releases, IsGreeting, following-from, keeps-run, with_frame, pushing}
use Rattle.laws.proofs.Primary.Homes.{HasHomes, open-at}
use Rattle.laws.proofs.Primary.HomesMoves.{homes-kept, homes-marks, homes-opening}
use Rattle.laws.proofs.Primary.Ends.{not-refused}
use Rattle.model.specs.Contents.{BlockMap}
use Rattle.laws.proofs.Rules.RefusedFrames.{refused_out, refused-last}

-- An end that has begun took the peer's size, which is its own; so did one that has refused nothing and took two frames.
pub record HasMet (settings : Settings) (c : PrimaryConnection) : Type 0 where
  pub sized : (c.begun ≡ true) ⊎ (c.refused ≡ false) → 1 < length c.taken → slice_get c.taken 1 ≡ Some (Ok (SizesFrame settings.blocks))
  pub late : c.begun ≡ true → 1 < length c.taken

-- all ends have, under these settings
pub record AllMet (settings : Settings) (h : PrimaryHistory) : Type 0 where
  pub setting : h.settings ≡ settings
  pub ends : Each (HasMet settings) h.connections

-- a change that touches neither what was taken nor how the end stands
met-as : (settings : Settings) (c d : PrimaryConnection) → d.taken ≡ c.taken → d.begun ≡ c.begun → d.refused ≡ c.refused → HasMet settings c → HasMet settings d
met-as settings c d taken begun refused m = record {
  sized = λ either long. rw taken (m.sized (elim either [ inl is ↦ inl (sym begun ∙ is) | inr is ↦ inr (sym refused ∙ is) ]) (rw (← taken) long));
  late = λ is. rw taken (m.late (sym begun ∙ is));
}

-- a frame more, at an end that has begun
met-more : (settings : Settings) (c d : PrimaryConnection) (frame : Received) → d.taken ≡ c.taken ++ frame ∷ [] → c.begun ≡ true → HasMet settings c
    → HasMet settings d
met-more settings c d frame taken begun m =
    let long = m.late begun in
    record {
      sized = λ either more. rw taken (get-left c.taken (frame ∷ []) 1 (Ok (SizesFrame settings.blocks)) (m.sized (inl begun) long));
      late = λ is. rw taken (let size = length-append c.taken (frame ∷ []) in omega arith);
    }

module _ (settings : Settings) where
  abbrev Kept : PrimaryHistory → Type 0
  Kept h = AllMet settings h

  -- the last connection changes
  met-change : (h later : PrimaryHistory) (f : PrimaryConnection → PrimaryConnection) → Kept h → later.settings ≡ h.settings
      → later.connections ≡ change_last f h.connections
      → (HasMet settings (primary_connection h) → HasMet settings (f (primary_connection h))) → Kept later
  met-change h later f all same connections keeps = record {
    setting = same ∙ all.setting;
    ends = rw connections (each-change (HasMet settings) f (no_primary_connection h.tuple) h.connections all.ends keeps);
  }

  -- no connection changes
  met-still : (h later : PrimaryHistory) → Kept h → later.settings ≡ h.settings → later.connections ≡ h.connections → Kept later
  met-still h later all same connections = record { setting = same ∙ all.setting; ends = rw connections all.ends }

  met-appending : (item : StreamItem) (h later : PrimaryHistory) → Kept h → later.settings ≡ h.settings
      → later.connections ≡ change_last (λ c. record c { stream = c.stream ++ item ∷ [] }) h.connections → Kept later
  met-appending item h later all same connections = met-change h later (λ c. record c { stream = c.stream ++ item ∷ [] }) all same connections
      (λ m. met-as settings (primary_connection h) _ refl refl refl m)

  met-submits : (h : PrimaryHistory) (first : ℕ) (contents : List (List ℕ)) → Kept h → Kept (submitted h first contents)
  met-submits h first contents all = go (is_established (primary_connection h))
    where
      go : (b : Bool) → Kept (submitted_with b h first contents)
      go true = met-appending (WriteItem (submission h first contents)) h _ all refl refl
      go false = met-still h _ all refl refl

  met-faults : (h : PrimaryHistory) (number : ℕ) (offsets : List ℕ) → Kept h → Kept (faulted number offsets h)
  met-faults h number offsets all = go (accepted_at h number)
    where
      go : (v : Option Accepted) → Kept
          (faulted_by v number offsets h)
      go None = all
      go (Some accepted) = met-still h _ all refl refl

  met-taking : (h : PrimaryHistory) (frame : Received) → (primary_connection h).begun ≡ true → Kept h → Kept (with_primary_connection (with_frame frame) h)
  met-taking h frame begun all = met-change h _ (with_frame frame) all refl refl
      (λ m. met-more settings (primary_connection h) (with_frame frame (primary_connection h)) frame refl begun m)

  met-greets : (h : PrimaryHistory) (frame : Received) → (primary_connection h).begun ≡ false → IsGreeting h frame → Kept h
      → Kept (with_primary_connection (with_frame frame) h)
  met-greets h frame new met all = met-change h _ (with_frame frame) all refl refl (λ m. record {
    sized = λ either long. elim met [
      | inl first ↦ absurd (let none = first.0 in let size = length-append (primary_connection h).taken (frame ∷ []) in omega arith)
      | inr second ↦
          let one : 1 ≡ length (primary_connection h).taken = sym second.0 in
          let same : h.settings.blocks ≡ settings.blocks = ap (λ (s : Settings). s.blocks) all.setting in
          let there : slice_get ((primary_connection h).taken ++ frame ∷ []) 1 ≡ Some frame =
          subst (λ (n : ℕ). slice_get ((primary_connection h).taken ++ frame ∷ []) n ≡ Some frame)
          (sym one) (get-end (primary_connection h).taken frame) in
          there ∙ (ap (λ (f : Received). Some f) second.1 ∙ ap (λ (n : ℕ). Some (Ok (SizesFrame n))) same)
    ];
    late = λ begun. absurd (both_ways (primary_connection h).begun new begun);
  })

  met-begins : (h : PrimaryHistory) (peer : Tuple) (decided : Decision) → (primary_connection h).closed ≡ false → (primary_connection h).begun ≡ false
      → 1 < length (primary_connection h).taken
      → ((primary_connection h).refused ≡ false) → Kept h
      → Kept (begun_with decided (record (with_primary_connection (with_frame (Ok (UuidsFrame peer))) h) { peer = Some peer }))
  met-begins h peer decided standing new late plain all = go decided
    where
      frame : Received
      frame = Ok (UuidsFrame peer)

      one : (later : PrimaryHistory) (g : PrimaryConnection → PrimaryConnection) → later.settings ≡ h.settings
          → later.connections ≡ change_last g (change_last (with_frame (Ok (UuidsFrame peer))) h.connections)
          → (g (with_frame (Ok (UuidsFrame peer)) (primary_connection h))).taken ≡ (primary_connection h).taken ++ Ok (UuidsFrame peer) ∷ [] → Kept later
      one later g same connections taken = met-change h later (λ c. g (with_frame (Ok (UuidsFrame peer)) c)) all same (connections
          ∙ change-twice (with_frame (Ok (UuidsFrame peer))) g h.connections) (λ m. record {
            sized = λ either long. rw taken (get-left (primary_connection h).taken (frame ∷ []) 1 (Ok (SizesFrame settings.blocks)) (m.sized (inr plain) late));
            late = λ begun. rw taken (let size = length-append (primary_connection h).taken (frame ∷ []) in omega arith);
          })

      go : (v : Decision) → Kept (begun_with v (record (with_primary_connection (with_frame (Ok (UuidsFrame peer))) h) { peer = Some peer }))
      go NoSync = one _ (λ c. record c { begun = true }) refl refl refl
      go BitmapSync = one _ (λ c. record c {
        begun = true;
        stream = SyncUuidItem (primary_connection (with_primary_connection (with_frame (Ok (UuidsFrame peer))) h)).sync ∷ [];
      })
          refl refl refl
      go FullSync = one _ (λ c. record c {
        begun = true;
        stream = SyncUuidItem (primary_connection (with_primary_connection (with_frame (Ok (UuidsFrame peer))) h)).sync ∷ [];
      }) refl
          refl refl

  met-closing : (h later : PrimaryHistory) (frame : Received) → later.settings ≡ h.settings
      → later.connections ≡ change_last (refused_out frame) h.connections → Kept h → Kept later
  met-closing h later frame same connections all = met-change h later (refused_out frame) all same
      connections (λ m. record {
        sized = λ either long. elim either [
          | inl begun ↦ get-left (primary_connection h).taken (frame ∷ []) 1 (Ok (SizesFrame settings.blocks)) (m.sized (inl begun) (m.late begun))
          | inr plain ↦ absurd (cc)
        ];
        late = λ begun. let long = m.late begun in let size = length-append (primary_connection h).taken (frame ∷ []) in omega arith;
      })

  -- homes and sizes, kept by every move
  abbrev Both : PrimaryHistory → Type 0
  Both h = HasHomes h × AllMet settings h

  met-kept : IsKeptByMoves Both Both
  met-kept = record {
    following = λ h p. (
      homes-kept.following h p.0,
      following-from Kept Kept Kept (λ h all. met-still h _ all refl refl)
          (λ g over all. met-appending (BarrierItem (last_epoch (primary_connection g).stream)) g _ all refl refl) (λ g on all. all)
          (λ g over all. met-appending (UuidsItem (sync_end g.tuple)) g _ all refl refl) (λ g all. all) h p.1,
    );
    opens = λ h sync loss closed fresh p. (
      homes-kept.opens h sync loss closed fresh p.0,
      record {
        setting = p.1.setting;
        ends = each-append (HasMet settings) h.connections _ p.1.ends (record { sized = λ either long. absurd (omega arith); late = λ begun. absurd (cc) });
      },
    );
    submits = λ h first contents may p. (homes-kept.submits h first contents may p.0, met-submits h first contents p.1);
    writes = λ h number waiting p. (homes-kept.writes h number waiting p.0, met-still h _ p.1 refl refl);
    faults = λ h number offsets waiting p. (homes-kept.faults h number offsets waiting p.0, met-faults h number offsets p.1);
    sends = λ h standing due p. (
      homes-kept.sends h standing due p.0,
      met-change h _ pushing p.1 refl refl (λ m. met-as settings (primary_connection h) _ refl refl refl m),
    );
    greets = λ h frame standing new met p. (homes-kept.greets h frame standing new met p.0, met-greets h frame new met p.1);
    begins = λ h peer decided standing new late is fresh p. (
      homes-kept.begins h peer decided standing new late is fresh p.0,
      met-begins h peer decided standing new late (not-refused h p.0 standing (length h.connections - 1) (open-at h standing)) p.1,
    );
    receives = λ h ack standing begun may p. (homes-kept.receives h ack standing begun may p.0, met-taking h _ begun p.1);
    applies = λ h ack standing begun may p. (homes-kept.applies h ack standing begun may p.0, met-taking h _ begun p.1);
    clears = λ h ack standing begun may p. (
      homes-kept.clears h ack standing begun may p.0,
      met-still (with_primary_connection (with_frame (Ok (RsWriteAckFrame ack))) h) _ (met-taking h _ begun p.1) refl refl,
    );
    confirms = λ h number size standing begun turn p. (homes-kept.confirms h number size standing begun turn p.0, met-taking h _ begun p.1);
    refuses = λ h frame peer standing p. (
      homes-kept.refuses h frame peer standing p.0,
      met-closing h _ frame refl
          (refused-last frame peer h) p.1,
    );
    resyncs = λ h block read may runs alone is p. (
      homes-kept.resyncs h block read may runs alone is p.0,
      met-appending (ResyncItem block (given read h block)) h _ p.1 refl refl,
    );
    closes = λ h standing p. (
      homes-kept.closes h standing p.0,
      met-change h (closing h) (λ c. record c { closed = true }) p.1 refl refl (λ m. met-as settings (primary_connection h) _ refl refl refl m),
    );
    receipts = λ h number p. (homes-kept.receipts h number p.0, met-still h _ p.1 refl refl);
  }

  met-released : IsKeptByReleases Both Both
  met-released = kept-by-releases Both Both (λ h marks p. (homes-marks h marks p.0, met-still h _ p.1 refl refl))

-- In every run of a primary each end that has begun took the peer's size, which is its own.
pub primary-met : (settings : Settings) (disk : BlockMap) (tuple : Tuple) (marks : ℕ → Bool) (events : List PrimaryEvent)
    → AllMet settings (primary_run events (primary_opening settings disk tuple marks))
primary-met settings disk tuple marks events =
    (keeps-run (Both settings) (Both settings) (met-kept settings) (met-released settings) events (primary_opening settings disk tuple marks)
    (homes-opening settings disk tuple marks, record { setting = refl; ends = tt })).1
