-- What follows a step's effect keeps the homes of the writes and the journal's promises.
use Rattle.std.proofs.Common.{ℕ, ◌≡◌, ◌≢◌, inl, inr, Bool, true, false, ◌&&◌, [], ◌∷◌, ◌++◌, map, Option, Some, None, slice_get, refl, sym, ◌∙◌, ap}
use Rattle.std.proofs.Common.{subst}
use Rattle.std.specs.Prelude.{if◌then◌else◌, option_map}
use Rattle.std.proofs.lemmas.Bool.{cases_Bool}
use Rattle.std.proofs.lemmas.Option.{slice_get-map}
use Rattle.blocks.specs.Positions.{StreamPosition}
use Rattle.model.specs.Contents.{Write}
use Rattle.model.specs.Stream.{StreamItem, WriteItem, BarrierItem, UuidsItem, last_epoch}
use Rattle.model.specs.Identifiers.{sync_end}
use Rattle.model.specs.Primary.{Accepted, Linked, Alone, Completion, PrimaryConnection, PrimaryHistory, primary_connection, is_answered_by}
use Rattle.model.specs.Primary.{is_answered, is_open, completes}
use Rattle.model.specs.PrimarySteps.{newly_completed, completion_of, with_completions, epoch_is_over, appending, resync_is_over, ending_resync, follows}
use Rattle.laws.proofs.Rules.ResyncEnds.{over-established}
use Rattle.laws.proofs.Rules.EpochEnds.{over-standing}
use Rattle.laws.proofs.Primary.Moves.{following-from}
use Rattle.laws.proofs.Primary.Homes.{HasHomes, IsLinked, same-writes, homes-change}
use Rattle.laws.proofs.Lists.Elements.{get-split}
use Rattle.laws.proofs.Lists.Picks.{pick-filtered}
use Rattle.laws.proofs.Primary.Ends.{established-parts, keeps-appending}

-- an item that is no write goes to the end of the stream
pub homes-appending : (h : PrimaryHistory) (item : StreamItem) → ((write : Write) → item ≢ WriteItem write) → (primary_connection h).begun ≡ true → HasHomes h
    → HasHomes (appending item h)
homes-appending h item other begun homes =
    homes-change h (appending item h) (λ c. record c { stream = c.stream ++ item ∷ [] }) homes refl refl (same-writes h.writes) refl
    (keeps-appending h item other begun homes)

-- completions go to the journal
pub homes-completions : (h : PrimaryHistory) → HasHomes h → HasHomes (with_completions h)
homes-completions h homes = record {
  numbered = homes.numbered;
  housed = homes.housed;
  homed = homes.homed;
  empty = homes.empty;
  refused = homes.refused;
  journal = λ n entry at linked. elim (get-split h.journal (map (completion_of h) (newly_completed h)) n entry at) [
    | inl old ↦ homes.journal n entry old linked
    | inr new ↦ completed new.0 entry new.2 linked
  ];
}
  where
    -- an accepted write that is answered at home
    at-home : (accepted : Accepted) (i : ℕ) → slice_get h.writes i ≡ Some accepted → is_answered h accepted ≡ true
        → IsLinked h.settings.protocol h.connections (completion_of h accepted)
    at-home accepted i there answered = home accepted.home refl answered
      where
        home : (v : Option StreamPosition) → accepted.home ≡ v → elim v as (λ _. Bool) [
          | None ↦ false
          | Some at ↦ elim (slice_get h.connections at.index) as
              (λ _. Bool) [ None ↦ false | Some c ↦ is_answered_by h.settings.protocol c at.place (WriteItem accepted.write) ]
        ] ≡ true → IsLinked h.settings.protocol h.connections (completion_of h accepted)
        home None is answered = absurd (cc)
        home (Some at) is answered =
            let found = homes.housed i at.index at.place accepted there is in
            record {
              connection = at.index;
              place = at.place;
              end = found.0;
              home = is;
              there = found.1;
              item = found.2;
              answered = subst (λ (v : Option PrimaryConnection). elim v as
                  (λ _. Bool) [ None ↦ false | Some c ↦ is_answered_by h.settings.protocol c at.place (WriteItem accepted.write) ] ≡ true) found.1 answered;
            }

    kind-linked : (accepted : Accepted) → (completion_of h accepted).kind ≡ Linked → is_answered h accepted ≡ true
    kind-linked accepted k = elim (cases_Bool (is_answered h accepted)) [
      | inl answered ↦ answered
      | inr other ↦ let alone : (if is_answered h accepted then Linked else Alone) ≡ Alone = ap (λ b. if b then Linked
          else Alone) other in absurd (let e : Linked ≡ Alone = sym k ∙ alone in cc)
    ]

    completed : (m : ℕ) (entry : Completion) → slice_get (map (completion_of h) (newly_completed h)) m ≡ Some entry → entry.kind ≡ Linked
        → IsLinked h.settings.protocol h.connections entry
    completed m entry at linked = find (slice_get (newly_completed h) m) refl (sym (slice_get-map (completion_of h) (newly_completed h) m) ∙ at)
      where
        find : (v : Option Accepted) → slice_get (newly_completed h) m ≡ v → option_map (completion_of h) v ≡ Some entry
            → IsLinked h.settings.protocol h.connections entry
        find None is there = absurd (cc)
        find (Some accepted) is there =
            let same : completion_of h accepted ≡ entry = cc in
            let i = pick-filtered (λ a. is_open h a && completes h a) h.writes m accepted is in
            subst (λ (e : Completion). IsLinked h.settings.protocol h.connections e) same
            (at-home accepted i.0 i.1 (kind-linked accepted (ap (λ (e : Completion). e.kind) same ∙ linked)))

is-barrier-no-write : (epoch : ℕ) (write : Write) → BarrierItem epoch ≢ WriteItem write
is-barrier-no-write epoch write e = cc

-- a running resync has begun
pub runs-begun : (g : PrimaryHistory) → resync_is_over g ≡ true → (primary_connection g).begun ≡ true
runs-begun g over = (established-parts (primary_connection g) (over-established g over)).1

-- a resync ends
pub homes-ending : (g : PrimaryHistory) → resync_is_over g ≡ true → HasHomes g → HasHomes (ending_resync g)
homes-ending g over homes = homes-change g (ending_resync g) (λ c. record c { stream = c.stream ++ UuidsItem (sync_end g.tuple) ∷ [] }) homes refl refl
    (same-writes g.writes) refl
    (keeps-appending g (UuidsItem (sync_end g.tuple)) (λ write e. cc) (runs-begun g over) homes)

-- a barrier goes to the end of the stream
pub homes-parting : (g : PrimaryHistory) → epoch_is_over g ≡ true → HasHomes g → HasHomes (appending (BarrierItem (last_epoch (primary_connection g).stream)) g)
homes-parting g over homes =
    homes-appending g (BarrierItem (last_epoch (primary_connection g).stream)) (is-barrier-no-write (last_epoch (primary_connection g).stream))
    (established-parts (primary_connection g) (over-standing g over)).1 homes

-- all that follows a step
pub homes-following : (h : PrimaryHistory) → HasHomes h → HasHomes (follows h).history
homes-following = following-from HasHomes HasHomes HasHomes homes-completions homes-parting (λ g on homes. homes) homes-ending (λ g homes. homes)
