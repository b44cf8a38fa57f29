-- The marks that a stop leaves cover every block on which the disks that it leaves differ, after a grounded history.
use Rattle.std.proofs.Common.{ℕ, ◌≡◌, ◌<◌, inl, inr, Bool, true, not, nat_lt, sym, ◌∙◌, subst}
use Rattle.std.specs.Prelude.{is_some}
use Rattle.std.specs.List.{list_any}
use Rattle.std.proofs.lemmas.Bool.{cases_Bool, both_ways, and_parts, and_from, or_cases, ltb-true, lt-ltb}
use Rattle.laws.proofs.Accounted.Released.{accounted-run}
use Rattle.laws.proofs.Accounted.Steps.{covered-inside}
use Rattle.laws.proofs.Blocks.SameBlocks.{same-equal, equal-same}
use Rattle.laws.proofs.Joining.Openings.{kept-opening-secondary}
use Rattle.laws.proofs.Lists.Picks.{pick-any, pick-filtered}
use Rattle.laws.proofs.Theorems.JoinedHeadline.{joined_covers}
use Rattle.model.specs.Contents.{BlockMap, covers}
use Rattle.model.specs.Headline.{Cover, IsGrounded, is_covered, is_marked, opening_marked}
use Rattle.model.specs.Pair.{same_block}
use Rattle.model.specs.Primary.{Accepted, PrimaryHistory, is_released, unreleased, local_map}
use Rattle.model.specs.Secondary.{SecondaryHistory, secondary_map}
use Rattle.model.specs.Theorems.{Opening, IsSoundOpening}
use Rattle.stops.specs.Stops.{Stopped, MayBeLeft, known_at, primary_of, secondary_of, done_of}

module _ (o : Opening) (w : Stopped o) (marks : ℕ → Bool) (local peer : BlockMap) (sound : IsSoundOpening o)
    (left : MayBeLeft (primary_of o w) (secondary_of o w) (done_of o w) marks local peer) where
  abbrev p : PrimaryHistory
  p = primary_of o w

  abbrev s : SecondaryHistory
  s = secondary_of o w

  abbrev t : SecondaryHistory
  t = done_of o w

  -- a covered block is of the device
  inside : (block : ℕ) → is_covered (primary_of o w) block ≡ true → block < (primary_of o w).settings.blocks
  inside block covered = elim (or_cases (is_marked p block) (list_any (λ (x : Accepted). covers x.write block) (unreleased p)) covered) [
    | inl marked ↦ ltb-true block p.settings.blocks (and_parts (nat_lt block p.settings.blocks) (p.marks block) marked).0
    | inr under ↦
        let some = pick-any (λ (x : Accepted). covers x.write block) (unreleased p) under in
        let stood = pick-filtered (λ (x : Accepted). not (is_released p x)) p.writes some.0 some.1 some.2 in
        covered-inside p (accounted-run o.settings o.local o.own o.marks w.here sound.ranges.here within).1.known stood.0 block some.1 stood.1 some.3
  ]
    where
      within : (block : ℕ) → block < o.settings.blocks → is_some (o.local block) ≡ true
      within block inside = sound.local block ∙ lt-ltb block o.settings.blocks inside

  -- so it is among the marks
  known : (block : ℕ) → is_covered (primary_of o w) block ≡ true → known_at (primary_of o w) marks block ≡ true
  known block covered =
      let low = inside block covered in
      and_from (nat_lt block p.settings.blocks) (marks block) (lt-ltb block p.settings.blocks low) (left.covered block low covered)

  -- the history is grounded for the secondary with its items done
  too : IsGrounded (primary_of o w) (secondary_of o w) → IsGrounded (primary_of o w) (done_of o w)
  too grounded = (
    grounded.0,
    elim grounded.1 [
      | inl begun ↦ inl begun
      | inr cover ↦ inr (subst (λ (m : BlockMap). Cover (opening_marked p) p.opening_map m)
          ((kept-opening-secondary o w.there).disk ∙ sym (kept-opening-secondary o w.done).disk) cover)
    ],
  )

  pub covers_all : IsGrounded (primary_of o w) (secondary_of o w) → Cover (known_at (primary_of o w) marks) local peer
  covers_all grounded block differs = elim (cases_Bool (known_at p marks block)) [
    | inl is ↦ is
    | inr clean ↦ elim (cases_Bool (same_block (secondary_map s block) (secondary_map t block))) [
      | inl still ↦ known block ((joined_covers o w.here w.there sound w.joined).covered grounded block
          (sym (λ i. same_block (left.here block clean i) (left.there block clean still i)) ∙ differs))
      | inr moved ↦ elim (cases_Bool (same_block (local_map p block) (secondary_map s block))) [
        | inr other ↦ known block ((joined_covers o w.here w.there sound w.joined).covered grounded block other)
        | inl one ↦ elim (cases_Bool (same_block (local_map p block) (secondary_map t block))) [
          | inr other ↦ known block ((joined_covers o w.here w.done sound w.joined_done).covered (too grounded) block other)
          | inl two ↦ absurd (both_ways (same_block (secondary_map s block) (secondary_map t block)) moved
              (equal-same (secondary_map s block) (secondary_map t block)
              (sym (same-equal (local_map p block) (secondary_map s block) one) ∙ same-equal (local_map p block) (secondary_map t block) two)))
        ]
      ]
    ]
  ]
