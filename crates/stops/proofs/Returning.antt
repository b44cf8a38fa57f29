-- Why the old primary may come back to the secondary that went on alone, however many sessions it ran.
use Rattle.std.proofs.Common.{ℕ, ◌≡◌, ◌<◌, inl, inr, Bool, true, false, ◌&&◌, ◌||◌, nat_lt, List, [], ◌∷◌, Option, Some, None, slice_get, sym, ◌∙◌, ap, subst}
use Rattle.std.proofs.Common.{refl, arith}
use Rattle.std.specs.Prelude.{is_some}
use Rattle.std.proofs.lemmas.Bool.{cases_Bool, both_ways, and_parts, and_from, or_left, or_right, ltb-true, false_from_ne_true}
use Rattle.blocks.specs.declared.settings.Settings.{Settings}
use Rattle.blocks.specs.declared.tuple.Tuple.{Tuple}
use Rattle.laws.specs.Reflections.{FromOpening, NoneBegan}
use Rattle.laws.proofs.Blocks.SameBlocks.{equal-same}
use Rattle.laws.proofs.Joining.Openings.{HasOpening, kept-opening-primary}
use Rattle.laws.proofs.Primary.LawfulMoves.{primary-between}
use Rattle.laws.proofs.Theorems.PrimaryReflects.{reflects}
use Rattle.model.specs.Contents.{BlockMap, IsDisk}
use Rattle.model.specs.Headline.{Cover, is_covered}
use Rattle.model.specs.LocalRuns.{PrimaryEvent, primary_run}
use Rattle.model.specs.Pair.{same_block}
use Rattle.model.specs.Primary.{PrimaryHistory}
use Rattle.model.specs.Stream.{StreamItem}
use Rattle.model.specs.Theorems.{Opening, IsSoundOpening, HasRanges, primary_at}
use Rattle.stops.proofs.Alone.{alone-faithful}
use Rattle.stops.proofs.Stopping.{promotions_are_sound}
use Rattle.stops.specs.Returns.{AloneKeepsItsDisk, ReturnsAreSound, ReturnsStaySound, SessionAlone, RanAlone, AllRanAlone, end_of, marks_after, disk_after}
use Rattle.stops.specs.Returns.{unmarked}
use Rattle.stops.specs.Stops.{promoted_at, primary_of, secondary_of}

-- a block that a primary alone does not cover stands as at the opening, and was not marked then
from-opening : (q : Opening) (events : List PrimaryEvent) → HasRanges q → IsDisk q.settings.blocks q.local → NoneBegan (primary_run events (primary_at q))
    → (block : ℕ) → is_covered (primary_run events (primary_at q)) block ≡ false → FromOpening (primary_run events (primary_at q)) block
from-opening q events ranges sized none block clean = elim (reflects q events ranges sized (alone-faithful q events none) block clean) [
  | inr opening ↦ opening
  | inl item ↦ absurd (
      let homes = (primary-between q.settings q.local q.own q.marks events ranges.here).0 in
      let empty = homes.empty item.connection item.end item.at (none.none item.connection item.end item.at) in
      let nothing : slice_get [] item.place ≡ Some item.item = subst (λ (l : List StreamItem). slice_get l item.place ≡ Some item.item) empty item.there in
      cc (nothing))
]

pub alone_keeps : AloneKeepsItsDisk
alone_keeps q events ranges sized none block clean =
    sym (from-opening q events ranges sized none block clean).content ∙ ap (λ (m : BlockMap). m block) (kept-opening-primary q events).disk

off-right : (a b : Bool) → b ≡ false → (a && b) ≡ false
off-right true b is = is
off-right false b is = refl

none-of : (v : Option (List ℕ)) → is_some v ≡ false → v ≡ None
none-of None is = refl
none-of (Some x) is = absurd (cc)

-- what stands after sessions alone: a disk that is as the mirror was wherever these marks have nothing
record IsStill (blocks : ℕ) (mirror : BlockMap) (marks : ℕ → Bool) (disk : BlockMap) : Type 0 where
  size : IsDisk blocks disk
  same : (block : ℕ) → nat_lt block blocks ≡ true → marks block ≡ false → disk block ≡ mirror block

-- one session keeps it
still-after : (settings : Settings) (mirror : BlockMap) (marks : ℕ → Bool) (disk : BlockMap) (session : SessionAlone)
    → IsStill settings.blocks mirror marks disk → RanAlone settings marks disk session → IsStill settings.blocks mirror session.marks session.disk
still-after settings mirror marks disk session still ran = record { size = subst (λ (n : ℕ). IsDisk n session.disk) blocks ran.left.size; same = same }
  where
    q : Opening
    q = session.opening

    r : PrimaryHistory
    r = end_of session

    kept : HasOpening session.opening (end_of session)
    kept = kept-opening-primary session.opening session.events

    blocks : (end_of session).settings.blocks ≡ settings.blocks
    blocks = ap (λ (s : Settings). s.blocks) (kept.settings ∙ ran.same_settings)

    sized : IsDisk session.opening.settings.blocks session.opening.local
    sized = subst (λ (s : Settings). IsDisk s.blocks q.local) (sym ran.same_settings)
        (subst (λ (m : BlockMap). IsDisk settings.blocks m) (sym ran.opened_on) still.size)

    same : (block : ℕ) → nat_lt block settings.blocks ≡ true → session.marks block ≡ false → session.disk block ≡ mirror block
    same block inside clear =
        let low : block < r.settings.blocks = ltb-true block r.settings.blocks (ap (nat_lt block) blocks ∙ inside) in
        let clean : is_covered r block ≡ false = false_from_ne_true (is_covered r block) (λ on. both_ways (session.marks block) clear (ran.left.covered block low on)) in
        let was : (nat_lt block q.settings.blocks && q.marks block) ≡ false =
        subst (λ (m : ℕ → Bool). (nat_lt block q.settings.blocks && m block) ≡ false) kept.marks
        (subst (λ (s : Settings). (nat_lt block s.blocks && r.opening_marks block) ≡ false) kept.settings
        (from-opening q session.events ran.ranges sized ran.alone block clean).unmarked) in
        let before : marks block ≡ false = false_from_ne_true (marks block) (λ on. both_ways (nat_lt block q.settings.blocks && q.marks block) was
        (and_from (nat_lt block q.settings.blocks) (q.marks block) (ap (λ (s : Settings). nat_lt block s.blocks) ran.same_settings ∙ inside)
        (ran.opened_with block (ltb-true block settings.blocks inside) on))) in
        ran.left.kept block (off-right (nat_lt block r.settings.blocks) (session.marks block) clear)
        ∙ alone_keeps q session.events ran.ranges sized ran.alone block clean ∙ ap (λ (m : BlockMap). m block) ran.opened_on ∙ still.same block inside before

-- and so do any number
still-after-all : (settings : Settings) (mirror : BlockMap) (marks : ℕ → Bool) (disk : BlockMap) (sessions : List SessionAlone)
    → IsStill settings.blocks mirror marks disk → AllRanAlone settings marks disk sessions
    → IsStill settings.blocks mirror (marks_after marks sessions) (disk_after disk sessions)
still-after-all settings mirror marks disk [] still ran = still
still-after-all settings mirror marks disk (session ∷ rest) still ran =
    still-after-all settings mirror session.marks session.disk rest (still-after settings mirror marks disk session still ran.0) ran.1

pub returns_stay_sound : ReturnsStaySound
returns_stay_sound o w old left mirror sessions own other sound sizes may grounded ran some = record {
  ranges = record { here = base.ranges.here; there = base.ranges.there };
  local = after.size;
  peer = base.peer;
  identifiers = record { own_data = some; same_current = λ is. cover; from_bitmap = λ above is. cover };
}
  where
    anything : Tuple
    anything = record { current = 1; bitmap = 0; first_historical = 0; second_historical = 0 }

    -- with the marks of the old primary alone, had it come back at once
    base : IsSoundOpening (promoted_at (primary_of o w) (secondary_of o w) old left mirror anything anything)
    base = promotions_are_sound o w old left mirror anything anything sound sizes may grounded (omega arith)

    after : IsStill (secondary_of o w).settings.blocks mirror (marks_after unmarked sessions) (disk_after mirror sessions)
    after = still-after-all (secondary_of o w).settings mirror unmarked mirror sessions (record { size = base.local; same = λ block inside clear. refl }) ran

    cover : Cover (λ block. nat_lt block (secondary_of o w).settings.blocks && (marks_after unmarked sessions block || old block)) (disk_after mirror sessions) left
    cover block differs = elim (cases_Bool (nat_lt block (secondary_of o w).settings.blocks)) [
      | inl inside ↦ elim (cases_Bool (marks_after unmarked sessions block)) [
        | inl on ↦ and_from _ _ inside (or_left (marks_after unmarked sessions block) (old block) on)
        | inr clear ↦ and_from _ _ inside (or_right (marks_after unmarked sessions block) (old block)
            (and_parts (nat_lt block (secondary_of o w).settings.blocks) (old block) (base.identifiers.same_current refl block
            (ap (λ (v : Option (List ℕ)). same_block v (left block)) (sym (after.same block inside clear)) ∙ differs))).1)
      ]
      | inr past ↦ absurd (both_ways (same_block (disk_after mirror sessions block) (left block)) differs (equal-same (disk_after mirror sessions block) (left block) (
          none-of (disk_after mirror sessions block) (after.size block ∙ past) ∙ sym (none-of (left block) (base.peer block ∙ ap (nat_lt block) sizes ∙ past)))))
    ]

-- one session
pub returns_are_sound : ReturnsAreSound
returns_are_sound o w old left mirror q events marks disk own other sound sizes may grounded ranges settings same none alone some =
    returns_stay_sound o w old left mirror (record { opening = q; events = events; marks = marks; disk = disk } ∷ []) own other sound sizes may grounded
    (record { ranges = ranges; same_settings = settings; opened_on = same; opened_with = λ block inside on. absurd (cc); alone = none; left = alone }, tt) some
