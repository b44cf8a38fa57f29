-- The disk of a primary is what its history says: its size, after a write, and after a write that failed.
use Rattle.std.proofs.Common.{ℕ, zero, suc, ◌≡◌, ◌+◌, ◌-◌, ◌<◌, ◌≤◌, ◌⊎◌, inl, inr, Bool, true, false, ◌&&◌, List, [], ◌∷◌, length, map, take, Option, Some}
use Rattle.std.proofs.Common.{slice_get, refl, sym, ◌∙◌, ap, subst, arith, nat_lt, nat_le, ◌==◌}
use Rattle.std.specs.Prelude.{if◌then◌else◌, is_some, filter, None}
use Rattle.std.proofs.lemmas.Bool.{cases_Bool, cases_lt, both_ways, and_parts, and_from, and_right, false_from_ne_true, eq-eqb, eqb-true, lt-ltb, le-ltb}
use Rattle.std.proofs.lemmas.Bool.{le-leb}
use Rattle.std.proofs.lemmas.List.{length-take}
use Rattle.std.proofs.lemmas.Option.{slice_get_past, slice_get_within}
use Rattle.blocks.specs.Contents.{overwritten, IsTorn}
use Rattle.blocks.specs.Ranges.{below}
use Rattle.model.specs.Contents.{BlockMap, Layer, block_under, overlay, covers, is_between}
use Rattle.model.specs.Pair.{same_block}
use Rattle.model.specs.Stream.{within}
use Rattle.model.specs.Primary.{LocalOutcome, Waiting, OnDisk, Failed, Accepted, PrimaryHistory, is_waiting, offset_reached, local_layer, local_map}
use Rattle.model.specs.PrimarySteps.{set_outcome, with_outcome}
use Rattle.model.specs.Theorems.{Opening}
use Rattle.laws.proofs.Blocks.Overlays.{overlay-agrees, overlay-last, overlay-some, under-outside, under-inside}
use Rattle.laws.proofs.Blocks.Ranges.{between-parts}
use Rattle.blocks.proofs.Written.{written-inside, written-before, written-after}
use Rattle.laws.proofs.Joining.Openings.{HasOpening, kept-opening-primary}
use Rattle.laws.proofs.Primary.Homes.{HasHomes, outcome-write}
use Rattle.laws.proofs.Releases.InOrder.{IsInOrder}
use Rattle.laws.proofs.Tracked.{IsTracked}
use Rattle.laws.proofs.Tracked.Moves.{beyond-the-end}
use Rattle.laws.proofs.Tracked.Outcomes.{outcome-cases}
use Rattle.laws.proofs.Tracked.Quiet.{same-number}
use Rattle.laws.proofs.Blocks.SameBlocks.{same-equal, equal-same}
use Rattle.laws.proofs.Lists.Elements.{get-there}
use Rattle.laws.proofs.Lists.Fronts.{front-get}
use Rattle.laws.proofs.Lists.Picks.{pick-any, any-pick, pick-filtered, filtered-pick, pick-below}
use Rattle.primary_protocol.specs.Node.{NodeState, NodeHas}
use Rattle.primary_protocol.specs.Steps.{IsReached}
use Rattle.primary_protocol.proofs.Common.Filters.{map-twice}
use Rattle.primary_protocol.proofs.Common.Reached.{reached-ordered}
use Rattle.primary_protocol.proofs.Common.Marks.{get-below}

-- The disk of a reached history has the blocks of the device, and no other.
pub map-sized : (h : PrimaryHistory) → IsReached h → (block : ℕ) → is_some (local_map h block) ≡ nat_lt block h.settings.blocks
map-sized h reached block = elim (cases_lt block h.settings.blocks) [
  | inl within ↦ overlay-some h.opening_map (map local_layer h.writes) block (tracked.sized block within) ∙ sym (lt-ltb block h.settings.blocks within)
  | inr past ↦
      ap is_some ((beyond-the-end h block tracked past).1 ∙ ap (λ (disk : BlockMap). disk block) opened.disk)
      ∙ (reached.sized block ∙ ap (λ (settings : _). nat_lt block settings.blocks) (sym opened.settings))
]
  where
    tracked : IsTracked h
    tracked = (reached-ordered h reached).ordered.0.tracked

    began : Opening
    began = record {
      settings = reached.settings;
      peer_settings = reached.settings;
      local = reached.disk;
      peer = reached.disk;
      own = reached.tuple;
      peer_tuple = reached.tuple;
      marks = reached.marks;
    }

    opened : HasOpening (record {
      settings = reached.settings;
      peer_settings = reached.settings;
      local = reached.disk;
      peer = reached.disk;
      own = reached.tuple;
      peer_tuple = reached.tuple;
      marks = reached.marks;
    }) h
    opened = subst (HasOpening began) reached.is (kept-opening-primary began reached.events)

get-size : {X : Type 0} (xs : List X) (n : ℕ) → is_some (slice_get xs n) ≡ nat_lt n (length xs)
get-size [] n = sym (le-ltb n 0 (omega arith))
get-size (x ∷ xs) zero = sym (lt-ltb 0 (suc (length xs)) (omega arith))
get-size (x ∷ xs) (suc n) = get-size xs n ∙ elim (cases_lt n (length xs)) [
  | inl less ↦ lt-ltb n (length xs) less ∙ sym (lt-ltb (suc n) (suc (length xs)) (omega arith))
  | inr past ↦ le-ltb n (length xs) past ∙ sym (le-ltb (suc n) (suc (length xs)) (omega arith))
]

-- So has the node's disk.
pub disk-size : (n : NodeState) (h : PrimaryHistory) → NodeHas n h → length n.disk ≡ h.settings.blocks
disk-size n h has =
    let low = side (length n.disk) h.settings.blocks (sym (same (length n.disk)) ∙ le-ltb (length n.disk) (length n.disk) (omega arith)) in
    let high = side h.settings.blocks (length n.disk) (same h.settings.blocks ∙ le-ltb h.settings.blocks h.settings.blocks (omega arith)) in
    omega arith
  where
    same : (block : ℕ) → nat_lt block (length n.disk) ≡ nat_lt block h.settings.blocks
    same block = sym (get-size n.disk block) ∙ (ap is_some (has.leaves.disk block) ∙ map-sized h has.reached block)

    side : (a b : ℕ) → nat_lt a b ≡ false → b ≤ a
    side a b none = elim (cases_lt a b) [ inl less ↦ absurd (both_ways (nat_lt a b) none (lt-ltb a b less)) | inr past ↦ past ]

-- A layer that is not laid at a block holds nothing there.
bare : (layer : Layer) (block : ℕ) (v : Option (List ℕ)) → (is_between layer.first (length layer.contents) block && layer.laid (block - layer.first)) ≡ false
    → block_under layer block v ≡ v
bare layer block v none = ap (λ b. if b then slice_get layer.contents (block - layer.first) else v) none

waiting-bare : (outcome : LocalOutcome) (offset : ℕ) → is_waiting outcome ≡ true → offset_reached outcome offset ≡ false
waiting-bare Waiting offset waits = refl
waiting-bare OnDisk offset waits = absurd (cc)
waiting-bare (Failed offsets) offset waits = absurd (cc)

-- The local disk was to do this write, and did what the outcome says. Every earlier write with a block of it is done, and there
-- is no later one, so what it lays is on top.
module _ (h : PrimaryHistory) (homes : HasHomes h) (order : IsInOrder h) (number : ℕ) (i : ℕ) (a : Accepted) (at : slice_get h.writes i ≡ Some a)
    (is : a.write.number ≡ number) (waits : is_waiting a.outcome ≡ true) (outcome : LocalOutcome) where
  abbrev put : Accepted → Accepted
  put = set_outcome number outcome

  put-it : set_outcome number outcome a ≡ record a { outcome = outcome }
  put-it = ap (λ b. if b then record a { outcome = outcome } else a) (eq-eqb a.write.number number is)

  -- what it lays there
  pub outcome-there : (block : ℕ) → covers a.write block ≡ true → offset_reached outcome (block - a.write.first) ≡ true
      → local_map (with_outcome number outcome h) block ≡ slice_get a.write.contents (block - a.write.first)
  outcome-there block covered laid =
      ap (λ (layers : List Layer). overlay h.opening_map layers block) (map-twice local_layer put h.writes)
      ∙ overlay-last (λ (b : Accepted). local_layer (put b)) h.opening_map h.writes block i a (slice_get a.write.contents (block - a.write.first)) at
      (λ v. ap (λ (b : Accepted). block_under (local_layer b) block v) put-it
      ∙ under-inside (local_layer (record a { outcome = outcome })) block v covered laid)
      (λ j b less atb v. under-outside (local_layer (put b)) block v
      (subst (λ (w : _). covers w block ≡ false) (sym (outcome-write number outcome b))
      (false_from_ne_true (covers b.write block) (λ cov. both_ways (is_waiting a.outcome) (order.settled_first i j block a b less at atb covered cov) waits))))

  -- elsewhere the disk holds what it held
  pub outcome-elsewhere : (block : ℕ) → (covers a.write block && offset_reached outcome (block - a.write.first)) ≡ false
      → local_map (with_outcome number outcome h) block ≡ local_map h block
  outcome-elsewhere block none =
      ap (λ (layers : List Layer). overlay h.opening_map layers block) (map-twice local_layer put h.writes)
      ∙ overlay-agrees (λ (b : Accepted). local_layer (put b)) local_layer h.opening_map h.writes block (λ j b atb v. elim (outcome-cases number outcome b) [
        | inl changed ↦
            let one : a ≡ b = same-number h i j a b homes at atb (is ∙ sym changed.0) in
            subst (λ (x : Accepted). block_under (local_layer (put x)) block v ≡ block_under (local_layer x) block v) one
            (ap (λ (x : Accepted). block_under (local_layer x) block v) put-it ∙ (bare (local_layer (record a { outcome = outcome })) block v none
            ∙ sym (bare (local_layer a) block v
            (and_right (covers a.write block) (offset_reached a.outcome (block - a.write.first)) (waiting-bare a.outcome (block - a.write.first) waits)))))
        | inr kept ↦ ap (λ (x : Accepted). block_under (local_layer x) block v) kept
      ])

-- Offsets of a write.

-- an offset of the write that is among these reached the disk
among : (count : ℕ) (offsets : List ℕ) (n offset : ℕ) → slice_get offsets n ≡ Some offset → offset < count
    → offset_reached (Failed (within count offsets)) offset ≡ true
among count offsets n offset at less =
    let kept = filtered-pick (λ (k : ℕ). nat_lt k count) offsets n offset at (lt-ltb offset count less) in
    any-pick (λ (k : ℕ). k == offset) (within count offsets) kept.0 offset kept.1 (eq-eqb offset offset refl)

-- one that reached the disk is among them
among-back : (count : ℕ) (offsets : List ℕ) (offset : ℕ) → offset_reached (Failed (within count offsets)) offset ≡ true
    → (n : ℕ) × (slice_get offsets n ≡ Some offset)
among-back count offsets offset reached =
    let found = pick-any (λ (k : ℕ). k == offset) (within count offsets) reached in
    let there = pick-filtered (λ (k : ℕ). nat_lt k count) offsets found.0 found.1 found.2 in
    (there.0, subst (λ (k : ℕ). slice_get offsets there.0 ≡ Some k) (eqb-true found.1 offset found.3) there.1)

-- the offsets of which a torn disk holds what was to be written
abbrev pub new_offsets : ℕ → List (List ℕ) → List (List ℕ) → List ℕ
new_offsets first contents torn = filter (λ (k : ℕ). same_block (slice_get torn (first + k)) (slice_get contents k)) (below (length contents))

-- The node's disk after the local disk did its part.
module _ (h : PrimaryHistory) (homes : HasHomes h) (order : IsInOrder h) (number : ℕ) (i : ℕ) (a : Accepted) (at : slice_get h.writes i ≡ Some a)
    (is : a.write.number ≡ number) (waits : is_waiting a.outcome ≡ true)
    (disk : List (List ℕ)) (holds : (block : ℕ) → slice_get disk block ≡ local_map h block) (inside : a.write.first + length a.write.contents ≤ length disk)
  where
    abbrev first : ℕ
    first = a.write.first

    abbrev contents : List (List ℕ)
    contents = a.write.contents

    -- what this outcome leaves, where new blocks are those that it reached
    disk-after : (outcome : LocalOutcome) (after : List (List ℕ))
        → ((block : ℕ) → covers a.write block ≡ true → offset_reached outcome (block - first) ≡ true
        → slice_get after block ≡ slice_get contents (block - first))
        → ((block : ℕ) → (covers a.write block && offset_reached outcome (block - first)) ≡ false → slice_get after block ≡ slice_get disk block) → (block : ℕ)
        → slice_get after block ≡ local_map (with_outcome number outcome h) block
    disk-after outcome after new old block = elim (cases_Bool (covers a.write block && offset_reached outcome (block - first))) [
      | inl laid ↦ let parts = and_parts (covers a.write block) (offset_reached outcome (block - first)) laid in new block parts.0 parts.1
          ∙ sym (outcome-there h homes order number i a at is waits outcome block parts.0 parts.1)
      | inr none ↦ old block none ∙ (holds block ∙ sym (outcome-elsewhere h homes order number i a at is waits outcome block none))
    ]

    -- a block that the write has not
    beside : (block : ℕ) → covers a.write block ≡ false → (block < first) ⊎ (first + length contents ≤ block)
    beside block outside = elim (cases_lt block first) [
      | inl before ↦ inl before
      | inr from ↦ elim (cases_lt block (first + length contents)) [
        | inl less ↦ absurd (both_ways (covers a.write block) outside
            (and_from (nat_le first block) (nat_lt block (first + length contents)) (le-leb first block from) (lt-ltb block (first + length contents) less)))
        | inr past ↦ inr past
      ]
    ]

    -- all of it was written
    pub disk-written : (block : ℕ) → slice_get (overwritten disk first contents) block ≡ local_map (with_outcome number OnDisk h) block
    disk-written = disk-after OnDisk (overwritten disk first contents)
        (λ block covered laid. let parts = between-parts first (length contents) block covered in written-inside disk contents first block
        (omega arith) parts.0 parts.1)
        (λ block none. elim (beside block (plain (covers a.write block) none)) [
          | inl before ↦ written-before disk contents first block (omega arith) before
          | inr past ↦ written-after disk contents first block (omega arith) past
        ])
      where
        plain : (b : Bool) → (b && true) ≡ false → b ≡ false
        plain true none = absurd (cc)
        plain false none = refl

    -- the first blocks of it alone were written
    pub disk-kept : (kept : ℕ) (block : ℕ)
        → slice_get (overwritten disk first (take kept contents)) block
        ≡ local_map (with_outcome number (Failed (within (length contents) (below kept))) h) block
    disk-kept kept = disk-after (Failed (within (length contents) (below kept))) (overwritten disk first (take kept contents)) new old
      where
        few : (length (take kept contents) ≤ length contents) × (length (take kept contents) ≤ kept)
        few = let size = length-take kept contents in (omega arith, omega arith)

        new : (block : ℕ) → covers a.write block ≡ true → offset_reached (Failed (within (length contents) (below kept))) (block - first) ≡ true
            → slice_get (overwritten disk first (take kept contents)) block ≡ slice_get contents (block - first)
        new block covered reached =
            let parts = between-parts first (length contents) block covered in
            let low = parts.0 in
            let high = parts.1 in
            let found = among-back (length contents) (below kept) (block - first) reached in
            let less = pick-below kept found.0 (block - first) found.1 in
            let there = get-there contents (block - first) (omega arith) in
            let front = front-get kept contents (block - first) there.0 less there.1 in
            let short = slice_get_within (take kept contents) (block - first) there.0 front in
            let size = few.0 in
            written-inside disk (take kept contents) first block (omega arith) low (omega arith) ∙ (front ∙ sym there.1)

        old : (block : ℕ) → (covers a.write block && offset_reached (Failed (within (length contents) (below kept))) (block - first)) ≡ false
            → slice_get (overwritten disk first (take kept contents)) block ≡ slice_get disk block
        old block none =
            let size = few.0 in
            let most = few.1 in
            elim (cases_Bool (covers a.write block)) [
              | inr outside ↦ elim (beside block outside) [
                | inl before ↦ written-before disk (take kept contents) first block (omega arith) before
                | inr past ↦ written-after disk (take kept contents) first block (omega arith) (omega arith)
              ]
              | inl covered ↦
                  let parts = between-parts first (length contents) block covered in
                  let low = parts.0 in
                  let high = parts.1 in
                  elim (cases_lt (block - first) kept) [
                    | inl less ↦ absurd (both_ways (covers a.write block && offset_reached (Failed (within (length contents) (below kept))) (block - first))
                        none
                        (and_from (covers a.write block) (offset_reached (Failed (within (length contents) (below kept))) (block - first)) covered
                        (among (length contents) (below kept) (block - first) (block - first) (get-below kept (block - first) less) (omega arith))))
                    | inr past ↦ written-after disk (take kept contents) first block (omega arith) (omega arith)
                  ]
            ]

    -- any of its blocks were written
    pub disk-torn : (torn : List (List ℕ)) → IsTorn disk first contents torn → (block : ℕ)
        → slice_get torn block ≡ local_map (with_outcome number (Failed (within (length contents) (new_offsets first contents torn))) h) block
    disk-torn torn is_torn = disk-after (Failed (within (length contents) news)) torn new old
      where
        is_new : ℕ → Bool
        is_new k = same_block (slice_get torn (first + k)) (slice_get contents k)

        news : List ℕ
        news = new_offsets first contents torn

        new : (block : ℕ) → covers a.write block ≡ true → offset_reached (Failed (within (length contents) news)) (block - first) ≡ true
            → slice_get torn block ≡ slice_get contents (block - first)
        new block covered reached =
            let parts = between-parts first (length contents) block covered in
            let found = among-back (length contents) news (block - first) reached in
            let same = pick-filtered is_new (below (length contents)) found.0 (block - first) found.1 in
            let low = parts.0 in
            let index : first + (block - first) ≡ block = omega arith in
            ap (slice_get torn) (sym index) ∙ same-equal (slice_get torn (first + (block - first))) (slice_get contents (block - first)) same.2

        nothing : (block : ℕ) → slice_get torn block ≡ None → length disk ≤ block
        nothing block none = let size = is_torn.size in elim (cases_lt block (length torn)) [
          | inl less ↦ absurd (let there = get-there torn block less in let at_it = there.1 in cc)
          | inr past ↦ omega arith
        ]

        old : (block : ℕ) → (covers a.write block && offset_reached (Failed (within (length contents) news)) (block - first)) ≡ false
            → slice_get torn block ≡ slice_get disk block
        old block none = elim (is_torn.each block) [
          | inl same ↦ same
          | inr written ↦ elim (cases_Bool (covers a.write block)) [
            | inl covered ↦
                let parts = between-parts first (length contents) block covered in
                let low = parts.0 in
                let high = parts.1 in
                let less : (block - first) < length contents = omega arith in
                let index : block ≡ first + (block - first) = omega arith in
                let same = equal-same (slice_get torn (first + (block - first))) (slice_get contents (block - first)) (ap (slice_get torn) (sym index)
                ∙ written.1) in
                let kept = filtered-pick is_new (below (length contents)) (block - first) (block - first) (get-below (length contents) (block - first) less)
                same in
                absurd (both_ways (covers a.write block && offset_reached (Failed (within (length contents) news)) (block - first)) none
                (and_from (covers a.write block) (offset_reached (Failed (within (length contents) news)) (block - first)) covered
                (among (length contents) news kept.0 (block - first) kept.1 less)))
            | inr outside ↦
                let low = written.0 in
                elim (beside block outside) [
                  | inl before ↦ absurd (omega arith)
                  | inr past ↦
                      let none_there : slice_get torn block ≡ None = written.1 ∙ slice_get_past contents (block - first) (omega arith) in
                      none_there ∙ sym (slice_get_past disk block (nothing block none_there))
                ]
          ]
        ]
