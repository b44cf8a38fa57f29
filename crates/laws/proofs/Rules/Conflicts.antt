-- Two writes conflict: what holds of a write without conflict, and the conflict that whatever asks the same finds.
use Rattle.std.proofs.Common.{ℕ, ◌≡◌, ◌+◌, Bool, true, false, List, [], ◌∷◌, length, map, filter, Option, Some, slice_get, refl, sym, ◌∙◌}
use Rattle.std.proofs.Common.{subst, arith, nat_lt, nat_le}
use Rattle.std.specs.Prelude.{if◌then◌else◌, is_some, find, option_map}
use Rattle.std.specs.List.{list_any}
use Rattle.std.proofs.lemmas.Bool.{both_ways, and_parts, and_from, leb-true, ltb-true, lt-ltb, false_from_ne_true}
use Rattle.model.specs.Contents.{Write, covers, overlap}
use Rattle.model.specs.Stream.{StreamItem, ResyncItem}
use Rattle.model.specs.Primary.{Accepted, PrimaryHistory, primary_connection, is_established, open_writes, under_way}
use Rattle.model.specs.PrimarySteps.{conflict}
use Rattle.laws.proofs.Lists.Picks.{filtered-pick, none-first}

-- the item is of a resync, and of a block that the write has
abbrev pub has_block_of : Write → ℕ × StreamItem → Bool
has_block_of write entry = elim entry.1 as (λ _. Bool) [ ResyncItem block contents ↦ covers write block | _ ↦ false ]

-- what a resync has under way while a stream stands
abbrev pub ways_of : PrimaryHistory → List (ℕ × StreamItem)
ways_of h = elim (is_established (primary_connection h)) as (λ _. List (ℕ × StreamItem)) [ true ↦ under_way (primary_connection h) | false ↦ [] ]

-- the open writes that share a block with the write
abbrev met_by : PrimaryHistory → Write → List Accepted
met_by h write = filter (λ (accepted : Accepted). overlap accepted.write write) (open_writes h)

-- two writes that have a block in common share it
pub meeting : (a b : Write) (block : ℕ) → covers a block ≡ true → covers b block ≡ true → overlap a b ≡ true
meeting a b block cova covb =
    let pa = and_parts (nat_le a.first block) (nat_lt block (a.first + length a.contents)) cova in
    let pb = and_parts (nat_le b.first block) (nat_lt block (b.first + length b.contents)) covb in
    let la = leb-true a.first block pa.0 in
    let ha = ltb-true block (a.first + length a.contents) pa.1 in
    let lb = leb-true b.first block pb.0 in
    let hb = ltb-true block (b.first + length b.contents) pb.1 in
    and_from _ _ (and_from _ _ (lt-ltb a.first (b.first + length b.contents) (omega arith)) (lt-ltb b.first (a.first + length a.contents) (omega arith)))
    (and_from _ _ (lt-ltb 0 (length a.contents) (omega arith)) (lt-ltb 0 (length b.contents) (omega arith)))

-- A write without conflict.

-- nothing under way has a block of it, and no open write shares one with it
pub free-of-conflict : (h : PrimaryHistory) (write : Write) → is_some (conflict h write) ≡ false
    → (list_any (has_block_of write) (ways_of h) ≡ false)
    × ((m : ℕ) (accepted : Accepted) → slice_get (open_writes h) m ≡ Some accepted → overlap accepted.write write ≡ false)
free-of-conflict h write free = go (list_any (has_block_of write) (ways_of h)) free
  where
    go : (b : Bool) → is_some (if b then Some 0 else slice_get (map (λ (accepted : Accepted). accepted.write.number) (met_by h write)) 0) ≡ false
        → (b ≡ false) × ((m : ℕ) (accepted : Accepted) → slice_get (open_writes h) m ≡ Some accepted → overlap accepted.write write ≡ false)
    go true none = absurd (cc)
    go false none = (
      refl,
      λ m accepted at. false_from_ne_true (overlap accepted.write write) (λ meets.
          let found = filtered-pick (λ (a : Accepted). overlap a.write write) (open_writes h) m accepted at meets in
          none-first (λ (a : Accepted). a.write.number) (met_by h write) found.0 accepted none found.1),
    )

-- so none that is under way has, where a stream stands
pub way-apart : (h : PrimaryHistory) (write : Write) → is_some (conflict h write) ≡ false → is_established (primary_connection h) ≡ true
    → list_any (has_block_of write) (under_way (primary_connection h)) ≡ false
way-apart h write free standing =
    subst (λ b. list_any (has_block_of write) (elim b as (λ _. List (ℕ × StreamItem)) [ true ↦ under_way (primary_connection h) | false ↦ [] ]) ≡ false)
    standing
    (free-of-conflict h write free).0

-- and no open write has a block of it
pub open-apart : (h : PrimaryHistory) (write : Write) → is_some (conflict h write) ≡ false → (m : ℕ) (accepted : Accepted)
    → slice_get (open_writes h) m ≡ Some accepted → (block : ℕ) → covers accepted.write block ≡ true → covers write block ≡ true → ⊥
open-apart h write free m accepted at block own other =
    both_ways (overlap accepted.write write) ((free-of-conflict h write free).1 m accepted at) (meeting accepted.write write block own other)

-- The conflict of a write.

-- the first that a filter lets through is what a search finds
first-found : {X Y : Type 0} (p : X → Bool) (f : X → Y) (xs : List X) → slice_get (map f (filter p xs)) 0 ≡ option_map f (find p xs)
first-found p f [] = refl
first-found {X} p f (x ∷ xs) = elim (p x) as (λ b. slice_get (map f (if b then x ∷ filter p xs else filter p xs)) 0 ≡ option_map f (if b then Some x
    else find p xs)) [ true ↦ refl | false ↦ first-found p f xs ]

-- 0 where something under way has a block of it, or else the number of the first open write that shares one with it
pub conflict-by : (h : PrimaryHistory) (write : Write) (met : Bool) (number : Option ℕ) → met ≡ list_any (has_block_of write) (ways_of h)
    → number ≡ option_map (λ (a : Accepted). a.write.number) (find (λ (a : Accepted). overlap a.write write) (open_writes h))
    → (if met then Some 0 else number) ≡ conflict h write
conflict-by h write met number is_met is =
    λ i. if is_met i then Some 0
    else (is ∙ sym (first-found (λ (a : Accepted). overlap a.write write) (λ (a : Accepted). a.write.number) (open_writes h))) i
