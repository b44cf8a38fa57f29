-- Where two nodes are joined, their disks agree on every block that stands as an item that is surely applied has it, or as it
-- did at the opening.
use Rattle.std.proofs.Common.{ℕ, zero, suc, ◌≡◌, ◌+◌, ◌-◌, ◌<◌, ◌⊎◌, inl, inr, true, List, [], ◌∷◌, length, Option, Some, slice_get, refl, sym, ◌∙◌, ap, subst}
use Rattle.std.proofs.Common.{arith}
use Rattle.std.proofs.lemmas.Option.{slice_get_within}
use Rattle.model.specs.Contents.{BlockMap}
use Rattle.model.specs.Stream.{StreamItem}
use Rattle.model.specs.Primary.{PrimaryHistory, last_of, local_map, PrimaryConnection}
use Rattle.model.specs.Secondary.{SecondaryConnection, SecondaryHistory, no_secondary_connection, items_taken, map_of, secondary_map}
use Rattle.model.specs.Pair.{same_block}
use Rattle.model.specs.LocalRuns.{PrimaryEvent, primary_run, SecondaryEvent, secondary_run}
use Rattle.model.specs.Headline.{IsJoined, HoldsEarlierEpochs, IsGrounded}
use Rattle.model.specs.Theorems.{Opening, IsSoundOpening, primary_at, secondary_at}
use Rattle.laws.specs.Reflections.{touches, content_at, FromItem, FromOpening}
use Rattle.laws.proofs.Lists.Last.{last-at}
use Rattle.laws.proofs.Secondary.Runs.{holds_earlier_epochs}
use Rattle.laws.proofs.Secondary.Applied.{map-keeps, map-settles}
use Rattle.laws.proofs.Joining.Openings.{HasOpening, HasOpeningToo, kept-opening-primary, kept-opening-secondary}
use Rattle.laws.proofs.Joining.OpeningDisks.{openings-agree}
use Rattle.laws.proofs.Joining.Ends.{AreEnds, primary-end, secondary-end, item-taken}
use Rattle.laws.proofs.Secondary.Numbers.{NumbersRise, numbers-rise}
use Rattle.laws.proofs.Blocks.SameBlocks.{equal-same}
use Rattle.laws.proofs.Joining.SureApplied.{sure-is-applied, sure-taken, taken-begins}
use Rattle.laws.proofs.Lists.Elements.{get-there}
use Rattle.laws.proofs.Lists.Beginnings.{get-beginning}

-- every item taken on a connection that touches the block has this there
abbrev TakesOnly : ℕ → Option (List ℕ) → SecondaryConnection → Type 0
TakesOnly block v d = (n : ℕ) (i : StreamItem) → slice_get (items_taken d) n ≡ Some i → touches i block ≡ true → content_at i block ≡ v

-- a block goes on through the connections that follow
goes-on : (s : SecondaryHistory) → HoldsEarlierEpochs s → (block : ℕ) (v : Option (List ℕ)) (k : ℕ) (d : SecondaryConnection)
    → slice_get s.connections k ≡ Some d
    → map_of d block ≡ v
    → ((j : ℕ) (e : SecondaryConnection) → k < j → slice_get s.connections j ≡ Some e → TakesOnly block v e) → (n : ℕ) (e : SecondaryConnection)
    → slice_get s.connections (k + n) ≡ Some e → map_of e block ≡ v
goes-on s epochs block v k d at holds later zero e there =
    let here : k + 0 ≡ k = omega arith in
    let is_established : slice_get s.connections k ≡ Some e = subst (λ m. slice_get s.connections m ≡ Some e) here there in
    let same : d ≡ e = cc in
    subst (λ (x : SecondaryConnection). map_of x block ≡ v) same holds
goes-on s epochs block v k d at holds later (suc n) e there =
    let index : k + suc n ≡ suc (k + n) = omega arith in
    let next : slice_get s.connections (suc (k + n)) ≡ Some e = subst (λ m. slice_get s.connections m ≡ Some e) index there in
    let within = slice_get_within s.connections (suc (k + n)) e next in
    let before = get-there s.connections (k + n) (omega arith) in
    let held = goes-on s epochs block v k d at holds later n before.0 before.1 in
    map-keeps e block v (epochs.goes_on (k + n) block before.0 e before.1 next ∙ held) (later (suc (k + n)) e (omega arith) next)

-- up to the last one, which is the disk
pub reaches-disk : (s : SecondaryHistory) → HoldsEarlierEpochs s → (block : ℕ) (v : Option (List ℕ)) (k : ℕ) (d : SecondaryConnection)
    → slice_get s.connections k ≡ Some d
    → map_of d block ≡ v
    → ((j : ℕ) (e : SecondaryConnection) → k < j → slice_get s.connections j ≡ Some e → TakesOnly block v e) → secondary_map s block ≡ v
reaches-disk s epochs block v k d at holds later =
    let within = slice_get_within s.connections k d at in
    elim (last-at (no_secondary_connection s) s.connections) [
      | inl none ↦ absurd (let size : length s.connections ≡ 0 = ap length none in omega arith)
      | inr last ↦
          let index : length s.connections - 1 ≡ k + (length s.connections - 1 - k) = omega arith in
          goes-on s epochs block v k d at holds later (length s.connections - 1 - k) (last_of (no_secondary_connection s) s.connections)
          (subst (λ m. slice_get s.connections m ≡ Some (last_of (no_secondary_connection s) s.connections)) index last)
    ]

-- a block that no item touches but with what it had at the opening
pub from-opening : (s : SecondaryHistory) → HoldsEarlierEpochs s → (block : ℕ) (v : Option (List ℕ)) → s.opening_map block ≡ v
    → ((j : ℕ) (e : SecondaryConnection) → slice_get s.connections j ≡ Some e → TakesOnly block v e) → secondary_map s block ≡ v
from-opening s epochs block v was only = go s.connections refl
  where
    go : (ds : List SecondaryConnection) → s.connections ≡ ds → secondary_map s block ≡ v
    go [] is = ap (λ (ds : List SecondaryConnection). map_of (last_of (no_secondary_connection s) ds) block) is ∙ was
    go (d ∷ ds) is =
        let first : slice_get s.connections 0 ≡ Some d = ap (λ (l : List SecondaryConnection). slice_get l 0) is in
        reaches-disk s epochs block v 0 d first (map-keeps d block v (epochs.begins block d first ∙ was) (only 0 d first)) (λ j e less at. only j e at)

-- The disks of two nodes that are joined agree on such a block.
pub joined-agrees : (o : Opening) (here : List PrimaryEvent) (there : List SecondaryEvent) → IsSoundOpening o
    → IsJoined (primary_run here (primary_at o)) (secondary_run there (secondary_at o))
    → IsGrounded (primary_run here (primary_at o)) (secondary_run there (secondary_at o))
    → (block : ℕ) → FromItem (primary_run here (primary_at o)) block ⊎ FromOpening (primary_run here (primary_at o)) block
    → same_block (local_map (primary_run here (primary_at o)) block) (secondary_map (secondary_run there (secondary_at o)) block) ≡ true
joined-agrees o here there sound joined grounded block from =
    let p : PrimaryHistory = primary_run here (primary_at o) in
    let s : SecondaryHistory = secondary_run there (secondary_at o) in
    let epochs : HoldsEarlierEpochs s = holds_earlier_epochs o there in
    let rise : NumbersRise s.connections = numbers-rise there (secondary_at o) refl in
    let opened : (j : ℕ) (e : SecondaryConnection) → slice_get s.connections j ≡ Some e → (n : ℕ) (i : StreamItem) → slice_get (items_taken e) n ≡ Some i
    → (k : ℕ) × (c : PrimaryConnection) × AreEnds p s k j c e = λ j e at n i taken.
    let frame = item-taken e n i taken in
    primary-end p s rise joined j frame.0 e frame.1 at frame.2 in
    let v : Option (List ℕ) = local_map p block in
    equal-same v (secondary_map s block) (sym (elim from [
      | inl item ↦
          let frame = sure-taken item.end item.place item.item item.sure in
          let end = secondary-end p s joined item.connection frame.0 item.end frame.1 item.at frame.2 in
          let d : SecondaryConnection = end.1 in
          let applied = sure-is-applied o here there joined item.connection end.0 item.place item.end d item.item end.2 item.there item.sure in
          let holds : map_of d block ≡ v = map-settles d block v item.place item.item applied.0 item.touched applied.1 item.content (λ n i less at touched.
          item.later item.connection n item.end i item.at
          (get-beginning (items_taken d) item.end.stream n i (taken-begins p s rise joined item.connection end.0 item.end d end.2) at) touched
          (inr (refl, less))) in
          reaches-disk s epochs block v end.0 d end.2.secondary_connection holds (λ j e less at n i taken touched.
          let other = opened j e at n i taken in
          let low = rise.rise end.0 j d e less end.2.secondary_connection at in
          let one = other.2.number in
          let two = end.2.number in
          item.later other.0 n other.1 i other.2.primary_connection
          (get-beginning (items_taken e) other.1.stream n i (taken-begins p s rise joined other.0 j other.1 e other.2) taken) touched (inl (omega arith)))
      | inr opening ↦
          let mine : HasOpening o p = kept-opening-primary o here in
          let theirs : HasOpeningToo o s = kept-opening-secondary o there in
          let was : s.opening_map block ≡ v =
          ap (λ (m : BlockMap). m block) theirs.disk
          ∙ (sym (openings-agree o here there sound joined grounded block opening) ∙ (ap (λ (m : BlockMap). m block) (sym mine.disk) ∙ opening.content)) in
          from-opening s epochs block v was (λ j e at n i taken touched.
          let other = opened j e at n i taken in
          opening.items other.0 n other.1 i other.2.primary_connection
          (get-beginning (items_taken e) other.1.stream n i (taken-begins p s rise joined other.0 j other.1 e other.2) taken) touched)
    ]))
