-- What blocks hold once layers are laid over a disk, and what the local disk comes to hold once its waiting writes are done.
use Rattle.std.proofs.Common.{ℕ, zero, suc, ◌≡◌, ◌-◌, ◌<◌, inl, inr, Bool, true, false, ◌&&◌, ◌||◌, List, [], ◌∷◌, ◌++◌, length, map, Option, Some, slice_get}
use Rattle.std.proofs.Common.{refl, sym, ◌∙◌, ap, arith}
use Rattle.std.specs.Prelude.{if◌then◌else◌, is_some}
use Rattle.std.proofs.lemmas.Bool.{cases_Bool, and_right}
use Rattle.std.proofs.lemmas.Option.{slice_get-get_or}
use Rattle.model.specs.Contents.{BlockMap, Layer, is_between, block_under, overlay, covers}
use Rattle.model.specs.Primary.{LocalOutcome, Waiting, OnDisk, Failed, Accepted, PrimaryHistory, is_on_disk, is_waiting, offset_reached, local_layer, local_map}
use Rattle.laws.proofs.Blocks.Latest.{settling_layer, settling_map}
use Rattle.laws.proofs.Blocks.Ranges.{between-parts}

-- What a block holds depends on what the disk under the layers holds there alone.
pub overlay-same : (base other : BlockMap) (layers : List Layer) (block : ℕ) → base block ≡ other block → overlay base layers block ≡ overlay other layers block
overlay-same base other [] block same = same
overlay-same base other (layer ∷ layers) block same = overlay-same (λ b. block_under layer b (base b)) (λ b. block_under layer b (other b)) layers block
    (ap (λ v. block_under layer block v) same)

-- one layer more, on top
pub overlay-append : (base : BlockMap) (layers : List Layer) (layer : Layer) (block : ℕ)
    → overlay base (layers ++ layer ∷ []) block ≡ block_under layer block (overlay base layers block)
overlay-append base [] layer block = refl
overlay-append base (below ∷ layers) layer block = overlay-append (λ b. block_under below b (base b)) layers layer block

-- layers of the same writes that come to the same in a block
pub overlay-agrees : {X : Type 0} (f g : X → Layer) (base : BlockMap) (xs : List X) (block : ℕ)
    → ((i : ℕ) (x : X) → slice_get xs i ≡ Some x → (v : Option (List ℕ)) → block_under (f x) block v ≡ block_under (g x) block v)
    → overlay base (map f xs) block ≡ overlay base (map g xs) block
overlay-agrees f g base [] block same = refl
overlay-agrees f g base (x ∷ xs) block same =
    overlay-same (λ b. block_under (f x) b (base b)) (λ b. block_under (g x) b (base b)) (map f xs) block (same 0 x refl (base block))
    ∙ overlay-agrees f g (λ b. block_under (g x) b (base b)) xs block (λ i y at. same (suc i) y at)

-- layers that come to nothing in a block
pub overlay-none : {X : Type 0} (f : X → Layer) (base : BlockMap) (xs : List X) (block : ℕ)
    → ((i : ℕ) (x : X) → slice_get xs i ≡ Some x → (v : Option (List ℕ)) → block_under (f x) block v ≡ v) → overlay base (map f xs) block ≡ base block
overlay-none f base [] block same = refl
overlay-none f base (x ∷ xs) block same = overlay-none f (λ b. block_under (f x) b (base b)) xs block (λ i y at. same (suc i) y at) ∙ same 0 x refl (base block)

-- what a layer lays in a block that no later one has
pub overlay-last : {X : Type 0} (f : X → Layer) (base : BlockMap) (xs : List X) (block n : ℕ) (x : X) (laid : Option (List ℕ)) → slice_get xs n ≡ Some x
    → ((v : Option (List ℕ)) → block_under (f x) block v ≡ laid)
    → ((i : ℕ) (y : X) → n < i → slice_get xs i ≡ Some y → (v : Option (List ℕ)) → block_under (f y) block v ≡ v) → overlay base (map f xs) block ≡ laid
overlay-last f base [] block n x laid at lays none = absurd (cc)
overlay-last f base (y ∷ xs) block zero x laid at lays none =
    let same : y ≡ x = cc in
    overlay-none f (λ b. block_under (f y) b (base b)) xs block (λ i z there. none (suc i) z (omega arith) there)
    ∙ (ap (λ z. block_under (f z) block (base block)) same ∙ lays (base block))
overlay-last f base (y ∷ xs) block (suc n) x laid at lays none = overlay-last f (λ b. block_under (f y) b (base b)) xs block n x laid at lays
    (λ i z after there. none (suc i) z (omega arith) there)

-- a layer holds nothing outside its range
pub under-outside : (layer : Layer) (block : ℕ) (v : Option (List ℕ)) → is_between layer.first (length layer.contents) block ≡ false
    → block_under layer block v ≡ v
under-outside layer block v outside = ap (λ b. if b && layer.laid (block - layer.first) then slice_get layer.contents (block - layer.first) else v) outside

-- two layers of one range that are laid alike at a block
pub under-alike : (first : ℕ) (contents : List (List ℕ)) (laid other : ℕ → Bool) (block : ℕ) (v : Option (List ℕ))
    → laid (block - first) ≡ other (block - first)
    → block_under (record { first = first; contents = contents; laid = laid }) block v ≡ block_under
    (record { first = first; contents = contents; laid = other }) block v
under-alike first contents laid other block v same = ap (λ b. if is_between first (length contents) block && b then slice_get contents (block - first)
    else v) same

-- a layer that is laid, in its range
pub under-inside : (layer : Layer) (block : ℕ) (v : Option (List ℕ)) → is_between layer.first (length layer.contents) block ≡ true
    → layer.laid (block - layer.first) ≡ true
    → block_under layer block v ≡ slice_get layer.contents (block - layer.first)
under-inside layer block v inside laid =
    ap (λ b. if b && layer.laid (block - layer.first) then slice_get layer.contents (block - layer.first) else v) inside
    ∙ ap (λ b. if b then slice_get layer.contents (block - layer.first) else v) laid

-- a block in a range has contents
inside-some : (first : ℕ) (contents : List (List ℕ)) (block : ℕ) → is_between first (length contents) block ≡ true
    → is_some (slice_get contents (block - first)) ≡ true
inside-some first contents block inside =
    let parts = between-parts first (length contents) block inside in
    let low = parts.0 in
    let high = parts.1 in
    ap is_some (slice_get-get_or contents (block - first) [] (omega arith))

-- a layer leaves something where there was something
pub under-some : (layer : Layer) (block : ℕ) (v : Option (List ℕ)) → is_some v ≡ true → is_some (block_under layer block v) ≡ true
under-some layer block v some = elim (cases_Bool (is_between layer.first (length layer.contents) block)) [
  | inl inside ↦ elim (cases_Bool (layer.laid (block - layer.first))) [
    | inl laid ↦ ap is_some (under-inside layer block v inside laid) ∙ inside-some layer.first layer.contents block inside
    | inr bare ↦
        ap is_some (ap (λ b. if is_between layer.first (length layer.contents) block && b then slice_get layer.contents (block - layer.first) else v) bare
        ∙ ap (λ b. if b then slice_get layer.contents (block - layer.first)
        else v) (and_right (is_between layer.first (length layer.contents) block) false refl)) ∙ some
  ]
  | inr outside ↦ ap is_some (under-outside layer block v outside) ∙ some
]

-- Layers leave something in a block where the disk under them had something.
pub overlay-some : (base : BlockMap) (layers : List Layer) (block : ℕ) → is_some (base block) ≡ true → is_some (overlay base layers block) ≡ true
overlay-some base [] block some = some
overlay-some base (layer ∷ layers) block some = overlay-some (λ b. block_under layer b (base b)) layers block (under-some layer block (base block) some)

-- Where no waiting write has the block, the local disk holds what it comes to hold.
pub settled-is-local : (h : PrimaryHistory) (block : ℕ)
    → ((i : ℕ) (accepted : Accepted) → slice_get h.writes i ≡ Some accepted → is_waiting accepted.outcome ≡ true → covers accepted.write block ≡ false)
    → settling_map h block ≡ local_map h block
settled-is-local h block free = overlay-agrees settling_layer local_layer h.opening_map h.writes block
    (λ i accepted at v. same accepted v (λ waiting. free i accepted at waiting))
  where
    same : (accepted : Accepted) (v : Option (List ℕ)) → (is_waiting accepted.outcome ≡ true → covers accepted.write block ≡ false)
        → block_under (settling_layer accepted) block v ≡ block_under (local_layer accepted) block v
    same accepted v free = elim (cases_Bool (is_waiting accepted.outcome)) [
      | inl waiting ↦ under-outside (settling_layer accepted) block v (free waiting) ∙ sym (under-outside (local_layer accepted) block v (free waiting))
      | inr done ↦
          under-alike accepted.write.first accepted.write.contents (λ offset. is_waiting accepted.outcome || offset_reached accepted.outcome offset)
          (offset_reached accepted.outcome) block v
          (ap (λ b. b || offset_reached accepted.outcome (block - accepted.write.first)) done)
    ]

-- A write that is on the local disk, and the last one with a block: the disk comes to hold what it has there.
pub settling-last : (h : PrimaryHistory) (i block : ℕ) (a : Accepted) → slice_get h.writes i ≡ Some a → covers a.write block ≡ true
    → is_on_disk a.outcome ≡ true
    → ((j : ℕ) (b : Accepted) → i < j → slice_get h.writes j ≡ Some b → covers b.write block ≡ false)
    → settling_map h block ≡ slice_get a.write.contents (block - a.write.first)
settling-last h i block a at covered done last =
    overlay-last settling_layer h.opening_map h.writes block i a (slice_get a.write.contents (block - a.write.first)) at
    (λ v. under-inside (settling_layer a) block v covered (reached a.outcome (block - a.write.first) done))
    (λ j b after there v. under-outside (settling_layer b) block v (last j b after there))
  where
    reached : (outcome : LocalOutcome) (offset : ℕ) → is_on_disk outcome ≡ true → (is_waiting outcome || offset_reached outcome offset) ≡ true
    reached Waiting offset done = refl
    reached OnDisk offset done = refl
    reached (Failed offsets) offset done = absurd (cc)
