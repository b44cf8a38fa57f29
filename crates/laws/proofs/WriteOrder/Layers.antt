-- What layers leave in a block: of the first so many writes, and of the items that a secondary applied.
use Rattle.std.proofs.Common.{ℕ, zero, suc, ◌≡◌, ◌+◌, ◌-◌, ◌<◌, ◌≤◌, ◌⊎◌, inl, inr, Bool, true, false, ◌&&◌, List, [], ◌∷◌, length, take, map, Option, Some}
use Rattle.std.proofs.Common.{slice_get, refl, ◌∙◌, ap, subst, arith}
use Rattle.std.specs.Prelude.{if◌then◌else◌}
use Rattle.std.proofs.lemmas.Bool.{cases_Bool}
use Rattle.model.specs.Contents.{BlockMap, Layer, is_between, block_under, overlay}
use Rattle.model.specs.Stream.{StreamItem, Part, is_in, first_of, contents_of, layers_from}
use Rattle.model.specs.Primary.{Accepted}
use Rattle.laws.specs.Reflections.{touches, content_at}
use Rattle.laws.proofs.Blocks.Overlays.{overlay-same, overlay-none, under-outside, under-inside}

-- all blocks of a write
abbrev pub full_layer : Accepted → Layer
full_layer accepted = record { first = accepted.write.first; contents = accepted.write.contents; laid = λ offset. true }

-- what a disk holds once it has the first so many writes
abbrev pub writes_over : BlockMap → ℕ → List Accepted → BlockMap
writes_over base count writes = overlay base (map full_layer (take count writes))

-- a layer that is not laid in a block
pub under-bare : (layer : Layer) (block : ℕ) (v : Option (List ℕ))
    → (is_between layer.first (length layer.contents) block ≡ true → layer.laid (block - layer.first) ≡ false) → block_under layer block v ≡ v
under-bare layer block v bare = elim (cases_Bool (is_between layer.first (length layer.contents) block)) [
  | inr outside ↦ under-outside layer block v outside
  | inl inside ↦
      ap (λ b. if b && layer.laid (block - layer.first) then slice_get layer.contents (block - layer.first) else v) inside
      ∙ ap (λ b. if b then slice_get layer.contents (block - layer.first) else v) (bare inside)
]

-- Layers of which the first so many come to the same in a block as others, and the rest to nothing.
pub overlay-front : {X : Type 0} (f g : X → Layer) (base : BlockMap) (xs : List X) (count block : ℕ)
    → ((i : ℕ) (x : X) → i < count → slice_get xs i ≡ Some x → (v : Option (List ℕ)) → block_under (f x) block v ≡ block_under (g x) block v)
    → ((i : ℕ) (x : X) → count ≤ i → slice_get xs i ≡ Some x → (v : Option (List ℕ)) → block_under (f x) block v ≡ v)
    → overlay base (map f xs) block ≡ overlay base (map g (take count xs)) block
overlay-front f g base [] zero block same none = refl
overlay-front f g base [] (suc count) block same none = refl
overlay-front f g base (x ∷ xs) zero block same none = overlay-none f base (x ∷ xs) block (λ i y at v. none i y (omega arith) at v)
overlay-front f g base (x ∷ xs) (suc count) block same none =
    overlay-same (λ b. block_under (f x) b (base b)) (λ b. block_under (g x) b (base b)) (map f xs) block (same 0 x (omega arith) refl (base block))
    ∙ overlay-front f g (λ b. block_under (g x) b (base b)) xs count block (λ i y less at v. same (suc i) y (omega arith) at v)
    (λ i y more at v. none (suc i) y (omega arith) at v)

-- The last element that passes a test of its place, or else none does.
pub record LastPassing {X : Type 0} (p : ℕ → X → Bool) (xs : List X) : Type 0 where
  pub place : ℕ
  pub found : X
  pub at : slice_get xs place ≡ Some found
  pub passes : p place found ≡ true
  pub later : (n : ℕ) (x : X) → place < n → slice_get xs n ≡ Some x → p n x ≡ false

-- one of the two is so
pub last-passing : {X : Type 0} (p : ℕ → X → Bool) (xs : List X) → LastPassing p xs ⊎ ((n : ℕ) (x : X) → slice_get xs n ≡ Some x → p n x ≡ false)
last-passing p [] = inr (λ n x at. absurd (cc))
last-passing {X} p (x ∷ xs) = elim (last-passing (λ n. p (suc n)) xs) [
  | inl l ↦ inl (record { place = suc l.place; found = l.found; at = l.at; passes = l.passes; later = λ n y less at. behind l n y less at })
  | inr none ↦ elim (cases_Bool (p 0 x)) [
    | inl here ↦ inl (record { place = 0; found = x; at = refl; passes = here; later = λ n y less at. after none n y less at })
    | inr not_here ↦ inr (λ n y at. neither not_here none n y at)
  ]
]
  where
    behind : (l : LastPassing (λ n. p (suc n)) xs) (n : ℕ) (y : X) → suc l.place < n → slice_get (x ∷ xs) n ≡ Some y → p n y ≡ false
    behind l zero y less at = absurd (omega arith)
    behind l (suc n) y less at = l.later n y (omega arith) at

    after : ((n : ℕ) (y : X) → slice_get xs n ≡ Some y → p (suc n) y ≡ false) → (n : ℕ) (y : X) → 0 < n → slice_get (x ∷ xs) n ≡ Some y → p n y ≡ false
    after none zero y less at = absurd (omega arith)
    after none (suc n) y less at = none n y at

    neither : p 0 x ≡ false → ((n : ℕ) (y : X) → slice_get xs n ≡ Some y → p (suc n) y ≡ false) → (n : ℕ) (y : X) → slice_get (x ∷ xs) n ≡ Some y
        → p n y ≡ false
    neither not_here none zero y at = let same : x ≡ y = cc in subst (λ z. p 0 z ≡ false) same not_here
    neither not_here none (suc n) y at = none n y at

-- what an item of a part lays
abbrev item_layer : Part → ℕ → StreamItem → Layer
item_layer part place item = record { first = first_of item; contents = contents_of item; laid = λ offset. is_in part place offset }

-- Items of which none is laid in a block leave it.
pub layers-bare : (base : BlockMap) (start : ℕ) (items : List StreamItem) (part : Part) (block : ℕ)
    → ((n : ℕ) (i : StreamItem) → slice_get items n ≡ Some i → touches i block ≡ true → is_in part (start + n) (block - first_of i) ≡ false)
    → overlay base (layers_from start items part) block ≡ base block
layers-bare base start [] part block bare = refl
layers-bare base start (x ∷ items) part block bare =
    layers-bare (λ b. block_under (item_layer part start x) b (base b)) (suc start) items part block (λ n i at touched.
    let here : start + suc n ≡ suc start + n = omega arith in
    subst (λ m. is_in part m (block - first_of i) ≡ false) here (bare (suc n) i at touched))
    ∙ under-bare (item_layer part start x) block (base block) (λ inside.
    let here : start + 0 ≡ start = omega arith in
    subst (λ m. is_in part m (block - first_of x) ≡ false) here (bare 0 x refl inside))

-- The last one that is laid in a block is what it holds.
pub layers-last : (base : BlockMap) (start : ℕ) (items : List StreamItem) (part : Part) (block place : ℕ) (item : StreamItem)
    → slice_get items place ≡ Some item
    → touches item block ≡ true
    → is_in part (start + place) (block - first_of item) ≡ true
    → ((n : ℕ) (i : StreamItem) → place < n → slice_get items n ≡ Some i → touches i block ≡ true → is_in part (start + n) (block - first_of i) ≡ false)
    → overlay base (layers_from start items part) block ≡ content_at item block
layers-last base start [] part block place item at touched laid bare = absurd (cc)
layers-last base start (x ∷ items) part block zero item at touched laid bare =
    let same : item ≡ x = cc in
    let here : start + 0 ≡ start = omega arith in
    layers-bare (λ b. block_under (item_layer part start x) b (base b)) (suc start) items part block (λ n i there hit.
    let index : start + suc n ≡ suc start + n = omega arith in
    subst (λ m. is_in part m (block - first_of i) ≡ false) index (bare (suc n) i (omega arith) there hit))
    ∙ (under-inside (item_layer part start x) block (base block) (subst (λ (i : StreamItem). touches i block ≡ true) same touched)
    (subst (λ (i : StreamItem). is_in part start (block - first_of i) ≡ true) same (subst (λ n. is_in part n (block - first_of item) ≡ true) here laid))
    ∙ ap (λ (i : StreamItem). content_at i block) (let e : x ≡ item = cc in e))
layers-last base start (x ∷ items) part block (suc place) item at touched laid bare =
    let here : start + suc place ≡ suc start + place = omega arith in
    layers-last (λ b. block_under (item_layer part start x) b (base b)) (suc start) items part block place item at touched
    (subst (λ n. is_in part n (block - first_of item) ≡ true) here laid) (λ n i less there hit.
    let index : start + suc n ≡ suc start + n = omega arith in
    subst (λ m. is_in part m (block - first_of i) ≡ false) index (bare (suc n) i (omega arith) there hit))
