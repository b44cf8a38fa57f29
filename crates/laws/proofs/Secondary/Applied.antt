-- What a secondary's disk holds of one block, of the items that it took on one connection.
use Rattle.std.proofs.Common.{ℕ, zero, suc, ◌≡◌, ◌+◌, ◌-◌, ◌<◌, inl, inr, true, ◌&&◌, List, [], ◌∷◌, length, Option, Some, slice_get, refl, ◌∙◌, ap, subst}
use Rattle.std.proofs.Common.{arith}
use Rattle.std.specs.Prelude.{if◌then◌else◌}
use Rattle.std.proofs.lemmas.Bool.{cases_Bool}
use Rattle.model.specs.Contents.{BlockMap, block_under, overlay}
use Rattle.model.specs.Stream.{StreamItem, Part, is_in, is_whole, first_of, contents_of, layers_from}
use Rattle.model.specs.Secondary.{SecondaryConnection, items_taken, map_of}
use Rattle.laws.specs.Reflections.{touches, content_at}
use Rattle.laws.proofs.Blocks.Overlays.{under-outside, under-inside}
use Rattle.laws.proofs.Streams.Parts.{whole-has}
use Rattle.laws.proofs.Blocks.Ranges.{between-parts}

-- a block that an item's layer leaves as it was, or gives the value that it had
under-same : (item : StreamItem) (part : Part) (place block : ℕ) (below v : Option (List ℕ)) → below ≡ v
    → (touches item block ≡ true → content_at item block ≡ v)
    → block_under (record { first = first_of item; contents = contents_of item; laid = λ offset. is_in part place offset }) block below ≡ v
under-same item part place block below v was same = elim (cases_Bool (touches item block)) [
  | inr outside ↦ under-outside (record { first = first_of item; contents = contents_of item; laid = λ offset. is_in part place offset }) block below outside
      ∙ was
  | inl inside ↦ elim (cases_Bool (is_in part place (block - first_of item))) [
    | inl laid ↦ under-inside (record { first = first_of item; contents = contents_of item; laid = λ offset. is_in part place offset }) block below inside laid
        ∙ same inside
    | inr bare ↦
        ap (λ b. if b && is_in part place (block - first_of item) then slice_get (contents_of item) (block - first_of item) else below) inside
        ∙ (ap (λ b. if b then slice_get (contents_of item) (block - first_of item) else below) bare ∙ was)
  ]
]

layers-keep : (base : BlockMap) (start : ℕ) (items : List StreamItem) (part : Part) (block : ℕ) (v : Option (List ℕ)) → base block ≡ v
    → ((n : ℕ) (i : StreamItem) → slice_get items n ≡ Some i → touches i block ≡ true → content_at i block ≡ v)
    → overlay base (layers_from start items part) block ≡ v
layers-keep base start [] part block v was same = was
layers-keep base start (x ∷ items) part block v was same =
    layers-keep (λ b. block_under (record { first = first_of x; contents = contents_of x; laid = λ offset. is_in part start offset }) b (base b))
    (suc start) items part block v
    (under-same x part start block (base block) v was (same 0 x refl)) (λ n i at touched. same (suc n) i at touched)

layers-settle : (base : BlockMap) (start : ℕ) (items : List StreamItem) (part : Part) (block : ℕ) (v : Option (List ℕ)) (place : ℕ) (item : StreamItem)
    → slice_get items place ≡ Some item → touches item block ≡ true
    → is_in part (start + place) (block - first_of item) ≡ true → content_at item block ≡ v
    → ((n : ℕ) (i : StreamItem) → place < n → slice_get items n ≡ Some i → touches i block ≡ true → content_at i block ≡ v)
    → overlay base (layers_from start items part) block ≡ v
layers-settle base start [] part block v place item at touched laid content later = absurd (cc)
layers-settle base start (x ∷ items) part block v zero item at touched laid content later =
    let same : item ≡ x = cc in
    let here : start + 0 ≡ start = omega arith in
    layers-keep (λ b. block_under (record { first = first_of x; contents = contents_of x; laid = λ offset. is_in part start offset }) b (base b))
    (suc start) items part block v
    (under-inside (record { first = first_of x; contents = contents_of x; laid = λ offset. is_in part start offset }) block (base block)
    (subst (λ (i : StreamItem). touches i block ≡ true) same touched)
    (subst (λ (i : StreamItem). is_in part start (block - first_of i) ≡ true) same (subst (λ n. is_in part n (block - first_of item) ≡ true) here laid))
    ∙ subst (λ (i : StreamItem). content_at i block ≡ v) same content)
    (λ n i there hit. later (suc n) i (omega arith) there hit)
layers-settle base start (x ∷ items) part block v (suc place) item at touched laid content later =
    let here : start + suc place ≡ suc start + place = omega arith in
    layers-settle (λ b. block_under (record { first = first_of x; contents = contents_of x; laid = λ offset. is_in part start offset }) b (base b))
    (suc start) items part block v place item at touched
    (subst (λ n. is_in part n (block - first_of item) ≡ true) here laid) content (λ n i less there hit. later (suc n) i (omega arith) there hit)

-- A block keeps what it had when the connection opened, if every item taken that touches it has the same.
pub map-keeps : (d : SecondaryConnection) (block : ℕ) (v : Option (List ℕ)) → d.base block ≡ v
    → ((n : ℕ) (i : StreamItem) → slice_get (items_taken d) n ≡ Some i → touches i block ≡ true → content_at i block ≡ v) → map_of d block ≡ v
map-keeps d block v was same = layers-keep d.base 0 (items_taken d) d.applied block v was same

-- A block holds what an item has that is applied and touches it, if every later one that does has the same.
pub map-settles : (d : SecondaryConnection) (block : ℕ) (v : Option (List ℕ)) (place : ℕ) (item : StreamItem) → slice_get (items_taken d) place ≡ Some item
    → touches item block ≡ true
    → is_whole d.applied place item ≡ true → content_at item block ≡ v
    → ((n : ℕ) (i : StreamItem) → place < n → slice_get (items_taken d) n ≡ Some i → touches i block ≡ true → content_at i block ≡ v) → map_of d block ≡ v
map-settles d block v place item at touched whole content later =
    let parts = between-parts (first_of item) (length (contents_of item)) block touched in
    let low = parts.0 in
    let high = parts.1 in
    let here : place ≡ 0 + place = omega arith in
    layers-settle d.base 0 (items_taken d) d.applied block v place item at touched
    (subst (λ n. is_in d.applied n (block - first_of item) ≡ true) here (whole-has d.applied place (block - first_of item) item whole (omega arith))) content
    later
