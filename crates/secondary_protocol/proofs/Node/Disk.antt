-- A disk after blocks were written to it, and a connection's disk after an item was laid over it.
use Rattle.std.proofs.Common.{ℕ, zero, suc, ◌≡◌, ◌+◌, ◌-◌, ◌<◌, inl, inr, true, false, List, [], ◌∷◌, Some, slice_get, refl, sym, ◌∙◌, ap, subst, arith}
use Rattle.std.proofs.lemmas.Bool.{cases_Bool}
use Rattle.model.specs.Contents.{BlockMap, Layer, block_under, overlay}
use Rattle.model.specs.Stream.{StreamItem, Part, is_in, first_of, contents_of, layers_from}
use Rattle.laws.specs.Reflections.{touches}
use Rattle.laws.proofs.Blocks.Overlays.{overlay-same, under-outside, under-inside, under-alike}
pub use Rattle.blocks.proofs.Written.{written-inside, written-before, written-after}
use Rattle.secondary_protocol.proofs.Node.Grows.{layers-none}

-- Two parts lay the same over a block, where they agree on each item that touches it.
pub layers-alike : (base : BlockMap) (start : ℕ) (items : List StreamItem) (part other : Part) (block : ℕ)
    → ((n : ℕ) (item : StreamItem) → slice_get items n ≡ Some item → touches item block ≡ true
    → is_in part (start + n) (block - first_of item) ≡ is_in other (start + n) (block - first_of item))
    → overlay base (layers_from start items part) block ≡ overlay base (layers_from start items other) block
layers-alike base start [] part other block same = refl
layers-alike base start (x ∷ items) part other block same =
    let here : start + 0 ≡ start = omega arith in
    layers-alike (λ b. block_under (layer start part x) b (base b)) (suc start) items part other block
    (λ n item at touched. let on : suc start + n ≡ start + suc n = omega arith in rw on (same (suc n) item at touched))
    ∙ overlay-same (λ b. block_under (layer start part x) b (base b)) (λ b. block_under (layer start other x) b (base b)) (layers_from (suc start) items other)
    block (elim (cases_Bool (touches x block)) [
      | inr outside ↦ under-outside (layer start part x) block (base block) outside ∙ sym (under-outside (layer start other x) block (base block) outside)
      | inl inside ↦ under-alike (first_of x) (contents_of x) (λ offset. is_in part start offset) (λ offset. is_in other start offset) block (base block)
          (subst (λ (k : ℕ). is_in part k (block - first_of x) ≡ is_in other k (block - first_of x)) here (same 0 x refl inside))
    ])
  where
    layer : ℕ → Part → StreamItem → Layer
    layer place laid item = record { first = first_of item; contents = contents_of item; laid = λ offset. is_in laid place offset }

-- What an item lays over a block that it touches stays, where no later one that touches it has a part there.
pub layers-laid : (base : BlockMap) (start : ℕ) (items : List StreamItem) (part : Part) (block place : ℕ) (item : StreamItem)
    → slice_get items place ≡ Some item
    → touches item block ≡ true → is_in part (start + place) (block - first_of item) ≡ true
    → ((n : ℕ) (later : StreamItem) → place < n → slice_get items n ≡ Some later → touches later block ≡ true
    → is_in part (start + n) (block - first_of later) ≡ false)
    → overlay base (layers_from start items part) block ≡ slice_get (contents_of item) (block - first_of item)
layers-laid base start [] part block place item at touched laid later = absurd (cc)
layers-laid base start (x ∷ items) part block zero item at touched laid later =
    let same : x ≡ item = cc in
    let here : start + 0 ≡ start = omega arith in
    layers-alike (λ b. block_under (layer x) b (base b)) (suc start) items part [] block
    (λ n one there hit. let on : suc start + n ≡ start + suc n = omega arith in rw on (later (suc n) one (omega arith) there hit))
    ∙ (layers-none (λ b. block_under (layer x) b (base b)) (suc start) items [] block (λ other offset inside. absurd (cc))
    ∙ (under-inside (layer x) block (base block) (subst (λ (i : StreamItem). touches i block ≡ true) (sym same) touched)
    (subst (λ (i : StreamItem). is_in part start (block - first_of i) ≡ true) (sym same)
    (subst (λ (k : ℕ). is_in part k (block - first_of item) ≡ true) here laid))
    ∙ ap (λ (i : StreamItem). slice_get (contents_of i) (block - first_of i)) same))
  where
    layer : StreamItem → Layer
    layer one = record { first = first_of one; contents = contents_of one; laid = λ offset. is_in part start offset }
layers-laid base start (x ∷ items) part block (suc place) item at touched laid later =
    let on : start + suc place ≡ suc start + place = omega arith in
    layers-laid (λ b. block_under (record { first = first_of x; contents = contents_of x; laid = λ offset. is_in part start offset }) b (base b))
    (suc start) items part block place item at touched
    (subst (λ (k : ℕ). is_in part k (block - first_of item) ≡ true) on laid)
    (λ n one less there hit. let next : suc start + n ≡ start + suc n = omega arith in rw next (later (suc n) one (omega arith) there hit))
