-- The disk after blocks of an item that may be applied were written, whole or in part: what the connection has with them.
use Rattle.std.proofs.Common.{ℕ, zero, suc, ◌≡◌, ◌+◌, ◌-◌, ◌<◌, ◌≤◌, ◌⊎◌, inl, inr, Bool, true, false, cond, ◌&&◌, ◌||◌, List, [], ◌∷◌, ◌++◌, length, take}
use Rattle.std.proofs.Common.{Some, None, slice_get, refl, sym, ◌∙◌, ap, subst, arith, ◌==◌, nat_lt, nat_le}
use Rattle.std.specs.Prelude.{filter}
use Rattle.std.specs.List.{list_any}
use Rattle.std.proofs.lemmas.Bool.{cases_Bool, cases_lt, both_ways, eq-eqb, eqb-true, false_from_ne_true, lt-ltb, le-leb, or_cases, or_right, and_from}
use Rattle.std.proofs.lemmas.Option.{slice_get_past, slice_get_cases}
use Rattle.std.proofs.Math.Bool.{or-false}
use Rattle.blocks.specs.Contents.{overwritten, IsTorn}
use Rattle.model.specs.Contents.{overlay, is_between}
use Rattle.model.specs.Stream.{StreamItem, Part, is_in, is_barrier, barriers_in, epoch_of, first_of, contents_of, items_meet, layers_from, below, within}
use Rattle.model.specs.Secondary.{SecondaryConnection, items_taken, map_of}
use Rattle.model.specs.SecondarySteps.{offsets_at}
use Rattle.laws.specs.Reflections.{touches}
use Rattle.laws.proofs.Blocks.Ranges.{between-parts}
use Rattle.laws.proofs.Lists.Elements.{same-at}
use Rattle.laws.proofs.Lists.Picks.{any-pick, pick-any, filtered-pick, pick-filtered, pick-below}
use Rattle.laws.proofs.Secondary.Sound.{IsSound, Started}
use Rattle.laws.proofs.Streams.Parts.{in-append, in-offsets}
use Rattle.laws.proofs.Lists.Picks.{below-has}
use Rattle.secondary_protocol.proofs.Apart.{meet-back}
use Rattle.secondary_protocol.proofs.Node.Apart.{AreApart}
use Rattle.secondary_protocol.proofs.Node.Disk.{layers-alike, layers-laid, written-inside, written-before, written-after}

-- whether an offset is one of some
abbrev pub has : List ℕ → ℕ → Bool
has offsets offset = list_any (λ k. k == offset) offsets

-- What a block holds after a write of these offsets of an item: what the item has for it, or what the block held.
abbrev pub LaidAt : StreamItem → List ℕ → List (List ℕ) → List (List ℕ) → ℕ → Type 0
LaidAt item offsets device new block =
    ((touches item block ≡ true) × (has offsets (block - first_of item) ≡ true) × (slice_get new block ≡ slice_get (contents_of item) (block - first_of item)))
    ⊎ ((slice_get new block ≡ slice_get device block) × (touches item block ≡ true → has offsets (block - first_of item) ≡ false))

-- Later places are in no earlier epochs.
epoch-rises : (items : List StreamItem) (place later : ℕ) → place ≤ later → epoch_of items place ≤ epoch_of items later
epoch-rises items place later before = let less = go items place later before in omega arith
  where
    go : (items : List StreamItem) (place later : ℕ) → place ≤ later → barriers_in (take place items) ≤ barriers_in (take later items)
    go items zero later before = omega arith
    go [] (suc place) later before = omega arith
    go (x ∷ items) (suc place) zero before = absurd (omega arith)
    go (x ∷ items) (suc place) (suc later) before = by (is_barrier x) (go items place later (omega arith))
      where
        by : (b : Bool) → barriers_in (take place items) ≤ barriers_in (take later items)
            → length (cond b (x ∷ filter is_barrier (take place items)) (filter is_barrier (take place items))) ≤ length
            (cond b (x ∷ filter is_barrier (take later items)) (filter is_barrier (take later items)))
        by true less = omega arith
        by false less = less

-- Items that touch one block share it.
both-touch : (a b : StreamItem) (block : ℕ) → touches a block ≡ true → touches b block ≡ true → items_meet a b ≡ true
both-touch a b block here there =
    let parts = between-parts (first_of b) (length (contents_of b)) block there in
    let from : first_of b ≤ block = parts.0 in
    let before : block < first_of b + length (contents_of b) = parts.1 in
    let at : first_of b + (block - first_of b) ≡ block = omega arith in
    meet-back (first_of a) (length (contents_of a)) (first_of b) (length (contents_of b)) (block - first_of b) (omega arith)
    (subst (λ (n : ℕ). is_between (first_of a) (length (contents_of a)) n ≡ true) (sym at) here)

-- whether an item's offset is in a part of it
in-has : (place : ℕ) (offsets : List ℕ) (offset : ℕ) → is_in (offsets_at place offsets) place offset ≡ has offsets offset
in-has place [] offset = refl
in-has place (x ∷ offsets) offset = λ i. (eq-eqb place place refl i && (x == offset)) || in-has place offsets offset i

-- An item that may be applied lies over everything else that is.
pub laid-map : (c : SecondaryConnection) (place : ℕ) (item : StreamItem) (s : IsSound c) → Started c place s → AreApart (items_taken c)
    → slice_get (items_taken c) place ≡ Some item → (offsets : List ℕ) (device new : List (List ℕ))
    → ((block : ℕ) → slice_get device block ≡ map_of c block) → ((block : ℕ) → LaidAt item offsets device new block)
    → (block : ℕ) → slice_get new block ≡ overlay c.base (layers_from 0 (items_taken c) (c.applied ++ offsets_at place offsets)) block
laid-map c place item s start apart there offsets device new same laid block = elim (laid block) [
  | inl a ↦ a.2 ∙ sym (layers-laid c.base 0 items part block place item there a.0 (is-laid a.1) (λ n one less at touched. none-later n one less at a.0 touched))
  | inr b ↦ b.0 ∙ (same block ∙ sym (layers-alike c.base 0 items part c.applied block (λ n one at touched. not-new n one at touched b.1)))
]
  where
    items : List StreamItem
    items = items_taken c

    part : Part
    part = c.applied ++ offsets_at place offsets

    is-laid : has offsets (block - first_of item) ≡ true → is_in part (0 + place) (block - first_of item) ≡ true
    is-laid listed =
        let here : 0 + place ≡ place = omega arith in
        subst (λ (n : ℕ). is_in part n (block - first_of item) ≡ true) (sym here) (in-append c.applied (offsets_at place offsets) place (block - first_of item)
        ∙ or_right (is_in c.applied place (block - first_of item)) (is_in (offsets_at place offsets) place (block - first_of item))
        (in-has place offsets (block - first_of item) ∙ listed))

    none-later : (n : ℕ) (one : StreamItem) → place < n → slice_get items n ≡ Some one → touches item block ≡ true → touches one block ≡ true
        → is_in part (0 + n) (block - first_of one) ≡ false
    none-later n one less at touched also = false_from_ne_true (is_in part (0 + n) (block - first_of one)) (λ inside.
        let here : 0 + n ≡ n = omega arith in
        elim (or_cases (is_in c.applied n (block - first_of one)) (is_in (offsets_at place offsets) n (block - first_of one))
        (sym (in-append c.applied (offsets_at place offsets) n (block - first_of one))
        ∙ subst (λ (k : ℕ). is_in part k (block - first_of one) ≡ true) here inside)) [
          | inl before ↦
              let upto = s.after n (block - first_of one) before in
              let from = start.not_before in
              let rises = epoch-rises items place n (omega arith) in
              let epochs : epoch_of items place ≡ epoch_of items n = omega arith in
              absurd (both_ways (items_meet item one) (apart.apart place n item one less epochs there at) (both-touch item one block touched also))
          | inr added ↦ absurd (let equal = in-offsets place offsets n (block - first_of one) added in omega arith)
        ])

    not-new : (n : ℕ) (one : StreamItem) → slice_get items n ≡ Some one → touches one block ≡ true
        → (touches item block ≡ true → has offsets (block - first_of item) ≡ false)
        → is_in part (0 + n) (block - first_of one) ≡ is_in c.applied (0 + n) (block - first_of one)
    not-new n one at touched bare =
        let none : is_in (offsets_at place offsets) (0 + n) (block - first_of one) ≡ false =
        false_from_ne_true (is_in (offsets_at place offsets) (0 + n) (block - first_of one)) (λ inside.
        let equal : place ≡ n = let is = in-offsets place offsets (0 + n) (block - first_of one) inside in omega arith in
        let is : one ≡ item = same-at items place one item (subst (λ (k : ℕ). slice_get items k ≡ Some one) (sym equal) at) there in
        let here : 0 + n ≡ place = omega arith in
        let listed : has offsets (block - first_of item) ≡ true = sym (in-has place offsets (block - first_of item))
        ∙ subst (λ (x : StreamItem). is_in (offsets_at place offsets) place (block - first_of x) ≡ true) is
        (subst (λ (k : ℕ). is_in (offsets_at place offsets) k (block - first_of one) ≡ true) here inside) in
        both_ways (has offsets (block - first_of item)) (bare (subst (λ (x : StreamItem). touches x block ≡ true) is touched)) listed) in
        in-append c.applied (offsets_at place offsets) (0 + n) (block - first_of one)
        ∙ (ap (λ b. is_in c.applied (0 + n) (block - first_of one) || b) none ∙ or-false (is_in c.applied (0 + n) (block - first_of one)))

-- What a write leaves in a block.

module _ (item : StreamItem) (device : List (List ℕ)) (inside : first_of item + length (contents_of item) ≤ length device) where
  abbrev first : ℕ
  first = first_of item

  abbrev size : ℕ
  size = length (contents_of item)

  -- a number below another is one of those below it
  has-below : (n k : ℕ) → k < n → has (below n) k ≡ true
  has-below n k less = let place = below-has n k less in any-pick (λ x. x == k) (below n) place.0 k place.1 (eq-eqb k k refl)

  -- of the first so many blocks
  pub kept-laid : (kept : ℕ) → kept ≤ size → (block : ℕ)
      → LaidAt item (within size (below kept)) device (overwritten device first (take kept (contents_of item))) block
  kept-laid kept few block = elim (cases_lt block first) [
    | inl before ↦ inr (
      written-before device (take kept (contents_of item)) first block (omega arith) before,
      λ touched. absurd (let there = (between-parts first size block touched).0 in omega arith),
    )
    | inr from ↦ elim (cases_lt block (first + kept)) [
      | inl new ↦ inl (
        and_from (nat_le first block) (nat_lt block (first + size)) (le-leb first block from) (lt-ltb block (first + size) (omega arith)),
        kept-has (block - first) (omega arith),
        written-inside device (take kept (contents_of item)) first block (omega arith) from (let long = long-take kept (contents_of item) few in omega arith)
            ∙ get-take kept (contents_of item) (block - first) (omega arith),
      )
      | inr old ↦ inr (
        written-after device (take kept (contents_of item)) first block (omega arith) (let long = long-take kept (contents_of item) few in omega arith),
        λ touched. false_from_ne_true (has (within size (below kept)) (block - first)) (λ listed.
            let found = pick-any (λ k. k == (block - first)) (within size (below kept)) listed in
            let among = pick-filtered (λ (o : ℕ). nat_lt o size) (below kept) found.0 found.1 found.2 in
            let less = pick-below kept among.0 found.1 among.1 in
            let is = eqb-true found.1 (block - first) found.3 in
            omega arith),
      )
    ]
  ]
    where
      long-take : (n : ℕ) (xs : List (List ℕ)) → n ≤ length xs → length (take n xs) ≡ n
      long-take zero xs less = refl
      long-take (suc n) [] less = absurd (omega arith)
      long-take (suc n) (x ∷ xs) less = ap suc (long-take n xs (omega arith))

      get-take : (n : ℕ) (xs : List (List ℕ)) (k : ℕ) → k < n → slice_get (take n xs) k ≡ slice_get xs k
      get-take zero xs k less = absurd (omega arith)
      get-take (suc n) [] k less = refl
      get-take (suc n) (x ∷ xs) zero less = refl
      get-take (suc n) (x ∷ xs) (suc k) less = get-take n xs k (omega arith)

      kept-has : (o : ℕ) → o < kept → has (within size (below kept)) o ≡ true
      kept-has o less =
          let among = below-has kept o less in
          let passed = filtered-pick (λ (x : ℕ). nat_lt x size) (below kept) among.0 o among.1 (lt-ltb o size (omega arith)) in
          any-pick (λ x. x == o) (within size (below kept)) passed.0 o passed.1 (eq-eqb o o refl)

  -- of all of them
  pub whole-laid : (block : ℕ) → LaidAt item (below size) device (overwritten device first (contents_of item)) block
  whole-laid block = elim (cases_lt block first) [
    | inl before ↦ inr (
      written-before device (contents_of item) first block (omega arith) before,
      λ touched. absurd (let there = (between-parts first size block touched).0 in omega arith),
    )
    | inr from ↦ elim (cases_lt block (first + size)) [
      | inl new ↦ inl (
        and_from (nat_le first block) (nat_lt block (first + size)) (le-leb first block from) (lt-ltb block (first + size) new),
        has-below size (block - first) (omega arith),
        written-inside device (contents_of item) first block (omega arith) from new,
      )
      | inr old ↦ inr (
        written-after device (contents_of item) first block (omega arith) old,
        λ touched. absurd (let there = (between-parts first size block touched).1 in omega arith),
      )
    ]
  ]

  -- Of those that a disk left new that failed.
  module _ (torn : List (List ℕ)) (is : IsTorn device first (contents_of item) torn) where
    abbrev Old : ℕ → Type 0
    Old block = slice_get torn block ≡ slice_get device block

    abbrev New : ℕ → Type 0
    New block = (first ≤ block) × (slice_get torn block ≡ slice_get (contents_of item) (block - first))

    abbrev is_new : {A B : Type 0} → A ⊎ B → Bool
    is_new (inl a) = false
    is_new (inr b) = true

    -- their offsets
    abbrev pub torn_offsets : List ℕ
    torn_offsets = filter (λ o. is_new (is.each (first + o))) (below size)

    -- each is one of them exactly where its block is new
    picked : (o : ℕ) → o < size → is_new (is.each (first + o)) ≡ true → has (within size torn_offsets) o ≡ true
    picked o less new =
        let among = below-has size o less in
        let passed = filtered-pick (λ (x : ℕ). is_new (is.each (first + x))) (below size) among.0 o among.1 new in
        let also = filtered-pick (λ (x : ℕ). nat_lt x size) torn_offsets passed.0 o passed.1 (lt-ltb o size less) in
        any-pick (λ x. x == o) (within size torn_offsets) also.0 o also.1 (eq-eqb o o refl)

    not-picked : (o : ℕ) → is_new (is.each (first + o)) ≡ false → has (within size torn_offsets) o ≡ false
    not-picked o old = false_from_ne_true (has (within size torn_offsets) o) (λ listed.
        let found = pick-any (λ k. k == o) (within size torn_offsets) listed in
        let among = pick-filtered (λ (x : ℕ). nat_lt x size) torn_offsets found.0 found.1 found.2 in
        let passed = pick-filtered (λ (x : ℕ). is_new (is.each (first + x))) (below size) among.0 found.1 among.1 in
        both_ways (is_new (is.each (first + o))) old (subst (λ (k : ℕ). is_new (is.each (first + k)) ≡ true) (eqb-true found.1 o found.3) passed.2))

    -- what each block holds then
    pub torn-laid : (block : ℕ) → LaidAt item (within size torn_offsets) device torn block
    torn-laid block = elim (cases_Bool (touches item block)) [
      | inl touched ↦
          let parts = between-parts first size block touched in
          let from : first ≤ block = parts.0 in
          let before : block < first + size = parts.1 in
          let at : first + (block - first) ≡ block = omega arith in
          by touched at (omega arith) (is.each (first + (block - first))) refl
      | inr outside ↦ inr (
        elim (is.each block) [ inl old ↦ old | inr new ↦ past outside new.0 new.1 ],
        λ touched. absurd (both_ways (touches item block) outside touched),
      )
    ]
      where
        by : touches item block ≡ true → first + (block - first) ≡ block → block - first < size
            → (v : Old (first + (block - first)) ⊎ New (first + (block - first))) → is.each (first + (block - first)) ≡ v
            → LaidAt item (within size torn_offsets) device torn block
        by touched at less (inl old) here = inr (subst Old at old, λ hit. not-picked (block - first) (ap is_new here))
        by touched at less (inr new) here = inl (touched, picked (block - first) less (ap is_new here), (subst New at new).1)

        past : touches item block ≡ false → first ≤ block → slice_get torn block ≡ slice_get (contents_of item) (block - first)
            → slice_get torn block ≡ slice_get device block
        past outside from new = elim (cases_lt block (first + size)) [
          | inl within_it ↦ absurd (both_ways (touches item block) outside
              (and_from (nat_le first block) (nat_lt block (first + size)) (le-leb first block from) (lt-ltb block (first + size) within_it)))
          | inr behind ↦
              let none : slice_get torn block ≡ None = new ∙ slice_get_past (contents_of item) (block - first) (omega arith) in
              none ∙ sym (slice_get_past device block
              (elim (slice_get_cases torn block).1 [
                | inl some ↦ absurd (let at = some.2 in cc)
                | inr short ↦ let long = is.size in let less =
                    short.0 in omega arith
              ]))
        ]
