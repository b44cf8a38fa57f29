-- The ordered set of writes behind a consistent secondary: every block of the writes that were accepted before the stream of a
-- connection began, and of the writes of that connection what is applied there.
use Rattle.std.proofs.Common.{ℕ, suc, ◌≡◌, ◌-◌, ◌<◌, ◌≤◌, ◌⊎◌, inl, inr, Bool, true, false, ◌&&◌, ◌||◌, ◌==◌, nat_lt, zero-add, List}
use Rattle.std.proofs.Common.{[], ◌∷◌, ◌++◌, length, take, map, Option, Some, None, slice_get, refl, sym, ◌∙◌, ap, subst, arith}
use Rattle.std.proofs.lemmas.Bool.{cases_Bool, cases_lt, both_ways, or_cases, or_left, or_right, or_from, and_parts, and_from, eqb-true, eq-eqb}
use Rattle.std.proofs.lemmas.Bool.{lt-ltb, ltb-true, le-ltb, false_from_ne_true, and_cases}
use Rattle.std.proofs.lemmas.Option.{slice_get_within}
use Rattle.blocks.specs.Positions.{StreamPosition}
use Rattle.model.specs.Contents.{BlockMap, Write, covers, block_under, overlay}
use Rattle.model.specs.Stream.{StreamItem, WriteItem, ResyncItem, BarrierItem, SyncUuidItem, UuidsItem, Part, IsBeginning, is_in, first_of, contents_of}
use Rattle.model.specs.Stream.{epoch_of}
use Rattle.model.specs.Primary.{Accepted, PrimaryConnection, PrimaryHistory, primary_connection_at}
use Rattle.model.specs.Secondary.{SecondaryConnection, SecondaryHistory, secondary_connection, items_taken, map_of, secondary_map, whole}
use Rattle.model.specs.Headline.{HoldsEarlierEpochs}
use Rattle.model.specs.WriteOrder.{Blocks, comes_before, IsOrdered, layer_of, base_of, HasWholeEpochs, IsOnDisk}
use Rattle.laws.specs.Reflections.{touches, content_at}
use Rattle.laws.proofs.Blocks.Overlays.{overlay-same, overlay-last, under-alike, under-inside, under-outside}
use Rattle.laws.proofs.Blocks.Ranges.{between-parts, touches-nothing}
use Rattle.laws.proofs.Lists.Beginnings.{get-beginning}
use Rattle.laws.proofs.Lists.Elements.{same-at}
use Rattle.laws.proofs.Rules.Usage.{IsWholeTo, whole-to}
use Rattle.laws.proofs.Streams.Places.{epoch-grows, epoch-behind, get-grows}
use Rattle.laws.proofs.Streams.Parts.{whole-has}
use Rattle.laws.proofs.Joining.Ends.{AreEnds, primary-connection-there}
use Rattle.laws.proofs.Primary.Homes.{HasHomes}
use Rattle.laws.proofs.Releases.InOrder.{IsInOrder}
use Rattle.laws.proofs.WriteOrder.Layers.{full_layer, writes_over, under-bare, overlay-front, LastPassing, last-passing, layers-bare, layers-last}

-- The writes that were completed when another one was accepted: they were accepted earlier, and on one connection they are of an
-- earlier epoch.
pub record AreInTurn (p : PrimaryHistory) : Type 0 where
  pub earlier : (m n : ℕ) (a b : Accepted) → slice_get p.writes m ≡ Some a → slice_get p.writes n ≡ Some b → comes_before p a b ≡ true → m < n
  pub apart : (m n k place later : ℕ) (a b : Accepted) (c : PrimaryConnection) → slice_get p.writes m ≡ Some a → slice_get p.writes n ≡ Some b
      → comes_before p a b ≡ true
      → a.home ≡ Some (record { index = k; place = place }) → b.home ≡ Some (record { index = k; place = later }) → slice_get p.connections k ≡ Some c
      → epoch_of c.stream place < epoch_of c.stream later

-- A block of a resync has what the first so many writes leave over the opening disk; those of its connection that have the
-- block stand in earlier epochs, and every later one of its connection stands behind it.
pub record IsRead (p : PrimaryHistory) (k : ℕ) (c : PrimaryConnection) (older place block : ℕ) (contents : List ℕ) : Type 0 where
  pub count : ℕ
  pub more : older ≤ count
  pub bound : count ≤ length p.writes
  pub content : writes_over p.opening_map count p.writes block ≡ Some contents
  pub before : (n : ℕ) (a : Accepted) → older ≤ n → n < count → slice_get p.writes n ≡ Some a → covers a.write block ≡ true
      → (other : ℕ) × (a.home ≡ Some (record { index = k; place = other })) × (other < place) × (epoch_of c.stream other < epoch_of c.stream place)
  pub after : (n other : ℕ) (a : Accepted) → count ≤ n → slice_get p.writes n ≡ Some a → a.home ≡ Some (record { index = k; place = other }) → place < other

-- What stands behind a consistent secondary: a connection on which it took all that it holds, how many writes were accepted
-- before the stream of it began, and what its disk held then.
pub record IsBehind (p : PrimaryHistory) (s : SecondaryHistory) : Type 0 where
  pub index : ℕ
  pub other : ℕ
  pub end : PrimaryConnection
  pub inner : SecondaryConnection
  pub ends : AreEnds p s index other end inner
  pub taken : IsBeginning (items_taken inner) end.stream
  pub older : ℕ
  pub low : (n place : ℕ) (a : Accepted) → n < older → slice_get p.writes n ≡ Some a → a.home ≡ Some (record { index = index; place = place }) → ⊥
  pub own : (n i place : ℕ) (a b : Accepted) → older ≤ n → n < i → slice_get p.writes n ≡ Some a → slice_get p.writes i ≡ Some b
      → b.home ≡ Some (record { index = index; place = place })
      → (q : ℕ) × (a.home ≡ Some (record { index = index; place = q }))
  pub reads : (place block : ℕ) (contents : List ℕ) → slice_get (items_taken inner) place ≡ Some (ResyncItem block contents)
      → IsRead p index end older place block contents
  pub opening : (place block : ℕ) (contents : List ℕ) → slice_get (items_taken inner) place ≡ Some (ResyncItem block contents)
      → base_of p s block ≡ p.opening_map block
  pub disk : (block : ℕ) → secondary_map s block ≡ map_of inner block
  pub newest : (secondary_connection s ≡ inner) ⊎ (whole s ≡ 0)
  pub base : (block : ℕ) → ((n : ℕ) (i : StreamItem) → slice_get (items_taken inner) n ≡ Some i → touches i block ≡ true
      → is_in inner.applied n (block - first_of i) ≡ false)
      → inner.base block ≡ writes_over (base_of p s) older p.writes block

-- Of a write with this home: the part of its connection has this offset.
abbrev pub has_home : ℕ → Part → Option StreamPosition → ℕ → Bool
has_home k part None offset = false
has_home k part (Some home) offset = (home.index == k) && is_in part home.place offset

-- it is among the first so many writes, or applied on that connection
abbrev pub in_set_of : ℕ → ℕ → Part → ℕ → Option Accepted → ℕ → Bool
in_set_of older k part n None offset = false
in_set_of older k part n (Some a) offset = nat_lt n older || has_home k part a.home offset

-- the set
abbrev pub set_of : PrimaryHistory → ℕ → ℕ → Part → Blocks
set_of p older k part number offset = in_set_of older k part (number - 1) (slice_get p.writes (number - 1)) offset

-- what the set has of a write
pub set-at : (p : PrimaryHistory) (older k : ℕ) (part : Part) (n offset : ℕ) (a : Accepted) → HasHomes p → slice_get p.writes n ≡ Some a
    → set_of p older k part a.write.number offset ≡ (nat_lt n older || has_home k part a.home offset)
set-at p older k part n offset a homes at =
    let number : a.write.number ≡ suc n = homes.numbered n a at in
    let index : a.write.number - 1 ≡ n = omega arith in
    ap (λ (m : ℕ). in_set_of older k part m (slice_get p.writes m) offset) index ∙ ap (λ (v : Option Accepted). in_set_of older k part n v offset) at

-- a home that the part has
home-of : (k : ℕ) (part : Part) (home : Option StreamPosition) (offset : ℕ) → has_home k part home offset ≡ true
    → (place : ℕ) × (home ≡ Some (record { index = k; place = place })) × (is_in part place offset ≡ true)
home-of k part None offset has = absurd (cc)
home-of k part (Some home) offset has =
    let parts = and_parts (home.index == k) (is_in part home.place offset) has in
    let same : home.index ≡ k = eqb-true home.index k parts.0 in
    (home.place, ap (λ (n : ℕ). let pair : StreamPosition = record { index = n; place = home.place } in Some pair) same, parts.1)

-- the other way
home-has : (k : ℕ) (part : Part) (home : Option StreamPosition) (place offset : ℕ) → home ≡ Some (record { index = k; place = place })
    → is_in part place offset ≡ true
    → has_home k part home offset ≡ true
home-has k part home place offset is has = ap (λ (v : Option StreamPosition). has_home k part v offset) is
    ∙ and_from (k == k) (is_in part place offset) (eq-eqb k k refl) has

module _ (p : PrimaryHistory) (s : SecondaryHistory) (homes : HasHomes p) (order : IsInOrder p) (turn : AreInTurn p) (epochs : HoldsEarlierEpochs s)
    (b : IsBehind p s) where
  abbrev pub the_set : Blocks
  the_set = set_of p b.older b.index b.inner.applied

  abbrev items : List StreamItem
  items = items_taken b.inner

  -- a place of the part was taken, and its item stands at the primary's end
  applied-item : (place offset : ℕ) → is_in b.inner.applied place offset ≡ true
      → (i : StreamItem) × (slice_get items place ≡ Some i) × (slice_get b.end.stream place ≡ Some i) × (offset < length (contents_of i))
  applied-item place offset has =
      let found = epochs.taken b.other place offset b.inner b.ends.secondary_connection has in
      (found.0, found.1, get-beginning items b.end.stream place found.0 b.taken found.1, found.2)

  -- a place that was taken has the epoch there that it has at the primary's end
  epoch-taken : (place : ℕ) → place ≤ length items → epoch_of b.end.stream place ≡ epoch_of items place
  epoch-taken place within = ap (λ (l : List StreamItem). epoch_of l place) (sym b.taken.1) ∙ epoch-grows items b.taken.0 place within

  -- what stands at the primary's end was taken, before an end of what was taken
  taken-item : (place : ℕ) (i : StreamItem) → place < length items → slice_get b.end.stream place ≡ Some i → slice_get items place ≡ Some i
  taken-item place i within at = sym (get-grows items b.taken.0 place within) ∙ (ap (λ (l : List StreamItem). slice_get l place) b.taken.1 ∙ at)

  -- an item of an earlier epoch than an applied one is applied
  applied-before : (place later offset : ℕ) (i : StreamItem) (far : ℕ) → place < later → slice_get b.end.stream place ≡ Some i
      → epoch_of b.end.stream place < epoch_of b.end.stream later → is_in b.inner.applied later far ≡ true → offset < length (contents_of i)
      → is_in b.inner.applied place offset ≡ true
  applied-before place later offset i far less at earlier has inside =
      let whole_to = epochs.closed_at b.other b.inner b.ends.secondary_connection in
      let there = applied-item later far has in
      let within = slice_get_within items later there.0 there.1 in
      let upto : epoch_of items later ≤ whole_to.0 = whole_to.1.after later far has in
      let one = epoch-taken place (omega arith) in
      let two = epoch-taken later (omega arith) in
      whole_to.1.before place offset i (taken-item place i (omega arith) at) (omega arith) inside

  -- a write at home there stands at its place
  home-item : (n place : ℕ) (a : Accepted) → slice_get p.writes n ≡ Some a → a.home ≡ Some (record { index = b.index; place = place })
      → slice_get b.end.stream place ≡ Some (WriteItem a.write)
  home-item n place a at home =
      let was = homes.housed n b.index place a at home in
      subst (λ (c : PrimaryConnection). slice_get c.stream place ≡ Some (WriteItem a.write))
      (same-at p.connections b.index was.0 b.end was.1 b.ends.primary_connection) was.2

  -- homes there rise
  home-rises : (m n place later : ℕ) (a c : Accepted) → m < n → slice_get p.writes m ≡ Some a → slice_get p.writes n ≡ Some c
      → a.home ≡ Some (record { index = b.index; place = place })
      → c.home ≡ Some (record { index = b.index; place = later }) → place < later
  home-rises m n place later a c less ata atc ha hc = elim (order.rise m n a c (record { index = b.index; place = place })
      (record { index = b.index; place = later }) less ata atc ha hc)
      [ inl before ↦ absurd (omega arith) | inr here ↦ here.1 ]

  -- The set is ordered.

  set-ordered : IsOrdered p the_set
  set-ordered m n offset place earlier later ata atb before has inside within =
      let less = turn.earlier m n earlier later ata atb before in
      let here : (nat_lt n b.older || has_home b.index b.inner.applied later.home offset) ≡ true =
      sym (set-at p b.older b.index b.inner.applied n offset later homes atb) ∙ has in
      set-at p b.older b.index b.inner.applied m place earlier homes ata
      ∙ elim (or_cases (nat_lt n b.older) (has_home b.index b.inner.applied later.home offset) here) [
        | inl old ↦ or_left (nat_lt m b.older) _ (let few = ltb-true n b.older old in lt-ltb m b.older (omega arith))
        | inr own ↦ elim (cases_lt m b.older) [
          | inl old ↦ or_left (nat_lt m b.older) _ (lt-ltb m b.older old)
          | inr new ↦
              let far = home-of b.index b.inner.applied later.home offset own in
              let near = b.own m n far.0 earlier later (omega arith) less ata atb far.1 in
              or_right (nat_lt m b.older) _ (home-has b.index b.inner.applied earlier.home near.0 place near.1
              (applied-before near.0 far.0 place (WriteItem earlier.write) offset (home-rises m n near.0 far.0 earlier later less ata atb near.1 far.1)
              (home-item m near.0 earlier ata near.1)
              (turn.apart m n b.index near.0 far.0 earlier later b.end ata atb before near.1 far.1 b.ends.primary_connection) far.2 within))
        ]
      ]

  -- It has the epochs that the secondary is whole to.

  set-whole : HasWholeEpochs p s the_set
  set-whole n k place offset accepted at home number upto inside = elim b.newest [
    | inr none ↦ absurd (omega arith)
    | inl newest ↦
        let same : suc k ≡ b.inner.number = number ∙ ap (λ (d : SecondaryConnection). d.number) newest in
        let two = b.ends.number in
        let index : k ≡ b.index = omega arith in
        let here : accepted.home ≡ Some (record { index = b.index; place = place }) =
        subst (λ (m : ℕ). accepted.home ≡ Some (record { index = m; place = place })) index home in
        let stream : primary_connection_at p (suc k) ≡ b.end = subst (λ (m : ℕ). primary_connection_at p (suc m) ≡ b.end) (sym index)
        (primary-connection-there p b.index b.end b.ends.primary_connection) in
        let early : epoch_of b.end.stream place ≤ whole s = subst (λ (c : PrimaryConnection). epoch_of c.stream place ≤ whole s) stream upto in
        let item = home-item n place accepted at here in
        elim (whole-to s) [
          | inl none ↦ absurd (omega arith)
          | inr to_last ↦
              let to : IsWholeTo b.inner (whole s) = subst (λ (d : SecondaryConnection). IsWholeTo d (whole s)) newest to_last in
              let ended = to.ended in
              let within : place < length items = elim (cases_lt place (length items)) [
                | inl less ↦ less
                | inr past ↦ absurd (let behind = epoch-behind items b.taken.0 place (omega arith) in let same_epoch : epoch_of
                    (items ++ b.taken.0) place ≡ epoch_of b.end.stream place = ap (λ (l : List StreamItem). epoch_of l place) b.taken.1 in omega arith)
              ] in
              let there = taken-item place (WriteItem accepted.write) within item in
              let epoch = epoch-taken place (omega arith) in
              let full = to.items place (WriteItem accepted.write) there (omega arith) (lt-ltb 0 (length accepted.write.contents) (omega arith)) in
              set-at p b.older b.index b.inner.applied n offset accepted homes at
              ∙ or_right (nat_lt n b.older) _
              (home-has b.index b.inner.applied accepted.home place offset here
              (whole-has b.inner.applied place offset (WriteItem accepted.write) full inside))
        ]
  ]

  -- The disk holds the set over its base.

  -- nothing that is applied there has the block
  abbrev Bare : ℕ → Type 0
  Bare block = (n : ℕ) (i : StreamItem) → slice_get items n ≡ Some i → touches i block ≡ true → is_in b.inner.applied n (block - first_of i) ≡ false

  -- what the set lays of a write that has the block is all of it, where the set has that block
  laid-full : (n block : ℕ) (a : Accepted) (v : Option (List ℕ)) → slice_get p.writes n ≡ Some a → the_set a.write.number (block - a.write.first) ≡ true
      → block_under (layer_of the_set a) block v ≡ block_under (full_layer a) block v
  laid-full n block a v at has = under-alike a.write.first a.write.contents (λ offset. the_set a.write.number offset) (λ offset. true) block v has

  -- a write that does not have the block is laid alike
  laid-outside : (block : ℕ) (a : Accepted) (v : Option (List ℕ)) → covers a.write block ≡ false
      → block_under (layer_of the_set a) block v ≡ block_under (full_layer a) block v
  laid-outside block a v outside = under-outside (layer_of the_set a) block v outside ∙ sym (under-outside (full_layer a) block v outside)

  -- the set over a base is the first so many writes, where it has those and no later one on the block
  set-front : (base : BlockMap) (count block : ℕ) → ((n : ℕ) (a : Accepted) → n < count → slice_get p.writes n ≡ Some a → covers a.write block ≡ true
      → the_set a.write.number (block - a.write.first) ≡ true)
      → ((n : ℕ) (a : Accepted) → count ≤ n → slice_get p.writes n ≡ Some a → covers a.write block ≡ true
      → the_set a.write.number (block - a.write.first) ≡ false)
      → overlay base (map (layer_of the_set) p.writes) block ≡ writes_over base count p.writes block
  set-front base count block has none = overlay-front (layer_of the_set) full_layer base p.writes count block
      (λ i a less at v. elim (cases_Bool (covers a.write block)) [
        | inl inside ↦ laid-full i block a v at (has i a less at inside)
        | inr outside ↦ laid-outside block a v outside
      ])
      (λ i a more at v. under-bare (layer_of the_set a) block v (λ inside. none i a more at inside))

  -- a write of the connection, or of a later one, is not in the set on a block, where its place is not applied there
  unlaid : (n block : ℕ) (a : Accepted)
      → ((place : ℕ) (i : StreamItem) → a.home ≡ Some (record { index = b.index; place = place }) → slice_get items place ≡ Some i
      → (touches i block && is_in b.inner.applied place (block - first_of i)) ≡ false)
      → b.older ≤ n → slice_get p.writes n ≡ Some a → covers a.write block ≡ true → the_set a.write.number (block - a.write.first) ≡ false
  unlaid n block a bare late at inside = set-at p b.older b.index b.inner.applied n (block - a.write.first) a homes at
      ∙ or_from (nat_lt n b.older) _ (le-ltb n b.older late) (false_from_ne_true _ (λ has.
      let home = home-of b.index b.inner.applied a.home (block - a.write.first) has in
      let found = applied-item home.0 (block - a.write.first) home.2 in
      let same : found.0 ≡ WriteItem a.write = same-at b.end.stream home.0 found.0 (WriteItem a.write) found.2 (home-item n home.0 a at home.1) in
      let there : slice_get items home.0 ≡ Some (WriteItem a.write) = subst (λ (i : StreamItem). slice_get items home.0 ≡ Some i) same found.1 in
      both_ways (touches (WriteItem a.write) block && is_in b.inner.applied home.0 (block - a.write.first)) (bare home.0 (WriteItem a.write) home.1 there)
      (and_from _ _ inside home.2)))

  -- the disk where nothing of the connection is applied on the block
  disk-bare : (block : ℕ) → ((place : ℕ) (i : StreamItem) → slice_get items place ≡ Some i
      → (touches i block && is_in b.inner.applied place (block - first_of i)) ≡ false)
      → map_of b.inner block ≡ overlay (base_of p s) (map (layer_of the_set) p.writes) block
  disk-bare block none =
      let bare : Bare block = λ n i at touched. elim (and_cases (touches i block) (is_in b.inner.applied n (block - first_of i)) (none n i at))
      [ inl not_so ↦ absurd (both_ways (touches i block) not_so touched) | inr is ↦ is ] in
      layers-bare b.inner.base 0 items b.inner.applied block
      (λ n i at touched. subst (λ (m : ℕ). is_in b.inner.applied m (block - first_of i) ≡ false) (sym (zero-add n)) (bare n i at touched))
      ∙ (b.base block bare ∙ sym (set-front (base_of p s) b.older block
      (λ n a less at inside. set-at p b.older b.index b.inner.applied n (block - a.write.first) a homes at
      ∙ or_left (nat_lt n b.older) _ (lt-ltb n b.older less))
      (λ n a more at inside. unlaid n block a (λ place i home there. none place i there) more at inside)))

  -- the disk where an item is the last one applied on the block
  disk-last : (block : ℕ) → LastPassing (λ place i. touches i block && is_in b.inner.applied place (block - first_of i)) items
      → map_of b.inner block ≡ overlay (base_of p s) (map (layer_of the_set) p.writes) block
  disk-last block l =
      let parts = and_parts (touches l.found block) (is_in b.inner.applied l.place (block - first_of l.found)) l.passes in
      layers-last b.inner.base 0 items b.inner.applied block l.place l.found l.at parts.0
      (subst (λ (m : ℕ). is_in b.inner.applied m (block - first_of l.found) ≡ true) (sym (zero-add l.place)) parts.1)
      (λ n i less at touched. subst (λ (m : ℕ). is_in b.inner.applied m (block - first_of i) ≡ false) (sym (zero-add n))
      (elim (and_cases (touches i block) (is_in b.inner.applied n (block - first_of i)) (l.later n i less at))
      [ inl not_so ↦ absurd (both_ways (touches i block) not_so touched) | inr is ↦ is ]))
      ∙ go l.found l.at parts.0 parts.1
    where
      go : (i : StreamItem) → slice_get items l.place ≡ Some i → touches i block ≡ true → is_in b.inner.applied l.place (block - first_of i) ≡ true
          → content_at i block ≡ overlay (base_of p s) (map (layer_of the_set) p.writes) block
      go (WriteItem w) at touched laid =
          let there = get-beginning items b.end.stream l.place (WriteItem w) b.taken at in
          let its = homes.homed b.index l.place b.end w b.ends.primary_connection there in
          let n = its.0 in
          let a : Accepted = its.1 in
          let covered : covers a.write block ≡ true = subst (λ (x : Write). covers x block ≡ true) (sym its.3) touched in
          let inside : is_in b.inner.applied l.place (block - a.write.first) ≡ true =
          subst (λ (x : Write). is_in b.inner.applied l.place (block - x.first) ≡ true) (sym its.3) laid in
          let has : the_set a.write.number (block - a.write.first) ≡ true = set-at p b.older b.index b.inner.applied n (block - a.write.first) a homes its.2
          ∙ or_right (nat_lt n b.older) _ (home-has b.index b.inner.applied a.home l.place (block - a.write.first) its.4 inside) in
          let new : b.older ≤ n = elim (cases_lt n b.older) [ inl old ↦ absurd (b.low n l.place a old its.2 its.4) | inr late ↦ omega arith ] in
          ap (λ (x : Write). slice_get x.contents (block - x.first)) (sym its.3)
          ∙ sym (overlay-last (layer_of the_set) (base_of p s) p.writes block n a (slice_get a.write.contents (block - a.write.first)) its.2
          (λ v. under-inside (layer_of the_set a) block v covered has)
          (λ i y less aty v. under-bare (layer_of the_set y) block v
          (λ ins. unlaid i block y (λ place z home there_too. l.later place z (home-rises n i l.place place a y less its.2 aty its.4 home) there_too)
          (omega arith) aty ins)))
      go (ResyncItem other contents) at touched laid =
          let ends = between-parts other 1 block touched in
          let low = ends.0 in
          let high = ends.1 in
          let is : other ≡ block = omega arith in
          let same : ResyncItem other contents ≡ ResyncItem block contents = ap (λ (n : ℕ). ResyncItem n contents) is in
          let here : slice_get items l.place ≡ Some (ResyncItem block contents) = subst (λ (i : StreamItem). slice_get items l.place ≡ Some i) same at in
          let r = b.reads l.place block contents here in
          let none : block - block ≡ 0 = omega arith in
          ap (λ (i : StreamItem). content_at i block) same
          ∙ (ap (λ (n : ℕ). slice_get (contents ∷ []) n) none
          ∙ (sym r.content ∙ (overlay-same p.opening_map (base_of p s) (map full_layer (take r.count p.writes)) block
          (sym (b.opening l.place block contents here))
          ∙ sym (set-front (base_of p s) r.count block
          (λ n a less ata inside. set-at p b.older b.index b.inner.applied n (block - a.write.first) a homes ata ∙ elim (cases_lt n b.older) [
            | inl old ↦ or_left (nat_lt n b.older) _ (lt-ltb n b.older old)
            | inr late ↦
                let was = r.before n a (omega arith) less ata inside in
                let within = between-parts a.write.first (length a.write.contents) block inside in
                let from = within.0 in
                let upto = within.1 in
                or_right (nat_lt n b.older) _ (home-has b.index b.inner.applied a.home was.0 (block - a.write.first) was.1
                (applied-before was.0 l.place (block - a.write.first) (WriteItem a.write) (block - other) was.2 (home-item n was.0 a ata was.1) was.3 laid
                (omega arith)))
          ])
          (λ n a more ata inside. unlaid n block a (λ place z home there_too. l.later place z (r.after n place a more ata home) there_too)
          (let m = r.more in omega arith) ata inside)))))
      go (BarrierItem epoch) at touched laid = absurd (both_ways (touches (BarrierItem epoch) block) (touches-nothing 0 block) touched)
      go (SyncUuidItem word) at touched laid = absurd (both_ways (touches (SyncUuidItem word) block) (touches-nothing 0 block) touched)
      go (UuidsItem tuple) at touched laid = absurd (both_ways (touches (UuidsItem tuple) block) (touches-nothing 0 block) touched)

  -- Whichever is the last.
  set-disk : (block : ℕ) → secondary_map s block ≡ overlay (base_of p s) (map (layer_of the_set) p.writes) block
  set-disk block = b.disk block ∙ elim (last-passing (λ place i. touches i block && is_in b.inner.applied place (block - first_of i)) items) [
    | inl l ↦ disk-last block l
    | inr none ↦ disk-bare block none
  ]

  -- So such a set is on the disk.
  pub behind-keeps : (set : Blocks) × IsOnDisk p s set
  behind-keeps = (the_set, record { ordered = set-ordered; disk = set-disk; epochs = set-whole })
