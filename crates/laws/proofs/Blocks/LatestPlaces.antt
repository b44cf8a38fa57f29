-- The last item that touches a block: where it stands, and that no item behind it touches the block.
use Rattle.std.proofs.Common.{ℕ, zero, suc, ◌≡◌, ◌+◌, ◌≤◌, ◌<◌, ◌⊎◌, inl, inr, true, false, List, [], ◌∷◌, Option, Some, None, slice_get, refl, sym, ◌∙◌, ap}
use Rattle.std.proofs.Common.{arith}
use Rattle.std.specs.Prelude.{if◌then◌else◌}
use Rattle.std.proofs.lemmas.Bool.{cases_Bool}
use Rattle.model.specs.Stream.{StreamItem}
use Rattle.model.specs.Primary.{PrimaryConnection}
use Rattle.laws.specs.Reflections.{touches}
use Rattle.laws.proofs.Blocks.Latest.{Touch, latest_from, found_in, latest_of, latest}

-- what is found among some items stands among them and touches the block, or was found before
record Stands (block start : ℕ) (items : List StreamItem) (entry : ℕ × StreamItem) : Type 0 where
  offset : ℕ
  is : entry.0 ≡ start + offset
  there : slice_get items offset ≡ Some entry.1
  touches : touches entry.1 block ≡ true

from-at : (block start : ℕ) (found : Option (ℕ × StreamItem)) (items : List StreamItem) (entry : ℕ × StreamItem)
    → latest_from block start found items ≡ Some entry
    → (found ≡ Some entry) ⊎ Stands block start items entry
from-at block start found [] entry is = inl is
from-at block start found (x ∷ items) entry is = elim (cases_Bool (touches x block)) [
  | inl touched ↦ elim (from-at block (suc start) (Some (start, x)) items entry
      (ap (λ b. latest_from block (suc start) (if b then Some (start, x) else found) items) (sym touched) ∙ is)) [
        | inl first ↦
            let here : ℕ × StreamItem = (start, x) in
            let same : here ≡ entry = cc in
            let is : start ≡ entry.0 = ap (λ (e : ℕ × StreamItem). e.0) same in
            let item : x ≡ entry.1 = ap (λ (e : ℕ × StreamItem). e.1) same in
            inr (record { offset = 0; is = omega arith; there = ap (λ (i : StreamItem). Some i) item; touches = rw (← item) touched })
        | inr later ↦ inr (record { offset = suc later.offset; is = omega (arith, later.is); there = later.there; touches = later.touches })
      ]
  | inr other ↦ elim (from-at block (suc start) found items entry
      (ap (λ b. latest_from block (suc start) (if b then Some (start, x) else found) items) (sym other) ∙ is)) [
        | inl before ↦ inl before
        | inr later ↦ inr (record { offset = suc later.offset; is = omega (arith, later.is); there = later.there; touches = later.touches })
      ]
]

-- likewise among some connections
record StandsIn (block k : ℕ) (connections : List PrimaryConnection) (touch : Touch) : Type 0 where
  offset : ℕ
  end : PrimaryConnection
  is : touch.connection ≡ k + offset
  end_there : slice_get connections offset ≡ Some end
  there : slice_get end.stream touch.place ≡ Some touch.item
  touches : touches touch.item block ≡ true

of-at : (block k : ℕ) (found : Option Touch) (connections : List PrimaryConnection) (touch : Touch) → latest_of block k found connections ≡ Some touch
    → (found ≡ Some touch) ⊎ StandsIn block k connections touch
of-at block k found [] touch is = inl is
of-at block k found (c ∷ connections) touch is = go (latest_from block 0 None c.stream) refl (λ before h. of-at block (suc k) before connections touch h) is
  where
    go : (v : Option (ℕ × StreamItem)) → latest_from block 0 None c.stream ≡ v
        → ((before : Option Touch) → latest_of block (suc k) before connections ≡ Some touch → (before ≡ Some touch) ⊎ StandsIn block (suc k) connections touch)
        → latest_of block (suc k) (found_in k v found) connections ≡ Some touch → (found ≡ Some touch) ⊎ StandsIn block k (c ∷ connections) touch
    go None none rest is = elim (rest found is) [
      | inl before ↦ inl before
      | inr later ↦ inr (record {
        offset = suc later.offset;
        end = later.end;
        is = omega (arith, later.is);
        end_there = later.end_there;
        there = later.there;
        touches = later.touches;
      })
    ]
    go (Some entry) some rest is = elim (rest (Some (record { connection = k; place = entry.0; item = entry.1 })) is) [
      | inl here ↦
          let this : Touch = record { connection = k; place = entry.0; item = entry.1 } in
          let same : this ≡ touch = cc in
          let kk : k ≡ touch.connection = ap (λ (t : Touch). t.connection) same in
          let pp : entry.0 ≡ touch.place = ap (λ (t : Touch). t.place) same in
          let ii : entry.1 ≡ touch.item = ap (λ (t : Touch). t.item) same in
          elim (from-at block 0 None c.stream entry some) [
            | inl nothing ↦ absurd (cc)
            | inr is_established ↦
                let place : is_established.offset ≡ touch.place = omega (arith, is_established.is) in
                inr (record {
                  offset = 0;
                  end = c;
                  is = omega arith;
                  end_there = refl;
                  there = rw (← place, ← ii) is_established.there;
                  touches = rw (← ii) is_established.touches;
                })
          ]
      | inr later ↦ inr (record {
        offset = suc later.offset;
        end = later.end;
        is = omega (arith, later.is);
        end_there = later.end_there;
        there = later.there;
        touches = later.touches;
      })
    ]

-- What is found last stands where it is said to, and touches the block.
pub latest-at : (connections : List PrimaryConnection) (block : ℕ) (touch : Touch) → latest connections block ≡ Some touch
    → (c : PrimaryConnection) × (slice_get connections touch.connection ≡ Some c) × (slice_get c.stream touch.place ≡ Some touch.item)
    × (touches touch.item block ≡ true)
latest-at connections block touch is = elim (of-at block 0 None connections touch is) [
  | inl nothing ↦ absurd (cc)
  | inr found ↦ let k : found.offset ≡ touch.connection = omega (arith, found.is) in (found.end, rw (← k) found.end_there, found.there, found.touches)
]

-- What was found stays, or a later item takes its place.

from-keeps : (block start : ℕ) (entry : ℕ × StreamItem) (items : List StreamItem) → entry.0 ≤ start
    → (last : ℕ × StreamItem) × (latest_from block start (Some entry) items ≡ Some last) × (entry.0 ≤ last.0)
from-keeps block start entry [] before = (entry, refl, omega arith)
from-keeps block start entry (x ∷ items) before = elim (cases_Bool (touches x block)) [
  | inl touched ↦
      let rest = from-keeps block (suc start) (start, x) items (omega arith) in
      let more = rest.2 in
      (rest.0, ap (λ b. latest_from block (suc start) (if b then Some (start, x) else Some entry) items) touched ∙ rest.1, omega arith)
  | inr other ↦
      let rest = from-keeps block (suc start) entry items (omega arith) in
      (rest.0, ap (λ b. latest_from block (suc start) (if b then Some (start, x) else Some entry) items) other ∙ rest.1, rest.2)
]

from-has : (block start : ℕ) (found : Option (ℕ × StreamItem)) (items : List StreamItem) (n : ℕ) (item : StreamItem) → slice_get items n ≡ Some item
    → touches item block ≡ true
    → (last : ℕ × StreamItem) × (latest_from block start found items ≡ Some last) × (start + n ≤ last.0)
from-has block start found [] n item at touched = absurd (cc)
from-has block start found (x ∷ items) zero item at touched =
    let same : x ≡ item = cc in
    let here : touches x block ≡ true = rw same touched in
    let rest = from-keeps block (suc start) (start, x) items (omega arith) in
    let more = rest.2 in
    (rest.0, ap (λ b. latest_from block (suc start) (if b then Some (start, x) else found) items) here ∙ rest.1, omega arith)
from-has block start found (x ∷ items) (suc n) item at touched =
    let rest = from-has block (suc start) (if touches x block then Some (start, x) else found) items n item at touched in
    let more = rest.2 in
    (rest.0, rest.1, omega arith)

of-keeps : (block k : ℕ) (touch : Touch) (connections : List PrimaryConnection) → touch.connection < k
    → (last : Touch) × (latest_of block k (Some touch) connections ≡ Some last) × ((touch.connection < last.connection) ⊎ (last ≡ touch))
of-keeps block k touch [] before = (touch, refl, inr refl)
of-keeps block k touch (c ∷ connections) before = go (latest_from block 0 None c.stream) (λ found h. of-keeps block (suc k) found connections h)
  where
    go : (v : Option (ℕ × StreamItem)) → ((found : Touch) → found.connection < suc k
        → (last : Touch) × (latest_of block (suc k) (Some found) connections ≡ Some last) × ((found.connection < last.connection) ⊎ (last ≡ found)))
        → (last : Touch) × (latest_of block (suc k) (found_in k v (Some touch)) connections ≡ Some last)
        × ((touch.connection < last.connection) ⊎ (last ≡ touch))
    go None more = more touch (omega arith)
    go (Some entry) more =
        let here : Touch = record { connection = k; place = entry.0; item = entry.1 } in
        let rest = more here (omega arith) in (
          rest.0,
          rest.1,
          elim rest.2 [
            | inl more ↦ inl (omega arith)
            | inr same ↦ let is : rest.0.connection ≡ k = ap (λ (t : Touch). t.connection) same in inl
                (omega arith)
          ],
        )

of-has : (block k : ℕ) (found : Option Touch) (connections : List PrimaryConnection) (n place : ℕ) (c : PrimaryConnection) (item : StreamItem)
    → slice_get connections n ≡ Some c
    → slice_get c.stream place ≡ Some item → touches item block ≡ true
    → (last : Touch) × (latest_of block k found connections ≡ Some last) × ((k + n < last.connection) ⊎ ((k + n ≡ last.connection) × (place ≤ last.place)))
of-has block k found [] n place c item at there touched = absurd (cc)
of-has block k found (d ∷ connections) zero place c item at there touched =
    let same : d ≡ c = cc in
    let entry = from-has block 0 None d.stream place item (rw same there) touched in
    let here : Touch = record { connection = k; place = entry.0.0; item = entry.0.1 } in
    let rest = of-keeps block (suc k) here connections (omega arith) in
    let behind = entry.2 in (
      rest.0,
      ap (λ (v : Option (ℕ × StreamItem)). latest_of block (suc k) (found_in k v found) connections) entry.1 ∙ rest.1,
      elim rest.2 [
        | inl more ↦ inl (omega arith)
        | inr is ↦
            let kk : rest.0.connection ≡ k = ap (λ (t : Touch). t.connection) is in
            let pp : rest.0.place ≡ entry.0.0 = ap (λ (t : Touch). t.place) is in
            inr (omega arith, omega arith)
      ],
    )
of-has block k found (d ∷ connections) (suc n) place c item at there touched =
    let rest = of-has block (suc k) (found_in k (latest_from block 0 None d.stream) found) connections n place c item at there touched in
    (rest.0, rest.1, elim rest.2 [ inl more ↦ inl (omega arith) | inr same ↦ let is = same.0 in inr (omega arith, same.1) ])

-- Where an item touches a block one is found, there or behind it.
pub latest-some : (connections : List PrimaryConnection) (block k place : ℕ) (c : PrimaryConnection) (item : StreamItem) → slice_get connections k ≡ Some c
    → slice_get c.stream place ≡ Some item → touches item block ≡ true
    → (touch : Touch) × (latest connections block ≡ Some touch) × ((k < touch.connection) ⊎ ((k ≡ touch.connection) × (place ≤ touch.place)))
latest-some connections block k place c item at there touched =
    let found = of-has block 0 None connections k place c item at there touched in
    (found.0, found.1, elim found.2 [ inl more ↦ inl (omega arith) | inr here ↦ let is = here.0 in inr (omega arith, here.1) ])

-- Where nothing is found no item touches the block.
pub latest-none : (connections : List PrimaryConnection) (block : ℕ) → latest connections block ≡ None
    → (k place : ℕ) (c : PrimaryConnection) (item : StreamItem)
    → slice_get connections k ≡ Some c
    → slice_get c.stream place ≡ Some item → touches item block ≡ false
latest-none connections block none k place c item at there = elim (cases_Bool (touches item block)) [
  | inl touched ↦ let found = of-has block 0 None connections k place c item at there touched in absurd (let is = found.1 in cc)
  | inr other ↦ other
]

-- No item that touches the block stands behind the one that is found.
pub latest-last : (connections : List PrimaryConnection) (block : ℕ) (touch : Touch) → latest connections block ≡ Some touch
    → (k place : ℕ) (c : PrimaryConnection) (item : StreamItem)
    → slice_get connections k ≡ Some c
    → slice_get c.stream place ≡ Some item → touches item block ≡ true → (k < touch.connection) ⊎ ((k ≡ touch.connection) × (place ≤ touch.place))
latest-last connections block touch is k place c item at there touched =
    let found = of-has block 0 None connections k place c item at there touched in
    let same : found.0 ≡ touch = let e = found.1 in cc in
    let kk : found.0.connection ≡ touch.connection = ap (λ (t : Touch). t.connection) same in
    let pp : found.0.place ≡ touch.place = ap (λ (t : Touch). t.place) same in
    elim found.2 [ inl more ↦ inl (omega arith) | inr here ↦ let k1 = here.0 in let p1 = here.1 in inr (omega arith, omega arith) ]
