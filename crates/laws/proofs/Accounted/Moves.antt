-- What accounts for an unmarked block, carried over the moves of a primary that close nothing and clear nothing.
use Rattle.std.proofs.Common.{ℕ, ◌≡◌, ◌⊎◌, inl, inr, true, false, List, ◌++◌, Option, Some, None, slice_get, Ok, refl, sym, ◌∙◌, subst, arith, IsTrue}
use Rattle.std.proofs.lemmas.Bool.{cases_Bool, both_ways}
use Rattle.std.proofs.lemmas.Option.{slice_get_within}
use Rattle.blocks.specs.Positions.{StreamPosition}
use Rattle.blocks.specs.declared.tuple.Tuple.{Tuple}
use Rattle.blocks.specs.declared.outcome.Decision.{Decision}
use Rattle.model.specs.Contents.{Write, covers}
use Rattle.model.specs.Stream.{StreamItem, WriteItem}
use Rattle.model.specs.Frames.{Received, UuidsFrame}
use Rattle.model.specs.Primary.{Accepted, PrimaryConnection, PrimaryHistory, is_waiting, is_alone, is_released}
use Rattle.model.specs.Identifiers.{decision}
use Rattle.laws.specs.Reflections.{touches, is_sure, NoneBegan, FirstBegan}
use Rattle.laws.proofs.Primary.Homes.{alone-homeless, HasHomes, AllGrow, alone-at, confirmed-at}
use Rattle.laws.proofs.Blocks.Latest.{Touch, latest}
use Rattle.laws.proofs.Blocks.LatestPlaces.{latest-last}
use Rattle.laws.proofs.Accounted.{home-of, IsSure, IsHeld, IsAccounted, Carries, KeepsBegun, sure-last, sure-grows}
use Rattle.laws.proofs.Lists.Elements.{get-left, get-split, same-at}
use Rattle.laws.proofs.Rules.Releases.{freed-cases, freed-alone, released-parts, released-by}

-- Where the last item on a block stands.
abbrev pub IsThere : List PrimaryConnection → ℕ → Touch → Type 0
IsThere connections block touch = (c : PrimaryConnection) × (slice_get connections touch.connection ≡ Some c)
    × (slice_get c.stream touch.place ≡ Some touch.item)
    × (touches touch.item block ≡ true)

-- what is sure stays so where connections grow
pub sure-carries : (h later : PrimaryHistory) (block : ℕ) (touch : Touch) → AllGrow h.connections later.connections → (IsTrue later.faithful → IsTrue h.faithful)
    → IsThere h.connections block touch
    → latest later.connections block ≡ Some touch → IsSure h.faithful h.connections block touch
    → IsSure later.faithful later.connections block touch
sure-carries h later block touch grow falls there last sure =
    let new = grow touch.connection sure.end sure.at in
    let more : sure.end.stream ++ new.2.stream.0 ≡ new.0.stream = new.2.stream.1 in
    let end : there.0 ≡ sure.end = same-at h.connections touch.connection there.0 sure.end there.1 sure.at in
    let within = slice_get_within sure.end.stream touch.place touch.item
    (subst (λ (c : PrimaryConnection). slice_get c.stream touch.place ≡ Some touch.item) end there.2) in
    record {
      place = sure.place;
      end = new.0;
      item = sure.item;
      at = new.1;
      there = subst (λ (l : List StreamItem). slice_get l sure.place ≡ Some sure.item) more
          (get-left sure.end.stream new.2.stream.0 sure.place sure.item sure.there);
      touched = sure.touched;
      sure = sure-grows sure.end new.0 sure.place sure.item new.2 sure.there sure.sure;
      same = λ faithful next i behind found touched. elim
          (get-split sure.end.stream new.2.stream.0 next i (subst (λ (l : List StreamItem). slice_get l next ≡ Some i) (sym more) found)) [
            | inl old ↦ sure.same (falls faithful) next i behind old touched
            | inr added ↦ absurd (elim (latest-last later.connections block touch last touch.connection next new.0 i new.1 found touched) [
              | inl before ↦ omega arith
              | inr here ↦ let past = added.1 in let low = here.1 in omega arith
            ])
          ];
    }

-- a write that is alone afterwards was so before
pub alone-before : (h later : PrimaryHistory) (i : ℕ) (a b : Accepted) → HasHomes h → Carries h later → slice_get h.writes i ≡ Some a → b.home ≡ a.home
    → is_alone later b ≡ true → is_alone h a ≡ true
alone-before h later i a b homes carries at same alone = go a.home refl
  where
    go : (v : Option StreamPosition) → a.home ≡ v → is_alone h a ≡ true
    go None is = alone-homeless h a is
    go (Some home) is =
        let was = homes.housed i home.index home.place a at is in
        let new = carries.grow home.index was.0 was.1 in
        let closed : new.0.closed ≡ true = sym (alone-at later b home new.0 (same ∙ is) new.1) ∙ alone in
        alone-at h a home was.0 is was.1 ∙ elim (carries.former home.index new.0 new.1) [
          | inl old ↦ let c : old.0 ≡ was.0 = same-at h.connections home.index old.0 was.0 old.1 was.1 in
              subst (λ (x : PrimaryConnection). x.closed ≡ true) c (old.2 closed)
          | inr none ↦ absurd (let some = was.1 in cc (none, some))
        ]

-- A write that is not released stays so, or its item is sure then; unless it waited without a connection.
held-carries : (h later : PrimaryHistory) (block : ℕ) (touch : Touch) → HasHomes h → Carries h later → IsThere h.connections block touch
    → latest later.connections block ≡ Some touch → (held : IsHeld h touch)
    → (is_alone h held.1 ≡ true → is_waiting held.1.outcome ≡ true → ⊥) → IsSure later.faithful later.connections block touch ⊎ IsHeld later touch
held-carries h later block touch homes carries there last held free =
    let a : Accepted = held.1 in
    let new = carries.writes held.0 a held.2 in
    let b : Accepted = new.0 in
    let home : b.home ≡ home-of touch = new.3 ∙ held.3 in
    elim (cases_Bool (is_released later b)) [
      | inr still ↦ inr (held.0, b, new.1, home, still)
      | inl gone ↦
          let parts = released-parts later b gone in
          elim (freed-cases later b parts.freed) [
            | inl confirmed ↦
                let was = homes.housed held.0 touch.connection touch.place a held.2 held.3 in
                let same : there.0 ≡ was.0 = same-at h.connections touch.connection there.0 was.0 there.1 was.1 in
                let item : WriteItem a.write ≡ touch.item = same-at was.0.stream touch.place (WriteItem a.write) touch.item was.2
                (subst (λ (c : PrimaryConnection). slice_get c.stream touch.place ≡ Some touch.item) same there.2) in
                let grown = carries.grow touch.connection was.0 was.1 in
                inl (sure-last later.faithful later.connections block touch grown.0 last grown.1
                (subst (λ (x : StreamItem). is_sure grown.0 touch.place x ≡ true) item
                (sym (confirmed-at later b (record { index = touch.connection; place = touch.place }) grown.0 home grown.1) ∙ confirmed)))
            | inr alone ↦ absurd (
                let before = alone-before h later held.0 a b homes carries held.2 new.3 alone in
                let unreleased = held.4 in
                let waits : is_waiting a.outcome ≡ true = elim (cases_Bool (is_waiting a.outcome)) [
                  | inl w ↦ w
                  | inr done ↦ absurd (both_ways (is_released h a) unreleased (released-by h a done (freed-alone h a before)))
                ] in
                free before waits)
          ]
    ]

-- on an unmarked block, so it is settled still
pub settled-carries : (h later : PrimaryHistory) (block : ℕ) (touch : Touch) → IsAccounted h → Carries h later → IsThere h.connections block touch
    → h.marks block ≡ false
    → latest h.connections block ≡ Some touch → latest later.connections block ≡ Some touch → IsSure later.faithful later.connections block touch ⊎ IsHeld later touch
settled-carries h later block touch accounted carries there unmarked last still =
    let homes = accounted.known.tracked.homes in
    elim (accounted.settled block touch unmarked last) [
      | inl sure ↦ inl (sure-carries h later block touch carries.grow carries.faithful there still sure)
      | inr held ↦ held-carries h later block touch homes carries there still held (λ alone waits.
          let a : Accepted = held.1 in
          let was = homes.housed held.0 touch.connection touch.place a held.2 held.3 in
          let same : there.0 ≡ was.0 = same-at h.connections touch.connection there.0 was.0 there.1 was.1 in
          let item : touch.item ≡ WriteItem a.write = same-at was.0.stream touch.place touch.item (WriteItem a.write)
          (subst (λ (c : PrimaryConnection). slice_get c.stream touch.place ≡ Some touch.item) same there.2) was.2 in
          both_ways (h.marks block) unmarked
          (accounted.waiting held.0 block a held.2 alone waits (subst (λ (x : StreamItem). touches x block ≡ true) item there.3)))
    ]

-- Writes that come from writes: none waits that did not.
abbrev pub ComeFrom : PrimaryHistory → PrimaryHistory → Type 0
ComeFrom h later =
    (i : ℕ) (b : Accepted) → slice_get later.writes i ≡ Some b
    → (a : Accepted) × (slice_get h.writes i ≡ Some a) × (b.write ≡ a.write) × (b.home ≡ a.home) × (is_waiting b.outcome ≡ true
    → is_waiting a.outcome ≡ true)

-- a write that waits alone did so before
pub waiting-carries : (h later : PrimaryHistory) → IsAccounted h → Carries h later → ComeFrom h later → (i block : ℕ) (b : Accepted)
    → slice_get later.writes i ≡ Some b
    → is_alone later b ≡ true → is_waiting b.outcome ≡ true → covers b.write block ≡ true
    → (a : Accepted) × (slice_get h.writes i ≡ Some a) × (b.write ≡ a.write) × (is_waiting a.outcome ≡ true) × (h.marks block ≡ true)
waiting-carries h later accounted carries come i block b at alone waits covered =
    let was = come i b at in
    let before = alone-before h later i was.0 b accounted.known.tracked.homes carries was.1 was.3 alone in
    (was.0, was.1, was.2, was.4 waits, accounted.waiting i block was.0 was.1 before (was.4 waits) (subst (λ (w : Write). covers w block ≡ true) was.2 covered))

-- What began stays so.
pub none-carries : (h later : PrimaryHistory) → KeepsBegun h later → later.opening_tuple ≡ h.opening_tuple → later.tuple ≡ h.tuple → NoneBegan h
    → NoneBegan later
none-carries h later keeps opening tuple began = record {
  none = λ k d at. elim (keeps.back k d at) [ inl old ↦ old.2 ∙ began.none k old.0 old.1 | inr fresh ↦ fresh ];
  tuple = tuple ∙ (began.tuple ∙ sym opening);
}

-- the stream that began first stays the first one
pub first-carries : (h later : PrimaryHistory) (decided : Decision) → KeepsBegun h later → later.opening_tuple ≡ h.opening_tuple → FirstBegan h decided
    → FirstBegan later decided
first-carries h later decided keeps opening first =
    let new = keeps.forward first.connection first.end first.at first.begun in
    record {
      connection = first.connection;
      end = new.0;
      at = new.1;
      begun = new.2;
      earlier = λ k d early at. elim (keeps.back k d at) [ inl was ↦ was.2 ∙ first.earlier k was.0 early was.1 | inr fresh ↦ fresh ];
      peer = first.peer;
      n = first.n;
      taken = subst (λ (l : List Received). slice_get l first.n ≡ Some (Ok (UuidsFrame first.peer))) new.3.1
          (get-left first.end.taken new.3.0 first.n (Ok (UuidsFrame first.peer)) first.taken);
      decides = subst (λ (t : Tuple). decision t first.peer ≡ Ok decided) (sym opening) first.decides;
    }
