-- Why an unmarked block is accounted for, whatever frames a primary takes: an item there is surely applied and what comes
-- behind it has the same contents, or the last one is a write that is not released.
pub mod Begins
pub mod Kept
pub mod Moves
pub mod Reflected
pub mod Released
pub mod Steps
pub mod AcceptingAndClosing
use Rattle.std.proofs.Common.{ℕ, zero, suc, ◌≡◌, ◌≤◌, ◌<◌, ◌⊎◌, inl, inr, Bool, true, false, cond, not, ◌&&◌, ◌||◌, List, [], ◌∷◌, ◌++◌, length, filter, Option}
use Rattle.std.proofs.Common.{Some, None, slice_get, Ok, refl, sym, ◌∙◌, ap, subst, arith}
use Rattle.std.specs.Prelude.{is_some}
use Rattle.std.specs.List.{list_any}
use Rattle.std.proofs.lemmas.Bool.{cases_Bool, both_ways, or_left, or_right, or_parts, and_parts, and_from, not-true, not-false}
use Rattle.std.proofs.lemmas.List.Folds.{list_any-append}
use Rattle.std.proofs.lemmas.Option.{slice_get_within}
use Rattle.blocks.specs.Positions.{StreamPosition}
use Rattle.blocks.specs.declared.tuple.Tuple.{Tuple}
use Rattle.blocks.specs.declared.outcome.Decision.{Decision}
use Rattle.blocks.specs.declared.outcome.Decision.TheVariants.{FullSync}
use Rattle.model.specs.Contents.{Write, covers}
use Rattle.model.specs.Stream.{StreamItem, WriteItem, ResyncItem, BarrierItem, SyncUuidItem, UuidsItem, IsBeginning, epoch_of}
use Rattle.model.specs.Frames.{Received, UuidsFrame, naming}
use Rattle.model.specs.Identifiers.{decision}
use Rattle.model.specs.Primary.{Accepted, PrimaryConnection, PrimaryHistory, is_waiting, is_alone, is_confirmed, is_released, unreleased, accepted_frames}
use Rattle.model.specs.Primary.{is_barrier_ack}
use Rattle.model.specs.Primary.{is_rs_write_ack, barrier_acknowledged}
use Rattle.laws.specs.Reflections.{touches, content_at, is_sure, NoneBegan, FirstBegan}
use Rattle.laws.proofs.Streams.Places.{epoch-grows}
use Rattle.laws.proofs.Primary.Homes.{Grows, AllGrow}
use Rattle.laws.proofs.Blocks.Latest.{Touch, latest}
use Rattle.laws.proofs.Blocks.LatestPlaces.{latest-at, latest-last}
use Rattle.laws.proofs.Lists.Elements.{same-at}
use Rattle.laws.proofs.Tracked.Kept.{IsKnown}
use Rattle.laws.proofs.Lists.Picks.{any-filtered}
use Rattle.laws.proofs.Lists.Beginnings.{any-grows}
use Rattle.std.proofs.Common.{IsTrue}

-- Of the items of the connection of the last one that touches a block: the peer has said that this one is on its disk, and it
-- and every later one has what the last one has, if all is faithful.
pub record IsSure (faithful : Bool) (connections : List PrimaryConnection) (block : ℕ) (touch : Touch) : Type 0 where
  pub place : ℕ
  pub end : PrimaryConnection
  pub item : StreamItem
  pub at : slice_get connections touch.connection ≡ Some end
  pub there : slice_get end.stream place ≡ Some item
  pub touched : touches item block ≡ true
  pub sure : is_sure end place item ≡ true
  pub same : IsTrue faithful → (next : ℕ) (i : StreamItem) → place ≤ next → slice_get end.stream next ≡ Some i → touches i block ≡ true
      → content_at i block ≡ content_at touch.item block

-- the home of the write that a touch is
abbrev pub home-of : Touch → Option StreamPosition
home-of touch = Some (record { index = touch.connection; place = touch.place })

-- the item is of a write that is not released
abbrev pub IsHeld : PrimaryHistory → Touch → Type 0
IsHeld h touch = (i : ℕ) × (accepted : Accepted) × (slice_get h.writes i ≡ Some accepted) × (accepted.home ≡ home-of touch)
    × (is_released h accepted ≡ false)

-- A write without a connection that waits for the local disk is marked; on an unmarked block an item is sure and what comes
-- behind it is the same, or the last one is a write that is not released; where there is none, the block was not marked at the
-- opening, and no full resync began.
pub record IsAccounted (h : PrimaryHistory) : Type 0 where
  pub known : IsKnown h
  pub waiting : (i block : ℕ) (accepted : Accepted) → slice_get h.writes i ≡ Some accepted → is_alone h accepted ≡ true → is_waiting accepted.outcome ≡ true
      → covers accepted.write block ≡ true → h.marks block ≡ true
  pub settled : (block : ℕ) (touch : Touch) → h.marks block ≡ false → latest h.connections block ≡ Some touch
      → IsSure h.faithful h.connections block touch ⊎ IsHeld h touch
  pub untouched : (block : ℕ) → block < h.settings.blocks → h.marks block ≡ false → latest h.connections block ≡ None → h.opening_marks block ≡ false
  pub began : NoneBegan h ⊎ ((decided : Decision) × FirstBegan h decided × (decided ≡ FullSync → (block : ℕ) → block < h.settings.blocks → h.marks block ≡ false
      → latest h.connections block ≡ None → ⊥))

-- A connection afterwards: the same one, with more frames taken, or a new one.
abbrev pub IsFormer : List PrimaryConnection → ℕ → PrimaryConnection → Type 0
IsFormer connections k d =
    ((c : PrimaryConnection) × (slice_get connections k ≡ Some c) × (d.closed ≡ true → c.closed ≡ true) × IsBeginning c.taken d.taken)
    ⊎ (slice_get connections k ≡ None)

-- What most moves keep: connections only grow, no end closes, and no write waits again.
pub record Carries (h later : PrimaryHistory) : Type 0 where
  pub grow : AllGrow h.connections later.connections
  pub former : (k : ℕ) (d : PrimaryConnection) → slice_get later.connections k ≡ Some d → IsFormer h.connections k d
  pub writes : (i : ℕ) (a : Accepted) → slice_get h.writes i ≡ Some a
      → (b : Accepted) × (slice_get later.writes i ≡ Some b) × (b.write ≡ a.write) × (b.home ≡ a.home) × (is_waiting a.outcome ≡ false
      → is_waiting b.outcome ≡ false)
  pub faithful : IsTrue later.faithful → IsTrue h.faithful

-- Streams that began: the same ones, with more frames taken.
pub record KeepsBegun (h later : PrimaryHistory) : Type 0 where
  pub forward : (k : ℕ) (c : PrimaryConnection) → slice_get h.connections k ≡ Some c → c.begun ≡ true
      → (d : PrimaryConnection) × (slice_get later.connections k ≡ Some d) × (d.begun ≡ true) × IsBeginning c.taken d.taken
  pub back : (k : ℕ) (d : PrimaryConnection) → slice_get later.connections k ≡ Some d
      → ((c : PrimaryConnection) × (slice_get h.connections k ≡ Some c) × (d.begun ≡ c.begun)) ⊎ (d.begun ≡ false)

-- the last item is sure itself
pub sure-last : (faithful : Bool) (connections : List PrimaryConnection) (block : ℕ) (touch : Touch) (c : PrimaryConnection) → latest connections block ≡ Some touch
    → slice_get connections touch.connection ≡ Some c → is_sure c touch.place touch.item ≡ true → IsSure faithful connections block touch
sure-last faithful connections block touch c is at sure =
    let last = latest-at connections block touch is in
    let end : last.0 ≡ c = same-at connections touch.connection last.0 c last.1 at in
    let there : slice_get c.stream touch.place ≡ Some touch.item = subst (λ (x : PrimaryConnection). slice_get x.stream touch.place ≡ Some touch.item) end
    last.2 in
    record {
      place = touch.place;
      end = c;
      item = touch.item;
      at = at;
      there = there;
      touched = last.3;
      sure = sure;
      same = λ _ next i behind found touched. elim (latest-last connections block touch is touch.connection next c i at found touched) [
        | inl before ↦ absurd (omega arith)
        | inr here ↦
            let index : next ≡ touch.place = let low = here.1 in omega arith in
            ap (λ (x : StreamItem). content_at x block)
            (same-at c.stream touch.place i touch.item (subst (λ (n : ℕ). slice_get c.stream n ≡ Some i) index found) there)
      ];
    }

-- a write that is not released is in the transfer log
pub held-covers : (h : PrimaryHistory) (block i : ℕ) (accepted : Accepted) → slice_get h.writes i ≡ Some accepted → is_released h accepted ≡ false
    → covers accepted.write block ≡ true
    → list_any (λ (a : Accepted). covers a.write block) (unreleased h) ≡ true
held-covers h block i accepted at held covered = any-filtered (λ (a : Accepted). covers a.write block) (λ (a : Accepted). not (is_released h a)) h.writes i
    accepted at (subst (λ b. not b ≡ true) (sym held) refl) covered

-- the epoch of a place in a stream that grew
pub epoch-same : (stream longer : List StreamItem) (place : ℕ) → IsBeginning stream longer → place ≤ length stream
    → epoch_of longer place ≡ epoch_of stream place
epoch-same stream longer place b within = ap (λ (l : List StreamItem). epoch_of l place) (sym b.1) ∙ epoch-grows stream b.0 place within

-- what is sure stays so
pub sure-grows : (c d : PrimaryConnection) (place : ℕ) (item : StreamItem) → Grows c d → slice_get c.stream place ≡ Some item → is_sure c place item ≡ true
    → is_sure d place item ≡ true
sure-grows c d place (WriteItem write) g at sure =
    let inside : place ≤ length c.stream = let within = slice_get_within c.stream place (WriteItem write) at in omega arith in
    subst (λ (n : ℕ). barrier_acknowledged d n ≡ true) (sym (epoch-same c.stream d.stream place g.stream inside))
    (any-grows (is_barrier_ack (epoch_of c.stream place)) (accepted_frames c) (accepted_frames d) g.frames sure)
sure-grows c d place (ResyncItem block contents) g at sure = any-grows (is_rs_write_ack (naming place (ResyncItem block contents))) (accepted_frames c)
    (accepted_frames d) g.frames sure
sure-grows c d place (BarrierItem epoch) g at sure = sure
sure-grows c d place (SyncUuidItem word) g at sure = sure
sure-grows c d place (UuidsItem tuple) g at sure = sure
