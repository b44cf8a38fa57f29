-- Moves of a primary that add nothing to its writes: no item that touches a block is added, and none comes under way.
use Rattle.std.proofs.Common.{ℕ, ◌≡◌, ◌+◌, ◌-◌, ◌≤◌, ◌<◌, inl, inr, Bool, true, false, ◌||◌, List, [], ◌∷◌, ◌++◌, length, Option, Some, None, slice_get, refl}
use Rattle.std.proofs.Common.{sym, ◌∙◌, ap, subst, arith, nat_lt, nat_le}
use Rattle.std.specs.Prelude.{if◌then◌else◌, is_some}
use Rattle.std.specs.List.{list_any}
use Rattle.std.proofs.lemmas.Bool.{both_ways, le-ltb, and_right, or_parts}
use Rattle.std.proofs.lemmas.List.Folds.{list_any-append}
use Rattle.blocks.specs.declared.settings.Settings.{Settings}
use Rattle.blocks.specs.declared.tuple.Tuple.{Tuple}
use Rattle.model.specs.Contents.{BlockMap, Write}
use Rattle.model.specs.Stream.{StreamItem, WriteItem, ResyncItem, first_of, contents_of, IsBeginning}
use Rattle.model.specs.Frames.{Received, naming}
use Rattle.model.specs.Marks.{Marks}
use Rattle.model.specs.Primary.{PrimaryConnection, PrimaryHistory, primary_opening, no_primary_connection, last_of, primary_connection, last_index, change_last}
use Rattle.model.specs.Primary.{is_established, accepted_frames}
use Rattle.model.specs.Primary.{is_rs_write_ack, was_resynced, local_layer, local_map}
use Rattle.laws.specs.Reflections.{touches}
use Rattle.laws.proofs.Lists.Last.{last-change, length-change}
use Rattle.laws.proofs.Primary.Homes.{HasHomes}
use Rattle.laws.proofs.Primary.HomesMoves.{homes-opening}
use Rattle.laws.proofs.Blocks.Latest.{Touch, latest, content_of, sent_map, settling_map}
use Rattle.laws.proofs.Blocks.LatestMoves.{latest-appended}
use Rattle.laws.proofs.Tracked.{IsUnderWay, IsCopy, IsTracked}
use Rattle.laws.proofs.Blocks.Overlays.{overlay-none, under-outside}
use Rattle.laws.proofs.Lists.Elements.{get-left, get-more}
use Rattle.laws.proofs.Blocks.Ranges.{outside-range}
use Rattle.std.proofs.Common.{IsTrue}

-- At the opening nothing was written or sent.
pub tracked-opening : (settings : Settings) (disk : BlockMap) (tuple : Tuple) (marks : ℕ → Bool)
    → ((block : ℕ) → block < settings.blocks → is_some (disk block) ≡ true)
    → IsTracked (primary_opening settings disk tuple marks)
tracked-opening settings disk tuple marks sized = record {
  homes = homes-opening settings disk tuple marks;
  sized = sized;
  writes_inside = λ i accepted at. absurd (cc);
  items_inside = λ block touch is. absurd (cc);
  on_disk = λ i accepted at completed. absurd (cc);
  under_way = λ place block contents way. absurd (let s = way.standing in cc);
  copied = λ place block contents copy. absurd (let s = copy.standing in cc);
  equal = λ block within unmarked faithful. refl;
}

-- No item touches a block past the end of the device, and no write reaches it.
pub beyond-the-end : (h : PrimaryHistory) (block : ℕ) → IsTracked h → h.settings.blocks ≤ block
    → (latest h.connections block ≡ None) × (local_map h block ≡ h.opening_map block)
beyond-the-end h block t past = (
  go (latest h.connections block) refl,
  overlay-none local_layer h.opening_map h.writes block
      (λ i accepted at v. under-outside (local_layer accepted) block v
      (outside-range accepted.write.first (length accepted.write.contents) h.settings.blocks block (t.writes_inside i accepted at) past)),
)
  where
    go : (v : Option Touch) → latest h.connections block ≡ v → v ≡ None
    go None is = refl
    go (Some touch) is = absurd (let inside = t.items_inside block touch is in omega arith)

-- The last connection of an open end.

-- an open end has a connection
pub some-connection : (h : PrimaryHistory) → (primary_connection h).closed ≡ false → h.connections ≡ [] → ⊥
some-connection h standing none = both_ways (primary_connection h).closed standing
    (ap (λ (l : List PrimaryConnection). (last_of (no_primary_connection h.tuple) l).closed) none)

-- after a change of an open end's connection the last one is the changed one
pub primary-connection-change : (h : PrimaryHistory) (none : PrimaryConnection) (f : PrimaryConnection → PrimaryConnection)
    → (primary_connection h).closed ≡ false
    → last_of none (change_last f h.connections) ≡ f (primary_connection h)
primary-connection-change h none f standing =
    elim (last-change f (no_primary_connection h.tuple) none h.connections) [ inl empty ↦ absurd (some-connection h standing empty) | inr changed ↦ changed ]

-- A block of a resync on a stream that stands after a change of its connection: it stood there before, acknowledged if it is
-- not under way any more, and so did each write that stands there.
pub record KeepsBlock (c d : PrimaryConnection) (place block : ℕ) (contents : List ℕ) : Type 0 where
  pub standing : is_established c ≡ true
  pub there : slice_get c.stream place ≡ Some (ResyncItem block contents)
  pub unanswered : was_resynced d place (ResyncItem block contents) ≡ false → was_resynced c place (ResyncItem block contents) ≡ false
  pub writes : (next : ℕ) (write : Write) → slice_get c.stream next ≡ Some (WriteItem write) → slice_get d.stream next ≡ Some (WriteItem write)

-- a change that adds no block of a resync to a stream
abbrev pub KeepsBlocks : PrimaryConnection → PrimaryConnection → Type 0
KeepsBlocks c d = (place block : ℕ) (contents : List ℕ) → is_established d ≡ true → slice_get d.stream place ≡ Some (ResyncItem block contents)
    → KeepsBlock c d place block contents

-- what is under way then was so before
pub way-before : (c d : PrimaryConnection) (place block : ℕ) (contents : List ℕ) → KeepsBlocks c d → IsUnderWay d place block contents
    → IsUnderWay c place block contents
way-before c d place block contents keeps way = let old = keeps place block contents way.standing way.there in record {
  standing = old.standing;
  there = old.there;
  unanswered = old.unanswered way.unanswered;
}

-- and what no later write has
pub copy-before : (c d : PrimaryConnection) (place block : ℕ) (contents : List ℕ) → KeepsBlocks c d → IsCopy d place block contents
    → IsCopy c place block contents
copy-before c d place block contents keeps copy =
    let old = keeps place block contents copy.standing copy.there in
    record { standing = old.standing; there = old.there; last = λ next write after at. copy.last next write after (old.writes next write at) }

-- what was acknowledged stays so as frames are taken
pub unanswered-before : (c d : PrimaryConnection) (place : ℕ) (item : StreamItem) → IsBeginning (accepted_frames c) (accepted_frames d)
    → was_resynced d place item ≡ false
    → was_resynced c place item ≡ false
unanswered-before c d place item grows not_so =
    let p : Received → Bool = is_rs_write_ack (naming place item) in
    let both : (list_any p (accepted_frames c) || list_any p grows.0) ≡ false = sym (list_any-append p (accepted_frames c) grows.0)
    ∙ (ap (list_any p) grows.1 ∙ not_so) in
    (or_parts (list_any p (accepted_frames c)) (list_any p grows.0) both).0

-- Quiet moves.

-- a history with other connections, marks, tuples and receipts
abbrev pub changed : PrimaryHistory → List PrimaryConnection → Marks → Tuple → Option Tuple → List ℕ → PrimaryHistory
changed h connections marks tuple peer receipts = record h { connections = connections; marks = marks; tuple = tuple; peer = peer; receipts = receipts }

-- The same items touch blocks last, what is under way was so, and what was sent is the same where no mark is.
pub tracked-quiet : (h : PrimaryHistory) (connections : List PrimaryConnection) (marks : Marks) (tuple : Tuple) (peer : Option Tuple) (receipts : List ℕ)
    → IsTracked h
    → HasHomes (changed h connections marks tuple peer receipts)
    → ((block : ℕ) → latest connections block ≡ latest h.connections block)
    → (is_established (primary_connection (changed h connections marks tuple peer receipts)) ≡ true → last_index connections ≡ last_index h.connections)
    → KeepsBlocks (primary_connection h) (primary_connection (changed h connections marks tuple peer receipts))
    → ((block : ℕ) → block < h.settings.blocks → marks block ≡ false → IsTrue h.faithful → sent_map h block ≡ settling_map h block)
    → IsTracked (changed h connections marks tuple peer receipts)
tracked-quiet h connections marks tuple peer receipts t homes same index keeps equal = record {
  homes = homes;
  sized = t.sized;
  writes_inside = t.writes_inside;
  items_inside = λ block touch is. t.items_inside block touch (sym (same block) ∙ is);
  on_disk = t.on_disk;
  under_way = λ place block contents way.
      let was = t.under_way place block contents (way-before (primary_connection h) (primary_connection later) place block contents keeps way) in
      same block ∙ (was ∙ ap (λ (n : ℕ). Some (record { connection = n; place = place; item = ResyncItem block contents })) (sym (index way.standing)));
  copied = λ place block contents copy. t.copied place block contents
      (copy-before (primary_connection h) (primary_connection later) place block contents keeps copy);
  equal = λ block within unmarked faithful. ap (content_of (h.opening_map block) block) (same block) ∙ equal block within unmarked faithful;
}
  where
    later : PrimaryHistory
    later = changed h connections marks tuple peer receipts

-- The last connection of an open end changes.
pub tracked-turn : (h : PrimaryHistory) (f : PrimaryConnection → PrimaryConnection) (marks : Marks) (tuple : Tuple) (peer : Option Tuple) (receipts : List ℕ)
    → (primary_connection h).closed ≡ false → IsTracked h
    → HasHomes (changed h (change_last f h.connections) marks tuple peer receipts)
    → ((block : ℕ) → latest (change_last f h.connections) block ≡ latest h.connections block)
    → KeepsBlocks (primary_connection h) (f (primary_connection h))
    → ((block : ℕ) → block < h.settings.blocks → marks block ≡ false → IsTrue h.faithful → sent_map h block ≡ settling_map h block)
    → IsTracked (changed h (change_last f h.connections) marks tuple peer receipts)
tracked-turn h f marks tuple peer receipts standing t homes same keeps equal =
    tracked-quiet h (change_last f h.connections) marks tuple peer receipts t homes same (λ stood. ap (λ (n : ℕ). n - 1) (length-change f h.connections))
    (subst (KeepsBlocks (primary_connection h)) (sym (primary-connection-change h (no_primary_connection tuple) f standing)) keeps) equal

-- an item without blocks touches none
pub untouched : (item : StreamItem) (block : ℕ) → contents_of item ≡ [] → first_of item ≡ 0 → touches item block ≡ false
untouched item block none first =
    let size : length (contents_of item) ≡ 0 = ap length none in
    and_right (nat_le (first_of item) block) (nat_lt block (first_of item + length (contents_of item)))
    (le-ltb block (first_of item + length (contents_of item)) (omega arith))

-- An item without blocks goes to the end of the stream.
pub tracked-appending : (h : PrimaryHistory) (item : StreamItem) (tuple : Tuple) → (primary_connection h).closed ≡ false → contents_of item ≡ []
    → first_of item ≡ 0
    → IsTracked h
    → HasHomes (changed h (change_last (λ c. record c { stream = c.stream ++ item ∷ [] }) h.connections) h.marks tuple h.peer h.receipts)
    → IsTracked (changed h (change_last (λ c. record c { stream = c.stream ++ item ∷ [] }) h.connections) h.marks tuple h.peer h.receipts)
tracked-appending h item tuple standing none first t homes =
    let f : PrimaryConnection → PrimaryConnection = λ c. record c { stream = c.stream ++ item ∷ [] } in
    let c : PrimaryConnection = primary_connection h in
    tracked-turn h f h.marks tuple h.peer h.receipts standing t homes
    (λ block. latest-appended (no_primary_connection h.tuple) f item h.connections block (some-connection h standing) refl
    ∙ ap (λ b. if b then Some (record { connection = last_index h.connections; place = length c.stream; item = item })
    else latest h.connections block) (untouched item block none first))
    (λ place block contents stood there. record {
      standing = stood;
      there = elim (get-more c.stream item place (ResyncItem block contents) there)
          [ inl old ↦ old | inr new ↦ absurd (let e = new.1 in let same : [] ≡ contents ∷ [] = sym none ∙ ap contents_of (sym e) in cc) ];
      unanswered = λ unanswered. unanswered;
      writes = λ next write at. get-left c.stream (item ∷ []) next (WriteItem write) at;
    })
    t.equal
