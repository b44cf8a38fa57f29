-- What a primary's history keeps of its blocks is kept as a write is accepted, and as a block of a resync is appended.
use Rattle.std.proofs.Common.{ℕ, suc, ◌≡◌, ◌+◌, ◌-◌, ◌≤◌, ◌<◌, ◌⊎◌, inl, inr, Bool, true, false, not, ◌&&◌, List, [], ◌∷◌, ◌++◌, length, map, Option, is_none}
use Rattle.std.proofs.Common.{Some, None, slice_get, refl, sym, ◌∙◌, ap, subst, arith, ◌==◌, nat_lt, nat_le}
use Rattle.std.specs.Prelude.{if◌then◌else◌, is_some, unwrap_or}
use Rattle.std.proofs.lemmas.Bool.{cases_Bool, both_ways, and_parts, and_from, not_from_false, leb-true, lt-ltb, le-leb}
use Rattle.std.proofs.lemmas.List.{map_push}
use Rattle.std.proofs.lemmas.Option.{slice_get_within}
use Rattle.blocks.specs.Positions.{StreamPosition}
use Rattle.model.specs.Contents.{Write, Layer, block_under, overlay, covers, extent_of}
use Rattle.model.specs.Stream.{StreamItem, WriteItem, ResyncItem, placed}
use Rattle.model.specs.Primary.{Waiting, Accepted, PrimaryConnection, PrimaryHistory, no_primary_connection, primary_connection, last_index, change_last}
use Rattle.model.specs.Primary.{is_established, is_completed}
use Rattle.model.specs.Primary.{is_on_disk, local_layer, local_map, is_resync, was_resynced, under_way, resync_runs, in_resync}
use Rattle.model.specs.Primary.{free_block}
use Rattle.model.specs.PrimarySteps.{appending, conflict, submission, submitted, submitted_with, copying, given}
use Rattle.laws.proofs.Rules.Conflicts.{has_block_of, way-apart}
use Rattle.laws.proofs.Rules.FreeBlocks.{IsFree, free-found}
use Rattle.laws.proofs.Rules.Marking.{unmarked-by}
use Rattle.laws.specs.Reflections.{touches}
use Rattle.laws.proofs.Lists.Last.{length-change}
use Rattle.laws.proofs.Primary.Moves.{MaySubmit}
use Rattle.laws.proofs.Primary.Homes.{HasHomes}
use Rattle.laws.proofs.Blocks.Latest.{latest, content_of, settling_layer, settling_map}
use Rattle.laws.proofs.Blocks.LatestMoves.{latest-appended}
use Rattle.laws.proofs.Tracked.{IsUnderWay, IsCopy, IsTracked, IsTrue}
use Rattle.laws.proofs.Lists.Picks.{pick-none, filtered-pick}
use Rattle.laws.proofs.Blocks.Overlays.{overlay-append, overlay-some, under-outside, under-inside, settled-is-local}
use Rattle.laws.proofs.Tracked.Moves.{some-connection, primary-connection-change}
use Rattle.laws.proofs.Tracked.Outcomes.{waiting-open}
use Rattle.laws.proofs.Lists.Elements.{get-left, get-more, get-end}
use Rattle.laws.proofs.Streams.Places.{placed-at}
use Rattle.laws.proofs.Blocks.Ranges.{between-parts}
use Rattle.laws.proofs.Primary.Ends.{established-parts}

-- An item goes to the end of the stream.

-- what touches a block last, with one item more
appended : (h : PrimaryHistory) (item : StreamItem) (block : ℕ) → (primary_connection h).closed ≡ false
    → latest (change_last (λ c. record c { stream = c.stream ++ item ∷ [] }) h.connections) block
    ≡ (if touches item block then Some (record { connection = last_index h.connections; place = length (primary_connection h).stream; item = item })
    else latest h.connections block)
appended h item block standing = latest-appended (no_primary_connection h.tuple) (λ c. record c { stream = c.stream ++ item ∷ [] }) item h.connections block
    (some-connection h standing) refl

appended-touching : (h : PrimaryHistory) (item : StreamItem) (block : ℕ) → (primary_connection h).closed ≡ false → touches item block ≡ true
    → latest (change_last (λ c. record c { stream = c.stream ++ item ∷ [] }) h.connections) block ≡ Some
    (record { connection = last_index h.connections; place = length (primary_connection h).stream; item = item })
appended-touching h item block standing touched =
    appended h item block standing ∙ ap (λ b. if b
    then Some (record { connection = last_index h.connections; place = length (primary_connection h).stream; item = item })
    else latest h.connections block) touched

appended-apart : (h : PrimaryHistory) (item : StreamItem) (block : ℕ) → (primary_connection h).closed ≡ false → touches item block ≡ false
    → latest (change_last (λ c. record c { stream = c.stream ++ item ∷ [] }) h.connections) block ≡ latest h.connections block
appended-apart h item block standing apart =
    appended h item block standing ∙ ap (λ b. if b
    then Some (record { connection = last_index h.connections; place = length (primary_connection h).stream; item = item })
    else latest h.connections block) apart

-- what is under way then was so, or is the new item
way-appended : (c : PrimaryConnection) (item : StreamItem) (place block : ℕ) (contents : List ℕ)
    → IsUnderWay (record c { stream = c.stream ++ item ∷ [] }) place block contents
    → IsUnderWay c place block contents ⊎ ((place ≡ length c.stream) × (ResyncItem block contents ≡ item))
way-appended c item place block contents way = elim (get-more c.stream item place (ResyncItem block contents) way.there) [
  | inl old ↦ inl (record { standing = way.standing; there = old; unanswered = way.unanswered })
  | inr new ↦ inr new
]

-- a copy on the longer stream was one before, and the new item is no write that has the block; or it is the new item
copy-appended : (c : PrimaryConnection) (item : StreamItem) (place block : ℕ) (contents : List ℕ)
    → IsCopy (record c { stream = c.stream ++ item ∷ [] }) place block contents
    → (IsCopy c place block contents × ((write : Write) → item ≡ WriteItem write → covers write block ≡ false)) ⊎ (ResyncItem block contents ≡ item)
copy-appended c item place block contents copy = elim (get-more c.stream item place (ResyncItem block contents) copy.there) [
  | inl old ↦ inl (
    record {
      standing = copy.standing;
      there = old;
      last = λ next write after at. copy.last next write after (get-left c.stream (item ∷ []) next (WriteItem write) at);
    },
    λ write is. copy.last (length c.stream) write (let within = slice_get_within c.stream place (ResyncItem block contents) old in omega arith)
        (get-end c.stream item ∙ ap (λ (x : StreamItem). Some x) is),
  )
  | inr new ↦ inr new.1
]

-- A write is accepted.

-- what a block comes to hold with one write more
settling-more : (h : PrimaryHistory) (added : Accepted) (block : ℕ)
    → overlay h.opening_map (map settling_layer (h.writes ++ added ∷ [])) block ≡ block_under (settling_layer added) block (settling_map h block)
settling-more h added block =
    ap (λ (layers : List Layer). overlay h.opening_map layers block) (map_push settling_layer h.writes added)
    ∙ overlay-append h.opening_map (map settling_layer h.writes) (settling_layer added) block

settling-apart : (h : PrimaryHistory) (added : Accepted) (block : ℕ) → covers added.write block ≡ false
    → overlay h.opening_map (map settling_layer (h.writes ++ added ∷ [])) block ≡ settling_map h block
settling-apart h added block apart = settling-more h added block ∙ under-outside (settling_layer added) block (settling_map h block) apart

-- a new write has no block that is under way
conflict-free : (h : PrimaryHistory) (write : Write) (place block : ℕ) (contents : List ℕ) → is_some (conflict h write) ≡ false
    → IsUnderWay (primary_connection h) place block contents → covers write block ≡ false
conflict-free h write place block contents free way =
    let c : PrimaryConnection = primary_connection h in
    let item : StreamItem = ResyncItem block contents in
    let there = filtered-pick (λ entry. is_resync entry.1 && not (was_resynced c entry.0 entry.1)) (placed c.stream) place (place, item)
    (placed-at 0 c.stream place item way.there
    ∙ ap (λ (n : ℕ). Some (n, item)) (omega arith)) (not_from_false (was_resynced c place item) way.unanswered) in
    pick-none (has_block_of write) (under_way c) there.0 (place, item) (way-apart h write free way.standing) there.1

-- A write is accepted of which the journal has none of its number: it lies in the device and has no block under way.
pub tracked-submits : (h : PrimaryHistory) (first : ℕ) (contents : List (List ℕ)) → MaySubmit h first contents → is_completed h (suc (length h.writes)) ≡ false
    → IsTracked h
    → HasHomes (submitted h first contents) → IsTracked (submitted h first contents)
tracked-submits h first contents may fresh t = go (is_established (primary_connection h)) refl
  where
    write : Write
    write = submission h first contents

    fits : first + length contents ≤ h.settings.blocks
    fits =
        let all = (and_parts ((nat_lt 0 (length contents) && nat_le (length contents) 32) && nat_le (first + length contents) h.settings.blocks)
        (extent_of first == extent_of (first + length contents - 1)) may.range).0 in
        leb-true (first + length contents) h.settings.blocks
        (and_parts (nat_lt 0 (length contents) && nat_le (length contents) 32) (nat_le (first + length contents) h.settings.blocks) all).1

    inside : (home : Option StreamPosition) (i : ℕ) (accepted : Accepted)
        → slice_get (h.writes ++ record { write = write; journal_length = length h.journal; home = home; outcome = Waiting } ∷ []) i ≡ Some accepted
        → accepted.write.first + length accepted.write.contents ≤ h.settings.blocks
    inside home i accepted at = elim
        (get-more h.writes (record { write = write; journal_length = length h.journal; home = home; outcome = Waiting }) i accepted at) [
          | inl old ↦ t.writes_inside i accepted old
          | inr new ↦ subst (λ (a : Accepted). a.write.first + length a.write.contents ≤ h.settings.blocks) (sym new.1) fits
        ]

    done : (home : Option StreamPosition) (i : ℕ) (accepted : Accepted)
        → slice_get (h.writes ++ record { write = write; journal_length = length h.journal; home = home; outcome = Waiting } ∷ []) i ≡ Some accepted
        → is_completed h accepted.write.number ≡ true → is_on_disk accepted.outcome ≡ true
    done home i accepted at completed =
        elim (get-more h.writes (record { write = write; journal_length = length h.journal; home = home; outcome = Waiting }) i accepted at) [
          | inl old ↦ t.on_disk i accepted old completed
          | inr new ↦ absurd (both_ways (is_completed h (suc (length h.writes))) fresh
              (subst (λ (a : Accepted). is_completed h a.write.number ≡ true) new.1 completed))
        ]

    go : (b : Bool) → is_established (primary_connection h) ≡ b → HasHomes (submitted_with b h first contents) → IsTracked (submitted_with b h first contents)
    go false is homes =
        let added : Accepted = record { write = write; journal_length = length h.journal; home = None; outcome = Waiting } in
        record {
          homes = homes;
          sized = t.sized;
          writes_inside = inside None;
          items_inside = t.items_inside;
          on_disk = done None;
          under_way = λ place block contents way. absurd (both_ways (is_established (primary_connection h)) is way.standing);
          copied = λ place block contents copy. absurd (both_ways (is_established (primary_connection h)) is copy.standing);
          equal = λ block within unmarked faithful.
              let parts = unmarked-by write h.marks block unmarked in
              t.equal block within parts.0 faithful ∙ sym (settling-apart h added block parts.1);
        }
    go true is homes =
        let c : PrimaryConnection = primary_connection h in
        let standing : c.closed ≡ false = (established-parts c is).0 in
        let home : Option StreamPosition = Some (record { index = last_index h.connections; place = length c.stream }) in
        let added : Accepted = record { write = write; journal_length = length h.journal; home = home; outcome = Waiting } in
        let item : StreamItem = WriteItem write in
        let f : PrimaryConnection → PrimaryConnection = λ x. record x { stream = x.stream ++ item ∷ [] } in
        let later : PrimaryHistory = appending item (record h { writes = h.writes ++ added ∷ [] }) in
        let last : primary_connection later ≡ f c = primary-connection-change h (no_primary_connection h.tuple) f standing in
        record {
          homes = homes;
          sized = t.sized;
          writes_inside = inside home;
          items_inside = λ block touch latest_is. elim (cases_Bool (touches item block)) [
            | inl touched ↦ let ends = between-parts first (length contents) block touched in let high = ends.1 in let low = fits in omega arith
            | inr apart ↦ t.items_inside block touch (sym (appended-apart h item block standing apart) ∙ latest_is)
          ];
          on_disk = done home;
          under_way = λ place block inner way. elim
              (way-appended c item place block inner (subst (λ (x : PrimaryConnection). IsUnderWay x place block inner) last way)) [
                | inr new ↦ absurd (let e = new.1 in cc)
                | inl old ↦
                    let index : last_index h.connections ≡ last_index (change_last f h.connections) = ap (λ (n : ℕ). n - 1)
                    (sym (length-change f h.connections)) in
                    appended-apart h item block standing (conflict-free h write place block inner may.free old)
                    ∙ (t.under_way place block inner old ∙ ap (λ (n : ℕ). Some (record { connection = n; place = place; item = ResyncItem block inner })) index)
              ];
          copied = λ place block inner copy. elim
              (copy-appended c item place block inner (subst (λ (x : PrimaryConnection). IsCopy x place block inner) last copy)) [
                | inr new ↦ absurd (let e = new in cc)
                | inl old ↦
                    let was = t.copied place block inner old.0 in
                    let apart : covers write block ≡ false = old.1 write refl in (
                      λ faithful. settling-apart h added block apart ∙ was.0 faithful,
                      λ i accepted at waits. elim (get-more h.writes added i accepted at) [
                        | inl before ↦ was.1 i accepted before waits
                        | inr new ↦ subst (λ (a : Accepted). covers a.write block ≡ false) (sym new.1) apart
                      ],
                    )
              ];
          equal = λ block within unmarked faithful. elim (cases_Bool (touches item block)) [
            | inl touched ↦
                ap (content_of (h.opening_map block) block) (appended-touching h item block standing touched)
                ∙ sym (settling-more h added block ∙ under-inside (settling_layer added) block (settling_map h block) touched refl)
            | inr apart ↦ ap (content_of (h.opening_map block) block) (appended-apart h item block standing apart)
                ∙ (t.equal block within unmarked faithful ∙ sym (settling-apart h added block apart))
          ];
        }

-- A block of a resync is appended.

some-unwrap : (v : Option (List ℕ)) → is_some v ≡ true → v ≡ Some (unwrap_or v [])
some-unwrap None some = absurd (cc)
some-unwrap (Some bytes) some = refl

-- nothing is under way where that list is empty
none-under-way : (h : PrimaryHistory) (place block : ℕ) (contents : List ℕ) → nat_lt 0 (length (under_way (primary_connection h))) ≡ false
    → IsUnderWay (primary_connection h) place block contents → ⊥
none-under-way h place block contents none way =
    let c : PrimaryConnection = primary_connection h in
    let item : StreamItem = ResyncItem block contents in
    let there = filtered-pick (λ entry. is_resync entry.1 && not (was_resynced c entry.0 entry.1)) (placed c.stream) place (place, item)
    (placed-at 0 c.stream place item way.there
    ∙ ap (λ (n : ℕ). Some (n, item)) (omega arith)) (not_from_false (was_resynced c place item) way.unanswered) in
    let within = slice_get_within (under_way c) there.0 (place, item) there.1 in
    both_ways (nat_lt 0 (length (under_way c))) none (lt-ltb 0 (length (under_way c)) (omega arith))

-- nothing else was read
pub none-read : (read : Option (List ℕ)) → is_none read ≡ true → read ≡ None
none-read None is = refl
none-read (Some bytes) is = absurd (cc)

-- The block is appended with what the local disk has, which no waiting write will change, or with what was read in its place.
pub tracked-resyncs : (h : PrimaryHistory) (block : ℕ) (read : Option (List ℕ)) → resync_runs (primary_connection h) ≡ true
    → nat_lt 0 (length (under_way (primary_connection h))) ≡ false
    → free_block h ≡ Some block → IsTracked h
    → HasHomes (copying read block h)
    → IsTracked (copying read block h)
tracked-resyncs h block read runs none is t homes =
    let c : PrimaryConnection = primary_connection h in
    let standing : c.closed ≡ false = (established-parts c (and_parts (is_established c) (in_resync c.stream) runs).0).0 in
    let contents : List ℕ = given read h block in
    let item : StreamItem = ResyncItem block contents in
    let f : PrimaryConnection → PrimaryConnection = λ x. record x { stream = x.stream ++ item ∷ [] } in
    let later : PrimaryHistory = copying read block h in
    let next : IsFree h block = free-found h block is in
    let local : local_map h block ≡ Some (unwrap_or (local_map h block) []) =
    some-unwrap (local_map h block) (overlay-some h.opening_map (map local_layer h.writes) block (t.sized block next.within)) in
    let settled : IsTrue (is_none read && h.faithful) → settling_map h block ≡ Some contents = λ faithful.
    settled-is-local h block (λ i accepted at waits. next.free i accepted at (waiting-open h i accepted t at waits)) ∙ (local
    ∙ ap (λ (v : Option (List ℕ)). Some (unwrap_or v (unwrap_or (local_map h block) []))) (sym (none-read read (and_parts (is_none read) h.faithful faithful).0))) in
    let only : (other : ℕ) → touches item other ≡ true
    → other ≡ block = λ other touched. let ends = between-parts block 1 other touched in let low = ends.0 in let high = ends.1 in omega arith in
    let touched : touches item block ≡ true = and_from (nat_le block block) (nat_lt block (block + 1)) (le-leb block block (omega arith))
    (lt-ltb block (block + 1) (omega arith)) in
    let last : latest (change_last f h.connections) block ≡ Some (record { connection = last_index h.connections; place = length c.stream; item = item }) =
    appended-touching h item block standing touched in
    let end : primary_connection later ≡ f c = primary-connection-change h (no_primary_connection h.tuple) f standing in
    record {
      homes = homes;
      sized = t.sized;
      writes_inside = t.writes_inside;
      items_inside = λ other touch latest_is. elim (cases_Bool (touches item other)) [
        | inl here ↦ subst (λ (n : ℕ). n < h.settings.blocks) (sym (only other here)) next.within
        | inr apart ↦ t.items_inside other touch (sym (appended-apart h item other standing apart) ∙ latest_is)
      ];
      on_disk = t.on_disk;
      under_way = λ place other inner way. elim
          (way-appended c item place other inner (subst (λ (x : PrimaryConnection). IsUnderWay x place other inner) end way)) [
            | inl old ↦ absurd (none-under-way h place other inner none old)
            | inr new ↦
                let same : other ≡ block = let e = new.1 in cc in
                let index : last_index h.connections ≡ last_index (change_last f h.connections) = ap (λ (n : ℕ). n - 1) (sym (length-change f h.connections)) in
                ap (latest (change_last f h.connections)) same
                ∙ (last
                ∙ (ap (λ (n : ℕ). Some (record { connection = n; place = length c.stream; item = item })) index
                ∙ (ap (λ (n : ℕ). Some (record { connection = last_index (change_last f h.connections); place = n; item = item })) (sym new.0)
                ∙ ap (λ (x : StreamItem). Some (record { connection = last_index (change_last f h.connections); place = place; item = x })) (sym new.1))))
          ];
      copied = λ place other inner copy. elim (copy-appended c item place other inner
          (subst (λ (x : PrimaryConnection). IsCopy x place other inner) end copy)) [
            | inl old ↦ let was = t.copied place other inner old.0 in
                (λ faithful. was.0 (and_parts (is_none read) h.faithful faithful).1, was.1)
            | inr new ↦
                let same : other ≡ block = cc in
                let bytes : inner ≡ contents = cc in (
                  λ faithful. ap (settling_map h) same ∙ (settled faithful ∙ ap (λ (l : List ℕ). Some l) (sym bytes)),
                  λ i accepted at waits. subst (λ (n : ℕ). covers accepted.write n ≡ false) (sym same)
                      (next.free i accepted at (waiting-open h i accepted t at waits)),
                )
          ];
      equal = λ other within unmarked faithful. elim (cases_Bool (touches item other)) [
        | inl here ↦ absurd (both_ways (h.marks block) (subst (λ (n : ℕ). h.marks n ≡ false) (only other here) unmarked) next.marked)
        | inr apart ↦ ap (content_of (h.opening_map other) other) (appended-apart h item other standing apart)
            ∙ t.equal other within unmarked (and_parts (is_none read) h.faithful faithful).1
      ];
    }
