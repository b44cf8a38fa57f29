-- The last item of all connections that touches a block, and what both disks come to hold there.
use Rattle.std.proofs.Common.{ℕ, suc, ◌≡◌, ◌+◌, ◌||◌, List, [], ◌∷◌, ◌++◌, length, map, Option, Some, None, ◌∙◌, ap, arith}
use Rattle.std.specs.Prelude.{if◌then◌else◌}
use Rattle.model.specs.Contents.{Layer, overlay}
use Rattle.model.specs.Stream.{StreamItem}
use Rattle.model.specs.Primary.{Accepted, PrimaryConnection, PrimaryHistory, is_waiting, offset_reached}
use Rattle.laws.specs.Reflections.{touches, content_at}

-- An item that touches a block, with where it stands: the number of its connection, and its place there.
pub record Touch : Type 0 where
  pub connection : ℕ
  pub place : ℕ
  pub item : StreamItem

-- the last item of a stream that touches a block, with its place, or else what was found before
abbrev pub latest_from : ℕ → ℕ → Option (ℕ × StreamItem) → List StreamItem → Option (ℕ × StreamItem)
latest_from block place found [] = found
latest_from block place found (item ∷ items) = latest_from block (suc place) (if touches item block then Some (place, item) else found) items

-- what is found in a connection, or else what was found before
abbrev pub found_in : ℕ → Option (ℕ × StreamItem) → Option Touch → Option Touch
found_in k None found = found
found_in k (Some entry) found = Some (record { connection = k; place = entry.0; item = entry.1 })

-- the last of several connections, of which the first has this number
abbrev pub latest_of : ℕ → ℕ → Option Touch → List PrimaryConnection → Option Touch
latest_of block k found [] = found
latest_of block k found (c ∷ cs) = latest_of block (suc k) (found_in k (latest_from block 0 None c.stream) found) cs

-- the last of all items that touches a block
abbrev pub latest : List PrimaryConnection → ℕ → Option Touch
latest connections block = latest_of block 0 None connections

-- what a block holds once the last item is applied that touches it
abbrev pub content_of : Option (List ℕ) → ℕ → Option Touch → Option (List ℕ)
content_of below block None = below
content_of below block (Some touch) = content_at touch.item block

-- what the peer would hold if all items were applied, over the primary's opening disk
abbrev pub sent_map : PrimaryHistory → ℕ → Option (List ℕ)
sent_map h block = content_of (h.opening_map block) block (latest h.connections block)

-- what a write lays on the local disk once it is done, where it waits
abbrev pub settling_layer : Accepted → Layer
settling_layer accepted = record {
  first = accepted.write.first;
  contents = accepted.write.contents;
  laid = λ offset. is_waiting accepted.outcome || offset_reached accepted.outcome offset;
}

-- what the local disk comes to hold once every waiting write is done
abbrev pub settling_map : PrimaryHistory → ℕ → Option (List ℕ)
settling_map h block = overlay h.opening_map (map settling_layer h.writes) block

-- one item more at the end of a stream
pub latest-append : (block place : ℕ) (found : Option (ℕ × StreamItem)) (items : List StreamItem) (item : StreamItem)
    → latest_from block place found (items ++ item ∷ []) ≡ (if touches item block then Some (place + length items, item)
    else latest_from block place found items)
latest-append block place found [] item = ap (λ (n : ℕ). if touches item block then Some (n, item) else found) (omega arith)
latest-append block place found (x ∷ items) item =
    latest-append block (suc place) (if touches x block then Some (place, x) else found) items item
    ∙ ap (λ (n : ℕ). if touches item block then Some (n, item) else latest_from block (suc place) (if touches x block then Some (place, x) else found) items)
    (omega arith)
