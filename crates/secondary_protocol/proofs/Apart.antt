-- Whether an item is apart from those of the last epoch: by the blocks that they have.
use Rattle.std.proofs.Common.{ℕ, ◌≡◌, ◌<◌, ◌≤◌, ◌+◌, ◌-◌, Bool, true, false, not, ◌&&◌, List, length, refl, sym}
use Rattle.std.proofs.Common.{ap, arith, nat_lt, nat_le}
use Rattle.std.specs.List.{list_any}
use Rattle.std.proofs.lemmas.Bool.{and_parts, and_from, ltb-true, lt-ltb, le-leb}
use Rattle.model.specs.Contents.{is_between, ranges_meet}
use Rattle.model.specs.Stream.{StreamItem, first_of, contents_of, items_meet, items_of_epoch, last_epoch, below}
use Rattle.laws.specs.Reflections.{touches}
use Rattle.laws.proofs.Blocks.Ranges.{between-parts}
use Rattle.laws.proofs.Lists.Picks.{below-has, pick-any, any-pick, pick-below}

-- two truth values of which each follows from the other
pub same-truth : (a b : Bool) → (a ≡ true → b ≡ true) → (b ≡ true → a ≡ true) → a ≡ b
same-truth true b there back = sym (there refl)
same-truth false true there back = back refl
same-truth false false there back = refl

-- a common block of two ranges, by its place in the second
meet-there : (first count other size : ℕ) → ranges_meet first count other size ≡ true → (o : ℕ) × (o < size) × (is_between first count (other + o) ≡ true)
meet-there first count other size meets =
    let parts = and_parts (nat_lt first (other + size) && nat_lt other (first + count)) (nat_lt 0 count && nat_lt 0 size) meets in
    let ends = and_parts (nat_lt first (other + size)) (nat_lt other (first + count)) parts.0 in
    let some = and_parts (nat_lt 0 count) (nat_lt 0 size) parts.1 in
    let one : first < other + size = ltb-true first (other + size) ends.0 in
    let two : other < first + count = ltb-true other (first + count) ends.1 in
    let three : 0 < count = ltb-true 0 count some.0 in
    let four : 0 < size = ltb-true 0 size some.1 in (
      first - other,
      omega arith,
      and_from (nat_le first (other + (first - other))) (nat_lt (other + (first - other)) (first + count))
          (le-leb first (other + (first - other)) (omega arith)) (lt-ltb (other + (first - other)) (first + count) (omega arith)),
    )

pub meet-back : (first count other size o : ℕ) → o < size → is_between first count (other + o) ≡ true → ranges_meet first count other size ≡ true
meet-back first count other size o less between =
    let there = between-parts first count (other + o) between in
    let from : first ≤ other + o = there.0 in
    let before : other + o < first + count = there.1 in
    and_from (nat_lt first (other + size) && nat_lt other (first + count)) (nat_lt 0 count && nat_lt 0 size)
    (and_from (nat_lt first (other + size)) (nat_lt other (first + count)) (lt-ltb first (other + size) (omega arith))
    (lt-ltb other (first + count) (omega arith)))
    (and_from (nat_lt 0 count) (nat_lt 0 size) (lt-ltb 0 count (omega arith)) (lt-ltb 0 size (omega arith)))

-- An item of the device is apart from those of the last epoch exactly where none of its blocks is one of theirs.
pub blocks-meet : (items : List StreamItem) (item : StreamItem)
    → not (list_any (λ (entry : ℕ × StreamItem). items_meet entry.1 item) (items_of_epoch items (last_epoch items))) ≡ not
    (list_any (λ offset. list_any (λ (entry : ℕ × StreamItem). touches entry.1 (first_of item + offset)) (items_of_epoch items (last_epoch items)))
    (below (length (contents_of item))))
blocks-meet items item = ap not
    (same-truth (list_any (λ (entry : ℕ × StreamItem). items_meet entry.1 item) last)
    (list_any (λ offset. has (first_of item + offset)) (below (length (contents_of item)))) there back)
  where
    last : List (ℕ × StreamItem)
    last = items_of_epoch items (last_epoch items)

    has : ℕ → Bool
    has block = list_any (λ (entry : ℕ × StreamItem). touches entry.1 block) last

    there : list_any (λ (entry : ℕ × StreamItem). items_meet entry.1 item) last ≡ true
        → list_any (λ offset. has (first_of item + offset)) (below (length (contents_of item))) ≡ true
    there met =
        let found = pick-any (λ (entry : ℕ × StreamItem). items_meet entry.1 item) last met in
        let common = meet-there (first_of found.1.1) (length (contents_of found.1.1)) (first_of item) (length (contents_of item)) found.3 in
        let place = below-has (length (contents_of item)) common.0 common.1 in
        any-pick (λ offset. has (first_of item + offset)) (below (length (contents_of item))) place.0 common.0 place.1
        (any-pick (λ (entry : ℕ × StreamItem). touches entry.1 (first_of item + common.0)) last found.0 found.1 found.2 common.2)

    back : list_any (λ offset. has (first_of item + offset)) (below (length (contents_of item))) ≡ true
        → list_any (λ (entry : ℕ × StreamItem). items_meet entry.1 item) last ≡ true
    back some =
        let place = pick-any (λ offset. has (first_of item + offset)) (below (length (contents_of item))) some in
        let found = pick-any (λ (entry : ℕ × StreamItem). touches entry.1 (first_of item + place.1)) last place.3 in
        any-pick (λ (entry : ℕ × StreamItem). items_meet entry.1 item) last found.0 found.1 found.2
        (meet-back (first_of found.1.1) (length (contents_of found.1.1)) (first_of item) (length (contents_of item)) place.1
        (pick-below (length (contents_of item)) place.0 place.1 place.2) found.3)
