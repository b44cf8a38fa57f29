-- The blocks of a range.
use Rattle.std.proofs.Common.{ℕ, ◌≡◌, ◌+◌, ◌≤◌, ◌<◌, inl, inr, true, false, arith, nat_lt, nat_le}
use Rattle.std.proofs.lemmas.Bool.{cases_Bool, and_parts, ltb-true, leb-true, and_right, le-ltb}
use Rattle.model.specs.Contents.{is_between}

-- A block of a range lies between its ends.
pub between-parts : (first count block : ℕ) → is_between first count block ≡ true → (first ≤ block) × (block < first + count)
between-parts first count block h =
    let parts = and_parts (nat_le first block) (nat_lt block (first + count)) h in
    (leb-true first block parts.0, ltb-true block (first + count) parts.1)

-- an item without blocks touches none
pub touches-nothing : (first block : ℕ) → is_between first 0 block ≡ false
touches-nothing first block = elim (cases_Bool (is_between first 0 block)) [
  | inr outside ↦ outside
  | inl inside ↦ absurd (
      let parts = and_parts (nat_le first block) (nat_lt block (first + 0)) inside in
      let from : first ≤ block = leb-true first block parts.0 in
      let before : block < first + 0 = ltb-true block (first + 0) parts.1 in
      omega arith)
]

-- a range inside a device has no block past its end
pub outside-range : (first count size block : ℕ) → first + count ≤ size → size ≤ block → is_between first count block ≡ false
outside-range first count size block inside past = and_right (nat_le first block) (nat_lt block (first + count)) (le-ltb block (first + count) (omega arith))
