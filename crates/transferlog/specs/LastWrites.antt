-- The last writes to a device's blocks, as contracts read them.
use Rattle.std.specs.Prelude.{ℕ, ◌≡◌, nat_eq, true, ◌+◌, ◌^◌, ◌≤◌, ◌&&◌, if◌then◌else◌, List, [], ◌∷◌, Option, Some, None}
use Rattle.std.specs.List.{slice_get, AllByRecursion}
use Rattle.std.specs.Map.{lookup}
use Rattle.blocks.specs.Ranges.{is_between}
use Rattle.transferlog.specs.Log.{is_number}
use Rattle.transferlog.specs.Writes.{LogWrite}
use Rattle.transferlog.specs.declared.report.Released.{Released}

-- For each block of the device the number of the last write to it, or 0; the blocks whose numbers are in memory, with
-- these; and for how many more there is room.
pub record LastWritesState : Type 0 where
  pub numbers : List ℕ
  pub recent : List (ℕ × ℕ)
  pub spare : ℕ

-- the number that is in memory for a block
abbrev pub known_at : ℕ → LastWritesState → Option ℕ
known_at block s = lookup (nat_eq block) s.recent

-- a range ends where a device may
abbrev pub IsSmall : ℕ → ℕ → Type 0
IsSmall first count = first + count ≤ 2 ^ 32

-- the number in memory for a block, after a write is noted; it was this one
abbrev pub noted : ℕ → ℕ → ℕ → ℕ → Option ℕ → Option ℕ
noted number first count block known = if is_between first count block then Some number else known

-- the number in memory for a block, after a write is forgotten; it was this one
abbrev pub forgotten : Released → ℕ → Option ℕ → Option ℕ
forgotten r block known = if is_between r.first r.count block && is_number r.number known then None else known

-- the same, after each write of a list is forgotten
abbrev pub forgotten_all : List Released → ℕ → Option ℕ → Option ℕ
forgotten_all [] block known = known
forgotten_all (r ∷ released) block known = forgotten_all released block (forgotten r block known)

-- a write ends where a device may, and if it is the last one to a block of it, its number is in memory for that block
pub record IsNoted (last_writes : LastWritesState) (number first count : ℕ) : Type 0 where
  pub small : IsSmall first count
  pub known : (block : ℕ) → is_between first count block ≡ true → slice_get last_writes.numbers block ≡ Some number → known_at block last_writes ≡ Some number

-- the same of a write in the log
abbrev pub IsNotedWrite : LastWritesState → LogWrite → Type 0
IsNotedWrite last_writes w = IsNoted last_writes w.number w.first w.count

-- the same of a released write
abbrev pub IsNotedRelease : LastWritesState → Released → Type 0
IsNotedRelease last_writes r = IsNoted last_writes r.number r.first r.count

-- a released write has another number
abbrev pub HasOther : ℕ → Released → Type 0
HasOther number r = r.number ≡ number → ⊥

-- the write is none of the released ones
abbrev pub IsApart : List Released → LogWrite → Type 0
IsApart released w = AllByRecursion (HasOther w.number) released
