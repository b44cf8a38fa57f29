-- The fields of the last writes as plain values, and their invariant.
use Rattle.std.specs.Prelude.{ℕ, ◌≡◌, nat_eq, Some}
use Rattle.std.specs.List.{slice_get}
use Rattle.std.specs.HashMap.{get, spare}
use Rattle.transferlog.specs.LastWrites.{LastWritesState}
use Rattle.transferlog.specs.declared.last_writes.LastWrites.TheInside.{Inside}

-- the fields as plain values
abbrev pub last_writes_of : Inside → LastWritesState
last_writes_of l = record { numbers = l.all.numbers; recent = l.recent.entries; spare = spare l.recent }

-- each number in memory is that of the last write to its block
abbrev pub IsLastWrites : Inside → Type 0
IsLastWrites l = (block number : ℕ) → get nat_eq l.recent block ≡ Some number → slice_get l.all.numbers block ≡ Some number
