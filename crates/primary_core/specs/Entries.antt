-- The fields of an accepted write as plain values.
use Rattle.std.specs.Prelude.{ℕ, zero, suc, Bool, true, false, not, List, unwrap_or, slice_get}
use Rattle.primary_protocol.specs.Core as core
use Rattle.primary_core.specs.declared.entry.Fate.{Fate}
use Rattle.primary_core.specs.declared.entry.Fate.TheVariants as fate
use Rattle.primary_core.specs.declared.entry.JournalEntry.TheInside.{Inside}

-- what became of a write
abbrev pub fate_as : Fate → core.Fate
fate_as fate.Open = core.Open
fate_as fate.Failed = core.Failed
fate_as (fate.Completed linked home) = core.Completed linked home

-- the fields as a plain value
abbrev pub entry_of : Inside → core.JournalEntry
entry_of e = record { first = e.first; count = e.count; fate = fate_as e.fate; taken = e.is_taken }

-- there is an entry of this number, and it is not confirmed
abbrev pub is_unconfirmed : ℕ → List Bool → Bool
is_unconfirmed zero confirmed = false
is_unconfirmed (suc n) confirmed = not (unwrap_or (slice_get confirmed n) true)
