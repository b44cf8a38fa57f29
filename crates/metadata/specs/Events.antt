-- The calls of a file, and what a file that keeps what was written gives.
use Rattle.std.proofs.Common.{inl, inr}
use Rattle.std.specs.Prelude.{◌≡◌, ◌⊎◌, ◌≤◌, ℕ, zero, suc, ◌+◌, ◌-◌, ◌==◌, nat_le, Bool, true, ◌&&◌, List, [], ◌∷◌, ◌++◌, length, take, drop, replicate}
use Rattle.std.specs.Prelude.{slice_index, bytes_eq, Option, Some, None}
use Rattle.metadata.specs.Calls.{Torn, Cut}

-- A call with its answer: which call, an offset or a length, and the bytes that the file took or gave.
abbrev pub Event : Type 0
Event = ℕ × ℕ × List ℕ

abbrev pub event_of : List ℕ → List ℕ → Event
event_of numbers bytes = (slice_index numbers 0, slice_index numbers 1, bytes)

-- a write, by its offset and its length, or a change of the length
abbrev pub Step : Type 0
Step = (ℕ × ℕ) ⊎ ℕ

abbrev pub wrote : ℕ → ℕ → Step
wrote at n = inl (at, n)

abbrev pub resized : ℕ → Step
resized n = inr n

-- What the file was told to hold; what a crash after the last sync and before the next call would leave, if there was a sync; the
-- steps since; and whether each answer so far was that of a file which keeps what was written.
pub record FileState : Type 0 where
  pub seen : List ℕ
  pub synced : Option (List ℕ)
  pub steps : List Step
  pub faithful : Bool

-- the file cut or filled up with zeros to this length
unfoldable pub padded : List ℕ → ℕ → List ℕ
padded file len = take len (file ++ replicate (len - length file) 0)

-- the file after a write
unfoldable pub overlaid : List ℕ → ℕ → List ℕ → List ℕ
overlaid file at bytes = padded file at ++ bytes ++ drop (at + length bytes) file

-- the file has these bytes at this offset
unfoldable pub agrees : List ℕ → ℕ → List ℕ → Bool
agrees file at bytes = nat_le (at + length bytes) (length file) && bytes_eq (take (length bytes) (drop at file)) bytes

-- 0 a write, 1 a write that failed, 2 a read, 3 a new length, 4 a new length that failed, 5 a sync, 6 and more a length that was read.
-- A write that failed is not seen, and may still reach the disk.
abbrev pub after_call : ℕ → ℕ → List ℕ → FileState → FileState
after_call zero at bytes s = record s { seen = overlaid s.seen at bytes; steps = wrote at (length bytes) ∷ s.steps }
after_call (suc zero) at bytes s = record s { steps = wrote at (length bytes) ∷ s.steps }
after_call (suc (suc zero)) at bytes s = record s { faithful = s.faithful && agrees s.seen at bytes }
after_call (suc (suc (suc zero))) len bytes s = record s { seen = padded s.seen len; steps = resized len ∷ s.steps }
after_call (suc (suc (suc (suc zero)))) len bytes s = record s { steps = resized len ∷ s.steps }
after_call (suc (suc (suc (suc (suc zero))))) n bytes s = record s { synced = Some s.seen; steps = [] }
after_call (suc (suc (suc (suc (suc (suc more)))))) len bytes s = record s { faithful = s.faithful && (len == length s.seen) }

-- A file that held `opening`, after these calls, the newest first. What the disk had of it is not known before the first sync.
abbrev pub replay : List ℕ → List Event → FileState
replay opening [] = record { seen = opening; synced = None; steps = []; faithful = true }
replay opening (e ∷ earlier) = after_call e.0 e.1 e.2 (replay opening earlier)

-- what a crash may make of a step
abbrev pub Takes : Step → List ℕ → List ℕ → Type 0
Takes (inl write) old new = Torn write.0 write.1 old new
Takes (inr n) old new = Cut n old new

-- what the steps since the sync may make of what was synced
abbrev pub Reaches : Option (List ℕ) → List Step → List ℕ → Type 0
Reaches None [] c = Unit {0}
Reaches (Some synced) [] c = c ≡ synced
Reaches synced (step ∷ earlier) c = (d : List ℕ) × Reaches synced earlier d × Takes step d c

-- what a crash may leave now
abbrev pub may_leave_of : FileState → List ℕ → Type 0
may_leave_of s c = Reaches s.synced s.steps c

-- what a crash might have left since there were t calls
abbrev pub LeftSince : List ℕ → List Event → ℕ → List ℕ → Type 0
LeftSince opening [] t c = may_leave_of (replay opening []) c
LeftSince opening (e ∷ earlier) t c = may_leave_of (replay opening (e ∷ earlier)) c ⊎ ((t ≤ length earlier) × LeftSince opening earlier t c)
