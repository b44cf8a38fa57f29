-- Writes by rising number, and a change of one of them.
use Rattle.std.specs.Prelude.{ℕ, ◌≡◌, ◌<◌, true, suc, ◌≤◌, ◌==◌, Bool, not, if◌then◌else◌, List, [], ◌∷◌, filter, find, map, Option, Some, None, false}
use Rattle.transferlog.specs.Writes.{LogWrite, is_released, is_waiting, sending, answering, storing, failing, unlinking}
use Rattle.transferlog.specs.declared.write.Change.{Change}
use Rattle.transferlog.specs.declared.write.Change.TheVariants as change

-- the writes, the number that the next one has, and for how many more there is room
pub record RingState : Type 0 where
  pub writes : List LogWrite
  pub next : ℕ
  pub spare : ℕ

-- whether the write has this number
abbrev pub has_number : ℕ → LogWrite → Bool
has_number number w = w.number == number

-- the write with this number
abbrev pub write_at : ℕ → List LogWrite → Option LogWrite
write_at number writes = find (has_number number) writes

-- changes the write with this number, and no other
abbrev pub on : ℕ → (LogWrite → LogWrite) → LogWrite → LogWrite
on number f w = if has_number number w then f w else w

-- the writes with a change to one of them
abbrev pub with_change : ℕ → (LogWrite → LogWrite) → List LogWrite → List LogWrite
with_change number f writes = map (on number f) writes

-- the writes without one of them
abbrev pub without : ℕ → List LogWrite → List LogWrite
without number writes = filter (λ w. not (has_number number w)) writes

-- a write after a change
abbrev pub changed : Change → LogWrite → LogWrite
changed (change.Sent answers) = sending answers
changed change.Answered = answering
changed change.OnDisk = storing
changed change.Failed = failing
changed change.Unlinked = unlinking

-- the numbers rise from this one on
abbrev pub Rises : ℕ → List LogWrite → Type 0
Rises low [] = Unit {0}
Rises low (w ∷ ws) = (low ≤ w.number) × Rises (suc w.number) ws

-- each of these writes satisfies `P`
abbrev pub Each : (LogWrite → Type 0) → List LogWrite → Type 0
Each P [] = Unit {0}
Each P (w ∷ ws) = P w × Each P ws

-- given that all up to `acknowledged_through` are acknowledged: if the write is released, its number is at least `number`
abbrev pub ReleasedFrom : ℕ → ℕ → LogWrite → Type 0
ReleasedFrom acknowledged_through number w = is_released acknowledged_through w ≡ true → number ≤ w.number

-- given that all up to `acknowledged_through` are acknowledged: if the write is released, its number is below `number`
abbrev pub ReleasedBelow : ℕ → ℕ → LogWrite → Type 0
ReleasedBelow acknowledged_through number w = is_released acknowledged_through w ≡ true → w.number < number

-- whether there is a write, and it is not answered
abbrev pub is_unanswered : Option LogWrite → Bool
is_unanswered None = false
is_unanswered (Some w) = not w.answered

-- whether there is a write, and it waits for the local disk
abbrev pub is_waiting_at : Option LogWrite → Bool
is_waiting_at None = false
is_waiting_at (Some w) = is_waiting w

-- if the write waits for the local disk, its number is at least this one
abbrev pub WaitsFrom : ℕ → LogWrite → Type 0
WaitsFrom number w = is_waiting w ≡ true → number ≤ w.number
