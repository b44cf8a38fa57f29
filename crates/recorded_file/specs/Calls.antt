-- The calls of a file.
use Rattle.std.specs.Prelude.{ℕ, List, [], ◌∷◌, slice_index}

-- A call that succeeded: which call, 0 for a write and 1 for a read, the first block, and the bytes that the file took or gave.
abbrev pub Event : Type 0
Event = ℕ × ℕ × List ℕ

abbrev pub event_of : List ℕ → List ℕ → Event
event_of numbers bytes = (slice_index numbers 0, slice_index numbers 1, bytes)

-- the file took these bytes, from this block on
abbrev pub written : ℕ → List ℕ → Event
written first bytes = (0, first, bytes)

-- it gave them
abbrev pub given : ℕ → List ℕ → Event
given first bytes = (1, first, bytes)

-- the path that was noted, none if there is no note
abbrev pub path_in : List Event → List ℕ
path_in [] = []
path_in (e ∷ earlier) = e.2

-- a file as contracts see it before its first call: the path at which it was opened, none if that is not known
pub record FilePath : Type 0 where
  pub path : List ℕ

-- a file as contracts see it: its path, and its calls that succeeded, the newest first
pub record FileCalls : Type 0 where
  pub path : List ℕ
  pub events : List Event
