-- Active extents, the most recently begun first, and how they change.
use Rattle.std.specs.Prelude.{ℕ, ◌+◌, ◌-◌, nat_lt, ◌==◌, Bool, ◌||◌, List, [], ◌∷◌, length, if◌then◌else◌}
use Rattle.std.specs.List.{list_any}

-- an active extent, and how many of its writes are not released
pub record Active : Type 0 where
  pub extent : ℕ
  pub writes : ℕ

-- how many extents may be active, and those that are, the most recently begun first
pub record ActivityState : Type 0 where
  pub slots : ℕ
  pub active : List Active

-- whether the extent is active
abbrev pub is_active : ℕ → List Active → Bool
is_active extent active = list_any (λ a. extent == a.extent) active

-- how many unreleased writes the extent has: none if it is not active
abbrev pub writes_of : ℕ → List Active → ℕ
writes_of extent [] = 0
writes_of extent (a ∷ active) = if extent == a.extent then a.writes else writes_of extent active

-- the active extents but this one
abbrev pub other_than : ℕ → List Active → List Active
other_than extent [] = []
other_than extent (a ∷ active) = if extent == a.extent then active else a ∷ other_than extent active

-- whether some active extent has no unreleased write
abbrev pub has_idle : List Active → Bool
has_idle active = list_any (λ a. a.writes == 0) active

-- the active extents but the least recently begun of those without an unreleased write
abbrev pub without_oldest_idle : List Active → List Active
without_oldest_idle [] = []
without_oldest_idle (a ∷ active) =
    if has_idle active then a ∷ without_oldest_idle active
    else if a.writes == 0 then active
    else a ∷ active

-- whether a write may begin in the extent: it is active, a slot is free, or an active extent can make room
abbrev pub can_begin : ℕ → ActivityState → Bool
can_begin extent s = (is_active extent s.active || nat_lt (length s.active) s.slots) || has_idle s.active

-- the active extents that stay when a write begins in this one
abbrev pub staying : ℕ → ActivityState → List Active
staying extent s =
    if is_active extent s.active then other_than extent s.active
    else if nat_lt (length s.active) s.slots then s.active
    else without_oldest_idle s.active

-- A write begins in the extent, which is then the most recently begun.
abbrev pub begun : ℕ → ActivityState → ActivityState
begun extent s = record s { active = record { extent = extent; writes = writes_of extent s.active + 1 } ∷ staying extent s }

-- the active extents, with one unreleased write fewer in this one
abbrev pub one_less : ℕ → List Active → List Active
one_less extent [] = []
one_less extent (a ∷ active) = if extent == a.extent then record a { writes = a.writes - 1 } ∷ active else a ∷ one_less extent active

-- a write of the extent is released
abbrev pub ended : ℕ → ActivityState → ActivityState
ended extent s = record s { active = one_less extent s.active }
