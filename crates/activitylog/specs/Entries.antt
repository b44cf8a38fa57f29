-- The entries of the cache, as active extents.
use Rattle.std.specs.Prelude.{ℕ, ◌==◌, List, [], ◌∷◌, map, Option, Some, None, if◌then◌else◌}
use Rattle.activitylog.specs.Activity.{Active, has_idle}

-- the active extents in the entries
abbrev pub active_of : List (ℕ × ℕ) → List Active
active_of entries = map (λ e. record { extent = e.0; writes = e.1 }) entries

-- the least recently begun extent without an unreleased write
abbrev pub oldest_idle : List Active → Option ℕ
oldest_idle [] = None
oldest_idle (a ∷ active) = if has_idle active then oldest_idle active else if a.writes == 0 then Some a.extent else None
