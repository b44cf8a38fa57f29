-- The block that a resync copies next.
use Rattle.std.specs.Prelude.{ℕ, Bool, not, List, length, filter, find, Option}
use Rattle.std.specs.List.{list_any}
use Rattle.blocks.specs.Ranges.{below, is_between}
use Rattle.bitmap.specs.Marks.{marked}
use Rattle.overlap.specs.Holdings.{Holding}

-- whether no interval covers the block
abbrev pub is_free : List Holding → ℕ → Bool
is_free held block = not (list_any (λ h. is_between h.first h.count block) held)

-- the lowest marked block that no interval covers
abbrev pub next_block : List Bool → List Holding → Option ℕ
next_block marks held = find (is_free held) (filter (marked marks) (below (length marks)))
