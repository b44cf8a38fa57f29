-- Intervals of blocks, each with a number: which of them overlap a range, and how they change.
use Rattle.std.specs.Prelude.{ℕ, ◌≤◌, ◌≡◌, nat_lt, ◌==◌, Bool, true, not, List, [], ◌∷◌, All, Contains, Option, Some, None, min, if◌then◌else◌, filter, find}
use Rattle.std.specs.Prelude.{option_map}
use Rattle.std.specs.List.{list_any}
use Rattle.blocks.specs.Ranges.{ranges_meet}

-- an interval: the `count` blocks from `first` on, and its number
pub record Holding : Type 0 where
  pub number : ℕ
  pub first : ℕ
  pub count : ℕ

-- the interval with this number, first block and count
abbrev pub holding : ℕ → ℕ → ℕ → Holding
holding number first count = record { number = number; first = first; count = count }

-- whether the interval shares a block with the range
abbrev pub meets : ℕ → ℕ → Holding → Bool
meets first count held = ranges_meet held.first held.count first count

-- whether the number has an interval
abbrev pub is_held : ℕ → List Holding → Bool
is_held number held = list_any (λ h. h.number == number) held

-- The lowest number whose interval overlaps the range. The intervals are by rising number, so it is that of the first
-- that does.
abbrev pub conflict : ℕ → ℕ → List Holding → Option ℕ
conflict first count held = option_map (λ h. h.number) (find (meets first count) held)

-- the number's interval overlaps the range, and that of no lower number does
pub record IsLowestConflict (first count : ℕ) (held : List Holding) (number : ℕ) : Type 0 where
  pub holder : Holding
  pub holds : Contains held holder
  pub meets_it : meets first count holder ≡ true
  pub numbered : holder.number ≡ number
  pub least : All (λ h. meets first count h ≡ true → number ≤ h.number) held

-- inserts an interval, before those of higher numbers
abbrev pub holding_too : Holding → List Holding → List Holding
holding_too new [] = new ∷ []
holding_too new (h ∷ held) = if nat_lt new.number h.number then new ∷ h ∷ held else h ∷ holding_too new held

-- the intervals of all other numbers
abbrev pub without : ℕ → List Holding → List Holding
without number held = filter (λ h. not (h.number == number)) held

-- the lower of a number and one that may be missing
abbrev pub lower_of : Option ℕ → ℕ → ℕ
lower_of None number = number
lower_of (Some other) number = min other number
