-- What went past an end of a link.
use Rattle.std.specs.Prelude.{ℕ, List, [], ◌∷◌, ◌++◌}

-- the number of a connection that is over, and the frames that went past this end on it
pub record Past : Type 0 where
  pub number : ℕ
  pub frames : List (List ℕ)

-- the frames of the present connection, and what went on those before it
pub record Went : Type 0 where
  pub frames : List (List ℕ)
  pub past : List Past

-- another frame went past
abbrev pub and_then : List ℕ → Went → Went
and_then frame went = record went { frames = went.frames ++ frame ∷ [] }

-- the connections that are over once the present one ends
abbrev pub ended : ℕ → List (List ℕ) → List Past → List Past
ended number frames past = past ++ record { number = number; frames = frames } ∷ []

-- the connection of this number is over
abbrev pub over : ℕ → Went → Went
over number went = record { frames = []; past = ended number went.frames went.past }
