-- Frames in a sequence of bytes, connection by connection.
use Rattle.std.specs.Prelude.{ℕ, ◌≡◌, ◌==◌, ◌<◌, ◌≤◌, nat_lt, if◌then◌else◌, List, [], ◌∷◌, ◌++◌, length}
use Rattle.std.specs.List.{flat_map, AllByRecursion}
use Rattle.packets.specs.Reading.{header_at}
use Rattle.packets.specs.Cutting.{cut_after, IsCut}
use Rattle.link.specs.Past.{Past}

-- frames, one after the other
unfoldable pub joined : List (List ℕ) → List ℕ
joined frames = flat_map (λ frame. frame) frames

-- no whole frame can be cut off the front of the bytes: they have less than a header, or less than it says
abbrev pub BeginsNoCut : List ℕ → Type 0
BeginsNoCut bytes = 8 ≤ length bytes → length bytes < cut_after (header_at bytes)

-- the bytes are whole frames, and then this rest
pub record IsCarried (bytes : List ℕ) (frames : List (List ℕ)) (rest : List ℕ) : Type 0 where
  pub bytes_are : bytes ≡ joined frames ++ rest
  pub cuts : AllByRecursion IsCut frames

-- what went past on an earlier connection; nothing if there was none with this number
abbrev pub past_on : ℕ → List Past → List (List ℕ)
past_on number [] = []
past_on number (before ∷ past) = if before.number == number then before.frames else past_on number past

-- what went past on the connection of this number, the present one or one of those before
abbrev pub frames_on : ℕ → Past → List Past → List (List ℕ)
frames_on number present past = if present.number == number then present.frames else past_on number past

-- the numbers of the connections rise, up to the present one
abbrev pub IsRising : List Past → ℕ → Type 0
IsRising [] number = Unit {0}
IsRising (before ∷ past) number = (before.number < number) × AllByRecursion (λ after. before.number < after.number) past × IsRising past number

-- how many bytes a frame has that begins with these, as far as they tell: those of a header until that is there
unfoldable pub whole_length : List ℕ → ℕ
whole_length bytes = if nat_lt (length bytes) 8 then 8 else cut_after (header_at bytes)
