-- The generation identifiers of a disk and its flags, as DRBD's tools print them.
use Rattle.std.specs.Prelude.{ℕ, ◌^◌, ◌-◌, List, ◌++◌, Bool, true, false, ◌&&◌, not, [], codes, is_some, Option}
use Rattle.std.specs.Fmt.{digits, format_spec, padded_integral}
use Rattle.std.specs.Io.KnownBytes.{Appends}
use Rattle.image_commands.specs.declared.generation_line.GenerationLine.{GenerationLine}
use Rattle.metadata.specs.declared.identifiers.Identifiers.{Identifiers}

-- an identifier: 16 hexadecimal digits, zeros first
abbrev pub identifier_text : ℕ → List ℕ
identifier_text n = padded_integral (format_spec 32 0 4 16 (2 ^ 64 - 1)) false [] (digits 16 true n)

-- a flag
abbrev pub flag_text : Bool → List ℕ
flag_text true = codes "1"
flag_text false = codes "0"

-- what is printed of metadata: a disk was a primary's now if its server has not ended as it was told to, and it was up to date if it was a primary's
abbrev pub line_of : Identifiers → GenerationLine
line_of identifiers = record {
  tuple = identifiers.tuple;
  is_consistent = identifiers.is_consistent;
  was_up_to_date = identifiers.is_primary && identifiers.is_consistent;
  is_primary = identifiers.is_primary && not (is_some identifiers.clean_end);
}

-- the current identifier, that of the bitmap, and two historical ones
abbrev pub tuple_text : GenerationLine → List ℕ
tuple_text line =
    identifier_text line.tuple.current ++ codes ":" ++ identifier_text line.tuple.bitmap ++ codes ":" ++ identifier_text line.tuple.first_historical
    ++ codes ":" ++ identifier_text line.tuple.second_historical

-- these, and seven flags: the data are consistent, they were up to date, the node was primary; and four that are off: connected, setting all
-- bits, the peer outdated, a crashed primary
abbrev pub generation_text : GenerationLine → List ℕ
generation_text line =
    tuple_text line ++ codes ":" ++ flag_text line.is_consistent ++ codes ":" ++ flag_text line.was_up_to_date ++ codes ":" ++ flag_text line.is_primary
    ++ codes ":0:0:0:0"

-- the line of some metadata was printed, and nothing else
abbrev pub HasPrinted : Option (List ℕ) → Option (List ℕ) → Type 0
HasPrinted before after = (identifiers : Identifiers) × Appends before after (generation_text (line_of identifiers) ++ codes "\n")

-- the line of some metadata was printed between two texts
abbrev pub HasExplained : Option (List ℕ) → Option (List ℕ) → Type 0
HasExplained before after = (identifiers : Identifiers) × (head : List ℕ) × (tail : List ℕ)
    × Appends before after (head ++ (generation_text (line_of identifiers) ++ tail))
