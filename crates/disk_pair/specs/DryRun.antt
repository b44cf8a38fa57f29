-- What a dry run prints.
use Rattle.std.specs.Prelude.{ℕ, ◌+◌, ◌*◌, ◌/◌, ◌%◌, min, List, ◌++◌, Option, codes}
use Rattle.std.specs.Fmt.{decimal}
use Rattle.std.specs.Io.KnownBytes.{Appends}

-- how many MiB these blocks are, rounded up
abbrev pub mebibytes : ℕ → ℕ
mebibytes blocks = blocks * 4096 / 1048576 + min 1 (blocks * 4096 % 1048576)

-- how much a start would copy
abbrev pub to_copy_text : ℕ → List ℕ
to_copy_text blocks = codes "to copy: " ++ decimal blocks ++ codes " blocks, " ++ decimal (mebibytes blocks) ++ codes " MiB\n"

-- it was printed how much a start would copy, and nothing else
abbrev pub HasTold : Option (List ℕ) → Option (List ℕ) → Type 0
HasTold before after = (blocks : ℕ) × Appends before after (to_copy_text blocks)
