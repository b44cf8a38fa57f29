-- What the bytes of a metadata file say.
use Rattle.std.specs.Prelude.{ℕ, ◌+◌, ◌/◌, ◌==◌, nat_lt, Bool, not, if◌then◌else◌, List, length, take, drop, slice_index, Option, Result, Err}
use Rattle.metadata.specs.declared.layout.TheConstants.{HEADER_BYTES, SELECTOR_AT, FIRST_SLOT_AT, SECOND_SLOT_AT, SLOT_BYTES, EXTENTS_AT, MARKS_AT}
use Rattle.metadata.specs.declared.header.Header.{Header}
use Rattle.metadata.specs.declared.identifiers.Identifiers.{Identifiers}
use Rattle.metadata.specs.declared.fault.MetadataFault.{MetadataFault}
use Rattle.metadata.specs.declared.fault.MetadataFault.TheVariants.{NotMetadata}
use Rattle.metadata.specs.Judged.{header_judged, slot_judged}

-- the bytes of the header, with its sum
abbrev pub header_bytes : List ℕ → List ℕ
header_bytes file = take HEADER_BYTES file

-- which slot counts: the first if the selector is 0
abbrev pub selected_in : List ℕ → ℕ
selected_in file = if slice_index file SELECTOR_AT == 0 then 0 else 1

-- where a slot begins
abbrev pub slot_at : ℕ → ℕ
slot_at n = if n == 0 then FIRST_SLOT_AT else SECOND_SLOT_AT

-- the bytes of a slot
abbrev pub slot_bytes : ℕ → List ℕ → List ℕ
slot_bytes n file = take SLOT_BYTES (drop (slot_at n) file)

-- the bytes of the slot that counts
abbrev pub saved_bytes : List ℕ → List ℕ
saved_bytes file = slot_bytes (selected_in file) file

-- whether the extent is entered
abbrev pub entered_in : List ℕ → ℕ → Bool
entered_in file extent = not (slice_index file (EXTENTS_AT + extent) == 0)

-- whether the block is marked
abbrev pub marked_in : List ℕ → ℕ → Bool
marked_in file block = not (slice_index file (MARKS_AT + block) == 0)

-- how many extents of 1,024 blocks a device of this many blocks has
abbrev pub extents_of : ℕ → ℕ
extents_of blocks = (blocks + 1023) / 1024

-- the header that an open finds, or why it refuses the file
abbrev pub opened_header : Option ℕ → List ℕ → Result Header MetadataFault
opened_header asked file = if nat_lt (length file) HEADER_BYTES then Err NotMetadata else header_judged asked (length file) (header_bytes file)

-- the identifiers that an open finds, or why it refuses the file
abbrev pub opened_identifiers : List ℕ → Result Identifiers MetadataFault
opened_identifiers file = slot_judged (saved_bytes file)
