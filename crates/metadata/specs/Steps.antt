-- What each call changes of what a file says: nothing but what is named here.
use Rattle.std.specs.Prelude.{ℕ, ◌≡◌, ◌≢◌, ◌⊎◌, ◌+◌, ◌<◌, ◌≤◌, true, false, List, length, Ok}
use Rattle.metadata.specs.declared.layout.TheConstants.{MAX_EXTENTS, MARKS_AT}
use Rattle.metadata.specs.declared.identifiers.Identifiers.{Identifiers}
use Rattle.metadata.specs.Says.{header_bytes, selected_in, saved_bytes, entered_in, marked_in, opened_identifiers}
use Rattle.metadata.specs.State.{is_entered}

-- the same length, header and identifiers, and so the same header and identifiers for an open
pub record SameFront (old new : List ℕ) : Type 0 where
  pub size : length new ≡ length old
  pub header : header_bytes new ≡ header_bytes old
  pub selected : selected_in new ≡ selected_in old
  pub saved : saved_bytes new ≡ saved_bytes old

-- the same extents are entered
abbrev pub SameEntries : List ℕ → List ℕ → Type 0
SameEntries old new = (x : ℕ) → x < MAX_EXTENTS → entered_in new x ≡ entered_in old x

-- the same blocks are marked
abbrev pub SameMarks : List ℕ → List ℕ → Type 0
SameMarks old new = (b : ℕ) → marked_in new b ≡ marked_in old b

-- only whether this extent is entered may have changed
pub record OnlyEntry (extent : ℕ) (old new : List ℕ) : Type 0 where
  pub front : SameFront old new
  pub others : (x : ℕ) → x < MAX_EXTENTS → x ≢ extent → entered_in new x ≡ entered_in old x
  pub marks : SameMarks old new

-- the same header, identifiers and marks, and each extent that was entered still is
pub record MoreEntries (old new : List ℕ) : Type 0 where
  pub front : SameFront old new
  pub entries : (x : ℕ) → x < MAX_EXTENTS → entered_in old x ≡ true → entered_in new x ≡ true
  pub marks : SameMarks old new

-- the same header, identifiers and marks, and each extent that is entered in memory stays as it was in the file
pub record MayEnter (memory old new : List ℕ) : Type 0 where
  pub front : SameFront old new
  pub entries : (x : ℕ) → x < MAX_EXTENTS → is_entered memory x ≡ true → entered_in new x ≡ entered_in old x
  pub marks : SameMarks old new

-- more extents are entered, and so is each before the end that is not entered in memory
pub record EntersMissing (memory : List ℕ) (end : ℕ) (old new : List ℕ) : Type 0 where
  pub more : MoreEntries old new
  pub missing : (x : ℕ) → x < end → is_entered memory x ≡ false → entered_in new x ≡ true

-- only the marks of these blocks may have changed
pub record OnlyMarks (first count : ℕ) (old new : List ℕ) : Type 0 where
  pub front : SameFront old new
  pub entries : SameEntries old new
  pub below : (b : ℕ) → b < first → marked_in new b ≡ marked_in old b
  pub above : (b : ℕ) → first + count ≤ b → marked_in new b ≡ marked_in old b

-- the identifiers are the old ones or these, either as an open finds them, and nothing else has changed
pub record OnlyIdentifiers (identifiers : Identifiers) (old new : List ℕ) : Type 0 where
  pub size : length new ≡ length old
  pub header : header_bytes new ≡ header_bytes old
  pub either : (opened_identifiers new ≡ opened_identifiers old) ⊎ (opened_identifiers new ≡ Ok identifiers)
  pub entries : SameEntries old new
  pub marks : SameMarks old new

-- the other slot counts, and the file goes on behind the entries
pub record HasOther (other : ℕ) (file : List ℕ) : Type 0 where
  pub selected : selected_in file + other ≡ 1
  pub size : MARKS_AT ≤ length file

-- nothing has changed but the slots and the selector
pub record SameBehind (old new : List ℕ) : Type 0 where
  pub size : length new ≡ length old
  pub header : header_bytes new ≡ header_bytes old
  pub entries : SameEntries old new
  pub marks : SameMarks old new

-- the slot that counts is the old one or has these bytes, and nothing else has changed
pub record OnlySlot (slot old new : List ℕ) : Type 0 where
  pub behind : SameBehind old new
  pub either : (saved_bytes new ≡ saved_bytes old) ⊎ (saved_bytes new ≡ slot)

-- this slot counts now and has these bytes, and nothing else has changed
pub record IsReplaced (other : ℕ) (slot old new : List ℕ) : Type 0 where
  pub behind : SameBehind old new
  pub selected : selected_in new ≡ other
  pub saved : saved_bytes new ≡ slot

-- a block of the range
pub record IsIn (first count b : ℕ) : Type 0 where
  pub from : first ≤ b
  pub below : b < first + count

-- nothing has changed
abbrev pub Unchanged : List ℕ → List ℕ → Type 0
Unchanged old new = new ≡ old
