-- What clauses see of the metadata of a disk, and what its file says meanwhile.
use Rattle.std.specs.Prelude.{ℕ, ◌≡◌, ◌≢◌, ◌⊎◌, ◌+◌, ◌==◌, ◌<◌, ◌≤◌, Bool, true, false, not, List, length, take, slice_index, Option, None, Ok, Err}
use Rattle.blocks.specs.declared.block.TheConstants.{MAX_DEVICE_BLOCKS}
use Rattle.metadata.specs.declared.layout.TheConstants.{MARKS_AT, MAX_EXTENTS, EXTENTS_AT, SELECTOR_AT}
use Rattle.metadata.specs.declared.metadata.TheConstants.{MAX_MARKS}
use Rattle.metadata.specs.declared.header.Header.{Header}
use Rattle.metadata.specs.declared.identifiers.Identifiers.{Identifiers}
use Rattle.metadata.specs.declared.fault.FileFault.{FileFault}
use Rattle.metadata.specs.declared.fault.MetadataFault.{MetadataFault}
use Rattle.metadata.specs.declared.fault.MetadataFault.TheVariants.{File, NoMemory, NotMetadata}
use Rattle.metadata.specs.Says.{header_bytes, slot_bytes, selected_in, entered_in, marked_in, extents_of, opened_header, opened_identifiers}

-- the file, and what it says as far as it is in memory: a byte for each extent, not 0 if it is entered
pub record MetadataState (F : Type 0) : Type 0 where
  pub file : F
  pub header : Header
  pub identifiers : Identifiers
  pub entries : List ℕ
  pub is_broken : Bool

-- whether the extent is entered
abbrev pub is_entered : List ℕ → ℕ → Bool
is_entered entries extent = not (slice_index entries extent == 0)

-- a file that an open takes, with this header and these identifiers
pub record Opens (h : Header) (v : Identifiers) (file : List ℕ) : Type 0 where
  pub size : length file ≡ MARKS_AT + h.blocks
  pub header : opened_header None file ≡ Ok h
  pub identifiers : opened_identifiers file ≡ Ok v

-- a file that an open takes, in which each extent is entered that is here
pub record Says (h : Header) (v : Identifiers) (slot : ℕ) (entries : List ℕ) (file : List ℕ) : Type 0 where
  pub opens : Opens h v file
  pub selected : selected_in file ≡ slot
  pub entered : (x : ℕ) → x < length entries → is_entered entries x ≡ true → entered_in file x ≡ true

-- The file says what is in memory, and whatever a crash leaves says it too, but that it may have more extents entered.
pub record IsKept (seen : List ℕ) (may_leave : List ℕ → Type 0) (header : Header) (identifiers : Identifiers) (selected : ℕ) (entries : List ℕ) : Type 0 where
  pub says : Says header identifiers selected entries seen
  pub exactly : (x : ℕ) → x < length entries → entered_in seen x ≡ is_entered entries x
  pub left : (c : List ℕ) → may_leave c → Says header identifiers selected entries c

-- Invariant: sizes hold whatever the file did, and the file is kept as long as no call failed and each read was faithful.
pub record IsMetadata (faithful : Bool) (seen : List ℕ) (may_leave : List ℕ → Type 0) (header : Header) (identifiers : Identifiers) (selected : ℕ) (entries : List ℕ)
    (is_broken : Bool) : Type 0 where
  pub sized : length entries ≡ extents_of header.blocks
  pub few : header.blocks ≤ MAX_DEVICE_BLOCKS
  pub slot : selected ≤ 1
  pub kept : is_broken ≡ false → faithful ≡ true → IsKept seen may_leave header identifiers selected entries

-- this extent is entered, and no other entry has changed
pub record WithEntry (extent : ℕ) (old new : List ℕ) : Type 0 where
  pub size : length new ≡ length old
  pub here : is_entered new extent ≡ true
  pub others : (x : ℕ) → x ≢ extent → is_entered new x ≡ is_entered old x

-- this extent is not entered, and no other entry has changed
pub record WithoutEntry (extent : ℕ) (old new : List ℕ) : Type 0 where
  pub size : length new ≡ length old
  pub here : is_entered new extent ≡ false
  pub others : (x : ℕ) → x ≢ extent → is_entered new x ≡ is_entered old x

-- each extent from this one on and before the end is entered, or each is not
abbrev pub EachEntered : List ℕ → Bool → ℕ → ℕ → Type 0
EachEntered entries entered from end = (x : ℕ) → from ≤ x → x < end → is_entered entries x ≡ entered

-- extents that are not entered, as many as one write enters, behind others that are
pub record IsMissing (entries : List ℕ) (from first count : ℕ) : Type 0 where
  pub behind : from ≤ first
  pub some : 0 < count
  pub few : count ≤ MAX_MARKS
  pub inside : first + count ≤ length entries
  pub skipped : EachEntered entries true from first
  pub missing : EachEntered entries false first (first + count)

-- The file is one that an open takes and says what is in memory, and so is whatever a crash leaves, but that it may have more
-- extents entered.
pub record Stands (header : Header) (identifiers : Identifiers) (entries seen : List ℕ) (may_leave : List ℕ → Type 0) : Type 0 where
  pub opens : Opens header identifiers seen
  pub exactly : (x : ℕ) → x < length entries → entered_in seen x ≡ is_entered entries x
  pub left : (c : List ℕ) → may_leave c → Opens header identifiers c
  pub entered : (c : List ℕ) → may_leave c → (x : ℕ) → x < length entries → is_entered entries x ≡ true → entered_in c x ≡ true

-- a call of the file failed, and it was counted
pub record FileFailed (e : MetadataFault) (before now : ℕ) : Type 0 where
  pub fault : FileFault
  pub is : e ≡ File fault
  pub counted : before < now

-- why an open refuses a file of these bytes: its header, its identifiers, no memory, or a call of the file that failed
abbrev pub Refuses : Option ℕ → List ℕ → MetadataFault → ℕ → ℕ → Type 0
Refuses asked file e before now =
    (opened_header asked file ≡ Err e) ⊎ ((h : Header) × (opened_header asked file ≡ Ok h) × (opened_identifiers file ≡ Err e))
    ⊎ (e ≡ NoMemory) ⊎ FileFailed e before now

-- metadata that nobody has used yet
pub record IsCreated (header : Header) (identifiers : Identifiers) (file : List ℕ) : Type 0 where
  pub opens : Opens header identifiers file
  pub entries : (x : ℕ) → x < MAX_EXTENTS → entered_in file x ≡ false
  pub marks : (b : ℕ) → marked_in file b ≡ false

-- a file with this header and this first slot, in which all else that counts is zero
pub record IsLaidOut (len : ℕ) (top slot file : List ℕ) : Type 0 where
  pub size : length file ≡ len
  pub top_is : header_bytes file ≡ top
  pub selector : slice_index file SELECTOR_AT ≡ 0
  pub slot_is : slot_bytes 0 file ≡ slot
  pub zeros : (i : ℕ) → EXTENTS_AT ≤ i → slice_index file i ≡ 0

-- if the file begins as the header does, it is all there
abbrev pub MagicLast : ℕ → List ℕ → List ℕ → List ℕ → List ℕ → Type 0
MagicLast len top slot old new = take 8 new ≡ take 8 top → IsLaidOut len top slot new

-- nothing has changed, or no open takes the file for metadata, or it is just what was created
abbrev pub Creates : Header → Identifiers → List ℕ → List ℕ → Type 0
Creates header identifiers old new = (new ≡ old) ⊎ (opened_header None new ≡ Err NotMetadata) ⊎ IsCreated header identifiers new
