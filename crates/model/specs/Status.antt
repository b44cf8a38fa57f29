-- The two status lines of a pair, as functions of the history. The words are DRBD's.
use Rattle.std.specs.Prelude.{ℕ, suc, ◌*◌, nat_lt, nat_le, Bool, true, false, ◌&&◌, ◌||◌, not, if◌then◌else◌, length, map, filter}
use Rattle.std.specs.List.{list_any}
use Rattle.blocks.specs.declared.settings.Protocol.{Protocol}
use Rattle.model.specs.Stream.{is_write, has_blocks, last_epoch, items_of_epoch, placed, below}
use Rattle.model.specs.Primary.{PrimaryHistory, PrimaryConnection, primary_connection, is_established, items_sent, is_answered_by, barrier_acknowledged}
use Rattle.model.specs.Primary.{open_writes, resync_runs}
use Rattle.model.specs.Primary.{marked_blocks}
use Rattle.model.specs.Secondary.{SecondaryHistory, SecondaryConnection, secondary_connection, pending, whole}

-- how many writes of the established connection were sent and are not answered
abbrev pub unanswered : PrimaryHistory → ℕ
unanswered h =
    let c = primary_connection h in
    if is_established c then length
    (filter (λ entry. is_write entry.1 && (nat_lt entry.0 (items_sent c) && not (is_answered_by h.settings.protocol c entry.0 entry.1)))
    (placed c.stream)) else 0

-- how many accepted writes are neither completed nor failed
abbrev pub incomplete : PrimaryHistory → ℕ
incomplete h = length (open_writes h)

-- how many epochs of the established connection have a write or a resync item, and no BARRIER_ACK taken
abbrev pub open_epochs : PrimaryHistory → ℕ
open_epochs h =
    let c = primary_connection h in
    if is_established c
    then length (filter (λ epoch. list_any (λ entry. has_blocks entry.1) (items_of_epoch c.stream epoch) && not (barrier_acknowledged c epoch))
    (map suc (below (last_epoch c.stream))))
    else 0

-- the marked blocks, in KiB
abbrev pub out_of_sync : PrimaryHistory → ℕ
out_of_sync h = 4 * length (marked_blocks h)

-- The words of a line. The first is the state of the end, `cs`; the second the other node's role, as this end knows it;
-- the last two are the states of this node's disk and the other's.
pub data LinkState : Type 0 where
  StandAlone : LinkState
  WFReportParams : LinkState
  Connected : LinkState
  SyncSource : LinkState
  SyncTarget : LinkState

-- roles as `/proc/drbd` names them (DRBD User's Guide, "Roles")
pub data Role : Type 0 where
  Primary : Role
  Secondary : Role
  Unknown : Role

-- disk states as `/proc/drbd` names them (DRBD User's Guide, "Disk states")
pub data DiskState : Type 0 where
  UpToDate : DiskState
  Consistent : DiskState
  Inconsistent : DiskState
  DUnknown : DiskState

-- the words of a status line (DRBD User's Guide, "Connection states", "Roles", "Disk states")
pub record Words : Type 0 where
  pub link : LinkState
  pub own_role : Role
  pub other_role : Role
  pub own_disk : DiskState
  pub other_disk : DiskState

-- the primary's line
pub record PrimaryLine : Type 0 where
  pub words : Words
  pub protocol : Protocol
  pub pe : ℕ
  pub ap : ℕ
  pub ep : ℕ
  pub oos : ℕ

-- the primary's words, by the state of its connection
abbrev pub primary_words : PrimaryConnection → Words
primary_words c =
    if c.closed then record { link = StandAlone; own_role = Primary; other_role = Unknown; own_disk = UpToDate; other_disk = DUnknown }
    else if not c.begun then record { link = WFReportParams; own_role = Primary; other_role = Unknown; own_disk = UpToDate; other_disk = DUnknown }
    else if resync_runs c then record { link = SyncSource; own_role = Primary; other_role = Secondary; own_disk = UpToDate; other_disk = Inconsistent }
    else record { link = Connected; own_role = Primary; other_role = Secondary; own_disk = UpToDate; other_disk = UpToDate }

-- the primary's status line (DRBD User's Guide, "Performance indicators")
abbrev pub primary_line : PrimaryHistory → PrimaryLine
primary_line h = record {
  words = primary_words (primary_connection h);
  protocol = h.settings.protocol;
  pe = unanswered h;
  ap = incomplete h;
  ep = open_epochs h;
  oos = out_of_sync h;
}

-- The secondary's hello is done when it has taken three frames and sent three.
abbrev pub hello_is_done : SecondaryConnection → Bool
hello_is_done c = nat_le 3 (length c.taken) && nat_le 3 c.pushed

-- The secondary's line: whether it may be used as it is, and how far it is whole, are its last fields.
pub record SecondaryLine : Type 0 where
  pub words : Words
  pub protocol : Protocol
  pub pending : ℕ
  pub usable : Bool
  pub whole : ℕ

-- the secondary's words, by whether it is consistent and the state of its connection
abbrev pub secondary_words : Bool → SecondaryConnection → Words
secondary_words consistent c =
    if c.closed || not (hello_is_done c)
    then record {
      link = if c.closed then StandAlone else WFReportParams;
      own_role = Secondary;
      other_role = Unknown;
      own_disk = if consistent then Consistent
          else Inconsistent;
      other_disk = DUnknown;
    }
    else if consistent then record { link = Connected; own_role = Secondary; other_role = Primary; own_disk = UpToDate; other_disk = UpToDate }
    else record { link = SyncTarget; own_role = Secondary; other_role = Primary; own_disk = Inconsistent; other_disk = UpToDate }

-- the secondary's status line
abbrev pub secondary_line : SecondaryHistory → SecondaryLine
secondary_line h = record {
  words = secondary_words h.consistent (secondary_connection h);
  protocol = h.settings.protocol;
  pending = length (pending (secondary_connection h));
  usable = h.consistent;
  whole = whole h;
}

-- Lines for worked examples. The line of a primary that is connected and in sync.
abbrev pub linked_primary : Protocol → ℕ → ℕ → ℕ → ℕ → PrimaryLine
linked_primary protocol pe ap ep oos = record {
  words = record { link = Connected; own_role = Primary; other_role = Secondary; own_disk = UpToDate; other_disk = UpToDate };
  protocol = protocol;
  pe = pe;
  ap = ap;
  ep = ep;
  oos = oos;
}

-- the line of a secondary that is connected and in sync, and whole to this epoch
abbrev pub linked_secondary : Protocol → ℕ → ℕ → SecondaryLine
linked_secondary protocol pending whole = record {
  words = record { link = Connected; own_role = Secondary; other_role = Primary; own_disk = UpToDate; other_disk = UpToDate };
  protocol = protocol;
  pending = pending;
  usable = true;
  whole = whole;
}

-- the line of a secondary that is the target of a resync, and whole to this epoch of its stream
abbrev pub target_secondary : Protocol → ℕ → ℕ → SecondaryLine
target_secondary protocol pending whole = record {
  words = record { link = SyncTarget; own_role = Secondary; other_role = Primary; own_disk = Inconsistent; other_disk = UpToDate };
  protocol = protocol;
  pending = pending;
  usable = false;
  whole = whole;
}

-- the line of a primary without a connection
abbrev pub lone_primary : Protocol → ℕ → ℕ → ℕ → ℕ → PrimaryLine
lone_primary protocol pe ap ep oos = record {
  words = record { link = StandAlone; own_role = Primary; other_role = Unknown; own_disk = UpToDate; other_disk = DUnknown };
  protocol = protocol;
  pe = pe;
  ap = ap;
  ep = ep;
  oos = oos;
}
