-- What the words of a line stand for.
use Rattle.model.specs.Status as model
use Rattle.status_lines.specs.declared.words.LinkState.{LinkState}
use Rattle.status_lines.specs.declared.words.LinkState.TheVariants as link
use Rattle.status_lines.specs.declared.words.Role.{Role}
use Rattle.status_lines.specs.declared.words.Role.TheVariants as role
use Rattle.status_lines.specs.declared.words.DiskState.{DiskState}
use Rattle.status_lines.specs.declared.words.DiskState.TheVariants as disk
use Rattle.status_lines.specs.declared.words.Words.{Words}

-- the state of an end
abbrev pub link_of : LinkState → model.LinkState
link_of link.StandAlone = model.StandAlone
link_of link.WFReportParams = model.WFReportParams
link_of link.Connected = model.Connected
link_of link.SyncSource = model.SyncSource
link_of link.SyncTarget = model.SyncTarget

-- a node's role
abbrev pub role_of : Role → model.Role
role_of role.Primary = model.Primary
role_of role.Secondary = model.Secondary
role_of role.Unknown = model.Unknown

-- the state of a disk
abbrev pub disk_of : DiskState → model.DiskState
disk_of disk.UpToDate = model.UpToDate
disk_of disk.Consistent = model.Consistent
disk_of disk.Inconsistent = model.Inconsistent
disk_of disk.DUnknown = model.DUnknown

-- all of them
abbrev pub words_of : Words → model.Words
words_of w = record {
  link = link_of w.link;
  own_role = role_of w.own_role;
  other_role = role_of w.other_role;
  own_disk = disk_of w.own_disk;
  other_disk = disk_of w.other_disk;
}
