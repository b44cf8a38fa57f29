-- The bytes of the status lines.
use Rattle.std.specs.Prelude.{ℕ, List, ◌++◌, Bool, true, false, codes}
use Rattle.std.specs.Fmt.{decimal}
use Rattle.blocks.specs.declared.settings.Protocol.{Protocol}
use Rattle.blocks.specs.declared.settings.Protocol.TheVariants as protocol
use Rattle.model.specs.Status.{LinkState, StandAlone, WFReportParams, Connected, SyncSource, SyncTarget, Role, Primary, Secondary, Unknown, DiskState, UpToDate}
use Rattle.model.specs.Status.{Consistent, Inconsistent, DUnknown, Words, PrimaryLine, SecondaryLine}

-- the state of an end
abbrev pub link_text : LinkState → List ℕ
link_text StandAlone = codes "StandAlone"
link_text WFReportParams = codes "WFReportParams"
link_text Connected = codes "Connected"
link_text SyncSource = codes "SyncSource"
link_text SyncTarget = codes "SyncTarget"

-- a node's role
abbrev pub role_text : Role → List ℕ
role_text Primary = codes "Primary"
role_text Secondary = codes "Secondary"
role_text Unknown = codes "Unknown"

-- the state of a disk
abbrev pub disk_text : DiskState → List ℕ
disk_text UpToDate = codes "UpToDate"
disk_text Consistent = codes "Consistent"
disk_text Inconsistent = codes "Inconsistent"
disk_text DUnknown = codes "DUnknown"

-- a replication protocol
abbrev pub protocol_text : Protocol → List ℕ
protocol_text protocol.A = codes "A"
protocol_text protocol.B = codes "B"
protocol_text protocol.C = codes "C"

-- whether the data may be used
abbrev pub usable_text : Bool → List ℕ
usable_text true = codes "Yes"
usable_text false = codes "No"

-- the words of a line: the end, both roles and both disks
abbrev pub words_text : Words → List ℕ
words_text w =
    codes "cs:" ++ link_text w.link ++ codes " ro:" ++ role_text w.own_role ++ codes "/" ++ role_text w.other_role ++ codes " ds:" ++ disk_text w.own_disk
    ++ codes "/" ++ disk_text w.other_disk

-- the primary's numbers
abbrev pub counts_text : PrimaryLine → List ℕ
counts_text line = codes " pe:" ++ decimal line.pe ++ codes " ap:" ++ decimal line.ap ++ codes " ep:" ++ decimal line.ep ++ codes " oos:" ++ decimal line.oos

-- the primary's line
abbrev pub primary_text : PrimaryLine → List ℕ
primary_text line = words_text line.words ++ codes " pr:" ++ protocol_text line.protocol ++ counts_text line

-- the secondary's numbers, and whether its data may be used
abbrev pub usage_text : SecondaryLine → List ℕ
usage_text line = codes " pending:" ++ decimal line.pending ++ codes " use:" ++ usable_text line.usable ++ codes " whole:" ++ decimal line.whole

-- the secondary's line
abbrev pub secondary_text : SecondaryLine → List ℕ
secondary_text line = words_text line.words ++ codes " pr:" ++ protocol_text line.protocol ++ usage_text line
