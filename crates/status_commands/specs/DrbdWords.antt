-- DRBD 9's words for the state of a connection, and for what is sent over it.
use Rattle.std.specs.Prelude.{ℕ, List, codes}
use Rattle.status_lines.specs.declared.words.LinkState.{LinkState}
use Rattle.status_lines.specs.declared.words.LinkState.TheVariants as link

-- a connection
abbrev pub connection_text : LinkState → List ℕ
connection_text link.StandAlone = codes "StandAlone"
connection_text link.WFReportParams = codes "Connecting"
connection_text link.Connected = codes "Connected"
connection_text link.SyncSource = codes "Connected"
connection_text link.SyncTarget = codes "Connected"

-- what is sent over it
abbrev pub replication_text : LinkState → List ℕ
replication_text link.StandAlone = codes "Off"
replication_text link.WFReportParams = codes "Off"
replication_text link.Connected = codes "Established"
replication_text link.SyncSource = codes "SyncSource"
replication_text link.SyncTarget = codes "SyncTarget"
