-- What a command waits for.
use Rattle.std.specs.Prelude.{◌≡◌, ◌⊎◌}
use Rattle.program_values.specs.declared.queries.Awaited.{Awaited}
use Rattle.program_values.specs.declared.queries.Awaited.TheVariants as awaited
use Rattle.status_lines.specs.declared.lines.PrimaryLine.{PrimaryLine}
use Rattle.status_lines.specs.declared.words.DiskState.TheVariants as disk
use Rattle.status_lines.specs.declared.words.LinkState.TheVariants as link

-- the primary's line says that it has come: both nodes are connected, or nothing is left to copy to the peer's disk
abbrev pub IsReached : Awaited → PrimaryLine → Type 0
IsReached awaited.Connection line = (line.words.link ≡ link.Connected) ⊎ (line.words.link ≡ link.SyncSource) ⊎ (line.words.link ≡ link.SyncTarget)
IsReached awaited.Sync line =
    (line.words.link ≡ link.Connected) × (line.words.own_disk ≡ disk.UpToDate) × (line.words.other_disk ≡ disk.UpToDate) × (line.oos ≡ 0)
