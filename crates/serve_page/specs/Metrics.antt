-- The metrics of a report: under which name each number of it stands.
use Rattle.std.specs.Prelude.{ℕ, ◌+◌, ◌*◌, ◌/◌, ◌%◌, ◌^◌, ◌-◌, ◌==◌, min, List, [], ◌++◌, Bool, true, false, Option, Some, None, codes, if◌then◌else◌}
use Rattle.serve_page.specs.Latencies.{command_text}
use Rattle.serve_page.specs.Samples.{counter_text, gauge_text, head_text, info_text, node_counter_text, node_gauge_text}
use Rattle.serve_page.specs.declared.latencies.Latencies.{Latencies}
use Rattle.serve_page.specs.declared.report.Resync.{Resync}
use Rattle.serve_page.specs.declared.report.StatusReport.{StatusReport}
use Rattle.serve_page.specs.declared.start.ServerStart.{ServerStart}
use Rattle.serve_page.specs.declared.start.StartedAfter.{StartedAfter}
use Rattle.serve_page.specs.declared.start.StartedAfter.TheVariants as after
use Rattle.status_lines.specs.declared.lines.PrimaryLine.{PrimaryLine}
use Rattle.status_lines.specs.declared.lines.SecondaryLine.{SecondaryLine}
use Rattle.status_lines.specs.declared.words.DiskState.{DiskState}
use Rattle.status_lines.specs.declared.words.DiskState.TheVariants as disk
use Rattle.status_lines.specs.declared.words.LinkState.{LinkState}
use Rattle.status_lines.specs.declared.words.LinkState.TheVariants as link
use Rattle.status_lines.specs.declared.words.Role.{Role}
use Rattle.status_lines.specs.declared.words.Role.TheVariants as role

-- what a server began after
abbrev pub after_text : StartedAfter → List ℕ
after_text after.NoMetadata = codes "no-metadata"
after_text after.Nothing = codes "first"
after_text after.CleanEnd = codes "clean"
after_text after.Kill = codes "killed"
after_text after.PowerLoss = codes "power-lost"
after_text after.Unknown = codes "unknown"

-- a condition as a number
abbrev pub truth : Bool → ℕ
truth true = 1
truth false = 0

-- whether a link is Connected, a role Primary, and a disk UpToDate
abbrev pub is_connected : LinkState → ℕ
is_connected link.Connected = 1
is_connected _ = 0

abbrev pub is_primary : Role → ℕ
is_primary role.Primary = 1
is_primary _ = 0

abbrev pub is_up_to_date : DiskState → ℕ
is_up_to_date disk.UpToDate = 1
is_up_to_date _ = 0

-- the words of the primary's line
abbrev pub link_metrics : PrimaryLine → List ℕ
link_metrics line =
    gauge_text (codes "connected") (codes "Whether the link is Connected; 0 while a resync runs.") (is_connected line.words.link)
    ++ (node_gauge_text (codes "node_role_is_primary") (codes "Whether the role of the node is in the primary state.")
    (is_primary line.words.own_role) (is_primary line.words.other_role)
    ++ node_gauge_text (codes "disk_state_is_up_to_date") (codes "Whether the disk of the node is up to date.")
    (is_up_to_date line.words.own_disk) (is_up_to_date line.words.other_disk))

-- its numbers
abbrev pub count_metrics : PrimaryLine → List ℕ
count_metrics line =
    gauge_text (codes "remote_pending") (codes "Writes that wait for the answer of the peer.") line.pe
    ++ (gauge_text (codes "application_pending") (codes "Writes of clients that are not completed.") line.ap
    ++ gauge_text (codes "epochs") (codes "Epochs that are not acknowledged.") line.ep)

-- the device, the marked blocks in bytes, and the writes of the session
abbrev pub device_metrics : StatusReport → List ℕ
device_metrics report =
    gauge_text (codes "size_bytes") (codes "Size of the device; in bytes.") (4096 * report.blocks)
    ++ (gauge_text (codes "out_of_sync_bytes") (codes "Amount of data known to be out of sync; in bytes.") (4096 * report.primary.marks)
    ++ (counter_text (codes "writes_accepted_total") (codes "Ranges that clients wrote, of 32 blocks at most, since the session began.") report.primary.accepted
    ++ counter_text (codes "writes_released_total") (codes "Those of them that need no more of either node.") report.primary.released))

-- the peer's disk, and the metadata of both
abbrev pub peer_metrics : StatusReport → List ℕ
peer_metrics report =
    gauge_text (codes "peer_pending") (codes "Items that wait for the disk of the peer.") report.secondary.line.pending
    ++ (gauge_text (codes "peer_is_consistent") (codes "Whether the data of the peer may be used as they are.") (truth report.secondary.line.usable)
    ++ (gauge_text (codes "peer_sync_failed") (codes "Whether a sync of the image of the peer has failed, which leaves it out.") (truth report.is_peer_failed)
    ++ node_gauge_text (codes "metadata_failed") (codes "Whether the metadata of the node could not be written.")
    (truth report.primary.is_metadata_broken) (truth report.secondary.is_metadata_broken)))

-- how many writes the metadata of both nodes got
abbrev pub metadata_metrics : StatusReport → List ℕ
metadata_metrics report =
    node_counter_text (codes "activitylog_writes_total") (codes "Writes to the activity log of the node, since the server began.")
    report.local_metadata.activity_log report.peer_metadata.activity_log
    ++ node_counter_text (codes "bitmap_writes_total") (codes "Writes to the bitmap of the node, since the server began.")
    report.local_metadata.bitmap report.peer_metadata.bitmap

-- the block clients, and what they were told of their writes
abbrev pub client_metrics : StatusReport → List ℕ
client_metrics report =
    gauge_text (codes "clients") (codes "Block clients that are connected.") report.clients
    ++ (counter_text (codes "receipts_linked_total") (codes "Completed ranges that the peer has, as the protocol asks, since the server began.") report.receipts.linked
    ++ counter_text (codes "receipts_alone_total") (codes "Completed ranges that the local image alone had, since the server began.") report.receipts.alone)

-- how long requests took, by their command
abbrev pub latency_metrics : Latencies → List ℕ
latency_metrics latencies =
    head_text (codes "request_seconds") (codes "How long requests took, from when a thread took them to their reply; in seconds.") (codes "histogram")
    ++ (command_text (codes "read") latencies.read ++ (command_text (codes "write") latencies.write
    ++ (command_text (codes "flush") latencies.flush ++ command_text (codes "write_zeroes") latencies.write_zeroes)))

-- how the server began: after what, and how much it had to copy
abbrev pub start_metrics : ServerStart → List ℕ
start_metrics start =
    info_text (codes "start_info") (codes "What the server began after.") (codes "after") (after_text start.after)
    ++ gauge_text (codes "start_to_copy_bytes") (codes "Amount of data that the server had to copy when it began; in bytes.") (4096 * start.to_copy)

-- bytes that a resync copied in a second, and seconds until it is done at that rate, as far as they are known
abbrev pub bytes_per_second : Resync → Option ℕ
bytes_per_second resync = if resync.elapsed_ms == 0 then None else Some (4096000 * resync.copied / resync.elapsed_ms)

abbrev pub seconds_left : Resync → Option ℕ
seconds_left resync =
    if resync.copied == 0 then None else Some (
    let milliseconds = min (resync.elapsed_ms * resync.left) (2 ^ 64 - 1) / resync.copied in
    milliseconds / 1000 + min 1 (milliseconds % 1000))

-- a metric of a number that may not be known
abbrev pub known_gauge : List ℕ → List ℕ → Option ℕ → List ℕ
known_gauge name help None = []
known_gauge name help (Some n) = gauge_text name help n

-- whether a resync runs, how much is left of it, its rate, and the time to go
abbrev pub resync_metrics : Option Resync → List ℕ
resync_metrics None =
    gauge_text (codes "resync_running") (codes "Whether a resync runs.") 0
resync_metrics (Some resync) =
    gauge_text (codes "resync_running") (codes "Whether a resync runs.") 1
    ++ (gauge_text (codes "resync_left_bytes") (codes "Amount of data that the resync has still to copy; in bytes.") (4096 * resync.left)
    ++ (known_gauge (codes "resync_bytes_per_second") (codes "Bytes that the resync has copied in a second.") (bytes_per_second resync)
    ++ known_gauge (codes "resync_left_seconds") (codes "Seconds until the resync is done at that rate.") (seconds_left resync)))

-- all of them
abbrev pub metrics_text : StatusReport → List ℕ
metrics_text report =
    link_metrics report.primary.line ++ (count_metrics report.primary.line ++ (device_metrics report ++ (peer_metrics report
    ++ (metadata_metrics report ++ (client_metrics report ++ (latency_metrics report.latencies ++ (start_metrics report.start
    ++ resync_metrics report.resync)))))))
