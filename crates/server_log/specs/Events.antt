-- What happens to a server: the words of each event, of which the first is its name, and how grave it is.
use Rattle.std.specs.Prelude.{ℕ, List, ◌++◌, codes}
use Rattle.std.specs.Fmt.{decimal}
use Rattle.server_log.specs.declared.event.Copied.{Copied}
use Rattle.server_log.specs.declared.event.Event.{Event}
use Rattle.server_log.specs.declared.event.Event.TheVariants as event

-- how far a copy has come
abbrev pub copied_text : Copied → List ℕ
copied_text copied =
    codes "resyncing " ++ (decimal copied.percent ++ (codes "% done, " ++ (decimal copied.left_kib ++ (codes " KiB left, "
    ++ (decimal copied.kib_per_second ++ (codes " KiB/s, " ++ (decimal copied.seconds_left ++ codes " s to go")))))))

abbrev pub event_text : Event → List ℕ
event_text event.Connected = codes "connected"
event_text event.Lost = codes "lost"
event_text (event.ResyncBegun kib) = codes "resync-begun " ++ (decimal kib ++ codes " KiB to copy")
event_text (event.Resyncing copied) = copied_text copied
event_text (event.ResyncDone seconds) = codes "resync-done after " ++ (decimal seconds ++ codes " s")
event_text event.PeerSyncFailed = codes "disk-failed a sync of the peer's image: the link stays down until the server ends"
event_text event.MetadataFailed = codes "disk-failed a write of a metadata file: the link stays down until the server ends"
event_text event.Stopped = codes "stopped"

-- an error is 3, a warning 4, and a message 6, as in syslog(3)
abbrev pub priority_of : Event → ℕ
priority_of event.Connected = 6
priority_of event.Lost = 4
priority_of (event.ResyncBegun kib) = 6
priority_of (event.Resyncing copied) = 6
priority_of (event.ResyncDone seconds) = 6
priority_of event.PeerSyncFailed = 3
priority_of event.MetadataFailed = 3
priority_of event.Stopped = 6
