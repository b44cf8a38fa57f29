-- Which refusals each call may answer, by their numbers: those that its tests and what it takes can give. The calls of a node come first,
-- and then those of a session's device, which calls both nodes.
use Rattle.std.specs.Prelude.{Bool, true, false, ◌||◌}
use Rattle.blocks.specs.Numbered.{closes_end}
use Rattle.blocks.specs.declared.refusal.Refusal.{Refusal}
use Rattle.blocks.specs.declared.refusal.Refusal.TheVariants as refusal

-- A primary's calls.

-- opening its end, for the first time or again: 6, 7, 33, 36
abbrev pub reopen_refuses : Refusal → Bool
reopen_refuses refusal.StreamFull = true
reopen_refuses refusal.NoMemory = true
reopen_refuses refusal.UsedIdentifier = true
reopen_refuses refusal.NotDrained = true
reopen_refuses _ = false

-- accepting a write: 1 to 7, 12
abbrev pub submit_refuses : Refusal → Bool
submit_refuses refusal.BadRange = true
submit_refuses (refusal.Conflict _) = true
submit_refuses refusal.LogFull = true
submit_refuses refusal.ActivityFull = true
submit_refuses refusal.JournalFull = true
submit_refuses refusal.StreamFull = true
submit_refuses refusal.NoMemory = true
submit_refuses refusal.NotConnected = true
submit_refuses _ = false

-- taking a receipt: 8, 9, 16
abbrev pub take_completed_refuses : Refusal → Bool
take_completed_refuses refusal.LocalFault = true
take_completed_refuses refusal.NotCompleted = true
take_completed_refuses refusal.UnknownJob = true
take_completed_refuses _ = false

-- sending a frame: 7, 11, 12, 13
abbrev pub send_refuses : Refusal → Bool
send_refuses refusal.NoMemory = true
send_refuses refusal.LinkFull = true
send_refuses refusal.NotConnected = true
send_refuses refusal.NothingThere = true
send_refuses _ = false

-- taking a frame: 7, 12, 13, and those of a frame that was taken, 20 to 25 and 30 to 35
abbrev pub ack_in_refuses : Refusal → Bool
ack_in_refuses refusal.NoMemory = true
ack_in_refuses refusal.NotConnected = true
ack_in_refuses refusal.NothingThere = true
ack_in_refuses refusal = closes_end refusal

-- copying the next block of a resync: 6, 7, 10, 12, 14
abbrev pub resync_next_refuses : Refusal → Bool
resync_next_refuses refusal.StreamFull = true
resync_next_refuses refusal.NoMemory = true
resync_next_refuses refusal.NothingToDo = true
resync_next_refuses refusal.NotConnected = true
resync_next_refuses refusal.ReadFault = true
resync_next_refuses _ = false

-- A secondary's calls. Its openings answer 36 alone.

-- taking a frame: 7, 12, 13, 18, and those of a frame that was taken, 20 to 23, 34, 35
abbrev pub receive_refuses : Refusal → Bool
receive_refuses refusal.NoMemory = true
receive_refuses refusal.NotConnected = true
receive_refuses refusal.NothingThere = true
receive_refuses refusal.PendingFull = true
receive_refuses refusal.BadMagic = true
receive_refuses refusal.BadCommand = true
receive_refuses refusal.BadLength = true
receive_refuses refusal.BadField = true
receive_refuses refusal.OtherProtocol = true
receive_refuses refusal.OtherSize = true
receive_refuses _ = false

-- sending a frame: 11, 12, 13; no acknowledgement has blocks, so memory is not wanting
abbrev pub ack_out_refuses : Refusal → Bool
ack_out_refuses refusal.LinkFull = true
ack_out_refuses refusal.NotConnected = true
ack_out_refuses refusal.NothingThere = true
ack_out_refuses _ = false

-- A device's calls.

-- beginning a write, which is tried again where a write conflicts or a log is full: 1, 5, 6, 7, 12
abbrev pub begin_refuses : Refusal → Bool
begin_refuses refusal.BadRange = true
begin_refuses refusal.JournalFull = true
begin_refuses refusal.StreamFull = true
begin_refuses refusal.NoMemory = true
begin_refuses refusal.NotConnected = true
begin_refuses _ = false

-- waiting for its receipt: 8, 16
abbrev pub complete_refuses : Refusal → Bool
complete_refuses refusal.LocalFault = true
complete_refuses refusal.UnknownJob = true
complete_refuses _ = false

-- both, one after the other: 1, 5 to 8, 12, 16
abbrev pub write_refuses : Refusal → Bool
write_refuses refusal = begin_refuses refusal || complete_refuses refusal

-- opening both ends again: 6, 7, 33, 36, and 12 over streams
abbrev pub reconnect_refuses : Refusal → Bool
reconnect_refuses refusal.NotConnected = true
reconnect_refuses refusal = reopen_refuses refusal

-- The hello of two halves over a link, as each step of it may be refused: 7, 11, 12, 13, 18, 20 to 25, 30 to 35.
abbrev pub hello_refuses : Refusal → Bool
hello_refuses refusal = (send_refuses refusal || ack_in_refuses refusal) || (receive_refuses refusal || ack_out_refuses refusal)

-- The hello over streams, where a step waits for room and for a frame: the same without 11 and 13.
abbrev pub streams_hello_refuses : Refusal → Bool
streams_hello_refuses refusal.LinkFull = false
streams_hello_refuses refusal.NothingThere = false
streams_hello_refuses refusal = hello_refuses refusal

-- making a secondary over its disk and opening it for the first time: 7, 15
abbrev pub peer_open_refuses : Refusal → Bool
peer_open_refuses refusal.NoMemory = true
peer_open_refuses refusal.BadSetting = true
peer_open_refuses _ = false

-- the same of a primary, whose words are tested: 7, 15, 33
abbrev pub local_open_refuses : Refusal → Bool
local_open_refuses refusal.UsedIdentifier = true
local_open_refuses refusal = peer_open_refuses refusal

-- starting a session over a link: 7, 11, 12, 13, 15, 18, 20 to 25, 30 to 35
abbrev pub start_refuses : Refusal → Bool
start_refuses refusal = local_open_refuses refusal || hello_refuses refusal

-- starting a session over streams: 7, 12, 15, 18, 20 to 25, 30 to 35
abbrev pub start_over_refuses : Refusal → Bool
start_over_refuses refusal = local_open_refuses refusal || streams_hello_refuses refusal
