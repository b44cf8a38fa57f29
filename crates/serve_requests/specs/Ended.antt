-- A request that has ended.
use Rattle.std.specs.Prelude.{Bool, true, false, ℕ, List, [], Option, Some, None, Result, Ok, Err}
use Rattle.nbd.specs.declared.command.NbdCommand.{NbdCommand}
use Rattle.nbd.specs.declared.command.NbdCommand.TheVariants.{Read, Write, Disconnect, Flush, Trim, WriteZeroes, BlockStatus}
use Rattle.nbd.specs.declared.errno.Errno.{Errno}
use Rattle.nbd.specs.Requested.{Requested, has_fua}

-- whether a command asks for stable storage, with FUA or without: FUA concerns only the data that the command writes (NBD
-- protocol, "Command flags")
abbrev pub command_syncs : NbdCommand → Bool → Bool
command_syncs Read fua = false
command_syncs Write fua = fua
command_syncs Disconnect fua = false
command_syncs Flush fua = true
command_syncs Trim fua = fua
command_syncs WriteZeroes fua = fua
command_syncs BlockStatus fua = false

-- whether the reply to a request waits for stable storage
abbrev pub asks_for_sync : Requested → Bool
asks_for_sync request = command_syncs request.command (has_fua request)

-- the bytes of the reply, if it was done
abbrev pub spelled_in : Result (List ℕ) Errno → List ℕ
spelled_in (Ok spelled) = spelled
spelled_in (Err errno) = []

-- why it failed, if it did
abbrev pub error_in : Result (List ℕ) Errno → Option Errno
error_in (Ok spelled) = None
error_in (Err errno) = Some errno

-- the request, whether it was done, the bytes of its reply if it was, and why it failed: no error exactly if it was done; the round of
-- syncing after which it waits for one, if it asks for stable storage; and how many of its writes were complete when the number of
-- that round was read
pub record EndedState : Type 0 where
  pub request : Requested
  pub is_done : Bool
  pub spelled : List ℕ
  pub error : Option Errno
  pub round : ℕ
  pub writes : ℕ
