-- Which requests are served, and with which error the others are refused.
use Rattle.std.specs.Prelude.{ℕ, ◌+◌, ◌*◌, ◌==◌, Bool, false, ◌&&◌, not, nat_lt, bit_and, if◌then◌else◌, Option, Some, None, Result, Ok, Err}
use Rattle.nbd.specs.declared.command.NbdCommand.{NbdCommand}
use Rattle.nbd.specs.declared.command.NbdCommand.TheVariants as command
use Rattle.nbd.specs.declared.errno.Errno.{Errno}
use Rattle.nbd.specs.declared.errno.Errno.TheVariants.{Invalid, NoSpace, NotSupported, Overflow}
use Rattle.nbd.specs.declared.header.RequestHeader.{RequestHeader}
use Rattle.nbd.specs.declared.terms.Terms.{Terms}
use Rattle.nbd.specs.Exports.{Exported}

-- the number of each command (NBD protocol, "Request types")
abbrev pub kind_of : NbdCommand → ℕ
kind_of command.Read = 0
kind_of command.Write = 1
kind_of command.Disconnect = 2
kind_of command.Flush = 3
kind_of command.Trim = 4
kind_of command.WriteZeroes = 6
kind_of command.BlockStatus = 7

-- the command with a number
abbrev pub command_at : ℕ → Option NbdCommand
command_at kind =
    if kind == 0 then Some command.Read else
    if kind == 1 then Some command.Write else
    if kind == 2 then Some command.Disconnect else
    if kind == 3 then Some command.Flush else
    if kind == 4 then Some command.Trim else
    if kind == 6 then Some command.WriteZeroes else
    if kind == 7 then Some command.BlockStatus else None

-- the flags that may come with a command: FUA (1) with each, NO_HOLE (2) and FAST_ZERO (16) with WRITE_ZEROES alone, DF (4) with READ
-- where replies are structured, and REQ_ONE (8) with BLOCK_STATUS
abbrev pub allowed : Terms → NbdCommand → ℕ
allowed t command.Read = if t.structured then 5 else 1
allowed t command.WriteZeroes = 19
allowed t command.BlockStatus = 9
allowed t _ = 1

-- whether a command may have these flags
abbrev pub may_have : Terms → NbdCommand → ℕ → Bool
may_have t c flags = bit_and flags (allowed t c) == flags

-- whether these flags ask for zeros only where they are faster than a WRITE
abbrev pub is_fast : ℕ → Bool
is_fast flags = bit_and flags 16 == 16

-- whether a request has more bytes than its payload or its reply's may have
abbrev pub is_long : NbdCommand → ℕ → Bool
is_long command.Trim length = false
is_long command.WriteZeroes length = false
is_long command.BlockStatus length = false
is_long _ length = nat_lt 33554432 length

-- the error of a range past the device's end
abbrev pub past_end : NbdCommand → Errno
past_end command.Write = NoSpace
past_end command.WriteZeroes = NoSpace
past_end _ = Invalid

-- a request for bytes: flags, then that it has some, then its length, then its range; and zeros over a link are never fast
abbrev pub judged_range : Exported → NbdCommand → RequestHeader → Result NbdCommand Errno
judged_range e c h =
    if not (may_have e.terms c h.flags && nat_lt 0 h.length) then Err Invalid else
    if is_long c h.length then Err Overflow else
    if nat_lt (4096 * e.blocks) (h.offset + h.length) then Err (past_end c) else
    if is_fast h.flags then Err NotSupported else Ok c

-- FLUSH has no range: the offset and the length are 0
abbrev pub judged_flush : Exported → RequestHeader → Result NbdCommand Errno
judged_flush e h =
    if may_have e.terms command.Flush h.flags && ((h.offset == 0) && (h.length == 0)) then Ok command.Flush else Err Invalid

-- BLOCK_STATUS is served where its context was agreed
abbrev pub judged_status : Exported → RequestHeader → Result NbdCommand Errno
judged_status e h = if e.terms.allocation then judged_range e command.BlockStatus h else Err Invalid

-- a request with this command: one to disconnect is always served, since it has no reply
abbrev pub judged_as : Exported → Option NbdCommand → RequestHeader → Result NbdCommand Errno
judged_as e None h = Err Invalid
judged_as e (Some command.Disconnect) h = Ok command.Disconnect
judged_as e (Some command.Flush) h = judged_flush e h
judged_as e (Some command.BlockStatus) h = judged_status e h
judged_as e (Some c) h = judged_range e c h

-- the command of a request that is served, or the error of one that is refused
unfoldable pub judged : Exported → RequestHeader → Result NbdCommand Errno
judged e h = judged_as e (command_at h.kind) h
