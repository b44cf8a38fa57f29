-- The places of a request, of which a client has 16.
use Rattle.std.specs.Prelude.{ℕ, ◌+◌, ◌/◌, min, max}
use Rattle.nbd.specs.declared.command.NbdCommand.{NbdCommand}
use Rattle.nbd.specs.declared.command.NbdCommand.TheVariants.{Read, Write, Disconnect, Flush, Trim, WriteZeroes, BlockStatus}
use Rattle.nbd.specs.Requested.{Requested}

-- one for each 512 blocks begun that are read or written, at least one and at most all
abbrev pub places_for : ℕ → ℕ
places_for block_count = max 1 (min ((block_count + 511) / 512) 16)

-- how many blocks' bytes a command has to do with: a FLUSH has no data, and a BLOCK_STATUS reads none
abbrev pub command_blocks : NbdCommand → ℕ → ℕ
command_blocks Read bytes = (bytes + 4095) / 4096
command_blocks Write bytes = (bytes + 4095) / 4096
command_blocks Disconnect bytes = 0
command_blocks Flush bytes = 0
command_blocks Trim bytes = (bytes + 4095) / 4096
command_blocks WriteZeroes bytes = (bytes + 4095) / 4096
command_blocks BlockStatus bytes = 0

abbrev pub blocks_of : Requested → ℕ
blocks_of request = command_blocks request.command request.length

-- the places of a request
abbrev pub places_of : Requested → ℕ
places_of request = places_for (blocks_of request)
