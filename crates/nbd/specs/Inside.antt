-- What holds of each request that is given out.
use Rattle.std.specs.Prelude.{ℕ, ◌≡◌, ◌≢◌, ◌⊎◌, ◌+◌, ◌*◌, ◌<◌, ◌≤◌, [], length}
use Rattle.nbd.specs.declared.command.NbdCommand.TheVariants.{Read, Write, Flush, Disconnect}
use Rattle.nbd.specs.Requested.{Requested}

-- the request is for bytes of a device of `blocks` blocks, at most 32 MiB if they go over the connection, and a WRITE has a payload of
-- as many as it is for
pub record IsInside (blocks : ℕ) (r : Requested) : Type 0 where
  pub stays : r.command ≢ Disconnect
  pub some : r.command ≢ Flush → 0 < r.length
  pub inside : r.offset + r.length ≤ 4096 * blocks
  pub short : (r.command ≡ Read) ⊎ (r.command ≡ Write) → r.length ≤ 33554432
  pub payload : r.command ≡ Write → length r.payload ≡ r.length
  pub other : r.command ≢ Write → r.payload ≡ []
