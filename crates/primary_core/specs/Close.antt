-- The state after the stream ends.
use Rattle.std.specs.Prelude.{ℕ, None}
use Rattle.overlap.specs.Holdings as overlap
use Rattle.transferlog.specs.Log as log
use Rattle.primary_protocol.specs.Core.{PrimaryState}

-- ends the stream: no end is open, no write has a connection, and no block is under way; gives how many writes that
-- completed
abbrev pub without_stream : PrimaryState → ℕ × PrimaryState
without_stream s =
    let drained = log.drained s.log in
    (drained.0, record s { held = overlap.without 0 s.held; log = drained.1; end = None })
