-- The extent ends after its first byte, and not after the last that was asked for.
use Rattle.std.proofs.Common.{◌<◌, ◌≤◌}
use Rattle.serve_requests.proofs.status.next_extent.Given as goal

abbrev pub invariant-loop : goal.invariant-loop
invariant-loop l = record {
  some : l.at < l.end;
  most : l.end ≤ l.last;
}
