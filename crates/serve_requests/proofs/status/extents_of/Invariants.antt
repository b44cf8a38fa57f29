-- The extents so far, and the bytes that are left.
use Rattle.std.proofs.Common.{◌≡◌, ◌+◌, ◌≤◌, length}
use Rattle.std.specs.List.{All}
use Rattle.serve_requests.specs.Extents.{IsExtent, bytes_told}
use Rattle.serve_requests.proofs.status.extents_of.Given as goal

abbrev pub invariant-loop-left : goal.invariant-loop-left
invariant-loop-left l = record {
  place : l.at + l.left ≡ l.fn.request.offset + l.fn.request.length;
  told : bytes_told l.extents.items + l.left ≡ l.fn.request.length;
  each : All IsExtent l.extents.items;
  few : length l.extents.items ≤ l.most;
}

abbrev pub decreases-loop-left : goal.decreases-loop-left
decreases-loop-left l = l.left
