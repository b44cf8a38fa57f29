-- The extents so far are there.
use Rattle.std.proofs.Common.{◌≡◌, ◌++◌, take}
use Rattle.std.specs.Prelude.{flat_map}
use Rattle.nbd.specs.Chunks.{extent_bytes}
use Rattle.nbd.proofs.chunk.put_extents.Given as goal

abbrev pub invariant-loop-extent : goal.invariant-loop-extent
invariant-loop-extent l = record {
  put : l.out.items ≡ l.fn.out.items ++ flat_map extent_bytes (take l.extent-index l.extents);
}
