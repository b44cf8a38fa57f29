use Rattle.std.proofs.Common.{◌≡◌, ◌*◌, replicate}
use Rattle.blocks.proofs.memory.MemStore.zeroed.Given as goal

abbrev pub invariant-loop-block : goal.invariant-loop-block
invariant-loop-block l = l.bytes.items ≡ replicate (4096 * l._block) 0
