use Rattle.std.proofs.Common.{◌-◌}
use Rattle.peerdisk.proofs.Bits.{AreSet}
use Rattle.peerdisk.proofs.words.set_bits.Given as goal

abbrev pub invariant-loop-block : goal.invariant-loop-block
invariant-loop-block l = AreSet l.first (l.block - l.first) l.fn.words l.words
