use Rattle.std.proofs.Common.{◌-◌, arith}
use Rattle.peerdisk.proofs.Bits.{set-more, set-none}
use Rattle.peerdisk.proofs.words.set_bits.Goals as goal

pub loop-block-init : goal.loop-block-init
loop-block-init c = set-none c.args.range.first.0 (c.args.range.first.0 - c.args.range.first.0) c.args.words.now (omega arith)

pub loop-block-preserved : goal.loop-block-preserved
loop-block-preserved c = set-more c.args.range.first.0 c.loop-block.block c.args.words.now c.loop-block.words (omega arith) (omega arith) c.loop-block.invariant
