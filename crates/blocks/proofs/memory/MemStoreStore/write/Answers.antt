-- The device keeps its size.
use Rattle.std.proofs.Common.{◌∙◌, ap, arith, length}
use Rattle.blocks.specs.Contents.{blocks_of}
use Rattle.blocks.proofs.Cutting.{length-blocks_of, length-overwritten}
use Rattle.blocks.proofs.memory.MemStoreStore.write.Goals as goal

pub returns-clause-size : goal.returns-clause-size
returns-clause-size c =
    let blocks = length-blocks_of c.args.bytes.now in
    ap length c.overwrite.ensures ∙ length-overwritten c.args.self.now (blocks_of 4096 c.args.bytes.now) c.args.range.first.0 (omega arith)
