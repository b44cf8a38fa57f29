use Rattle.std.proofs.Common.{arith}
use Rattle.std.proofs.lemmas.Grind.{common_steps}
use Rattle.nbd.proofs.Spelling.{status_spelled}
use Rattle.nbd.proofs.chunk.Chunk.head.Goals as goal

pub returns-in-Extents : goal.returns-in-Extents
returns-in-Extents c =
    status_spelled c.args.self.now c.in-Extents.extents _ c.put_header-in-Extents.new.out c.put_u32-in-Extents.new.out c.in-Extents.is
    c.put_header-in-Extents.ensures.spelled c.put_u32-in-Extents.ensures.written
    (first_of (omega (arith, c.len-in-Extents.ensures), grind (arith, common_steps)))
