use Rattle.std.proofs.Common.{rules}
use Rattle.packets.proofs.header.is_whole_blocks.Goals as goal

pub overflow_cast-t-5 : goal.overflow_cast-t-5
overflow_cast-t-5 c = search rules

pub overflow_mul-t-6 : goal.overflow_mul-t-6
overflow_mul-t-6 c = search rules

pub returns-then-bytes : goal.returns-then-bytes
returns-then-bytes c = search rules
