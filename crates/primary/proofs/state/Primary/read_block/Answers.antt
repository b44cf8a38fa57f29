use Rattle.std.proofs.Common.{rules}
use Rattle.primary.proofs.state.Primary.read_block.Goals as goal

pub returns-clause-refused : goal.returns-clause-refused
returns-clause-refused g c = search rules
