use Rattle.std.proofs.Common.{rules}
use Rattle.program_values.proofs.run_options.RunOptions.block.Goals as goal

pub returns : goal.returns
returns c = search rules
