use Rattle.std.proofs.Common.{rules}
use Rattle.program_values.proofs.run_options.RunOptions.all_writes.Goals as goal

pub returns : goal.returns
returns c = search rules
