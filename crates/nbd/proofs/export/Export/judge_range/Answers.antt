use Rattle.std.proofs.Common.{rules}
use Rattle.nbd.proofs.export.Export.judge_range.Goals as goal

pub returns : goal.returns
returns c = search rules
