use Rattle.std.proofs.Common.{rules}
use Rattle.thread_link.proofs.inward.drop_before.Goals as goal

pub returns-then-is_old : goal.returns-then-is_old
returns-then-is_old c = search rules
