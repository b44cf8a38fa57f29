use Rattle.std.proofs.Common.{rules}
use Rattle.nbd.proofs.command.NbdCommand.is_long.Goals as goal

pub returns-in_default : goal.returns-in_default
returns-in_default c = search rules
