-- By the account that every run of a primary keeps of its unmarked blocks.
use Rattle.laws.proofs.Theorems.PrimaryReflects.{reflects, marks_at_rest}
use Rattle.laws.proofs.primary_reflects.Goals as goal

pub returns-clause-streams : goal.returns-clause-streams
returns-clause-streams c = reflects

pub returns-clause-rest : goal.returns-clause-rest
returns-clause-rest c = marks_at_rest
