use Rattle.pair_protocol.proofs.Stepping.{sends-step, answers-step}
use Rattle.pair_protocol.proofs.Takings.{receives-step, acknowledges-step}
use Rattle.pair_protocol.proofs.calls_are_steps.Goals as goal

pub returns-clause-sends : goal.returns-clause-sends
returns-clause-sends c = sends-step

pub returns-clause-answers : goal.returns-clause-answers
returns-clause-answers c = answers-step

pub returns-clause-receives : goal.returns-clause-receives
returns-clause-receives c = receives-step

pub returns-clause-acknowledges : goal.returns-clause-acknowledges
returns-clause-acknowledges c = acknowledges-step
