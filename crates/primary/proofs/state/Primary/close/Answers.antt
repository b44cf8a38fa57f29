use Rattle.model.specs.LocalRuns.{Closes}
use Rattle.primary_protocol.proofs.Node.Calls.{node-closes}
use Rattle.primary_protocol.proofs.Node.Keeps.{closes-keeps}
use Rattle.primary.proofs.Kept.{plain-is}
use Rattle.primary.proofs.state.Primary.close.Goals as goal

pub invariant_of-self : goal.invariant_of-self
invariant_of-self g c = plain-is Closes _ _ _ closes-keeps c.self.invariant (node-closes _ _ _ c.close.ensures)

pub returns-clause-step : goal.returns-clause-step
returns-clause-step g c = rw (← c.self.view_is) (node-closes _ _ _ c.close.ensures)
