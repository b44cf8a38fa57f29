use Rattle.secondary_protocol.proofs.Node.Calls.{node-closes}
use Rattle.secondary.proofs.Kept.{closes-is}
use Rattle.secondary.proofs.state.Secondary.close.Goals as goal

pub invariant_of-self : goal.invariant_of-self
invariant_of-self g c = closes-is _ _ _ c.self.invariant c.close.ensures

pub returns-clause-step : goal.returns-clause-step
returns-clause-step g c = rw (← c.self.view_is) (node-closes _ _ _ c.close.ensures)
