use Rattle.told_nodes.proofs.Going.{goes-on}
use Rattle.told_nodes.proofs.told_primary.ToldPrimary.send.Goals as goal

pub invariant_of-self : goal.invariant_of-self
invariant_of-self g c = goes-on c.self.inside.log.log c.self.inside.kept.node c.send.new.self.node c.self.invariant c.send.ensures.goes_on
