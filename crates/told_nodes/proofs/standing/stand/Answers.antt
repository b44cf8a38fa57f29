use Rattle.told_nodes.proofs.Going.{stand-all}
use Rattle.told_nodes.proofs.standing.stand.Goals as goal

pub returns-clause-stand : goal.returns-clause-stand
returns-clause-stand g c = stand-all g.B.Beginning.opening c.args.log.now.log c.args.primary.now c.requires
