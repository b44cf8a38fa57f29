use Rattle.std.proofs.Common.{rules}
use Rattle.primary.specs.State.{node as primary_node}
use Rattle.primary_protocol.specs.Node.{NodeHas as PrimaryHas}
use Rattle.settlement.proofs.Every.{every-one}
use Rattle.settlement.proofs.settlement.confirm_all.Goals as goal

pub returns-clause-all : goal.returns-clause-all
returns-clause-all g c = λ p hp. every-one c.args.primary.now.core p hp.reached hp.leaves.core c.args.receipts.now (c.in_ok-confirmed.ensures.entries p hp)
    (search rules)
