use Rattle.session_nodes.proofs.Primaries.{had-from}
use Rattle.told_nodes.proofs.Going.{begins}
use Rattle.told_nodes.proofs.told_primary.ToldPrimary.open.Goals as goal

pub invariant_of-result : goal.invariant_of-result
invariant_of-result g c = begins c.in-Ok.kept.node c.args.log.log c.requires.log
    (had-from g.B.Beginning.opening c.args.words.sync c.args.words.loss c.in-Ok.kept.node _ c.requires.began c.in-Ok.ensures.opened)
