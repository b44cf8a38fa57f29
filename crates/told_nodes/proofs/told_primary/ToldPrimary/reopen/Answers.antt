use Rattle.std.proofs.Common.{ap}
use Rattle.endpoint.specs.Calls.{is_out_of_memory}
use Rattle.kept_nodes.specs.Kept.{KeptPrimaryState, is_broken}
use Rattle.told_nodes.proofs.Going.{reopen-stays}
use Rattle.told_nodes.proofs.told_primary.ToldPrimary.reopen.Goals as goal

pub invariant_of-self : goal.invariant_of-self
invariant_of-self g c = reopen-stays c.self.inside.log.log c.self.inside.kept.node c.reopen.new.self.node (is_broken c.self.inside.kept.metadata)
    c.args.words.sync c.args.words.loss (is_out_of_memory c.reopen.result) _ c.self.invariant c.reopen.ensures.falls c.reopen.ensures.step
    (λ broken. ap (λ (k : KeptPrimaryState _). k.node) (c.reopen.ensures.broken broken).1)
