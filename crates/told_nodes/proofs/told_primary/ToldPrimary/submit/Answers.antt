use Rattle.primary_protocol.specs.Transitions.{whole_blocks}
use Rattle.told_nodes.proofs.Going.{submit-stays, submit-tells}
use Rattle.told_nodes.proofs.told_primary.ToldPrimary.submit.Goals as goal

pub invariant_of-self : goal.invariant_of-self
invariant_of-self g c = submit-stays c.self.inside.log.log c.self.inside.kept.node c.submit.new.self.node c.args.first (whole_blocks c.args.bytes.now)
    c.submit.result c.self.invariant c.submit.ensures.falls c.submit.ensures.step (λ failed. (c.submit.ensures.fault failed).0)

pub invariant_of-self-2 : goal.invariant_of-self-2
invariant_of-self-2 g c = submit-tells c.self.inside.log.log c.accepted.new.log.log c.self.inside.kept.node c.submit.new.self.node c.args.first c.args.bytes.now
    c.in_ok-number.number _ c.self.invariant c.accepted.ensures.log c.submit.ensures.falls (c.in_ok-number.ensures.step (λ wrong. cc))
    c.in_ok-number.ensures.number
