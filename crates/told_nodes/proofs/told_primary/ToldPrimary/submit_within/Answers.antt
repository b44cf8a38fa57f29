use Rattle.primary_protocol.specs.Transitions.{whole_blocks}
use Rattle.told_nodes.proofs.Going.{patch-tells, read-stays, submit-stays}
use Rattle.told_nodes.proofs.told_primary.ToldPrimary.submit_within.Goals as goal

pub invariant_of-self : goal.invariant_of-self
invariant_of-self g c =
    read-stays c.self.inside.log.log c.self.inside.kept.node c.read.new.self.node c.self.invariant c.read.ensures.falls c.read.ensures.kept

pub invariant_of-self-in_err-contents : goal.invariant_of-self-in_err-contents
invariant_of-self-in_err-contents g c =
    read-stays c.self.inside.log.log c.self.inside.kept.node c.read.new.self.node c.self.invariant c.read.ensures.falls c.read.ensures.kept

pub invariant_of-self-in_err-number : goal.invariant_of-self-in_err-number
invariant_of-self-in_err-number g c = submit-stays c.self.inside.log.log c.read.new.self.node c.submit.new.self.node c.args.block
    (whole_blocks c.in_ok-contents.contents) c.submit.result
    (read-stays c.self.inside.log.log c.self.inside.kept.node c.read.new.self.node c.self.invariant c.read.ensures.falls c.read.ensures.kept)
    c.submit.ensures.falls c.submit.ensures.step (λ failed. (c.submit.ensures.fault failed).0)

pub invariant_of-self-2 : goal.invariant_of-self-2
invariant_of-self-2 g c = patch-tells c.self.inside.log.log c.patched.new.log.log c.self.inside.kept.node c.read.new.self.node c.submit.new.self.node
    c.in_ok-number.number c.args.block c.args.from c.args.bytes.now c.in_ok-found.found.items c.in_ok-contents.contents _ c.self.invariant
    c.patched.ensures.log c.read.ensures.falls c.in_ok-found.ensures.read c.read.ensures.kept c.in_ok-contents.ensures.laid c.submit.ensures.falls
    (c.in_ok-number.ensures.step (λ wrong. cc)) c.in_ok-number.ensures.number
