use Rattle.std.proofs.Common.{◌∷◌, [], refl}
use Rattle.model.specs.LocalRuns.{Receipts}
use Rattle.primary_protocol.specs.Node.{take_receipt}
use Rattle.told.specs.declared.entry.Told.TheVariants.{Given}
use Rattle.told.proofs.Telling.{given-at}
use Rattle.told_nodes.proofs.Going.{stays, tells}
use Rattle.told_nodes.proofs.told_primary.ToldPrimary.take_completed.Goals as goal

pub invariant_of-self : goal.invariant_of-self
invariant_of-self g c =
    stays c.self.inside.log.log c.self.inside.kept.node c.take_completed.new.self.node c.self.invariant c.take_completed.ensures.falls
    (λ h was. record { history = (take_receipt c.args.number h).1; has = c.take_completed.ensures.step.after h was; leads = (Receipts c.args.number ∷ [], refl) })

pub invariant_of-self-2 : goal.invariant_of-self-2
invariant_of-self-2 g c =
    let receipt = c.in_ok-receipt.receipt in
    tells c.self.inside.log.log c.given.new.log.log (Given receipt) c.self.inside.kept.node c.take_completed.new.self.node c.self.invariant
    c.given.ensures.log c.take_completed.ensures.falls
    (λ h was. record {
      history = (take_receipt c.args.number h).1;
      has = c.in_ok-receipt.ensures.step.after h was;
      leads = given-at c.take_completed.new.self.node.faithful h receipt c.args.number c.in_ok-receipt.ensures.number (c.in_ok-receipt.ensures.step.replies h was);
    })
