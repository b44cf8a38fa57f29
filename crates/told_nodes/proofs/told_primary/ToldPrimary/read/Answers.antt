use Rattle.std.proofs.Common.{[], refl}
use Rattle.told.specs.declared.entry.Told.TheVariants.{Held}
use Rattle.told_nodes.proofs.Going.{stays, tells}
use Rattle.told_nodes.proofs.told_primary.ToldPrimary.read.Goals as goal

pub invariant_of-self : goal.invariant_of-self
invariant_of-self g c =
    stays c.self.inside.log.log c.self.inside.kept.node c.read.new.self.node c.self.invariant c.read.ensures.falls
    (λ h was. record { history = h; has = c.read.ensures.kept h was; leads = ([], refl) })

pub invariant_of-self-2 : goal.invariant_of-self-2
invariant_of-self-2 g c = tells c.self.inside.log.log c.held.new.log.log (Held c.args.first c.args.count c.in_ok-bytes.bytes.items)
    c.self.inside.kept.node c.read.new.self.node c.self.invariant c.held.ensures.log c.read.ensures.falls
    (λ h was. record { history = h; has = c.read.ensures.kept h was; leads = ((λ still. c.in_ok-bytes.ensures.read still h was), refl) })
