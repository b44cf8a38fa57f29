use Rattle.overlap.proofs.Lists.{holdings-remove}
use Rattle.overlap.proofs.held.Held.release.Goals as goal

pub returns-in-Some : goal.returns-in-Some
returns-in-Some c = rw (← c.self.view_is, c.remove.ensures.entries) (holdings-remove c.args.number c.self.inside.by_number.entries c.self.invariant.ordered)

pub returns-in_default : goal.returns-in_default
returns-in_default c = rw (← c.self.view_is, c.remove.ensures.entries) (holdings-remove c.args.number c.self.inside.by_number.entries c.self.invariant.ordered)
