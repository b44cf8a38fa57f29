use Rattle.std.proofs.Common.{◌≡◌, sym, subst}
use Rattle.blocks.specs.declared.refusal.Refusal.TheVariants.{NothingThere}
use Rattle.secondary.specs.Calls.{AppliesOne}
use Rattle.secondary.specs.State.{SecondaryView}
use Rattle.session_nodes.proofs.Answers.{apply-refused, next-some}
use Rattle.session_nodes.proofs.Secondaries.{runs-self}
use Rattle.session_nodes.proofs.session_secondary.SessionSecondary.apply_next.Goals as goal

pub returns-in-Ok-clause-refused : goal.returns-in-Ok-clause-refused
returns-in-Ok-clause-refused g c =
    apply-refused (λ e. e ≡ NothingThere) _ c.in-Ok.place c.self.inside.node c.apply_at.new.self c.apply_at.result c.self.invariant
    (λ h has. next-some h c.in-Ok.place (c.in-Ok.ensures h has))
    (subst (λ (v : SecondaryView). AppliesOne c.in-Ok.place c.apply_at.result v c.apply_at.new.self) (sym c.self.view_is) c.apply_at.ensures.applies)

pub returns-in-Err-clause-runs : goal.returns-in-Err-clause-runs
returns-in-Err-clause-runs g c = runs-self c.args.self.now
