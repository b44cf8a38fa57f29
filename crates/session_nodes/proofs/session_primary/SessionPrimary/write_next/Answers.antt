use Rattle.std.proofs.Common.{◌≡◌, sym, subst}
use Rattle.blocks.specs.declared.refusal.Refusal.TheVariants.{NothingThere}
use Rattle.primary.specs.Calls.{WritesOne}
use Rattle.primary.specs.State.{PrimaryView}
use Rattle.session_nodes.proofs.Answers.{write-refused}
use Rattle.session_nodes.proofs.session_primary.SessionPrimary.write_next.Goals as goal

pub returns-in-Some-clause-refused : goal.returns-in-Some-clause-refused
returns-in-Some-clause-refused g c =
    write-refused (λ e. e ≡ NothingThere) _ c.in-Some.number c.self.inside.node c.write_at.new.self c.write_at.result c.self.invariant
    (λ h has. sym (c.in-Some.ensures h has))
    (subst (λ (v : PrimaryView). WritesOne c.in-Some.number c.write_at.result v c.write_at.new.self) (sym c.self.view_is) c.write_at.ensures.writes)
