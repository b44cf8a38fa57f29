use Rattle.std.proofs.Common.{◌∙◌, sym, subst}
use Rattle.model.specs.Secondary.{secondary_connection}
use Rattle.secondary_protocol.specs.Node.{NodeHas}
use Rattle.secondary_protocol.proofs.Node.Hello.{hello-done}
use Rattle.secondary.specs.State.{SecondaryView, node}
use Rattle.secondary.proofs.state.Secondary.is_hello_done.Goals as goal

pub returns : goal.returns
returns g c h has =
    c.is_hello_done.ensures ∙ hello-done c.self.inside.core.state.end (secondary_connection h)
    (subst (λ (v : SecondaryView). NodeHas (node v) h) (sym c.self.view_is) has).leaves.core.last.end
