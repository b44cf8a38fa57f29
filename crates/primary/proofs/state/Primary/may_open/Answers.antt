use Rattle.std.proofs.Common.{◌∙◌, sym, ap, false, subst}
use Rattle.endpoint.specs.Calls.{refusal_in}
use Rattle.model.specs.Refusals.{first_refusal}
use Rattle.primary_protocol.specs.Node.{NodeHas}
use Rattle.primary_protocol.specs.Transitions.{open_tests}
use Rattle.primary_protocol.proofs.Node.Asked.{open-tests-same}
use Rattle.primary.proofs.Asked.{refusal-of-tests}
use Rattle.primary.specs.State.{PrimaryView, node}
use Rattle.primary.proofs.state.Primary.may_open.Goals as goal

pub returns : goal.returns
returns g c h has =
    ap refusal_in c.may_open.ensures ∙ refusal-of-tests (open_tests c.args.sync c.args.loss false c.self.inside.core.state)
    ∙ ap first_refusal (open-tests-same c.args.sync c.args.loss c.self.inside.core.state h
    (subst (λ (v : PrimaryView). NodeHas (node v) h) (sym c.self.view_is) has).leaves.core)
