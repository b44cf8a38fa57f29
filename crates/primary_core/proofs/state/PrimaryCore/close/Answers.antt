use Rattle.std.proofs.Common.{ℕ, refl, sym, ◌∙◌, ap, Ok}
use Rattle.primary_protocol.specs.Core.{PrimaryState}
use Rattle.primary_core.specs.State.{end_of}
use Rattle.primary_core.proofs.Ends.{closes, end-at}
use Rattle.primary_core.proofs.state.PrimaryCore.close.Goals as goal

pub returns : goal.returns
returns c =
    let x = c.in-Some.connection in
    ap (λ (p : ℕ × PrimaryState). (Ok p.0, p.1)) (c.close_open.ensures (end_of x) refl)
    ∙ sym (closes c.args.self.now.state (end_of x) (end-at c.self.inside c.args.self.now x c.self.view_is c.in-Some.is))
