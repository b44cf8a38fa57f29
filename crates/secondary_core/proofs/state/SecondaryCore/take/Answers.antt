use Rattle.std.proofs.Common.{◌∙◌, ap, Err, None}
use Rattle.secondary_protocol.specs.Core.{SecondaryState}
use Rattle.endpoint.specs.Meaning.{received}
use Rattle.secondary_core.proofs.Checks.{closed, may-open}
use Rattle.secondary_core.proofs.state.SecondaryCore.take.Goals as goal

pub returns-in-Err : goal.returns-in-Err
returns-in-Err c =
    let s = c.args.self.now.state in
    ap (λ (t : SecondaryState). (Err c.in-Err.refusal, record t { end = None })) (ap (λ s. s.state) c.self.view_is)
    ∙ closed (received c.args.frame) s.end s c.judge.new.self.state c.in-Err.refusal (may-open s c.requires.may_take) c.in-Err.ensures
