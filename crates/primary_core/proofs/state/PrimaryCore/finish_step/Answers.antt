use Rattle.std.proofs.Common.{sym, ◌∙◌, ap, arith}
use Rattle.primary_protocol.specs.Core.{PrimaryState}
use Rattle.primary_core.proofs.state.PrimaryCore.finish_step.Goals as goal

pub append-requires-clause-room : goal.append-requires-clause-room
append-requires-clause-room c e is =
    let reported = c.apply_log_report.ensures.state in
    let end = sym (ap (λ (x : PrimaryState). x.end) reported) ∙ is in
    let enough = rw end at (rw c.in-Some.is at c.requires.room) in
    rw (ap (λ (x : PrimaryState). x.log) reported, c.apply_log_report.ensures.room) (omega (arith, enough))
