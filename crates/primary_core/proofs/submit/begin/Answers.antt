use Rattle.std.proofs.Common.{◌∙◌, ap}
use Rattle.overlap.specs.Holdings.{without}
use Rattle.primary_core.proofs.Submission.{without-new}
use Rattle.primary_core.proofs.submit.begin.Goals as goal

pub returns-in-Err-clause-unheld : goal.returns-in-Err-clause-unheld
returns-in-Err-clause-unheld c =
    c.release.ensures ∙ (ap (without c.args.number) c.in_ok-hold.ensures.held
    ∙ without-new c.args.number c.args.range.first.0 c.args.range.count c.args.held.now c.requires.new)
