use Rattle.std.proofs.Common.{sym, ◌∙◌, ap}
use Rattle.std.specs.Prelude.{option_map}
use Rattle.overlap.specs.Holdings.{conflict}
use Rattle.primary_core.specs.State.{way_in, way_of}
use Rattle.primary_core.proofs.Submission.{held-under, conflict-block}
use Rattle.primary_core.proofs.state.PrimaryCore.conflict.Goals as goal

pub returns-then-meets : goal.returns-then-meets
returns-then-meets c =
    let s = c.self.inside in
    let first = c.args.range.first.0 in
    let count = c.args.range.count in
    let under = held-under c.in-Some.way s.connection s.held (sym (ap (option_map way_of) c.in-Some.is) ∙ (c.under_way.ensures
    ∙ ap (λ v. way_in v.state.end) (sym c.self.view_is))) in
    conflict-block first count c.in-Some.way.block.0 s.held (sym c.meets.ensures ∙ c.if-meets.true)
    ∙ (ap (conflict first count) (sym under) ∙ ap (λ v. conflict first count v.state.held) c.self.view_is)
