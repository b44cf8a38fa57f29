use Rattle.std.proofs.Common.{refl, sym, ◌∙◌}
use Rattle.endpoint.specs.Meaning.{received}
use Rattle.primary_core.specs.State.{end_of}
use Rattle.primary_core.proofs.Ends.{end-at}
use Rattle.primary_core.proofs.Taken.{take-refused}
use Rattle.primary_core.proofs.state.PrimaryCore.take.Goals as goal

pub returns-then-is_err : goal.returns-then-is_err
returns-then-is_err c =
    let s = c.args.self.now in
    let e = end_of c.in-Some.connection in
    let is = end-at c.self.inside s c.in-Some.connection c.self.view_is c.in-Some.is in
    take-refused (received c.args.frame) s.state e c.judge-taken.new.self.state c.judge-taken.result (c.close_open.result, c.close_open.new.self.state) is
    (c.judge-taken.ensures e is) (sym c.is_err.ensures.value ∙ c.if-is_err.true) (c.close_open.ensures e refl)
