use Rattle.std.proofs.Common.{sym, ◌∙◌, ap}
use Rattle.std.proofs.lemmas.Bool.{both_ways}
use Rattle.std.proofs.lemmas.Result.{on_err_weaker, on_ok_weaker}
use Rattle.metadata.specs.State.{MetadataState}
use Rattle.metadata.specs.Steps.{OnlyEntry, SameMarks}
use Rattle.kept_nodes.proofs.Writing.{call-comes}
use Rattle.kept_nodes.proofs.recording.leave_one.Goals as goal

pub returns-clause-comes : goal.returns-clause-comes
returns-clause-comes g c = λ still.
    let whole = sym c.is_broken.ensures.broken ∙ c.if-is_broken.false in
    call-comes g.F.StableFile.seen g.F.StableFile.may_leave g.F.StableFile.faithful g.F.StableFile.moment g.F.StableFile.left_since
    g.met.F.StableFile.counts_now
    c.leave.result (OnlyEntry c.args.extent.0) SameMarks c.args.metadata.now c.leave.new.self whole (λ d f step. step.marks)
    (on_err_weaker c.leave.result (λ breaks. ap (λ (m : MetadataState g.row.F.Denot). m.is_broken) (breaks (both_ways c.args.metadata.now.is_broken whole)))
    c.leave.ensures.breaks) (on_ok_weaker c.leave.result (λ says. says still) c.leave.ensures.says) (c.leave.ensures.any_moment whole still)
