use Rattle.std.proofs.Common.{sym, ◌∙◌, ap}
use Rattle.std.proofs.lemmas.Result.{on_err_weaker, on_ok_weaker}
use Rattle.metadata.specs.State.{MetadataState}
use Rattle.metadata.specs.Steps.{OnlyMarks}
use Rattle.kept_nodes.proofs.Writing.{call-comes}
use Rattle.kept_nodes.proofs.recording.write_run.Goals as goal

pub returns-then-is_marked-clause-comes : goal.returns-then-is_marked-clause-comes
returns-then-is_marked-clause-comes g c = λ still.
    let whole = sym c.is_broken.ensures.broken ∙ c.if-is_broken.false in
    call-comes g.F.StableFile.seen g.F.StableFile.may_leave g.F.StableFile.faithful g.F.StableFile.moment g.F.StableFile.left_since
    g.met.F.StableFile.counts_now
    c.mark.result (OnlyMarks c.args.first c.args.count) (OnlyMarks c.args.first c.args.count) c.args.metadata.now c.mark.new.self whole (λ d f step. step)
    (on_err_weaker c.mark.result (ap (λ (m : MetadataState g.row.F.Denot). m.is_broken)) c.mark.ensures.breaks)
    (on_ok_weaker c.mark.result (λ says. says still) c.mark.ensures.says) (c.mark.ensures.any_moment whole still)

pub returns-else-is_marked-clause-comes : goal.returns-else-is_marked-clause-comes
returns-else-is_marked-clause-comes g c = λ still.
    let whole = sym c.is_broken.ensures.broken ∙ c.if-is_broken.false in
    call-comes g.F.StableFile.seen g.F.StableFile.may_leave g.F.StableFile.faithful g.F.StableFile.moment g.F.StableFile.left_since
    g.met.F.StableFile.counts_now
    c.unmark.result (OnlyMarks c.args.first c.args.count) (OnlyMarks c.args.first c.args.count) c.args.metadata.now c.unmark.new.self whole (λ d f step. step)
    (on_err_weaker c.unmark.result (ap (λ (m : MetadataState g.row.F.Denot). m.is_broken)) c.unmark.ensures.breaks)
    (on_ok_weaker c.unmark.result (λ says. says still) c.unmark.ensures.says) (c.unmark.ensures.any_moment whole still)
