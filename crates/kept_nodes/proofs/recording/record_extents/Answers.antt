use Rattle.std.proofs.Common.{◌∙◌}
use Rattle.kept_nodes.proofs.Writing.{keeps-both}
use Rattle.kept_nodes.proofs.recording.record_extents.Goals as goal

pub returns-in_err-record_extent-clause-keeps : goal.returns-in_err-record_extent-clause-keeps
returns-in_err-record_extent-clause-keeps g c = keeps-both g.F.StableFile.seen g.F.StableFile.may_leave g.F.StableFile.faithful c.args.marks.now
    c.args.metadata.now
    c.loop-number.metadata c.record_extent.new.metadata c.loop-number.invariant.keeps c.record_extent.ensures.keeps

pub loop-number-preserved : goal.loop-number-preserved
loop-number-preserved g c =
    let inv = c.loop-number.invariant in
    let step = c.record_extent.ensures in
    record {
      keeps = keeps-both g.F.StableFile.seen g.F.StableFile.may_leave g.F.StableFile.faithful c.args.marks.now c.args.metadata.now
          c.loop-number.metadata c.record_extent.new.metadata inv.keeps step.keeps;
      identifiers = step.identifiers ∙ inv.identifiers;
      size = step.size ∙ inv.size;
      written = λ still. c.in_ok-record_extent.ensures.written still (inv.written (step.keeps.falls still));
    }
