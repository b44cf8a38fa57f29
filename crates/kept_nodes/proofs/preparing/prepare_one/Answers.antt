use Rattle.std.proofs.Common.{◌≡◌, true, sym, ◌∙◌, ap}
use Rattle.kept_nodes.proofs.Losing.{loses-both}
use Rattle.metadata.specs.State.{MetadataState, is_entered}
use Rattle.kept_nodes.proofs.preparing.prepare_one.Goals.{then-not-branch+in_ok-write_marks, else-not-branch}
use Rattle.kept_nodes.proofs.preparing.prepare_one.Goals as goal

pub returns-in_err-write_marks-clause-keeps : goal.returns-in_err-write_marks-clause-keeps
returns-in_err-write_marks-clause-keeps g c =
    let entered : is_entered c.has_marks.new.metadata.entries c.args.extent.0 ≡ true =
    ap (λ (m : MetadataState g.row.F.Denot). is_entered m.entries c.args.extent.0) c.has_marks.ensures.memory
    ∙ (sym c.is_entered.ensures ∙ c.if-not-is_entered.false) in
    loses-both g.F.StableFile.seen g.F.StableFile.may_leave g.F.StableFile.faithful c.args.metadata.now c.has_marks.new.metadata
    c.write_marks.new.metadata c.has_marks.ensures.keeps (c.write_marks.ensures.keeps entered)

pub returns-clause-keeps : goal.returns-clause-keeps
returns-clause-keeps g c =
    let entered : is_entered c.has_marks.new.metadata.entries c.args.extent.0 ≡ true =
    ap (λ (m : MetadataState g.row.F.Denot). is_entered m.entries c.args.extent.0) c.has_marks.ensures.memory
    ∙ (sym c.is_entered.ensures ∙ c.if-not-is_entered.false) in
    elim c.if-not-branch.branch [
      | then-not-branch+in_ok-write_marks w ↦ rw w.metadata-is (loses-both g.F.StableFile.seen g.F.StableFile.may_leave g.F.StableFile.faithful
          c.args.metadata.now c.has_marks.new.metadata w.write_marks.new.metadata c.has_marks.ensures.keeps (w.write_marks.ensures.keeps entered))
      | else-not-branch w ↦ rw w.metadata-is c.has_marks.ensures.keeps
    ]
