use Rattle.std.proofs.Common.{inl, inr, sym, ◌∙◌, ap}
use Rattle.kept_nodes.proofs.Writing.{keeps-both, keeps-lost, keeps-read}
use Rattle.metadata.specs.declared.header.Header.{Header}
use Rattle.kept_nodes.proofs.recording.record_extent.Goals as goal

pub returns-in_err-enter_if_marked-clause-keeps : goal.returns-in_err-enter_if_marked-clause-keeps
returns-in_err-enter_if_marked-clause-keeps g c =
    keeps-read g.F.StableFile.seen g.F.StableFile.may_leave g.F.StableFile.faithful c.args.marks.now c.args.metadata.now c.has_just_marks.new.metadata
    c.enter_if_marked.new.metadata c.requires.blocks c.has_just_marks.ensures.memory c.has_just_marks.ensures.falls c.has_just_marks.ensures.left
    c.enter_if_marked.ensures.keeps

pub returns-clause-keeps : goal.returns-clause-keeps
returns-clause-keeps g c =
    let so_far = keeps-read g.F.StableFile.seen g.F.StableFile.may_leave g.F.StableFile.faithful c.args.marks.now c.args.metadata.now
    c.has_just_marks.new.metadata
    c.enter_if_marked.new.metadata c.requires.blocks c.has_just_marks.ensures.memory c.has_just_marks.ensures.falls c.has_just_marks.ensures.left
    c.enter_if_marked.ensures.keeps in
    keeps-both g.F.StableFile.seen g.F.StableFile.may_leave g.F.StableFile.faithful c.args.marks.now c.args.metadata.now c.enter_if_marked.new.metadata
    c.write_marks.new.metadata so_far (elim c.in_ok-enter_if_marked.ensures.entered [
      | inl is ↦ keeps-lost g.F.StableFile.seen g.F.StableFile.may_leave g.F.StableFile.faithful c.args.marks.now c.enter_if_marked.new.metadata
          c.write_marks.new.metadata (c.requires.blocks ∙ sym (ap (λ (h : Header). h.blocks) so_far.header)) (c.write_marks.ensures.keeps is)
      | inr none ↦ c.write_marks.ensures.spares none
    ])
