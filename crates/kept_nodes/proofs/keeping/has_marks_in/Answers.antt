use Rattle.std.proofs.Common.{List, ℕ, ◌*◌, ◌∙◌, ap, arith, length-take}
use Rattle.metadata.specs.Says.{marked_in}
use Rattle.metadata.specs.declared.header.Header.{Header}
use Rattle.kept_nodes.proofs.Losing.{filed-has, left-same, marked-within, read-loses}
use Rattle.kept_nodes.proofs.keeping.has_marks_in.Goals as goal

pub returns-in_err-marks-clause-keeps : goal.returns-in_err-marks-clause-keeps
returns-in_err-marks-clause-keeps g c =
    read-loses g.F.StableFile.seen g.F.StableFile.may_leave g.F.StableFile.faithful c.marks.result _ c.args.metadata.now c.marks.new.self c.marks.ensures.refused
    c.marks.ensures.breaks c.marks.ensures.memory c.marks.ensures.falls
    (left-same g.F.StableFile.seen g.F.StableFile.may_leave g.F.StableFile.faithful g.F.StableFile.moment g.F.StableFile.left_since g.met.F.StableFile.counts_now
    c.args.metadata.now c.marks.new.self (λ broken. (c.marks.ensures.refused broken).1) c.marks.ensures.seen c.marks.ensures.any_moment)

pub returns-clause-keeps : goal.returns-clause-keeps
returns-clause-keeps g c =
    read-loses g.F.StableFile.seen g.F.StableFile.may_leave g.F.StableFile.faithful c.marks.result _ c.args.metadata.now c.marks.new.self c.marks.ensures.refused
    c.marks.ensures.breaks c.marks.ensures.memory c.marks.ensures.falls
    (left-same g.F.StableFile.seen g.F.StableFile.may_leave g.F.StableFile.faithful g.F.StableFile.moment g.F.StableFile.left_since g.met.F.StableFile.counts_now
    c.args.metadata.now c.marks.new.self (λ broken. (c.marks.ensures.refused broken).1) c.marks.ensures.seen c.marks.ensures.any_moment)

pub returns-clause-marked : goal.returns-clause-marked
returns-clause-marked g c = λ all still block in_extent is.
    let within = marked-within c.args.marks.now block is in
    let blocks = ap (λ (h : Header). h.blocks) c.header.ensures in
    ap (λ (f : List ℕ). marked_in f block) c.marks.ensures.seen
    ∙ filed-has (g.F.StableFile.seen c.args.metadata.now.file) c.marks.new.buffer c.args.marks.now (c.args.extent.0 * 1024) c.min-count.result _ block
    (c.in_ok-marks.ensures.read still) c.marks.auto.buffer (first_of (omega (arith, length-take c.min-count.result c.args.room.now, c.requires.room, c.min-count.ensures), grind (arith, length-take, c.requires.room, c.min-count.ensures))) (c.has_each.ensures all)
    (omega (arith, in_extent)) (omega (arith, in_extent, within, blocks, c.requires.blocks, c.min-count.ensures)) is
