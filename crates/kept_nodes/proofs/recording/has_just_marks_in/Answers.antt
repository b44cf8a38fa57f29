use Rattle.std.proofs.Common.{List, ℕ, ◌*◌, ◌∙◌, ap, arith, length-take}
use Rattle.metadata.specs.Says.{marked_in}
use Rattle.metadata.specs.declared.header.Header.{Header}
use Rattle.kept_nodes.proofs.Writing.{filed-just}
use Rattle.kept_nodes.proofs.recording.has_just_marks_in.Goals as goal

pub returns-clause-same : goal.returns-clause-same
returns-clause-same g c = λ all still block within in_extent.
    let blocks = ap (λ (h : Header). h.blocks) c.header.ensures in
    ap (λ (f : List ℕ). marked_in f block) c.marks.ensures.seen
    ∙ filed-just (g.F.StableFile.seen c.args.metadata.now.file) c.marks.new.buffer c.args.marks.now (c.args.extent.0 * 1024) c.min-count.result _ block
    (c.in_ok-marks.ensures.read still) c.marks.auto.buffer (first_of (
      omega (
        arith,
        length-take c.min-count.result c.args.room.now,
        c.requires.room,
        c.min-count.ensures,
      ),
      grind (arith, length-take, c.requires.room, c.min-count.ensures),
    )) (c.are_filed.ensures all)
    (omega (arith, in_extent)) (omega (arith, in_extent, within, blocks, c.requires.blocks, c.min-count.ensures))
