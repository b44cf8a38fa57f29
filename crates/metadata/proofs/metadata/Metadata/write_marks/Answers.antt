use Rattle.std.proofs.Common.{◌≤◌, ◌+◌, length, sym, ◌∙◌, ap, arith}
use Rattle.metadata.specs.Steps.{OnlyMarks}
use Rattle.metadata.specs.State.{MetadataState}
use Rattle.metadata.proofs.Moments.{one_write}
use Rattle.metadata.proofs.Kept.{torn-marks, marks-kept, extents-few}
use Rattle.metadata.proofs.metadata.Metadata.write_marks.Goals as goal

pub returns-in_err-write_at-clause-any_moment : goal.returns-in_err-write_at-clause-any_moment
returns-in_err-write_at-clause-any_moment g c = rw (← c.self.view_is) λ whole faithful.
    let count = length c.args.bytes.now in
    let kept = c.self.invariant.kept whole (sym c.write_at.ensures.still_faithful ∙ faithful) in
    let blocks = ap (λ (s : MetadataState g.row.F.Denot). s.header.blocks) c.self.view_is in
    let inside : c.args.first.0 + count ≤ c.self.inside.header.blocks = omega (arith, blocks, c.requires.inside) in
    one_write g.F.StableFile.moment g.F.StableFile.left_since g.F.StableFile.may_leave (OnlyMarks c.args.first.0 count) (2101248 + c.args.first.0) count c.self.inside.file c.write_at.new.self
    (g.met.F.StableFile.only_now c.self.inside.file)
    (λ d f may torn. torn-marks c.self.inside.header c.self.inside.identifiers c.args.first.0 count d f inside (kept.left d may).opens torn)
    c.write_at.ensures.crash c.write_at.ensures.time

pub returns-clause-any_moment : goal.returns-clause-any_moment
returns-clause-any_moment g c = rw (← c.self.view_is) λ whole faithful.
    let count = length c.args.bytes.now in
    let kept = c.self.invariant.kept whole (sym c.write_at.ensures.still_faithful ∙ faithful) in
    let blocks = ap (λ (s : MetadataState g.row.F.Denot). s.header.blocks) c.self.view_is in
    let inside : c.args.first.0 + count ≤ c.self.inside.header.blocks = omega (arith, blocks, c.requires.inside) in
    one_write g.F.StableFile.moment g.F.StableFile.left_since g.F.StableFile.may_leave (OnlyMarks c.args.first.0 count) (2101248 + c.args.first.0) count c.self.inside.file c.write_at.new.self
    (g.met.F.StableFile.only_now c.self.inside.file)
    (λ d f may torn. torn-marks c.self.inside.header c.self.inside.identifiers c.args.first.0 count d f inside (kept.left d may).opens torn)
    c.write_at.ensures.crash c.write_at.ensures.time

pub returns-clause-says : goal.returns-clause-says
returns-clause-says g c = rw (← c.self.view_is) λ faithful.
    let count = length c.args.bytes.now in
    let kept = c.self.invariant.kept c.if-self.false (sym c.write_at.ensures.still_faithful ∙ faithful) in
    let blocks = ap (λ (s : MetadataState g.row.F.Denot). s.header.blocks) c.self.view_is in
    let inside : c.args.first.0 + count ≤ c.self.inside.header.blocks = omega (arith, blocks, c.requires.inside) in
    torn-marks c.self.inside.header c.self.inside.identifiers c.args.first.0 count _ _ inside kept.says.opens c.in_ok-write_at.ensures.written.elsewhere

pub invariant_of-self-2 : goal.invariant_of-self-2
invariant_of-self-2 g c =
    let blocks = ap (λ (s : MetadataState g.row.F.Denot). s.header.blocks) c.self.view_is in
    let inside : c.args.first.0 + length c.args.bytes.now ≤ c.self.inside.header.blocks = omega (arith, blocks, c.requires.inside) in
    record {
      sized = c.self.invariant.sized;
      few = c.self.invariant.few;
      slot = c.self.invariant.slot;
      kept = λ whole faithful.
          let kept = c.self.invariant.kept c.if-self.false (sym c.write_at.ensures.still_faithful ∙ faithful) in
          marks-kept _ _ _ _ c.self.inside.header c.self.inside.identifiers c.self.inside.selected c.args.first.0 c.args.bytes.now c.self.inside.entries.items inside
          (extents-few c.self.inside.header c.self.inside.entries.items c.self.invariant.sized c.self.invariant.few) kept c.in_ok-write_at.ensures.written.elsewhere c.write_at.ensures.crash;
    }
