use Rattle.std.proofs.Common.{◌<◌, ◌+◌, ◌==◌, not, length, sym, ◌∙◌, ap, arith, length-set}
use Rattle.metadata.specs.Steps.{OnlyEntry}
use Rattle.metadata.specs.State.{MetadataState}
use Rattle.metadata.proofs.Moments.{one_write}
use Rattle.metadata.proofs.Places.{byte-here}
use Rattle.metadata.proofs.Kept.{torn-entry, entry-kept, zero-left, extent-low, extents-few}
use Rattle.metadata.proofs.metadata.Metadata.leave.Goals as goal

pub returns-in_err-write_at-clause-any_moment : goal.returns-in_err-write_at-clause-any_moment
returns-in_err-write_at-clause-any_moment g c = rw (← c.self.view_is) λ whole faithful.
    let extent = c.args.extent.0 in
    let kept = c.self.invariant.kept whole (sym c.write_at.ensures.still_faithful ∙ faithful) in
    let count = ap (λ (s : MetadataState g.row.F.Denot). length s.entries) c.self.view_is in
    let low = extent-low c.self.inside.header extent _ c.self.invariant.sized c.self.invariant.few (omega (arith, count, c.requires.inside)) in
    one_write g.F.StableFile.moment g.F.StableFile.left_since g.F.StableFile.may_leave (OnlyEntry extent) (4096 + extent) 1 c.self.inside.file c.write_at.new.self
    (g.met.F.StableFile.only_now c.self.inside.file)
    (λ d f may torn. torn-entry c.self.inside.header c.self.inside.identifiers extent d f low (kept.left d may).opens torn)
    c.write_at.ensures.crash c.write_at.ensures.time

pub returns-clause-any_moment : goal.returns-clause-any_moment
returns-clause-any_moment g c = rw (← c.self.view_is) λ whole faithful.
    let extent = c.args.extent.0 in
    let kept = c.self.invariant.kept whole (sym c.write_at.ensures.still_faithful ∙ faithful) in
    let count = ap (λ (s : MetadataState g.row.F.Denot). length s.entries) c.self.view_is in
    let low = extent-low c.self.inside.header extent _ c.self.invariant.sized c.self.invariant.few (omega (arith, count, c.requires.inside)) in
    one_write g.F.StableFile.moment g.F.StableFile.left_since g.F.StableFile.may_leave (OnlyEntry extent) (4096 + extent) 1 c.self.inside.file c.write_at.new.self
    (g.met.F.StableFile.only_now c.self.inside.file)
    (λ d f may torn. torn-entry c.self.inside.header c.self.inside.identifiers extent d f low (kept.left d may).opens torn)
    c.write_at.ensures.crash c.write_at.ensures.time

pub returns-clause-says : goal.returns-clause-says
returns-clause-says g c = rw (← c.self.view_is) λ faithful.
    let extent = c.args.extent.0 in
    let kept = c.self.invariant.kept c.if-self.false (sym c.write_at.ensures.still_faithful ∙ faithful) in
    let count = ap (λ (s : MetadataState g.row.F.Denot). length s.entries) c.self.view_is in
    let low = extent-low c.self.inside.header extent _ c.self.invariant.sized c.self.invariant.few (omega (arith, count, c.requires.inside)) in
    torn-entry c.self.inside.header c.self.inside.identifiers extent _ _ low kept.says.opens c.in_ok-write_at.ensures.written.elsewhere

pub returns-clause-left : goal.returns-clause-left
returns-clause-left g c faithful =
    ap (λ n. not (n == 0)) (byte-here (4096 + c.args.extent.0) 0 _ c.in_ok-write_at.ensures.written.here)

pub invariant_of-self-2 : goal.invariant_of-self-2
invariant_of-self-2 g c =
    let extent = c.args.extent.0 in
    let entries = c.self.inside.entries.items in
    let count = ap (λ (s : MetadataState g.row.F.Denot). length s.entries) c.self.view_is in
    let inside : extent < length entries = omega (arith, count, c.requires.inside) in
    let few = extents-few c.self.inside.header entries c.self.invariant.sized c.self.invariant.few in
    record {
      sized = length-set entries extent 0 ∙ c.self.invariant.sized;
      few = c.self.invariant.few;
      slot = c.self.invariant.slot;
      kept = λ whole faithful.
          let kept = c.self.invariant.kept c.if-self.false (sym c.write_at.ensures.still_faithful ∙ faithful) in
          entry-kept _ _ _ _ c.self.inside.header c.self.inside.identifiers c.self.inside.selected extent 0 entries inside few kept c.in_ok-write_at.ensures.written
          (λ f may.
          let from = c.write_at.ensures.crash f may in
          zero-left c.self.inside.header c.self.inside.identifiers c.self.inside.selected extent entries from.0 f inside few (kept.left from.0 from.1) from.2);
    }
