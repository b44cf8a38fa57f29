use Rattle.std.proofs.Common.{◌+◌, ◌≤◌, length, ◌∙◌, sym, ap, subst, arith}
use Rattle.blocks.specs.Contents.{blocks_of, IsTorn}
use Rattle.file_store.specs.Stores.{disk_of, faithful_of}
use Rattle.file_store.proofs.Replays.{torn-noted}
use Rattle.file_store.proofs.store.FileStore.find_remains.Goals.{in-New, in-Old, in-Mixed}
use Rattle.file_store.proofs.store.FileStore.find_remains.Goals as goal

pub loop-offset-preserved : goal.loop-offset-preserved
loop-offset-preserved g c =
    let old = disk_of g.X.OpeningContents.held c.args.self.now in
    let inside : c.args.range.first.0 + c.args.range.count ≤ length old = omega (arith, c.args.self.now.sized, c.requires.inside) in
    let was = c.loop-offset.invariant in
    let blocks = blocks_of 4096 c.args.bytes.now in
    elim c.match-put_again.branch [
      | in-New w ↦ record {
        torn = subst (IsTorn old c.args.range.first.0 blocks) (sym (ap (disk_of g.X.OpeningContents.held) w.self-is ∙ c.put_again.ensures.new w.in-New.is))
            (torn-noted old _ c.args.range.first.0 c.loop-offset.offset c.args.range.count c.args.bytes.now was.torn
            c.loop-offset-test.true c.requires.whole inside);
        faithful = ap (faithful_of g.X.OpeningContents.held) w.self-is ∙ (c.put_again.ensures.faithful ∙ was.faithful);
        same = record {
          blocks = ap (λ s. s.blocks) w.self-is ∙ (c.put_again.ensures.same.blocks ∙ was.same.blocks);
          path = ap (λ s. s.file.path) w.self-is ∙ (c.put_again.ensures.same.path ∙ was.same.path);
          faults = ap (λ s. s.faults.count) w.self-is ∙ (c.put_again.ensures.same.faults ∙ was.same.faults);
        };
      }
      | in-Old w ↦ record {
        torn = subst (IsTorn old c.args.range.first.0 blocks) (sym (ap (disk_of g.X.OpeningContents.held) w.self-is ∙ c.put_again.ensures.old w.in-Old.is)) was.torn;
        faithful = ap (faithful_of g.X.OpeningContents.held) w.self-is ∙ (c.put_again.ensures.faithful ∙ was.faithful);
        same = record {
          blocks = ap (λ s. s.blocks) w.self-is ∙ (c.put_again.ensures.same.blocks ∙ was.same.blocks);
          path = ap (λ s. s.file.path) w.self-is ∙ (c.put_again.ensures.same.path ∙ was.same.path);
          faults = ap (λ s. s.faults.count) w.self-is ∙ (c.put_again.ensures.same.faults ∙ was.same.faults);
        };
      }
      | in-Mixed w ↦ record {
        torn = subst (IsTorn old c.args.range.first.0 blocks) (sym (ap (disk_of g.X.OpeningContents.held) w.self-is ∙ c.put_again.ensures.mixed w.in-Mixed.is)) was.torn;
        faithful = ap (faithful_of g.X.OpeningContents.held) w.self-is ∙ (c.put_again.ensures.faithful ∙ was.faithful);
        same = record {
          blocks = ap (λ s. s.blocks) w.self-is ∙ (c.put_again.ensures.same.blocks ∙ was.same.blocks);
          path = ap (λ s. s.file.path) w.self-is ∙ (c.put_again.ensures.same.path ∙ was.same.path);
          faults = ap (λ s. s.faults.count) w.self-is ∙ (c.put_again.ensures.same.faults ∙ was.same.faults);
        };
      }
    ]
