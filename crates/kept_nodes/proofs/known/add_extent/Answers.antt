use Rattle.std.proofs.Common.{◌||◌, ◌+◌, ◌-◌, ◌*◌, ℕ, ◌∙◌, ap, arith}
use Rattle.bitmap.specs.Marks.{marked}
use Rattle.blocks.specs.Ranges.{is_between}
use Rattle.kept_nodes.proofs.Filed.{adds-none, adds-marking, between-none, between-more, extent-between}
use Rattle.kept_nodes.proofs.known.add_extent.Goals as goal

pub loop-first-init : goal.loop-first-init
loop-first-init c = record {
  from = omega arith;
  below = omega arith;
  adds = adds-none c.args.known.now (is_between (c.args.extent * 1024) (c.args.extent * 1024 - c.args.extent * 1024)) (between-none (c.args.extent * 1024));
}

pub loop-first-preserved : goal.loop-first-preserved
loop-first-preserved c =
    let start : ℕ = c.args.extent * 1024 in
    let first : ℕ = c.loop-first.first in
    let count : ℕ = c.min-count.result in
    record {
      from = omega arith;
      below = omega arith;
      adds = adds-marking _ _ _ (is_between start (first - start)) (is_between first count) (is_between start (first + count - start)) c.loop-first.invariant.adds c.mark.ensures
          (λ b. between-more first count b start c.loop-first.invariant.from);
    }

pub returns-clause-marks : goal.returns-clause-marks
returns-clause-marks c block low =
    c.loop-first.invariant.adds.marks block low
    ∙ ap (λ m. marked c.args.known.now block || m) (extent-between c.args.extent block c.loop-first.first _ (omega (arith, c.len.ensures, c.min-end.ensures)) c.requires.inside low)
