use Rattle.std.proofs.Common.{arith, length-take}
use Rattle.metadata.proofs.judge.judge_header.Goals as goal

pub slice_bounds-sum_of-end : goal.slice_bounds-sum_of-end
slice_bounds-sum_of-end c = omega (arith, length-take 40 c.args.bytes.now, c.requires)
