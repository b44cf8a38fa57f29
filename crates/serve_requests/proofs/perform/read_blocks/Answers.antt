use Rattle.std.proofs.Common.{rules, ◌∙◌}
use Rattle.told.specs.Log.{SaysHeldSince}
use Rattle.told.proofs.Seeing.{prefix-on, since-earlier}
use Rattle.serve_requests.proofs.Appending.{held-one, left-one}
use Rattle.serve_requests.proofs.Telling.{held-on}
use Rattle.serve_requests.proofs.perform.read_blocks.Goals as goal

pub loop-range-preserved : goal.loop-range-preserved
loop-range-preserved g c = record {
  held = held-one (SaysHeldSince c.args.me.now.log c.read_range.new.me.log) _ _ _ _ _
      (held-on c.args.me.now.log c.loop-range.me.log c.read_range.new.me.log c.read_range.ensures.goes_on _ _ c.loop-range.invariant.held)
      (since-earlier c.args.me.now.log c.loop-range.me.log c.read_range.new.me.log c.loop-range.invariant.goes_on _ _ _ c.in_ok-bytes.ensures.held)
      (search rules);
  left = left-one _ _ _ _ _ c.loop-range.invariant.left c.in-Some.ensures.steps;
  goes_on = prefix-on c.args.me.now.log c.loop-range.me.log c.read_range.new.me.log c.loop-range.invariant.goes_on c.read_range.ensures.goes_on;
  mine = c.read_range.ensures.mine ∙ c.loop-range.invariant.mine;
}
