use Rattle.std.proofs.Common.{◌∙◌}
use Rattle.metadata.specs.Steps.{MayEnter}
use Rattle.metadata.proofs.Moments.{goes_on}
use Rattle.metadata.proofs.Entered.{run-follows, enters-run}
use Rattle.metadata.proofs.enter_all.write_missing.Goals as goal

pub returns-in_err-write_at-clause-any_moment : goal.returns-in_err-write_at-clause-any_moment
returns-in_err-write_at-clause-any_moment g c room =
    goes_on g.F.StableFile.moment g.F.StableFile.left_since g.F.StableFile.may_leave (MayEnter c.args.entries.now) c.args.file.now c.loop-run.file c.write_at.new.self
    (c.loop-run.invariant.any_moment room) c.write_at.ensures.time
    (run-follows _ _ _ c.args.entries.now c.loop-run.done c.in-Some.run'.first c.in-Some.run'.count room c.requires c.in-Some.ensures
    (c.loop-run.invariant.crash room) c.write_at.ensures.crash)

pub loop-run-preserved : goal.loop-run-preserved
loop-run-preserved g c = record {
  inside = c.in-Some.ensures.inside;
  written = λ room. enters-run c.args.entries.now _ _ _ c.loop-run.done c.in-Some.run'.first c.in-Some.run'.count room c.requires c.in-Some.ensures
      (c.loop-run.invariant.written room) c.in_ok-write_at.ensures.written;
  crash = λ room. run-follows _ _ _ c.args.entries.now c.loop-run.done c.in-Some.run'.first c.in-Some.run'.count room c.requires c.in-Some.ensures
      (c.loop-run.invariant.crash room) c.write_at.ensures.crash;
  any_moment = λ room.
      goes_on g.F.StableFile.moment g.F.StableFile.left_since g.F.StableFile.may_leave (MayEnter c.args.entries.now) c.args.file.now c.loop-run.file c.write_at.new.self
      (c.loop-run.invariant.any_moment room) c.write_at.ensures.time
      (run-follows _ _ _ c.args.entries.now c.loop-run.done c.in-Some.run'.first c.in-Some.run'.count room c.requires c.in-Some.ensures
      (c.loop-run.invariant.crash room) c.write_at.ensures.crash);
  still_faithful = c.write_at.ensures.still_faithful ∙ c.loop-run.invariant.still_faithful;
  uncounted = c.in_ok-write_at.ensures.uncounted ∙ c.loop-run.invariant.uncounted;
}
