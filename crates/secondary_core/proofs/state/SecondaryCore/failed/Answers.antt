use Rattle.std.proofs.Common.{◌≡◌, ◌≤◌, ◌∙◌, length, ap, arith, true}
use Rattle.peerdisk.specs.Pending.{is_pending}
use Rattle.secondary_core.proofs.Places.{all-after, fewer, may_start}
use Rattle.secondary_core.proofs.state.SecondaryCore.failed.Goals as goal

pub invariant_of-self : goal.invariant_of-self
invariant_of-self c =
    let s = c.self.inside in
    let there : is_pending c.args.place s.disk.pending ≡ true = rw (ap (λ s. s.state.pending) c.self.view_is)
    (may_start c.args.place c.args.self.now.state.pending c.requires) in
    let left = ap (λ d. d.pending) c.fault.ensures.left in
    let less : length c.fault.new.self.pending ≤ length s.disk.pending = rw left (fewer c.args.place s.disk.pending there) in
    record {
      in_range = c.self.invariant.in_range;
      pending = record {
        limit = ap (λ d. d.limit) c.fault.ensures.left ∙ c.self.invariant.pending.limit;
        size = c.self.invariant.pending.size;
        few = omega (arith, less, c.self.invariant.pending.few);
        pending = rw left (all-after _ c.args.place s.disk.pending c.self.invariant.pending.pending);
        counted = omega (arith, less, c.self.invariant.pending.counted);
      };
      served = tt;
      place = λ is. let place = c.self.invariant.place is in omega (arith, place, c.fault.ensures.reach);
      room = λ is. tt;
    }
