use Rattle.std.proofs.Common.{◌≡◌, ◌<◌, ◌∙◌, length, sym, arith}
use Rattle.peerdisk.proofs.Padding.{padded-full, padded-push, padded-take}
use Rattle.peerdisk.proofs.slots.put_holes.Goals as goal

pub loop-slots-init : goal.loop-slots-init
loop-slots-init c = record {
  len = omega (arith, c.truncate.ensures.len);
  capacity = c.truncate.ensures.capacity;
  slots = rw c.truncate.ensures.items (padded-take c.args.len c.args.slots.now.items);
}

pub loop-slots-preserved : goal.loop-slots-preserved
loop-slots-preserved c =
    let less : length c.loop-slots.slots.items < c.args.len = omega (arith, c.loop-slots-test.true, c.len.ensures, c.loop-slots.slots.ok) in
    record {
      len = omega (arith, c.push_back_reserved.ensures.len, c.loop-slots-test.true, c.len.ensures);
      capacity = c.push_back_reserved.ensures.capacity ∙ c.loop-slots.invariant.capacity;
      slots = rw c.push_back_reserved.ensures.items (padded-push c.args.len c.loop-slots.slots.items less ∙ c.loop-slots.invariant.slots);
    }

pub returns-clause-slots : goal.returns-clause-slots
returns-clause-slots c =
    let full : length c.loop-slots.slots.items ≡ c.args.len = omega (
      arith,
      c.loop-slots-test.false,
      c.len.ensures,
      c.loop-slots.slots.ok,
      c.loop-slots.invariant.len,
    ) in
    sym (padded-full c.args.len c.loop-slots.slots.items full) ∙ c.loop-slots.invariant.slots
