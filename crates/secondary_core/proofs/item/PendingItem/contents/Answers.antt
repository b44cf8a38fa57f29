use Rattle.std.proofs.Common.{arith}
use Rattle.secondary_core.proofs.Counted.{contents-are, count-is}
use Rattle.secondary_core.proofs.item.PendingItem.contents.Goals as goal

pub returns-clause-blocks : goal.returns-clause-blocks
returns-clause-blocks c =
    let s = c.self.inside in
    rw (← c.self.view_is) (contents-are s.kind s.range.first.0 s.range.count s.contents c.self.invariant.whole c.self.invariant.named)

pub returns-clause-whole : goal.returns-clause-whole
returns-clause-whole c =
    let s = c.self.inside in
    rw (← c.self.view_is) (let count = count-is s.kind s.range.first.0 s.range.count s.contents c.self.invariant.whole c.self.invariant.named in omega (
      arith,
      count,
      c.self.invariant.whole,
    ))
