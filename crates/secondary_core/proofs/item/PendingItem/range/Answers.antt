use Rattle.secondary_core.proofs.Counted.{count-is}
use Rattle.secondary_core.proofs.item.PendingItem.range.Goals as goal

pub returns-clause-count : goal.returns-clause-count
returns-clause-count c =
    let s = c.self.inside in
    rw (← c.self.view_is) (count-is s.kind s.range.first.0 s.range.count s.contents c.self.invariant.whole c.self.invariant.named)
