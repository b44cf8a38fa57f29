use Rattle.std.proofs.Common.{refl}
use Rattle.secondary_core.proofs.Counted.{count-is, first-is}
use Rattle.secondary_core.proofs.item.PendingItem.naming.Goals as goal

pub returns-clause-named : goal.returns-clause-named
returns-clause-named c =
    let s = c.self.inside in
    let count = count-is s.kind s.range.first.0 s.range.count s.contents c.self.invariant.whole c.self.invariant.named in
    rw (← c.self.view_is) (rw (count, first-is s.kind s.range.first.0 s.contents) refl)
