use Rattle.std.proofs.Common.{◌≡◌, ◌*◌, ◌≤◌, length, ap, arith, rules}
use Rattle.secondary_protocol.proofs.Node.Sized.{disk-long}
use Rattle.secondary.proofs.state.Secondary.read.Goals as goal

pub read_blocks-requires-clause-inside : goal.read_blocks-requires-clause-inside
read_blocks-requires-clause-inside g c =
    let long : c.self.inside.core.state.settings.blocks ≤ length (g.S.Store.contents c.self.inside.store) = disk-long _ c.self.invariant.had in
    let device = (c.in_ok-range.ensures.accepted.0 (search rules)).inside in
    let first = c.in_ok-range.ensures.range.0 in
    let count = c.in_ok-range.ensures.range.1 in
    let size : length c.deref_mut.result.now ≡ c.in_ok-range.range.count * 4096 = search rules in
    let blocks : c.settings.result.blocks ≡ c.self.inside.core.state.settings.blocks = ap (λ s. s.blocks) c.settings.ensures in
    omega (arith, long, device, first, count, size, blocks)
