use Rattle.std.proofs.Common.{length, ap, arith, rules}
use Rattle.packets.specs.Stream.{Held}
use Rattle.packets.proofs.Rows.{part_bounded}
use Rattle.packets.proofs.decoder.Decoder.feed.Goals as goal

pub returns-in-Some-clause-bounded : goal.returns-in-Some-clause-bounded
returns-in-Some-clause-bounded c =
    omega (arith, part_bounded c.self.inside.header c.self.inside.rest.items c.self.invariant, ap (λ (h : Held). length h.rest) c.self.view_is)

pub returns-in-Err-NoMemory-clause-no_memory : goal.returns-in-Err-NoMemory-clause-no_memory
returns-in-Err-NoMemory-clause-no_memory c = search rules
