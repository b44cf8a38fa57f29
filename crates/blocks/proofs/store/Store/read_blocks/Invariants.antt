use Rattle.blocks.proofs.Buffers.{IsReading}
use Rattle.blocks.proofs.store.Store.read_blocks.Given as goal

abbrev pub invariant-loop-offset : goal.invariant-loop-offset
invariant-loop-offset g l =
    IsReading (g.Self.Store.contents l.fn.self) (g.Self.Store.contents l.self) l.first.0 l.buffer l.offset (g.Self.Store.faults l.fn.self) (g.Self.Store.faults l.self)
    (g.Self.Store.steady l.fn.self) (g.Self.Store.steady l.self) (g.Self.Store.faithful l.fn.self) (g.Self.Store.faithful l.self)
