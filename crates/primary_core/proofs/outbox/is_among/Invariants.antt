use Rattle.std.proofs.Common.{◌≡◌, drop}
use Rattle.primary_protocol.specs.Taking.{is_unsent}
use Rattle.primary_core.proofs.outbox.is_among.Given as goal

abbrev pub invariant-loop-index : goal.invariant-loop-index
invariant-loop-index l = is_unsent l.epoch (drop l.index l.items.items) ≡ is_unsent l.epoch l.items.items
