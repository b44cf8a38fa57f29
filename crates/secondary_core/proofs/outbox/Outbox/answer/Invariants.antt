-- What was to be acknowledged is the same, of what is left and with what is acknowledged.
use Rattle.std.proofs.Common.{◌≡◌, ◌+◌, ◌≤◌, length}
use Rattle.secondary_core.specs.Outboxes.{IsOutbox, outbox_of, acknowledging}
use Rattle.secondary_core.proofs.outbox.Outbox.answer.Given as goal

abbrev pub invariant-loop-self : goal.invariant-loop-self
invariant-loop-self l = record {
  same : acknowledging l.disk.pending (outbox_of l.self-inside) ≡ acknowledging l.disk.pending l.fn.self;
  room : length l.self-inside.due.items + length l.self-inside.sizes.items ≤ l.fn.self.answers;
  fits : IsOutbox l.self-inside;
}

abbrev pub decreases-loop-self : goal.decreases-loop-self
decreases-loop-self l = length l.self-inside.sizes.items
