use Rattle.std.proofs.Common.{◌≡◌}
use Rattle.primary.proofs.Confirming.{IsConfirming}
use Rattle.primary.proofs.state.Primary.confirm.Given as goal

abbrev pub invariant-loop-receipt : goal.invariant-loop-receipt
invariant-loop-receipt g l = record {
  rest : l.self-inside ≡ record l.initial.self-inside { core = l.self-inside.core };
  state : l.self-inside.core ≡ record l.initial.self-inside.core { confirmed = l.self-inside.core.confirmed };
  confirming : IsConfirming l.initial.self-inside.core.state l.receipts l.receipt-index l.self-inside.core.confirmed;
}
