use Rattle.std.proofs.Common.{◌≡◌, ◌≤◌, length, true}
use Rattle.std.specs.Prelude.{IsTrue}
use Rattle.model.specs.Primary.{PrimaryHistory}
use Rattle.model.specs.Secondary.{SecondaryHistory}
use Rattle.primary.specs.State.{node as primary_node}
use Rattle.primary_protocol.specs.Node.{NodeHas as PrimaryHas}
use Rattle.secondary.specs.State.{node as secondary_node}
use Rattle.secondary_protocol.specs.Node.{NodeHas as SecondaryHas}
use Rattle.settlement.proofs.Comparing.{many}
use Rattle.settlement.proofs.compare.unmarked.Given as goal

abbrev pub invariant-loop-number : goal.invariant-loop-number
invariant-loop-number g l = record {
  primary : l.primary ≡ record l.fn.primary { faults = l.primary.faults; steady = l.primary.steady; faithful = l.primary.faithful };
  secondary : l.secondary ≡ record l.fn.secondary { faults = l.secondary.faults; steady = l.secondary.steady; faithful = l.secondary.faithful };
  uncounted : (l.primary.faults ≡ l.fn.primary.faults) × (l.secondary.faults ≡ l.fn.secondary.faults);
  works : l.fn.primary.steady ≡ true → l.fn.secondary.steady ≡ true → (l.primary.steady ≡ true) × (l.secondary.steady ≡ true);
  local : length l.local ≡ 4096;
  peer : length l.peer ≡ 4096;
  few : l.count ≤ l.number;
  falls : (IsTrue l.primary.faithful → IsTrue l.fn.primary.faithful) × (IsTrue l.secondary.faithful → IsTrue l.fn.secondary.faithful);
  sure : l.fn.primary.steady ≡ true → l.fn.secondary.steady ≡ true
      → (l.primary.faithful ≡ l.fn.primary.faithful) × (l.secondary.faithful ≡ l.fn.secondary.faithful);
  count : IsTrue l.primary.faithful → IsTrue l.secondary.faithful → (p : PrimaryHistory) (s : SecondaryHistory) → PrimaryHas (primary_node l.fn.primary) p → SecondaryHas (secondary_node l.fn.secondary) s
      → l.count ≡ many p s l.number;
}
