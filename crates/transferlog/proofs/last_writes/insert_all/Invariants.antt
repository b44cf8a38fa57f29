use Rattle.std.proofs.Common.{◌≡◌, ◌+◌, ◌≤◌, ℕ, nat_eq, Some}
use Rattle.std.specs.Prelude.{if◌then◌else◌}
use Rattle.std.specs.HashMap as hash
use Rattle.transferlog.proofs.Entries.{passed}
use Rattle.transferlog.proofs.last_writes.insert_all.Given as goal

abbrev pub invariant-loop-block : goal.invariant-loop-block
invariant-loop-block l = record {
  known : (block : ℕ) → hash.get nat_eq l.recent block ≡ (if passed l.first l.block block then Some l.number else hash.get nat_eq l.fn.recent block);
  room : l.first + l.count ≤ l.block + hash.spare l.recent;
}
