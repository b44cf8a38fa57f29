-- The differences so far are counted, and only reads were made.
use Rattle.std.proofs.Common.{◌≡◌, ◌≤◌}
use Rattle.disk_pair.specs.Disks.{AreFaithful, WereRead, unmarked_between}
use Rattle.disk_pair.proofs.compare.unmarked_blocks.Given as goal

abbrev pub invariant-loop-number : goal.invariant-loop-number
invariant-loop-number g l = record {
  count : AreFaithful l.disks → l.count ≡ unmarked_between l.marks l.initial.disks.local l.initial.disks.peer l.number;
  few : l.count ≤ l.number;
  read : WereRead l.initial.disks l.disks;
}
