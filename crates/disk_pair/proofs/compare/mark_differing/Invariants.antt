-- The blocks so far on which the disks differ are marked, and only reads were made.
use Rattle.std.proofs.Common.{◌≡◌, length}
use Rattle.disk_pair.specs.Disks.{AreFaithful, WereRead}
use Rattle.disk_pair.proofs.Marking.{Marks}
use Rattle.disk_pair.proofs.compare.mark_differing.Given as goal

abbrev pub invariant-loop-number : goal.invariant-loop-number
invariant-loop-number g l = record {
  size : length l.marks ≡ length l.initial.marks;
  marks : AreFaithful l.disks → Marks l.initial.disks.local l.initial.disks.peer l.number l.marks;
  read : WereRead l.initial.disks l.disks;
}
