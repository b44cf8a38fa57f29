-- The blocks so far are the same, and only reads were made.
use Rattle.std.proofs.Common.{ℕ, ◌≡◌, ◌<◌, slice_get}
use Rattle.disk_pair.specs.Disks.{AreFaithful, WereRead}
use Rattle.disk_pair.proofs.compare.are_alike.Given as goal

abbrev pub invariant-loop-number : goal.invariant-loop-number
invariant-loop-number g l = record {
  alike : AreFaithful l.disks → (k : ℕ) → k < l.number → slice_get l.initial.disks.local k ≡ slice_get l.initial.disks.peer k;
  read : WereRead l.initial.disks l.disks;
  faults : (l.disks.local_faults ≡ l.initial.disks.local_faults) × (l.disks.peer_faults ≡ l.initial.disks.peer_faults);
}
