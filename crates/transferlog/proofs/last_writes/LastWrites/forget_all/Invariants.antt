use Rattle.std.proofs.Common.{◌≡◌, ◌≤◌, ℕ, drop}
use Rattle.transferlog.specs.LastWrites.{forgotten_all, known_at}
use Rattle.transferlog.proofs.last_writes.LastWrites.forget_all.Given as goal

-- what the writes to come leave of these numbers is what all leave of the first ones
abbrev pub invariant-loop-write : goal.invariant-loop-write
invariant-loop-write l = record {
  items : l.write-items ≡ l.fn.released.items;
  numbers : l.self.numbers ≡ l.fn.self.numbers;
  known : (block : ℕ) → forgotten_all (drop l.write-index l.write-items) block (known_at block l.self) ≡ forgotten_all l.fn.released.items block (known_at block l.fn.self);
  room : l.fn.self.spare ≤ l.self.spare;
}
