use Rattle.std.proofs.Common.{◌≡◌, ◌≤◌, ◌&&◌, ℕ, nat_eq, None}
use Rattle.std.specs.Prelude.{if◌then◌else◌}
use Rattle.std.specs.HashMap as hash
use Rattle.transferlog.specs.Log.{is_number}
use Rattle.transferlog.proofs.Entries.{passed}
use Rattle.transferlog.proofs.last_writes.remove_all.Given as goal

abbrev pub invariant-loop-block : goal.invariant-loop-block
invariant-loop-block l = record {
  known : (block : ℕ) → hash.get nat_eq l.recent block
      ≡ (if passed l.first l.block-counter block && is_number l.number (hash.get nat_eq l.fn.recent block) then None else hash.get nat_eq l.fn.recent block);
  room : hash.spare l.fn.recent ≤ hash.spare l.recent;
}
