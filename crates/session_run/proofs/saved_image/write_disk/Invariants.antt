use Rattle.std.proofs.Common.{◌≡◌, length}
use Rattle.session_run.proofs.saved_image.write_disk.Given as goal

abbrev pub invariant-loop-number : goal.invariant-loop-number
invariant-loop-number g l = record { disk : l.disk ≡ l.fn.disk; block : length l.block ≡ 4096 }
