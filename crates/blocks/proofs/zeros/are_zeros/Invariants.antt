use Rattle.std.proofs.Common.{◌≡◌, ◌==◌, length}
use Rattle.std.specs.List.{list_all}
use Rattle.blocks.proofs.zeros.are_zeros.Given as goal

-- the bytes that are left decide
abbrev pub invariant-loop-run : goal.invariant-loop-run
invariant-loop-run l = list_all (λ byte. byte == 0) l.bytes ≡ list_all (λ byte. byte == 0) l.rest

abbrev pub decreases-loop-run : goal.decreases-loop-run
decreases-loop-run l = length l.rest
