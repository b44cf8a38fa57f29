use Rattle.std.proofs.Common.{◌≡◌, ◌+◌, ◌-◌, false}
use Rattle.std.specs.List.{list_any}
use Rattle.blocks.specs.Ranges.{below}
use Rattle.peerdisk.specs.Stamped.{bit_of}
use Rattle.peerdisk.proofs.words.has_bit.Given as goal

abbrev pub invariant-loop-block : goal.invariant-loop-block
invariant-loop-block l = list_any (λ offset. bit_of l.words (l.first + offset)) (below (l.block - l.first)) ≡ false
