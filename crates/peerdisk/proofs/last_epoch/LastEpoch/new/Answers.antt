use Rattle.std.proofs.Common.{arith, replicate}
use Rattle.peerdisk.proofs.Bits.{zero-word}
use Rattle.peerdisk.proofs.Stamps.{none-covered}
use Rattle.peerdisk.proofs.last_epoch.LastEpoch.new.Goals as goal

pub returns-clause-empty : goal.returns-clause-empty
returns-clause-empty c =
    let extents = c.div_ceil-extents.result in
    rw (c.in_ok-stamps.ensures.items_if_clones_equal (λ y is. is))
    (none-covered c.args.blocks 1 (replicate extents 0) c.in_ok-words.words.items (λ extent. omega (arith, zero-word extents extent)))
