use Rattle.std.proofs.Common.{◌≡◌, ◌+◌, ◌∙◌, length, replicate, sym, ap, arith, vec_len}
use Rattle.peerdisk.specs.Blocks.{none_of}
use Rattle.peerdisk.proofs.Bits.{zero-word}
use Rattle.peerdisk.proofs.Stamps.{length-covered, none-covered}
use Rattle.peerdisk.proofs.last_epoch.LastEpoch.begin.Goals as goal
use Rattle.peerdisk.proofs.last_epoch.LastEpoch.begin.Goals.{then-self, else-self}

pub returns : goal.returns
returns c =
    let old = c.self.inside in
    let size : old.blocks ≡ length c.args.self.now = sym (length-covered old.blocks old.epoch old.stamps.items old.words.items) ∙ ap length c.self.view_is in
    let empty = ap none_of size in
    elim c.if-self.branch [
      | then-self w ↦ rw w.self-inside-is (rw (w.fill.ensures.items (λ y is. is))
          (none-covered old.blocks 1 (replicate (vec_len old.stamps) 0) old.words.items (λ extent. omega (arith, zero-word (vec_len old.stamps) extent)) ∙ empty))
      | else-self w ↦ rw w.self-inside-is
          (none-covered old.blocks (old.epoch + 1) old.stamps.items old.words.items (λ extent. omega (arith, c.self.invariant.past extent)) ∙ empty)
    ]
