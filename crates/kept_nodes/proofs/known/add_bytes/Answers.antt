use Rattle.std.proofs.Common.{◌||◌, ◌+◌, true, false, ◌∙◌, ap}
use Rattle.blocks.specs.Ranges.{is_between}
use Rattle.kept_nodes.specs.Filed.{is_filed}
use Rattle.kept_nodes.proofs.Filed.{Adds, adds-marking, adds-alike, filed-more, byte-set, byte-zero, and-all, and-none, or-none}
use Rattle.kept_nodes.proofs.known.add_bytes.Goals.{then-mark-ne0, else-mark-ne0}
use Rattle.kept_nodes.proofs.known.add_bytes.Goals as goal

pub loop-offset-preserved : goal.loop-offset-preserved
loop-offset-preserved c =
    let first = c.args.first in
    let bytes = c.args.marks.now in
    let i = c.loop-offset.offset in
    let before : Adds c.args.known.now c.loop-offset.known (is_filed first i bytes) = record { size = c.loop-offset.invariant.size; marks = c.loop-offset.invariant.marks } in
    let adds : Adds c.args.known.now c.if-mark-ne0.known (is_filed first (i + 1) bytes) = elim c.if-mark-ne0.branch [
      | then-mark-ne0 w ↦ rw w.known-is (adds-marking _ _ _ (is_filed first i bytes) (is_between (first + i) 1) (is_filed first (i + 1) bytes) before w.mark.ensures
          (λ b. filed-more first i bytes b true (byte-set _ w.if-mark-ne0.true) ∙ ap (λ m. is_filed first i bytes b || m) (and-all (is_between (first + i) 1 b))))
      | else-mark-ne0 w ↦ rw w.known-is (adds-alike _ _ (is_filed first i bytes) (is_filed first (i + 1) bytes) before
          (λ b. filed-more first i bytes b false (byte-zero _ w.if-mark-ne0.false) ∙ ap (λ m. is_filed first i bytes b || m) (and-none (is_between (first + i) 1 b))
          ∙ or-none (is_filed first i bytes b)))
    ] in
    record { size = adds.size; marks = adds.marks }
