use Rattle.std.proofs.Common.{◌≡◌, ◌≤◌, ◌&&◌, ◌∙◌, nat_lt, true, length, ap, arith}
use Rattle.std.proofs.lemmas.Bool.{lt-ltb}
use Rattle.bitmap.specs.Marks.{marked}
use Rattle.bitmap.proofs.Lists.{same-marks}
use Rattle.bitmap.proofs.marks.Bitmap.from_marks.Goals as goal

pub returns-clause-made : goal.returns-clause-made
returns-clause-made c =
    same-marks c.loop-block.bitmap c.args.marks.now c.loop-block.invariant.long
    (λ q h. let all : length c.args.marks.now ≤ c.loop-block.block = omega arith in let past : nat_lt q c.loop-block.block ≡ true =
    lt-ltb q c.loop-block.block (omega (arith, c.loop-block.invariant.long)) in c.loop-block.invariant.marks q
    ∙ ap (λ t. t && marked c.args.marks.now q) past)
