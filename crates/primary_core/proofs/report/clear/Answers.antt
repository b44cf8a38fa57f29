use Rattle.std.proofs.Common.{sym, ◌∙◌, arith}
use Rattle.bitmap.specs.Marks.{marked}
use Rattle.transferlog.specs.Log.{clears}
use Rattle.primary_core.proofs.Unmarked.{both-right, cleared-next, cleared-or_not}
use Rattle.primary_core.proofs.report.clear.Goals.{then-clears_mark, else-clears_mark}
use Rattle.primary_core.proofs.report.clear.Goals as goal

pub loop-block-preserved : goal.loop-block-preserved
loop-block-preserved c =
    let last_writes = c.args.log.now.state.last_writes in
    let new = c.loop-block.marks in
    let block = c.loop-block.block in
    elim c.if-clears_mark.branch [
      | then-clears_mark w ↦ rw (w.marks-is, w.clear.ensures) (cleared-next c.args.write.now last_writes c.args.marks.now new block (omega (arith, c.requires.inside))
          (both-right (marked new block) (clears c.args.write.now block last_writes) (sym c.clears_mark.ensures ∙ w.if-clears_mark.true)) c.loop-block.invariant)
      | else-clears_mark w ↦ rw w.marks-is (cleared-or_not c.args.write.now last_writes c.args.marks.now new block (sym c.clears_mark.ensures
          ∙ w.if-clears_mark.false) c.loop-block.invariant)
    ]
