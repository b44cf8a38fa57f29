use Rattle.std.proofs.lemmas.Result.{on_ok_weaker}
use Rattle.metadata.proofs.Marks.{mark-written}
use Rattle.metadata.proofs.metadata.Metadata.mark.Goals as goal

pub returns-clause-marked : goal.returns-clause-marked
returns-clause-marked g c =
    on_ok_weaker c.write_marks.result
    (λ holds. λ faithful block is. mark-written _ c.args.first.0 c.args.count 4096 1 c.requires.few holds block is)
    c.write_marks.ensures.written
