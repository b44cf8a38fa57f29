use Rattle.std.proofs.lemmas.Result.{on_ok_weaker}
use Rattle.metadata.proofs.Marks.{mark-written}
use Rattle.metadata.proofs.metadata.Metadata.unmark.Goals as goal

pub returns-clause-unmarked : goal.returns-clause-unmarked
returns-clause-unmarked g c =
    on_ok_weaker c.write_marks.result
    (λ holds. λ faithful block is. mark-written _ c.args.first.0 c.args.count 4096 0 c.requires.few holds block is)
    c.write_marks.ensures.written
