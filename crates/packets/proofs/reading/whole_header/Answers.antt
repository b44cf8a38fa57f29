use Rattle.std.proofs.Common.{Err}
use Rattle.std.proofs.lemmas.Result.{err_from_is_err_and}
use Rattle.packets.proofs.Fronts.{header_fault}
use Rattle.packets.proofs.reading.whole_header.Goals as goal

pub returns-in_err-header-clause-fault : goal.returns-in_err-header-clause-fault
returns-in_err-header-clause-fault c =
    let p = err_from_is_err_and c.from_residual.result c.from_residual.ensures.1 in
    rw (p.1, p.2)
    (header_fault c.args.frame.now c.header_of.result _ c.in_err-header.was c.header_of.ensures.judged c.header_of.ensures.none).0

pub returns-in_err-header-clause-before_fields : goal.returns-in_err-header-clause-before_fields
returns-in_err-header-clause-before_fields c =
    let p = err_from_is_err_and c.from_residual.result c.from_residual.ensures.1 in
    rw (p.1, p.2)
    (header_fault c.args.frame.now c.header_of.result _ c.in_err-header.was c.header_of.ensures.judged c.header_of.ensures.none).1
