use Rattle.std.proofs.Common.{Err}
use Rattle.std.proofs.lemmas.Result.{err_from_is_err_and}
use Rattle.packets.proofs.Frames.{answers_only}
use Rattle.packets.proofs.Hellos.{answers_headed, answer_found, answer_fault}
use Rattle.packets.proofs.Steps.{answer_known}
use Rattle.packets.proofs.Rows.{header_length}
use Rattle.packets.proofs.reading.decode.Goals as goal

pub packet_of-requires-clause-whole : goal.packet_of-requires-clause-whole
packet_of-requires-clause-whole c = c.in_ok-header.ensures.headed.whole

pub packet_of-requires-clause-row : goal.packet_of-requires-clause-row
packet_of-requires-clause-row c = header_length c.args.frame c.in_ok-header.header c.in_ok-header.ensures.headed.judged

pub returns-clause-found : goal.returns-clause-found
returns-clause-found c =
    let answer = answers_headed c.args.frame c.in_ok-header.header c.packet_of.result c.in_ok-header.ensures.headed c.packet_of.ensures in
    answer_found c.args.frame c.packet_of.result answer

pub returns-clause-only : goal.returns-clause-only
returns-clause-only c =
    let answer = answers_headed c.args.frame c.in_ok-header.header c.packet_of.result c.in_ok-header.ensures.headed c.packet_of.ensures in
    answers_only c.args.frame c.packet_of.result answer

pub returns-clause-fault : goal.returns-clause-fault
returns-clause-fault c =
    let answer = answers_headed c.args.frame c.in_ok-header.header c.packet_of.result c.in_ok-header.ensures.headed c.packet_of.ensures in
    answer_fault c.args.frame c.packet_of.result answer

pub returns-clause-takes_no_memory : goal.returns-clause-takes_no_memory
returns-clause-takes_no_memory c =
    let answer = answers_headed c.args.frame c.in_ok-header.header c.packet_of.result c.in_ok-header.ensures.headed c.packet_of.ensures in
    answer_known c.args.frame c.packet_of.result answer

pub returns-in_err-header-clause-only : goal.returns-in_err-header-clause-only
returns-in_err-header-clause-only c =
    let p = err_from_is_err_and c.from_residual.result c.from_residual.ensures.1 in
    rw (p.1, p.2) (answers_only c.args.frame (Err _) c.in_err-header.ensures.fault)

pub returns-in_err-header-clause-takes_no_memory : goal.returns-in_err-header-clause-takes_no_memory
returns-in_err-header-clause-takes_no_memory c =
    let p = err_from_is_err_and c.from_residual.result c.from_residual.ensures.1 in
    rw (p.1, p.2) (answer_known c.args.frame (Err _) c.in_err-header.ensures.fault)
