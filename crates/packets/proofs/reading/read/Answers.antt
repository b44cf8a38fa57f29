use Rattle.std.proofs.Common.{Ok, Err, ap, sym, ◌∙◌}
use Rattle.std.proofs.lemmas.Result.{err_from_is_err_and}
use Rattle.packets.specs.Frames.{is_fault, in_hello}
use Rattle.packets.proofs.Hellos.{answers_headed, frame_read_headed, fields_refused, header_refused}
use Rattle.packets.proofs.Steps.{fault_known, fault-in-hello}
use Rattle.packets.proofs.Shorts.{spelled_short}
use Rattle.packets.proofs.Rows.{header_length}
use Rattle.packets.proofs.reading.read.Goals as goal

pub packet_of-requires-clause-whole : goal.packet_of-requires-clause-whole
packet_of-requires-clause-whole c = c.in_ok-header.ensures.headed.whole

pub packet_of-requires-clause-row : goal.packet_of-requires-clause-row
packet_of-requires-clause-row c = header_length c.args.frame c.in_ok-header.header c.in_ok-header.ensures.headed.judged

pub returns-in_err-header-clause-is : goal.returns-in_err-header-clause-is
returns-in_err-header-clause-is c =
    let p = err_from_is_err_and c.from_residual.result c.from_residual.ensures.1 in
    rw (p.1, p.2) (header_refused c.args.hello c.args.frame _ c.in_err-header.ensures.is c.in_err-header.ensures.before_fields)

pub returns-in_err-header-clause-faults : goal.returns-in_err-header-clause-faults
returns-in_err-header-clause-faults c =
    let p = err_from_is_err_and c.from_residual.result c.from_residual.ensures.1 in
    rw (p.1, p.2) (fault_known c.args.frame _ c.in_err-header.ensures.fault)

pub returns-in-Ok-clause-is : goal.returns-in-Ok-clause-is
returns-in-Ok-clause-is c =
    ap (in_hello c.args.hello c.args.frame) (c.in-Ok.ensures ∙ sym (frame_read_headed c.args.frame c.in_ok-header.header c.in_ok-header.ensures.headed))

pub returns-in-Ok-clause-spellable : goal.returns-in-Ok-clause-spellable
returns-in-Ok-clause-spellable c =
    (answers_headed c.args.frame c.in_ok-header.header (Ok c.in-Ok.packet) c.in_ok-header.ensures.headed c.in-Ok.ensures).0

pub returns-in-Ok-clause-short : goal.returns-in-Ok-clause-short
returns-in-Ok-clause-short c =
    spelled_short c.in-Ok.packet c.args.frame
    (answers_headed c.args.frame c.in_ok-header.header (Ok c.in-Ok.packet) c.in_ok-header.ensures.headed c.in-Ok.ensures).1

pub returns-in-Err-clause-is : goal.returns-in-Err-clause-is
returns-in-Err-clause-is c =
    fields_refused c.args.hello c.args.frame c.in_ok-header.header c.in-Err.fault c.fault_in_hello.result c.is_awaited.result c.in_ok-header.ensures.headed
    c.in-Err.ensures c.is_awaited.ensures c.fault_in_hello.ensures

pub returns-in-Err-clause-faults : goal.returns-in-Err-clause-faults
returns-in-Err-clause-faults c =
    let answer = answers_headed c.args.frame c.in_ok-header.header (Err c.in-Err.fault) c.in_ok-header.ensures.headed c.in-Err.ensures in
    ap is_fault c.fault_in_hello.ensures ∙ fault-in-hello c.is_awaited.result c.in-Err.fault (fault_known c.args.frame c.in-Err.fault answer)
