use Rattle.std.proofs.Common.{rules}
use Rattle.session_threads.proofs.Telling.{written-mine, written-told}
use Rattle.session_threads.proofs.shared_session.SharedSessionDevice.write.Goals as goal

pub returns-clause-told : goal.returns-clause-told
returns-clause-told g c = written-told c.args.me.now.log c.begin.new.me.log c.complete.new.me.log c.complete.result c.in_ok-begun.begun.number c.args.first
    c.args.bytes.now (search rules) c.complete.ensures.number c.complete.ensures.told

pub returns-clause-mine : goal.returns-clause-mine
returns-clause-mine g c = written-mine c.args.me.now.own c.begin.new.me.own c.complete.new.me.own c.complete.result c.in_ok-begun.begun.number
    c.in_ok-begun.ensures.mine c.complete.ensures.mine c.complete.ensures.number
