use Rattle.session_threads.proofs.Telling.{ended-told, given-on}
use Rattle.session_threads.proofs.shared_session.SharedSessionDevice.complete.Goals as goal

pub returns-clause-told : goal.returns-clause-told
returns-clause-told g c = ended-told c.args.me.now.log c.completed.new.me.log c.end.result c.in_ok-receipt.receipt _ c.end.ensures.own
    c.in_ok-receipt.ensures.told

pub returns-clause-goes_on : goal.returns-clause-goes_on
returns-clause-goes_on g c = given-on c.args.me.now c.completed.new.me c.completed.result c.completed.ensures.told
    c.completed.ensures.untold

pub returns-in_err-receipt-clause-goes_on : goal.returns-in_err-receipt-clause-goes_on
returns-in_err-receipt-clause-goes_on g c = given-on c.args.me.now c.completed.new.me c.completed.result c.completed.ensures.told
    c.completed.ensures.untold
