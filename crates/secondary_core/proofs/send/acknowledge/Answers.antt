use Rattle.std.proofs.Common.{◌∙◌, ap, option_to_list}
use Rattle.secondary_core.specs.Outboxes.{acknowledging}
use Rattle.secondary_core.proofs.Kept.{served}
use Rattle.secondary_core.proofs.send.acknowledge.Goals as goal

pub returns-in-Some-clause-served : goal.returns-in-Some-clause-served
returns-in-Some-clause-served c = λ barriers ended.
    let ps = c.args.disk.now.pending in
    let was = rw c.in-Some.is at ended in
    let room = rw c.in-Some.is at c.requires in
    served (option_to_list c.args.answer) ps barriers c.in-Some.connection.outbox c.answer.new.self (c.answer.ensures.answered
    ∙ ap (acknowledging ps) c.push.ensures)
    c.answer.ensures.all room was
