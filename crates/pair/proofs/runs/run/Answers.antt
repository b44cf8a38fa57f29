use Rattle.std.proofs.Common.{◌≡◌, ◌+◌, ◌∙◌, length, map, sym, subst, arith}
use Rattle.std.specs.Vec.{vec_capacity, vec_len}
use Rattle.pair_protocol.specs.State.{answered}
use Rattle.pair_protocol.proofs.Clauses.{has-clauses}
use Rattle.pair.specs.Events.{event_of}
use Rattle.pair.specs.Running.{HasRun}
use Rattle.pair.proofs.Running.{all-ran, none-ran, one-ran}
use Rattle.pair.proofs.runs.run.Goals as goal

pub loop-event-init : goal.loop-event-init
loop-event-init c = none-ran c.args.events.now c.in-Ok.replies.items (vec_len c.in-Ok.replies) (vec_capacity c.in-Ok.replies) c.args.pair c.in-Ok.ensures.items
    c.in-Ok.ensures.len c.in-Ok.ensures.capacity

pub push_reserved-requires : goal.push_reserved-requires
push_reserved-requires c =
    let size = c.loop-event.invariant.size in
    let room = c.loop-event.invariant.room in
    let more = c.loop-event-test.true in
    omega (arith, size, room, more)

pub loop-event-preserved : goal.loop-event-preserved
loop-event-preserved c =
    let grown : vec_capacity c.push_reserved.new.self ≡ vec_capacity c.loop-event.replies = c.push_reserved.ensures.capacity in
    subst (λ n. HasRun c.args.events.now (c.loop-event.event-index + 1) c.push_reserved.new.self.items (vec_len c.push_reserved.new.self) n c.args.pair
    c.step-reply.new.self) (sym grown)
    (one-ran c.args.events.now c.loop-event.event-index c.loop-event.replies.items c.push_reserved.new.self.items (vec_len c.loop-event.replies)
    (vec_capacity c.loop-event.replies) (vec_len c.push_reserved.new.self)
    c.args.pair c.loop-event.pair c.step-reply.new.self c.event-item.result c.step-reply.result c.loop-event.invariant c.loop-event-test.true c.event-item.is
    c.step-reply.ensures.step c.step-reply.ensures.honest_link c.push_reserved.ensures.items c.push_reserved.ensures.len)

-- every event has its reply
ended : (c : goal.After-loop-event) → c.loop-event.event-index ≡ length c.args.events.now
ended c =
    let most = c.loop-event.auto.event-index-end in
    let none = c.loop-event-test.false in
    omega (arith, most, none)

pub returns-clause-each : goal.returns-clause-each
returns-clause-each c = c.loop-event.invariant.returned ∙ ended c

pub returns-clause-replies : goal.returns-clause-replies
returns-clause-replies c h has =
    (all-ran c.args.events.now c.loop-event.event-index c.loop-event.replies.items (vec_len c.loop-event.replies)
    (vec_capacity c.loop-event.replies) c.args.pair c.loop-event.pair c.loop-event.invariant (ended c)).answers h has

pub returns-clause-honest_link : goal.returns-clause-honest_link
returns-clause-honest_link c = c.loop-event.invariant.honest_link

pub returns-clause-history : goal.returns-clause-history
returns-clause-history c h has =
    (all-ran c.args.events.now c.loop-event.event-index c.loop-event.replies.items (vec_len c.loop-event.replies)
    (vec_capacity c.loop-event.replies) c.args.pair c.loop-event.pair c.loop-event.invariant (ended c)).after h has

pub returns-clause-honest : goal.returns-clause-honest
returns-clause-honest c h has = (has-clauses h has.run).honest (answered (map event_of c.args.events.now) c.loop-event.replies.items)

pub returns-clause-grounded : goal.returns-clause-grounded
returns-clause-grounded c h has = (has-clauses h has.run).grounded (answered (map event_of c.args.events.now) c.loop-event.replies.items)

pub returns-clause-beginning : goal.returns-clause-beginning
returns-clause-beginning c h has = (has-clauses h has.run).beginning

pub returns-clause-closed : goal.returns-clause-closed
returns-clause-closed c h has = (has-clauses h has.run).closed (answered (map event_of c.args.events.now) c.loop-event.replies.items)

pub returns-clause-epochs : goal.returns-clause-epochs
returns-clause-epochs c h has = (has-clauses h has.run).epochs

pub returns-clause-promises : goal.returns-clause-promises
returns-clause-promises c h has = (has-clauses h has.run).promises

pub returns-clause-marks : goal.returns-clause-marks
returns-clause-marks c h has = (has-clauses h has.run).marks

pub returns-clause-cover : goal.returns-clause-cover
returns-clause-cover c h has = (has-clauses h has.run).cover

pub returns-clause-order : goal.returns-clause-order
returns-clause-order c h has = (has-clauses h has.run).order
