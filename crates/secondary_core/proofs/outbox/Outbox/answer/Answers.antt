use Rattle.std.proofs.Common.{suc, ◌≡◌, ◌∙◌, ◌∷◌, [], sym, ap, arith, length, nat_le, true, add-one}
use Rattle.std.proofs.lemmas.Bool.{le-leb}
use Rattle.std.proofs.lemmas.List.{length-append}
use Rattle.secondary_protocol.specs.Core.{is_applied_to}
use Rattle.secondary_core.specs.Outboxes.{outbox_of}
use Rattle.secondary_core.proofs.Barriers.{at-end, next, none-new}
use Rattle.secondary_core.proofs.outbox.Outbox.answer.Goals as goal

pub loop-self-preserved : goal.loop-self-preserved
loop-self-preserved c =
    let e = outbox_of c.loop-self.self-inside in
    let was = c.loop-self.invariant in
    let front = c.in-Some.ensures.items in
    let due = c.push_back_reserved.ensures.items in
    let less : nat_le (suc e.answered) c.last_applied-applied.result ≡ true = le-leb (suc e.answered) c.last_applied-applied.result
    (omega (arith, c.loop-self-test.true)) in
    let applied : is_applied_to c.args.disk.now.pending (suc e.answered) ≡ true = c.last_applied-applied.ensures (suc e.answered) (omega arith)
    (omega (arith, c.loop-self-test.true, c.last_applied-applied.type_inv)) ∙ less in
    let shorter = ap length front in
    let longer = ap length due ∙ length-append c.loop-self.self-inside.due.items (c.new.result ∷ []) in
    record {
      same = rw (due, c.new.ensures, add-one, c.push_back_reserved.ensures.capacity, c.in-Some.ensures.capacity)
          (next c.args.disk.now.pending e c.in-Some.writes c.pop_front.new.self.items front applied ∙ was.same);
      room = omega (arith, shorter, longer, was.room);
      fits = omega (arith, shorter, was.fits);
    }

pub returns-clause-answered : goal.returns-clause-answered
returns-clause-answered c =
    let o = outbox_of c.loop-self.self-inside in
    let was = c.loop-self.invariant in
    let none = at-end c.args.disk.now.pending o.answered o.sizes c.last_applied-applied.result c.last_applied-applied.ensures
    (omega (arith, c.loop-self-test.false)) was.fits in
    sym (none-new c.args.disk.now.pending o none) ∙ was.same

pub returns-clause-all : goal.returns-clause-all
returns-clause-all c =
    let o = outbox_of c.loop-self.self-inside in
    at-end c.args.disk.now.pending o.answered o.sizes c.last_applied-applied.result c.last_applied-applied.ensures
    (omega (arith, c.loop-self-test.false)) c.loop-self.invariant.fits
