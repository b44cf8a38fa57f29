use Rattle.std.proofs.Common.{sym, ◌∙◌, ap, arith}
use Rattle.primary_protocol.specs.Taking.{is_unsent}
use Rattle.primary_core.proofs.Barriers.{waits-in-run, from-first, before-first}
use Rattle.primary_core.proofs.outbox.Outbox.has_barrier.Goals as goal

pub returns-then-self-epoch : goal.returns-then-self-epoch
returns-then-self-epoch c =
    let u = c.self.inside in
    let epoch = c.args.epoch in
    let among = waits-in-run epoch u.first u.barriers u.items.items (c.self.invariant.runs c.if-not-self.false) in
    let from = from-first epoch u.first u.barriers (omega (arith, c.if-self-epoch.true, c.from-epoch.ensures)) in
    rw c.from-epoch.ensures (from ∙ (sym among ∙ ap (λ x. is_unsent epoch x.items) c.self.view_is))

pub returns-else-self-epoch : goal.returns-else-self-epoch
returns-else-self-epoch c =
    let u = c.self.inside in
    let epoch = c.args.epoch in
    let among = waits-in-run epoch u.first u.barriers u.items.items (c.self.invariant.runs c.if-not-self.false) in
    let before = before-first epoch u.first u.barriers (omega (arith, c.if-self-epoch.false, c.from-epoch.ensures)) in
    rw c.from-epoch.ensures (before ∙ (sym among ∙ ap (λ x. is_unsent epoch x.items) c.self.view_is))
