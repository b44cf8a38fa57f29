-- Each portion makes what its bytes make, one after another.
use Rattle.std.proofs.Common.{◌≡◌, ◌++◌, ap, ◌∙◌, subst, arith}
use Rattle.std.specs.Prelude.{OnOk}
use Rattle.nbd.specs.Machine.{Fed, Adds}
use Rattle.nbd.specs.Steps.{step, skipped, view}
use Rattle.nbd.proofs.Feeding.{held_adds, whole_is, skip_adds, skipped_is, closed_adds}
use Rattle.nbd.proofs.connection.Connection.take.Goals as goal

pub returns-in_ok-extend_from_slice-in-Gather-clause-adds :
    goal.returns-in_ok-extend_from_slice-in-Gather-clause-adds
returns-in_ok-extend_from_slice-in-Gather-clause-adds c =
    held_adds c.self.inside.id c.self.inside.export c.self.inside.phase c.in-Gather.part c.self.inside.held.items c.args.bytes.now
    c.extend_from_slice.new.self.items
    c.args.self.now
    c.args.out.now.bytes c.args.out.now.requests c.self.view_is c.in-Gather.is
    (omega (arith, c.len.ensures, rw c.in-Gather.is at c.wanted.ensures, c.if-len-bytes.true)) c.in_ok-extend_from_slice-in-Gather.ensures.items

pub returns-in_ok-step-in-Gather-2-clause-adds : goal.returns-in_ok-step-in-Gather-2-clause-adds
returns-in_ok-step-in-Gather-2-clause-adds c =
    let of = c.self.inside.id in
    let e = c.self.inside.export in
    let held = c.self.inside.held.items in
    let bytes = c.args.bytes.now in
    let gathered : c.extend_from_slice-in-Gather-2.new.self.items ≡ held ++ bytes = grind (
      arith,
      c.replace-held.ensures.value,
      c.in_ok-extend_from_slice-in-Gather-2.ensures.items,
    ) in
    let made : view c.in_ok-step-in-Gather-2.step ≡ step of e c.in-Gather-2.part (held ++ bytes) = c.in_ok-step-in-Gather-2.ensures.made
    ∙ ap (step of e c.in-Gather-2.part) gathered in
    subst (λ (f : Fed). OnOk c.take_step.result
    (Adds f c.take_step.new.self c.args.out.now.bytes c.take_step.new.out.bytes c.args.out.now.requests c.take_step.new.out.requests))
    (whole_is of e c.self.inside.phase c.in-Gather-2.part held bytes c.args.self.now (view c.in_ok-step-in-Gather-2.step) c.self.view_is c.in-Gather-2.is
    c.requires.some c.requires.portion
    (omega (arith, c.len.ensures, rw c.in-Gather-2.is at c.wanted.ensures, c.if-len-bytes.false)) made)
    c.take_step.ensures.adds

pub returns-in-Skip-clause-adds : goal.returns-in-Skip-clause-adds
returns-in-Skip-clause-adds c =
    skip_adds c.self.inside.id c.self.inside.export c.self.inside.phase c.in-Skip.left c.in-Skip.refused c.self.inside.held.items c.args.bytes.now
    c.args.self.now
    c.args.out.now.bytes c.args.out.now.requests c.self.view_is c.in-Skip.is c.self.invariant c.if-bytes-left.true

pub returns-in_ok-step-in-Skip-2-clause-adds : goal.returns-in_ok-step-in-Skip-2-clause-adds
returns-in_ok-step-in-Skip-2-clause-adds c =
    let same : c.in-Skip-2.refused ≡ c.in-Skip.refused = cc (c.in-Skip.is, c.in-Skip-2.is) in
    subst (λ (f : Fed). OnOk c.take_step-in-Skip-2.result
    (Adds f c.take_step-in-Skip-2.new.self c.args.out.now.bytes c.take_step-in-Skip-2.new.out.bytes c.args.out.now.requests
    c.take_step-in-Skip-2.new.out.requests))
    (skipped_is c.self.inside.id c.self.inside.export c.self.inside.phase c.in-Skip.left c.in-Skip.refused c.self.inside.held.items c.args.bytes.now
    c.args.self.now
    (view c.in_ok-step-in-Skip-2.step)
    c.self.view_is c.in-Skip.is c.self.invariant c.requires.some c.requires.portion c.if-bytes-left.false (c.in_ok-step-in-Skip-2.ensures.made
    ∙ ap skipped same))
    c.take_step-in-Skip-2.ensures.adds

pub returns-in-Closed-clause-adds : goal.returns-in-Closed-clause-adds
returns-in-Closed-clause-adds c =
    closed_adds c.self.inside.id c.self.inside.export c.self.inside.phase c.self.inside.held.items c.args.bytes.now c.args.self.now c.args.out.now.bytes
    c.args.out.now.requests c.self.view_is c.in-Closed.is
