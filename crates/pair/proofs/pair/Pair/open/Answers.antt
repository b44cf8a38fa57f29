use Rattle.std.proofs.Common.{rules, ◌≡◌, ◌∙◌, false, Err, ap, subst, IsTrue, sym}
use Rattle.primary.specs.State.{PrimaryView}
use Rattle.secondary.specs.State.{SecondaryView}
use Rattle.blocks.specs.declared.outcome.Reply.TheVariants as reply
use Rattle.model.specs.Pair.{OpenEvent}
use Rattle.pair.proofs.Opens.{new-ends}
use Rattle.pair.proofs.Pairing.{view-kept}
use Rattle.pair.proofs.Opening.{both-there, is-counted, never, not-opened-step, opened-step, own-link, refused-step, resized, short-step}
use Rattle.pair.proofs.pair.Pair.open.Goals as goal

pub returns-in_err-may_open : goal.returns-in_err-may_open
returns-in_err-may_open c =
    let refused : c.from_residual.result ≡ Err c.in_err-may_open.field-0.0 = search rules in
    record {
      step = rw (← c.self.view_is)
          (refused-step (record { primary = c.self.inside.primary; secondary = c.self.inside.secondary }) c.self.invariant c.args.sync c.args.loss
          c.is_open.result c.is_drained.result c.if-is_open.false c.if-not-is_drained.false c.is_open.ensures c.is_drained.ensures c.may_open.result
          c.may_open.ensures c.in_err-may_open.field-0.0 c.in_err-may_open.was c.from_residual.result refused);
    }

pub returns-in_err-link : goal.returns-in_err-link
returns-in_err-link c =
    let refused : c.from_residual-in_err-link.result ≡ Err c.in_err-link.field-0.0 = search rules in
    record {
      step = rw (← c.self.view_is)
          (short-step (record { primary = c.self.inside.primary; secondary = c.self.inside.secondary }) c.self.invariant
          c.args.sync c.args.loss c.is_open.result
          c.is_drained.result c.if-is_open.false c.if-not-is_drained.false c.is_open.ensures c.is_drained.ensures c.may_open.result c.may_open.ensures
          c.in_ok-may_open.was c.from_residual-in_err-link.result (refused ∙ ap Err c.in_err-link.ensures.refused));
    }

pub returns-in_err-open : goal.returns-in_err-open
returns-in_err-open c =
    let refused : c.from_residual-in_err-open.result ≡ Err c.in_err-open.field-0.0 = search rules in
    record {
      step = rw (← c.self.view_is)
          (not-opened-step (record { primary = c.self.inside.primary; secondary = c.self.inside.secondary }) c.self.invariant c.args.sync c.args.loss
          c.is_open.result c.is_drained.result c.if-is_open.false c.if-not-is_drained.false c.is_open.ensures c.is_drained.ensures c.open.new.self c.open.result
          c.in_err-open.field-0.0 c.in_err-open.was c.in_err-open.ensures.unchanged c.open.ensures.step c.from_residual-in_err-open.result refused);
    }

pub open-requires-2-clause-counted : goal.open-requires-2-clause-counted
open-requires-2-clause-counted c = is-counted (record { primary = c.self.inside.primary; secondary = c.self.inside.secondary }) c.self.invariant c.args.sync
    c.args.loss c.is_open.result c.is_drained.result c.if-is_open.false c.if-not-is_drained.false c.is_open.ensures c.is_drained.ensures c.open.new.self
    c.open.result c.in_ok-open.was c.open.ensures.step

pub invariant_of-self-in_err-open-2 : goal.invariant_of-self-in_err-open-2
invariant_of-self-in_err-open-2 c =
    absurd (never (record { primary = c.self.inside.primary; secondary = c.self.inside.secondary }) c.self.invariant c.args.sync c.args.loss c.is_open.result
    c.is_drained.result c.if-is_open.false c.if-not-is_drained.false c.is_open.ensures c.is_drained.ensures c.open.new.self c.open.result c.in_ok-open.was
    c.open.ensures.step c.in_err-open-2.field-0.0 c.open-2.result c.open-2.new.self c.in_err-open-2.was c.open-2.ensures.step)

pub returns-in_err-open-2 : goal.returns-in_err-open-2
returns-in_err-open-2 c = absurd
    (never (record { primary = c.self.inside.primary; secondary = c.self.inside.secondary }) c.self.invariant c.args.sync c.args.loss c.is_open.result
    c.is_drained.result c.if-is_open.false c.if-not-is_drained.false c.is_open.ensures c.is_drained.ensures c.open.new.self c.open.result c.in_ok-open.was
    c.open.ensures.step c.in_err-open-2.field-0.0 c.open-2.result c.open-2.new.self c.in_err-open-2.was c.open-2.ensures.step)

pub invariant_of-self-2 : goal.invariant_of-self-2
invariant_of-self-2 c =
    let size = own-link (record { primary = c.self.inside.primary; secondary = c.self.inside.secondary }) c.self.invariant c.settings.result
    c.settings.ensures in
    view-kept (OpenEvent c.args.sync c.args.loss) false (record { primary = c.self.inside.primary; secondary = c.self.inside.secondary })
    (record { primary = c.open.new.self; secondary = c.open-2.new.self }) (reply.Ok c.about.result) c.self.invariant
    (opened-step (record { primary = c.self.inside.primary; secondary = c.self.inside.secondary }) c.self.invariant c.args.sync c.args.loss c.is_open.result
    c.is_drained.result c.if-is_open.false c.if-not-is_drained.false c.is_open.ensures c.is_drained.ensures c.open.new.self c.open.result c.in_ok-open.was
    c.open.ensures.step c.may_open.result c.may_open.ensures c.in_ok-may_open.was c.open-2.new.self c.open-2.result c.open-2.ensures.step c.about.result
    c.about.ensures)
    (both-there c.self.inside.primary.core.settings.link (record { out = c.open.new.self.outgoing; inn = c.open-2.new.self.incoming }) _ _
    (ap (λ (v : PrimaryView). v.outgoing) c.in_ok-open.ensures.link) (ap (λ (v : SecondaryView). v.incoming) c.in_ok-open-2.ensures.link)
    (resized c.settings.result.link c.self.inside.primary.core.settings.link _ _ size.0
    (new-ends c.in_ok-link.link.primary.outward c.in_ok-link.link.secondary.inward c.settings.result.link c.in_ok-link.ensures.there)))
    (both-there c.self.inside.secondary.core.settings.link (record { out = c.open-2.new.self.outgoing; inn = c.open.new.self.incoming }) _ _
    (ap (λ (v : SecondaryView). v.outgoing) c.in_ok-open-2.ensures.link) (ap (λ (v : PrimaryView). v.incoming) c.in_ok-open.ensures.link)
    (resized c.settings.result.link c.self.inside.secondary.core.settings.link _ _ size.1
    (new-ends c.in_ok-link.link.secondary.outward c.in_ok-link.link.primary.inward c.settings.result.link c.in_ok-link.ensures.back)))
    (ap (λ (v : PrimaryView). v.steady) c.in_ok-open.ensures.link ∙ c.self.invariant.local.0, subst IsTrue (sym (ap (λ (v : PrimaryView). v.faithful) c.in_ok-open.ensures.link)) c.self.invariant.local.1) (ap (λ (v : SecondaryView). v.steady) c.in_ok-open-2.ensures.link ∙ c.self.invariant.peer.0, subst IsTrue (sym (ap (λ (v : SecondaryView). v.faithful) c.in_ok-open-2.ensures.link)) c.self.invariant.peer.1)

pub returns : goal.returns
returns c = record {
  step = rw (← c.self.view_is)
      (opened-step (record { primary = c.self.inside.primary; secondary = c.self.inside.secondary }) c.self.invariant c.args.sync c.args.loss c.is_open.result
      c.is_drained.result c.if-is_open.false c.if-not-is_drained.false c.is_open.ensures c.is_drained.ensures c.open.new.self c.open.result c.in_ok-open.was
      c.open.ensures.step c.may_open.result c.may_open.ensures c.in_ok-may_open.was c.open-2.new.self c.open-2.result c.open-2.ensures.step c.about.result
      c.about.ensures);
}
