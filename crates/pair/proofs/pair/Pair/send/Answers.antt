use Rattle.std.proofs.Common.{◌∙◌, ap, subst, IsTrue, sym}
use Rattle.primary.specs.State.{PrimaryView}
use Rattle.pair.proofs.Sending.{send-step, send-is}
use Rattle.pair.proofs.pair.Pair.send.Goals as goal

pub invariant_of-self : goal.invariant_of-self
invariant_of-self c =
    send-is (record { primary = c.self.inside.primary; secondary = c.self.inside.secondary }) c.send-done.new.self c.send-done.result c.self.invariant
    c.send-done.ensures.link c.send-done.ensures.step
    (ap (λ (v : PrimaryView). v.incoming) c.send-done.ensures.rest) (ap (λ (v : PrimaryView). v.steady) c.send-done.ensures.rest ∙ c.self.invariant.local.0, subst IsTrue (sym (ap (λ (v : PrimaryView). v.faithful) c.send-done.ensures.rest)) c.self.invariant.local.1) c.packets_follow_there.ensures

pub returns : goal.returns
returns c = record {
  step = rw (← c.self.view_is)
      (send-step (record { primary = c.self.inside.primary; secondary = c.self.inside.secondary }) c.send-done.new.self c.send-done.result c.self.invariant
      c.send-done.ensures.link c.send-done.ensures.step);
}
