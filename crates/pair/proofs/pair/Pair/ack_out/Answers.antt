use Rattle.std.proofs.Common.{◌∙◌, ap, subst, IsTrue, sym}
use Rattle.secondary.specs.State.{SecondaryView}
use Rattle.pair.proofs.Sending.{answer-step, answer-is}
use Rattle.pair.proofs.pair.Pair.ack_out.Goals as goal

pub invariant_of-self : goal.invariant_of-self
invariant_of-self c =
    answer-is (record { primary = c.self.inside.primary; secondary = c.self.inside.secondary }) c.ack_out-done.new.self c.ack_out-done.result c.self.invariant
    c.ack_out-done.ensures.link c.ack_out-done.ensures.step
    (ap (λ (v : SecondaryView). v.incoming) c.ack_out-done.ensures.rest) (ap (λ (v : SecondaryView). v.steady) c.ack_out-done.ensures.rest ∙ c.self.invariant.peer.0, subst IsTrue (sym (ap (λ (v : SecondaryView). v.faithful) c.ack_out-done.ensures.rest)) c.self.invariant.peer.1) c.packets_follow_back.ensures

pub returns : goal.returns
returns c = record {
  step = rw (← c.self.view_is)
      (answer-step (record { primary = c.self.inside.primary; secondary = c.self.inside.secondary }) c.ack_out-done.new.self c.ack_out-done.result
      c.self.invariant c.ack_out-done.ensures.link c.ack_out-done.ensures.step);
}
