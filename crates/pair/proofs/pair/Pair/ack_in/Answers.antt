use Rattle.std.proofs.Common.{Option, subst}
use Rattle.endpoint.specs.Lending.{GivenOut}
use Rattle.link.specs.Directions.{QueueState}
use Rattle.pair_protocol.proofs.Lending.{may-lay, may-lay-back}
use Rattle.pair.specs.State.{state}
use Rattle.pair.proofs.Acknowledging.{acknowledge-none-step, acknowledge-none-is, never-kept, acknowledge-step, acknowledge-is}
use Rattle.pair.proofs.pair.Pair.ack_in.Goals as goal

-- Nothing was ever connected.

pub invariant_of-self : goal.invariant_of-self
invariant_of-self c =
    acknowledge-none-is (record { primary = c.self.inside.primary; secondary = c.self.inside.secondary }) c.give_outward.new.self c.ack_in.new.self
    c.ack_in.result c.self.invariant
    (subst (λ (q : Option QueueState). GivenOut q c.self.inside.secondary.outgoing c.give_outward.new.self.outgoing) c.in_default.is
    c.give_outward.ensures.given) c.give_outward.ensures.rest c.ack_in.ensures.step c.ack_in.ensures.rest

pub returns-in_default : goal.returns-in_default
returns-in_default c = record {
  step = rw (← c.self.view_is)
      (acknowledge-none-step (record { primary = c.self.inside.primary; secondary = c.self.inside.secondary }) c.give_outward.new.self c.ack_in.new.self
      c.ack_in.result c.self.invariant
      (subst (λ (q : Option QueueState). GivenOut q c.self.inside.secondary.outgoing c.give_outward.new.self.outgoing) c.in_default.is
      c.give_outward.ensures.given) c.give_outward.ensures.rest c.ack_in.ensures.step c.ack_in.ensures.rest);
}

-- The queue goes over, and comes back.

pub lay_inward-requires : goal.lay_inward-requires
lay_inward-requires c =
    may-lay c.self.inside.secondary.core.settings.link (state (record { primary = c.self.inside.primary; secondary = c.self.inside.secondary })).back
    c.in-Some.queue c.give_outward.new.self.outgoing c.self.invariant.pair.back c.in-Some.ensures.given

pub invariant_of-self-in_default-give_inward : goal.invariant_of-self-in_default-give_inward
invariant_of-self-in_default-give_inward c =
    absurd (never-kept (record { primary = c.self.inside.primary; secondary = c.self.inside.secondary }) c.give_outward.new.self c.lay_inward.new.self
    c.ack_in-done.new.self c.give_inward.new.self c.in-Some.queue c.ack_in-done.result c.self.invariant c.in-Some.ensures.given c.lay_inward.ensures.laid
    c.ack_in-done.ensures.step
    c.give_inward.result c.in_default-give_inward.is c.give_inward.ensures.given)

pub returns-in_default-give_inward : goal.returns-in_default-give_inward
returns-in_default-give_inward c =
    absurd (never-kept (record { primary = c.self.inside.primary; secondary = c.self.inside.secondary }) c.give_outward.new.self c.lay_inward.new.self
    c.ack_in-done.new.self c.give_inward.new.self c.in-Some.queue c.ack_in-done.result c.self.invariant c.in-Some.ensures.given c.lay_inward.ensures.laid
    c.ack_in-done.ensures.step
    c.give_inward.result c.in_default-give_inward.is c.give_inward.ensures.given)

pub lay_outward-requires : goal.lay_outward-requires
lay_outward-requires c =
    may-lay-back c.self.inside.secondary.core.settings.link (state (record { primary = c.self.inside.primary; secondary = c.self.inside.secondary })).back
    c.in-Some.queue c.in-Some-give_inward.queue c.ack_in-done.ensures.step.frame c.ack_in-done.result
    c.give_outward.new.self.outgoing c.lay_inward.new.self.incoming c.ack_in-done.new.self.incoming c.give_inward.new.self.incoming c.self.invariant.pair.back
    c.in-Some.ensures.given c.lay_inward.ensures.laid c.ack_in-done.ensures.step.link c.in-Some-give_inward.ensures.given

pub invariant_of-self-2 : goal.invariant_of-self-2
invariant_of-self-2 c =
    acknowledge-is (record { primary = c.self.inside.primary; secondary = c.self.inside.secondary }) c.give_outward.new.self c.lay_outward.new.self
    c.lay_inward.new.self c.ack_in-done.new.self c.give_inward.new.self c.in-Some.queue c.in-Some-give_inward.queue c.ack_in-done.result c.self.invariant
    c.in-Some.ensures.given c.give_outward.ensures.rest c.lay_inward.ensures.laid c.lay_inward.ensures.rest c.ack_in-done.ensures.step
    c.ack_in-done.ensures.rest c.in-Some-give_inward.ensures.given c.give_inward.ensures.rest
    c.lay_outward.ensures.laid c.lay_outward.ensures.rest c.packets_follow_back.ensures

pub returns : goal.returns
returns c = record {
  step = rw (← c.self.view_is)
      (acknowledge-step (record { primary = c.self.inside.primary; secondary = c.self.inside.secondary }) c.give_outward.new.self c.lay_outward.new.self
      c.lay_inward.new.self c.ack_in-done.new.self c.give_inward.new.self c.in-Some.queue c.in-Some-give_inward.queue c.ack_in-done.result c.self.invariant
      c.in-Some.ensures.given c.give_outward.ensures.rest c.lay_inward.ensures.laid c.lay_inward.ensures.rest c.ack_in-done.ensures.step
      c.ack_in-done.ensures.rest c.in-Some-give_inward.ensures.given c.give_inward.ensures.rest
      c.lay_outward.ensures.laid c.lay_outward.ensures.rest c.packets_follow_back.ensures);
}
