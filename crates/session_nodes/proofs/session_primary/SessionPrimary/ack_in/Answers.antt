use Rattle.std.proofs.Common.{refl, ap, ◌&&◌, is_none}
use Rattle.blocks.specs.declared.outcome.Reply.TheVariants as reply
use Rattle.endpoint.specs.Calls.{is_out_of_memory}
use Rattle.model.specs.LocalRuns.{Takes}
use Rattle.primary.specs.State.{PrimaryView}
use Rattle.primary_protocol.specs.Node.{primary_step}
use Rattle.primary_protocol.specs.Steps.{replied}
use Rattle.session_nodes.specs.Primaries.{PrimaryTakes}
use Rattle.session_nodes.proofs.Ends.{ends-took}
use Rattle.session_nodes.proofs.Primaries.{runs-step, steps-over, had-over}
use Rattle.session_nodes.proofs.Primaries.{falls-with}
use Rattle.session_nodes.proofs.session_primary.SessionPrimary.ack_in.Goals as goal

abbrev takes-over : (g : _) (c : goal.After-ack_in g) → PrimaryTakes c.ack_in.result c.self.inside.node c.ack_in.new.self
takes-over g c =
    let took = c.ack_in.ensures.step in
    let event = Takes took.frame (is_none took.frame && is_out_of_memory c.ack_in.result) in
    record {
      frame = took.frame;
      link = took.link;
      step = steps-over event tt (primary_step event) (λ h. refl) c.self.inside.node c.ack_in.new.self (replied reply.Ok c.ack_in.result)
          (ends-took c.ack_in.result took.frame took.link (ap (λ (v : PrimaryView). v.outgoing) c.ack_in.ensures.rest))
          took.step.replies took.step.after;
    }

pub invariant_of-self : goal.invariant_of-self
invariant_of-self g c =
    let took = c.ack_in.ensures.step in
    had-over (Takes took.frame (is_none took.frame && is_out_of_memory c.ack_in.result))
    (primary_step (Takes took.frame (is_none took.frame && is_out_of_memory c.ack_in.result))) c.self.inside.node c.ack_in.new.self
    (replied reply.Ok c.ack_in.result) (λ h. refl) c.self.invariant (takes-over g c).step

pub returns : goal.returns
returns g c = rw (← c.self.view_is) (record {
  step = takes-over g c;
  runs = let took = c.ack_in.ensures.step in runs-step (Takes took.frame (is_none took.frame && is_out_of_memory c.ack_in.result)) tt c.self.inside.node
      c.ack_in.new.self (replied reply.Ok c.ack_in.result) (λ h. refl) (takes-over g c).step;
  refused = c.ack_in.ensures.refused;
  falls = falls-with c.self.inside.node c.ack_in.new.self (ap (λ (v : PrimaryView). v.faithful) c.ack_in.ensures.rest);
})
