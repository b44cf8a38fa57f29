use Rattle.std.proofs.Common.{refl, ◌&&◌, is_none}
use Rattle.endpoint.specs.Calls.{is_out_of_memory}
use Rattle.model.specs.LocalRuns.{Receives}
use Rattle.secondary_protocol.specs.Steps.{replied}
use Rattle.session_nodes.specs.Secondaries.{SecondaryReceives}
use Rattle.session_nodes.proofs.Ends.{ends-took}
use Rattle.session_nodes.proofs.Secondaries.{outgoing-stays, runs-step, steps-over, had-over}
use Rattle.session_nodes.proofs.session_secondary.SessionSecondary.receive.Goals as goal

abbrev takes-over : (g : _) (c : goal.After-receive g) → SecondaryReceives c.receive.result c.self.inside.node c.receive.new.self
takes-over g c =
    let took = c.receive.ensures.step in
    record {
      frame = took.frame;
      link = took.link;
      step = steps-over (Receives took.frame (is_none took.frame && is_out_of_memory c.receive.result)) tt (λ h. refl) c.self.inside.node c.receive.new.self
          (replied (λ done. done) c.receive.result)
          (ends-took c.receive.result took.frame took.link
          (outgoing-stays c.self.inside.node c.receive.new.self c.receive.ensures.rest)) took.step;
    }

pub invariant_of-self : goal.invariant_of-self
invariant_of-self g c =
    let took = c.receive.ensures.step in
    had-over (Receives took.frame (is_none took.frame && is_out_of_memory c.receive.result)) c.self.inside.node c.receive.new.self
    (replied (λ done. done) c.receive.result) (λ h. refl) c.self.invariant (takes-over g c).step

pub returns : goal.returns
returns g c = rw (← c.self.view_is) (record {
  step = takes-over g c;
  runs = let took = c.receive.ensures.step in runs-step (Receives took.frame (is_none took.frame && is_out_of_memory c.receive.result)) tt c.self.inside.node
      c.receive.new.self (replied (λ done. done) c.receive.result) (λ h. refl) (takes-over g c).step;
  refused = c.receive.ensures.refused;
})
