-- The steps of a primary's disk, as events.
use Rattle.std.proofs.Common.{ℕ, ◌≡◌, inl, inr, refl}
use Rattle.std.specs.Prelude.{Result}
use Rattle.blocks.specs.declared.outcome.Done.{Done}
use Rattle.blocks.specs.declared.outcome.Reply.TheVariants as reply
use Rattle.blocks.specs.declared.refusal.Refusal.{Refusal}
use Rattle.endpoint.specs.Calls.{is_out_of_memory}
use Rattle.model.specs.LocalRuns.{PrimaryEvent, WritesLocally, FailsLocally, Resyncs, FailsResync, primary_after}
use Rattle.model.specs.Primary.{PrimaryHistory}
use Rattle.primary.specs.Calls.{CopiesOne, WritesOne}
use Rattle.primary.specs.State.{PrimaryView}
use Rattle.primary_protocol.specs.Node.{primary_step}
use Rattle.primary_protocol.specs.Steps.{replied}
use Rattle.session_nodes.proofs.Ends.{ends-of}
use Rattle.session_nodes.proofs.Primaries.{steps-over}
use Rattle.session_nodes.specs.Primaries.{PrimaryHas}
use Rattle.stops.specs.Hooks.{MayCover}

-- some event led from the one to the other, and it covers nothing new
pub record LedBy (v w : PrimaryView) : Type 0 where
  pub event : PrimaryEvent
  pub none : (h : PrimaryHistory) (block : ℕ) → MayCover event h block → ⊥
  pub after : (h : PrimaryHistory) → PrimaryHas v h → PrimaryHas w (primary_after event h)

pub writes-led : (number : ℕ) (result : Result Done Refusal) (v w : PrimaryView) → w.outgoing ≡ v.outgoing → w.incoming ≡ v.incoming → WritesOne number result v w
    → LedBy v w
writes-led number result v w outward inward (inl done) = record {
  event = WritesLocally number;
  none = λ h block may. may;
  after = (steps-over (WritesLocally number) tt (primary_step (WritesLocally number)) (λ h. refl) v w (replied reply.Ok result) (ends-of outward inward)
      done.1.replies done.1.after).after;
}
writes-led number result v w outward inward (inr failed) = record {
  event = FailsLocally number failed.1.0;
  none = λ h block may. may;
  after = (steps-over (FailsLocally number failed.1.0) tt (primary_step (FailsLocally number failed.1.0)) (λ h. refl) v w (replied reply.Ok result)
      (ends-of outward inward) failed.1.1.replies failed.1.1.after).after;
}

pub copies-led : (result : Result Done Refusal) (v w : PrimaryView) → w.outgoing ≡ v.outgoing → w.incoming ≡ v.incoming → CopiesOne result v w → LedBy v w
copies-led result v w outward inward (inl done) = record {
  event = Resyncs done.1.0 (is_out_of_memory result);
  none = λ h block may. may;
  after = (steps-over (Resyncs done.1.0 (is_out_of_memory result)) tt (primary_step (Resyncs done.1.0 (is_out_of_memory result))) (λ h. refl) v w
      (replied reply.Ok result) (ends-of outward inward) done.1.2.replies done.1.2.after).after;
}
copies-led result v w outward inward (inr failed) = record {
  event = FailsResync (is_out_of_memory result);
  none = λ h block may. may;
  after = (steps-over (FailsResync (is_out_of_memory result)) tt (primary_step (FailsResync (is_out_of_memory result))) (λ h. refl) v w (replied reply.Ok result)
      (ends-of outward inward) failed.1.replies failed.1.after).after;
}
