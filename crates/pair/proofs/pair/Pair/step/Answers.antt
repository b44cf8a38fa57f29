use Rattle.std.proofs.Common.{ℕ, ◌∙◌, Err, [], ◌∷◌, sym, refl, ap, rules}
use Rattle.blocks.specs.declared.outcome.Done.{Done}
use Rattle.blocks.specs.declared.outcome.Reply.TheVariants as reply
use Rattle.primary_protocol.specs.Steps as from_primary
use Rattle.secondary_protocol.specs.Steps as from_secondary
use Rattle.pair_protocol.specs.State.{IsPairStep, is_out_of_memory}
use Rattle.pair_protocol.proofs.Clauses.{has-clauses}
use Rattle.pair.specs.Events.{event_of}
use Rattle.pair.specs.State.{state}
use Rattle.pair.proofs.Answering.{err-step, ok-step, other-way, same-done, same-refusal}
use Rattle.pair.proofs.HonestLink.{honest-reply}
use Rattle.pair.proofs.pair.Pair.step.Goals as goal
use Rattle.pair.proofs.pair.Pair.step.Goals.{in-Open, in-Submit+in-Ok, in-Submit+in-Err, in-Local, in-LocalFault, in-Send, in-Receive, in-Peer, in-PeerFault}
use Rattle.pair.proofs.pair.Pair.step.Goals.{in-AckOut, in-AckIn, in-Resync, in-ResyncFault, in-CloseSecondary+in-Ok-close_secondary}
use Rattle.pair.proofs.pair.Pair.step.Goals.{in-CloseSecondary+in-Err-close_secondary}

pub returns-in-Ok-outcome : goal.returns-in-Ok-outcome
returns-in-Ok-outcome c = record {
  step = elim c.match-event.branch [
    | in-Open w ↦ rw (w.self-is, w.in-Open.is) (ok-step (from_primary.replied reply.Ok) _ _ _ w.open-outcome.result c.in-Ok-outcome.done _ (sym w.outcome-is
        ∙ c.in-Ok-outcome.is) refl w.open-outcome.ensures.step)
    | in-Submit+in-Ok w ↦ rw (w.self-is, w.in-Submit.is)
        (ok-step (from_primary.replied (λ (returned : ℕ × Done). reply.Ok returned.1)) _ _ _ w.submit.result (w.in-Ok.field-0-0, w.in-Ok.done) _ w.in-Ok.is
        (ap reply.Ok (same-done _ _ (sym w.outcome-is ∙ c.in-Ok-outcome.is))) w.submit.ensures.step)
    | in-Submit+in-Err w ↦ absurd (other-way _ _ (sym w.outcome-is ∙ c.in-Ok-outcome.is))
    | in-Local w ↦ rw (w.self-is, w.in-Local.is) (ok-step (from_primary.replied reply.Ok) _ _ _ w.local-outcome.result c.in-Ok-outcome.done _ (sym w.outcome-is
        ∙ c.in-Ok-outcome.is) refl w.local-outcome.ensures.step)
    | in-LocalFault w ↦ rw (w.self-is, w.in-LocalFault.is)
        (ok-step (from_primary.replied reply.Ok) _ _ _ w.local_fault-outcome.result c.in-Ok-outcome.done _ (sym w.outcome-is
        ∙ c.in-Ok-outcome.is) refl w.local_fault-outcome.ensures.step)
    | in-Send w ↦ rw (w.self-is, w.in-Send.is) (ok-step (from_primary.replied reply.Ok) _ _ _ w.send-outcome.result c.in-Ok-outcome.done _ (sym w.outcome-is
        ∙ c.in-Ok-outcome.is) refl w.send-outcome.ensures.step)
    | in-Receive w ↦ rw (w.self-is, w.in-Receive.is) (ok-step (from_secondary.replied (λ (d : Done). d)) _ _ _ w.receive-outcome.result c.in-Ok-outcome.done _
        (sym w.outcome-is ∙ c.in-Ok-outcome.is) refl w.receive-outcome.ensures.step)
    | in-Peer w ↦ rw (w.self-is, w.in-Peer.is) (ok-step (from_secondary.replied (λ (d : Done). d)) _ _ _ w.peer-outcome.result c.in-Ok-outcome.done _
        (sym w.outcome-is ∙ c.in-Ok-outcome.is) refl w.peer-outcome.ensures.step)
    | in-PeerFault w ↦ rw (w.self-is, w.in-PeerFault.is)
        (ok-step (from_secondary.replied (λ (d : Done). d)) _ _ _ w.peer_fault-outcome.result c.in-Ok-outcome.done _ (sym w.outcome-is
        ∙ c.in-Ok-outcome.is) refl w.peer_fault-outcome.ensures.step)
    | in-AckOut w ↦ rw (w.self-is, w.in-AckOut.is) (ok-step (from_secondary.replied (λ (d : Done). d)) _ _ _ w.ack_out-outcome.result c.in-Ok-outcome.done _
        (sym w.outcome-is ∙ c.in-Ok-outcome.is) refl w.ack_out-outcome.ensures.step)
    | in-AckIn w ↦ rw (w.self-is, w.in-AckIn.is) (ok-step (from_primary.replied reply.Ok) _ _ _ w.ack_in-outcome.result c.in-Ok-outcome.done _ (sym w.outcome-is
        ∙ c.in-Ok-outcome.is) refl w.ack_in-outcome.ensures.step)
    | in-Resync w ↦ rw (w.self-is, w.in-Resync.is)
        (ok-step (from_primary.replied reply.Ok) _ _ _ w.resync-outcome.result c.in-Ok-outcome.done _ (sym w.outcome-is
        ∙ c.in-Ok-outcome.is) refl w.resync-outcome.ensures.step)
    | in-ResyncFault w ↦ rw (w.self-is, w.in-ResyncFault.is) (ok-step (from_primary.replied reply.Ok) _ _ _ w.resync_fault-outcome.result c.in-Ok-outcome.done _
        (sym w.outcome-is ∙ c.in-Ok-outcome.is) refl w.resync_fault-outcome.ensures.step)
    | in-CloseSecondary+in-Ok-close_secondary w ↦ rw (w.self-is, w.in-CloseSecondary.is)
        (ok-step (from_secondary.replied from_secondary.plainly) _ _ _ w.close_secondary.result tt _ w.in-Ok-close_secondary.is
        (ap reply.Ok (sym w.about.ensures ∙ same-done _ _ (sym w.outcome-is ∙ c.in-Ok-outcome.is))) w.close_secondary.ensures.step)
    | in-CloseSecondary+in-Err-close_secondary w ↦ absurd (other-way _ _ (sym w.outcome-is ∙ c.in-Ok-outcome.is))
  ];
  honest_link = refl;
  honest = λ h has. (has-clauses h has.run).honest ((event_of c.args.event.now, is_out_of_memory (reply.Ok c.in-Ok-outcome.done)) ∷ []);
  grounded = λ h has. (has-clauses h has.run).grounded ((event_of c.args.event.now, is_out_of_memory (reply.Ok c.in-Ok-outcome.done)) ∷ []);
  closed = λ h has. (has-clauses h has.run).closed ((event_of c.args.event.now, is_out_of_memory (reply.Ok c.in-Ok-outcome.done)) ∷ []);
  beginning = λ h has. (has-clauses h has.run).beginning;
  epochs = λ h has. (has-clauses h has.run).epochs;
  promises = λ h has. (has-clauses h has.run).promises;
  marks = λ h has. (has-clauses h has.run).marks;
  cover = λ h has. (has-clauses h has.run).cover;
  order = λ h has. (has-clauses h has.run).order;
}

pub returns-in-Err-outcome : goal.returns-in-Err-outcome
returns-in-Err-outcome c = record {
  step = steps;
  honest_link = honest-reply (event_of c.args.event.now) (is_out_of_memory (reply.Refused c.in-Err-outcome.refusal)) (state c.args.self.now) (state c.match-event.self)
      (reply.Refused c.in-Err-outcome.refusal) c.has_history.ensures steps;
  honest = λ h has. (has-clauses h has.run).honest ((event_of c.args.event.now, is_out_of_memory (reply.Refused c.in-Err-outcome.refusal)) ∷ []);
  grounded = λ h has. (has-clauses h has.run).grounded ((event_of c.args.event.now, is_out_of_memory (reply.Refused c.in-Err-outcome.refusal)) ∷ []);
  closed = λ h has. (has-clauses h has.run).closed ((event_of c.args.event.now, is_out_of_memory (reply.Refused c.in-Err-outcome.refusal)) ∷ []);
  beginning = λ h has. (has-clauses h has.run).beginning;
  epochs = λ h has. (has-clauses h has.run).epochs;
  promises = λ h has. (has-clauses h has.run).promises;
  marks = λ h has. (has-clauses h has.run).marks;
  cover = λ h has. (has-clauses h has.run).cover;
  order = λ h has. (has-clauses h has.run).order;
}
  where
    steps : IsPairStep (event_of c.args.event.now) (is_out_of_memory (reply.Refused c.in-Err-outcome.refusal)) (state c.args.self.now)
        (reply.Refused c.in-Err-outcome.refusal) (state c.match-event.self)
    steps = elim c.match-event.branch [
      | in-Open w ↦ rw (w.self-is, w.in-Open.is) (err-step (from_primary.replied reply.Ok) _ _ _ w.open-outcome.result c.in-Err-outcome.refusal refl
          (sym w.outcome-is ∙ c.in-Err-outcome.is) w.open-outcome.ensures.step)
      | in-Submit+in-Ok w ↦ absurd (other-way _ _ (sym c.in-Err-outcome.is ∙ w.outcome-is))
      | in-Submit+in-Err w ↦ rw (w.self-is, w.in-Submit.is)
          (err-step (from_primary.replied (λ (returned : ℕ × Done). reply.Ok returned.1)) _ _ _ w.submit.result c.in-Err-outcome.refusal refl (w.in-Err.is
          ∙ ap Err (same-refusal _ _ (sym w.outcome-is ∙ c.in-Err-outcome.is))) w.submit.ensures.step)
      | in-Local w ↦ rw (w.self-is, w.in-Local.is) (err-step (from_primary.replied reply.Ok) _ _ _ w.local-outcome.result c.in-Err-outcome.refusal refl
          (sym w.outcome-is ∙ c.in-Err-outcome.is) w.local-outcome.ensures.step)
      | in-LocalFault w ↦ rw (w.self-is, w.in-LocalFault.is)
          (err-step (from_primary.replied reply.Ok) _ _ _ w.local_fault-outcome.result c.in-Err-outcome.refusal refl (sym w.outcome-is
          ∙ c.in-Err-outcome.is) w.local_fault-outcome.ensures.step)
      | in-Send w ↦ rw (w.self-is, w.in-Send.is) (err-step (from_primary.replied reply.Ok) _ _ _ w.send-outcome.result c.in-Err-outcome.refusal refl
          (sym w.outcome-is ∙ c.in-Err-outcome.is) w.send-outcome.ensures.step)
      | in-Receive w ↦ rw (w.self-is, w.in-Receive.is)
          (err-step (from_secondary.replied (λ (d : Done). d)) _ _ _ w.receive-outcome.result c.in-Err-outcome.refusal refl (sym w.outcome-is
          ∙ c.in-Err-outcome.is) w.receive-outcome.ensures.step)
      | in-Peer w ↦ rw (w.self-is, w.in-Peer.is) (err-step (from_secondary.replied (λ (d : Done). d)) _ _ _ w.peer-outcome.result c.in-Err-outcome.refusal refl
          (sym w.outcome-is ∙ c.in-Err-outcome.is) w.peer-outcome.ensures.step)
      | in-PeerFault w ↦ rw (w.self-is, w.in-PeerFault.is)
          (err-step (from_secondary.replied (λ (d : Done). d)) _ _ _ w.peer_fault-outcome.result c.in-Err-outcome.refusal refl (sym w.outcome-is
          ∙ c.in-Err-outcome.is) w.peer_fault-outcome.ensures.step)
      | in-AckOut w ↦ rw (w.self-is, w.in-AckOut.is)
          (err-step (from_secondary.replied (λ (d : Done). d)) _ _ _ w.ack_out-outcome.result c.in-Err-outcome.refusal refl (sym w.outcome-is
          ∙ c.in-Err-outcome.is) w.ack_out-outcome.ensures.step)
      | in-AckIn w ↦ rw (w.self-is, w.in-AckIn.is) (err-step (from_primary.replied reply.Ok) _ _ _ w.ack_in-outcome.result c.in-Err-outcome.refusal refl
          (sym w.outcome-is ∙ c.in-Err-outcome.is) w.ack_in-outcome.ensures.step)
      | in-Resync w ↦ rw (w.self-is, w.in-Resync.is) (err-step (from_primary.replied reply.Ok) _ _ _ w.resync-outcome.result c.in-Err-outcome.refusal refl
          (sym w.outcome-is ∙ c.in-Err-outcome.is) w.resync-outcome.ensures.step)
      | in-ResyncFault w ↦ rw (w.self-is, w.in-ResyncFault.is)
          (err-step (from_primary.replied reply.Ok) _ _ _ w.resync_fault-outcome.result c.in-Err-outcome.refusal refl (sym w.outcome-is
          ∙ c.in-Err-outcome.is) w.resync_fault-outcome.ensures.step)
      | in-CloseSecondary+in-Ok-close_secondary w ↦ absurd (other-way _ _ (sym c.in-Err-outcome.is ∙ w.outcome-is))
      | in-CloseSecondary+in-Err-close_secondary w ↦ rw (w.self-is, w.in-CloseSecondary.is)
          (err-step (from_secondary.replied from_secondary.plainly) _ _ _ w.close_secondary.result c.in-Err-outcome.refusal refl (w.in-Err-close_secondary.is
          ∙ ap Err (same-refusal _ _ (sym w.outcome-is ∙ c.in-Err-outcome.is))) w.close_secondary.ensures.step)
    ]

pub returns-in-Ok-close_primary : goal.returns-in-Ok-close_primary
returns-in-Ok-close_primary c = record {
  step = search rules;
  honest_link = refl;
  honest = λ h has. (has-clauses h has.run).honest ((event_of c.args.event.now, is_out_of_memory (reply.Closed c.in-Ok-close_primary.completed)) ∷ []);
  grounded = λ h has. (has-clauses h has.run).grounded ((event_of c.args.event.now, is_out_of_memory (reply.Closed c.in-Ok-close_primary.completed)) ∷ []);
  closed = λ h has. (has-clauses h has.run).closed ((event_of c.args.event.now, is_out_of_memory (reply.Closed c.in-Ok-close_primary.completed)) ∷ []);
  beginning = λ h has. (has-clauses h has.run).beginning;
  epochs = λ h has. (has-clauses h has.run).epochs;
  promises = λ h has. (has-clauses h has.run).promises;
  marks = λ h has. (has-clauses h has.run).marks;
  cover = λ h has. (has-clauses h has.run).cover;
  order = λ h has. (has-clauses h has.run).order;
}

pub returns-in-Err-close_primary : goal.returns-in-Err-close_primary
returns-in-Err-close_primary c = record {
  step = steps;
  honest_link = honest-reply (event_of c.args.event.now) (is_out_of_memory (reply.Refused c.in-Err-close_primary.refusal)) (state c.args.self.now)
      (state c.close_primary.new.self) (reply.Refused c.in-Err-close_primary.refusal) c.has_history.ensures steps;
  honest = λ h has. (has-clauses h has.run).honest ((event_of c.args.event.now, is_out_of_memory (reply.Refused c.in-Err-close_primary.refusal)) ∷ []);
  grounded = λ h has. (has-clauses h has.run).grounded ((event_of c.args.event.now, is_out_of_memory (reply.Refused c.in-Err-close_primary.refusal)) ∷ []);
  closed = λ h has. (has-clauses h has.run).closed ((event_of c.args.event.now, is_out_of_memory (reply.Refused c.in-Err-close_primary.refusal)) ∷ []);
  beginning = λ h has. (has-clauses h has.run).beginning;
  epochs = λ h has. (has-clauses h has.run).epochs;
  promises = λ h has. (has-clauses h has.run).promises;
  marks = λ h has. (has-clauses h has.run).marks;
  cover = λ h has. (has-clauses h has.run).cover;
  order = λ h has. (has-clauses h has.run).order;
}
  where
    steps : IsPairStep (event_of c.args.event.now) (is_out_of_memory (reply.Refused c.in-Err-close_primary.refusal)) (state c.args.self.now)
        (reply.Refused c.in-Err-close_primary.refusal) (state c.close_primary.new.self)
    steps = search rules
