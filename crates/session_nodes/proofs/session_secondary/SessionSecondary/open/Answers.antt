use Rattle.std.proofs.Common.{◌≡◌, true, refl, ap, Err}
use Rattle.secondary.specs.State.{SecondaryView}
use Rattle.model.specs.CallRefusals.{peer_open_refuses}
use Rattle.session_nodes.proofs.Answers.{first-refused-too}
use Rattle.session_nodes.proofs.Secondaries.{first-over, had-from}
use Rattle.session_nodes.proofs.session_secondary.SessionSecondary.open.Goals as goal

pub invariant_of-result : goal.invariant_of-result
invariant_of-result g c =
    had-from g.B.Beginning.opening c.open.new.self _ c.requires.began
    (first-over c.in_ok-node.node c.open.new.self _ _ _ c.requires.outward c.requires.inward refl c.in_ok-node.ensures.history c.in-Ok.ensures.step
    (ap (λ (v : SecondaryView). v.outgoing) c.in-Ok.ensures.link) (ap (λ (v : SecondaryView). v.incoming) c.in-Ok.ensures.link))

pub returns-in-Ok : goal.returns-in-Ok
returns-in-Ok g c = record {
  opened = first-over c.in_ok-node.node c.open.new.self _ _ _ c.requires.outward c.requires.inward refl c.in_ok-node.ensures.history c.in-Ok.ensures.step
      (ap (λ (v : SecondaryView). v.outgoing) c.in-Ok.ensures.link) (ap (λ (v : SecondaryView). v.incoming) c.in-Ok.ensures.link);
  refused = tt;
}

pub returns-in-Err-clause-refused : goal.returns-in-Err-clause-refused
returns-in-Err-clause-refused g c = first-refused-too (λ e. peer_open_refuses e ≡ true) _ _ _ c.in_ok-node.node c.open.new.self (Err c.in-Err.refusal)
    c.in_ok-node.ensures.history c.in-Err.ensures.step
