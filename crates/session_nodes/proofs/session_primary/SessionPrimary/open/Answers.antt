use Rattle.std.proofs.Common.{refl, ap, Err}
use Rattle.primary.specs.State.{PrimaryView}
use Rattle.session_nodes.proofs.Answers.{first-refused}
use Rattle.session_nodes.proofs.Primaries.{first-over, had-from}
use Rattle.session_nodes.proofs.session_primary.SessionPrimary.open.Goals as goal

pub invariant_of-result : goal.invariant_of-result
invariant_of-result g c =
    had-from g.B.Beginning.opening c.args.words.sync c.args.words.loss c.open.new.self _ c.requires.began
    (first-over c.args.words.sync c.args.words.loss c.in_ok-node.node c.open.new.self _ (g.O.FrameOut.state c.args.link.0)
    (g.I.FrameIn.state c.args.link.1) c.requires.outward c.requires.inward refl
    c.in_ok-node.ensures.history c.in-Ok.ensures.step (ap (λ (v : PrimaryView). v.outgoing) c.in-Ok.ensures.link)
    (ap (λ (v : PrimaryView). v.incoming) c.in-Ok.ensures.link))

pub returns-in-Ok : goal.returns-in-Ok
returns-in-Ok g c = record {
  opened = first-over c.args.words.sync c.args.words.loss c.in_ok-node.node c.open.new.self _ (g.O.FrameOut.state c.args.link.0)
      (g.I.FrameIn.state c.args.link.1) c.requires.outward c.requires.inward refl
      c.in_ok-node.ensures.history c.in-Ok.ensures.step (ap (λ (v : PrimaryView). v.outgoing) c.in-Ok.ensures.link)
      (ap (λ (v : PrimaryView). v.incoming) c.in-Ok.ensures.link);
  refused = tt;
}

pub returns-in-Err-clause-refused : goal.returns-in-Err-clause-refused
returns-in-Err-clause-refused g c = first-refused c.args.words.sync c.args.words.loss _ _ _ _ _ c.in_ok-node.node c.open.new.self (Err c.in-Err.refusal)
    c.in_ok-node.ensures.history c.in-Err.ensures.step
