use Rattle.std.proofs.Common.{sym, ◌∙◌}
use Rattle.session_link.proofs.Joins.{joined}
use Rattle.session_link.proofs.join.join_nodes.Goals as goal

pub returns-clause-joined : goal.returns-clause-joined
returns-clause-joined g c =
    joined c.args.primary c.args.secondary c.in-Some.outgoing c.in-Some-acks.acks c.in-Some-answers.answers c.in-Some-incoming.incoming
    (sym c.into_parts-primary.ensures.outgoing ∙ c.in-Some.is) (sym c.into_parts-primary.ensures.incoming ∙ c.in-Some-acks.is)
    (sym c.into_parts-secondary.ensures.outgoing ∙ c.in-Some-answers.is) (sym c.into_parts-secondary.ensures.incoming ∙ c.in-Some-incoming.is)
    c.join_direction-outgoing.ensures.joined c.join_direction-answers.ensures.joined
