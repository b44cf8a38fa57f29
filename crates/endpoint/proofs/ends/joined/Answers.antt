-- The frames of both ends are those that their packets are read off.
use Rattle.endpoint.proofs.Joinings.{returned, past_begins, spelled_cuts, past_cuts, everywhere}
use Rattle.endpoint.proofs.ends.joined.Goals as goal

pub returns-clause-present : goal.returns-clause-present
returns-clause-present g c = rw (← c.outgoing.view_is, ← c.incoming.view_is)
    (returned (g.O.FrameOut.state c.outgoing.inside.end) (g.I.FrameIn.state c.incoming.inside.end) c.outgoing.invariant.sent)

pub returns-clause-past : goal.returns-clause-past
returns-clause-past g c = rw (← c.outgoing.view_is, ← c.incoming.view_is)
    (past_begins (g.I.FrameIn.state c.incoming.inside.end).past (g.O.FrameOut.state c.outgoing.inside.end).past c.outgoing.invariant.past)

pub returns-clause-whole : goal.returns-clause-whole
returns-clause-whole g c = rw (← c.outgoing.view_is) (spelled_cuts (g.O.FrameOut.state c.outgoing.inside.end).sent c.outgoing.invariant.sent)

pub returns-clause-whole_before : goal.returns-clause-whole_before
returns-clause-whole_before g c = rw (← c.outgoing.view_is) (past_cuts (g.O.FrameOut.state c.outgoing.inside.end).past c.outgoing.invariant.past)

pub returns-clause-everywhere : goal.returns-clause-everywhere
returns-clause-everywhere g c = rw (← c.outgoing.view_is, ← c.incoming.view_is)
    (everywhere (g.O.FrameOut.state c.outgoing.inside.end) (g.I.FrameIn.state c.incoming.inside.end) c.outgoing.invariant.sent c.outgoing.invariant.past)
