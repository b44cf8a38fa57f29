use Rattle.std.proofs.Common.{sym, ◌∙◌, ap}
use Rattle.endpoint.specs.PacketReceiver.{incoming}
use Rattle.endpoint.specs.PacketSender.{outgoing}
use Rattle.thread_link.specs.Inward.{InwardState, taking}
use Rattle.thread_link.specs.Outward.{OutwardState, sending}
use Rattle.session_link.proofs.Directions.{joins}
use Rattle.session_link.proofs.direction.join_direction.Goals as goal

pub returns-clause-joined : goal.returns-clause-joined
returns-clause-joined g c =
    let out = λ (s : OutwardState). outgoing (sending s) in
    let inn = λ (s : InwardState). incoming (taking s) in
    joins c.args.outgoing c.args.incoming c.over-outgoing.result c.over-incoming.result c.into_end.result c.into_end-2.result
    (c.into_end-sent.ensures.same ∙ ap out (sym c.into_end.ensures.same))
    (c.into_end-taken.ensures.same ∙ ap inn (sym c.into_end-2.ensures.same))
    (c.over-outgoing.ensures ∙ ap out (c.named.ensures ∙ c.join_ends-sent.ensures.ends.0))
    (c.over-incoming.ensures ∙ ap inn (c.named-2.ensures ∙ c.join_ends-sent.ensures.ends.1))
    c.join_ends-sent.ensures.begins c.joined.ensures.everywhere
