-- The frame that is offered spells the packet.
use Rattle.std.proofs.Common.{◌≡◌, [], ◌∷◌, ap, sym, subst, ◌∙◌}
use Rattle.std.specs.Prelude.{IfSome}
use Rattle.packets.specs.Spelling.{spelling}
use Rattle.packets.proofs.Cuts.{spelled_cut}
use Rattle.endpoint.specs.Meaning.{meaning}
use Rattle.endpoint.specs.PacketSender.{PacketSenderState, outgoing, with_pushed}
use Rattle.endpoint.proofs.Meanings.{same_frame, part_meant, pushed_out}
use Rattle.endpoint.proofs.packet_sender.PacketSender.push.Goals as goal

pub offer-requires-clause-whole : goal.offer-requires-clause-whole
offer-requires-clause-whole g c = spelled_cut c.args.packet c.in_ok-frame.frame c.requires.spellable c.in_ok-frame.ensures.spelled

pub offer-requires-clause-again : goal.offer-requires-clause-again
offer-requires-clause-again g c =
    same_frame (g.O.FrameOut.state c.self.inside.end).partly c.args.packet c.in_ok-frame.frame c.self.invariant.partly
    (subst (λ (s : PacketSenderState). IfSome s.partly (λ begun. begun ≡ meaning c.args.packet ∷ [])) (sym c.self.view_is) c.requires.again)
    c.requires.spellable c.in_ok-frame.ensures.spelled

pub returns-clause-pushed : goal.returns-clause-pushed
returns-clause-pushed g c =
    let p = c.args.packet in
    ap outgoing c.in_default.ensures.accepted
    ∙ pushed_out (g.O.FrameOut.state c.self.inside.end) c.in_ok-frame.frame p c.requires.spellable c.in_ok-frame.ensures.spelled
    ∙ ap (with_pushed (meaning p) (spelling p)) c.self.view_is

pub returns-in-Err-clause-in_part : goal.returns-in-Err-clause-in_part
returns-in-Err-clause-in_part g c =
    part_meant (g.O.FrameOut.state c.offer.new.self).partly c.args.packet c.in_ok-frame.frame c.in-Err.ensures.in_part c.requires.spellable
    c.in_ok-frame.ensures.spelled
