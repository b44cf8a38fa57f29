use Rattle.std.proofs.Common.{◌≡◌, ◌∙◌, sym, ap, length, min}
use Rattle.endpoint.specs.PacketSender.{PacketSenderState}
use Rattle.endpoint.proofs.Meanings.{meant_many}
use Rattle.endpoint.proofs.packet_sender.PacketSender.pushed.Goals as goal

pub returns : goal.returns
returns g c =
    c.self.invariant.counted
    ∙ (ap (λ n. min n 18446744073709551615) (sym (meant_many (g.O.FrameOut.state c.self.inside.end).sent c.self.invariant.sent))
    ∙ ap (λ (s : PacketSenderState). min (length s.pushed) 18446744073709551615) c.self.view_is)
