-- A frame is read as the hello expects it after so many.
use Rattle.std.proofs.Common.{◌≡◌, ◌≤◌, true, false, ℕ, List, Result, Ok, Err, IfOk, ap, sym, ◌∙◌, length}
use Rattle.blocks.specs.declared.refusal.Refusal.{Refusal}
use Rattle.packets.specs.declared.packet.Packet.{Packet}
use Rattle.packets.specs.Table.{has_blocks}
use Rattle.packets.specs.Frames.{frame_read, in_hello}
use Rattle.link.specs.Ends.{InEnd, with_taken}
use Rattle.model.specs.Frames.{Received}
use Rattle.endpoint.specs.Meaning.{received}
use Rattle.endpoint.specs.PacketReceiver.{incoming, with_received, hello_after, received_after}
use Rattle.endpoint.proofs.Meanings.{hello_least, taken_in, same_row}
use Rattle.endpoint.proofs.packet_receiver.PacketReceiver.take.Goals as goal

pub returns-clause-taken : goal.returns-clause-taken
returns-clause-taken g c =
    let old : InEnd = g.I.FrameIn.state c.self.inside.end in
    let new : InEnd = g.I.FrameIn.state c.take.new.self in
    let frame : List ℕ = c.in_ok-frame.frame in
    let took : new ≡ with_taken frame new.is_ready old = c.in_ok-frame.ensures.next in
    let expected : c.next-expected.result ≡ hello_after (length old.taken) = c.next-expected.ensures ∙ ap hello_after c.self.invariant
    ∙ hello_least (length old.taken) in
    let read : received c.read.result ≡ received_after (length old.taken) frame = ap received (c.read.ensures.is
    ∙ ap (λ h. in_hello h frame (frame_read frame)) expected) in
    ap incoming took ∙ taken_in old frame new.is_ready
    ∙ ap (λ (r : Received). with_received r (with_taken frame new.is_ready old).taken new.is_ready (incoming old)) (sym read)
    ∙ ap (λ (s : InEnd). with_received (received c.read.result) s.taken new.is_ready (incoming old)) (sym took)
    ∙ ap (with_received (received c.read.result) new.taken new.is_ready) c.self.view_is

pub returns-clause-row : goal.returns-clause-row
returns-clause-row g c =
    let old : InEnd = g.I.FrameIn.state c.self.inside.end in
    let new : InEnd = g.I.FrameIn.state c.take.new.self in
    rw (← c.self.view_is) (same_row old.taken new.taken c.in_ok-frame.frame old.queued new.queued (ap (λ (s : InEnd). s.taken) c.in_ok-frame.ensures.next)
    c.in_ok-frame.ensures.exact)

pub returns-clause-still_ready : goal.returns-clause-still_ready
returns-clause-still_ready g c = go c.read.result c.read.ensures.short
  where
    go : (v : Result Packet Refusal) → IfOk v (λ p. has_blocks p ≡ false → length c.in_ok-frame.frame ≤ 40)
        → IfOk v (λ p. has_blocks p ≡ false → (g.I.FrameIn.state c.take.new.self).is_ready ≡ true)
    go (Ok p) short = λ none. c.in_ok-frame.ensures.still_ready (short none)
    go (Err e) short = tt
