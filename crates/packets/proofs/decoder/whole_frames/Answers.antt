-- Each frame takes at least its header.
use Rattle.std.proofs.Common.{◌≡◌, ℕ, ◌+◌, ◌<◌, List, ◌++◌, length, ap, subst, arith, Ok}
use Rattle.std.proofs.lemmas.Grind.{common_steps}
use Rattle.std.proofs.lemmas.List.{length-append}
use Rattle.packets.specs.declared.decoder.Next.{Next}
use Rattle.packets.specs.declared.decoder.Next.TheVariants.{Whole}
use Rattle.packets.specs.declared.packet.Packet.{Packet}
use Rattle.packets.specs.Spelling.{spelling}
use Rattle.packets.specs.Steps.{Advances}
use Rattle.packets.proofs.Frames.{spelling_length}
use Rattle.packets.proofs.decoder.whole_frames.Goals as goal

smaller : (front piece after : List ℕ) (p : Packet) → front ++ piece ≡ spelling p ++ after → length after < length front + length piece
smaller front piece after p e = omega (arith, ap length e, length-append front piece, length-append (spelling p) after, spelling_length p)

pub loop-packet-smaller : goal.loop-packet-smaller
loop-packet-smaller c =
    let bytes = c.loop-packet.front.now ++ c.loop-packet.piece.now in
    let goes : Advances (Ok (Whole c.in-Whole.packet c.in-Whole.after)) bytes =
    subst (λ (n : Next). Advances (Ok n) bytes) c.in-Whole.is c.in_ok-packet.ensures in
    omega (arith, smaller c.loop-packet.front.now c.loop-packet.piece.now c.in-Whole.after.now c.in-Whole.packet goes.1)

pub loop-packet-preserved : goal.loop-packet-preserved
loop-packet-preserved c = grind (arith, common_steps)
