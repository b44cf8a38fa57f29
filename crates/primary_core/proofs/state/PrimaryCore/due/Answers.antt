use Rattle.std.proofs.Common.{refl, sym, ◌∙◌}
use Rattle.model.specs.Frames.{frame_of}
use Rattle.primary_protocol.specs.Transitions.{due}
use Rattle.primary_core.specs.State.{end_of}
use Rattle.primary_core.proofs.Ends.{end-at}
use Rattle.primary_core.proofs.Sending.{all-said, due-returned, item-is-due}
use Rattle.primary_core.proofs.state.PrimaryCore.due.Goals as goal

pub returns-in-Some-next-clause-due : goal.returns-in-Some-next-clause-due
returns-in-Some-next-clause-due c =
    let s = c.args.self.now in
    let x = c.in-Some.connection in
    let item = c.in-Some-next.item.now in
    let is = end-at c.self.inside s x c.self.view_is c.in-Some.is in
    let over = all-said x.handshake.hello_sent c.self.inside.settings x.handshake.own (sym c.due.ensures ∙ c.in_default-due.is) in
    let owed = item-is-due s.state (end_of x) item c.next_place.result is over c.in-Some-next.ensures.lookup (c.in-Some-next.ensures.variant.0 refl)
    (c.next_place.ensures (end_of x) is) in
    due-returned c.packet.result (due s.state) (frame_of c.next_place.result item) owed c.packet.ensures.packet c.packet.ensures.refused
