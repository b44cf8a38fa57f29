use Rattle.std.proofs.Common.{◌<◌, sym, subst}
use Rattle.thread_link.specs.Outward.{OutwardState}
use Rattle.thread_link.proofs.Sending.{sends_over}
use Rattle.thread_link.proofs.outward.RuledOutFrameOut.restart.Goals as goal

pub invariant_of-self : goal.invariant_of-self
invariant_of-self g c =
    let e = c.self.inside in
    let later : e.number < c.args.number = subst (λ (s : OutwardState). s.number < c.args.number) (sym c.self.view_is) c.requires in
    sends_over e.pieces e.sent.went c.over-self-inside.result.went e.number c.args.number e.part.went.frames c.new-self-inside.result.went.frames
    c.self.invariant later c.over-self-inside.ensures
