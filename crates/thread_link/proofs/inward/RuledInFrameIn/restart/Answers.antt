use Rattle.std.proofs.Common.{◌<◌, sym, ap, subst}
use Rattle.thread_link.specs.Inward.{GatheredState, InwardState}
use Rattle.thread_link.proofs.Taking.{takes_over}
use Rattle.thread_link.proofs.inward.RuledInFrameIn.restart.Goals as goal

pub invariant_of-self : goal.invariant_of-self
invariant_of-self g c =
    let e = c.self.inside in
    let later : e.number < c.args.number = subst (λ (s : InwardState). s.number < c.args.number) (sym c.self.view_is) c.requires in
    takes_over e.pieces e.taken.went c.over-self-inside.result.went e.number c.args.number e.front c.clear.new.self e.rest c.drop_before.new.rest
    c.self.invariant later
    c.over-self-inside.ensures (ap (λ (s : GatheredState). s.bytes) c.clear.ensures) c.drop_before.ensures
