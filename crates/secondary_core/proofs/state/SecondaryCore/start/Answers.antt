use Rattle.secondary_core.proofs.Places.{started-inside}
use Rattle.secondary_core.proofs.state.SecondaryCore.start.Goals as goal

pub returns-clause-inside : goal.returns-clause-inside
returns-clause-inside c =
    let s = c.self.inside in
    rw (← c.self.view_is) (started-inside (λ item. item.now) c.start.result s.settings.blocks s.inbox c.args.place s.disk.pending
    c.self.invariant.pending.pending c.start.ensures)
