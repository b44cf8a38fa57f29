use Rattle.pair.proofs.pair.Pair.has_history.Goals as goal

pub returns : goal.returns
returns c = rw (← c.self.view_is) c.self.invariant.pair
