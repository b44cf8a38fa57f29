use Rattle.metadata.proofs.metadata.Metadata.is_broken.Goals as goal

pub returns-clause-stands : goal.returns-clause-stands
returns-clause-stands g c = rw (← c.self.view_is) λ whole faithful.
    let kept = c.self.invariant.kept whole faithful in
    record {
      opens = kept.says.opens;
      exactly = kept.exactly;
      left = λ f may. (kept.left f may).opens;
      entered = λ f may. (kept.left f may).entered;
    }

pub returns-clause-sized : goal.returns-clause-sized
returns-clause-sized g c = rw (← c.self.view_is) c.self.invariant.sized

pub returns-clause-few : goal.returns-clause-few
returns-clause-few g c = rw (← c.self.view_is) c.self.invariant.few
