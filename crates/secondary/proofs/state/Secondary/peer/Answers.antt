use Rattle.std.proofs.Common.{◌≡◌, ◌+◌, ◌≤◌, length, Err, inl, inr, refl, rules, arith}
use Rattle.model.specs.Stream.{contents_of, first_of}
use Rattle.secondary_protocol.proofs.Node.Applies.{node-not-started}
use Rattle.secondary.proofs.Applies.{done, failed, on-disk, refused-step}
use Rattle.secondary.proofs.state.Secondary.peer.Goals as goal

pub returns-in_err-item-clause-step : goal.returns-in_err-item-clause-step
returns-in_err-item-clause-step g c =
    let refused : c.from_residual.result ≡ Err c.in_err-item.field-0.0 = search rules in
    rw (← c.self.view_is) (inl (refl, refused-step _ _ _ _ refused (node-not-started _ c.args.place _ c.in_err-item.ensures.started)))

pub write-requires-clause-inside : goal.write-requires-clause-inside
write-requires-clause-inside g c =
    let inside : first_of c.in_ok-item.item.now + length (contents_of c.in_ok-item.item.now) ≤ length (g.S.Store.contents c.self.inside.store) =
    on-disk _ c.in_ok-item.item.now c.self.invariant c.in_ok-item.ensures.inside in
    omega (arith, inside, c.range.ensures.first, c.range.ensures.count)

pub invariant_of-self : goal.invariant_of-self
invariant_of-self g c =
    (done _ _ _ _ _ _ _ _ _ c.self.invariant c.in_ok-item.ensures.started c.in_ok-item.ensures.inside c.range.ensures.first
    c.as_slice.ensures c.contents.ensures.blocks c.done.ensures.done c.done.ensures.state c.in-Ok.ensures.written).is _ _ _

pub invariant_of-self-in-Err : goal.invariant_of-self-in-Err
invariant_of-self-in-Err g c =
    (failed _ _ _ _ _ _ _ _ _ c.self.invariant c.in_ok-item.ensures.started c.in_ok-item.ensures.inside c.range.ensures.first
    c.as_slice.ensures c.contents.ensures.blocks c.failed.ensures.done c.failed.ensures.state c.in-Err.ensures.torn).1.is _ _ _

pub returns-in-Err-clause-step : goal.returns-in-Err-clause-step
returns-in-Err-clause-step g c =
    let fails = failed _ _ _ _ _ _ _ _ _ c.self.invariant c.in_ok-item.ensures.started c.in_ok-item.ensures.inside c.range.ensures.first
    c.as_slice.ensures c.contents.ensures.blocks c.failed.ensures.done c.failed.ensures.state c.in-Err.ensures.torn in
    rw (← c.self.view_is) (inr (c.in-Err.ensures.counted, (fails.0, fails.1.steps)))

pub returns-in-Ok-clause-step : goal.returns-in-Ok-clause-step
returns-in-Ok-clause-step g c =
    rw (← c.self.view_is) (inl (
      c.in-Ok.ensures.uncounted,
      (done _ _ _ _ _ _ _ _ _ c.self.invariant c.in_ok-item.ensures.started c.in_ok-item.ensures.inside c.range.ensures.first
          c.as_slice.ensures c.contents.ensures.blocks c.done.ensures.done c.done.ensures.state c.in-Ok.ensures.written).steps,
    ))
