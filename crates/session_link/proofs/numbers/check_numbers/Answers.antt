use Rattle.std.proofs.Common.{◌≡◌, ◌<◌, ◌≤◌, ◌∙◌, None, ℕ, length, sym, arith}
use Rattle.primary.specs.State.{PrimaryView}
use Rattle.session_nodes.specs.Primaries.{PrimaryIsHad}
use Rattle.session_link.proofs.numbers.check_numbers.Goals as goal

-- The number of connections that the primary tells is its core's.
returned : (v : PrimaryView) (had : PrimaryIsHad None v) (number : ℕ) → number ≡ length had.history.connections → v.core.connections ≡ number
returned v had number tells = had.has.has.leaves.core.rest.connections ∙ sym tells

pub returns-then-connection_number-clause-above : goal.returns-then-connection_number-clause-above
returns-then-connection_number-clause-above g c =
    let own : c.args.primary.now.core.connections ≡ c.connection_number-2.result
    = returned c.args.primary.now c.requires c.connection_number-2.result (c.connection_number-2.ensures c.requires.history c.requires.has.has) in
    omega (arith, own, c.connection_number.ensures.number, c.if-connection_number.true)

pub returns-clause-numbered : goal.returns-clause-numbered
returns-clause-numbered g c =
    let own : c.args.primary.now.core.connections ≡ c.connection_number-2.result
    = returned c.args.primary.now c.requires c.connection_number-2.result (c.connection_number-2.ensures c.requires.history c.requires.has.has) in
    omega (arith, own, c.connection_number.ensures.number, c.if-connection_number.false)
