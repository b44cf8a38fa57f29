use Rattle.std.specs.Prelude.{replicate}
use Rattle.model.specs.Rows.{words}
use Rattle.pair.specs.State.{PairView, state}
use Rattle.pair.proofs.Parts.{zero-filled, zero-honest, zero-grounded}
use Rattle.pair.proofs.pair.Pair.fresh.Goals as goal

pub returns-clause-history : goal.returns-clause-history
returns-clause-history c =
    zero-filled c.from_parts.result (λ (p : PairView). state p) c.args.settings (replicate 4096 0) c.in_ok-local.local c.in_ok-peer.peer
    c.in_ok-marks.marks.items (words 1 0 0 0) (words 1 0 0 0)
    c.in_ok-local.ensures.zeros c.in_ok-peer.ensures.zeros (c.in_ok-marks.ensures.items_if_clones_equal (λ y is. is)) c.from_parts.ensures.history

pub returns-clause-honest : goal.returns-clause-honest
returns-clause-honest c = zero-honest c.args.settings (replicate 4096 0)

pub returns-clause-grounded : goal.returns-clause-grounded
returns-clause-grounded c = zero-grounded c.args.settings (replicate 4096 0)
