-- When a frame is taken alike by the state and by the history.
use Rattle.std.proofs.Common.{◌≡◌, Option, Ok, Err}
use Rattle.blocks.specs.declared.tuple.Tuple.{Tuple}
use Rattle.blocks.specs.declared.outcome.Reply.TheVariants as reply
use Rattle.model.specs.Frames.{Received}
use Rattle.model.specs.Primary.{PrimaryHistory, with_primary_connection}
use Rattle.model.specs.PrimarySteps as step
use Rattle.model.specs.Acknowledgements as model
use Rattle.laws.proofs.Primary.Moves.{with_frame}
use Rattle.primary_protocol.specs.Core.{PrimaryState}
use Rattle.primary_protocol.specs.Taking as core
use Rattle.primary_protocol.specs.Steps.{Agrees}

-- Both accept it, and agree on what follows; or both refuse it for the same reason, and but for the peer's tuple nothing has changed
-- before the end closes.
abbrev pub TakenAlike : Received → PrimaryState → PrimaryHistory → core.Taken → model.Taken → Type 0
TakenAlike frame s h (Ok got) (Ok done) = Agrees reply.Ok (Ok got.0, got.1) (step.succeeding done.0 done.1)
TakenAlike frame s h (Err got) (Err error) =
    (got.0 ≡ error.0) × ((peer : Option Tuple) × (got.1 ≡ record s { peer = peer })
    × (error.1 ≡ record (with_primary_connection (with_frame frame) h) { peer = peer }))
TakenAlike frame s h (Ok got) (Err error) = ⊥
TakenAlike frame s h (Err got) (Ok done) = ⊥
