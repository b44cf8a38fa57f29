use Rattle.std.proofs.Common.{◌≡◌, ◌⊎◌, List, refl, sym, ◌∙◌, ap, subst}
use Rattle.std.proofs.lemmas.Result.{err_from_is_err_and}
use Rattle.device_parts.specs.Places.{Place}
use Rattle.nbd.specs.declared.command.NbdCommand.{NbdCommand}
use Rattle.nbd.specs.declared.command.NbdCommand.TheVariants as command
use Rattle.nbd.specs.Requested.{Requested}
use Rattle.nbd.specs.Spans.{places}
use Rattle.told.specs.Log.{WasTold}
use Rattle.told.proofs.Seeing.{prefix-self}
use Rattle.serve_requests.specs.Places.{IsBegunFor, IsFrontBy}
use Rattle.serve_requests.proofs.Beginning.{own-none}
use Rattle.serve_requests.proofs.Fronts.{divided-same, none-begins, nothing-begins, nothing-begun, some-begins, writes-stay}
use Rattle.serve_requests.proofs.requests.Requests.begin_writes.Goals as goal

pub returns-then-is_divided-clause-begins : goal.returns-then-is_divided-clause-begins
returns-then-is_divided-clause-begins g c =
    let stays = writes-stay c.command.result c.args.request.now.command c.command.ensures c.in-Write.is in
    none-begins c.args.request.now _ _ _ c.requires refl stays.0 stays.1

pub returns-then-is_divided-clause-accepted : goal.returns-then-is_divided-clause-accepted
returns-then-is_divided-clause-accepted g c =
    nothing-begun (IsBegunFor (WasTold c.args.me.now.log)) (places c.args.request.now) c.args.begun.now.items c.requires

pub returns-then-is_divided-clause-goes_on : goal.returns-then-is_divided-clause-goes_on
returns-then-is_divided-clause-goes_on g c = prefix-self c.args.me.now.log

pub returns-then-is_divided-clause-mine : goal.returns-then-is_divided-clause-mine
returns-then-is_divided-clause-mine g c =
    own-none c.args.begun.now.items c.args.begun.now.items c.args.me.now.own c.args.me.now.own refl refl

pub returns-in_err-pieces-in-Write-clause-same : goal.returns-in_err-pieces-in-Write-clause-same
returns-in_err-pieces-in-Write-clause-same g c = divided-same c.args.request.now c.pieces.new.self c.pieces.ensures.divided

pub returns-in_err-pieces-in-Write-clause-begins : goal.returns-in_err-pieces-in-Write-clause-begins
returns-in_err-pieces-in-Write-clause-begins g c =
    let failed = err_from_is_err_and c.from_residual.result c.from_residual.ensures.1 in
    let stays = writes-stay c.command.result c.pieces.new.self.command (c.command.ensures ∙ sym (ap (λ (r : Requested). r.command) c.pieces.ensures.divided))
    c.in-Write.is in
    none-begins c.pieces.new.self _ _ _ c.requires failed.1 stays.0 stays.1

pub returns-in_err-pieces-in-Write-clause-accepted : goal.returns-in_err-pieces-in-Write-clause-accepted
returns-in_err-pieces-in-Write-clause-accepted g c =
    nothing-begun (IsBegunFor (WasTold c.args.me.now.log)) (places c.args.request.now) c.args.begun.now.items c.requires

pub returns-in_err-pieces-in-Write-clause-goes_on : goal.returns-in_err-pieces-in-Write-clause-goes_on
returns-in_err-pieces-in-Write-clause-goes_on g c = prefix-self c.args.me.now.log

pub returns-in_err-pieces-in-Write-clause-mine : goal.returns-in_err-pieces-in-Write-clause-mine
returns-in_err-pieces-in-Write-clause-mine g c =
    own-none c.args.begun.now.items c.args.begun.now.items c.args.me.now.own c.args.me.now.own refl refl

pub returns-in_ok-pieces-in-Write-clause-same : goal.returns-in_ok-pieces-in-Write-clause-same
returns-in_ok-pieces-in-Write-clause-same g c = divided-same c.args.request.now c.pieces.new.self c.pieces.ensures.divided

pub returns-in_ok-pieces-in-Write-clause-begins : goal.returns-in_ok-pieces-in-Write-clause-begins
returns-in_ok-pieces-in-Write-clause-begins g c =
    let stays = writes-stay c.command.result c.args.request.now.command c.command.ensures c.in-Write.is in
    some-begins (WasTold c.begin_pieces.new.me.log) c.args.request.now c.pieces.new.self c.begin_pieces.result c.in_ok-pieces-in-Write.pieces
    c.begin_pieces.new.begun.items c.in_ok-pieces-in-Write.ensures.pieces (divided-same c.args.request.now c.pieces.new.self c.pieces.ensures.divided)
    c.begin_pieces.ensures.all c.begin_pieces.ensures.front stays.0 stays.1

pub returns-in_ok-pieces-in-Write-clause-accepted : goal.returns-in_ok-pieces-in-Write-clause-accepted
returns-in_ok-pieces-in-Write-clause-accepted g c =
    subst (λ (ps : List Place). IsFrontBy (IsBegunFor (WasTold c.begin_pieces.new.me.log)) ps c.begin_pieces.new.begun.items)
    c.in_ok-pieces-in-Write.ensures.pieces c.begin_pieces.ensures.front

pub returns-in-Read-clause-begins : goal.returns-in-Read-clause-begins
returns-in-Read-clause-begins g c = nothing-begins c.args.request.now c.args.begun.now.items c.requires
    (subst (λ (e : NbdCommand). (e ≡ command.Read) ⊎ ((e ≡ command.BlockStatus) ⊎ ((e ≡ command.Flush) ⊎ (e ≡ command.Disconnect))))
    c.command.ensures c.in-Read.is)

pub returns-in-Read-clause-accepted : goal.returns-in-Read-clause-accepted
returns-in-Read-clause-accepted g c =
    nothing-begun (IsBegunFor (WasTold c.args.me.now.log)) (places c.args.request.now) c.args.begun.now.items c.requires

pub returns-in-Read-clause-goes_on : goal.returns-in-Read-clause-goes_on
returns-in-Read-clause-goes_on g c = prefix-self c.args.me.now.log

pub returns-in-Read-clause-mine : goal.returns-in-Read-clause-mine
returns-in-Read-clause-mine g c = own-none c.args.begun.now.items c.args.begun.now.items c.args.me.now.own c.args.me.now.own refl refl
