use Rattle.std.proofs.Common.{◌≡◌, ◌⊎◌, inl, inr, true, arith, subst, sym, rules}
use Rattle.std.specs.Prelude.{is_ok}
use Rattle.nbd.specs.declared.command.NbdCommand.TheVariants as command
use Rattle.told.specs.Log.{SaysHeldSince}
use Rattle.serve_requests.specs.Ended.{spelled_in}
use Rattle.serve_requests.specs.RequestUnderWay.{UnderWayState}
use Rattle.serve_requests.specs.Told.{IsReadTold, IsStatusTold}
use Rattle.serve_requests.proofs.Fronts.{flush-writes, none-fails}
use Rattle.serve_requests.proofs.Spelled.{spelled-is}
use Rattle.serve_requests.proofs.Telling.{given-still, spelled-earlier}
use Rattle.serve_requests.proofs.requests.Requests.end.Goals as goal

pub returns-in-Ok-Ok-clause-kept : goal.returns-in-Ok-Ok-clause-kept
returns-in-Ok-Ok-clause-kept g c = given-still c.complete_all-completed.new.me.log c.spelled-result.new.me.log c.spelled-result.ensures.goes_on
    c.args.receipts.now.items c.complete_all-completed.new.receipts.items c.complete_all-completed.ensures.kept

pub returns-in-Ok-Ok-clause-read : goal.returns-in-Ok-Ok-clause-read
returns-in-Ok-Ok-clause-read g c = subst (λ (u : UnderWayState). u.request.command ≡ command.Read → is_ok c.spelled-result.result ≡ true
    → IsReadTold (SaysHeldSince c.args.me.now.log c.spelled-result.new.me.log) u.request (spelled_in c.spelled-result.result)) c.under_way.view_is
    (λ reads done. spelled-earlier c.args.me.now.log c.complete_all-completed.new.me.log c.spelled-result.new.me.log
    c.complete_all-completed.ensures.goes_on c.under_way.inside.request c.spelled-result.result (c.spelled-result.ensures.read reads) done)

pub returns-in-Ok-Ok-clause-status : goal.returns-in-Ok-Ok-clause-status
returns-in-Ok-Ok-clause-status g c = subst (λ (u : UnderWayState). u.request.command ≡ command.BlockStatus → is_ok c.spelled-result.result ≡ true
    → IsStatusTold u.request (spelled_in c.spelled-result.result)) c.under_way.view_is
    (λ asks done. spelled-is (IsStatusTold c.under_way.inside.request) c.spelled-result.result (c.spelled-result.ensures.status asks) done)

pub last_round-last-requires : goal.last_round-last-requires
last_round-last-requires g c = λ flushes. flush-writes c.under_way.inside.request c.under_way.inside.begins c.under_way.inside.begun.items
    c.complete_all-completed.result c.under_way.inside.before.writes _ c.under_way.invariant.0 c.under_way.invariant.1
    c.complete_all-completed.ensures.complete (search rules) flushes

pub returns-in-Err-default-clause-flush : goal.returns-in-Err-default-clause-flush
returns-in-Err-default-clause-flush g c = λ flushes.
    let asked : (c.under_way.inside.request.command ≡ command.Flush) ⊎ (c.under_way.inside.request.command ≡ command.Disconnect)
    = inl (subst (λ (u : UnderWayState). u.request.command ≡ command.Flush) (sym c.under_way.view_is) flushes) in
    let done = none-fails c.under_way.inside.request c.under_way.inside.begins c.under_way.inside.begun.items c.complete_all-completed.result
    c.under_way.invariant.0 c.complete_all-completed.ensures.none asked in
    absurd (grind (arith, done.0, done.1))

pub returns-in-Err-default-clause-disconnect : goal.returns-in-Err-default-clause-disconnect
returns-in-Err-default-clause-disconnect g c = λ goes.
    let asked : (c.under_way.inside.request.command ≡ command.Flush) ⊎ (c.under_way.inside.request.command ≡ command.Disconnect)
    = inr (subst (λ (u : UnderWayState). u.request.command ≡ command.Disconnect) (sym c.under_way.view_is) goes) in
    let done = none-fails c.under_way.inside.request c.under_way.inside.begins c.under_way.inside.begun.items c.complete_all-completed.result
    c.under_way.invariant.0 c.complete_all-completed.ensures.none asked in
    absurd (grind (arith, done.0, done.1))
