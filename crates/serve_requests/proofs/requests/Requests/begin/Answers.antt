use Rattle.std.proofs.Common.{rules}
use Rattle.nbd.specs.Spans.{places}
use Rattle.told.specs.Log.{WasTold}
use Rattle.serve_requests.specs.Places.{IsBegunFor, IsOf}
use Rattle.serve_requests.proofs.Beginning.{front-weaker, own-all}
use Rattle.serve_requests.proofs.requests.Requests.begin.Goals as goal

pub returns-clause-begun : goal.returns-clause-begun
returns-clause-begun g c = front-weaker (IsBegunFor (WasTold c.begin_writes-begins.new.me.log)) IsOf (places c.args.request)
    c.begin_writes-begins.new.begun.items (λ p b is. is.of) c.begin_writes-begins.ensures.accepted

pub returns-clause-mine : goal.returns-clause-mine
returns-clause-mine g c = own-all c.new-begun.result.items c.begin_writes-begins.new.begun.items c.args.me.now.own c.begin_writes-begins.new.me.own
    (search rules) c.begin_writes-begins.ensures.mine
