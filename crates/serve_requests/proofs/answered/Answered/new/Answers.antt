use Rattle.std.proofs.Common.{rules}
use Rattle.told.specs.Log.{WasTold}
use Rattle.serve_requests.proofs.Answering.{none-answered}
use Rattle.serve_requests.proofs.answered.Answered.new.Goals as goal

pub invariant_of-result : goal.invariant_of-result
invariant_of-result g c = none-answered (WasTold c.seen.result.log) c.new.result.items (search rules)
