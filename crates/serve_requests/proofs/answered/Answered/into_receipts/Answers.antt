use Rattle.std.proofs.Common.{rules}
use Rattle.serve_requests.proofs.Answering.{answered-on}
use Rattle.serve_requests.proofs.answered.Answered.into_receipts.Goals as goal

pub returns-clause-answered : goal.returns-clause-answered
returns-clause-answered g c = answered-on c.self.inside.seen.log c.args.log.now.log (search rules) c.self.inside.receipts.items c.self.invariant
