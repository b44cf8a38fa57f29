use Rattle.std.proofs.Common.{refl, rules}
use Rattle.serve_requests.proofs.Telling.{given-none, given-one}
use Rattle.serve_requests.proofs.complete.complete.Goals as goal

pub returns-in-Err-clause-kept : goal.returns-in-Err-clause-kept
returns-in-Err-clause-kept g c = given-none c.complete.new.me.log c.args.receipts.now.items c.args.receipts.now.items refl

pub returns-in-Ok-push-clause-kept : goal.returns-in-Ok-push-clause-kept
returns-in-Ok-push-clause-kept g c = given-one c.args.me.now.log c.complete.new.me.log c.args.receipts.now.items c.push.new.self.items c.in-Ok.receipt
    (search rules) c.in-Ok.ensures.told

pub returns-in-Err-push-clause-kept : goal.returns-in-Err-push-clause-kept
returns-in-Err-push-clause-kept g c = given-none c.complete.new.me.log c.args.receipts.now.items c.push.new.self.items (search rules)
