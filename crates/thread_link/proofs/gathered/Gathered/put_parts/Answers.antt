use Rattle.thread_link.proofs.Gathering.{put_both}
use Rattle.thread_link.proofs.gathered.Gathered.put_parts.Goals as goal
use Rattle.std.proofs.Common.{◌≡◌, length, arith}

pub returns-clause-put : goal.returns-clause-put
returns-clause-put c =
    let all : length c.args.first.now ≡ c.put-used.result = omega (arith, c.put-used.ensures.within, c.if-used-first.false) in
    put_both c.args.self.now c.put-used.new.self c.put.new.self c.args.first.now c.args.second.now c.put-used.result c.put.result all
    c.put-used.ensures.put c.put.ensures.put
