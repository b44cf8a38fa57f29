use Rattle.serve_requests.proofs.Answering.{begun-under_way}
use Rattle.serve_requests.proofs.begun_request.BegunRequest.begin.Goals as goal

pub invariant_of-result : goal.invariant_of-result
invariant_of-result g c = begun-under_way c.begin-under_way.new.me.log c.seen.result.log c.args.request c.begin-under_way.result
    c.begin-under_way.ensures.request c.begin-under_way.ensures.accepted c.seen.ensures
