use Rattle.serve_requests.proofs.Portions.{portions-end, portions-joined, portions-some}
use Rattle.serve_requests.proofs.reading_laws.portions_cover.Goals as goal

pub returns-clause-joined : goal.returns-clause-joined
returns-clause-joined c r ps none are = portions-joined r ps none are

pub returns-clause-some : goal.returns-clause-some
returns-clause-some c r ps are = portions-some r ps are

pub returns-clause-end : goal.returns-clause-end
returns-clause-end c r most = portions-end r most
