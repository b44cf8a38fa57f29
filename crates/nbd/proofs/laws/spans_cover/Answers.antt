use Rattle.nbd.proofs.Covering.{covering_joins, spans_cut, spans_join, trimmed_inside, two_edges}
use Rattle.nbd.proofs.laws.spans_cover.Goals as goal

pub returns-clause-joined : goal.returns-clause-joined
returns-clause-joined c offset count = spans_join offset count

pub returns-clause-within : goal.returns-clause-within
returns-clause-within c offset count = spans_cut offset count

pub returns-clause-edges : goal.returns-clause-edges
returns-clause-edges c offset count = two_edges offset count

pub returns-clause-inside : goal.returns-clause-inside
returns-clause-inside c offset count = trimmed_inside offset count

pub returns-clause-read : goal.returns-clause-read
returns-clause-read c offset count some = covering_joins offset count some
