-- What is left behind the one byte that was split off is nothing but room.
use Rattle.std.proofs.Common.{◌≤◌, length, ◌∙◌, arith, ap}
use Rattle.std.proofs.lemmas.List.{drop_all}
use Rattle.thread_link.proofs.gathered.count_owners.Goals as goal

pub returns-clause-empty : goal.returns-clause-empty
returns-clause-empty c =
    let one : length c.advance_mut.new.self.items ≤ 1 = omega (arith, c.advance_mut.ensures.len, ap length c.requires.empty) in
    c.in_default.ensures.rest.0 ∙ drop_all 1 c.advance_mut.new.self.items one
