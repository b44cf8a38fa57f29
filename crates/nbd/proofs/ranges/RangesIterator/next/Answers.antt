-- The first of the ranges that are left is given.
use Rattle.std.proofs.Common.{◌≡◌, ◌-◌, ◌+◌, ◌<◌, [], ◌∷◌, length, ap, sym, ◌∙◌, arith}
use Rattle.std.proofs.lemmas.Grind.{common_steps}
use Rattle.nbd.specs.Pieces.{pieces}
use Rattle.nbd.proofs.Cutting.{next_is, pieces_none}
use Rattle.nbd.proofs.ranges.RangesIterator.next.Goals as goal

pub returns-then-self-eq0-clause-steps : goal.returns-then-self-eq0-clause-steps
returns-then-self-eq0-clause-steps c =
    let none : c.args.self.now ≡ [] = sym c.self.view_is ∙ pieces_none c.self.inside.first_block c.self.inside.block_count (omega arith) in
    (none, none)

pub returns-clause-steps : goal.returns-clause-steps
returns-clause-steps c =
    next_is c.self.inside.first_block c.self.inside.block_count c.min-2.result c.args.self.now c.self.view_is (omega arith)
    (grind (arith, common_steps, c.min.ensures, c.min-2.ensures))

pub returns-clause-goes : goal.returns-clause-goes
returns-clause-goes c =
    let first = c.self.inside.first_block in
    let count = c.self.inside.block_count in
    let k = c.min-2.result in
    let is : c.args.self.now ≡ (first, k) ∷ pieces (first + k) (count - k) =
    next_is first count k c.args.self.now c.self.view_is (omega arith) (grind (arith, common_steps, c.min.ensures, c.min-2.ensures)) in
    let less : length (pieces (first + k) (count - k)) < length c.args.self.now = omega (arith, ap length is) in
    record { on = λ _. (tt, tt, less); keeps = tt; rests = λ _. tt }
