use Rattle.std.proofs.Common.{◌≡◌, ◌+◌, ◌-◌, ◌*◌, ◌/◌, ℕ, List, replicate, sym, ◌∙◌, arith}
use Rattle.std.proofs.lemmas.Result.{IfOk-weaker}
use Rattle.device_parts.specs.Places.{Place}
use Rattle.nbd.specs.Spans.{bytes_in, count_inside, first_inside, places_of, spans, trimmed}
use Rattle.nbd.proofs.Dividing.{nothing_inside, trimmed_zeros}
use Rattle.nbd.proofs.pieces.Pieces.of_blocks_inside.Goals as goal

pub returns-then-end-first-clause-pieces : goal.returns-then-end-first-clause-pieces
returns-then-end-first-clause-pieces c =
    let none : count_inside c.args.offset c.args.count ≡ 0 = omega (arith, c.if-end-first.true, c.from.ensures, c.div_ceil-first.ensures) in
    c.none.ensures
    ∙ sym (nothing_inside c.args.offset c.args.count (replicate (bytes_in (trimmed c.args.offset c.args.count)) 0) none)

pub returns-clause-pieces : goal.returns-clause-pieces
returns-clause-pieces c =
    let first = c.div_ceil-first.result in
    let count = (c.args.offset + c.from.result) / 4096 - first in
    let from : first ≡ first_inside c.args.offset = omega (arith, c.div_ceil-first.ensures) in
    let is : count ≡ count_inside c.args.offset c.args.count = omega (arith, c.div_ceil-first.ensures, c.from.ensures) in
    IfOk-weaker c.of_zeros.result (λ (p : List Place). p ≡ places_of (spans (first * 4096) (count * 4096)) (replicate (count * 4096) 0))
    (λ (p : List Place). p ≡ places_of (trimmed c.args.offset c.args.count) (replicate (bytes_in (trimmed c.args.offset c.args.count)) 0))
    (λ p has. has ∙ trimmed_zeros c.args.offset c.args.count first count from is) c.of_zeros.ensures.pieces
