-- The first of the pieces that are left is given.
use Rattle.std.proofs.Common.{◌≡◌, sym, ◌∙◌, arith}
use Rattle.nbd.specs.Contents.{bytes_left}
use Rattle.nbd.proofs.Dividing.{place_taken, places_none}
use Rattle.nbd.proofs.pieces.Pieces.next.Goals as goal

pub returns-then-self-eq0-clause-end : goal.returns-then-self-eq0-clause-end
returns-then-self-eq0-clause-end c = λ _.
    sym c.self.view_is
    ∙ places_none c.self.inside.at c.self.inside.left (bytes_left c.self.inside.contents c.self.inside.left) (omega (arith, c.if-self-eq0.true))

pub returns-clause-front : goal.returns-clause-front
returns-clause-front c =
    sym c.self.view_is
    ∙ place_taken c.self.inside.at c.self.inside.left c.span_length-count.result (bytes_left c.self.inside.contents c.self.inside.left) _ _ _
    (omega (arith, c.if-self-eq0.false)) c.span_length-count.ensures.is c.in_ok-bytes.ensures.taken c.in_ok-bytes.ensures.rest c.new-piece.ensures
