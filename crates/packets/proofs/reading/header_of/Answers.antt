use Rattle.std.proofs.Common.{◌≡◌, List, ℕ, subst, ◌∙◌}
use Rattle.packets.proofs.Digits.{IsBytes}
use Rattle.packets.proofs.Fronts.{bytes_joined, header_seen}
use Rattle.packets.proofs.reading.header_of.Goals as goal

pub returns-then-front-lt-HEADER_BYTES-clause-bytes : goal.returns-then-front-lt-HEADER_BYTES-clause-bytes
returns-then-front-lt-HEADER_BYTES-clause-bytes c =
    subst IsBytes c.parts.ensures.bytes (bytes_joined c.parts.result.0.now c.parts.result.1.now c.below_256.ensures c.below_256-2.ensures)

pub returns-clause-judged : goal.returns-clause-judged
returns-clause-judged c = λ many.
    c.judge.ensures.judged
    ∙ header_seen c.parts.result.0.now c.parts.result.1.now c.args.frame.now c.parts.ensures.bytes c.if-front-lt-HEADER_BYTES.false

pub returns-clause-bytes : goal.returns-clause-bytes
returns-clause-bytes c =
    subst IsBytes c.parts.ensures.bytes (bytes_joined c.parts.result.0.now c.parts.result.1.now c.below_256.ensures c.below_256-2.ensures)
