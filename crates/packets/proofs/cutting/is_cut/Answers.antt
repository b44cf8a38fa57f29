use Rattle.std.proofs.Common.{◌≡◌, ap, sym, ◌∙◌, length, arith}
use Rattle.packets.specs.Cutting.{cut_after}
use Rattle.packets.proofs.Fronts.{header_seen}
use Rattle.packets.proofs.cutting.is_cut.Goals as goal

pub returns-then-front-ge-HEADER_BYTES-clause-cut : goal.returns-then-front-ge-HEADER_BYTES-clause-cut
returns-then-front-ge-HEADER_BYTES-clause-cut c = λ is.
    let front = c.parts.result.0.now in
    let long : length c.args.frame.now ≡ c.cut_length.result = c.has_length.ensures.0 is in
    record {
      headed = omega (arith, long, c.cut_length.ensures.least);
      whole =
          long ∙ c.cut_length.ensures.cut
          ∙ ap cut_after (header_seen front c.parts.result.1.now c.args.frame.now c.parts.ensures.bytes c.if-front-ge-HEADER_BYTES.true);
    }

pub returns-then-front-ge-HEADER_BYTES-clause-only : goal.returns-then-front-ge-HEADER_BYTES-clause-only
returns-then-front-ge-HEADER_BYTES-clause-only c = λ is.
    let front = c.parts.result.0.now in
    c.has_length.ensures.1
    (is.whole
    ∙ ap cut_after (sym (header_seen front c.parts.result.1.now c.args.frame.now c.parts.ensures.bytes c.if-front-ge-HEADER_BYTES.true))
    ∙ sym c.cut_length.ensures.cut)
