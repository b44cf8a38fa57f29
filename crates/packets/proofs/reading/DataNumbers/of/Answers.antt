use Rattle.std.proofs.Common.{◌≡◌, refl, ◌∙◌, arith}
use Rattle.packets.proofs.Fronts.{numbers_seen, numbers_there}
use Rattle.packets.proofs.reading.DataNumbers.of.Goals as goal

pub slice_bounds-bytes-end : goal.slice_bounds-bytes-end
slice_bounds-bytes-end c =
    numbers_there c.parts.result.0.now c.args.frame.now (omega (arith, c.requires)) c.parts.ensures.numbers

pub returns-clause-sector : goal.returns-clause-sector
returns-clause-sector c =
    c.u64_at.ensures
    ∙ numbers_seen 8 0 c.parts.result.0.now c.args.frame.now _ (omega (arith, c.requires)) c.parts.ensures.numbers refl (omega arith)

pub returns-clause-number : goal.returns-clause-number
returns-clause-number c =
    c.u64_at-2.ensures
    ∙ numbers_seen 8 8 c.parts.result.0.now c.args.frame.now _ (omega (arith, c.requires)) c.parts.ensures.numbers refl (omega arith)

pub returns-clause-place : goal.returns-clause-place
returns-clause-place c =
    c.u32_at.ensures
    ∙ numbers_seen 4 16 c.parts.result.0.now c.args.frame.now _ (omega (arith, c.requires)) c.parts.ensures.numbers refl (omega arith)

pub returns-clause-flags : goal.returns-clause-flags
returns-clause-flags c =
    c.u32_at-2.ensures
    ∙ numbers_seen 4 20 c.parts.result.0.now c.args.frame.now _ (omega (arith, c.requires)) c.parts.ensures.numbers refl (omega arith)
