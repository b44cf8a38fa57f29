use Rattle.std.proofs.Common.{ℕ, ◌≡◌, length, refl, sym, ◌∙◌, ap, arith}
use Rattle.blocks.specs.Ranges.{is_between}
use Rattle.bitmap.specs.Marks.{marking}
use Rattle.bitmap.proofs.Lists.{length-marking}
use Rattle.primary_protocol.specs.Transitions.{unreleased_blocks}
use Rattle.primary_core.specs.Kept.{IsInside}
use Rattle.primary_core.proofs.Marking.{all-from_zero, each-found, found-from, is_from, mark-all, mark-step}
use Rattle.primary_core.proofs.close.mark_all.Goals as goal

pub loop-write-init : goal.loop-write-init
loop-write-init c = record {
  size = refl;
  rest = ap (λ ws. marking (unreleased_blocks ws) c.args.marks.now) (all-from_zero c.args.log.now.state.writes);
}

pub mark-requires : goal.mark-requires
mark-requires c =
    let inside = each-found (IsInside (length c.args.marks.now)) (is_from c.loop-write.number) c.in-Some.write.now c.args.log.now.state.writes c.requires
    (sym c.in-Some.ensures.first) in
    omega (arith, inside.inside, c.range.ensures.first, c.range.ensures.count, c.loop-write.invariant.size)

pub overflow_add-number : goal.overflow_add-number
overflow_add-number c = omega (arith, c.in-Some.ensures.few, c.number-number.ensures)

pub loop-write-smaller : goal.loop-write-smaller
loop-write-smaller c =
    let least = found-from c.loop-write.number c.in-Some.write.now c.args.log.now.state.writes (sym c.in-Some.ensures.first) in
    omega (arith, least, c.in-Some.ensures.few, c.number-number.ensures)

pub loop-write-preserved : goal.loop-write-preserved
loop-write-preserved c =
    let w = c.in-Some.write.now in
    let ws = c.args.log.now.state.writes in
    let marks = c.loop-write.marks in
    let was = c.loop-write.invariant in
    let new : c.mark.new.self ≡ marking (is_between w.first w.count) marks =
    c.mark.ensures
    ∙ (ap (λ (k : ℕ). marking (is_between k c.range.result.count) marks) c.range.ensures.first
    ∙ ap (λ (k : ℕ). marking (is_between w.first k) marks) c.range.ensures.count) in
    rw (c.number-number.ensures, new) (record {
      size = length-marking 0 (is_between w.first w.count) marks ∙ was.size;
      rest = mark-step ws c.loop-write.number w c.args.marks.now marks c.in-Some.ensures.rises (sym c.in-Some.ensures.first) was.rest;
    })

pub returns : goal.returns
returns c = mark-all c.args.log.now.state.writes c.loop-write.number c.args.marks.now c.loop-write.marks
    (sym c.in_default.ensures.first) c.loop-write.invariant.rest
