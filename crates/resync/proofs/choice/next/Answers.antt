use Rattle.std.proofs.Common.{◌≡◌, ◌&&◌, ◌∙◌, nat_le, true, false, None, length, refl, sym, ap, arith}
use Rattle.std.specs.Prelude.{is_none, is_some, option_map}
use Rattle.std.proofs.lemmas.Bool.{and_parts, leb-true}
use Rattle.bitmap.specs.Marks.{marked, first_marked}
use Rattle.resync.specs.Next.{is_free}
use Rattle.resync.proofs.Free.{found_below, none_below, free-conflict, next-some, next-none, none_before, none_up_to}
use Rattle.resync.proofs.choice.next.Goals as goal

pub returns-in_err-block : goal.returns-in_err-block
returns-in_err-block c =
    let nothing : None ≡ first_marked c.loop-from.from c.args.marks.now = c.in_err-block.ensures in
    let gives : option_map (λ b. b.0) c.from_residual.result ≡ None = ap (option_map (λ b. b.0)) c.from_residual.ensures in
    gives ∙ next-none c.args.marks.now c.args.held.now
    (none_before c.args.marks.now c.args.held.now c.loop-from.from (length c.args.marks.now) c.loop-from.invariant
    (none_below (λ b. nat_le c.loop-from.from b && marked c.args.marks.now b) (length c.args.marks.now) nothing))

pub returns-then-is_none : goal.returns-then-is_none
returns-then-is_none c =
    let first = found_below (λ b. nat_le c.loop-from.from b && marked c.args.marks.now b) (length c.args.marks.now) c.in_ok-block.block.0
    c.in_ok-block.ensures in
    let parts = and_parts (nat_le c.loop-from.from c.in_ok-block.block.0) (marked c.args.marks.now c.in_ok-block.block.0) first.passes in
    let free : is_free c.args.held.now c.in_ok-block.block.0 ≡ true =
    let none : is_some c.conflict.result ≡ false = c.if-is_none.ensures in free-conflict c.args.held.now c.in_ok-block.block.0
    ∙ ap is_none (sym c.conflict.ensures.answer) ∙ rw none refl in
    next-some c.args.marks.now c.args.held.now c.in_ok-block.block.0 first.within parts.1 free
    (none_before c.args.marks.now c.args.held.now c.loop-from.from c.in_ok-block.block.0 c.loop-from.invariant first.first)

pub overflow_add-from : goal.overflow_add-from
overflow_add-from c =
    let first = found_below (λ b. nat_le c.loop-from.from b && marked c.args.marks.now b) (length c.args.marks.now) c.in_ok-block.block.0
    c.in_ok-block.ensures in
    omega (arith, first.within, c.len-blocks.ensures)

pub loop-from-smaller : goal.loop-from-smaller
loop-from-smaller c =
    let first = found_below (λ b. nat_le c.loop-from.from b && marked c.args.marks.now b) (length c.args.marks.now) c.in_ok-block.block.0
    c.in_ok-block.ensures in
    let parts = and_parts (nat_le c.loop-from.from c.in_ok-block.block.0) (marked c.args.marks.now c.in_ok-block.block.0) first.passes in
    omega (arith, first.within, c.len-blocks.ensures, leb-true c.loop-from.from c.in_ok-block.block.0 parts.0)

pub loop-from-preserved : goal.loop-from-preserved
loop-from-preserved c =
    let first = found_below (λ b. nat_le c.loop-from.from b && marked c.args.marks.now b) (length c.args.marks.now) c.in_ok-block.block.0
    c.in_ok-block.ensures in
    let taken : is_free c.args.held.now c.in_ok-block.block.0 ≡ false =
    let some : is_some c.conflict.result ≡ true = c.if-is_none.ensures in free-conflict c.args.held.now c.in_ok-block.block.0
    ∙ ap is_none (sym c.conflict.ensures.answer) ∙ rw some refl in
    none_up_to c.args.marks.now c.args.held.now c.in_ok-block.block.0
    (none_before c.args.marks.now c.args.held.now c.loop-from.from c.in_ok-block.block.0 c.loop-from.invariant first.first) taken

pub returns : goal.returns
returns c = next-none c.args.marks.now c.args.held.now (λ k within. c.loop-from.invariant k (omega (arith, c.len-blocks.ensures)))
