-- Each turn reads a query, and what is left goes on.
use Rattle.std.proofs.Common.{◌≡◌, ℕ, Bool, true, false, cond, Option, Some, None, refl, sym, ap, ◌∙◌, arith}
use Rattle.std.specs.Prelude.{◌||◌, ◌==◌, length}
use Rattle.std.specs.Bool.{then_some}
use Rattle.nbd.specs.Contexts.{named_in}
use Rattle.nbd.specs.Options.{names}
use Rattle.nbd.proofs.Querying.{named_end, named_further, named_over, or_first, or_second}
use Rattle.nbd.proofs.contexts.named_in.Goals.{then-is_named, else-is_named}
use Rattle.nbd.proofs.contexts.named_in.Goals as goal

chosen : (b x : Bool) → then_some b x ≡ cond b (Some x) None
chosen true x = refl
chosen false x = refl

pub returns-in_err-query : goal.returns-in_err-query
returns-in_err-query c =
    c.from_residual.ensures
    ∙ sym (c.loop-left.invariant.same
    ∙ named_over c.args.option c.loop-left.left c.loop-left.rest.now c.loop-left.is_named (omega (arith, c.loop-left-test.true))
    (c.first_string.ensures.none c.in_err-query.was))

pub loop-left-preserved : goal.loop-left-preserved
loop-left-preserved c =
    let more : c.if-is_named.is_named ≡ (c.loop-left.is_named || names c.args.option c.in_ok-query.query.now) = elim c.if-is_named.branch [
      | then-is_named w ↦ or_first c.loop-left.is_named (names c.args.option c.in_ok-query.query.now) c.if-is_named.is_named w.if-is_named.true (cc)
      | else-is_named w ↦ or_second c.loop-left.is_named (names c.args.option c.in_ok-query.query.now) c.if-is_named.is_named w.if-is_named.false
          (w.is_named-is ∙ w.names-is_named.ensures)
    ] in
    record {
      same = c.loop-left.invariant.same
          ∙ named_further c.args.option c.loop-left.left c.loop-left.rest.now c.in_ok-query.query.now c.in_ok-query.later.now c.loop-left.is_named
          c.if-is_named.is_named (omega (arith, c.loop-left-test.true)) c.in_ok-query.ensures.some.0 c.in_ok-query.ensures.some.1
          c.in_ok-query.ensures.some.2 more;
    }

pub returns : goal.returns
returns c =
    let none : c.loop-left.left ≡ 0 = omega (arith, c.loop-left-test.false) in
    c.then_some.ensures ∙ ap (λ (b : Bool). then_some b c.loop-left.is_named) c.is_empty.ensures
    ∙ chosen (length c.loop-left.rest.now == 0) c.loop-left.is_named
    ∙ sym (named_end c.args.option c.loop-left.rest.now c.loop-left.is_named)
    ∙ ap (λ (n : ℕ). named_in c.args.option n c.loop-left.rest.now c.loop-left.is_named) (sym none) ∙ sym c.loop-left.invariant.same
