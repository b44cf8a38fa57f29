use Rattle.std.proofs.Common.{◌≡◌, sym, subst, Some, rules}
use Rattle.std.specs.Prelude.{Result, OnErr}
use Rattle.blocks.specs.declared.refusal.Refusal.{Refusal}
use Rattle.model.specs.Refusals.{first_refusal}
use Rattle.mirror.specs.Opened.{connect_tests}
use Rattle.mirror.proofs.Opens.{refused-for, may-open}
use Rattle.mirror.proofs.opening.connect.Goals as goal

pub returns-in_err-open-clause-refused : goal.returns-in_err-open-clause-refused
returns-in_err-open-clause-refused g c h k has had = refused-for c.args.words.sync c.args.words.loss h c.may_open-2.result c.open.result
    c.from_residual-in_err-open.result c.in_err-open.field-0.0 (λ e. first_refusal (connect_tests c.args.words.sync c.args.words.loss h k) ≡ Some e)
    (c.may_open-2.ensures h has) (search rules) c.in_err-open.was (c.open.ensures.step.replies h has) (search rules)

pub returns-clause-unchanged : goal.returns-clause-unchanged
returns-clause-unchanged g c h k has had =
    let opened = may-open k c.may_open.result c.open-2.result (c.may_open.ensures k had) (search rules) (c.open-2.ensures.step.replies k had) in
    subst (λ (r : Result (Unit {0}) Refusal). OnErr r ((c.open.new.self ≡ c.args.local.now) × (c.open-2.new.self ≡ c.args.peer.now))) (sym opened) tt
