use Rattle.std.proofs.Common.{rules, ◌≡◌, ◌∙◌, sym, subst, Result, Err}
use Rattle.blocks.specs.declared.refusal.Refusal.{Refusal}
use Rattle.primary_core.specs.OutOfMemory.{is_out_of_memory}
use Rattle.primary_protocol.specs.Transitions.{open_end}
use Rattle.primary_core.proofs.Refused.{open-refused}
use Rattle.primary_core.proofs.state.PrimaryCore.open.Goals as goal

pub returns-in_err-may_open : goal.returns-in_err-may_open
returns-in_err-may_open c =
    let refused : c.may_open.result ≡ Err c.in_err-may_open.field-0.0 = c.in_err-may_open.was in
    let same : c.from_residual.result ≡ Err c.in_err-may_open.field-0.0 = search rules in
    subst (λ (r : Result (Unit {0}) Refusal). (r, c.args.self.now.state) ≡ open_end c.args.sync c.args.loss (is_out_of_memory r) c.args.self.now.state)
    (sym same)
    (open-refused c.args.sync c.args.loss c.args.self.now.state c.in_err-may_open.field-0.0 (sym refused ∙ c.may_open.ensures))
