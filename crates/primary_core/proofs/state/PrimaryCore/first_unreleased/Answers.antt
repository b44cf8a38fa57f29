use Rattle.std.proofs.Common.{◌≡◌, Some, subst, rules}
use Rattle.std.specs.Prelude.{option_map}
use Rattle.transferlog.specs.Writes.{LogWrite}
use Rattle.primary_core.proofs.FirstWrite.{find-first}
use Rattle.primary_core.proofs.state.PrimaryCore.first_unreleased.Goals as goal

pub returns-in_err-unreleased_from : goal.returns-in_err-unreleased_from
returns-in_err-unreleased_from c = subst (λ v. c.from_residual.result ≡ option_map (λ (w : LogWrite). w.number) v) (find-first c.args.self.now.state.log.writes) (search rules)

pub returns : goal.returns
returns c = subst (λ v. Some c.number.result ≡ option_map (λ (w : LogWrite). w.number) v) (find-first c.args.self.now.state.log.writes) (search rules)
