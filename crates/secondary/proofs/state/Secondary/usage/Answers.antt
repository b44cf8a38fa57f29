use Rattle.std.proofs.Common.{◌∙◌}
use Rattle.secondary.proofs.Kept.{node-usage}
use Rattle.secondary.proofs.state.Secondary.usage.Goals as goal

pub returns : goal.returns
returns g c = λ h has. c.usage.ensures ∙ node-usage _ _ c.self.view_is h has
