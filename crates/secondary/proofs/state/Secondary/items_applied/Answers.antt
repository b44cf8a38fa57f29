use Rattle.std.proofs.Common.{◌∙◌}
use Rattle.secondary.proofs.Kept.{node-counts}
use Rattle.secondary.proofs.state.Secondary.items_applied.Goals as goal

pub returns : goal.returns
returns g c = λ h has. c.items_applied.ensures ∙ (node-counts _ _ c.self.view_is h has).1
