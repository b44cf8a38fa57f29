use Rattle.std.proofs.Common.{◌∙◌}
use Rattle.secondary.proofs.Kept.{node-counts}
use Rattle.secondary.proofs.state.Secondary.items_taken.Goals as goal

pub returns : goal.returns
returns g c = λ h has. c.items_taken.ensures ∙ (node-counts _ _ c.self.view_is h has).0
