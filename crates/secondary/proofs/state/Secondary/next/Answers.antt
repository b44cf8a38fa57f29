use Rattle.std.proofs.Common.{◌∙◌}
use Rattle.secondary.proofs.Kept.{node-says}
use Rattle.secondary.proofs.state.Secondary.next.Goals as goal

pub returns : goal.returns
returns g c = λ h has. c.ok_or.ensures.value ∙ c.next.ensures ∙ (node-says _ _ c.self.view_is h has).next
