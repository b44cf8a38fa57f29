use Rattle.std.proofs.Common.{◌∙◌, ap, slice_get}
use Rattle.std.specs.Prelude.{option_map}
use Rattle.transferlog.specs.Writes.{LogWrite}
use Rattle.primary_protocol.proofs.Node.Says.{says-unreleased}
use Rattle.primary.specs.State.{PrimaryView}
use Rattle.primary.proofs.state.Primary.first_unreleased.Goals as goal

pub returns : goal.returns
returns g c = λ h has. c.first_unreleased.ensures
    ∙ (ap (λ (v : PrimaryView). option_map (λ (w : LogWrite). w.number) (slice_get v.core.log.writes 0)) c.self.view_is ∙ says-unreleased _ h has.leaves.core)
