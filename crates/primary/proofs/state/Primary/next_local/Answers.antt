use Rattle.std.proofs.Common.{◌∙◌, ap}
use Rattle.std.specs.Prelude.{find, option_map}
use Rattle.transferlog.specs.Writes.{LogWrite, is_waiting}
use Rattle.primary_protocol.proofs.Node.Says.{says-next}
use Rattle.primary.specs.State.{PrimaryView}
use Rattle.primary.proofs.state.Primary.next_local.Goals as goal

pub returns : goal.returns
returns g c = λ h has. c.next.ensures
    ∙ (ap (λ (v : PrimaryView). option_map (λ (w : LogWrite). w.number) (find is_waiting v.core.log.writes)) c.self.view_is ∙ says-next _ h has.leaves.core)
