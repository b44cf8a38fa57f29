use Rattle.std.proofs.Common.{◌∙◌, length, filter, ap}
use Rattle.transferlog.specs.Writes.{is_open}
use Rattle.primary_protocol.proofs.Node.Says.{says-incomplete}
use Rattle.primary.specs.State.{PrimaryView}
use Rattle.primary.proofs.state.Primary.incomplete.Goals as goal

pub returns : goal.returns
returns g c = λ h has. c.open_writes.ensures
    ∙ (ap (λ (v : PrimaryView). length (filter is_open v.core.log.writes)) c.self.view_is ∙ says-incomplete _ h has.reached has.leaves.core)
