use Rattle.std.proofs.Common.{◌∙◌, length, filter, ap}
use Rattle.transferlog.specs.Writes.{is_unanswered}
use Rattle.primary_protocol.proofs.Node.Unanswered.{says-unanswered}
use Rattle.primary.specs.State.{PrimaryView}
use Rattle.primary.proofs.state.Primary.unanswered.Goals as goal

pub returns : goal.returns
returns g c = λ h has. c.unanswered_writes.ensures
    ∙ (ap (λ (v : PrimaryView). length (filter is_unanswered v.core.log.writes)) c.self.view_is ∙ says-unanswered _ h has.reached has.leaves.core)
