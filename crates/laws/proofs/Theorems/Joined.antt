-- `joined`: what two nodes have that ran by themselves and are joined, and what a settlement of them says.
pub use Rattle.laws.proofs.Joining.Taking.{takes_a_beginning}
pub use Rattle.laws.proofs.Joining.Promises.{keeps_promises}
pub use Rattle.laws.proofs.Theorems.JoinedHeadline.{joined_headline, joined_covers}
use Rattle.model.specs.LocalRuns.{primary_run, secondary_run}
use Rattle.model.specs.Theorems.{primary_at, secondary_at, JoinedRunsSettle, JoinedRunsSettleAnyhow}
use Rattle.laws.proofs.Secondary.Runs.{holds_earlier_epochs}
use Rattle.laws.proofs.Tracked.Numbers.{numbered-run}
use Rattle.laws.proofs.Joining.Settlement.{settles, settles-anyhow}
use Rattle.laws.proofs.Theorems.PrimaryReflects.{accounted}
use Rattle.laws.proofs.Theorems.JoinedHeadline.{joined-beginning}

-- where the identifiers were honest, a settlement of the two at rest has the headline
pub joined_settles : JoinedRunsSettle
joined_settles o here there sound joined =
    settles (primary_run here (primary_at o)) (secondary_run there (secondary_at o)) joined (joined_headline o here there sound joined)
    (accounted o here sound.ranges sound.local).1.known.numbers.1

-- whatever the identifiers say, it has all the rest
pub joined_settles_anyhow : JoinedRunsSettleAnyhow
joined_settles_anyhow o here there ranges joined =
    settles-anyhow (primary_run here (primary_at o)) (secondary_run there (secondary_at o)) joined (joined-beginning o here there ranges joined)
    (holds_earlier_epochs o there) (keeps_promises o here there tt joined) (numbered-run o.settings o.local o.own o.marks here).numbers.1
