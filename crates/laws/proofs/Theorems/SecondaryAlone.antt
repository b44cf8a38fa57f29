-- `secondary_alone`: epochs, connections and closed ends of a secondary by itself.
pub use Rattle.laws.proofs.Secondary.Runs.{holds_earlier_epochs}
pub use Rattle.laws.proofs.Secondary.Drained.{drains_first}
use Rattle.laws.specs.Statements.{SecondaryStaysClosed}
use Rattle.laws.proofs.Secondary.Stays.{secondary_stays_closed}

-- a closed end of a secondary stays as it is but for what is applied there
pub stays_closed_too : SecondaryStaysClosed
stays_closed_too s events = secondary_stays_closed events s
