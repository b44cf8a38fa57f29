-- A direction that was not used yet.
use Rattle.std.specs.Prelude.{ℕ, ◌≡◌}
use Rattle.thread_link.specs.Inward.{InwardState, unused_in}
use Rattle.thread_link.specs.Outward.{OutwardState, unused_out}

-- both ends of a direction on one row, which has room for this many frames; neither end was used, and both are on a first
-- connection
pub record IsUnused (frames : ℕ) (ends : OutwardState × InwardState) : Type 0 where
  pub outward : ends.0 ≡ unused_out ends.0.row
  pub inward : ends.1 ≡ unused_in ends.0.row
  pub room : ends.0.row.slots ≡ frames
