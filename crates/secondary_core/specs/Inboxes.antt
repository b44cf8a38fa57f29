-- The fields of the receive-side state of a stream as plain values.
use Rattle.std.specs.Prelude.{◌≤◌}
use Rattle.secondary_protocol.specs.Core.{Intake}
use Rattle.secondary_core.specs.declared.inbox.Inbox.TheInside.{Inside}

-- the fields as plain values
abbrev pub intake_of : Inside → Intake
intake_of t = record { places = t.places; highest = t.highest; barriers = t.barriers; writes = t.writes; blocks = t.blocks; resync = t.is_resync }

-- barriers and writes have places
pub record IsInbox (t : Inside) : Type 0 where
  pub barriers : t.barriers ≤ t.places
  pub writes : t.writes ≤ t.places
