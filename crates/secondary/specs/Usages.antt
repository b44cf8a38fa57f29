-- How far a secondary's data may be used, as its history says.
use Rattle.std.specs.Prelude.{length}
use Rattle.model.specs.Secondary.{SecondaryHistory, secondary_connection, pending, whole}
use Rattle.secondary_core.specs.declared.usage.Usage.{Usage}

-- whether it is consistent, how far it is whole, and how much is pending
abbrev pub usage_of : SecondaryHistory → Usage
usage_of h = record { consistent = h.consistent; whole = whole h; pending = length (pending (secondary_connection h)) }
