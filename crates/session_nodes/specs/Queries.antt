-- Which connection of a node has closed.
use Rattle.std.specs.Prelude.{ℕ, not, ◌&&◌, Option, Some, None, if◌then◌else◌, length}
use Rattle.model.specs.Primary.{PrimaryHistory, primary_connection}
use Rattle.model.specs.Secondary.{SecondaryHistory, secondary_connection}

-- the number of the connection that closed between two moments, if the end was open and is not
abbrev pub closed_since : PrimaryHistory → PrimaryHistory → Option ℕ
closed_since before after =
    if not (primary_connection before).closed && (primary_connection after).closed then Some (length after.connections) else None

-- the same of a secondary
abbrev pub closed_since_too : SecondaryHistory → SecondaryHistory → Option ℕ
closed_since_too before after =
    if not (secondary_connection before).closed && (secondary_connection after).closed then Some (secondary_connection after).number else None
