-- What a stop of the primary leaves of its identifiers.
use Rattle.std.specs.Prelude.{not, ◌&&◌, if◌then◌else◌}
use Rattle.blocks.specs.Identifiers.{lost}
use Rattle.blocks.specs.declared.tuple.Tuple.{Tuple}
use Rattle.model.specs.Primary.{PrimaryHistory, primary_connection}

-- The identifiers that a close of the primary would leave now: those of a lost connection, if a stream stands. They are what the
-- metadata has at each moment.
abbrev pub stopped_tuple : PrimaryHistory → Tuple
stopped_tuple p = let c = primary_connection p in if not c.closed && c.begun then lost c.loss p.tuple else p.tuple
