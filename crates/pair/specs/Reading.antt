-- What the disks of a pair hold.
use Rattle.std.specs.Prelude.{ℕ, length}
use Rattle.model.specs.Contents.{BlockMap}
use Rattle.model.specs.Pair.{PairHistory}
use Rattle.model.specs.Primary.{local_map}
use Rattle.model.specs.Secondary.{secondary_map}
use Rattle.pair.specs.declared.event.Side.{Side}
use Rattle.pair.specs.declared.event.Side.TheVariants as side
use Rattle.pair.specs.State.{PairView}

-- one node's disk, as the history has it
abbrev pub disk_at : Side → PairHistory → BlockMap
disk_at side.Primary h = local_map h.primary
disk_at side.Secondary h = secondary_map h.secondary

-- how many blocks it has
abbrev pub size_of : Side → PairView → ℕ
size_of side.Primary v = length v.primary.disk
size_of side.Secondary v = length v.secondary.disk
