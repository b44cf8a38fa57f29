-- The name of a link, and its two directions.
use Rattle.std.specs.Prelude.{[]}
use Rattle.atomic_table.specs.Seated.{TableId}

-- from the primary to the secondary, or back
pub data Direction : Type 0 where
  There : Direction
  Back : Direction

-- a link: the two rows of its directions
pub record LinkName : Type 0 where
  pub there : TableId
  pub back : TableId

-- an identity that no row has
abbrev pub no_row : TableId
no_row = record { words = 0; slots = 0; views_name = 0; atom = 0; block = 0; offset = 0; slot_names = [] }

-- the row of a direction
abbrev pub row_of : LinkName → Direction → TableId
row_of link There = link.there
row_of link Back = link.back

-- a name of no link
abbrev pub no_link : LinkName
no_link = record { there = no_row; back = no_row }
