-- The events that a node's threads and its disk bring about.
use Rattle.model.specs.LocalRuns.{SecondaryEvent, OpensToo, Receives, Applies, FailsToApply, Acknowledges, ClosesToo}

-- A step of the work that is there: a frame is taken, the disk does an item, an acknowledgement is sent. Only a caller opens and closes
-- the end.
abbrev pub IsWork : SecondaryEvent → Type 0
IsWork (OpensToo unseen) = ⊥
IsWork (Receives frame out_of_memory) = Unit {0}
IsWork (Applies place) = Unit {0}
IsWork (FailsToApply place offsets) = Unit {0}
IsWork (Acknowledges room out_of_memory) = Unit {0}
IsWork ClosesToo = ⊥
