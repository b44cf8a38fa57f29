-- The events that a node's threads and its disk bring about.
use Rattle.model.specs.LocalRuns.{PrimaryEvent, Opens, Submits, WritesLocally, FailsLocally, Sends, Takes, Resyncs, FailsResync, Closes, Receipts}

-- A step of the work that is there: a frame is sent or taken, the disk does a write, a resync copies a block. Only a caller opens and
-- closes the end, submits a write, or takes a receipt.
abbrev pub IsWork : PrimaryEvent → Type 0
IsWork (Opens sync loss out_of_memory) = ⊥
IsWork (Submits first contents out_of_memory) = ⊥
IsWork (WritesLocally number) = Unit {0}
IsWork (FailsLocally number offsets) = Unit {0}
IsWork (Sends room out_of_memory) = Unit {0}
IsWork (Takes frame out_of_memory) = Unit {0}
IsWork (Resyncs read out_of_memory) = Unit {0}
IsWork (FailsResync out_of_memory) = Unit {0}
IsWork Closes = ⊥
IsWork (Receipts number) = ⊥
