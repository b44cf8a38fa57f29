-- The number of each refusal, and what a caller may do about it.
use Rattle.std.specs.Prelude.{ℕ, Bool, true, false, ◌||◌, ◌&&◌, nat_lt}
use Rattle.blocks.specs.declared.refusal.Refusal.{Refusal}
use Rattle.blocks.specs.declared.refusal.Refusal.TheVariants as refusal

-- the number of a refusal, as administrators see it
abbrev pub number_of : Refusal → ℕ
number_of refusal.BadRange = 1
number_of (refusal.Conflict _) = 2
number_of refusal.LogFull = 3
number_of refusal.ActivityFull = 4
number_of refusal.JournalFull = 5
number_of refusal.StreamFull = 6
number_of refusal.NoMemory = 7
number_of refusal.LocalFault = 8
number_of refusal.NotCompleted = 9
number_of refusal.NothingToDo = 10
number_of refusal.LinkFull = 11
number_of refusal.NotConnected = 12
number_of refusal.NothingThere = 13
number_of refusal.ReadFault = 14
number_of refusal.BadSetting = 15
number_of refusal.UnknownJob = 16
number_of refusal.EpochOpen = 17
number_of refusal.PendingFull = 18
number_of refusal.StrangeReceipt = 19
number_of refusal.BadMagic = 20
number_of refusal.BadCommand = 21
number_of refusal.BadLength = 22
number_of refusal.BadField = 23
number_of refusal.BadBarrierAck = 24
number_of refusal.UnknownAck = 25
number_of refusal.PrimaryStale = 30
number_of refusal.SplitBrain = 31
number_of refusal.Unrelated = 32
number_of refusal.UsedIdentifier = 33
number_of refusal.OtherProtocol = 34
number_of refusal.OtherSize = 35
number_of refusal.NotDrained = 36

-- a refusal of a call that may be taken later: by number 2 to 4, 9 to 11, 13, 17 and 18
abbrev pub is_busy : Refusal → Bool
is_busy (refusal.Conflict _) = true
is_busy refusal.LogFull = true
is_busy refusal.ActivityFull = true
is_busy refusal.NotCompleted = true
is_busy refusal.NothingToDo = true
is_busy refusal.LinkFull = true
is_busy refusal.NothingThere = true
is_busy refusal.EpochOpen = true
is_busy refusal.PendingFull = true
is_busy refusal = false

-- a refusal of a frame that was taken, which closes its end: by number 20 to 25 and 30 to 35
abbrev pub closes_end : Refusal → Bool
closes_end refusal = (nat_lt 19 (number_of refusal) && nat_lt (number_of refusal) 26) || (nat_lt 29 (number_of refusal) && nat_lt (number_of refusal) 36)
