-- Worked examples of the order of a step's tests, when more than one of them refuses.
use Rattle.std.specs.Prelude.{◌≡◌, true, List, [], ◌∷◌, ◌++◌}
use Rattle.blocks.specs.declared.settings.Settings.{Settings}
use Rattle.blocks.specs.declared.refusal.Refusal.TheVariants as refusal
use Rattle.blocks.specs.declared.outcome.Reply.{Reply}
use Rattle.blocks.specs.SettingsRange.{standard}
use Rattle.model.specs.Pair.{Event, SendEvent, ReceiveEvent, PeerEvent, PeerFaultEvent, CloseSecondaryEvent, PairHistory, run}
use Rattle.model.specs.Rows.{connected, replies, after, fill, refused, done, accepted}
use Rattle.model.specs.WriteRows.{one_at_a_time}
use Rattle.model.specs.CloseRows.{short_epochs}

-- A write that overlaps an open one while the log is full: the log is tested first.
pub record LogBeforeConflict : Type 0 where
  pub full : replies (fill 2 1 170 ∷ fill 2 1 187 ∷ []) (connected one_at_a_time) ≡ accepted 1 ∷ refused refusal.LogFull ∷ []
  pub free : replies (fill 2 1 170 ∷ fill 2 1 187 ∷ []) (connected standard) ≡ accepted 1 ∷ refused (refusal.Conflict 1) ∷ []

-- room for one pending item
abbrev pub pending_of_one : Settings
pending_of_one = record standard { pending = 1 }

-- two writes are sent, and the peer takes the first
abbrev pub one_taken : List Event
one_taken = fill 2 1 170 ∷ fill 3 1 187 ∷ SendEvent ∷ SendEvent ∷ ReceiveEvent ∷ []

-- a pair's reply to another event that is out of memory
abbrev pub starving : Event → PairHistory → List Reply
starving event h = (run ((event, true) ∷ []) h).0

-- A frame without memory: with the pending items full, with room among them, with no frame there, and at a closed end.
pub record PendingBeforeMemory : Type 0 where
  pub full : starving ReceiveEvent (after one_taken (connected pending_of_one)) ≡ refused refusal.PendingFull ∷ []
  pub applied : starving ReceiveEvent (after (one_taken ++ PeerEvent 0 ∷ []) (connected pending_of_one)) ≡ refused refusal.NoMemory ∷ []
  pub nothing : starving ReceiveEvent (after (one_taken ++ ReceiveEvent ∷ []) (connected standard)) ≡ refused refusal.NoMemory ∷ []
  pub closed : starving ReceiveEvent (after (one_taken ++ CloseSecondaryEvent ∷ []) (connected pending_of_one)) ≡ refused refusal.NotConnected ∷ []

-- Two epochs of one write of one block each, at places 0 and 2; the peer takes both writes.
abbrev pub two_taken : List Event
two_taken = fill 2 1 170 ∷ fill 3 1 187 ∷ SendEvent ∷ SendEvent ∷ SendEvent ∷ ReceiveEvent ∷ ReceiveEvent ∷ ReceiveEvent ∷ []

-- Faults of the peer's disk with more blocks kept than the item has: at a barrier's place, and at a place that was not
-- taken; of an item whose turn has not come; and of one whose turn it is.
abbrev pub faults_in_order : List Event
faults_in_order = PeerFaultEvent 1 2 ∷ PeerFaultEvent 3 2 ∷ PeerFaultEvent 2 2 ∷ PeerFaultEvent 0 2 ∷ PeerEvent 0 ∷ PeerFaultEvent 0 2 ∷ PeerFaultEvent 2 2 ∷
    PeerFaultEvent 2 1 ∷ []

-- the replies: only the last fault happens
pub record FaultsInOrder : Type 0 where
  pub answers : replies faults_in_order (after two_taken (connected short_epochs))
      ≡ refused refusal.UnknownJob ∷ refused refusal.UnknownJob ∷ refused refusal.EpochOpen ∷ refused refusal.BadRange ∷ done ∷ refused refusal.UnknownJob ∷
      refused refusal.BadRange ∷ done ∷ []
