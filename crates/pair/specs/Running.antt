-- A run so far.
use Rattle.std.specs.Prelude.{ℕ, ◌≡◌, ◌≤◌, false, All, List, length, map, take}
use Rattle.blocks.specs.declared.outcome.Reply.{Reply}
use Rattle.pair_protocol.specs.State.{Ran}
use Rattle.pair.specs.declared.event.Event.{Event}
use Rattle.pair.specs.Events.{event_of}
use Rattle.pair.specs.Replies.{tells_protocol_error}
use Rattle.pair.specs.State.{PairView, state}

-- The first `count` events lead from one pair to the other, these are their replies, none of them tells a protocol
-- error, and there is room for the replies to all events.
pub record HasRun (events : List Event) (count : ℕ) (replies : List Reply) (len capacity : ℕ) (start now : PairView) : Type 0 where
  pub ran : Ran (map event_of (take count events)) replies (state start) (state now)
  pub honest_link : All (λ one. tells_protocol_error one ≡ false) replies
  pub returned : length replies ≡ count
  pub room : length events ≤ capacity
  pub size : len ≡ count
