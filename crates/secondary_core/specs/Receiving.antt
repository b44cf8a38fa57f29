-- The parts of taking a frame: it is judged, and an accepted one has its effect.
use Rattle.std.specs.Prelude.{ℕ, ◌≡◌, ◌<◌, ◌==◌, Bool, true, ◌&&◌, length, Option, Some, None, is_some, option_map, Result, Ok, Err}
use Rattle.blocks.specs.declared.refusal.Refusal.{Refusal}
use Rattle.blocks.specs.declared.refusal.Refusal.TheVariants.{NotConnected}
use Rattle.blocks.specs.declared.outcome.What.{What}
use Rattle.model.specs.Contents.{is_range}
use Rattle.model.specs.Stream.{StreamItem}
use Rattle.model.specs.Frames.{Packet, Received}
use Rattle.model.specs.SecondarySteps.{has_place}
use Rattle.secondary_protocol.specs.Core.{EndState, Judged, SecondaryState, and_item, follows, hearing, judging, judging_item, owing, waiting}
use Rattle.secondary_core.specs.Answers.{receipt_of}
use Rattle.secondary_core.specs.State.{CoreState}

-- A frame may be taken: the end is open, another item may be pending, and there is room.
pub record MayTake (c : CoreState) : Type 0 where
  pub is_open : is_some c.state.end ≡ true
  pub few : length c.state.pending < c.state.settings.pending
  pub ready : c.is_ready ≡ true

-- the result of an accepted frame, with what follows; a refused one leaves the state
abbrev pub result_of : Judged → SecondaryState → Result What Refusal × SecondaryState
result_of (Ok done) s = (Ok done.0, follows done.1)
result_of (Err refusal) s = (Err refusal, s)

-- judges a frame, at an open end
abbrev pub judged_at : Received → Option EndState → SecondaryState → Result What Refusal × SecondaryState
judged_at frame None s = (Err NotConnected, s)
judged_at frame (Some e) s = result_of (judging frame e s) s

-- judges an item, at an open end
abbrev pub item_at : Packet → Option EndState → SecondaryState → Result What Refusal × SecondaryState
item_at packet None s = (Err NotConnected, s)
item_at packet (Some e) s = result_of (judging_item packet e s) s

-- counts another taken frame of the hello
abbrev pub greeted : EndState → SecondaryState → SecondaryState
greeted e s = record s { end = Some (hearing e) }

-- an item with these blocks names the next place, and there is one
abbrev pub is_next : ℕ → ℕ → ℕ → SecondaryState → Bool
is_next at first count s = ((at == s.intake.places) && has_place s.intake.places) && is_range s.settings first count

-- adds an item with blocks to the pending ones, and makes its receipt due if the protocol asks for one
abbrev pub admitted : StreamItem → SecondaryState → SecondaryState
admitted item s =
    follows (record s {
      intake = and_item item s.intake;
      pending = waiting item s;
      end = option_map (owing (receipt_of s.settings.protocol s.intake.places item)) s.end;
    })
