-- The epochs of one connection's stream in plain values, and how each call changes them. The rules are this project's,
-- after DRBD's write epochs: a barrier ends an epoch, and is appended once an item of the last epoch is completed, or
-- once that epoch has as many writes as it may.
use Rattle.std.specs.Prelude.{ℕ, ◌+◌, nat_lt, nat_le, ◌==◌, Bool, true, false, ◌&&◌, ◌||◌, if◌then◌else◌, List, [], ◌∷◌, ◌++◌, length, drop, Option, Some, None}
use Rattle.std.specs.Prelude.{Result, Ok, Err}
use Rattle.blocks.specs.declared.refusal.Refusal.{Refusal}
use Rattle.blocks.specs.declared.refusal.Refusal.TheVariants.{BadBarrierAck}

-- The most writes of an epoch; how many items the stream has, which is the next place; how many epochs have ended,
-- whose barriers are numbered 1 to that; for each ended epoch whose barrier is not acknowledged, how many writes it
-- has, the oldest first; for the last epoch, how many writes it has, the number of the first of them (if there is one),
-- and whether it has a resync item.
pub record EpochsState : Type 0 where
  pub max_epoch : ℕ
  pub places : ℕ
  pub ended : ℕ
  pub sizes : List ℕ
  pub size : ℕ
  pub first : ℕ
  pub resync : Bool

-- a stream's epochs, and for how many more that end there is room
pub record EpochsValue : Type 0 where
  pub state : EpochsState
  pub spare : ℕ

-- a stream with no item
abbrev pub empty : ℕ → EpochsState
empty max_epoch = record { max_epoch = max_epoch; places = 0; ended = 0; sizes = []; size = 0; first = 0; resync = false }

-- whether the write with this number, or for 0 a resync item, is in the last epoch
abbrev pub is_in_last : ℕ → EpochsState → Bool
is_in_last number s = if number == 0 then s.resync else nat_lt 0 s.size && nat_le s.first number

-- ends the last epoch: its barrier takes the next place
abbrev pub ending : EpochsState → EpochsState
ending s = record {
  max_epoch = s.max_epoch;
  places = s.places + 1;
  ended = s.ended + 1;
  sizes = s.sizes ++ s.size ∷ [];
  size = 0;
  first = s.first;
  resync = false;
}

-- places an item that no epoch counts: its place, and the epochs afterwards
abbrev pub uncounted : EpochsState → ℕ × EpochsState
uncounted s = (s.places, record s { places = s.places + 1 })

-- puts a resync item at the next place
abbrev pub with_resync : EpochsState → EpochsState
with_resync s = record s { places = s.places + 1; resync = true }

-- puts a write at the next place
abbrev pub with_write : ℕ → EpochsState → EpochsState
with_write number s = record s { places = s.places + 1; size = s.size + 1; first = if s.size == 0 then number else s.first }

-- ends the last epoch or not: the barrier that is appended, and the epochs afterwards
abbrev pub ended_if : Bool → EpochsState → Option ℕ × EpochsState
ended_if over s = if over then (Some (s.ended + 1), ending s) else (None, s)

-- ends the epoch after a write was placed, if that has as many writes as it may
abbrev pub write_placed : EpochsState → Option ℕ × EpochsState
write_placed s = ended_if (nat_le s.max_epoch s.size) s

-- Places an item, a write or for 0 a resync item: its place, the barrier that is appended, and the epochs afterwards.
abbrev pub placed : ℕ → EpochsState → ℕ × (Option ℕ × EpochsState)
placed number s = (s.places, if number == 0 then (None, with_resync s) else write_placed (with_write number s))

-- Completes a write, or for 0 a resync item: the barrier that is appended, and the epochs afterwards.
abbrev pub completing : ℕ → EpochsState → Option ℕ × EpochsState
completing number s = ended_if (is_in_last number s) s

-- how many epochs with an item are not acknowledged: those that ended, and the last one if it has an item
abbrev pub unacknowledged : EpochsState → ℕ
unacknowledged s = length s.sizes + (if nat_lt 0 s.size || s.resync then 1 else 0)

-- whether an epoch of this size is the first of these
abbrev pub begins_with : ℕ → List ℕ → Bool
begins_with size [] = false
begins_with size (oldest ∷ sizes) = size == oldest

-- whether this is the oldest barrier that is not acknowledged, and its epoch has this size
abbrev pub is_awaited : ℕ → ℕ → EpochsState → Bool
is_awaited number size s = (number + length s.sizes == s.ended + 1) && begins_with size s.sizes

-- acknowledges a barrier by its number and the size of its epoch
abbrev pub acknowledging : ℕ → ℕ → EpochsState → Result (Unit {0}) Refusal × EpochsState
acknowledging number size s =
    if is_awaited number size s then (Ok tt, record s { sizes = drop 1 s.sizes }) else (Err BadBarrierAck, s)
