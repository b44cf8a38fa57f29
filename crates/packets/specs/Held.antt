-- The bytes of a frame, wherever they are stored.
use Rattle.std.specs.Prelude.{ℕ, ◌≡◌, ◌<◌, List, ◌++◌, length}
use Rattle.packets.specs.declared.frame.Held.{Held}
use Rattle.packets.specs.declared.frame.Held.TheVariants.{Inline, Whole, Fronted}

-- the bytes that are held
abbrev pub held_bytes : Held → List ℕ
held_bytes (Inline part) = part
held_bytes (Whole bytes) = bytes
held_bytes (Fronted front blocks) = front ++ blocks

-- a front that is stored apart has the 32 bytes before the blocks, and a frame with one is too long to be inline
abbrev pub IsHeld : Held → Type 0
IsHeld (Fronted front blocks) = (length front ≡ 32) × (8 < length blocks)
IsHeld _ = Unit {0}
