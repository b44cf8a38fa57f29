-- What a reader cuts off a sequence of bytes as one frame.
use Rattle.std.specs.Prelude.{ℕ, ◌≡◌, ◌+◌, ◌≤◌, List, length, Result, Ok, Err}
use Rattle.blocks.specs.declared.refusal.Refusal.{Refusal}
use Rattle.packets.specs.declared.header.Header.{Header}
use Rattle.packets.specs.Reading.{header_at}

-- how many bytes are cut off, if their first 8 were judged so: a header and its payload, or the 8 bytes of a faulty
-- header alone, since it does not tell what follows
abbrev pub cut_after : Result Header Refusal → ℕ
cut_after (Ok header) = 8 + header.len
cut_after (Err fault) = 8

-- bytes that a reader cuts off as one frame, wherever they begin a sequence
pub record IsCut (frame : List ℕ) : Type 0 where
  pub headed : 8 ≤ length frame
  pub whole : length frame ≡ cut_after (header_at frame)
