-- Places of a device and the bytes for them.
use Rattle.std.specs.Prelude.{ℕ, ◌+◌, ◌<◌, ◌≤◌, ◌%◌, ◌==◌, ◌&&◌, Bool, List, ◌++◌, length, take, drop}

-- a block, the byte of it with which a place begins, and the bytes for the place
pub record Place : Type 0 where
  pub block : ℕ
  pub from : ℕ
  pub bytes : List ℕ

-- whether they are whole blocks
abbrev pub is_whole : Place → Bool
is_whole p = (p.from == 0) && (length p.bytes % 4096 == 0)

-- bytes within one block
pub record IsWithin (p : Place) : Type 0 where
  pub some : 0 < length p.bytes
  pub within : p.from + length p.bytes ≤ 4096

-- these bytes laid over a block from byte `from` on
abbrev pub laid_over : ℕ → List ℕ → List ℕ → List ℕ
laid_over from bytes old = take from old ++ bytes ++ drop (from + length bytes) old
