-- Positions of items in the streams of connections.
use Rattle.std.specs.Prelude.{ℕ, suc, ◌==◌, Bool, ◌&&◌}

-- The position of an item: the index of its connection among those opened, and its place in that connection's stream.
pub record StreamPosition : Type 0 where
  pub index : ℕ
  pub place : ℕ

-- the number of its connection, counted from 1
abbrev pub connection_of : StreamPosition → ℕ
connection_of p = suc p.index

-- two positions are the same
abbrev pub same_position : StreamPosition → StreamPosition → Bool
same_position a b = (a.index == b.index) && (a.place == b.place)
