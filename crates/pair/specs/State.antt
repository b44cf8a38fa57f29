-- The fields of a pair as plain values, and their invariant.
use Rattle.std.specs.Prelude.{◌≡◌, true, IsTrue}
use Rattle.primary.specs.State.{PrimaryView}
use Rattle.secondary.specs.State.{SecondaryView}
use Rattle.pair_protocol.specs.State.{IsPair, PairState}

-- both nodes
pub record PairView : Type 0 where
  pub primary : PrimaryView
  pub secondary : SecondaryView

-- both nodes in plain values, with a sender and a receiver for each direction of the link
abbrev pub state : PairView → PairState
state v = record {
  primary = v.primary.core;
  local = v.primary.disk;
  secondary = v.secondary.core;
  peer = v.secondary.disk;
  there = record { out = v.primary.outgoing; inn = v.secondary.incoming };
  back = record { out = v.secondary.outgoing; inn = v.primary.incoming };
  faithful = v.primary.faithful;
}

-- the calls of a node's disk are known not to fail, and it was faithful
abbrev pub IsSure : PrimaryView → Type 0
IsSure v = (v.steady ≡ true) × IsTrue v.faithful

abbrev pub IsSureToo : SecondaryView → Type 0
IsSureToo v = (v.steady ≡ true) × IsTrue v.faithful

-- Invariant: the pair refines some model history, and the calls of both disks are known not to fail.
pub record IsPairView (v : PairView) : Type 0 where
  pub pair : IsPair (state v)
  pub local : IsSure v.primary
  pub peer : IsSureToo v.secondary
