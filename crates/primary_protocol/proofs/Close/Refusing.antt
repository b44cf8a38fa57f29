-- A protocol error closes the end: what that leaves.
use Rattle.std.proofs.Common.{◌≡◌, not, Option, Some, refl, ap}
use Rattle.std.specs.Prelude.{if◌then◌else◌}
use Rattle.std.specs.List.{list_any}
use Rattle.blocks.specs.declared.tuple.Tuple.{Tuple}
use Rattle.blocks.specs.declared.settings.Settings.{Settings}
use Rattle.blocks.specs.Identifiers.{lost}
use Rattle.model.specs.Stream.{epoch_of}
use Rattle.model.specs.Frames.{Received}
use Rattle.model.specs.Primary.{Accepted, PrimaryConnection, PrimaryHistory, primary_connection, change_last, is_alone, is_confirmed, is_released}
use Rattle.model.specs.Primary.{is_barrier_ack, unreleased}
use Rattle.model.specs.PrimarySteps.{closing, follows}
use Rattle.laws.proofs.Rules.CloseMarks.{close-same}
use Rattle.laws.proofs.Rules.EpochEnds.{TakesWrites}
use Rattle.laws.proofs.Primary.Ends.{frames-refusing}
use Rattle.laws.proofs.Releases.InOrderMoves.{Ordered, in-order-kept}
use Rattle.primary_protocol.specs.Core.{EndState, PrimaryState}
use Rattle.primary_protocol.specs.Transitions as transition
use Rattle.primary_protocol.specs.Leaves.{LeavesEnd, Leaves}
use Rattle.primary_protocol.proofs.Close.Closing.{IsClose, close-leaves}
use Rattle.primary_protocol.proofs.Common.Filters.{filter-at}
use Rattle.primary_protocol.proofs.Common.Reached.{primary-connection-of}
use Rattle.laws.proofs.Rules.RefusedFrames.{refusing_frame, refused_out, refused_by, refusing-last, refused-last}
use Rattle.laws.proofs.Rules.Releases.{released-same}
use Rattle.laws.proofs.Primary.WriteConnections.{alone-seen, confirmed-seen}

module _ (settings : Settings) (bound : TakesWrites settings) (s : PrimaryState) (h : PrimaryHistory) (e : EndState) (left : Leaves s h)
    (ordered : Ordered settings h) (is : s.end ≡ Some e) (end : LeavesEnd e (primary_connection h)) (frame : Received) (peer : Option Tuple) where
  -- the frame was taken and refused, and the peer's tuple may have been seen
  abbrev wrong : PrimaryHistory
  wrong = refused_by frame peer h

  abbrev later : PrimaryHistory
  later = closing wrong

  abbrev k : PrimaryConnection → PrimaryConnection
  k c = refused_out frame c

  twice : wrong.connections ≡ change_last (refusing_frame frame) h.connections
  twice = refusing-last frame h.connections

  last-wrong : primary_connection wrong ≡ refusing_frame frame (primary_connection h)
  last-wrong = primary-connection-of (refusing_frame frame) h wrong twice end.is_open

  connections : later.connections ≡ change_last k h.connections
  connections = refused-last frame peer h

  confirmed-same : (a : Accepted) → is_confirmed wrong a ≡ is_confirmed h a
  confirmed-same = confirmed-seen h wrong (refusing_frame frame) twice (λ place.
      ap (list_any (is_barrier_ack (epoch_of (primary_connection h).stream place))) (frames-refusing (primary_connection h) frame end.plain))

  alone-same : (a : Accepted) → is_alone wrong a ≡ is_alone h a
  alone-same = alone-seen h wrong (refusing_frame frame) twice refl

  unreleased-same : unreleased wrong ≡ unreleased h
  unreleased-same = filter-at (λ a. not (is_released wrong a)) (λ a. not (is_released h a)) h.writes
      (λ i a at. ap not (released-same h wrong a (confirmed-same a) (alone-same a)))

  close-is : IsClose h later k
  close-is = record {
    settings = refl;
    journal = refl;
    receipts = refl;
    writes = refl;
    connections = connections;
    last = primary-connection-of k h later connections end.is_open;
    tuple = ap (λ (c : PrimaryConnection). if c.begun then lost c.loss h.tuple else h.tuple) last-wrong;
    marks = λ block. close-same h wrong block refl unreleased-same;
    closed = refl;
    pushed = refl;
    frames = frames-refusing (primary_connection h) frame end.plain;
  }

  -- the end closes with all effects of its close
  pub refused-leaves : Leaves (transition.closing e (record s { peer = peer })).1
      (follows (closing (refused_by frame peer h))).history
  refused-leaves = close-leaves s h later k e left ordered.1.1.0.0 ordered.1.0 ((in-order-kept settings bound).refuses h frame peer end.is_open ordered).1.1.0.0
      close-is is end peer refl
