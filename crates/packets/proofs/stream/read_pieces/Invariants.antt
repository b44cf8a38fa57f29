-- The packets so far are those of the pieces so far, and the decoder holds the rest.
use Rattle.std.proofs.Common.{◌≡◌, [], take, None}
use Rattle.std.specs.List.{flat_map}
use Rattle.packets.specs.Stream.{IsFront, Gives}
use Rattle.packets.proofs.stream.read_pieces.Given as goal

abbrev pub invariant-loop-piece : goal.invariant-loop-piece
invariant-loop-piece l = record {
  given : Gives (flat_map (λ piece. piece.now) (take l.piece-index l.pieces)) [] l.packets.items l.decoder.rest;
  front : IsFront l.decoder.rest;
  running : l.decoder.fault ≡ None;
}
