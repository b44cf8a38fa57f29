-- A fault that one piece met is the stream's, whatever comes after it.
use Rattle.std.proofs.Common.{◌≡◌, rules}
use Rattle.blocks.specs.declared.refusal.Refusal.TheVariants.{NoMemory}
use Rattle.packets.proofs.Readings.{piece_stops}
use Rattle.packets.proofs.stream.read_pieces.Goals as goal

pub returns-in-Err : goal.returns-in-Err
returns-in-Err c =
    let known : c.in-Err.fault ≡ NoMemory → ⊥ = search rules in
    let stops = c.in-Err.ensures.fault known c.loop-piece.invariant.running in
    record {
      read = piece_stops (λ piece. piece.now) c.args.pieces.now c.loop-piece.piece-index _ c.loop-piece.decoder.rest stops.0 c.loop-piece.packets.items
          c.feed.new.out.items c.in-Err.fault
          c.loop-piece-test.true c.loop-piece.invariant.given stops.1 stops.2;
      refused = tt;
    }
