-- The packets of the frames so far are in the list, and what is left begins as a frame does.
use Rattle.std.proofs.Common.{◌≡◌, ◌+◌, ◌++◌, [], length}
use Rattle.std.specs.Prelude.{if◌then◌else◌}
use Rattle.packets.specs.Stream.{IsPart, Gives}
use Rattle.packets.specs.Steps.{Adds}
use Rattle.packets.proofs.decoder.whole_frames.Given as goal

abbrev pub invariant-loop-packet : goal.invariant-loop-packet
invariant-loop-packet l = record {
  part : IsPart l.header l.front;
  front : l.front ≡ (if l.has_taken then [] else l.rest);
  added : Adds l.fn.out.items l.out.items;
  given : Gives (l.rest ++ l.fn.piece) l.fn.out.items l.out.items (l.front ++ l.piece);
}

abbrev pub decreases-loop-packet : goal.decreases-loop-packet
decreases-loop-packet l = length l.front + length l.piece
