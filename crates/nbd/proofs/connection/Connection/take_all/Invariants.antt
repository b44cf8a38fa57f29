-- What is left of the piece makes the rest of what the whole piece makes.
use Rattle.std.proofs.Common.{◌≡◌, length}
use Rattle.nbd.specs.Machine.{Begins, Continues, fed}
use Rattle.nbd.proofs.connection.Connection.take_all.Given as goal

abbrev pub invariant-loop-rest : goal.invariant-loop-rest
invariant-loop-rest l = record {
  number : l.self.of ≡ l.fn.self.of;
  own : l.out.of ≡ l.fn.out.of;
  continues : Continues (fed l.fn.self l.fn.piece) (fed l.self l.rest) l.fn.out.bytes l.out.bytes l.fn.out.requests l.out.requests;
  begins : Begins l.fn.out.bytes l.out.bytes;
  begins_given : Begins l.fn.out.requests l.out.requests;
}

abbrev pub decreases-loop-rest : goal.decreases-loop-rest
decreases-loop-rest l = length l.rest
