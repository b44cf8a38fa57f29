use Rattle.std.proofs.Common.{◌≡◌, ◌-◌, [], length}
use Rattle.thread_link.specs.Carried.{BeginsNoCut}
use Rattle.thread_link.specs.Inward.{in_hand, later_of, rest_on}
use Rattle.thread_link.proofs.inward.RuledInFrameIn.take.Given as goal

abbrev pub invariant-loop-frame : goal.invariant-loop-frame
invariant-loop-frame g l = record {
  same : l.self ≡ record l.initial.self { pieces = l.self.pieces; front = l.self.front; rest = l.self.rest };
  spent : rest_on l.self.number l.self.rest ≡ [];
  now : later_of l.self.number l.self.rest ≡ [];
  part : BeginsNoCut (in_hand l.self);
}

abbrev pub decreases-loop-frame : goal.decreases-loop-frame
decreases-loop-frame g l = 132504 - length (in_hand l.self)
