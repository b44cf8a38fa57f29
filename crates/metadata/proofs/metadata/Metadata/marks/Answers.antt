use Rattle.metadata.proofs.Kept.{same-kept}
use Rattle.metadata.proofs.metadata.Metadata.marks.Goals as goal

pub invariant_of-self-2 : goal.invariant_of-self-2
invariant_of-self-2 g c = record {
  sized = c.self.invariant.sized;
  few = c.self.invariant.few;
  slot = c.self.invariant.slot;
  kept = λ whole faithful. same-kept _ _ _ _ _ _ _ _ (c.self.invariant.kept c.if-self.false (c.read_at.ensures.falls faithful)) c.read_at.ensures.seen c.read_at.ensures.crash;
}
