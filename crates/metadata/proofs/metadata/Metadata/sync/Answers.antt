use Rattle.std.proofs.Common.{sym, ◌∙◌}
use Rattle.metadata.proofs.Kept.{same-kept}
use Rattle.metadata.proofs.metadata.Metadata.sync.Goals as goal

pub invariant_of-self-2 : goal.invariant_of-self-2
invariant_of-self-2 g c = record {
  sized = c.self.invariant.sized;
  few = c.self.invariant.few;
  slot = c.self.invariant.slot;
  kept = λ whole faithful. same-kept _ _ _ _ _ _ _ _ (c.self.invariant.kept c.if-self.false (sym c.sync.ensures.still_faithful ∙ faithful)) c.sync.ensures.seen c.sync.ensures.crash;
}
