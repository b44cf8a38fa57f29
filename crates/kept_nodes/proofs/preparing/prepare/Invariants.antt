use Rattle.std.specs.Prelude.{◌≡◌, length}
use Rattle.kept_nodes.specs.Left.{LosesNothing}
use Rattle.kept_nodes.proofs.preparing.prepare.Given as goal

-- nothing is lost, and no extent entered or left
abbrev pub invariant-loop-number : goal.invariant-loop-number
invariant-loop-number g l = record {
  keeps : LosesNothing g.F.StableFile.seen g.F.StableFile.may_leave g.F.StableFile.faithful l.fn.metadata l.metadata;
  entries : l.metadata.entries ≡ l.fn.metadata.entries;
  identifiers : l.metadata.identifiers ≡ l.fn.metadata.identifiers;
  size : length l.fn.metadata.entries ≡ l.number-end;
}
