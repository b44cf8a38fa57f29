use Rattle.std.specs.Prelude.{◌≡◌, None, true, false}
use Rattle.kept_nodes.specs.Kept.{is_broken}
use Rattle.session_nodes.specs.Primaries.{PrimaryGoesOn, PrimaryRuns}
use Rattle.kept_nodes.proofs.kept_primary.KeptPrimary.turn.Given as goal

-- so far events led from where the turn began to where it is, as long as the metadata is whole
abbrev pub invariant-loop : goal.invariant-loop
invariant-loop g l = record {
  runs : is_broken l.self.metadata ≡ false → PrimaryRuns l.fn.self.node l.self.node;
  stays : is_broken l.fn.self.metadata ≡ true → is_broken l.self.metadata ≡ true;
  closed : l.turn.closed ≡ None;
  goes_on : PrimaryGoesOn l.fn.self.node l.self.node;
}
