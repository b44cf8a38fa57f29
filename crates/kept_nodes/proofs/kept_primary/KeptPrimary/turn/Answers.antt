use Rattle.std.proofs.Common.{sym, subst, ◌∙◌, ◌≡◌, false, true}
use Rattle.kept_nodes.specs.Kept.{is_broken}
use Rattle.kept_nodes.proofs.Turning.{runs-whole}
use Rattle.session_nodes.specs.Primaries.{PrimaryGoesOn, PrimaryRuns}
use Rattle.session_nodes.proofs.Primaries.{goes-on-both}
use Rattle.kept_nodes.proofs.kept_primary.KeptPrimary.turn.Goals.{else-loop-test, then-loop-test+then-not-advance}
use Rattle.kept_nodes.proofs.kept_primary.KeptPrimary.turn.Goals as goal

pub loop-preserved : goal.loop-preserved
loop-preserved g c = record {
  runs = runs-whole c.args.self.now.node c.loop.self.node c.advance.new.self.node (is_broken c.loop.self.metadata) (is_broken c.advance.new.self.metadata)
      c.loop.invariant.runs c.advance.ensures.stays c.advance.ensures.runs;
  stays = λ was. c.advance.ensures.stays (c.loop.invariant.stays was);
  closed = c.advance.ensures.closed ∙ c.loop.invariant.closed;
  goes_on = goes-on-both c.args.self.now.node c.loop.self.node c.advance.new.self.node c.loop.invariant.goes_on c.advance.ensures.goes_on;
}

pub returns-clause-runs : goal.returns-clause-runs
returns-clause-runs g c = elim c.loop-test.branch [
  | else-loop-test w ↦ subst (λ (k : _). is_broken k.metadata ≡ false → PrimaryRuns c.args.self.now.node k.node) (sym w.self-is) c.loop.invariant.runs
  | then-loop-test+then-not-advance w ↦ subst (λ (k : _). is_broken k.metadata ≡ false → PrimaryRuns c.args.self.now.node k.node) (sym w.self-is)
      (runs-whole c.args.self.now.node c.loop.self.node w.advance.new.self.node (is_broken c.loop.self.metadata) (is_broken w.advance.new.self.metadata)
      c.loop.invariant.runs w.advance.ensures.stays w.advance.ensures.runs)
]

pub returns-clause-stays : goal.returns-clause-stays
returns-clause-stays g c = elim c.loop-test.branch [
  | else-loop-test w ↦ subst (λ (k : _). is_broken c.args.self.now.metadata ≡ true → is_broken k.metadata ≡ true) (sym w.self-is) c.loop.invariant.stays
  | then-loop-test+then-not-advance w ↦ subst (λ (k : _). is_broken c.args.self.now.metadata ≡ true → is_broken k.metadata ≡ true) (sym w.self-is)
      (λ was. w.advance.ensures.stays (c.loop.invariant.stays was))
]

pub returns-clause-goes_on : goal.returns-clause-goes_on
returns-clause-goes_on g c = elim c.loop-test.branch [
  | else-loop-test w ↦ subst (λ (k : _). PrimaryGoesOn c.args.self.now.node k.node) (sym w.self-is) c.loop.invariant.goes_on
  | then-loop-test+then-not-advance w ↦ subst (λ (k : _). PrimaryGoesOn c.args.self.now.node k.node) (sym w.self-is)
      (goes-on-both c.args.self.now.node c.loop.self.node w.advance.new.self.node c.loop.invariant.goes_on w.advance.ensures.goes_on)
]
