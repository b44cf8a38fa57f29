use Rattle.kept_nodes.specs.Kept.{is_broken}
use Rattle.kept_nodes.proofs.Turning.{runs-whole}
use Rattle.session_nodes.proofs.Primaries.{goes-on-both}
use Rattle.kept_nodes.proofs.kept_primary.KeptPrimary.help.Goals as goal

pub returns-then-step_of_other-2-clause-runs : goal.returns-then-step_of_other-2-clause-runs
returns-then-step_of_other-2-clause-runs g c = runs-whole c.args.self.now.node c.step_of_other.new.self.node c.step_of_other-2.new.self.node
    (is_broken c.step_of_other.new.self.metadata) (is_broken c.step_of_other-2.new.self.metadata) c.step_of_other.ensures.runs
    c.step_of_other-2.ensures.stays c.step_of_other-2.ensures.runs

pub returns-then-step_of_other-3-clause-runs : goal.returns-then-step_of_other-3-clause-runs
returns-then-step_of_other-3-clause-runs g c = runs-whole c.args.self.now.node c.step_of_other-2.new.self.node c.step_of_other-3.new.self.node
    (is_broken c.step_of_other-2.new.self.metadata) (is_broken c.step_of_other-3.new.self.metadata)
    (runs-whole c.args.self.now.node c.step_of_other.new.self.node c.step_of_other-2.new.self.node (is_broken c.step_of_other.new.self.metadata)
    (is_broken c.step_of_other-2.new.self.metadata) c.step_of_other.ensures.runs c.step_of_other-2.ensures.stays c.step_of_other-2.ensures.runs)
    c.step_of_other-3.ensures.stays c.step_of_other-3.ensures.runs

pub returns-clause-runs : goal.returns-clause-runs
returns-clause-runs g c = runs-whole c.args.self.now.node c.step_of_other-3.new.self.node c.step_of_other-4.new.self.node
    (is_broken c.step_of_other-3.new.self.metadata) (is_broken c.step_of_other-4.new.self.metadata)
    (runs-whole c.args.self.now.node c.step_of_other-2.new.self.node c.step_of_other-3.new.self.node (is_broken c.step_of_other-2.new.self.metadata)
    (is_broken c.step_of_other-3.new.self.metadata)
    (runs-whole c.args.self.now.node c.step_of_other.new.self.node c.step_of_other-2.new.self.node (is_broken c.step_of_other.new.self.metadata)
    (is_broken c.step_of_other-2.new.self.metadata) c.step_of_other.ensures.runs c.step_of_other-2.ensures.stays c.step_of_other-2.ensures.runs)
    c.step_of_other-3.ensures.stays c.step_of_other-3.ensures.runs) c.step_of_other-4.ensures.stays c.step_of_other-4.ensures.runs

pub returns-then-step_of_other-2-clause-goes_on : goal.returns-then-step_of_other-2-clause-goes_on
returns-then-step_of_other-2-clause-goes_on g c = goes-on-both c.args.self.now.node c.step_of_other.new.self.node c.step_of_other-2.new.self.node
    c.step_of_other.ensures.goes_on c.step_of_other-2.ensures.goes_on

pub returns-then-step_of_other-3-clause-goes_on : goal.returns-then-step_of_other-3-clause-goes_on
returns-then-step_of_other-3-clause-goes_on g c = goes-on-both c.args.self.now.node c.step_of_other-2.new.self.node c.step_of_other-3.new.self.node
    (goes-on-both c.args.self.now.node c.step_of_other.new.self.node c.step_of_other-2.new.self.node c.step_of_other.ensures.goes_on c.step_of_other-2.ensures.goes_on)
    c.step_of_other-3.ensures.goes_on

pub returns-clause-goes_on : goal.returns-clause-goes_on
returns-clause-goes_on g c = goes-on-both c.args.self.now.node c.step_of_other-3.new.self.node c.step_of_other-4.new.self.node
    (goes-on-both c.args.self.now.node c.step_of_other-2.new.self.node c.step_of_other-3.new.self.node
    (goes-on-both c.args.self.now.node c.step_of_other.new.self.node c.step_of_other-2.new.self.node c.step_of_other.ensures.goes_on c.step_of_other-2.ensures.goes_on)
    c.step_of_other-3.ensures.goes_on) c.step_of_other-4.ensures.goes_on
