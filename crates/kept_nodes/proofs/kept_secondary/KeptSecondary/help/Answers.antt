use Rattle.kept_nodes.specs.Kept.{is_broken}
use Rattle.kept_nodes.proofs.Turning.{runs-whole-too}
use Rattle.kept_nodes.proofs.kept_secondary.KeptSecondary.help.Goals as goal

pub returns-then-step_of_other-2-clause-runs : goal.returns-then-step_of_other-2-clause-runs
returns-then-step_of_other-2-clause-runs g c = runs-whole-too c.args.self.now.node c.step_of_other.new.self.node c.step_of_other-2.new.self.node (is_broken c.step_of_other.new.self.metadata) (is_broken c.step_of_other-2.new.self.metadata) c.step_of_other.ensures.runs c.step_of_other-2.ensures.stays c.step_of_other-2.ensures.runs

pub returns-clause-runs : goal.returns-clause-runs
returns-clause-runs g c = runs-whole-too c.args.self.now.node c.step_of_other-2.new.self.node c.step_of_other-3.new.self.node (is_broken c.step_of_other-2.new.self.metadata) (is_broken c.step_of_other-3.new.self.metadata) (runs-whole-too c.args.self.now.node c.step_of_other.new.self.node c.step_of_other-2.new.self.node (is_broken c.step_of_other.new.self.metadata) (is_broken c.step_of_other-2.new.self.metadata) c.step_of_other.ensures.runs c.step_of_other-2.ensures.stays c.step_of_other-2.ensures.runs) c.step_of_other-3.ensures.stays c.step_of_other-3.ensures.runs
