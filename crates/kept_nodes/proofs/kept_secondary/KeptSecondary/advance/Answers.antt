use Rattle.kept_nodes.specs.Kept.{is_broken}
use Rattle.kept_nodes.proofs.Turning.{runs-whole-too}
use Rattle.kept_nodes.proofs.kept_secondary.KeptSecondary.advance.Goals as goal

pub returns-clause-runs : goal.returns-clause-runs
returns-clause-runs g c = runs-whole-too c.args.self.now.node c.step.new.self.node c.help.new.self.node (is_broken c.step.new.self.metadata) (is_broken c.help.new.self.metadata) c.step.ensures.runs c.help.ensures.stays c.help.ensures.runs
