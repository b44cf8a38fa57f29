use Rattle.kept_nodes.specs.Kept.{is_broken}
use Rattle.kept_nodes.proofs.Turning.{runs-whole}
use Rattle.session_nodes.proofs.Primaries.{goes-on-both}
use Rattle.kept_nodes.proofs.kept_primary.KeptPrimary.advance.Goals as goal

pub returns-clause-runs : goal.returns-clause-runs
returns-clause-runs g c = runs-whole c.args.self.now.node c.step.new.self.node c.help.new.self.node (is_broken c.step.new.self.metadata)
    (is_broken c.help.new.self.metadata) c.step.ensures.runs c.help.ensures.stays c.help.ensures.runs

pub returns-clause-goes_on : goal.returns-clause-goes_on
returns-clause-goes_on g c = goes-on-both c.args.self.now.node c.step.new.self.node c.help.new.self.node c.step.ensures.goes_on c.help.ensures.goes_on
