use Rattle.kept_nodes.proofs.Saving.{sized-runs}
use Rattle.kept_nodes.proofs.kept_secondary.KeptSecondary.receive.Goals as goal

pub save_identifiers-requires : goal.save_identifiers-requires
save_identifiers-requires g c = sized-runs g.B.Beginning.opening c.self.inside.node c.receive-received.new.self c.self.inside.metadata c.self.inside.is_doubted
    c.self.invariant c.receive-received.ensures.runs
