use Rattle.kept_nodes.proofs.Saving.{sized-runs}
use Rattle.kept_nodes.proofs.kept_secondary.KeptSecondary.ack_out.Goals as goal

pub save_identifiers-requires : goal.save_identifiers-requires
save_identifiers-requires g c = sized-runs g.B.Beginning.opening c.self.inside.node c.ack_out-sent.new.self c.self.inside.metadata c.self.inside.is_doubted
    c.self.invariant c.ack_out-sent.ensures.runs
