use Rattle.std.proofs.Common.{◌&&◌}
use Rattle.std.specs.Prelude.{is_none}
use Rattle.endpoint.specs.Calls.{is_out_of_memory}
use Rattle.kept_nodes.proofs.Covering.{kept-taking}
use Rattle.session_nodes.proofs.Primaries.{goes-on-runs}
use Rattle.kept_nodes.proofs.kept_primary.KeptPrimary.ack_in.Goals as goal

pub invariant_of-self : goal.invariant_of-self
invariant_of-self g c =
    let takes = c.ack_in-taken.ensures.step in
    kept-taking g.F.StableFile.seen g.F.StableFile.may_leave g.F.StableFile.faithful g.B.Beginning.opening takes.frame
    (is_none takes.frame && is_out_of_memory c.ack_in-taken.result) c.ack_in-taken.result c.self.inside.node c.ack_in-taken.new.self c.self.inside.metadata
    c.enter_full_copy-self-inside.new.metadata c.save_identifiers.new.metadata c.self.inside.owes_all c.enter_full_copy-self-inside.result c.self.invariant c.enter_full_copy-self-inside.ensures.keeps
    c.save_identifiers.ensures.keeps c.enter_full_copy-self-inside.ensures.entered c.enter_full_copy-self-inside.ensures.sized c.enter_full_copy-self-inside.ensures.fault
    c.enter_full_copy-self-inside.ensures.other takes.step.replies takes.step.after c.save_identifiers.ensures.saved

pub returns-clause-goes_on : goal.returns-clause-goes_on
returns-clause-goes_on g c = rw (← c.self.view_is)
    (goes-on-runs c.self.inside.node c.ack_in-taken.new.self c.ack_in-taken.ensures.runs c.ack_in-taken.ensures.falls)
