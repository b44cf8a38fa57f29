use Rattle.endpoint.specs.Calls.{is_out_of_memory}
use Rattle.primary_protocol.specs.Transitions.{whole_blocks}
use Rattle.kept_nodes.proofs.Covering.{kept-alone, kept-submit}
use Rattle.kept_nodes.proofs.kept_primary.KeptPrimary.submit.Goals as goal

pub invariant_of-self : goal.invariant_of-self
invariant_of-self g c = kept-alone g.F.StableFile.seen g.F.StableFile.may_leave g.F.StableFile.faithful g.B.Beginning.opening c.self.inside.node
    c.self.inside.metadata c.enter_extent.new.metadata c.self.inside.owes_all c.self.invariant c.enter_extent.ensures.keeps c.enter_extent.ensures.identifiers

pub invariant_of-self-2 : goal.invariant_of-self-2
invariant_of-self-2 g c = kept-submit g.F.StableFile.seen g.F.StableFile.may_leave g.F.StableFile.faithful g.B.Beginning.opening c.args.first
    (whole_blocks c.args.bytes.now) (is_out_of_memory c.submit-accepted.result) c.self.inside.node c.submit-accepted.new.self c.self.inside.metadata
    c.enter_extent.new.metadata c.save_identifiers.new.metadata c.self.inside.owes_all c.self.invariant c.enter_extent.ensures.keeps
    c.save_identifiers.ensures.keeps c.enter_extent.ensures.sized c.in_ok-enter_extent.ensures.entered c.submit-accepted.ensures.step.after
    c.save_identifiers.ensures.saved
