-- Both nodes have opened.
use Rattle.std.specs.Prelude.{ℕ, false, ◌&&◌, not, nat_le, List, ◌∷◌}
use Rattle.blocks.specs.declared.outcome.What.TheVariants as what
use Rattle.blocks.specs.declared.outcome.Reply.TheVariants as reply
use Rattle.blocks.specs.declared.refusal.Refusal.TheVariants.{NotDrained, StreamFull}
use Rattle.model.specs.LocalRuns.{Opens, OpensToo}
use Rattle.model.specs.Primary.{PrimaryHistory}
use Rattle.model.specs.PrimarySteps.{open_tests}
use Rattle.model.specs.Refusals.{Test, done_with}
use Rattle.model.specs.Secondary.{SecondaryHistory, secondary_connection, is_drained}
use Rattle.primary.specs.State as local
use Rattle.primary_protocol.specs.Node as local_node
use Rattle.secondary.specs.State as peer
use Rattle.secondary_protocol.specs.Node as peer_node

-- each opened, on whichever history it had
pub record BothOpen (sync loss : ℕ) (p p_then : local.PrimaryView) (s s_then : peer.SecondaryView) : Type 0 where
  pub local : local_node.NodeSteps (Opens sync loss false) (local.node p) (reply.Ok (done_with what.Nothing)) (local.node p_then)
  pub peer : peer_node.NodeSteps (OpensToo 0) (peer.node s) (reply.Ok (done_with what.Nothing)) (peer.node s_then)

-- When opening both is refused, but for want of memory: the secondary's end is open or it has items pending, or it had the
-- last connection that there is; or the primary's opening is refused.
abbrev pub connect_tests : ℕ → ℕ → PrimaryHistory → SecondaryHistory → List Test
connect_tests sync loss h g =
    (not ((secondary_connection g).closed && is_drained g), NotDrained) ∷ (
      nat_le 4294967295 (secondary_connection g).number,
      StreamFull,
    ) ∷ open_tests h sync loss false
