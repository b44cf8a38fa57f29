-- What a node did, as a run of its history.
use Rattle.std.specs.Prelude.{◌≡◌, true, false, All, List, None, is_some, ◌⊎◌}
use Rattle.blocks.specs.Numbered.{is_busy}
use Rattle.blocks.specs.declared.refusal.Refusal.{Refusal}
use Rattle.blocks.specs.declared.refusal.Refusal.TheVariants.{NotConnected}
use Rattle.model.specs.LocalRuns.{PrimaryEvent, SecondaryEvent, primary_run, secondary_run}
use Rattle.model.specs.Primary.{PrimaryHistory, next_local}
use Rattle.model.specs.PrimarySteps.{resync_tests}
use Rattle.model.specs.Refusals.{first_refusal}
use Rattle.model.specs.Secondary.{SecondaryHistory, next_pending}
use Rattle.primary.specs.State as local
use Rattle.primary.specs.State.{node as primary_node}
use Rattle.primary.specs.Work.{IsWork as IsLocalWork}
use Rattle.primary_protocol.specs.Node as local_node
use Rattle.secondary.specs.State as peer
use Rattle.secondary.specs.Work.{IsWork as IsPeerWork}
use Rattle.secondary_protocol.specs.Node as peer_node

-- Whichever history the primary had, some steps of its work lead from it to one that it has then.
pub record LocalRuns (v w : local.PrimaryView) : Type 0 where
  pub run : (h : PrimaryHistory) → local_node.NodeHas (local.node v) h
      → (events : List PrimaryEvent) × (All IsLocalWork events × local_node.NodeHas (local.node w) (primary_run events h))

-- the same of the secondary
pub record PeerRuns (v w : peer.SecondaryView) : Type 0 where
  pub run : (h : SecondaryHistory) → peer_node.NodeHas (peer.node v) h
      → (events : List SecondaryEvent) × (All IsPeerWork events × peer_node.NodeHas (peer.node w) (secondary_run events h))

-- a refusal of a step that has nothing to do now, or waits for another one
abbrev pub IsNoFailure : Refusal → Type 0
IsNoFailure e = (is_busy e ≡ true) ⊎ (e ≡ NotConnected)

-- any other refusal, which ends the work
abbrev pub IsFailure : Refusal → Type 0
IsFailure e = (is_busy e ≡ false) × (e ≡ NotConnected → ⊥)

-- Neither disk has anything left to do, and no block can be copied.
pub record HaveNothingLeft (v : local.PrimaryView) (w : peer.SecondaryView) : Type 0 where
  pub local : (h : PrimaryHistory) → local_node.NodeHas (local.node v) h → next_local h ≡ None
  -- no resync has a block to copy now
  pub resync : (h : PrimaryHistory) → local_node.NodeHas (primary_node v) h → is_some (first_refusal (resync_tests h false)) ≡ true
  pub peer : (h : SecondaryHistory) → peer_node.NodeHas (peer.node w) h → next_pending h ≡ None
