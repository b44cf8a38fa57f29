-- A step of the work is a run of one event, and runs go on.
use Rattle.std.proofs.Common.{◌≡◌, List, [], ◌∷◌, ◌++◌, refl, subst}
use Rattle.std.proofs.lemmas.List.Elements.{All-append, All-cons, All-nil}
use Rattle.blocks.specs.declared.outcome.Reply.{Reply}
use Rattle.model.specs.LocalRuns.{PrimaryEvent, SecondaryEvent, primary_after, primary_run, secondary_after, secondary_run}
use Rattle.model.specs.Primary.{PrimaryHistory}
use Rattle.model.specs.Secondary.{SecondaryHistory}
use Rattle.primary.specs.State as local
use Rattle.primary.specs.Work.{IsWork as IsLocalWork}
use Rattle.primary_protocol.specs.Node as local_node
use Rattle.secondary.specs.State as peer
use Rattle.secondary.specs.Work.{IsWork as IsPeerWork}
use Rattle.secondary_protocol.specs.Node as peer_node
use Rattle.mirror.specs.Runs.{LocalRuns, PeerRuns}

pub local-step : (event : PrimaryEvent) → IsLocalWork event → (v w : local.PrimaryView) (returned : Reply)
    → ((h : PrimaryHistory) → (local_node.primary_step event h).1 ≡ primary_after event h)
    → local_node.NodeSteps event (local.node v) returned (local.node w) → LocalRuns v w
local-step event work v w returned is steps = record {
  run = λ h was. (event ∷ [], (All-cons IsLocalWork event [] work (All-nil IsLocalWork), subst (local_node.NodeHas (local.node w)) (is h) (steps.after h was)));
}

local-both : (events more : List PrimaryEvent) (h : PrimaryHistory) → primary_run more (primary_run events h) ≡ primary_run (events ++ more) h
local-both [] more h = refl
local-both (event ∷ events) more h = local-both events more (primary_after event h)

pub local_on : {u v w : local.PrimaryView} → LocalRuns u v → LocalRuns v w → LocalRuns u w
local_on {u} {v} {w} first second = record {
  run = λ h was.
      let one = first.run h was in
      let two = second.run (primary_run one.0 h) one.1.1 in
      (one.0 ++ two.0, (All-append IsLocalWork one.0 two.0 one.1.0 two.1.0, subst (local_node.NodeHas (local.node w)) (local-both one.0 two.0 h) two.1.1));
}

pub peer-step : (event : SecondaryEvent) → IsPeerWork event → (v w : peer.SecondaryView) (returned : Reply)
    → ((h : SecondaryHistory) → (peer_node.secondary_step event h).1 ≡ secondary_after event h)
    → peer_node.NodeSteps event (peer.node v) returned (peer.node w) → PeerRuns v w
peer-step event work v w returned is steps = record {
  run = λ h was. (event ∷ [], (All-cons IsPeerWork event [] work (All-nil IsPeerWork), subst (peer_node.NodeHas (peer.node w)) (is h) (steps.after h was)));
}

peer-both : (events more : List SecondaryEvent) (h : SecondaryHistory) → secondary_run more (secondary_run events h) ≡ secondary_run (events ++ more) h
peer-both [] more h = refl
peer-both (event ∷ events) more h = peer-both events more (secondary_after event h)

pub peer_on : {u v w : peer.SecondaryView} → PeerRuns u v → PeerRuns v w → PeerRuns u w
peer_on {u} {v} {w} first second = record {
  run = λ h was.
      let one = first.run h was in
      let two = second.run (secondary_run one.0 h) one.1.1 in
      (one.0 ++ two.0, (All-append IsPeerWork one.0 two.0 one.1.0 two.1.0, subst (peer_node.NodeHas (peer.node w)) (peer-both one.0 two.0 h) two.1.1));
}
