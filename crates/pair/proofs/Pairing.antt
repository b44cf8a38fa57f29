-- A call of one node, as the pair's: the step, and that the pair is one afterwards.
use Rattle.std.proofs.Common.{◌≡◌, Bool, true, Option, refl, sym, subst}
use Rattle.blocks.specs.declared.outcome.Reply.{Reply}
use Rattle.model.specs.Pair.{Event, PairHistory, on_primary, on_secondary, step}
use Rattle.model.specs.Primary.{PrimaryHistory}
use Rattle.model.specs.Secondary.{SecondaryHistory}
use Rattle.endpoint.specs.PacketReceiver.{PacketReceiverState}
use Rattle.endpoint.specs.PacketSender.{PacketSenderState}
use Rattle.pair_protocol.specs.State.{IsDirection, IsPairStep}
use Rattle.pair_protocol.proofs.Keeping.{pair-kept}
use Rattle.pair_protocol.proofs.Stepping.{on-primary, on-secondary}
use Rattle.primary_protocol.specs.Node as primary
use Rattle.secondary_protocol.specs.Node as secondary
use Rattle.primary.specs.State.{PrimaryView}
use Rattle.primary.specs.State as local
use Rattle.secondary.specs.State.{SecondaryView}
use Rattle.secondary.specs.State as peer
use Rattle.pair.specs.State.{PairView, IsPairView, IsSure, IsSureToo, state}

-- a step keeps a pair
pub view-kept : (event : Event) (out_of_memory : Bool) (v w : PairView) (said : Reply) → IsPairView v → IsPairStep event out_of_memory (state v) said (state w)
    → IsDirection v.primary.core.settings.link (state w).there
    → IsDirection v.secondary.core.settings.link (state w).back → IsSure w.primary → IsSureToo w.secondary → IsPairView w
view-kept event out_of_memory v w said was steps there back local peer = record {
  pair = pair-kept event out_of_memory (state v) (state w) said was.pair steps there back;
  local = local;
  peer = peer;
}

-- the same, told from the way back
pub view-kept-back : (event : Event) (out_of_memory : Bool) (v w : PairView) (said : Reply) → IsPairView v
    → IsPairStep event out_of_memory (state v) said (state w)
    → IsDirection v.secondary.core.settings.link (state w).back
    → IsDirection v.primary.core.settings.link (state w).there → IsSureToo w.secondary → IsSure w.primary → IsPairView w
view-kept-back event out_of_memory v w said was steps back there peer local = view-kept event out_of_memory v w said was steps there back local peer

-- The primary alone.

pub primary-step : (event : Event) (out_of_memory : Bool) (f : PrimaryHistory → Reply × PrimaryHistory)
    → ((h : PairHistory) → step event out_of_memory h ≡ on_primary f h)
    → (v : PairView) (w : PrimaryView) (said : Reply)
    → primary.IsStep f (local.node v.primary) said (local.node w) → IsPairStep event out_of_memory (state v) said (state (record v { primary = w }))
primary-step event out_of_memory f does v w said steps = on-primary event out_of_memory (state v) (state (record v { primary = w })) said f
    (λ h has. does h) steps refl

pub primary-is : (event : Event) (out_of_memory : Bool) (v : PairView) (w : PrimaryView) (said : Reply) → IsPairView v
    → IsPairStep event out_of_memory (state v) said (state (record v { primary = w })) → w.outgoing ≡ v.primary.outgoing → w.incoming ≡ v.primary.incoming
    → IsSure w
    → IsPairView (record v { primary = w })
primary-is event out_of_memory v w said was steps out inn steady =
    view-kept event out_of_memory v (record v { primary = w }) said was steps
    (subst (λ (o : Option PacketSenderState). IsDirection v.primary.core.settings.link (record { out = o; inn = v.secondary.incoming }))
    (sym out) was.pair.there)
    (subst (λ (i : Option PacketReceiverState). IsDirection v.secondary.core.settings.link (record { out = v.secondary.outgoing; inn = i }))
    (sym inn) was.pair.back)
    steady was.peer

-- The secondary alone.

pub secondary-step : (event : Event) (out_of_memory : Bool) (f : SecondaryHistory → Reply × SecondaryHistory)
    → ((h : PairHistory) → step event out_of_memory h ≡ on_secondary f h) → (v : PairView) (w : SecondaryView) (said : Reply)
    → secondary.IsStep f (peer.node v.secondary) said (peer.node w) → IsPairStep event out_of_memory (state v) said (state (record v { secondary = w }))
secondary-step event out_of_memory f does v w said steps = on-secondary event out_of_memory (state v) (state (record v { secondary = w })) said f
    (λ h has. does h) steps refl

pub secondary-is : (event : Event) (out_of_memory : Bool) (v : PairView) (w : SecondaryView) (said : Reply) → IsPairView v
    → IsPairStep event out_of_memory (state v) said (state (record v { secondary = w })) → w.outgoing ≡ v.secondary.outgoing → w.incoming ≡ v.secondary.incoming
    → IsSureToo w → IsPairView (record v { secondary = w })
secondary-is event out_of_memory v w said was steps out inn steady =
    view-kept event out_of_memory v (record v { secondary = w }) said was steps
    (subst (λ (i : Option PacketReceiverState). IsDirection v.primary.core.settings.link (record { out = v.primary.outgoing; inn = i }))
    (sym inn) was.pair.there)
    (subst (λ (o : Option PacketSenderState). IsDirection v.secondary.core.settings.link (record { out = o; inn = v.primary.incoming }))
    (sym out) was.pair.back)
    was.local steady
