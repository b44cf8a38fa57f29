-- A node pushes a frame: the pair is one afterwards.
use Rattle.std.proofs.Common.{◌≡◌, true, Option, Result, refl, sym, subst}
use Rattle.blocks.specs.declared.refusal.Refusal.{Refusal}
use Rattle.blocks.specs.declared.outcome.Done.{Done}
use Rattle.blocks.specs.declared.outcome.Reply.TheVariants as reply
use Rattle.endpoint.specs.Calls as link
use Rattle.endpoint.specs.Calls.{has_room, is_out_of_memory}
use Rattle.endpoint.specs.PacketReceiver.{PacketReceiverState}
use Rattle.model.specs.LocalRuns.{Acknowledges, Sends}
use Rattle.model.specs.Pair.{AckOutEvent, SendEvent}
use Rattle.pair_protocol.specs.Carried.{PacketsFollowIn}
use Rattle.pair_protocol.specs.State.{IsDirection, IsPairStep}
use Rattle.pair_protocol.proofs.Carrying.{sent-over}
use Rattle.pair_protocol.proofs.Stepping.{sends-step, answers-step}
use Rattle.primary_protocol.specs.Node as primary
use Rattle.primary_protocol.specs.Steps as from_primary
use Rattle.secondary_protocol.specs.Node as secondary
use Rattle.secondary_protocol.specs.Steps as from_secondary
use Rattle.primary.specs.State.{PrimaryView}
use Rattle.primary.specs.State as local
use Rattle.secondary.specs.State.{SecondaryView}
use Rattle.secondary.specs.State as peer
use Rattle.pair.specs.State.{PairView, IsPairView, state, IsSure, IsSureToo}
use Rattle.pair.proofs.Pairing.{view-kept}

-- The primary's push.

pub send-step : (v : PairView) (w : PrimaryView) (result : Result Done Refusal) → IsPairView v → link.Sends result v.primary.outgoing w.outgoing
    → primary.NodeSteps (Sends (has_room result) (is_out_of_memory result)) (local.node v.primary) (from_primary.replied reply.Ok result) (local.node w)
    → IsPairStep SendEvent (is_out_of_memory result) (state v) (from_primary.replied reply.Ok result) (state (record v { primary = w }))
send-step v w result was sends steps = sends-step (state v) (state (record v { primary = w })) result was.pair.there sends steps refl

pub send-is : (v : PairView) (w : PrimaryView) (result : Result Done Refusal) → IsPairView v → link.Sends result v.primary.outgoing w.outgoing
    → primary.NodeSteps (Sends (has_room result) (is_out_of_memory result)) (local.node v.primary) (from_primary.replied reply.Ok result) (local.node w)
    → w.incoming ≡ v.primary.incoming → IsSure w → PacketsFollowIn (record { out = w.outgoing; inn = v.secondary.incoming })
    → IsPairView (record v { primary = w })
send-is v w result was sends steps inn steady returned =
    view-kept SendEvent (is_out_of_memory result) v (record v { primary = w }) (from_primary.replied reply.Ok result) was (send-step v w result was sends steps)
    (sent-over v.primary.core.settings.link (state v).there result w.outgoing was.pair.there sends returned)
    (subst (λ (i : Option PacketReceiverState). IsDirection v.secondary.core.settings.link (record { out = v.secondary.outgoing; inn = i }))
    (sym inn) was.pair.back)
    steady was.peer

-- The secondary's push.

pub answer-step : (v : PairView) (w : SecondaryView) (result : Result Done Refusal) → IsPairView v → link.Sends result v.secondary.outgoing w.outgoing
    → secondary.NodeSteps (Acknowledges (has_room result) (is_out_of_memory result)) (peer.node v.secondary) (from_secondary.replied (λ done. done) result)
    (peer.node w)
    → IsPairStep AckOutEvent (is_out_of_memory result) (state v) (from_secondary.replied (λ done. done) result) (state (record v { secondary = w }))
answer-step v w result was sends steps = answers-step (state v) (state (record v { secondary = w })) result was.pair.back sends steps refl

pub answer-is : (v : PairView) (w : SecondaryView) (result : Result Done Refusal) → IsPairView v → link.Sends result v.secondary.outgoing w.outgoing
    → secondary.NodeSteps (Acknowledges (has_room result) (is_out_of_memory result)) (peer.node v.secondary) (from_secondary.replied (λ done. done) result)
    (peer.node w)
    → w.incoming ≡ v.secondary.incoming → IsSureToo w → PacketsFollowIn (record { out = w.outgoing; inn = v.primary.incoming })
    → IsPairView (record v { secondary = w })
answer-is v w result was sends steps inn steady returned =
    view-kept AckOutEvent (is_out_of_memory result) v (record v { secondary = w }) (from_secondary.replied (λ done. done) result) was
    (answer-step v w result was sends steps)
    (subst (λ (i : Option PacketReceiverState). IsDirection v.primary.core.settings.link (record { out = v.primary.outgoing; inn = i }))
    (sym inn) was.pair.there)
    (sent-over v.secondary.core.settings.link (state v).back result w.outgoing was.pair.back sends returned)
    was.local steady
