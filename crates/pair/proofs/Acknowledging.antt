-- The primary takes a frame of the pair: its step, and that the pair is one afterwards.
use Rattle.std.proofs.Common.{◌≡◌, ◌&&◌, ◌++◌, ◌∷◌, [], List, Option, Some, None, Result, sym, ◌∙◌, ap, subst, IsTrue}
use Rattle.std.specs.Prelude.{option_map, is_none}
use Rattle.blocks.specs.declared.refusal.Refusal.{Refusal}
use Rattle.blocks.specs.declared.outcome.Done.{Done}
use Rattle.blocks.specs.declared.outcome.Reply.TheVariants as reply
use Rattle.endpoint.specs.Calls.{TookOne, is_out_of_memory, pushed_of, taken_of}
use Rattle.endpoint.specs.PacketReceiver.{PacketReceiverState}
use Rattle.endpoint.specs.PacketSender.{PacketSenderState}
use Rattle.endpoint.specs.Lending.{GivenOut, GivenBack, LaidBack, LaidIn, without_queue}
use Rattle.link.specs.Directions.{QueueState}
use Rattle.model.specs.Frames.{Packet, Received}
use Rattle.model.specs.LocalRuns.{Takes as TakesFrame}
use Rattle.model.specs.Pair.{AckInEvent}
use Rattle.pair_protocol.specs.Carried.{Gave, PacketsFollowIn}
use Rattle.pair_protocol.specs.State.{IsDirection, IsPairStep}
use Rattle.pair_protocol.proofs.Lending.{comes-back, gave-none, gave-over, pushed-back, pushed-lent, taken-given, taken-laid}
use Rattle.pair_protocol.proofs.Takings.{acknowledges-step}
use Rattle.primary_protocol.specs.Node as primary
use Rattle.primary_protocol.specs.Steps.{replied}
use Rattle.primary.specs.Calls.{TakesOne}
use Rattle.primary.specs.State.{PrimaryView}
use Rattle.primary.specs.State as local
use Rattle.secondary.specs.State.{SecondaryView}
use Rattle.secondary.specs.State as peer
use Rattle.pair.specs.State.{PairView, IsPairView, state}
use Rattle.pair.proofs.Pairing.{view-kept-back}

-- one frame more stands where one was taken
grew : (one : Received) (old new : Option PacketReceiverState) → TookOne one old new → taken_of new ≡ taken_of old ++ one ∷ []
grew one old new took = ap taken_of took.after ∙ ap (λ (o : Option PacketReceiverState). taken_of o ++ one ∷ []) (sym took.there)

-- a secondary whose queue is lent is the same node
lent-node : (v w : SecondaryView) → w.outgoing ≡ option_map without_queue v.outgoing → w ≡ record v { outgoing = w.outgoing } → peer.node w ≡ peer.node v
lent-node v w out rest = ap peer.node rest ∙ ap (λ (l : List Packet). record (peer.node v) { pushed = l }) (ap pushed_of out ∙ pushed-lent v.outgoing)

-- Before the first connection there is no queue.
module _ (v : PairView) (a : SecondaryView) (b : PrimaryView) (result : Result Done Refusal) (was : IsPairView v)
    (given : GivenOut None v.secondary.outgoing a.outgoing) (same : a ≡ record v.secondary { outgoing = a.outgoing })
    (one : TakesOne result v.primary b) (rest : b ≡ record v.primary { core = b.core; incoming = b.incoming }) where
  none-given : Gave one.frame result (state v).back × IsDirection v.secondary.core.settings.link (record { out = a.outgoing; inn = b.incoming })
      × (one.frame ≡ None)
  none-given = gave-none v.secondary.core.settings.link (state v).back one.frame result a.outgoing b.incoming was.pair.back given one.link

  pub acknowledge-none-step : IsPairStep AckInEvent (is_out_of_memory result) (state v) (replied reply.Ok result)
      (state (record { secondary = a; primary = b }))
  acknowledge-none-step = acknowledges-step (state v) (state (record { secondary = a; primary = b })) result one.frame none-given.0 one.step
      (λ frame is. absurd (let nothing : Some frame ≡ None = sym is ∙ none-given.2 in cc)) (sym (lent-node v.secondary a given.left same))

  pub acknowledge-none-is : IsPairView (record { secondary = a; primary = b })
  acknowledge-none-is = view-kept-back AckInEvent (is_out_of_memory result) v (record { secondary = a; primary = b })
      (replied reply.Ok result) was acknowledge-none-step none-given.1
      (subst (λ (o : Option PacketSenderState). IsDirection v.primary.core.settings.link (record { out = o; inn = a.incoming }))
      (sym (ap (λ (x : PrimaryView). x.outgoing) rest))
      (subst (λ (i : Option PacketReceiverState). IsDirection v.primary.core.settings.link (record { out = v.primary.outgoing; inn = i }))
      (sym (ap (λ (x : SecondaryView). x.incoming) same)) was.pair.there))
      (ap (λ (x : SecondaryView). x.steady) same ∙ was.peer.0, subst IsTrue (sym (ap (λ (x : SecondaryView). x.faithful) same)) was.peer.1) (ap (λ (x : PrimaryView). x.steady) rest ∙ was.local.0, subst IsTrue (sym (ap (λ (x : PrimaryView). x.faithful) rest)) was.local.1)

-- The queue is lent, a frame is taken, and the queue is back.
module _ (v : PairView) (a e : SecondaryView) (b c d : PrimaryView) (q back : QueueState) (result : Result Done Refusal) (was : IsPairView v)
    (given : GivenOut (Some q) v.secondary.outgoing a.outgoing) (a_is : a ≡ record v.secondary { outgoing = a.outgoing })
    (laid : LaidIn q v.primary.incoming b.incoming) (b_is : b ≡ record v.primary { incoming = b.incoming })
    (one : TakesOne result b c) (c_is : c ≡ record b { core = c.core; incoming = c.incoming })
    (gave : GivenBack (Some back) c.incoming d.incoming) (d_is : d ≡ record c { incoming = d.incoming })
    (over : LaidBack back a.outgoing e.outgoing) (e_is : e ≡ record a { outgoing = e.outgoing })
    (returned : PacketsFollowIn (record { out = e.outgoing; inn = d.incoming })) where
  both : Gave one.frame result (state v).back × IsDirection v.secondary.core.settings.link (record { out = e.outgoing; inn = d.incoming })
  both = gave-over v.secondary.core.settings.link (state v).back q back one.frame result a.outgoing e.outgoing b.incoming c.incoming d.incoming was.pair.back
      given laid one.link gave over returned

  before : local.node b ≡ local.node v.primary
  before = ap local.node b_is ∙ ap (λ (l : List Received). record (local.node v.primary) { taken = l }) (ap taken_of laid ∙ taken-laid q v.primary.incoming)

  after : local.node d ≡ local.node c
  after = ap local.node d_is ∙ ap (λ (l : List Received). record (local.node c) { taken = l }) (ap taken_of gave.left ∙ taken-given c.incoming)

  steps : primary.NodeSteps (TakesFrame one.frame (is_none one.frame && is_out_of_memory result)) (local.node v.primary) (replied reply.Ok result)
      (local.node d)
  steps = subst (λ (n : primary.NodeState). primary.NodeSteps (TakesFrame one.frame (is_none one.frame && is_out_of_memory result)) n (replied reply.Ok result)
      (local.node d)) before
      (subst (λ (n : primary.NodeState). primary.NodeSteps (TakesFrame one.frame (is_none one.frame && is_out_of_memory result)) (local.node b)
      (replied reply.Ok result) n) (sym after) one.step)

  grows : (frame : Received) → one.frame ≡ Some frame → (local.node d).taken ≡ (local.node v.primary).taken ++ frame ∷ []
  grows frame is = ap (λ (n : primary.NodeState). n.taken) after ∙ grew frame b.incoming c.incoming (one.link.took frame is)
      ∙ ap (λ (n : primary.NodeState). n.taken ++ frame ∷ []) before

  kept : peer.node v.secondary ≡ peer.node e
  kept = sym (ap peer.node e_is ∙ ap (λ (l : List Packet). record (peer.node a) { pushed = l }) (ap pushed_of over ∙ pushed-back back a.outgoing)
      ∙ lent-node v.secondary a given.left a_is)

  pub acknowledge-step : IsPairStep AckInEvent (is_out_of_memory result) (state v) (replied reply.Ok result) (state (record { secondary = e; primary = d }))
  acknowledge-step = acknowledges-step (state v) (state (record { secondary = e; primary = d })) result one.frame both.0 steps grows kept

  pub acknowledge-is : IsPairView (record { secondary = e; primary = d })
  acknowledge-is = view-kept-back AckInEvent (is_out_of_memory result) v (record { secondary = e; primary = d }) (replied reply.Ok result) was acknowledge-step
      both.1
      (subst (λ (o : Option PacketSenderState). IsDirection v.primary.core.settings.link (record { out = o; inn = e.incoming }))
      (sym (ap (λ (x : PrimaryView). x.outgoing) d_is ∙ ap (λ (x : PrimaryView). x.outgoing) c_is ∙ ap (λ (x : PrimaryView). x.outgoing) b_is))
      (subst (λ (i : Option PacketReceiverState). IsDirection v.primary.core.settings.link (record { out = v.primary.outgoing; inn = i }))
      (sym (ap (λ (x : SecondaryView). x.incoming) e_is ∙ ap (λ (x : SecondaryView). x.incoming) a_is)) was.pair.there))
      (ap (λ (x : SecondaryView). x.steady) e_is ∙ ap (λ (x : SecondaryView). x.steady) a_is ∙ was.peer.0, subst IsTrue (sym (ap (λ (x : SecondaryView). x.faithful) e_is ∙ ap (λ (x : SecondaryView). x.faithful) a_is)) was.peer.1)
      (ap (λ (x : PrimaryView). x.steady) d_is ∙ ap (λ (x : PrimaryView). x.steady) c_is ∙ ap (λ (x : PrimaryView). x.steady) b_is ∙ was.local.0, subst IsTrue (sym (ap (λ (x : PrimaryView). x.faithful) d_is ∙ ap (λ (x : PrimaryView). x.faithful) c_is ∙ ap (λ (x : PrimaryView). x.faithful) b_is)) was.local.1)

-- A queue that was lent does come back.
pub never-kept : (v : PairView) (a : SecondaryView) (b c d : PrimaryView) (q : QueueState) (result : Result Done Refusal) → IsPairView v
    → GivenOut (Some q) v.secondary.outgoing a.outgoing → LaidIn q v.primary.incoming b.incoming → TakesOne result b c
    → (back : Option QueueState) → back ≡ None → GivenBack back c.incoming d.incoming → ⊥
never-kept v a b c d q result was given laid one back none gave =
    comes-back v.secondary.core.settings.link (state v).back q one.frame result a.outgoing b.incoming c.incoming d.incoming was.pair.back given laid one.link
    (subst (λ (o : Option QueueState). GivenBack o c.incoming d.incoming) none gave)
