-- The secondary takes a frame of the pair: its step, and that the pair is one afterwards.
use Rattle.std.proofs.Common.{◌≡◌, ◌&&◌, ◌++◌, ◌∷◌, [], List, Option, Some, None, Result, sym, ◌∙◌, ap, subst, IsTrue}
use Rattle.std.specs.Prelude.{option_map, is_none}
use Rattle.blocks.specs.declared.refusal.Refusal.{Refusal}
use Rattle.blocks.specs.declared.outcome.Done.{Done}
use Rattle.endpoint.specs.Calls.{TookOne, is_out_of_memory, pushed_of, taken_of}
use Rattle.endpoint.specs.PacketReceiver.{PacketReceiverState}
use Rattle.endpoint.specs.PacketSender.{PacketSenderState}
use Rattle.endpoint.specs.Lending.{GivenOut, GivenBack, LaidBack, LaidIn, without_queue}
use Rattle.link.specs.Directions.{QueueState}
use Rattle.model.specs.Frames.{Packet, Received}
use Rattle.model.specs.LocalRuns.{Receives}
use Rattle.model.specs.Pair.{ReceiveEvent}
use Rattle.pair_protocol.specs.Carried.{Gave, PacketsFollowIn}
use Rattle.pair_protocol.specs.State.{IsDirection, IsPairStep}
use Rattle.pair_protocol.proofs.Lending.{comes-back, gave-none, gave-over, pushed-back, pushed-lent, taken-given, taken-laid}
use Rattle.pair_protocol.proofs.Takings.{receives-step}
use Rattle.secondary_protocol.specs.Node as secondary
use Rattle.secondary_protocol.specs.Steps.{replied}
use Rattle.primary.specs.State.{PrimaryView}
use Rattle.primary.specs.State as local
use Rattle.secondary.specs.Calls.{ReceivesOne}
use Rattle.secondary.specs.State.{SecondaryView}
use Rattle.secondary.specs.State as peer
use Rattle.pair.specs.State.{PairView, IsPairView, state}
use Rattle.pair.proofs.Pairing.{view-kept}

-- one frame more stands where one was taken
grew : (one : Received) (old new : Option PacketReceiverState) → TookOne one old new → taken_of new ≡ taken_of old ++ one ∷ []
grew one old new took = ap taken_of took.after ∙ ap (λ (o : Option PacketReceiverState). taken_of o ++ one ∷ []) (sym took.there)

-- a primary whose queue is lent is the same node
lent-node : (v w : PrimaryView) → w.outgoing ≡ option_map without_queue v.outgoing → w ≡ record v { outgoing = w.outgoing } → local.node w ≡ local.node v
lent-node v w out rest = ap local.node rest ∙ ap (λ (l : List Packet). record (local.node v) { pushed = l }) (ap pushed_of out ∙ pushed-lent v.outgoing)

-- Before the first connection there is no queue.
module _ (v : PairView) (a : PrimaryView) (b : SecondaryView) (result : Result Done Refusal) (was : IsPairView v)
    (given : GivenOut None v.primary.outgoing a.outgoing) (same : a ≡ record v.primary { outgoing = a.outgoing })
    (one : ReceivesOne result v.secondary b) (rest : b ≡ record v.secondary { core = b.core; incoming = b.incoming }) where
  none-given : Gave one.frame result (state v).there × IsDirection v.primary.core.settings.link (record { out = a.outgoing; inn = b.incoming })
      × (one.frame ≡ None)
  none-given = gave-none v.primary.core.settings.link (state v).there one.frame result a.outgoing b.incoming was.pair.there given one.link

  pub receive-none-step : IsPairStep ReceiveEvent (is_out_of_memory result) (state v) (replied (λ done. done) result)
      (state (record { primary = a; secondary = b }))
  receive-none-step = receives-step (state v) (state (record { primary = a; secondary = b })) result one.frame none-given.0 one.step
      (λ frame is. absurd (let nothing : Some frame ≡ None = sym is ∙ none-given.2 in cc)) (sym (lent-node v.primary a given.left same))

  pub receive-none-is : IsPairView (record { primary = a; secondary = b })
  receive-none-is = view-kept ReceiveEvent (is_out_of_memory result) v (record { primary = a; secondary = b })
      (replied (λ done. done) result) was receive-none-step
      none-given.1
      (subst (λ (o : Option PacketSenderState). IsDirection v.secondary.core.settings.link (record { out = o; inn = a.incoming }))
      (sym (ap (λ (x : SecondaryView). x.outgoing) rest))
      (subst (λ (i : Option PacketReceiverState). IsDirection v.secondary.core.settings.link (record { out = v.secondary.outgoing; inn = i }))
      (sym (ap (λ (x : PrimaryView). x.incoming) same)) was.pair.back))
      (ap (λ (x : PrimaryView). x.steady) same ∙ was.local.0, subst IsTrue (sym (ap (λ (x : PrimaryView). x.faithful) same)) was.local.1) (ap (λ (x : SecondaryView). x.steady) rest ∙ was.peer.0, subst IsTrue (sym (ap (λ (x : SecondaryView). x.faithful) rest)) was.peer.1)

-- The queue is lent, a frame is taken, and the queue is back.
module _ (v : PairView) (a e : PrimaryView) (b c d : SecondaryView) (q back : QueueState) (result : Result Done Refusal) (was : IsPairView v)
    (given : GivenOut (Some q) v.primary.outgoing a.outgoing) (a_is : a ≡ record v.primary { outgoing = a.outgoing })
    (laid : LaidIn q v.secondary.incoming b.incoming) (b_is : b ≡ record v.secondary { incoming = b.incoming })
    (one : ReceivesOne result b c) (c_is : c ≡ record b { core = c.core; incoming = c.incoming })
    (gave : GivenBack (Some back) c.incoming d.incoming) (d_is : d ≡ record c { incoming = d.incoming })
    (over : LaidBack back a.outgoing e.outgoing) (e_is : e ≡ record a { outgoing = e.outgoing })
    (returned : PacketsFollowIn (record { out = e.outgoing; inn = d.incoming })) where
  both : Gave one.frame result (state v).there × IsDirection v.primary.core.settings.link (record { out = e.outgoing; inn = d.incoming })
  both = gave-over v.primary.core.settings.link (state v).there q back one.frame result a.outgoing e.outgoing b.incoming c.incoming d.incoming was.pair.there
      given laid one.link gave over returned

  before : peer.node b ≡ peer.node v.secondary
  before = ap peer.node b_is ∙ ap (λ (l : List Received). record (peer.node v.secondary) { taken = l }) (ap taken_of laid ∙ taken-laid q v.secondary.incoming)

  after : peer.node d ≡ peer.node c
  after = ap peer.node d_is ∙ ap (λ (l : List Received). record (peer.node c) { taken = l }) (ap taken_of gave.left ∙ taken-given c.incoming)

  steps : secondary.NodeSteps (Receives one.frame (is_none one.frame && is_out_of_memory result)) (peer.node v.secondary) (replied (λ done. done) result)
      (peer.node d)
  steps = subst (λ (n : secondary.NodeState). secondary.NodeSteps (Receives one.frame (is_none one.frame && is_out_of_memory result)) n
      (replied (λ done. done) result) (peer.node d)) before
      (subst (λ (n : secondary.NodeState). secondary.NodeSteps (Receives one.frame (is_none one.frame && is_out_of_memory result)) (peer.node b)
      (replied (λ done. done) result) n) (sym after) one.step)

  grows : (frame : Received) → one.frame ≡ Some frame → (peer.node d).taken ≡ (peer.node v.secondary).taken ++ frame ∷ []
  grows frame is = ap (λ (n : secondary.NodeState). n.taken) after ∙ grew frame b.incoming c.incoming (one.link.took frame is)
      ∙ ap (λ (n : secondary.NodeState). n.taken ++ frame ∷ []) before

  kept : local.node v.primary ≡ local.node e
  kept = sym (ap local.node e_is ∙ ap (λ (l : List Packet). record (local.node a) { pushed = l }) (ap pushed_of over ∙ pushed-back back a.outgoing)
      ∙ lent-node v.primary a given.left a_is)

  pub receive-step : IsPairStep ReceiveEvent (is_out_of_memory result) (state v) (replied (λ done. done) result) (state (record { primary = e; secondary = d }))
  receive-step = receives-step (state v) (state (record { primary = e; secondary = d })) result one.frame both.0 steps grows kept

  pub receive-is : IsPairView (record { primary = e; secondary = d })
  receive-is = view-kept ReceiveEvent (is_out_of_memory result) v (record { primary = e; secondary = d }) (replied (λ done. done) result) was receive-step
      both.1
      (subst (λ (o : Option PacketSenderState). IsDirection v.secondary.core.settings.link (record { out = o; inn = e.incoming }))
      (sym (ap (λ (x : SecondaryView). x.outgoing) d_is ∙ ap (λ (x : SecondaryView). x.outgoing) c_is ∙ ap (λ (x : SecondaryView). x.outgoing) b_is))
      (subst (λ (i : Option PacketReceiverState). IsDirection v.secondary.core.settings.link (record { out = v.secondary.outgoing; inn = i }))
      (sym (ap (λ (x : PrimaryView). x.incoming) e_is ∙ ap (λ (x : PrimaryView). x.incoming) a_is)) was.pair.back))
      (ap (λ (x : PrimaryView). x.steady) e_is ∙ ap (λ (x : PrimaryView). x.steady) a_is ∙ was.local.0, subst IsTrue (sym (ap (λ (x : PrimaryView). x.faithful) e_is ∙ ap (λ (x : PrimaryView). x.faithful) a_is)) was.local.1)
      (ap (λ (x : SecondaryView). x.steady) d_is ∙ ap (λ (x : SecondaryView). x.steady) c_is ∙ ap (λ (x : SecondaryView). x.steady) b_is ∙ was.peer.0, subst IsTrue (sym (ap (λ (x : SecondaryView). x.faithful) d_is ∙ ap (λ (x : SecondaryView). x.faithful) c_is ∙ ap (λ (x : SecondaryView). x.faithful) b_is)) was.peer.1)

-- A queue that was lent does come back.
pub never-kept : (v : PairView) (a : PrimaryView) (b c d : SecondaryView) (q : QueueState) (result : Result Done Refusal) → IsPairView v
    → GivenOut (Some q) v.primary.outgoing a.outgoing → LaidIn q v.secondary.incoming b.incoming → ReceivesOne result b c
    → (back : Option QueueState) → back ≡ None → GivenBack back c.incoming d.incoming → ⊥
never-kept v a b c d q result was given laid one back none gave =
    comes-back v.primary.core.settings.link (state v).there q one.frame result a.outgoing b.incoming c.incoming d.incoming was.pair.there given laid one.link
    (subst (λ (o : Option QueueState). GivenBack o c.incoming d.incoming) none gave)
