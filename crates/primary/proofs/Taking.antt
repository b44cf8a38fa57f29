-- A node takes what the peer sends.
use Rattle.std.proofs.Common.{ℕ, ◌≡◌, ◌≤◌, Bool, true, false, List, [], ◌∷◌, ◌++◌, Option, Some, None, Result, Ok, Err, refl, sym, ◌∙◌, ap, subst}
use Rattle.std.specs.Prelude.{is_some, IfSome, IfOk, IfErr, ◌↔◌}
use Rattle.std.specs.Option.{option_map}
use Rattle.blocks.specs.declared.refusal.Refusal.{Refusal}
use Rattle.blocks.specs.declared.refusal.Refusal.TheVariants.{NothingThere, BadMagic, BadCommand, BadLength, BadField}
use Rattle.blocks.specs.declared.outcome.Done.{Done}
use Rattle.blocks.specs.declared.outcome.Reply.TheVariants as reply
use Rattle.packets.specs.declared.packet.Packet as packets
use Rattle.packets.specs.declared.packet.Packet.TheVariants as packet
use Rattle.packets.specs.Table.{has_blocks}
use Rattle.packets.specs.Frames.{is_fault}
use Rattle.laws.proofs.Pair.CallRefusals.{ack-in-so}
use Rattle.model.specs.CallRefusals.{ack_in_refuses}
use Rattle.model.specs.LocalRuns.{Takes}
use Rattle.model.specs.Frames.{Packet, Received}
use Rattle.endpoint.specs.Calls as link
use Rattle.endpoint.specs.Calls.{is_out_of_memory, TookOne}
use Rattle.endpoint.specs.Meaning.{meaning, received}
use Rattle.endpoint.specs.PacketSender.{PacketSenderState}
use Rattle.endpoint.specs.PacketReceiver.{PacketReceiverState, with_received, SameRow}
use Rattle.primary_protocol.specs.Core.{PrimaryState}
use Rattle.primary_protocol.specs.Taking.{take_at, ack_in}
use Rattle.primary_protocol.specs.Node.{NodeSteps, primary_step}
use Rattle.primary_protocol.specs.Steps.{replied}
use Rattle.primary_protocol.proofs.Node.Due.{IsStill}
use Rattle.primary_protocol.proofs.Node.Runs.{node-had}
use Rattle.std.proofs.lemmas.Bool.{both_ways}
use Rattle.primary_protocol.proofs.Node.Faults.{takes-frame}
use Rattle.primary_protocol.proofs.Node.Takes.{IsShort, node-takes, takes-still, established-open, node-not-taken, open-short}
use Rattle.primary.specs.Calls.{TakesOne}
use Rattle.primary.specs.State.{PrimaryView, IsNode, IsNumbered, node, taken_of}
use Rattle.primary.proofs.Answers.{if-refused}
use Rattle.primary.proofs.Kept.{begun-kept}

-- No frame was taken.

-- only room may have been made
abbrev pub IsReadied : Option PacketReceiverState → Option PacketReceiverState → Type 0
IsReadied old new = (ready : Bool) × (new ≡ option_map (λ (i : PacketReceiverState). record i { is_ready = ready }) old)

-- nothing was done
pub readied-same : (i : Option PacketReceiverState) → IsReadied i i
readied-same None = (false, refl)
readied-same (Some i) = (i.is_ready, refl)

-- a side that is as it was
pub readied-some : (old : Option PacketReceiverState) (i j : PacketReceiverState) → old ≡ Some i → j ≡ i → IsReadied old (Some j)
readied-some old i j there same = subst (λ (o : Option PacketReceiverState). IsReadied o (Some j)) (sym there) (i.is_ready, ap Some same)

taken-same : (old new : Option PacketReceiverState) → IsReadied old new → taken_of new ≡ taken_of old
taken-same None new is = ap taken_of is.1
taken-same (Some i) new is = ap taken_of is.1

-- the call says so
pub takes-none : (v now : PrimaryView) → IsNode v → (new : Option PacketReceiverState) (e : Refusal) (result : Result Done Refusal) → v ≡ now → result ≡ Err e
    → IsReadied v.incoming new
    → (e ≡ NothingThere → (before : PacketReceiverState) × (v.incoming ≡ Some before) × IfSome before.queued (λ frames. frames ≡ []))
    → (ack_in None (is_out_of_memory {R = Done} (Err e)) v.core).0 ≡ Err e
    → TakesOne result now (record v { incoming = new })
takes-none v now before new e result is returned ready empty refused =
    subst (λ (w : PrimaryView). TakesOne result w (record v { incoming = new })) is
    (subst (λ (r : Result Done Refusal). TakesOne r v (record v { incoming = new })) (sym returned) (record {
      frame = None;
      link = record { took = λ frame none. absurd (cc); kept = λ none. ready; empty = λ nothing. empty (let same : e ≡ NothingThere = cc in same) };
      step = subst (λ (l : List Received). NodeSteps (Takes None (is_out_of_memory {R = Done} (Err e))) (node v) (reply.Refused e)
          (record (node v) { taken = l }))
          (sym (taken-same v.incoming new ready)) (node-not-taken (node v) (is_out_of_memory {R = Done} (Err e)) e refused);
    }))

-- A frame was taken.

-- a packet without blocks
short-packet : (p : packets.Packet) → IsShort (meaning p) → has_blocks p ≡ false
short-packet (packet.Protocol protocol) is = refl
short-packet (packet.Sizes blocks) is = refl
short-packet (packet.Uuids tuple) is = refl
short-packet (packet.Data first number place contents) is = absurd is
short-packet (packet.RsDataReply first place contents) is = absurd is
short-packet (packet.Barrier number) is = refl
short-packet (packet.SyncUuid word) is = refl
short-packet (packet.RecvAck ack) is = refl
short-packet (packet.WriteAck ack) is = refl
short-packet (packet.RsWriteAck ack) is = refl
short-packet (packet.BarrierAck number size) is = refl

-- a fault of bytes is one that a call may refuse
fault-refused : (e : Refusal) → is_fault e ≡ true → ack_in_refuses e ≡ true
fault-refused BadMagic is = refl
fault-refused BadCommand is = refl
fault-refused BadLength is = refl
fault-refused BadField is = refl
fault-refused e is = absurd (cc)

faulty : (read : Result packets.Packet Refusal) → IfErr read (λ fault. is_fault fault ≡ true) → (fault : Refusal) → received read ≡ Err fault
    → ack_in_refuses fault ≡ true
faulty (Ok packet) faults fault is = absurd (cc)
faulty (Err one) faults fault is = let same : one ≡ fault = cc in fault-refused fault (ap is_fault (sym same) ∙ faults)

-- what gave a frame was not empty
some-queued : (v : Option (List (List ℕ))) → IfSome v (λ frames. (false ≡ true) ↔ (frames ≡ [])) → IfSome v (λ frames. frames ≡ [] → ⊥)
some-queued None exact = tt
some-queued (Some frames) exact = λ is. absurd (both_ways false refl (exact.1 is))

module _ (v : PrimaryView) (before : IsNode v) (i x j : PacketReceiverState) (read : Result packets.Packet Refusal) (result : Result Done Refusal)
    (core : PrimaryState) (there : v.incoming ≡ Some i)
    (some : is_some v.core.end ≡ true) (readied : (ready : Bool) × (x ≡ record i { is_ready = ready })) (is : (result, core) ≡ take_at (received read) v.core)
    (taken : j ≡ with_received (received read) j.frames j.is_ready x) where
  after : j ≡ with_received (received read) j.frames j.is_ready i
  after = taken ∙ ap (with_received (received read) j.frames j.is_ready) readied.1

  taken-more : taken_of v.incoming ++ received read ∷ [] ≡ j.taken
  taken-more = ap (λ y. taken_of y ++ received read ∷ []) there ∙ sym (ap (λ (y : PacketReceiverState). y.taken) after)

  takes-step : NodeSteps (Takes (Some (received read)) false) (node v) (replied reply.Ok result) (node (record v { core = core; incoming = Some j }))
  takes-step = subst (λ (l : List Received). NodeSteps (Takes (Some (received read)) false) (node v) (replied reply.Ok result)
      (record (node v) { core = core; taken = l })) taken-more (node-takes (node v) (received read) result core some is)

  -- what is refused of it is a fault of its bytes, or what the model's step refuses
  pub takes-refused : IfErr read (λ fault. is_fault fault ≡ true) → IfErr result (λ e. ack_in_refuses e ≡ true)
  takes-refused faults = if-refused (λ e. ack_in_refuses e ≡ true) reply.Ok result (primary_step (Takes (Some (received read)) false) before.had.history).0
      (takes-step.replies before.had.history before.had.has)
      (ack-in-so (Some (received read)) false before.had.history (λ fault same. faulty read faults fault (let one : received read ≡ Err fault = cc in one)))

  -- what the link and the history say of it
  pub takes-some : (now : PrimaryView) → v ≡ now → SameRow x j → IfSome x.queued (λ frames. (false ≡ true) ↔ (frames ≡ []))
      → (received read ≡ Err NothingThere → ⊥) → TakesOne result now (record v { core = core; incoming = Some j })
  takes-some now same row queued other = subst (λ (w : PrimaryView). TakesOne result w (record v { core = core; incoming = Some j })) same (record {
    frame = Some (received read);
    link = record {
      took = λ frame one. subst (λ (f : Received). TookOne f v.incoming (Some j)) (let same : received read ≡ frame = cc in same) (record {
        before = i;
        frames = j.frames;
        ready = j.is_ready;
        there = there;
        after = ap Some after;
        row = subst (λ (y : PacketReceiverState). SameRow i y) after (subst (λ (y : PacketReceiverState). SameRow y j) readied.1 row);
        queued = subst (λ (y : PacketReceiverState). IfSome y.queued (λ frames. frames ≡ [] → ⊥)) readied.1 (some-queued x.queued queued);
      });
      kept = λ none. absurd (cc);
      empty = λ nothing. absurd (takes-frame (node v) (received read) result core some is before.had other nothing);
    };
    step = takes-step;
  })

  -- a node it stays, with room for the next frame where its stream stands
  pub takes-is : IfOk read (λ p. has_blocks p ≡ false → j.is_ready ≡ true) → IsNode (record v { core = core; incoming = Some j })
  takes-is room = record {
    had = node-had (Takes (Some (received read)) false) (node v) (replied reply.Ok result) (node (record v { core = core; incoming = Some j })) before.had
        takes-step;
    out_there = λ standing. before.out_there some;
    in_there = λ standing. refl;
    begun = begun-kept v.outgoing v.core core still before.begun;
    numbered = numbered v.outgoing (subst (λ (y : Option PacketReceiverState). IsNumbered v.outgoing y v.core) there before.numbered);
    ready = λ standing.
        let short = open-short (received read) v.core core result some is (established-open (node v) (received read) result core some is before.had standing) in
        ready read room short.0 short.1 short.2;
  }
    where
      still : IsStill v.core core
      still = takes-still (node v) (received read) result core some is before.had

      numbered : (o : Option PacketSenderState) → IsNumbered o (Some i) v.core → IsNumbered o (Some j) core
      numbered None was = tt
      numbered (Some o) was = (
        subst (λ n. o.number ≤ n) (sym still.connections) was.0,
        subst (λ n. n ≤ core.connections) (sym (ap (λ (y : PacketReceiverState). y.number) after)) (subst (λ n. i.number ≤ n) (sym still.connections) was.1),
      )

      ready : (r : Result packets.Packet Refusal) → IfOk r (λ p. has_blocks p ≡ false → j.is_ready ≡ true) → (packet : Packet) → received r ≡ Ok packet
          → IsShort packet → j.is_ready ≡ true
      ready (Err fault) room packet same short = absurd (cc)
      ready (Ok p) room packet same short = room (short-packet p (subst IsShort (let equal : packet ≡ meaning p = cc in equal) short))
