-- A node that takes a frame.
use Rattle.std.proofs.Common.{ℕ, ◌≡◌, Bool, true, false, List, [], ◌∷◌, ◌++◌, length, Option, Some, None, Result, Ok, Err, refl, sym, ◌∙◌, ap, subst}
use Rattle.std.proofs.Common.{arith, nat_lt, nat_le, ◌↔◌}
use Rattle.std.proofs.lemmas.Bool.{both_ways}
use Rattle.blocks.specs.declared.refusal.Refusal.{Refusal}
use Rattle.blocks.specs.declared.outcome.Done.{Done}
use Rattle.model.specs.Frames.{Packet, DataFrame, RsDataReplyFrame, BarrierFrame, UuidsFrame, SyncUuidFrame, Received}
use Rattle.packets.specs.Frames.{is_fault}
use Rattle.packets.specs.declared.packet.Packet as packets
use Rattle.endpoint.specs.Meaning.{received}
use Rattle.laws.proofs.Pair.CallRefusals.{receive-so}
use Rattle.model.specs.CallRefusals.{receive_refuses}
use Rattle.model.specs.LocalRuns.{Receives}
use Rattle.endpoint.specs.PacketSender.{PacketSenderState}
use Rattle.blocks.specs.declared.refusal.Refusal.TheVariants.{NoMemory, NotConnected, NothingThere, PendingFull, BadMagic, BadCommand, BadLength, BadField}
use Rattle.blocks.specs.declared.outcome.What.{What}
use Rattle.blocks.specs.declared.outcome.What.TheVariants as what
use Rattle.blocks.specs.declared.command.Command.TheVariants as command
use Rattle.std.specs.Prelude.{is_none, is_some, if◌then◌else◌, IfErr, IfSome}
use Rattle.std.specs.Option.{option_map}
use Rattle.model.specs.Refusals.{first_refusal}
use Rattle.endpoint.specs.Calls.{Takes, TookOne, is_out_of_memory}
use Rattle.secondary.specs.Calls.{ReceivesOne}
use Rattle.endpoint.specs.PacketReceiver.{PacketReceiverState, with_received, SameRow}
use Rattle.laws.proofs.Rules.Hellos.{hello-has}
use Rattle.secondary_protocol.proofs.Judged.{judging-is}
use Rattle.secondary_protocol.specs.Core.{EndState, SecondaryState, Judged, judged_if, judging_hello, judging_item, judging, hearing, taking, take_at, may_take}
use Rattle.secondary_protocol.specs.Node.{NodeSteps, secondary_step}
use Rattle.secondary_protocol.specs.Steps.{replied}
use Rattle.secondary_protocol.proofs.Node.Calls.{node-takes, node-may-not, node-out-of-memory, takes-due, may-open}
use Rattle.secondary_protocol.proofs.Node.Numbers.{takes-number}
use Rattle.secondary_protocol.proofs.Node.Runs.{node-had}
use Rattle.secondary.proofs.Answers.{if-refused}
use Rattle.secondary.specs.State.{SecondaryView, node, taken_of, IsNode, IsBegun, IsDue, IsNumbered}

-- The frame of the link is the node's step.
pub takes-steps : (v : SecondaryView) (r t : SecondaryState) (i j : PacketReceiverState) (frame : Received) (result : Result Done Refusal) → IsNode v
    → v.incoming ≡ Some i → may_take v.core ≡ Ok tt → r ≡ v.core
    → (result, t) ≡ take_at frame r.end r → j.taken ≡ i.taken ++ frame ∷ []
    → NodeSteps (Receives (Some frame) false) (node v) (replied (λ done. done) result) (node (record v { core = t; incoming = Some j }))
takes-steps v r t i j frame result node_is there may same is taken =
    let here : (result, t) ≡ take_at frame v.core.end v.core = subst (λ (x : SecondaryState). (result, t) ≡ take_at frame x.end x) same is in
    let all : j.taken ≡ taken_of v.incoming ++ frame ∷ [] = subst (λ (o : Option PacketReceiverState). j.taken ≡ taken_of o ++ frame ∷ []) (sym there) taken in
    subst (λ (l : List Received). NodeSteps (Receives (Some frame) false) (node v) (replied (λ done. done) result) (record (node v) { core = t; taken = l }))
    (sym all)
    (node-takes (node v) frame result t may here)

-- It is a node still.
pub takes-is : (v : SecondaryView) (r t : SecondaryState) (i j : PacketReceiverState) (frame : Received) (result : Result Done Refusal) → IsNode v
    → v.incoming ≡ Some i → may_take v.core ≡ Ok tt → r ≡ v.core
    → (result, t) ≡ take_at frame r.end r → j.taken ≡ i.taken ++ frame ∷ [] → j.number ≡ i.number → IsNode (record v { core = t; incoming = Some j })
takes-is v r t i j frame result is there may same takes taken number = record {
  had = node-had (Receives (Some frame) false) (node v) (replied (λ done. done) result) (node (record v { core = t; incoming = Some j })) is.had
      (takes-steps v r t i j frame result is there may same takes taken);
  out_there = λ is_established. is.out_there (may-open v.core may);
  in_there = λ is_established. refl;
  begun = go v.outgoing is.begun;
  numbered = both v.outgoing (subst (λ (x : Option PacketReceiverState). IsNumbered v.outgoing x v.core) there is.numbered);
}
  where
    here : (result, t) ≡ take_at frame v.core.end v.core
    here = subst (λ (x : SecondaryState). (result, t) ≡ take_at frame x.end x) same takes

    part : (x : Option (List Packet)) → IsDue x v.core → IsDue x t
    part None was = tt
    part (Some begun) was = λ is_established. let old = was (may-open v.core may) in (
      old.0,
      takes-due (node v) frame result t old.0 is.had may here old.1 is_established,
      old.2,
    )

    go : (x : Option PacketSenderState) → IsBegun x v.core → IsBegun x t
    go None was = tt
    go (Some x) was = part x.partly was

    both : (x : Option PacketSenderState) → IsNumbered x (Some i) v.core → IsNumbered x (Some j) t
    both None was = tt
    both (Some o) was = let kept = takes-number frame v.core.end v.core result t here in let out = was.0 in let inn =
        was.1 in (omega (arith, kept), omega (arith, kept, number))

-- No frame is taken: what was there stays, but that room may have been made for the longest.
takes-none : (o : Option PacketReceiverState) (e : Refusal) → (e ≡ NothingThere → ⊥) → Takes {R = Done} None (Err e) o o
takes-none o e other = record {
  took = λ frame is. absurd (cc);
  kept = λ is. go o;
  empty = λ is. absurd (other (let one : e ≡ NothingThere = cc in one));
}
  where
    go : (x : Option PacketReceiverState) → (ready : Bool) × (x ≡ option_map (λ (i : PacketReceiverState). record i { is_ready = ready }) x)
    go None = (true, refl)
    go (Some i) = (i.is_ready, refl)

-- The end may not take a frame.
pub may-not-one : (v : SecondaryView) (e : Refusal) (result : Result Done Refusal) → may_take v.core ≡ Err e → result ≡ Err e → ReceivesOne result v v
may-not-one v e result may refused = subst (λ (r : Result Done Refusal). ReceivesOne r v v) (sym refused) (record {
  frame = None;
  link = takes-none v.incoming e (two NothingThere (λ is. absurd (cc)) (λ is. absurd (cc)));
  step = subst (λ (b : Bool). NodeSteps (Receives None b) (node v) (replied {R = Done} (λ done. done) (Err e)) (node v))
      (sym (fed e (two NoMemory (λ is. absurd (cc)) (λ is. absurd (cc))))) (node-may-not (node v) e may);
})
  where
    two : (x : Refusal) → (NotConnected ≡ x → ⊥) → (PendingFull ≡ x → ⊥) → e ≡ x → ⊥
    two x out full is = go (is_none v.core.end) (nat_le v.core.settings.pending (length v.core.pending)) (may ∙ ap Err is)
      where
        go : (a b : Bool) → elim (first_refusal ((a, NotConnected) ∷ (b, PendingFull) ∷ [])) as
            (λ _. Result (Unit {0}) Refusal) [ Some refusal ↦ Err refusal | None ↦ Ok tt ] ≡ Err x → ⊥
        go true b said = out (let one : NotConnected ≡ x = cc in one)
        go false true said = full (let one : PendingFull ≡ x = cc in one)
        go false false said = absurd (cc)

    fed : (x : Refusal) → (x ≡ NoMemory → ⊥) → is_out_of_memory {R = Done} (Err x) ≡ false
    fed NoMemory other = absurd (other refl)
    fed x other = refl

-- There is no memory.
pub out-of-memory-one : (v : SecondaryView) (result : Result Done Refusal) → may_take v.core ≡ Ok tt → result ≡ Err NoMemory → ReceivesOne result v v
out-of-memory-one v result may refused = subst (λ (r : Result Done Refusal). ReceivesOne r v v) (sym refused) (record {
  frame = None;
  link = takes-none v.incoming NoMemory (λ is. absurd (cc));
  step = node-out-of-memory (node v) may;
})

-- What is refused of a frame is its own fault, or the end's; that there is none is neither.
some-there : (frame : Received) (s : SecondaryState) (result : Result Done Refusal) (t : SecondaryState) → may_take s ≡ Ok tt → (frame ≡ Err NothingThere → ⊥)
    → (result, t) ≡ take_at frame s.end s → result ≡ Err NothingThere → ⊥
some-there frame s result t may other is none = go s.end (may-open s may) (sym none ∙ ap (λ (p : Result Done Refusal × SecondaryState). p.0) is)
  where
    named : Judged → Type 0
    named (Ok done) = Unit {0}
    named (Err e) = e ≡ NothingThere → ⊥

    by-field : (good : Bool) (name : What) (x : SecondaryState) → named (judged_if good name x)
    by-field true name x = tt
    by-field false name x = λ differs. absurd (cc)

    by-hello : (n : ℕ) (packet : Packet) (x : SecondaryState) → named (judging_hello n packet x)
    by-hello n packet x = subst named (judging-is n packet x)
        (hello-has named (λ name. Ok (name, x)) (λ refusal. Err refusal) (λ peer. Ok (what.Frame command.Uuids None, x)) x.settings n packet
        (λ asked none of same. tt) (λ one of. tt) (λ m peer late of. tt) (λ differs. absurd (cc)) (λ differs. absurd (cc)) (λ differs. absurd (cc)))

    by-item : (packet : Packet) (e : EndState) (x : SecondaryState) → named (judging_item packet e x)
    by-item (DataFrame write at) e x = by-field _ _ _
    by-item (RsDataReplyFrame block contents at) e x = by-field _ _ _
    by-item (BarrierFrame number) e x = by-field _ _ _
    by-item (SyncUuidFrame word) e x = by-field _ _ _
    by-item (UuidsFrame tuple) e x = by-field _ _ _
    by-item packet e x = λ differs. absurd (cc)

    by-frame : (f : Received) (e : EndState) → (f ≡ Err NothingThere → ⊥) → named (judging f e s)
    by-frame (Err fault) e differs = λ same. differs (ap Err same)
    by-frame (Ok packet) e differs = by-half (nat_lt e.hello_received 3)
      where
        by-half : (early : Bool) → named (if early then judging_hello e.hello_received packet (record s { end = Some (hearing e) })
            else judging_item packet (hearing e) (record s { end = Some (hearing e) }))
        by-half true = by-hello e.hello_received packet (record s { end = Some (hearing e) })
        by-half false = by-item packet (hearing e) (record s { end = Some (hearing e) })

    by-judged : (j : Judged) → named j → Err NothingThere ≡ (taking j s).0 → ⊥
    by-judged (Ok done) fine said = absurd (cc)
    by-judged (Err e) fine said = fine (let one : e ≡ NothingThere = cc in one)

    go : (v : Option EndState) → is_some v ≡ true → Err NothingThere ≡ (take_at frame v s).0 → ⊥
    go None there said = absurd (cc)
    go (Some e) there said = by-judged (judging frame e s) (by-frame frame e other) said

-- What gave a frame was not empty.
some-queued : (v : Option (List (List ℕ))) → IfSome v (λ frames. (false ≡ true) ↔ (frames ≡ [])) → IfSome v (λ frames. frames ≡ [] → ⊥)
some-queued None exact = tt
some-queued (Some frames) exact = λ is. absurd (both_ways false refl (exact.1 is))

-- A frame was taken, the next of the link.
pub takes-one : (v : SecondaryView) (r t : SecondaryState) (i k j : PacketReceiverState) (frame : Received) (result : Result Done Refusal) → IsNode v
    → v.incoming ≡ Some i → may_take v.core ≡ Ok tt → r ≡ v.core
    → (result, t) ≡ take_at frame r.end r → k ≡ record i { is_ready = true } → j ≡ with_received frame j.frames j.is_ready k → SameRow k j
    → IfSome k.queued (λ frames. (false ≡ true) ↔ (frames ≡ [])) → (frame ≡ Err NothingThere → ⊥)
    → ReceivesOne result v (record v { core = t; incoming = Some j })
takes-one v r t i k j frame result is there may same takes ready taken row queued fault = record {
  frame = Some frame;
  link = record {
    took = λ one here. let same_one : frame ≡ one = cc in subst (λ (x : Received). TookOne x v.incoming (Some j)) same_one (record {
      before = i;
      frames = j.frames;
      ready = j.is_ready;
      there = there;
      after = ap (λ (x : PacketReceiverState). Some x) after;
      row = subst (λ (x : PacketReceiverState). SameRow i x) after (subst (λ (x : PacketReceiverState). SameRow x j) ready row);
      queued = subst (λ (x : PacketReceiverState). IfSome x.queued (λ frames. frames ≡ [] → ⊥)) ready (some-queued k.queued queued);
    });
    kept = λ none. absurd (cc);
    empty = λ none. absurd (some-there frame v.core result t may fault (subst (λ (x : SecondaryState). (result, t) ≡ take_at frame x.end x) same takes) none);
  };
  step = takes-steps v r t i j frame result is there may same takes (ap (λ (x : PacketReceiverState). x.taken) after);
}
  where
    after : j ≡ with_received frame j.frames j.is_ready i
    after = taken ∙ ap (with_received frame j.frames j.is_ready) ready

-- What is refused.

-- an end that may not take a frame
pub may-refused : (s : SecondaryState) (e : Refusal) → may_take s ≡ Err e → receive_refuses e ≡ true
may-refused s e = go (is_none s.end) (nat_le s.settings.pending (length s.pending))
  where
    go : (a b : Bool) → elim (first_refusal ((a, NotConnected) ∷ (b, PendingFull) ∷ [])) as
        (λ _. Result (Unit {0}) Refusal) [ Some refusal ↦ Err refusal | None ↦ Ok tt ] ≡ Err e → receive_refuses e ≡ true
    go true b said = let one : NotConnected ≡ e = cc in ap receive_refuses (sym one)
    go false true said = let one : PendingFull ≡ e = cc in ap receive_refuses (sym one)
    go false false said = absurd (cc)

-- a fault of bytes
fault-refused : (e : Refusal) → is_fault e ≡ true → receive_refuses e ≡ true
fault-refused BadMagic is = refl
fault-refused BadCommand is = refl
fault-refused BadLength is = refl
fault-refused BadField is = refl
fault-refused e is = absurd (cc)

faulty : (read : Result packets.Packet Refusal) → IfErr read (λ fault. is_fault fault ≡ true) → (fault : Refusal) → received read ≡ Err fault
    → receive_refuses fault ≡ true
faulty (Ok packet) faults fault is = absurd (cc)
faulty (Err one) faults fault is = let same : one ≡ fault = cc in fault-refused fault (ap is_fault (sym same) ∙ faults)

-- what a frame is refused for is a fault of its bytes, or what the model's step refuses
pub takes-refused : (v : SecondaryView) (r t : SecondaryState) (i j : PacketReceiverState) (read : Result packets.Packet Refusal) (result : Result Done Refusal)
    → IsNode v → v.incoming ≡ Some i → may_take v.core ≡ Ok tt → r ≡ v.core
    → (result, t) ≡ take_at (received read) r.end r → j.taken ≡ i.taken ++ received read ∷ [] → IfErr read (λ fault. is_fault fault ≡ true)
    → IfErr result (λ e. receive_refuses e ≡ true)
takes-refused v r t i j read result is there may same takes taken faults =
    let step = takes-steps v r t i j (received read) result is there may same takes taken in
    if-refused (λ e. receive_refuses e ≡ true) (λ done. done) result (secondary_step (Receives (Some (received read)) false) is.had.history).0
    (step.replies is.had.history is.had.has)
    (receive-so (Some (received read)) false is.had.history (λ fault one. faulty read faults fault (let equal : received read ≡ Err fault = cc in equal)))
