-- A node sends what it owes.
use Rattle.std.proofs.Common.{ℕ, ◌≡◌, ◌⊎◌, inl, inr, ◌≤◌, Bool, true, false, List, [], ◌∷◌, ◌++◌, Option, Some, None, Result, Ok, Err, refl, sym, ◌∙◌, ap}
use Rattle.std.proofs.Common.{subst}
use Rattle.std.specs.Prelude.{IfErr, IfSome, IsOk}
use Rattle.std.specs.Option.{option_map}
use Rattle.blocks.specs.declared.refusal.Refusal.{Refusal}
use Rattle.blocks.specs.declared.refusal.Refusal.TheVariants.{LinkFull, NoMemory, NotConnected, NothingThere}
use Rattle.blocks.specs.declared.outcome.Done.{Done}
use Rattle.blocks.specs.declared.outcome.Reply.TheVariants as reply
use Rattle.model.specs.LocalRuns.{Sends}
use Rattle.model.specs.Frames.{Packet}
use Rattle.endpoint.specs.Calls as link
use Rattle.endpoint.specs.Calls.{has_room, is_out_of_memory}
use Rattle.endpoint.specs.PacketSender.{PacketSenderState, with_pushed}
use Rattle.endpoint.specs.PacketReceiver.{PacketReceiverState}
use Rattle.primary_core.specs.Send.{owes_blocks, sent_at, sent_owed, sent_now}
use Rattle.primary_protocol.specs.Core.{EndState, PrimaryState, is_established}
use Rattle.primary_protocol.specs.Transitions.{owed, due, send}
use Rattle.primary_protocol.specs.Node.{NodeState, NodeSteps}
use Rattle.primary_protocol.specs.Steps.{replied}
use Rattle.primary_protocol.proofs.Node.Runs.{node-had}
use Rattle.primary_protocol.proofs.Node.Sends.{due-open, due-refused, of-due, send_owed, send_at, send-not-due, send-out-of-memory, send-full, node-not-pushed}
use Rattle.primary_protocol.proofs.Node.Sends.{node-pushes, pushes-connections, pushes-stood}
use Rattle.primary.specs.State.{PrimaryView, IsNode, IsDue, IsNumbered, node, pushed_of}

-- A frame that is not pushed.

-- the step of a push that was refused so
refused-step : (n : NodeState) (said : Result Done Refusal) (e x : Refusal) → said ≡ Err e → e ≡ x
    → NodeSteps (Sends (has_room {R = Done} (Err x)) (is_out_of_memory {R = Done} (Err x))) n (reply.Refused x) n
    → NodeSteps (Sends (has_room said) (is_out_of_memory said)) n (replied reply.Ok said) n
refused-step n said e x returned is steps =
    subst (λ (r : Result Done Refusal). NodeSteps (Sends (has_room r) (is_out_of_memory r)) n (replied reply.Ok r) n) (sym (returned ∙ ap Err is)) steps

ok-is : {X : Type 0} (r : Result X Refusal) → IsOk r → (x : X) × (r ≡ Ok x)
ok-is (Ok x) is = (x, refl)
ok-is (Err e) is = absurd (cc)

-- nothing is due, or there is no memory for the packet
pub not-due-steps : (v : PrimaryView) → IsNode v → (e : Refusal) (said : Result Done Refusal) → said ≡ Err e
    → (due v.core ≡ Err e) ⊎ ((e ≡ NoMemory) × IsOk (due v.core))
    → NodeSteps (Sends (has_room said) (is_out_of_memory said)) (node v) (replied reply.Ok said) (node v)
not-due-steps v before e said returned why = elim why [
  | inl none ↦ elim (due-refused v.core e none) [
    | inl shut ↦ refused-step (node v) said e NotConnected returned shut
        (node-not-pushed (node v) true false NotConnected (send-not-due true false v.core NotConnected (none ∙ ap Err shut)))
    | inr nothing ↦ refused-step (node v) said e NothingThere returned nothing
        (node-not-pushed (node v) true false NothingThere (send-not-due true false v.core NothingThere (none ∙ ap Err nothing)))
  ]
  | inr out_of_memory ↦
      let packet = ok-is (due v.core) out_of_memory.1 in
      refused-step (node v) said e NoMemory returned out_of_memory.0 (node-not-pushed (node v) true true NoMemory (send-out-of-memory v.core packet.0 packet.1))
]

-- the link had no room, or there was no memory for its frame
full-or-not : (e : Refusal) → (e ≡ LinkFull) ⊎ ((e ≡ LinkFull) → ⊥)
full-or-not LinkFull = inl refl
full-or-not e = inr (λ is. absurd (cc))

-- a push that finds no memory is of a frame with blocks
pub blocks-wanted : (blocks owes : Bool) (e : Refusal) → blocks ≡ owes → ((e ≡ LinkFull → ⊥) → (e ≡ NoMemory) × (blocks ≡ true)) → e ≡ NoMemory → owes ≡ true
blocks-wanted blocks owes e same refused out_of_memory = sym same ∙ (refused (λ full. cc)).1

-- what is refused for want of memory is a frame with blocks
pub out-of-memory-owes : (v w : PrimaryView) (said : Result Done Refusal) (e : Refusal) → v ≡ w → said ≡ Err e → (e ≡ NoMemory → owes_blocks v.core ≡ true)
    → IfErr said (λ x. x ≡ NoMemory → owes_blocks w.core ≡ true)
out-of-memory-owes v w said e is returned owes =
    subst (λ (r : Result Done Refusal). IfErr r (λ x. x ≡ NoMemory → owes_blocks w.core ≡ true)) (sym returned)
    (subst (λ (x : PrimaryView). e ≡ NoMemory → owes_blocks x.core ≡ true) is owes)

-- the step of a push that the link or the memory refused
pub not-pushed-steps : (v : PrimaryView) → IsNode v → (o p : PacketSenderState) (packet : Packet) (e : Refusal) (said : Result Done Refusal)
    → v.outgoing ≡ Some o
    → due v.core ≡ Ok packet → said ≡ Err e → ((e ≡ LinkFull → ⊥) → e ≡ NoMemory) → p.pushed ≡ o.pushed
    → NodeSteps (Sends (has_room said) (is_out_of_memory said)) (node v) (replied reply.Ok said) (node (record v { outgoing = Some p }))
not-pushed-steps v before o p packet e said there is returned memory pushed =
    let same : node v ≡ node (record v { outgoing = Some p }) = λ i. record (node v) { pushed = (ap (λ x. pushed_of x) there ∙ sym pushed) i } in
    subst (NodeSteps (Sends (has_room said) (is_out_of_memory said)) (node v) (replied reply.Ok said)) same (elim (full-or-not e) [
      | inl full ↦ refused-step (node v) said e LinkFull returned full (node-not-pushed (node v) false false LinkFull (send-full v.core packet is))
      | inr other ↦ refused-step (node v) said e NoMemory returned (memory other)
          (node-not-pushed (node v) true true NoMemory (send-out-of-memory v.core packet is))
    ])

-- what the side of the link says of it
pub nothing-sent : (o : Option PacketSenderState) (e : Refusal) (said : Result Done Refusal) → said ≡ Err e → (e ≡ LinkFull → ⊥) → link.Sends said o o
nothing-sent o e said returned none = subst (λ (r : Result Done Refusal). link.Sends r o o) (sym returned)
    (record { pushed = tt; kept = kept o; full = λ is. absurd (none (let same : e ≡ LinkFull = cc in same)) })
  where
    kept : (o : Option PacketSenderState) → (partly : Option (List Packet)) × (o ≡ option_map (λ (x : PacketSenderState). record x { partly = partly }) o)
    kept None = (None, refl)
    kept (Some x) = (x.partly, refl)

-- where nothing was due
pub not-due-sent : (v : PrimaryView) → IsNode v → (now : Option PacketSenderState) (e : Refusal) (said : Result Done Refusal) → said ≡ Err e
    → (due v.core ≡ Err e) ⊎ ((e ≡ NoMemory) × IsOk (due v.core)) → link.Sends said now now
not-due-sent v before now e said returned why = nothing-sent now e said returned (λ full. elim why [
  | inl none ↦ elim (due-refused v.core e none) [
    | inl shut ↦ let no : NotConnected ≡ LinkFull = sym shut ∙ full in absurd (cc)
    | inr nothing ↦ let no : NothingThere ≡ LinkFull = sym nothing ∙ full in absurd (cc)
  ]
  | inr out_of_memory ↦ let no : NoMemory ≡ LinkFull = sym out_of_memory.0 ∙ full in absurd (cc)
])

-- where a packet went in part, or not at all
pub part-sent : (o p : PacketSenderState) (now : Option PacketSenderState) (e : Refusal) (said : Result Done Refusal) → now ≡ Some o → said ≡ Err e
    → p ≡ record o { partly = p.partly } → (e ≡ LinkFull → IfSome o.room (λ n. n ≡ 0)) → link.Sends said now (Some p)
part-sent o p now e said there returned same full = subst (λ (x : Option PacketSenderState). link.Sends said x (Some p)) (sym there)
    (subst (λ (r : Result Done Refusal). link.Sends r (Some o) (Some p)) (sym returned) (record {
      pushed = tt;
      kept = (p.partly, ap Some same);
      full = λ is. (o, refl, full (let same : e ≡ LinkFull = cc in same));
    }))

-- A frame that is pushed.

-- what the core says of it is the transition
send-now : (s : PrimaryState) (packet : Packet) → due s ≡ Ok packet → send true false s ≡ (Ok (sent_now s).0, (sent_now s).1)
send-now s packet is = of-due (λ v. send_at true false s v ≡ (Ok (sent_at s v).0, (sent_at s v).1)) s packet is
    (λ e owes. subst (λ (w : Option Packet). send_owed true false s e w ≡ (Ok (sent_owed e s w).0, (sent_owed e s w).1)) (sym owes) refl)

module _ (v : PrimaryView) (before : IsNode v) (o p : PacketSenderState) (frame : List ℕ) (packet : Packet) (done : Done) (core : PrimaryState)
    (there : v.outgoing ≡ Some o) (is : due v.core ≡ Ok packet) (sent : (done, core) ≡ sent_now v.core) (pushed : p ≡ with_pushed packet frame o) where
  as-sent : (Ok done, core) ≡ send true false v.core
  as-sent = ap (λ (x : Done × PrimaryState). (Ok x.0, x.1)) sent ∙ sym (send-now v.core packet is)

  -- the step of a push
  pub sent-steps : NodeSteps (Sends true false) (node v) (reply.Ok done) (node (record v { core = core; outgoing = Some p }))
  sent-steps =
      let more : pushed_of v.outgoing ++ packet ∷ [] ≡ p.pushed = ap (λ x. pushed_of x ++ packet ∷ []) there
      ∙ sym (ap (λ (x : PacketSenderState). x.pushed) pushed) in
      subst (λ (l : List Packet). NodeSteps (Sends true false) (node v) (reply.Ok done) (record (node v) { core = core; pushed = l })) more
      (node-pushes (node v) packet done core is as-sent)

  -- a node it stays
  pub sent-is : IsNode (record v { core = core; outgoing = Some p })
  sent-is = record {
    had = node-had (Sends true false) (node v) (reply.Ok done) (node (record v { core = core; outgoing = Some p })) before.had sent-steps;
    out_there = λ some. refl;
    in_there = λ some. before.in_there (due-open v.core packet is);
    begun = subst (λ (x : Option (List Packet)). IsDue x core) (sym (ap (λ (x : PacketSenderState). x.partly) pushed)) tt;
    numbered = numbered v.incoming (subst (λ (x : Option PacketSenderState). IsNumbered x v.incoming v.core) there before.numbered);
    ready = λ standing. before.ready (pushes-stood (node v) packet done core is as-sent before.had standing);
  }
    where
      numbered : (i : Option PacketReceiverState) → IsNumbered (Some o) i v.core → IsNumbered (Some p) i core
      numbered None was = tt
      numbered (Some i) was =
          let same : core.connections ≡ v.core.connections = pushes-connections (node v) packet done core is as-sent before.had in (
            subst (λ n. n ≤ core.connections) (sym (ap (λ (x : PacketSenderState). x.number) pushed)) (subst (λ n. o.number ≤ n) (sym same) was.0),
            subst (λ n. i.number ≤ n) (sym same) was.1,
          )
