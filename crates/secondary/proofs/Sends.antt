-- A node that sends what it owes.
use Rattle.std.proofs.Common.{◌≡◌, ◌⊎◌, inl, inr, true, false, List, [], ◌∷◌, ◌++◌, Option, Some, None, Result, Ok, Err, refl, sym, ◌∙◌, ap, subst, arith}
use Rattle.std.specs.Prelude.{ok_or, IfSome}
use Rattle.blocks.specs.declared.refusal.Refusal.{Refusal}
use Rattle.blocks.specs.declared.refusal.Refusal.TheVariants.{LinkFull, NoMemory, NotConnected, NothingThere}
use Rattle.blocks.specs.declared.outcome.Done.{Done}
use Rattle.blocks.specs.declared.outcome.What.TheVariants as what
use Rattle.blocks.specs.declared.outcome.Reply.TheVariants as reply
use Rattle.packets.specs.declared.packet.Packet as packets
use Rattle.packets.specs.Table as table
use Rattle.std.specs.Option.{option_map}
use Rattle.endpoint.specs.Calls.{Sends, has_room, is_out_of_memory}
use Rattle.endpoint.specs.Meaning.{meaning}
use Rattle.endpoint.specs.PacketSender.{PacketSenderState}
use Rattle.endpoint.specs.PacketReceiver.{PacketReceiverState}
use Rattle.model.specs.Frames.{Packet, command_of}
use Rattle.model.specs.Refusals.{done_with}
use Rattle.model.specs.LocalRuns.{Acknowledges}
use Rattle.secondary_protocol.specs.Core.{EndState, SecondaryState, ack_out, due, owed, sent}
use Rattle.secondary_protocol.specs.Node.{NodeState, NodeSteps}
use Rattle.secondary_protocol.specs.Steps.{replied}
use Rattle.secondary_protocol.proofs.Node.Calls.{due-open, node-pushes, node-full, node-no-memory, node-not-due}
use Rattle.secondary_protocol.proofs.Node.Runs.{node-had}
use Rattle.secondary.specs.State.{SecondaryView, node, pushed_of, IsNumbered, IsNode}
use Rattle.secondary.proofs.Kept.{due-none}

-- a frame with no blocks is not refused for want of memory
pub not-out-of-memory : (p : packets.Packet) (e : Refusal) → table.has_blocks p ≡ false → ((e ≡ LinkFull → ⊥) → (e ≡ NoMemory) × (table.has_blocks p ≡ true))
    → e ≡ NoMemory → ⊥
not-out-of-memory p e inline refused out_of_memory =
    let blocks : table.has_blocks p ≡ true = (refused (λ full. cc)).1 in
    cc

-- What is owed is pushed, under its name.
pushed-is : (s t : SecondaryState) (packet : Packet) (done : Done) → due s ≡ Ok packet → (Ok done, t) ≡ ack_out true false s
    → (done ≡ done_with (what.Frame (command_of packet) None)) × (t ≡ sent s)
pushed-is s t packet done owes same =
    let is = rw (owes, ack_out) at same in
    let first : Ok done ≡ Ok (done_with (what.Frame (command_of packet) None)) = ap (λ (x : Result Done Refusal × SecondaryState). x.0) is in (
      (cc),
      ap (λ (x : Result Done Refusal × SecondaryState). x.1) is,
    )

-- It went out.
pub sent-steps : (v : SecondaryView) (t : SecondaryState) (o p : PacketSenderState) (packet : Packet) (done : Done) → IsNode v → v.outgoing ≡ Some o
    → due v.core ≡ Ok packet → (Ok done, t) ≡ ack_out true false v.core → p.pushed ≡ o.pushed ++ packet ∷ []
    → NodeSteps (Acknowledges true false) (node v) (reply.Ok done) (node (record v { core = t; outgoing = Some p }))
sent-steps v t o p packet done node_is there owes same pushed =
    let is = pushed-is v.core t packet done owes same in
    rw (is.0, is.1, pushed, ← ap pushed_of there) (node-pushes (node v) packet owes)

-- It is a node still.
pub sent-is : (v : SecondaryView) (t : SecondaryState) (o p : PacketSenderState) (packet : Packet) (done : Done) → IsNode v → v.outgoing ≡ Some o
    → due v.core ≡ Ok packet → (Ok done, t) ≡ ack_out true false v.core
    → p.pushed ≡ o.pushed ++ packet ∷ [] → p.partly ≡ None → p.number ≡ o.number → IsNode (record v { core = t; outgoing = Some p })
sent-is v t o p packet done is there owes same pushed whole number = record {
  had = node-had (Acknowledges true false) (node v) (reply.Ok done) (node (record v { core = t; outgoing = Some p })) is.had
      (sent-steps v t o p packet done is there owes same pushed);
  out_there = λ is_established. refl;
  in_there = λ is_established. is.in_there (due-open v.core packet owes);
  begun = due-none p.partly t whole;
  numbered = both v.incoming (subst (λ (x : Option PacketSenderState). IsNumbered x v.incoming v.core) there is.numbered);
}
  where
    both : (x : Option PacketReceiverState) → IsNumbered (Some o) x v.core → IsNumbered (Some p) x t
    both None was = tt
    both (Some i) was =
        let kept = ap (λ (s : SecondaryState). s.number) (pushed-is v.core t packet done owes same).1 in let out = was.0 in let inn = was.1 in (
          omega (arith, kept, number),
          omega (arith, kept),
        )

-- whether the link had no room
full-or-not : (e : Refusal) → (e ≡ LinkFull) ⊎ ((e ≡ LinkFull) → ⊥)
full-or-not LinkFull = inl refl
full-or-not e = inr (λ is. absurd (cc))

-- The link had no room for what is owed, or there was no memory.
pub not-sent-steps : (v : SecondaryView) (o p : PacketSenderState) (packet : packets.Packet) (e : Refusal) (result : Result Done Refusal) → IsNode v
    → v.outgoing ≡ Some o → due v.core ≡ Ok (meaning packet) → result ≡ Err e
    → ((e ≡ LinkFull → ⊥) → e ≡ NoMemory) → p.pushed ≡ o.pushed
    → NodeSteps (Acknowledges (has_room result) (is_out_of_memory result)) (node v) (replied (λ done. done) result) (node (record v { outgoing = Some p }))
not-sent-steps v o p packet e result node_is there is refused memory pushed =
    let all : p.pushed ≡ pushed_of v.outgoing = pushed ∙ sym (ap pushed_of there) in
    subst (λ (l : List Packet). NodeSteps (Acknowledges (has_room result) (is_out_of_memory result)) n (replied (λ done. done) result)
    (record n { pushed = l }))
    (sym all) (elim (full-or-not e) [
      | inl full ↦ subst (λ (r : Result Done Refusal). NodeSteps (Acknowledges (has_room r) (is_out_of_memory r)) n (replied (λ done. done) r) n)
          (sym (refused ∙ ap Err full)) (node-full n (meaning packet) is)
      | inr other ↦ subst (λ (r : Result Done Refusal). NodeSteps (Acknowledges (has_room r) (is_out_of_memory r)) n (replied (λ done. done) r) n)
          (sym (refused ∙ ap Err (memory other))) (node-no-memory n (meaning packet) is)
    ])
  where
    n : NodeState
    n = node v

-- Of the link nothing changed but that the packet may be there in part.
pub sends-part : (old : Option PacketSenderState) (o p : PacketSenderState) (e : Refusal) (result : Result Done Refusal) → old ≡ Some o
    → p ≡ record o { partly = p.partly } → result ≡ Err e → (e ≡ LinkFull → IfSome o.room (λ n. n ≡ 0))
    → Sends result old (Some p)
sends-part old o p e result there same refused full = subst (λ (r : Result Done Refusal). Sends r old (Some p)) (sym refused) (record {
  pushed = tt;
  kept = (p.partly, ap (λ (x : PacketSenderState). Some x) same ∙ ap (option_map (λ (x : PacketSenderState). record x { partly = p.partly })) (sym there));
  full = λ is. (o, there, full (let one : e ≡ LinkFull = cc in one));
})

-- Nothing is due.
due-refused : (s : SecondaryState) (e : Refusal) → due s ≡ Err e → (e ≡ NotConnected) ⊎ (e ≡ NothingThere)
due-refused s e is = go s.end is
  where
    owes : (x : Option Packet) → ok_or x NothingThere ≡ Err e → e ≡ NothingThere
    owes None is = cc
    owes (Some p) is = absurd (cc)

    go : (v : Option EndState) → elim v as (λ _. Result Packet Refusal) [ None ↦ Err NotConnected | Some x ↦ ok_or (owed s.settings x) NothingThere ] ≡ Err e
        → (e ≡ NotConnected) ⊎ (e ≡ NothingThere)
    go None is = inl (cc)
    go (Some x) is = inr (owes (owed s.settings x) is)

-- that is its step
pub nothing-due-steps : (n : NodeState) (e : Refusal) (result : Result Done Refusal) → due n.core ≡ Err e → result ≡ Err e
    → NodeSteps (Acknowledges (has_room result) (is_out_of_memory result)) n (replied (λ done. done) result) n
nothing-due-steps n e result is refused = elim (due-refused n.core e is) [
  | inl shut ↦ returned NotConnected shut (node-not-due n NotConnected (is ∙ ap Err shut))
  | inr none ↦ returned NothingThere none (node-not-due n NothingThere (is ∙ ap Err none))
]
  where
    returned : (x : Refusal) → e ≡ x → NodeSteps (Acknowledges (has_room {R = Done} (Err x)) (is_out_of_memory {R = Done} (Err x))) n (reply.Refused x) n
        → NodeSteps (Acknowledges (has_room result) (is_out_of_memory result)) n (replied (λ done. done) result) n
    returned x same steps = subst (λ (r : Result Done Refusal). NodeSteps (Acknowledges (has_room r) (is_out_of_memory r)) n (replied (λ done. done) r) n)
        (sym (refused ∙ ap Err same)) steps

-- and the link is left alone
pub sends-none : (s : SecondaryState) (o : Option PacketSenderState) (e : Refusal) (result : Result Done Refusal) → due s ≡ Err e → result ≡ Err e
    → Sends result o o
sends-none s o e result is refused = subst (λ (r : Result Done Refusal). Sends r o o) (sym refused) (record {
  pushed = tt;
  kept = go o;
  full = λ full. elim (due-refused s e is) [
    | inl shut ↦ let no : NotConnected ≡ LinkFull = sym shut ∙ (let one : e ≡ LinkFull = cc in one) in absurd (cc)
    | inr none ↦ let no : NothingThere ≡ LinkFull = sym none ∙ (let one : e ≡ LinkFull = cc in one) in absurd (cc)
  ];
})
  where
    go : (x : Option PacketSenderState) → (partly : Option (List Packet)) × (x ≡ option_map (λ (y : PacketSenderState). record y { partly = partly }) x)
    go None = (None, refl)
    go (Some y) = (y.partly, refl)
