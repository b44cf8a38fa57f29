-- A node that opens, over new ends of a link or over those that it has.
use Rattle.std.proofs.Common.{ℕ, suc, ◌+◌, ◌-◌, ◌≡◌, ◌<◌, ◌≤◌, List, [], Option, Some, None, Result, Ok, Err, refl, sym, ◌∙◌, ap, subst, arith}
use Rattle.blocks.specs.declared.refusal.Refusal.{Refusal}
use Rattle.model.specs.Frames.{Packet, Received}
use Rattle.model.specs.Refusals.{Test, first_refusal}
use Rattle.model.specs.LocalRuns.{OpensToo}
use Rattle.endpoint.specs.PacketSender.{PacketSenderState}
use Rattle.endpoint.specs.PacketReceiver.{PacketReceiverState}
use Rattle.secondary_protocol.specs.Core.{SecondaryState, open_end, opened, open_tests, tested}
use Rattle.secondary_protocol.specs.Node.{NodeSteps}
use Rattle.secondary_protocol.specs.Steps.{plainly, replied}
use Rattle.secondary_protocol.proofs.Node.Calls.{node-opened, node-not-opened}
use Rattle.secondary_protocol.proofs.Node.Runs.{node-had}
use Rattle.secondary.specs.State.{SecondaryView, node, IsNode}
use Rattle.secondary.proofs.Kept.{due-none}

-- what is refused stays
stays : (s t : SecondaryState) (tests : List Test) (done : SecondaryState) (e : Refusal) → (Err e, t) ≡ tested {R = Unit {0}} s tests (λ _. (Ok tt, done))
    → t ≡ s
stays s t tests done e is = go (first_refusal tests) is
  where
    go : (v : Option Refusal) → (Err e, t) ≡ elim v as (λ _. Result (Unit {0}) Refusal × SecondaryState)
        [ Some refusal ↦ (Err refusal, s) | None ↦ (Ok tt, done) ] → t ≡ s
    go (Some refusal) is = ap (λ (p : Result (Unit {0}) Refusal × SecondaryState). p.1) is
    go None is = let one : Err e ≡ Ok tt = ap (λ (p : Result (Unit {0}) Refusal × SecondaryState). p.0) is in absurd (cc)

-- what is done has the number
numbers : (s t : SecondaryState) (number : ℕ) (tests : List Test) (done : SecondaryState) → done.number ≡ number
    → (Ok tt, t) ≡ tested {R = Unit {0}} s tests (λ _. (Ok tt, done)) → t.number ≡ number
numbers s t number tests done has is = go (first_refusal tests) is
  where
    go : (v : Option Refusal) → (Ok tt, t) ≡ elim v as (λ _. Result (Unit {0}) Refusal × SecondaryState)
        [ Some refusal ↦ (Err refusal, s) | None ↦ (Ok tt, done) ] → t.number ≡ number
    go (Some refusal) is = let one : Ok tt ≡ Err refusal = ap (λ (p : Result (Unit {0}) Refusal × SecondaryState). p.0) is in absurd (cc)
    go None is = ap (λ (p : Result (Unit {0}) Refusal × SecondaryState). p.1.number) is ∙ has

-- A refused opening leaves the core.
pub not-opened-same : (s t : SecondaryState) (number : ℕ) (result : Result (Unit {0}) Refusal) (e : Refusal) → result ≡ Err e → (result, t) ≡ open_end number s
    → t ≡ s
not-opened-same s t number result e refused is = stays s t (open_tests s) (opened number s) e
    (subst (λ (r : Result (Unit {0}) Refusal). (r, t) ≡ open_end number s) refused is)

-- It is a node still.
pub not-opened-is : (v : SecondaryView) (t : SecondaryState) (number : ℕ) (result : Result (Unit {0}) Refusal) (e : Refusal) → IsNode v → result ≡ Err e
    → (result, t) ≡ open_end number v.core → IsNode (record v { core = t })
not-opened-is v t number result e is refused opens = subst (λ (x : SecondaryState). IsNode (record v { core = x }))
    (sym (not-opened-same v.core t number result e refused opens)) is

-- It is the step of the history, which refuses too.
pub not-opened-steps : (unseen : ℕ) (v : SecondaryView) (t : SecondaryState) (number : ℕ) (result said : Result (Unit {0}) Refusal) (e : Refusal) → IsNode v
    → number ≡ suc (v.core.number + unseen)
    → result ≡ Err e → said ≡ Err e → (result, t) ≡ open_end number v.core
    → NodeSteps (OpensToo unseen) (node v) (replied plainly said) (node (record v { core = t }))
not-opened-steps unseen v t number result said e node_is next refused returned is =
    let same : (Err e, t) ≡ open_end number v.core = subst (λ (r : Result (Unit {0}) Refusal). (r, t) ≡ open_end number v.core) refused is in
    let here : (Err e, t) ≡ open_end (suc (v.core.number + unseen)) v.core = subst (λ (n : ℕ). (Err e, t) ≡ open_end n v.core) next same in
    subst (λ (x : SecondaryState). NodeSteps (OpensToo unseen) (node v) (replied plainly said) (node (record v { core = x })))
    (sym (stays v.core t (open_tests v.core) (opened number v.core) e same))
    (subst (λ (r : Result (Unit {0}) Refusal). NodeSteps (OpensToo unseen) (node v) (replied plainly r) (node v)) (sym returned)
    (node-not-opened unseen (node v) e t here))

-- An opening that is done, over sides through which nothing has gone on this connection.
pub opened-steps : (unseen : ℕ) (v : SecondaryView) (t : SecondaryState) (out : PacketSenderState) (inn : PacketReceiverState) (number : ℕ)
    (result : Result (Unit {0}) Refusal) → IsNode v → number ≡ suc (v.core.number + unseen)
    → result ≡ Ok tt → (result, t) ≡ open_end number v.core → out.pushed ≡ [] → inn.taken ≡ []
    → NodeSteps (OpensToo unseen) (node v) (replied plainly (Ok tt)) (node (record v { core = t; outgoing = Some out; incoming = Some inn }))
opened-steps unseen v t out inn number result node_is next accepted is none_out none_in =
    let same : (Ok tt, t) ≡ open_end (suc (v.core.number + unseen)) v.core = subst (λ (n : ℕ). (Ok tt, t) ≡ open_end n v.core) next
    (subst (λ (r : Result (Unit {0}) Refusal). (r, t) ≡ open_end number v.core) accepted is) in
    subst (λ (l : List Packet). NodeSteps (OpensToo unseen) (node v) (replied plainly (Ok tt))
    (record { core = t; disk = v.disk; pushed = l; taken = inn.taken })) (sym none_out)
    (subst (λ (l : List Received). NodeSteps (OpensToo unseen) (node v) (replied plainly (Ok tt)) (record { core = t; disk = v.disk; pushed = []; taken = l }))
    (sym none_in) (node-opened unseen (node v) t same))

-- It is a node then.
pub opened-is : (unseen : ℕ) (v : SecondaryView) (t : SecondaryState) (out : PacketSenderState) (inn : PacketReceiverState) (number : ℕ)
    (result : Result (Unit {0}) Refusal) → IsNode v → number ≡ suc (v.core.number + unseen)
    → result ≡ Ok tt → (result, t) ≡ open_end number v.core → out.pushed ≡ [] → out.partly ≡ None → inn.taken ≡ [] → out.number ≤ number → inn.number ≤ number
    → IsNode (record v { core = t; outgoing = Some out; incoming = Some inn })
opened-is unseen v t out inn number result is next accepted opens none_out whole none_in out_under in_under =
    let has : t.number ≡ number = numbers v.core t number (open_tests v.core) (opened number v.core) refl
    (subst (λ (r : Result (Unit {0}) Refusal). (r, t) ≡ open_end number v.core) accepted opens) in record {
      had = node-had (OpensToo unseen) (node v) (replied plainly (Ok tt)) (node (record v { core = t; outgoing = Some out; incoming = Some inn })) is.had
          (opened-steps unseen v t out inn number result is next accepted opens none_out none_in);
      out_there = λ is_established. refl;
      in_there = λ is_established. refl;
      begun = due-none out.partly t whole;
      numbered = (omega arith, omega arith);
    }

-- The number of a connection is the last one's, those that were never seen, and one.
pub after-unseen : (last number : ℕ) → last < number → number ≡ suc (last + (number - (last + 1)))
after-unseen last number above = omega arith
