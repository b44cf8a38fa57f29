-- A connection begins at a node, or a write is accepted there.
use Rattle.std.proofs.Common.{ℕ, suc, ◌≡◌, ◌+◌, ◌≤◌, Bool, true, false, List, [], Option, Some, None, Result, Ok, Err, refl, sym, ◌∙◌, ap, subst, arith}
use Rattle.std.specs.Option.{option_map}
use Rattle.std.proofs.lemmas.Bool.{both_ways}
use Rattle.blocks.specs.declared.refusal.Refusal.{Refusal}
use Rattle.blocks.specs.declared.outcome.Done.{Done}
use Rattle.blocks.specs.declared.outcome.What.TheVariants as what
use Rattle.blocks.specs.declared.outcome.Reply.{Reply}
use Rattle.blocks.specs.declared.outcome.Reply.TheVariants as reply
use Rattle.model.specs.LocalRuns.{Opens, Submits}
use Rattle.link.specs.Ends.{InEnd, OutEnd}
use Rattle.model.specs.Frames.{Packet}
use Rattle.endpoint.specs.Calls.{IsNewIn, IsNewOut, is_out_of_memory}
use Rattle.endpoint.specs.Meaning.{meant, meant_in}
use Rattle.endpoint.specs.PacketSender.{PacketSenderState, outgoing, pushing_anew}
use Rattle.endpoint.specs.PacketReceiver.{PacketReceiverState, incoming, received_from, taking_anew}
use Rattle.primary_core.specs.OutOfMemory as inner
use Rattle.primary_protocol.specs.Core.{PrimaryState, is_established}
use Rattle.primary_protocol.specs.Transitions.{open_end, submit, whole_blocks}
use Rattle.primary_protocol.specs.Node.{NodeState, NodeSteps}
use Rattle.primary_protocol.specs.Steps.{replied, plainly}
use Rattle.primary_protocol.proofs.Node.Calls.{node-opened, node-not-opened, opened-core, not-opened-core, shut-established, node-submits, submit-number}
use Rattle.primary_protocol.proofs.Node.Runs.{node-had}
use Rattle.primary.specs.State.{PrimaryView, IsNode, IsDue, node}
use Rattle.primary_protocol.proofs.Node.Keeps.{submits-keeps}
use Rattle.primary.proofs.Kept.{plain-is}
use Rattle.primary.proofs.Refused.{same-out-of-memory}

-- Submitting.

-- a write that is refused
pub submit-refused : (v : PrimaryView) → IsNode v
    → (core : PrimaryState) (first : ℕ) (bytes : List ℕ) (result : Result Done Refusal) (said : Result (ℕ × Done) Refusal) (e : Refusal) → result ≡ Err e
    → said ≡ Err e
    → (result, core) ≡ submit first bytes (inner.is_out_of_memory result) v.core
    → NodeSteps (Submits first (whole_blocks bytes) (is_out_of_memory said)) (node v) (replied (λ returned. reply.Ok returned.1) said)
    (node (record v { core = core }))
submit-refused v before core first bytes result said e was returned is =
    let here : (Err e, core) ≡ submit first bytes (inner.is_out_of_memory {R = Done} (Err e)) v.core =
    subst (λ (r : Result Done Refusal). (r, core) ≡ submit first bytes (inner.is_out_of_memory r) v.core) was is in
    let next : NodeState = node (record v { core = core }) in
    subst (λ (r : Result (ℕ × Done) Refusal). NodeSteps (Submits first (whole_blocks bytes) (is_out_of_memory r)) (node v)
    (replied (λ returned. reply.Ok returned.1) r)
    next)
    (sym returned)
    (subst (λ (b : Bool). NodeSteps (Submits first (whole_blocks bytes) b) (node v) (reply.Refused e) next) (same-out-of-memory Done (ℕ × Done) e)
    (node-submits (node v) first bytes (inner.is_out_of_memory {R = Done} (Err e)) (Err e) core here))

-- a write that is accepted
pub submit-steps : (v : PrimaryView) → IsNode v → (core : PrimaryState) (first : ℕ) (bytes : List ℕ) (result : Result Done Refusal) (done : Done)
    → result ≡ Ok done → (result, core) ≡ submit first bytes (inner.is_out_of_memory result) v.core
    → NodeSteps (Submits first (whole_blocks bytes) false) (node v) (reply.Ok done) (node (record v { core = core }))
submit-steps v before core first bytes result done was is =
    node-submits (node v) first bytes false (Ok done) core
    (subst (λ (r : Result Done Refusal). (r, core) ≡ submit first bytes (inner.is_out_of_memory r) v.core) was is)

-- a node it stays
pub submit-is : (v : PrimaryView) (core : PrimaryState) (first : ℕ) (bytes : List ℕ) (out_of_memory : Bool) (result : Result Done Refusal)
    → (result, core) ≡ submit first bytes out_of_memory v.core → IsNode v → IsNode (record v { core = core })
submit-is v core first bytes out_of_memory result is before =
    plain-is (Submits first (whole_blocks bytes) out_of_memory) v core (replied reply.Ok result) (submits-keeps first (whole_blocks bytes) out_of_memory) before
    (node-submits (node v) first bytes out_of_memory result core is)

-- its number is that of all that were accepted
pub submit-named : (v : PrimaryView) (core : PrimaryState) (first : ℕ) (bytes : List ℕ) (result : Result Done Refusal) (done : Done) → IsNode v
    → result ≡ Ok done → (result, core) ≡ submit first bytes (inner.is_out_of_memory result) v.core
    → done.what ≡ what.Write core.log.accepted
submit-named v core first bytes result done before was is = submit-number (node v) first (whole_blocks bytes) false done core before.had
    (submit-steps v before core first bytes result done was is)

-- Opening.

-- what is refused leaves the core
pub open-same : (s core : PrimaryState) (sync loss : ℕ) (result : Result (Unit {0}) Refusal) (e : Refusal) → result ≡ Err e
    → (result, core) ≡ open_end sync loss (inner.is_out_of_memory result) s → core ≡ s
open-same s core sync loss result e was is =
    not-opened-core sync loss (inner.is_out_of_memory {R = Unit {0}} (Err e)) s core e
    (subst (λ (r : Result (Unit {0}) Refusal). (r, core) ≡ open_end sync loss (inner.is_out_of_memory r) s) was is)

-- and the node
pub open-unchanged : (v : PrimaryView) (core : PrimaryState) (sync loss : ℕ) (result : Result (Unit {0}) Refusal) (e : Refusal) → result ≡ Err e
    → (result, core) ≡ open_end sync loss (inner.is_out_of_memory result) v.core → record v { core = core } ≡ v
open-unchanged v core sync loss result e was is = λ i. record v { core = open-same v.core core sync loss result e was is i }

-- which is a node still
pub open-refused-is : (v : PrimaryView) (core : PrimaryState) (sync loss : ℕ) (result : Result (Unit {0}) Refusal) (e : Refusal) → result ≡ Err e
    → (result, core) ≡ open_end sync loss (inner.is_out_of_memory result) v.core → IsNode v → IsNode (record v { core = core })
open-refused-is v core sync loss result e was is before = subst (λ (x : PrimaryState). IsNode (record v { core = x }))
    (sym (open-same v.core core sync loss result e was is)) before

-- an opening that is refused
pub open-refused : {R : Type 0} (as_reply : R → Reply) (v : PrimaryView) → IsNode v
    → (core : PrimaryState) (sync loss : ℕ) (result : Result (Unit {0}) Refusal) (said : Result R Refusal) (e : Refusal) → result ≡ Err e → said ≡ Err e
    → (result, core) ≡ open_end sync loss (inner.is_out_of_memory result) v.core
    → NodeSteps (Opens sync loss (is_out_of_memory said)) (node v) (replied as_reply said) (node (record v { core = core }))
open-refused {R} as_reply v before core sync loss result said e was returned is =
    let here : (Err e, core) ≡ open_end sync loss (inner.is_out_of_memory {R = Unit {0}} (Err e)) v.core =
    subst (λ (r : Result (Unit {0}) Refusal). (r, core) ≡ open_end sync loss (inner.is_out_of_memory r) v.core) was is in
    subst (λ (x : PrimaryState). NodeSteps (Opens sync loss (is_out_of_memory said)) (node v) (replied as_reply said) (node (record v { core = x })))
    (sym (open-same v.core core sync loss result e was is))
    (subst (λ (r : Result R Refusal). NodeSteps (Opens sync loss (is_out_of_memory r)) (node v) (replied as_reply r) (node v)) (sym returned)
    (subst (λ (b : Bool). NodeSteps (Opens sync loss b) (node v) (reply.Refused e) (node v)) (same-out-of-memory (Unit {0}) R e)
    (node-not-opened (node v) sync loss (inner.is_out_of_memory {R = Unit {0}} (Err e)) e core here)))

-- both sides of a link through which nothing has gone on this connection
record IsFresh (core : PrimaryState) (out : PacketSenderState) (inn : PacketReceiverState) : Type 0 where
  pushed : out.pushed ≡ []
  whole : out.partly ≡ None
  taken : inn.taken ≡ []
  out_number : out.number ≤ core.connections
  in_number : inn.number ≤ core.connections

-- The end opens over these sides, and it is a node with them.
pub record OpensOver (sync loss : ℕ) (v : PrimaryView) (core : PrimaryState) (out : PacketSenderState) (inn : PacketReceiverState) : Type 0 where
  pub steps : NodeSteps (Opens sync loss false) (node v) (plainly tt) (node (record v { core = core; outgoing = Some out; incoming = Some inn }))
  pub is : IsNode (record v { core = core; outgoing = Some out; incoming = Some inn })

module _ (v : PrimaryView) (before : IsNode v) (core : PrimaryState) (sync loss : ℕ) (result : Result (Unit {0}) Refusal) (out : PacketSenderState)
    (inn : PacketReceiverState) (was : result ≡ Ok tt) (is : (result, core) ≡ open_end sync loss (inner.is_out_of_memory result) v.core) where
  here : (Ok tt, core) ≡ open_end sync loss false v.core
  here = subst (λ (r : Result (Unit {0}) Refusal). (r, core) ≡ open_end sync loss (inner.is_out_of_memory r) v.core) was is

  opens-over : IsFresh core out inn → OpensOver sync loss v core out inn
  opens-over fresh =
      let steps : NodeSteps (Opens sync loss false) (node v) (plainly tt) (node (record v { core = core; outgoing = Some out; incoming = Some inn })) =
      subst (NodeSteps (Opens sync loss false) (node v) (plainly tt))
      (λ i. record { core = core; disk = v.disk; pushed = sym fresh.pushed i; taken = sym fresh.taken i; faithful = v.faithful }) (node-opened (node v) sync loss core here) in
      record {
        steps = steps;
        is = record {
          had = node-had (Opens sync loss false) (node v) (plainly tt) (node (record v { core = core; outgoing = Some out; incoming = Some inn }))
              before.had steps;
          out_there = λ some. refl;
          in_there = λ some. refl;
          begun = subst (λ (x : Option (List Packet)). IsDue x core) (sym fresh.whole) tt;
          numbered = (fresh.out_number, fresh.in_number);
          ready = λ standing. absurd (both_ways (is_established core) (ap is_established (opened-core sync loss v.core core here).1
              ∙ shut-established (node v) before.had (opened-core sync loss v.core core here).0) standing);
        };
      }

  -- new sides
  pub opens-new : (s : OutEnd) (t : InEnd) → IsNewOut s → IsNewIn t → out ≡ outgoing s → inn ≡ incoming t → OpensOver sync loss v core out inn
  opens-new s t new_out new_in out_is in_is =
      let more : core.connections ≡ suc v.core.connections = ap (λ (x : PrimaryState). x.connections) (opened-core sync loss v.core core here).1 in
      let first : out.number ≡ 1 = ap (λ (o : PacketSenderState). o.number) out_is ∙ new_out.number in
      let first_too : inn.number ≡ 1 = ap (λ (i : PacketReceiverState). i.number) in_is ∙ new_in.number in
      opens-over (record {
        pushed = ap (λ (o : PacketSenderState). o.pushed) out_is ∙ ap meant_in new_out.sent;
        whole = ap (λ (o : PacketSenderState). o.partly) out_is ∙ ap (option_map meant) new_out.whole;
        taken = ap (λ (i : PacketReceiverState). i.taken) in_is ∙ ap (received_from 0) new_in.taken;
        out_number = omega arith;
        in_number = omega arith;
      })

  -- those of the connections before, begun anew
  pub opens-anew : (number : ℕ) (o : PacketSenderState) (i : PacketReceiverState) → number ≡ core.connections
      → out ≡ record (pushing_anew number o) { room = out.room; waiting = out.waiting }
      → inn ≡ record (taking_anew number i) { queued = inn.queued; capacity = inn.capacity } → OpensOver sync loss v core out inn
  opens-anew number o i counted out_is in_is =
      let same : out.number ≡ number = ap (λ (x : PacketSenderState). x.number) out_is in
      let same_too : inn.number ≡ number = ap (λ (x : PacketReceiverState). x.number) in_is in
      opens-over (record {
        pushed = ap (λ (x : PacketSenderState). x.pushed) out_is;
        whole = ap (λ (x : PacketSenderState). x.partly) out_is;
        taken = ap (λ (x : PacketReceiverState). x.taken) in_is;
        out_number = omega arith;
        in_number = omega arith;
      })
