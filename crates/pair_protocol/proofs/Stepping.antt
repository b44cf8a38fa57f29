-- The nodes' steps are the pair's: those of one node alone, and those that push.
use Rattle.std.proofs.Common.{ℕ, zero, suc, ◌≡◌, ◌≤◌, ◌-◌, nat_lt, Bool, true, false, List, [], ◌∷◌, ◌++◌, length, Option, Some, None, Result, Ok}
use Rattle.std.proofs.Common.{Err, refl, sym, ◌∙◌, ap, subst, arith}
use Rattle.std.specs.Prelude.{IfSome, OnOk}
use Rattle.std.proofs.lemmas.Bool.{lt-ltb}
use Rattle.std.proofs.lemmas.Bool.Decides.{nat_tests}
use Rattle.blocks.specs.declared.refusal.Refusal.{Refusal}
use Rattle.blocks.specs.declared.refusal.Refusal.TheVariants.{LinkFull}
use Rattle.blocks.specs.declared.settings.Settings.{Settings}
use Rattle.blocks.specs.declared.outcome.Done.{Done}
use Rattle.blocks.specs.declared.outcome.Reply.{Reply}
use Rattle.blocks.specs.declared.outcome.Reply.TheVariants as reply
use Rattle.model.specs.Primary.{PrimaryHistory}
use Rattle.model.specs.PrimarySteps.{send}
use Rattle.model.specs.LocalRuns.{Acknowledges}
use Rattle.model.specs.LocalRuns.{Sends as SendsOne}
use Rattle.model.specs.Secondary.{SecondaryHistory}
use Rattle.model.specs.SecondarySteps.{ack_out}
use Rattle.model.specs.Pair.{Event, SendEvent, AckOutEvent, PairHistory, on_primary, on_secondary, step, run, answers_have_room}
use Rattle.model.specs.Pair.{has_room as has_room_there}
use Rattle.model.specs.Theorems.{pair_at}
use Rattle.endpoint.specs.Calls.{PushedOne, Sends, has_room, is_out_of_memory}
use Rattle.endpoint.specs.PacketReceiver.{PacketReceiverState}
use Rattle.endpoint.specs.PacketSender.{PacketSenderState}
use Rattle.primary_protocol.specs.Node as primary
use Rattle.primary_protocol.specs.Steps as from_primary
use Rattle.secondary_protocol.specs.Steps as from_secondary
use Rattle.pair_protocol.proofs.Rooms.{room-is, room-back-is}
use Rattle.secondary_protocol.specs.Node as secondary
use Rattle.pair_protocol.specs.State.{Direction, AreEnds, IsDirection, IsRun, PairHas, PairState, IsPairStep, primary_of, secondary_of}
use Rattle.laws.proofs.Rules.Memory.{send-same-room, answer-same-room}

-- Runs.

run-more : (events : List (Event × Bool)) (event : Event) (out_of_memory : Bool) (h : PairHistory)
    → (run (events ++ (event, out_of_memory) ∷ []) h).1 ≡ (step event out_of_memory (run events h).1).1
run-more [] event out_of_memory h = refl
run-more (first ∷ events) event out_of_memory h = run-more events event out_of_memory (step first.0 first.1 h).1

pub is-run-more : (event : Event) (out_of_memory : Bool) (h : PairHistory) → IsRun h → IsRun (step event out_of_memory h).1
is-run-more event out_of_memory h is = record {
  opening = is.opening;
  events = is.events ++ (event, out_of_memory) ∷ [];
  shares = is.shares;
  ranges = is.ranges;
  local = is.local;
  peer = is.peer;
  is = run-more is.events event out_of_memory (pair_at is.opening) ∙ ap (λ (g : PairHistory). (step event out_of_memory g).1) is.is;
}

-- it began where the run did
pub same-opening : (event : Event) (out_of_memory : Bool) (h : PairHistory) (is : IsRun h) → (is-run-more event out_of_memory h is).opening ≡ is.opening
unfolding is-run-more
same-opening event out_of_memory h is = refl

-- A step of one node.

-- on whichever history the pair has, the event is this step of the primary
pub on-primary : (event : Event) (out_of_memory : Bool) (p q : PairState) (said : Reply) (f : PrimaryHistory → Reply × PrimaryHistory)
    → ((h : PairHistory) → PairHas p h → step event out_of_memory h ≡ on_primary f h)
    → primary.IsStep f (primary_of p) said (primary_of q) → secondary_of p ≡ secondary_of q → IsPairStep event out_of_memory p said q
on-primary event out_of_memory p q said f does steps same = record {
  replies = λ h has. steps.replies h.primary has.primary ∙ sym (ap (λ (r : Reply × PairHistory). r.0) (does h has));
  after = λ h has. record {
    primary = subst (λ (r : Reply × PairHistory). primary.NodeHas (primary_of q) r.1.primary) (sym (does h has)) (steps.after h.primary has.primary);
    secondary = subst (λ (r : Reply × PairHistory). secondary.NodeHas (secondary_of q) r.1.secondary) (sym (does h has))
        (subst (λ (n : secondary.NodeState). secondary.NodeHas n h.secondary) same has.secondary);
    run = is-run-more event out_of_memory h has.run;
  };
}

-- the same of the secondary
pub on-secondary : (event : Event) (out_of_memory : Bool) (p q : PairState) (said : Reply) (f : SecondaryHistory → Reply × SecondaryHistory)
    → ((h : PairHistory) → PairHas p h → step event out_of_memory h ≡ on_secondary f h)
    → secondary.IsStep f (secondary_of p) said (secondary_of q) → primary_of p ≡ primary_of q → IsPairStep event out_of_memory p said q
on-secondary event out_of_memory p q said f does steps same = record {
  replies = λ h has. steps.replies h.secondary has.secondary ∙ sym (ap (λ (r : Reply × PairHistory). r.0) (does h has));
  after = λ h has. record {
    primary = subst (λ (r : Reply × PairHistory). primary.NodeHas (primary_of q) r.1.primary) (sym (does h has))
        (subst (λ (n : primary.NodeState). primary.NodeHas n h.primary) same has.primary);
    secondary = subst (λ (r : Reply × PairHistory). secondary.NodeHas (secondary_of q) r.1.secondary) (sym (does h has))
        (steps.after h.secondary has.secondary);
    run = is-run-more event out_of_memory h has.run;
  };
}

-- Pushing: what the link answered is whether it had room.

-- a direction that was pushed to had room, and one that was full had none
room-says : (capacity : ℕ) (d : Direction) (result : Result Done Refusal) (later : Option PacketSenderState) (other : Bool) → IsDirection capacity d
    → Sends result d.out later
    → ((out : PacketSenderState) (inn : PacketReceiverState) → d.out ≡ Some out → d.inn ≡ Some inn → (ends : AreEnds capacity out inn)
    → other ≡ nat_lt (length ends.waiting) capacity)
    → ((x : Done) → result ≡ Ok x → true ≡ other) × (result ≡ Err LinkFull → false ≡ other)
room-says capacity d result later other is sends counted = (
  λ x ok. go-ok d.out refl is (subst (λ (r : Result Done Refusal). OnOk r (PushedOne d.out later)) ok sends.pushed),
  λ full. go-full d.out refl is (sends.full full),
)
  where
    go-ok : (v : Option PacketSenderState) → d.out ≡ v
        → elim v as (λ _. Type 0) [ None ↦ d.inn ≡ None | Some o ↦ (inn : PacketReceiverState) × (d.inn ≡ Some inn) × AreEnds capacity o inn ]
        → PushedOne d.out later
        → true ≡ other
    go-ok None none is p = absurd (let no : None ≡ Some p.before = sym none ∙ p.there in cc)
    go-ok (Some o) there is p =
        let was : o ≡ p.before = (let same : Some o ≡ Some p.before = sym there ∙ p.there in cc) in
        let room : IfSome o.room (λ n. n ≡ 0 → ⊥) = subst (λ (x : PacketSenderState). IfSome x.room (λ n. n ≡ 0 → ⊥)) (sym was) p.room in
        let free : capacity - length is.2.waiting ≡ 0 → ⊥ = subst (λ (v : Option ℕ). IfSome v (λ n. n ≡ 0 → ⊥)) is.2.room room in
        sym (counted o is.0 there is.1 is.2 ∙ less (capacity - length is.2.waiting) refl free)
      where
        less : (n : ℕ) → n ≡ capacity - length is.2.waiting → (capacity - length is.2.waiting ≡ 0 → ⊥) → nat_lt (length is.2.waiting) capacity ≡ true
        less zero same free = absurd (free (sym same))
        less (suc n) same free = lt-ltb (length is.2.waiting) capacity (omega (arith, same))

    go-full : (v : Option PacketSenderState) → d.out ≡ v
        → elim v as (λ _. Type 0) [ None ↦ d.inn ≡ None | Some o ↦ (inn : PacketReceiverState) × (d.inn ≡ Some inn) × AreEnds capacity o inn ]
        → (before : PacketSenderState) × (d.out ≡ Some before) × IfSome before.room (λ n. n ≡ 0) → false ≡ other
    go-full None none is f = absurd (let no : None ≡ Some f.0 = sym none ∙ f.1 in cc)
    go-full (Some o) there is f =
        let was : o ≡ f.0 = (let same : Some o ≡ Some f.0 = sym there ∙ f.1 in cc) in
        let room : IfSome o.room (λ n. n ≡ 0) = subst (λ (x : PacketSenderState). IfSome x.room (λ n. n ≡ 0)) (sym was) f.2 in
        let full : capacity - length is.2.waiting ≡ 0 = subst (λ (v : Option ℕ). IfSome v (λ n. n ≡ 0)) is.2.room room in
        sym (counted o is.0 there is.1 is.2 ∙ (let no : capacity ≤ length is.2.waiting = omega (arith, full) in grind (arith, nat_tests)))

-- what a reply says of the link is what the result says
ok-room : (as_reply : Result Done Refusal → Reply) → ((e : Refusal) → as_reply (Err e) ≡ reply.Refused e) → (other : Bool) (r : Result Done Refusal)
    → ((x : Done) → r ≡ Ok x → true ≡ other) → (x : Done) → as_reply r ≡ reply.Ok x → has_room r ≡ other
ok-room as_reply refuses other (Ok d) says x ok = says d refl
ok-room as_reply refuses other (Err e) says x ok = absurd (let no : reply.Refused e ≡ reply.Ok x = sym (refuses e) ∙ ok in cc)

full-room : (as_reply : Result Done Refusal → Reply) → ((e : Refusal) → as_reply (Err e) ≡ reply.Refused e)
    → ((d : Done) → (x : Done) × (as_reply (Ok d) ≡ reply.Ok x))
    → (other : Bool) (r : Result Done Refusal) → (r ≡ Err LinkFull → false ≡ other)
    → as_reply r ≡ reply.Refused LinkFull → has_room r ≡ other
full-room as_reply refuses tells other (Ok d) says full = absurd (let no : reply.Ok (tells d).0 ≡ reply.Refused LinkFull = sym (tells d).1 ∙ full in cc)
full-room as_reply refuses tells other (Err e) says full =
    let refused : reply.Refused e ≡ reply.Refused LinkFull = sym (refuses e) ∙ full in
    let e_is : e ≡ LinkFull = cc in
    subst (λ (x : Refusal). has_room {R = Done} (Err x) ≡ other) (sym e_is) (says (ap Err e_is))

-- The primary sends.
pub sends-step : (p q : PairState) (result : Result Done Refusal) → IsDirection p.primary.settings.link p.there → Sends result p.there.out q.there.out
    → primary.NodeSteps (SendsOne (has_room result) (is_out_of_memory result)) (primary_of p) (from_primary.replied reply.Ok result) (primary_of q)
    → secondary_of p ≡ secondary_of q
    → IsPairStep SendEvent (is_out_of_memory result) p (from_primary.replied reply.Ok result) q
sends-step p q result is sends steps same =
    on-primary SendEvent (is_out_of_memory result) p q (from_primary.replied reply.Ok result) (send (has_room result) (is_out_of_memory result))
    (λ h has. ap (λ (r : Reply × PrimaryHistory). (r.0, record h { primary = r.1 })) (sym (does h has))) steps same
  where
    does : (h : PairHistory) → PairHas p h
        → send (has_room result) (is_out_of_memory result) h.primary ≡ send (has_room_there h) (is_out_of_memory result) h.primary
    does h has =
        let says = room-says p.primary.settings.link p.there result q.there.out (has_room_there h) is sends
        (λ out inn there here ends. room-is p h p.primary.settings.link out inn has ends
        (ap (λ (x : Settings). x.link) (sym has.primary.leaves.core.rest.settings)) there here) in
        send-same-room h.primary (is_out_of_memory result) (has_room result) (has_room_there h) (from_primary.replied reply.Ok result)
        (steps.replies h.primary has.primary)
        (ok-room (from_primary.replied reply.Ok) (λ e. refl) (has_room_there h) result says.0)
        (full-room (from_primary.replied reply.Ok) (λ e. refl) (λ d. (d, refl)) (has_room_there h) result says.1)

-- The secondary sends what it owes.
pub answers-step : (p q : PairState) (result : Result Done Refusal) → IsDirection p.secondary.settings.link p.back → Sends result p.back.out q.back.out
    → secondary.NodeSteps (Acknowledges (has_room result) (is_out_of_memory result)) (secondary_of p) (from_secondary.replied (λ done. done) result)
    (secondary_of q)
    → primary_of p ≡ primary_of q
    → IsPairStep AckOutEvent (is_out_of_memory result) p (from_secondary.replied (λ done. done) result) q
answers-step p q result is sends steps same =
    on-secondary AckOutEvent (is_out_of_memory result) p q (from_secondary.replied (λ done. done) result) (ack_out (has_room result) (is_out_of_memory result))
    (λ h has. ap (λ (r : Reply × SecondaryHistory). (r.0, record h { secondary = r.1 })) (sym (does h has))) steps same
  where
    does : (h : PairHistory) → PairHas p h
        → ack_out (has_room result) (is_out_of_memory result) h.secondary ≡ ack_out (answers_have_room h) (is_out_of_memory result) h.secondary
    does h has =
        let says = room-says p.secondary.settings.link p.back result q.back.out (answers_have_room h) is sends
        (λ out inn there here ends. room-back-is p h p.secondary.settings.link out inn has ends
        (ap (λ (x : Settings). x.link) (sym has.secondary.leaves.core.settings)) there here) in
        answer-same-room h.secondary (is_out_of_memory result) (has_room result) (answers_have_room h) (from_secondary.replied (λ done. done) result)
        (steps.replies h.secondary has.secondary)
        (ok-room (from_secondary.replied (λ done. done)) (λ e. refl) (answers_have_room h) result says.0)
        (full-room (from_secondary.replied (λ done. done)) (λ e. refl) (λ d. (d, refl)) (answers_have_room h) result says.1)
