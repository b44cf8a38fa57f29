-- A node's calls that leave the disk are steps: opening, closing, taking a frame, and pushing one.
use Rattle.std.proofs.Common.{ℕ, zero, suc, ◌+◌, ◌≡◌, true, false, List, [], ◌∷◌, ◌++◌, length, take, Option, Some, None, Result, Ok, Err, slice_get}
use Rattle.std.proofs.Common.{refl, sym, ◌∙◌, ap, subst, arith, nat_le}
use Rattle.std.specs.Prelude.{is_none, is_some, ok_or}
use Rattle.blocks.specs.SettingsRange.{IsInRange}
use Rattle.blocks.specs.declared.tuple.Tuple.{Tuple}
use Rattle.blocks.specs.declared.settings.Settings.{Settings}
use Rattle.blocks.specs.declared.refusal.Refusal.{Refusal}
use Rattle.blocks.specs.declared.refusal.Refusal.TheVariants.{NotConnected, PendingFull, NoMemory, NothingThere, LinkFull}
use Rattle.blocks.specs.declared.outcome.Done.{Done}
use Rattle.blocks.specs.declared.outcome.What.TheVariants as what
use Rattle.blocks.specs.declared.outcome.Reply.{Reply}
use Rattle.blocks.specs.declared.outcome.Reply.TheVariants as reply
use Rattle.model.specs.Contents.{IsDisk}
use Rattle.model.specs.Frames.{Packet, Received, command_of}
use Rattle.model.specs.Refusals.{first_refusal, done_with}
use Rattle.model.specs.Secondary.{SecondaryConnection, SecondaryHistory, secondary_connection, no_secondary_connection, with_secondary_connection, items_taken}
use Rattle.model.specs.Secondary.{pending, answers_due, map_of, secondary_map}
use Rattle.model.specs.Secondary.{secondary_opening, new_secondary_connection}
use Rattle.model.specs.SecondarySteps as step
use Rattle.model.specs.LocalRuns.{OpensToo, Receives, Acknowledges, ClosesToo}
use Rattle.laws.proofs.Lists.Elements.{append-one}
use Rattle.laws.proofs.Lists.Last.{last-more}
use Rattle.laws.proofs.Secondary.Moves.{pushed_one, closed_end}
use Rattle.secondary_protocol.specs.Core.{EndState, SecondaryState, fresh, open_end, close_end, receive, receive_tests, take_at, take_tests, may_take}
use Rattle.secondary_protocol.specs.Core.{ack_out, due, sent, tested, owed}
use Rattle.std.proofs.Common.{drop}
use Rattle.secondary_protocol.specs.Leaves.{Leaves, LeavesEnd, EndLeft, pending_in}
use Rattle.secondary_protocol.specs.Steps.{Agrees, replied, plainly}
use Rattle.secondary_protocol.specs.Node.{NodeState, NodeHas, NodeIsHad, NodeSteps}
use Rattle.secondary_protocol.proofs.Node.Due.{still-due}
use Rattle.secondary_protocol.proofs.Node.Grows.{Took, takes, pushed-stays}
use Rattle.secondary_protocol.proofs.Node.Runs.{node-steps, node-refused, opens-to, pushes-to, closes-to}
use Rattle.secondary_protocol.proofs.Steps.Opens.{fresh-is, opens-agree, closes-agree}
use Rattle.secondary_protocol.proofs.Steps.Pushes.{pushes-agree, due-same}
use Rattle.secondary_protocol.proofs.Steps.Receives.{receives-agree}
use Rattle.secondary_protocol.proofs.Tested.{end-closed, end-there, secondary-connection-with, open-some, length-map, passed}
use Rattle.laws.proofs.Rules.Memory.{refused-on}

-- A new node has the opening over what its disk holds.
pub opening-has : (settings : Settings) (disk : List (List ℕ)) (tuple : Tuple) → IsInRange settings → IsDisk settings.blocks (slice_get disk)
    → NodeHas (record { core = fresh settings tuple; disk = disk; pushed = []; taken = [] }) (secondary_opening settings (slice_get disk) tuple)
opening-has settings disk tuple in_range sized = record {
  leaves = record { core = fresh-is settings (slice_get disk) tuple; disk = λ block. refl; pushed = refl; taken = refl };
  reached = record { settings = settings; in_range = in_range; disk = slice_get disk; sized = sized; tuple = tuple; events = []; reached = refl };
}

-- Opening.

next-number : (unseen : ℕ) (s : SecondaryState) (h : SecondaryHistory) → Leaves s h → step.next_number unseen h ≡ suc (s.number + unseen)
next-number unseen s h left = let same = left.last.number in omega arith

opens-as : (unseen : ℕ) (s : SecondaryState) (h : SecondaryHistory) → Leaves s h
    → Agrees plainly (open_end (suc (s.number + unseen)) s) (step.open_secondary unseen h)
opens-as unseen s h left = subst (λ (n : ℕ). Agrees plainly (open_end n s) (step.open_secondary unseen h)) (next-number unseen s h left)
    (opens-agree unseen s h left)

-- the end is opened over ends of a link through which nothing has gone on this connection
pub node-opened : (unseen : ℕ) (n : NodeState) (core : SecondaryState) → (Ok tt, core) ≡ open_end (suc (n.core.number + unseen)) n.core
    → NodeSteps (OpensToo unseen) n (replied plainly (Ok tt)) (record { core = core; disk = n.disk; pushed = []; taken = [] })
node-opened unseen n core is = node-steps (OpensToo unseen) n (replied plainly (Ok tt)) (record { core = core; disk = n.disk; pushed = []; taken = [] })
    (λ h leaves.
    let agrees = subst (λ (p : Result (Unit {0}) Refusal × SecondaryState). Agrees plainly p (step.open_secondary unseen h)) (sym is)
    (opens-as unseen n.core h leaves.core) in
    let after = opens-to unseen h (done_with what.Nothing) agrees.reply in
    let last : secondary_connection (step.open_secondary unseen h).1 ≡ new h = ap secondary_connection after ∙ ends h in record {
      reply = agrees.reply;
      leaves = record {
        core = agrees.leaves;
        disk = λ block. leaves.disk block ∙ sym (ap (λ (c : SecondaryConnection). map_of c block) last);
        pushed = ap (λ (c : SecondaryConnection). take c.pushed (answers_due (step.open_secondary unseen h).1.settings c)) (sym last);
        taken = ap (λ (c : SecondaryConnection). c.taken) (sym last);
      };
    })
  where
    new : SecondaryHistory → SecondaryConnection
    new h = new_secondary_connection (step.next_number unseen h) (secondary_map h) h.tuple

    ends : (h : SecondaryHistory) → secondary_connection (with_secondary_connection step.answering (step.opened_secondary unseen h)) ≡ new h
    ends h = secondary-connection-with step.answering (step.opened_secondary unseen h) (append-one h.connections (new h))
        ∙ ap step.answering (last-more (no_secondary_connection (step.opened_secondary unseen h)) (new h) h.connections)

pub node-not-opened : (unseen : ℕ) (n : NodeState) (e : Refusal) (core : SecondaryState) → (Err e, core) ≡ open_end (suc (n.core.number + unseen)) n.core
    → NodeSteps (OpensToo unseen) n (replied plainly (Err e)) n
node-not-opened unseen n e core is = node-refused (OpensToo unseen) tt n e (λ h left.
    (subst (λ (p : Result (Unit {0}) Refusal × SecondaryState). Agrees plainly p (step.open_secondary unseen h)) (sym is)
    (opens-as unseen n.core h left)).reply)

-- Closing.

pub node-closes : (n : NodeState) (result : Result (Unit {0}) Refusal) (core : SecondaryState) → (result, core) ≡ close_end n.core
    → NodeSteps ClosesToo n (replied plainly result) (record n { core = core })
node-closes n (Ok done) core is = node-steps ClosesToo n (replied plainly (Ok done)) (record n { core = core }) (λ h leaves.
    let agrees = subst (λ (p : Result (Unit {0}) Refusal × SecondaryState). Agrees plainly p (step.close_secondary h)) (sym is)
    (closes-agree n.core h leaves.core) in
    let after = closes-to h (done_with what.Nothing) agrees.reply in
    let last : secondary_connection (step.close_secondary h).1 ≡ closed_end (secondary_connection h) = ap secondary_connection after
    ∙ secondary-connection-with closed_end h (open-some h (is_established h leaves.core)) in record {
      reply = agrees.reply;
      leaves = record {
        core = agrees.leaves;
        disk = λ block. leaves.disk block ∙ sym (ap (λ (c : SecondaryConnection). map_of c block) last);
        pushed = leaves.pushed ∙ (ap (λ (c : SecondaryConnection). take c.pushed (answers_due h.settings c)) (sym last)
            ∙ ap (λ (x : Settings). take (secondary_connection (step.close_secondary h).1).pushed
            (answers_due x (secondary_connection (step.close_secondary h).1)))
            (ap (λ (g : SecondaryHistory). g.settings) (sym after)));
        taken = leaves.taken ∙ ap (λ (c : SecondaryConnection). c.taken) (sym last);
      };
    })
  where
    is-there : (v : Option EndState)
        → (Ok done, core) ≡ tested {R = Unit {0}} n.core ((is_none v, NotConnected) ∷ []) (λ _. (Ok tt, record n.core { end = None })) → is_none v ≡ false
    is-there None is = let one : Ok done ≡ Err NotConnected = ap (λ (p : Result (Unit {0}) Refusal × SecondaryState). p.0) is in absurd (cc)
    is-there (Some e) is = refl

    is_established : (h : SecondaryHistory) → Leaves n.core h → (secondary_connection h).closed ≡ false
    is_established h left = sym (end-closed n.core.end (secondary_connection h) left.last.end) ∙ is-there n.core.end is
node-closes n (Err e) core is = subst (λ (s : SecondaryState). NodeSteps ClosesToo n (reply.Refused e) (record n { core = s })) (sym (same n.core.end is))
    (node-refused ClosesToo tt n e (λ h left. (subst (λ (p : Result (Unit {0}) Refusal × SecondaryState). Agrees plainly p (step.close_secondary h)) (sym is)
    (closes-agree n.core h left)).reply))
  where
    same : (v : Option EndState) → (Err e, core) ≡ tested {R = Unit {0}} n.core ((is_none v, NotConnected) ∷ []) (λ _. (Ok tt, record n.core { end = None }))
        → core ≡ n.core
    same None is = ap (λ (p : Result (Unit {0}) Refusal × SecondaryState). p.1) is
    same (Some x) is = let one : Err e ≡ Ok tt = ap (λ (p : Result (Unit {0}) Refusal × SecondaryState). p.0) is in absurd (cc)

-- Taking a frame.

-- an end that may take a frame
able : (s : SecondaryState) → may_take s ≡ Ok tt → first_refusal (take_tests s) ≡ None
able s is = go (first_refusal (take_tests s)) is
  where
    go : (v : Option Refusal) → elim v as (λ _. Result (Unit {0}) Refusal) [ Some refusal ↦ Err refusal | None ↦ Ok tt ] ≡ Ok tt → v ≡ None
    go None is = refl
    go (Some refusal) is = absurd (cc)

-- the two tests that may_take makes
both : (s : SecondaryState) → may_take s ≡ Ok tt → (is_none s.end ≡ false) × (nat_le s.settings.pending (length s.pending) ≡ false)
both s is =
    let one = passed (is_none s.end) NotConnected ((nat_le s.settings.pending (length s.pending), PendingFull) ∷ []) (able s is) in
    (one.0, (passed (nat_le s.settings.pending (length s.pending)) PendingFull [] one.1).0)

-- a frame is taken where one may be
takes-as : (frame : Received) (s : SecondaryState) (h : SecondaryHistory) → may_take s ≡ Ok tt → Leaves s h
    → Agrees (λ done. done) (take_at frame s.end s) (step.receive (Some frame) false h) × ((step.receive (Some frame) false h) ≡ step.take_item frame h)
takes-as frame s h may left =
    let two = both s may in
    let here : receive (Some frame) false s ≡ take_at frame s.end s = rw (two.0, two.1) refl in
    let is_established : (secondary_connection h).closed ≡ false = sym (end-closed s.end (secondary_connection h) left.last.end) ∙ two.0 in
    let few : nat_le h.settings.pending (length (pending (secondary_connection h))) ≡ false = (λ k. nat_le (sym left.settings k).pending (sym (count) k))
    ∙ two.1 in (
      subst (λ (p : Result Done Refusal × SecondaryState). Agrees (λ done. done) p (step.receive (Some frame) false h)) here
          (receives-agree (Some frame) false s h left),
      rw (is_established, few) refl,
    )
  where
    count : length s.pending ≡ length (pending (secondary_connection h))
    count = ap length left.last.pending ∙ length-map (pending_in (items_taken (secondary_connection h))) (pending (secondary_connection h))

-- the end of a state that may take a frame
open-end : (s : SecondaryState) (h : SecondaryHistory) → may_take s ≡ Ok tt → Leaves s h → (e : EndState) × LeavesEnd e (secondary_connection h)
open-end s h may left = let e = end-there s.end (both s may).0 in (e.0, subst (λ (v : Option EndState). EndLeft v (secondary_connection h)) e.1 left.last.end)

pub node-takes : (n : NodeState) (frame : Received) (result : Result Done Refusal) (core : SecondaryState) → may_take n.core ≡ Ok tt
    → (result, core) ≡ take_at frame n.core.end n.core
    → NodeSteps (Receives (Some frame) false) n (replied (λ done. done) result) (record n { core = core; taken = n.taken ++ frame ∷ [] })
node-takes n frame result core may is = node-steps (Receives (Some frame) false) n (replied (λ done. done) result)
    (record n { core = core; taken = n.taken ++ frame ∷ [] }) (λ h leaves.
    let both = takes-as frame n.core h may leaves.core in
    let agrees = subst (λ (p : Result Done Refusal × SecondaryState). Agrees (λ done. done) p (step.receive (Some frame) false h)) (sym is) both.0 in
    let end = open-end n.core h may leaves.core in
    let took : Took h frame (step.receive (Some frame) false h).1 = subst (λ (p : Reply × SecondaryHistory). Took h frame p.1) (sym both.1)
    (takes h frame end.1.is_open end.1.plain leaves.core.last.named) in record {
      reply = agrees.reply;
      leaves = record {
        core = agrees.leaves;
        disk = λ block. leaves.disk block ∙ sym (took.map block);
        pushed = leaves.pushed ∙ (sym (pushed-stays h.settings (secondary_connection h) (secondary_connection (step.receive (Some frame) false h).1) took.grows
            (λ was. end.1.owed))
            ∙ ap (λ (x : Settings). take (secondary_connection (step.receive (Some frame) false h).1).pushed
            (answers_due x (secondary_connection (step.receive (Some frame) false h).1)))
            (sym took.settings));
        taken = ap (λ (l : List Received). l ++ frame ∷ []) leaves.taken ∙ sym took.taken;
      };
    })

-- no frame is taken: the end may not take one, there is no memory, or there is none
pub node-may-not : (n : NodeState) (e : Refusal) → may_take n.core ≡ Err e → NodeSteps (Receives None false) n (replied (λ (done : Done). done) (Err e)) n
node-may-not n e is = node-refused (Receives None false) tt n e
    (λ h left. sym (ap (replied (λ (done : Done). done)) here) ∙ (receives-agree None false n.core h left).reply)
  where
    returned : (v : Option Refusal) → elim v as (λ _. Result (Unit {0}) Refusal) [ Some refusal ↦ Err refusal | None ↦ Ok tt ] ≡ Err e → v ≡ Some e
    returned None is = absurd (cc)
    returned (Some refusal) is = let same : refusal ≡ e = cc in ap Some same

    here : (receive None false n.core).0 ≡ Err e
    here = ap (λ (v : Option Refusal). (elim v as (λ _. Result Done Refusal × SecondaryState)
        [ Some refusal ↦ (Err refusal, n.core) | None ↦ (Err NothingThere, n.core) ]).0)
        (refused-on (take_tests n.core) (drop 2 (receive_tests None false n.core)) e (returned (first_refusal (take_tests n.core)) is))

pub node-out-of-memory : (n : NodeState) → may_take n.core ≡ Ok tt → NodeSteps (Receives None true) n (replied (λ (done : Done). done) (Err NoMemory)) n
node-out-of-memory n may = let two = both n.core may in node-refused (Receives None true) tt n NoMemory (λ h left.
    sym (ap (λ (p : Result Done Refusal × SecondaryState). replied (λ done. done) p.0) (out_of_memory two.0 two.1))
    ∙ (receives-agree None true n.core h left).reply)
  where
    out_of_memory : is_none n.core.end ≡ false → nat_le n.core.settings.pending (length n.core.pending) ≡ false
        → receive None true n.core ≡ (Err NoMemory, n.core)
    out_of_memory a b = rw (a, b) refl

pub node-nothing : (n : NodeState) → may_take n.core ≡ Ok tt → NodeSteps (Receives None false) n (replied (λ (done : Done). done) (Err NothingThere)) n
node-nothing n may = let two = both n.core may in node-refused (Receives None false) tt n NothingThere (λ h left.
    sym (ap (λ (p : Result Done Refusal × SecondaryState). replied (λ done. done) p.0) (nothing two.0 two.1)) ∙ (receives-agree None false n.core h left).reply)
  where
    nothing : is_none n.core.end ≡ false → nat_le n.core.settings.pending (length n.core.pending) ≡ false
        → receive None false n.core ≡ (Err NothingThere, n.core)
    nothing a b = rw (a, b) refl

-- Pushing a frame.

take-next : {X : Type 0} (xs : List X) (n : ℕ) (x : X) → slice_get xs n ≡ Some x → take (suc n) xs ≡ take n xs ++ x ∷ []
take-next [] n x at = absurd (cc)
take-next (y ∷ xs) zero x at = let same : y ≡ x = cc in ap (λ z. z ∷ []) same
take-next (y ∷ xs) (suc n) x at = ap (λ (l : List _). y ∷ l) (take-next xs n x at)

pub node-pushes : (n : NodeState) (packet : Packet) → due n.core ≡ Ok packet
    → NodeSteps (Acknowledges true false) n (reply.Ok (done_with (what.Frame (command_of packet) None)))
    (record n { core = sent n.core; pushed = n.pushed ++ packet ∷ [] })
node-pushes n packet is = node-steps (Acknowledges true false) n (reply.Ok (done_with (what.Frame (command_of packet) None)))
    (record n { core = sent n.core; pushed = n.pushed ++ packet ∷ [] }) (λ h leaves.
    let here : ack_out true false n.core ≡ (Ok (done_with (what.Frame (command_of packet) None)), sent n.core) = rw (is, ack_out) refl in
    let agrees = subst (λ (p : Result Done Refusal × SecondaryState). Agrees (λ done. done) p (step.ack_out true false h)) here
    (pushes-agree true false n.core h leaves.core) in
    let after = pushes-to true false h (done_with (what.Frame (command_of packet) None)) agrees.reply in
    let next = due-same n.core h packet leaves.core is in
    let last : secondary_connection (step.ack_out true false h).1 ≡ pushed_one (secondary_connection h) = ap secondary_connection after
    ∙ secondary-connection-with pushed_one h (open-some h (is_established h leaves.core)) in record {
      reply = agrees.reply;
      leaves = record {
        core = agrees.leaves;
        disk = λ block. leaves.disk block ∙ sym (ap (λ (c : SecondaryConnection). map_of c block) last);
        pushed = ap (λ (l : List Packet). l ++ packet ∷ []) leaves.pushed
            ∙ (sym (take-next (answers_due h.settings (secondary_connection h)) (secondary_connection h).pushed packet next)
            ∙ (ap (λ (c : SecondaryConnection). take c.pushed (answers_due h.settings c)) (sym last)
            ∙ ap (λ (x : Settings). take (secondary_connection (step.ack_out true false h).1).pushed
            (answers_due x (secondary_connection (step.ack_out true false h).1)))
            (ap (λ (g : SecondaryHistory). g.settings) (sym after))));
        taken = leaves.taken ∙ ap (λ (c : SecondaryConnection). c.taken) (sym last);
      };
    })
  where
    is-there : (v : Option EndState)
        → elim v as (λ _. Result Packet Refusal) [ None ↦ Err NotConnected | Some e ↦ due (record n.core { end = Some e }) ] ≡ Ok packet → is_none v ≡ false
    is-there None is = absurd (cc)
    is-there (Some e) is = refl

    is_established : (h : SecondaryHistory) → Leaves n.core h → (secondary_connection h).closed ≡ false
    is_established h left = sym (end-closed n.core.end (secondary_connection h) left.last.end) ∙ is-there n.core.end is

-- nothing is due, or the link or the memory has no room for it
pub node-not-due : (n : NodeState) (e : Refusal) → due n.core ≡ Err e → NodeSteps (Acknowledges true false) n (replied (λ (done : Done). done) (Err e)) n
node-not-due n e is = node-refused (Acknowledges true false) tt n e (λ h left.
    let here : ack_out true false n.core ≡ (Err e, n.core) = rw (is, ack_out) refl in
    sym (ap (λ (p : Result Done Refusal × SecondaryState). replied (λ done. done) p.0) here) ∙ (pushes-agree true false n.core h left).reply)

pub node-full : (n : NodeState) (packet : Packet) → due n.core ≡ Ok packet
    → NodeSteps (Acknowledges false false) n (replied (λ (done : Done). done) (Err LinkFull)) n
node-full n packet is = node-refused (Acknowledges false false) tt n LinkFull (λ h left.
    let here : ack_out false false n.core ≡ (Err LinkFull, n.core) = rw (is, ack_out) refl in
    sym (ap (λ (p : Result Done Refusal × SecondaryState). replied (λ done. done) p.0) here) ∙ (pushes-agree false false n.core h left).reply)

pub node-no-memory : (n : NodeState) (packet : Packet) → due n.core ≡ Ok packet
    → NodeSteps (Acknowledges true true) n (replied (λ (done : Done). done) (Err NoMemory)) n
node-no-memory n packet is = node-refused (Acknowledges true true) tt n NoMemory (λ h left.
    let here : ack_out true true n.core ≡ (Err NoMemory, n.core) = rw (is, ack_out) refl in
    sym (ap (λ (p : Result Done Refusal × SecondaryState). replied (λ done. done) p.0) here) ∙ (pushes-agree true true n.core h left).reply)

-- what was due is due after a frame was taken
pub takes-due : (n : NodeState) (frame : Received) (result : Result Done Refusal) (core : SecondaryState) (packet : Packet) → NodeIsHad n
    → may_take n.core ≡ Ok tt → (result, core) ≡ take_at frame n.core.end n.core
    → due n.core ≡ Ok packet → is_some core.end ≡ true → due core ≡ Ok packet
takes-due n frame result core packet is_had may is =
    let h = is_had.history in
    let leaves = is_had.has.leaves in
    let both = takes-as frame n.core h may leaves.core in
    let agrees = subst (λ (p : Result Done Refusal × SecondaryState). Agrees (λ done. done) p (step.receive (Some frame) false h)) (sym is) both.0 in
    let end = open-end n.core h may leaves.core in
    let took : Took h frame (step.receive (Some frame) false h).1 = subst (λ (p : Reply × SecondaryHistory). Took h frame p.1) (sym both.1)
    (takes h frame end.1.is_open end.1.plain leaves.core.last.named) in
    still-due n.core core h (step.receive (Some frame) false h).1 packet leaves.core agrees.leaves took.settings took.grows

-- an end that may take a frame is open
pub may-open : (s : SecondaryState) → may_take s ≡ Ok tt → is_some s.end ≡ true
may-open s may = go s.end (both s may).0
  where
    go : (v : Option EndState) → is_none v ≡ false → is_some v ≡ true
    go None is = absurd (cc)
    go (Some e) is = refl

-- a frame is due only at an open end
pub due-open : (s : SecondaryState) (packet : Packet) → due s ≡ Ok packet → is_some s.end ≡ true
due-open s packet is = go s.end is
  where
    go : (v : Option EndState) → elim v as (λ _. Result Packet Refusal) [ None ↦ Err NotConnected | Some e ↦ ok_or (owed s.settings e) NothingThere ] ≡ Ok
        packet → is_some v ≡ true
    go None is = absurd (cc)
    go (Some e) is = refl
