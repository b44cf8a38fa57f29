-- A node pushes what is due.
use Rattle.std.proofs.Common.{ℕ, zero, suc, ◌≡◌, ◌⊎◌, inl, inr, ◌≤◌, Bool, true, false, not, ◌&&◌, List, [], ◌∷◌, ◌++◌, length, take, Option, Some, None}
use Rattle.std.proofs.Common.{Result, Ok, Err, slice_get, refl, sym, ◌∙◌, ap, subst, arith}
use Rattle.std.specs.Prelude.{is_some, ok_or}
use Rattle.std.proofs.lemmas.Bool.{and_parts, not-true}
use Rattle.std.proofs.lemmas.Option.{slice_get_within}
use Rattle.blocks.specs.declared.refusal.Refusal.{Refusal}
use Rattle.blocks.specs.declared.refusal.Refusal.TheVariants.{LinkFull, NoMemory, NotConnected, NothingThere}
use Rattle.blocks.specs.declared.outcome.Done.{Done}
use Rattle.blocks.specs.declared.outcome.Reply.TheVariants as reply
use Rattle.model.specs.Frames.{Packet}
use Rattle.model.specs.Primary.{PrimaryConnection, PrimaryHistory, primary_connection, with_primary_connection, frames_due}
use Rattle.model.specs.PrimarySteps as step
use Rattle.model.specs.LocalRuns.{Sends}
use Rattle.laws.proofs.Lists.Last.{length-change}
use Rattle.laws.proofs.Primary.Moves.{pushing}
use Rattle.primary_protocol.specs.Core.{EndState, PrimaryState, is_established, tested}
use Rattle.primary_protocol.specs.Transitions.{owed, due, called, sent_from, sent_tests, send}
use Rattle.primary_protocol.specs.Node.{NodeState, NodeHas, NodeIsHad, NodeSteps}
use Rattle.primary_protocol.specs.Steps.{Agrees, replied}
use Rattle.primary_protocol.proofs.Common.Reached.{end-open, primary-connection-of, established-same}
use Rattle.primary_protocol.proofs.Node.Due.{due-next}
use Rattle.primary_protocol.proofs.Node.Keeps.{Keeps, unchanged, keeps-self, keeps-following, pushed-stays}
use Rattle.primary_protocol.proofs.Node.Runs.{node-steps, node-refused, pushes-to}
use Rattle.primary_protocol.proofs.Send.Sends.{sends-agree}

-- a frame is due only at an open end
pub due-open : (s : PrimaryState) (packet : Packet) → due s ≡ Ok packet → is_some s.end ≡ true
due-open s packet is = go s.end is
  where
    go : (v : Option EndState) → elim v as (λ _. Result Packet Refusal) [ None ↦ Err NotConnected | Some e ↦ ok_or (owed e s) NothingThere ] ≡ Ok packet
        → is_some v ≡ true
    go None is = absurd (cc)
    go (Some e) is = refl

-- nothing is due at a closed end, or where all was pushed
pub due-refused : (s : PrimaryState) (e : Refusal) → due s ≡ Err e → (e ≡ NotConnected) ⊎ (e ≡ NothingThere)
due-refused s e is = go s.end is
  where
    owes : (x : Option Packet) → ok_or x NothingThere ≡ Err e → e ≡ NothingThere
    owes None is = cc
    owes (Some p) is = absurd (cc)

    go : (v : Option EndState) → elim v as (λ _. Result Packet Refusal) [ None ↦ Err NotConnected | Some x ↦ ok_or (owed x s) NothingThere ] ≡ Err e
        → (e ≡ NotConnected) ⊎ (e ≡ NothingThere)
    go None is = inl (cc)
    go (Some x) is = inr (owes (owed x s) is)

-- The step, by the end and by what that owes.
abbrev pub send_owed : Bool → Bool → PrimaryState → EndState → Option Packet → Result Done Refusal × PrimaryState
send_owed room out_of_memory s e v = elim v as (λ _. Result Done Refusal × PrimaryState) [
  | None ↦ (Err NothingThere, s)
  | Some packet ↦ tested s (sent_tests room out_of_memory) (λ _. let after = sent_from e (called e s packet) s in (Ok after.0, after.1))
]

-- by the end, where one is open
abbrev pub send_at : Bool → Bool → PrimaryState → Option EndState → Result Done Refusal × PrimaryState
send_at room out_of_memory s v =
    elim v as (λ _. Result Done Refusal × PrimaryState) [ None ↦ (Err NotConnected, s) | Some e ↦ send_owed room out_of_memory s e (owed e s) ]

-- nothing is due
pub send-not-due : (room out_of_memory : Bool) (s : PrimaryState) (e : Refusal) → due s ≡ Err e → (send room out_of_memory s).0 ≡ Err e
send-not-due room out_of_memory s e is = go s.end is
  where
    owes : (x : EndState) (v : Option Packet) → ok_or v NothingThere ≡ Err e → (send_owed room out_of_memory s x v).0 ≡ Err e
    owes x None is = ap Err (let same : NothingThere ≡ e = cc in same)
    owes x (Some p) is = absurd (cc)

    go : (v : Option EndState) → elim v as (λ _. Result Packet Refusal) [ None ↦ Err NotConnected | Some x ↦ ok_or (owed x s) NothingThere ] ≡ Err e
        → (send_at room out_of_memory s v).0 ≡ Err e
    go None is = ap Err (let same : NotConnected ≡ e = cc in same)
    go (Some x) is = owes x (owed x s) is

-- What holds at each open end that owes something.
pub of-due : (P : Option EndState → Type 0) (s : PrimaryState) (packet : Packet) → due s ≡ Ok packet → ((e : EndState) → owed e s ≡ Some packet → P (Some e))
    → P s.end
of-due P s packet is each = go s.end is
  where
    owes : (v : Option Packet) → ok_or v NothingThere ≡ Ok packet → v ≡ Some packet
    owes None is = absurd (cc)
    owes (Some p) is = ap Some (let same : p ≡ packet = cc in same)

    go : (v : Option EndState) → elim v as (λ _. Result Packet Refusal) [ None ↦ Err NotConnected | Some x ↦ ok_or (owed x s) NothingThere ] ≡ Ok packet → P v
    go None is = absurd (cc)
    go (Some x) is = each x (owes (owed x s) is)

-- there is no memory for the frame, or no room in the link
pub send-out-of-memory : (s : PrimaryState) (packet : Packet) → due s ≡ Ok packet → (send true true s).0 ≡ Err NoMemory
send-out-of-memory s packet is = of-due (λ v. (send_at true true s v).0 ≡ Err NoMemory) s packet is (λ e owes. ap (λ v. (send_owed true true s e v).0) owes)

-- the link has no room for it
pub send-full : (s : PrimaryState) (packet : Packet) → due s ≡ Ok packet → (send false false s).0 ≡ Err LinkFull
send-full s packet is = of-due (λ v. (send_at false false s v).0 ≡ Err LinkFull) s packet is (λ e owes. ap (λ v. (send_owed false false s e v).0) owes)

-- A frame that is not pushed.
pub node-not-pushed : (n : NodeState) (room out_of_memory : Bool) (e : Refusal) → (send room out_of_memory n.core).0 ≡ Err e
    → NodeSteps (Sends room out_of_memory) n (reply.Refused e) n
node-not-pushed n room out_of_memory e is = node-refused (Sends room out_of_memory) tt n e (λ h has. ap (replied reply.Ok) (sym is)
    ∙ (sends-agree room out_of_memory n.core h has.reached has.leaves.core).reply)

-- What a push leads to.
pushed-keeps : (h : PrimaryHistory) (done : Done) → reply.Ok done ≡ (step.send true false h).0
    → Keeps (with_primary_connection pushing h) (unchanged (with_primary_connection pushing h)) (step.send true false h).1
pushed-keeps h done said =
    subst (Keeps (with_primary_connection pushing h) (unchanged (with_primary_connection pushing h))) (sym (pushes-to true false h done said))
    (keeps-following (with_primary_connection pushing h) (with_primary_connection pushing h) (unchanged (with_primary_connection pushing h))
    (keeps-self (with_primary_connection pushing h)))

module _ (n : NodeState) (packet : Packet) (done : Done) (core : PrimaryState) (is : due n.core ≡ Ok packet) (sent : (Ok done, core) ≡ send true false n.core)
  where
    agrees : (h : PrimaryHistory) → NodeHas n h → Agrees reply.Ok (Ok done, core) (step.send true false h)
    agrees h has = subst (λ (p : Result Done Refusal × PrimaryState). Agrees reply.Ok p (step.send true false h)) (sym sent)
        (sends-agree true false n.core h has.reached has.leaves.core)

    unshut : (h : PrimaryHistory) → NodeHas n h → (primary_connection h).closed ≡ false
    unshut h has = not-true (primary_connection h).closed (sym (end-open n.core.end (primary_connection h) has.leaves.core.rest.end)
        ∙ due-open n.core packet is)

    out : (h : PrimaryHistory) → NodeHas n h → primary_connection (with_primary_connection pushing h) ≡ pushing (primary_connection h)
    out h has = primary-connection-of pushing h (with_primary_connection pushing h) refl (unshut h has)

    -- the frame stands last among those pushed
    pushed-more : (h : PrimaryHistory) → NodeHas n h → (later : PrimaryHistory)
        → Keeps (with_primary_connection pushing h) (unchanged (with_primary_connection pushing h)) later
        → n.pushed ++ packet ∷ [] ≡ take (primary_connection later).pushed (frames_due later.settings (primary_connection later))
    pushed-more h has later k =
        let due : List Packet = frames_due h.settings (primary_connection h) in
        let at = due-next n.core h packet has.leaves.core has.reached is in
        ap (λ (l : List Packet). l ++ packet ∷ []) has.leaves.pushed
        ∙ (one-more due (primary_connection h).pushed packet at
        ∙ (sym (ap (λ (c : PrimaryConnection). take c.pushed (frames_due h.settings c)) (out h has))
        ∙ sym (pushed-stays (with_primary_connection pushing h) later (unchanged (with_primary_connection pushing h)) k
        (λ shut. subst (λ (c : PrimaryConnection). c.pushed ≤ length (frames_due h.settings c)) (sym (out h has))
        (let within = slice_get_within due (primary_connection h).pushed packet at in omega arith)))))
      where
        one-more : (xs : List Packet) (i : ℕ) (x : Packet) → slice_get xs i ≡ Some x → take i xs ++ x ∷ [] ≡ take (suc i) xs
        one-more [] i x at = absurd (cc)
        one-more (y ∷ xs) zero x at = let same : y ≡ x = cc in ap (λ z. z ∷ []) (sym same)
        one-more (y ∷ xs) (suc i) x at = ap (λ (l : List Packet). y ∷ l) (one-more xs i x at)

    -- what is due is pushed
    pub node-pushes : NodeSteps (Sends true false) n (reply.Ok done) (record n { core = core; pushed = n.pushed ++ packet ∷ [] })
    node-pushes = node-steps (Sends true false) n (reply.Ok done) (record n { core = core; pushed = n.pushed ++ packet ∷ [] }) (λ h has.
        let k = pushed-keeps h done (agrees h has).reply in record {
          reply = (agrees h has).reply;
          leaves = record {
            core = (agrees h has).leaves;
            disk = λ block. has.leaves.disk block ∙ sym (k.disk block);
            pushed = pushed-more h has (step.send true false h).1 k;
            taken = has.leaves.taken ∙ sym (k.taken ∙ ap (λ (c : PrimaryConnection). c.taken) (out h has));
            faithful = λ is. k.faithful ∙ has.leaves.faithful is;
          };
        })

    -- no connection more, and no stream begins
    pub pushes-connections : NodeIsHad n → core.connections ≡ n.core.connections
    pushes-connections had =
        let h = had.history in
        let a = agrees h had.has in
        a.leaves.rest.connections ∙ ((pushed-keeps h done a.reply).connections ∙
        (length-change pushing h.connections ∙ sym had.has.leaves.core.rest.connections))

    -- a stream that stands stood before
    pub pushes-stood : NodeIsHad n → is_established core ≡ true → is_established n.core ≡ true
    pushes-stood had standing =
        let h = had.history in
        let a = agrees h had.has in
        let later : PrimaryHistory = (step.send true false h).1 in
        let parts = and_parts (not (primary_connection later).closed) (primary_connection later).begun (sym (established-same core later a.leaves)
        ∙ standing) in
        let begun : (primary_connection h).begun ≡ true = ap (λ (c : PrimaryConnection). c.begun) (sym (out h had.has))
        ∙ (sym (pushed-keeps h done a.reply).begun ∙ parts.1) in
        established-same n.core h had.has.leaves.core ∙ λ i. not (unshut h had.has i) && begun i
