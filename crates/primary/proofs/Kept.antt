-- What a call keeps of a node.
use Rattle.std.proofs.Common.{ℕ, zero, suc, ◌≡◌, ◌≤◌, Bool, true, false, List, ◌∷◌, [], Option, Some, None, Ok, slice_get, length, refl, sym, ◌∙◌, ap, subst}
use Rattle.std.proofs.Common.{arith, nat_lt}
use Rattle.std.specs.Prelude.{is_some, unwrap_or, IsTrue}
use Rattle.std.proofs.lemmas.Bool.{both_ways}
use Rattle.std.proofs.lemmas.Bool.Decides.{nat_tests}
use Rattle.blocks.specs.declared.tuple.Tuple.{Tuple}
use Rattle.blocks.specs.declared.settings.Settings.{Settings}
use Rattle.blocks.specs.declared.outcome.Reply.{Reply}
use Rattle.model.specs.Primary.{PrimaryHistory, primary_opening}
use Rattle.model.specs.LocalRuns.{PrimaryEvent}
use Rattle.model.specs.Frames.{Packet, Received}
use Rattle.endpoint.specs.PacketSender.{PacketSenderState}
use Rattle.endpoint.specs.PacketReceiver.{PacketReceiverState}
use Rattle.primary_protocol.specs.Core.{PrimaryState, fresh, is_established}
use Rattle.primary_protocol.specs.Transitions.{due}
use Rattle.primary_protocol.specs.Node.{IsStep, NodeHas, NodeState, NodeSteps}
use Rattle.primary_protocol.proofs.Node.Calls.{IsPlain, plain-still, opening-has}
use Rattle.primary_protocol.proofs.Node.Disks.{KeepsNode}
use Rattle.primary_protocol.proofs.Node.Due.{IsStill}
use Rattle.primary_protocol.proofs.Node.Runs.{node-had}
use Rattle.primary_core.specs.State.{CanBegin}
use Rattle.primary.specs.State.{PrimaryView, IsNode, IsBegun, IsDue, IsNumbered, node}

-- what went in part is still the packet that is due
due-kept : (v : Option (List Packet)) (s t : PrimaryState) → IsStill s t → IsDue v s → IsDue v t
due-kept None s t still was = tt
due-kept (Some begun) s t still was = λ is_established. let old = was (still.opened is_established) in (old.0, still.due old.0 old.1 is_established, old.2)

-- the same of a side of a link
pub begun-kept : (v : Option PacketSenderState) (s t : PrimaryState) → IsStill s t → IsBegun v s → IsBegun v t
begun-kept None s t still was = tt
begun-kept (Some o) s t still was = due-kept o.partly s t still was

numbered-kept : (o : Option PacketSenderState) (i : Option PacketReceiverState) (s t : PrimaryState) → t.connections ≡ s.connections → IsNumbered o i s
    → IsNumbered o i t
numbered-kept (Some o) (Some i) s t same was = (subst (λ n. o.number ≤ n) (sym same) was.0, subst (λ n. i.number ≤ n) (sym same) was.1)
numbered-kept None i s t same was = tt
numbered-kept (Some o) None s t same was = tt

-- A call that leaves both sides of the link, opens no end and begins no stream.
pub kept-is : (v : PrimaryView) (core : PrimaryState) (disk : List (List ℕ)) (faithful : Bool) → IsNode v
    → KeepsNode (node v) (node (record v { core = core; disk = disk; faithful = faithful }))
    → (faults : ℕ) (steady : Bool) → IsNode (record v { core = core; disk = disk; faults = faults; steady = steady; faithful = faithful })
kept-is v core disk faithful was k faults steady = record {
  had = k.had;
  out_there = λ some. was.out_there (k.still.opened some);
  in_there = λ some. was.in_there (k.still.opened some);
  begun = begun-kept v.outgoing v.core core k.still was.begun;
  numbered = numbered-kept v.outgoing v.incoming v.core core k.still.connections was.numbered;
  ready = λ begun. was.ready (k.stood begun);
}

-- Such a call is this step, and leaves a node.
pub record StepsTo (step : PrimaryHistory → Reply × PrimaryHistory) (v : PrimaryView) (said : Reply) (core : PrimaryState) (disk : List (List ℕ))
    (faithful : Bool) : Type 0
  where
    pub steps : IsStep step (node v) said (record (node v) { core = core; disk = disk; faithful = faithful })
    pub is : (faults : ℕ) (steady : Bool) → IsNode (record v { core = core; disk = disk; faults = faults; steady = steady; faithful = faithful })

-- A call that takes no frame, pushes none and leaves the disk.
pub plain-is : (event : PrimaryEvent) (v : PrimaryView) (core : PrimaryState) (reply : Reply) → IsPlain event → IsNode v
    → NodeSteps event (node v) reply (node (record v { core = core })) → IsNode (record v { core = core })
plain-is event v core reply plain was steps =
    let still = plain-still event (node v) (node (record v { core = core })) reply plain was.had steps in
    let had = node-had event (node v) reply (node (record v { core = core })) was.had steps in
    kept-is v core v.disk v.faithful was (record { had = had; still = still.0; stood = still.1 }) v.faults v.steady

-- A disk that gave something else is not faithful any more, and nothing else is lost.
pub lowered : {R : Type 0} (step : PrimaryHistory → R × PrimaryHistory) (n next : NodeState) (r : R) (faithful : Bool) → (IsTrue faithful → IsTrue next.faithful)
    → IsStep step n r next → IsStep step n r (record next { faithful = faithful })
lowered step n next r faithful falls steps = record {
  replies = steps.replies;
  after = λ h has. lower next (step h).1 faithful falls (steps.after h has);
}
  where
    lower : (n : NodeState) (h : PrimaryHistory) (faithful : Bool) → (IsTrue faithful → IsTrue n.faithful) → NodeHas n h
        → NodeHas (record n { faithful = faithful }) h
    lower n h faithful falls has = record {
      leaves = record {
        core = has.leaves.core;
        disk = has.leaves.disk;
        pushed = has.leaves.pushed;
        taken = has.leaves.taken;
        faithful = λ is. has.leaves.faithful (falls is);
      };
      reached = has.reached;
    }

-- a node it stays
pub lowered-is : (v : PrimaryView) (faults : ℕ) (steady faithful : Bool) → (IsTrue faithful → IsTrue v.faithful) → IsNode v
    → IsNode (record v { faults = faults; steady = steady; faithful = faithful })
lowered-is v faults steady faithful falls was = record {
  had = record {
    history = was.had.history;
    has = record {
      leaves = record {
        core = was.had.has.leaves.core;
        disk = was.had.has.leaves.disk;
        pushed = was.had.has.leaves.pushed;
        taken = was.had.has.leaves.taken;
        faithful = λ is. was.had.has.leaves.faithful (falls is);
      };
      reached = was.had.has.reached;
    };
  };
  out_there = was.out_there;
  in_there = was.in_there;
  begun = was.begun;
  numbered = was.numbered;
  ready = was.ready;
}

-- A new node.
pub new-has : (settings : Settings) (disk : List (List ℕ)) (tuple : Tuple) (given marks : List Bool) (s : PrimaryState)
    → CanBegin settings tuple given × (s ≡ fresh settings tuple given) → given ≡ marks → length disk ≡ settings.blocks → (faithful : Bool)
    → NodeHas (record { core = s; disk = disk; pushed = []; taken = []; faithful = faithful })
    (primary_opening settings (slice_get disk) tuple (λ block. unwrap_or (slice_get marks block) false))
new-has settings disk tuple given marks s may same size faithful =
    subst (λ (x : PrimaryState). NodeHas (record { core = x; disk = disk; pushed = []; taken = []; faithful = faithful })
    (primary_opening settings (slice_get disk) tuple (λ block. unwrap_or (slice_get marks block) false))) (sym (may.1 ∙ ap (fresh settings tuple) same))
    (opening-has settings disk tuple marks may.0.in_range (λ block. some-get disk block ∙ ap (nat_lt block) size) (ap length (sym same) ∙ may.0.size) faithful)
  where
    some-get : {X : Type 0} (xs : List X) (n : ℕ) → is_some (slice_get xs n) ≡ nat_lt n (length xs)
    some-get [] n = grind (arith, nat_tests)
    some-get (x ∷ xs) zero = grind (arith, nat_tests)
    some-get (x ∷ xs) (suc n) = some-get xs n ∙ grind (arith, nat_tests)

-- so some history is had
pub new-is : (settings : Settings) (disk : List (List ℕ)) (tuple : Tuple) (marks : List Bool) (s : PrimaryState) (faults : ℕ) (steady faithful : Bool)
    → CanBegin settings tuple marks × (s ≡ fresh settings tuple marks) → length disk ≡ settings.blocks
    → IsNode (record { core = s; disk = disk; outgoing = None; incoming = None; faults = faults; steady = steady; faithful = faithful })
new-is settings disk tuple marks s faults steady faithful may size = record {
  had = record { history = _; has = new-has settings disk tuple marks marks s may refl size faithful };
  out_there = λ some. absurd (both_ways (is_some s.end) (ap (λ (x : PrimaryState). is_some x.end) may.1) some);
  in_there = λ some. absurd (both_ways (is_some s.end) (ap (λ (x : PrimaryState). is_some x.end) may.1) some);
  begun = tt;
  numbered = tt;
  ready = λ standing. tt;
}
