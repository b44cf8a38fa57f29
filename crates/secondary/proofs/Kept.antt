-- What a call keeps of a node, a node that closes, a new one, and what is read off.
use Rattle.std.proofs.Common.{ℕ, zero, suc, ◌≡◌, Bool, true, false, List, [], ◌∷◌, length, Option, Some, None, Result, slice_get, sym, ◌∙◌, ap, subst, arith}
use Rattle.std.proofs.Common.{nat_lt}
use Rattle.std.specs.Prelude.{is_some}
use Rattle.std.proofs.lemmas.Bool.{both_ways}
use Rattle.std.proofs.lemmas.Bool.Decides.{nat_tests}
use Rattle.blocks.specs.SettingsRange.{IsInRange}
use Rattle.blocks.specs.declared.tuple.Tuple.{Tuple}
use Rattle.blocks.specs.declared.settings.Settings.{Settings}
use Rattle.blocks.specs.declared.refusal.Refusal.{Refusal}
use Rattle.blocks.specs.declared.outcome.Reply.{Reply}
use Rattle.model.specs.Frames.{Packet}
use Rattle.model.specs.Settlement.{applied_items}
use Rattle.model.specs.Secondary.{SecondaryHistory, secondary_opening, secondary_connection, items_taken, pending}
use Rattle.model.specs.LocalRuns.{ClosesToo}
use Rattle.endpoint.specs.PacketSender.{PacketSenderState}
use Rattle.endpoint.specs.PacketReceiver.{PacketReceiverState}
use Rattle.secondary_protocol.specs.Core.{SecondaryState, fresh, close_end, whole}
use Rattle.secondary_protocol.specs.Node.{IsStep, NodeHas, secondary_step}
use Rattle.secondary_protocol.specs.Steps.{Says, plainly, replied}
use Rattle.secondary_protocol.proofs.Node.Calls.{opening-has, node-closes}
use Rattle.secondary_protocol.proofs.Node.Due.{closes-end}
use Rattle.secondary_protocol.proofs.Node.Numbers.{closes-number}
use Rattle.secondary_protocol.proofs.Says.{states-say}
use Rattle.secondary_protocol.specs.Leaves.{pending_in}
use Rattle.secondary_protocol.proofs.Tested.{length-map}
use Rattle.secondary.specs.Usages.{usage_of}
use Rattle.secondary.specs.State.{SecondaryView, node, IsNode, IsBegun, IsDue, IsNumbered}

-- At a closed end nothing is asked of what went in part.
due-shut : (v : Option (List Packet)) (s : SecondaryState) → is_some s.end ≡ false → IsDue v s
due-shut None s shut = tt
due-shut (Some begun) s shut = λ is_established. absurd (both_ways (is_some s.end) shut is_established)

-- the same of the side
pub begun-shut : (v : Option PacketSenderState) (s : SecondaryState) → is_some s.end ≡ false → IsBegun v s
begun-shut None s shut = tt
begun-shut (Some o) s shut = due-shut o.partly s shut

-- Where nothing went in part, nothing is asked.
pub due-none : (v : Option (List Packet)) (s : SecondaryState) → v ≡ None → IsDue v s
due-none v s is = subst (λ (x : Option (List Packet)). IsDue x s) (sym is) tt

-- A core that keeps its number leaves the sides of the link numbered as it is.
pub numbered-same : (o : Option PacketSenderState) (i : Option PacketReceiverState) (s t : SecondaryState) → t.number ≡ s.number → IsNumbered o i s
    → IsNumbered o i t
numbered-same None i s t same was = tt
numbered-same (Some o) None s t same was = tt
numbered-same (Some o) (Some i) s t same was = let out = was.0 in let inn = was.1 in (omega arith, omega arith)

-- An end that is shut asks for no sides of a link.
pub absent : (s : SecondaryState) (sides : Bool) → is_some s.end ≡ false → is_some s.end ≡ true → sides ≡ true
absent s sides shut is_established = absurd (both_ways (is_some s.end) shut is_established)

-- A call that neither pushes nor takes is this step, and leaves a node.
pub record StepsTo (step : SecondaryHistory → Reply × SecondaryHistory) (v : SecondaryView) (said : Reply) (core : SecondaryState)
    (disk : List (List ℕ)) : Type 0
  where
    pub steps : IsStep step (node v) said (record (node v) { core = core; disk = disk })
    pub is : (faults : ℕ) (steady faithful : Bool)
        → IsNode (record v { core = core; disk = disk; faults = faults; steady = steady; faithful = faithful })

-- One that shuts the end, and keeps the connection's number.
pub shuts : (step : SecondaryHistory → Reply × SecondaryHistory) (v : SecondaryView) (said : Reply) (core : SecondaryState) (disk : List (List ℕ)) → IsNode v
    → IsStep step (node v) said (record (node v) { core = core; disk = disk }) → is_some core.end ≡ false → core.number ≡ v.core.number
    → StepsTo step v said core disk
shuts step v said core disk was steps shut same = record {
  steps = steps;
  is = λ faults steady faithful. record {
    had = record { history = (step was.had.history).1; has = steps.after was.had.history was.had.has };
    out_there = absent core (is_some v.outgoing) shut;
    in_there = absent core (is_some v.incoming) shut;
    begun = begun-shut v.outgoing core shut;
    numbered = numbered-same v.outgoing v.incoming v.core core same was.numbered;
  };
}

-- A node that closes.
pub closes-is : (v : SecondaryView) (t : SecondaryState) (result : Result (Unit {0}) Refusal) → IsNode v → (result, t) ≡ close_end v.core
    → IsNode (record v { core = t })
closes-is v t result is closes =
    (shuts (secondary_step ClosesToo) v (replied plainly result) t v.disk is (node-closes (node v) result t closes) (closes-end v.core result t closes)
    (closes-number v.core result t closes)).is v.faults v.steady v.faithful

-- A new node has the opening over what its disk holds.
pub new-has : (settings : Settings) (tuple : Tuple) (disk : List (List ℕ)) (s : SecondaryState) → s ≡ fresh settings tuple → IsInRange settings
    → length disk ≡ settings.blocks
    → NodeHas (record { core = s; disk = disk; pushed = []; taken = [] }) (secondary_opening settings (slice_get disk) tuple)
new-has settings tuple disk s is in_range size =
    subst (λ (x : SecondaryState). NodeHas (record { core = x; disk = disk; pushed = []; taken = [] }) (secondary_opening settings (slice_get disk) tuple))
    (sym is)
    (opening-has settings disk tuple in_range (λ block. some-get disk block ∙ ap (nat_lt block) size))
  where
    some-get : {X : Type 0} (xs : List X) (n : ℕ) → is_some (slice_get xs n) ≡ nat_lt n (length xs)
    some-get [] n = grind (arith, nat_tests)
    some-get (x ∷ xs) zero = grind (arith, nat_tests)
    some-get (x ∷ xs) (suc n) = some-get xs n ∙ grind (arith, nat_tests)

-- so some history is had
pub new-is : (settings : Settings) (tuple : Tuple) (disk : List (List ℕ)) (s : SecondaryState) (faults : ℕ) (steady faithful : Bool) → s ≡ fresh settings tuple
    → IsInRange settings → length disk ≡ settings.blocks
    → IsNode (record { core = s; disk = disk; outgoing = None; incoming = None; faults = faults; steady = steady; faithful = faithful })
new-is settings tuple disk s faults steady faithful is in_range size =
    let shut : is_some s.end ≡ false = ap (λ (x : SecondaryState). is_some x.end) is in record {
      had = record { history = secondary_opening settings (slice_get disk) tuple; has = new-has settings tuple disk s is in_range size };
      out_there = absent s false shut;
      in_there = absent s false shut;
      begun = tt;
      numbered = tt;
    }

-- What is read off.

-- what its core says
pub node-says : (v w : SecondaryView) → v ≡ w → (h : SecondaryHistory) → NodeHas (node w) h → Says v.core h
node-says v w is h has = states-say v.core h (subst (λ (x : SecondaryView). NodeHas (node x) h) (sym is) has).leaves.core

-- how far its data may be used
pub node-usage : (v w : SecondaryView) → v ≡ w → (h : SecondaryHistory) → NodeHas (node w) h
    → record { consistent = v.core.consistent; whole = whole v.core; pending = length v.core.pending } ≡ usage_of h
node-usage v w is h has =
    let left = (subst (λ (x : SecondaryView). NodeHas (node x) h) (sym is) has).leaves.core in
    let size : length v.core.pending ≡ length (pending (secondary_connection h)) = ap length left.last.pending
    ∙ length-map (pending_in (items_taken (secondary_connection h))) (pending (secondary_connection h)) in
    λ k. record { consistent = left.consistent k; whole = (states-say v.core h left).whole k; pending = size k }

-- how many items were taken, and how many of them are applied
pub node-counts : (v w : SecondaryView) → v ≡ w → (h : SecondaryHistory) → NodeHas (node w) h
    → (v.core.intake.places ≡ length (items_taken (secondary_connection h))) × (v.core.items_applied ≡ applied_items (secondary_connection h))
node-counts v w is h has =
    let left = (subst (λ (x : SecondaryView). NodeHas (node x) h) (sym is) has).leaves.core in
    (ap (λ i. i.places) left.last.intake, left.last.applied)
