-- The packet that is due stays so in each step that pushes none, and what such a step leaves.
use Rattle.std.proofs.Common.{ℕ, ◌≡◌, ◌+◌, ◌≤◌, true, false, not, ◌&&◌, List, length, Option, Some, None, Result, Ok, Err, slice_get, sym, ◌∙◌, ap, arith}
use Rattle.std.specs.Prelude.{is_some, ok_or}
use Rattle.std.proofs.lemmas.Bool.{and_parts, both_ways, false_from_ne_true, not-true}
use Rattle.blocks.specs.declared.settings.Settings.{Settings}
use Rattle.blocks.specs.declared.refusal.Refusal.{Refusal}
use Rattle.blocks.specs.declared.refusal.Refusal.TheVariants.{NotConnected, NothingThere}
use Rattle.model.specs.Frames.{Packet, Received}
use Rattle.model.specs.Primary.{PrimaryHistory, primary_connection, frames_due}
use Rattle.laws.proofs.Rules.FramesDue.{length-due}
use Rattle.laws.proofs.Lists.Beginnings.{get-beginning}
use Rattle.laws.proofs.Primary.Homes.{HasHomes}
use Rattle.primary_protocol.specs.Core.{EndState, PrimaryState, is_established}
use Rattle.primary_protocol.specs.Transitions.{owed, due}
use Rattle.primary_protocol.specs.Leaves.{Leaves, EndLeft}
use Rattle.primary_protocol.specs.Node.{NodeState, NodeLeaves}
use Rattle.primary_protocol.specs.Steps.{IsReached}
use Rattle.primary_protocol.proofs.Common.Reached.{end-open, reached-ordered, established-same}
use Rattle.primary_protocol.proofs.Send.Due.{owed-is}
use Rattle.primary_protocol.proofs.Node.Keeps.{Change, Keeps, due-begins, pushed-stays}
use Rattle.std.proofs.Common.{Bool}
use Rattle.std.proofs.Common.{IsTrue}

-- what an open end owes is due
abbrev due_at : Option EndState → PrimaryState → Result Packet Refusal
due_at v s = elim v as (λ _. Result Packet Refusal) [ None ↦ Err NotConnected | Some e ↦ ok_or (owed e s) NothingThere ]

homes-of : (h : PrimaryHistory) → IsReached h → HasHomes h
homes-of h reached = (reached-ordered h reached).ordered.1.1.0.0

-- what is due is the next of the frames due
pub due-next : (s : PrimaryState) (h : PrimaryHistory) (packet : Packet) → Leaves s h → IsReached h → due s ≡ Ok packet
    → slice_get (frames_due h.settings (primary_connection h)) (primary_connection h).pushed ≡ Some packet
due-next s h packet left reached is = go s.end left.rest.end is
  where
    got : (v : Option Packet) → ok_or v NothingThere ≡ Ok packet → v ≡ Some packet
    got None is = absurd (cc)
    got (Some p) is = ap Some (let same : p ≡ packet = cc in same)

    go : (v : Option EndState) → EndLeft v (primary_connection h) → due_at v s ≡ Ok packet
        → slice_get (frames_due h.settings (primary_connection h)) (primary_connection h).pushed ≡ Some packet
    go None end is = absurd (cc)
    go (Some e) end is = sym (owed-is s h e left (homes-of h reached) end) ∙ got (owed e s) is

-- What was due is due after a step that pushes nothing, where the end is open still.
pub still-due : (s t : PrimaryState) (h later : PrimaryHistory) (change : Change) (packet : Packet) → Leaves s h → IsReached h → Leaves t later
    → IsReached later → Keeps h change later
    → due s ≡ Ok packet → is_some t.end ≡ true → due t ≡ Ok packet
still-due s t h later change packet left reached after reached_too k is is_established = go t.end after.rest.end is_established
  where
    there : slice_get (frames_due later.settings (primary_connection later)) (primary_connection later).pushed ≡ Some packet
    there =
        ap (λ n. slice_get (frames_due later.settings (primary_connection later)) n) k.pushed
        ∙ (ap (λ (x : Settings). slice_get (frames_due x (primary_connection later)) (primary_connection h).pushed) k.settings
        ∙ get-beginning (frames_due h.settings (primary_connection h)) (frames_due h.settings (primary_connection later)) (primary_connection h).pushed packet
        (due-begins h later change k)
        (due-next s h packet left reached is))

    go : (v : Option EndState) → EndLeft v (primary_connection later) → is_some v ≡ true → due_at v t ≡ Ok packet
    go None end none = absurd (cc)
    go (Some e) end some = ap (λ (v : Option Packet). ok_or v NothingThere) (owed-is t later e after (homes-of later reached_too) end ∙ there)

-- No more was pushed than is due, at an open end.
pub pushed-within : (s : PrimaryState) (h : PrimaryHistory) → Leaves s h → (primary_connection h).closed ≡ false
    → (primary_connection h).pushed ≤ length (frames_due h.settings (primary_connection h))
pushed-within s h left unshut = go s.end left.rest.end
  where
    size : length (frames_due h.settings (primary_connection h)) ≡ 3 + length (primary_connection h).stream
    size = length-due h.settings (primary_connection h)

    go : (v : Option EndState) → EndLeft v (primary_connection h) → (primary_connection h).pushed ≤ length (frames_due h.settings (primary_connection h))
    go None shut = absurd (both_ways (primary_connection h).closed unshut shut)
    go (Some e) end = let within = end.pushed in let all = size in omega arith

-- What a step that pushes nothing leaves: the same that was pushed.
pub kept-leaves : (n : NodeState) (core : PrimaryState) (disk : List (List ℕ)) (taken : List Received) (h later : PrimaryHistory) (change : Change)
    → NodeLeaves n h → Leaves core later → Keeps h change later
    → ((block : ℕ) → slice_get disk block ≡ change.disk block) → taken ≡ change.taken
    → (faithful : Bool) → (IsTrue faithful → IsTrue change.faithful)
    → NodeLeaves (record { core = core; disk = disk; pushed = n.pushed; taken = taken; faithful = faithful }) later
kept-leaves n core disk taken h later change was left k holds took faithful falls = record {
  core = left;
  disk = λ block. holds block ∙ sym (k.disk block);
  pushed = was.pushed ∙ sym (pushed-stays h later change k (pushed-within n.core h was.core));
  taken = took ∙ sym k.taken;
  faithful = λ is. k.faithful ∙ falls is;
}

-- A core after a step that opens no end and pushes nothing: what was due is due while the end is open.
pub record IsStill (s t : PrimaryState) : Type 0 where
  pub opened : is_some t.end ≡ true → is_some s.end ≡ true
  pub connections : t.connections ≡ s.connections
  pub due : (packet : Packet) → due s ≡ Ok packet → is_some t.end ≡ true → due t ≡ Ok packet

-- such a step
pub is-still : (s t : PrimaryState) (h later : PrimaryHistory) (change : Change) → Leaves s h → IsReached h → Leaves t later → IsReached later
    → Keeps h change later → IsStill s t
is-still s t h later change left reached after reached_too k = record {
  opened = λ some. end-open s.end (primary_connection h) left.rest.end
      ∙ ap not (false_from_ne_true (primary_connection h).closed
      (λ was. both_ways (primary_connection later).closed
      (not-true (primary_connection later).closed (sym (end-open t.end (primary_connection later) after.rest.end) ∙ some)) (k.shut was)));
  connections = after.rest.connections ∙ (k.connections ∙ sym left.rest.connections);
  due = λ packet is some. still-due s t h later change packet left reached after reached_too k is some;
}

-- no stream has begun by it
pub stood : (s t : PrimaryState) (h later : PrimaryHistory) (change : Change) → Leaves s h → Leaves t later → Keeps h change later
    → change.begun ≡ (primary_connection h).begun → is_established t ≡ true → is_established s ≡ true
stood s t h later change left after k same standing =
    let parts = and_parts (not (primary_connection later).closed) (primary_connection later).begun (sym (established-same t later after) ∙ standing) in
    let unshut : (primary_connection h).closed ≡ false = false_from_ne_true (primary_connection h).closed
    (λ was. both_ways (primary_connection later).closed (not-true (primary_connection later).closed parts.0) (k.shut was)) in
    established-same s h left ∙ λ i. not (unshut i) && (sym same ∙ (sym k.begun ∙ parts.1)) i
