-- A node's calls that write the disk or read it are steps.
use Rattle.std.proofs.Common.{ℕ, ◌≡◌, ◌+◌, ◌≤◌, Bool, true, false, List, [], length, Option, Some, None, Result, Err, slice_get, refl, sym, ◌∙◌, ap, subst}
use Rattle.std.proofs.Common.{arith, ◌==◌}
use Rattle.std.proofs.lemmas.Bool.{and_from}
use Rattle.std.specs.Prelude.{find, unwrap_or}
use Rattle.blocks.specs.Contents.{overwritten}
use Rattle.blocks.specs.declared.refusal.Refusal.{Refusal}
use Rattle.blocks.specs.declared.outcome.Done.{Done}
use Rattle.blocks.specs.declared.outcome.Reply.{Reply}
use Rattle.blocks.specs.declared.outcome.Reply.TheVariants as reply
use Rattle.model.specs.Primary.{Accepted, OnDisk, PrimaryHistory, primary_connection, local_map}
use Rattle.transferlog.specs.Ring.{write_at}
use Rattle.transferlog.specs.Writes as log
use Rattle.transferlog.specs.Writes.{LogWrite}
use Rattle.laws.proofs.Primary.Homes.{HasHomes}
use Rattle.model.specs.PrimarySteps as step
use Rattle.model.specs.LocalRuns.{PrimaryEvent, Resyncs, FailsResync}
use Rattle.primary_protocol.specs.Core.{PrimaryState, is_established}
use Rattle.primary_protocol.specs.Transitions.{resync_next, resync_fault}
use Rattle.primary_protocol.specs.Leaves.{logged_of, Leaves}
use Rattle.primary_protocol.specs.Node.{NodeState, NodeHas, NodeIsHad, NodeSteps, primary_step}
use Rattle.primary_protocol.specs.Steps.{Agrees, replied}
use Rattle.primary_protocol.proofs.Common.Reached.{reached-ordered}
use Rattle.primary_protocol.proofs.Common.Numbers.{find-number}
use Rattle.primary_protocol.proofs.LocalDisk.Writes.{Waits, unfinished-same, waits-so}
use Rattle.primary_protocol.proofs.Node.Disk.{disk-size, disk-written}
use Rattle.primary_protocol.proofs.Resync.Resyncs.{resyncs-agree, resync-faults-agree}
use Rattle.primary_protocol.proofs.Node.Due.{IsStill, is-still, kept-leaves, stood}
use Rattle.primary_protocol.proofs.Node.Keeps.{Change, Keeps, keeps-self, unchanged, resyncs-keeps}
use Rattle.primary_protocol.proofs.Node.Runs.{node-had, node-refused, node-steps, reached-step}
use Rattle.std.proofs.Common.{IsTrue}
use Rattle.std.proofs.Common.{is_none}

-- What a call that neither pushes nor takes comes to, on a history that the node has: the step's answer, and what it keeps.
pub record Comes (event : PrimaryEvent) (n : NodeState) (said : Reply) (core : PrimaryState) (disk : List (List ℕ)) (faithful : Bool)
    (h : PrimaryHistory) : Type 0 where
  pub change : Change
  pub reply : said ≡ (primary_step event h).0
  pub leaves : Leaves core (primary_step event h).1
  pub keeps : Keeps h change (primary_step event h).1
  pub taken : change.taken ≡ (primary_connection h).taken
  pub begun : change.begun ≡ (primary_connection h).begun
  pub holds : (block : ℕ) → slice_get disk block ≡ change.disk block
  pub falls : IsTrue faithful → IsTrue change.faithful

-- What such a call keeps of a node.
pub record KeepsNode (n next : NodeState) : Type 0 where
  pub had : NodeIsHad next
  pub still : IsStill n.core next.core
  pub stood : is_established next.core ≡ true → is_established n.core ≡ true

module _ (event : PrimaryEvent) (n : NodeState) (said : Reply) (core : PrimaryState) (disk : List (List ℕ)) (faithful : Bool)
    (comes : (h : PrimaryHistory) → NodeHas n h → Comes event n said core disk faithful h) where
  -- it is the step
  pub comes-steps : NodeSteps event n said (record n { core = core; disk = disk; faithful = faithful })
  comes-steps = node-steps event n said (record n { core = core; disk = disk; faithful = faithful }) (λ h has. let to = comes h has in record {
    reply = to.reply;
    leaves = kept-leaves n core disk n.taken h (primary_step event h).1 to.change has.leaves to.leaves to.keeps to.holds (has.leaves.taken ∙ sym to.taken) faithful to.falls;
  })

  -- and keeps the node
  pub comes-kept : NodeIsHad n → KeepsNode n (record n { core = core; disk = disk; faithful = faithful })
  comes-kept had =
      let h = had.history in
      let has = had.has in
      let to = comes h has in record {
        had = node-had event n said (record n { core = core; disk = disk; faithful = faithful }) had comes-steps;
        still = is-still n.core core h (primary_step event h).1 to.change has.leaves.core has.reached to.leaves (reached-step event h has.reached) to.keeps;
        stood = stood n.core core h (primary_step event h).1 to.change has.leaves.core to.leaves to.keeps to.begun;
      }

-- A node that stays as it is.
pub stays-kept : (n : NodeState) → NodeIsHad n → KeepsNode n n
stays-kept n had =
    let h = had.history in
    let has = had.has in record {
      had = had;
      still = is-still n.core n.core h h (unchanged h) has.leaves.core has.reached has.leaves.core has.reached (keeps-self h);
      stood = λ standing. standing;
    }

-- Resync.

-- what a disk has in a block
abbrev pub held_in : List (List ℕ) → ℕ → List ℕ
held_in disk block = unwrap_or (slice_get disk block) []

-- what a read gave, or what the disk has in the block
abbrev pub given_by : Option (List ℕ) → List (List ℕ) → ℕ → List ℕ
given_by read disk block = unwrap_or read (held_in disk block)

copies-come : (read : Option (List ℕ)) (out_of_memory : Bool) (n : NodeState) (faithful : Bool) (result : Result Done Refusal) (core : PrimaryState)
    → (IsTrue faithful → IsTrue n.faithful × (read ≡ None)) → (result, core) ≡ resync_next (given_by read n.disk) out_of_memory n.core
    → (h : PrimaryHistory) → NodeHas n h → Comes (Resyncs read out_of_memory) n (replied reply.Ok result) core n.disk faithful h
copies-come read out_of_memory n faithful result core falls is h has =
    let agrees = subst (λ (p : Result Done Refusal × PrimaryState). Agrees reply.Ok p (step.resync_next read out_of_memory h)) (sym is)
    (resyncs-agree (given_by read n.disk) read out_of_memory n.core h has.reached has.leaves.core
    (λ block. ap (λ (v : Option (List ℕ)). unwrap_or read (unwrap_or v [])) (has.leaves.disk block))) in
    let k = resyncs-keeps read out_of_memory h in record {
      change = record (unchanged h) { faithful = k.0 };
      reply = agrees.reply;
      leaves = agrees.leaves;
      keeps = k.2;
      taken = refl;
      begun = refl;
      holds = has.leaves.disk;
      falls = λ now. let was = falls now in
          k.1 (and_from (is_none read) h.faithful (ap (λ (v : Option (List ℕ)). is_none v) was.1) (has.leaves.faithful was.0));
    }

-- a block is copied as it was read
pub node-copies : (read : Option (List ℕ)) (out_of_memory : Bool) (n : NodeState) (faithful : Bool) (result : Result Done Refusal) (core : PrimaryState)
    → (IsTrue faithful → IsTrue n.faithful × (read ≡ None)) → (result, core) ≡ resync_next (given_by read n.disk) out_of_memory n.core
    → NodeSteps (Resyncs read out_of_memory) n (replied reply.Ok result) (record n { core = core; faithful = faithful })
node-copies read out_of_memory n faithful result core falls is = comes-steps (Resyncs read out_of_memory) n (replied reply.Ok result) core n.disk faithful
    (copies-come read out_of_memory n faithful result core falls is)

pub copies-kept : (read : Option (List ℕ)) (out_of_memory : Bool) (n : NodeState) (faithful : Bool) (result : Result Done Refusal) (core : PrimaryState)
    → NodeIsHad n → (IsTrue faithful → IsTrue n.faithful × (read ≡ None)) → (result, core) ≡ resync_next (given_by read n.disk) out_of_memory n.core
    → KeepsNode n (record n { core = core; faithful = faithful })
copies-kept read out_of_memory n faithful result core had falls is = comes-kept (Resyncs read out_of_memory) n (replied reply.Ok result) core n.disk faithful
    (copies-come read out_of_memory n faithful result core falls is) had

-- a block that is not copied
pub node-not-copied : (out_of_memory : Bool) (n : NodeState) (e : Refusal) → (Err e, n.core) ≡ resync_next (held_in n.disk) out_of_memory n.core
    → NodeSteps (Resyncs None out_of_memory) n (reply.Refused e) n
node-not-copied out_of_memory n e is = node-copies None out_of_memory n n.faithful (Err e) n.core (λ faithful. (faithful, refl)) is

-- the disk fails the read
pub node-copy-fails : (out_of_memory : Bool) (n : NodeState) (e : Refusal) → (Err e, n.core) ≡ resync_fault out_of_memory n.core
    → NodeSteps (FailsResync out_of_memory) n (reply.Refused e) n
node-copy-fails out_of_memory n e is = node-refused (FailsResync out_of_memory) tt n e (λ h has.
    (subst (λ (p : Result Done Refusal × PrimaryState). Agrees reply.Ok p (step.resync_fault out_of_memory h)) (sym is)
    (resync-faults-agree out_of_memory n.core h has.reached has.leaves.core)).reply)

-- The local disk.

-- The write of this number is the disk's to do.
module _ (number : ℕ) (n : NodeState) (w : LogWrite) (found : write_at number n.core.log.writes ≡ Some w) (waits : log.is_waiting w ≡ true) (h : PrimaryHistory)
    (has : NodeHas n h) where
  pub homes : HasHomes h
  homes = (reached-ordered h has.reached).ordered.1.1.0.0

  pub unfinished : step.is_unfinished h number ≡ true
  unfinished = sym (unfinished-same n.core h number has.leaves.core homes)
      ∙ (ap (λ (v : Option LogWrite). elim v as (λ _. Bool) [ None ↦ false | Some x ↦ log.is_waiting x ]) found ∙ waits)

  pub the : Waits n.core h number
  the = waits-so n.core h number has.leaves.core homes unfinished

  pub same-write : w ≡ logged_of h the.accepted
  same-write = let one = sym found ∙ the.logged in cc

  pub inside : the.accepted.write.first + length the.accepted.write.contents ≤ length n.disk
  inside = let size = disk-size n h has in let within =
      (reached-ordered h has.reached).ordered.0.tracked.writes_inside the.index the.accepted the.at in omega arith

  -- the history has it by its number
  pub accepted-is : step.accepted_at h number ≡ Some the.accepted
  accepted-is =
      let numbered = homes.numbered the.index the.accepted the.at in
      let same = the.number_is in
      let index : number ≡ 1 + the.index = omega arith in
      ap (λ m. find (λ (a : Accepted). a.write.number == m) h.writes) index
      ∙ (find-number 1 the.index h.writes (λ i a at. homes.numbered i a at ∙ omega arith) ∙ the.at)

  pub after-written : (block : ℕ) → slice_get (overwritten n.disk w.first w.blocks) block ≡ local_map (step.with_outcome number OnDisk h) block
  after-written block =
      ap (λ (x : LogWrite). slice_get (overwritten n.disk x.first x.blocks) block) same-write
      ∙ disk-written h homes (reached-ordered h has.reached).ordered.1.1.1 number the.index the.accepted the.at the.number_is the.waits n.disk has.leaves.disk
      inside block
