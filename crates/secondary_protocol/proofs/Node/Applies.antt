-- A node's calls that change the disk are steps: it does an item, or fails it.
use Rattle.std.proofs.Common.{ℕ, ◌≡◌, ◌-◌, ◌≤◌, inl, inr, Bool, true, false, List, [], ◌++◌, length, take, Option, Some, None, Result, Ok, Err, slice_get, refl}
use Rattle.std.proofs.Common.{sym, ◌∙◌, ap, subst}
use Rattle.std.specs.Prelude.{is_some}
use Rattle.std.proofs.lemmas.Bool.{both_ways}
use Rattle.std.proofs.lemmas.List.{append-nil}
use Rattle.blocks.specs.declared.settings.Settings.{Settings}
use Rattle.blocks.specs.declared.settings.Protocol.{Protocol}
use Rattle.blocks.specs.declared.refusal.Refusal.{Refusal}
use Rattle.blocks.specs.declared.outcome.Reply.TheVariants as reply
use Rattle.blocks.specs.declared.outcome.What.TheVariants as what
use Rattle.model.specs.Stream.{StreamItem, Part, contents_of, below, within}
use Rattle.model.specs.Frames.{Packet}
use Rattle.model.specs.Refusals.{done_with}
use Rattle.model.specs.Secondary.{SecondaryConnection, SecondaryHistory, secondary_connection, no_secondary_connection, with_secondary_connection, items_taken}
use Rattle.model.specs.Secondary.{answers_due, map_of}
use Rattle.model.specs.SecondarySteps.{answering, applying, applied_answer, failing, offsets_at, applied_with}
use Rattle.model.specs.SecondarySteps as step
use Rattle.model.specs.LocalRuns.{Applies, FailsToApply}
use Rattle.laws.proofs.Lists.Each.{each-get}
use Rattle.laws.proofs.Lists.Last.{change-twice, last-at}
use Rattle.laws.proofs.Rules.DiskFaults.{fault-applied, reached-is}
use Rattle.laws.proofs.Secondary.Good.{IsGood}
use Rattle.laws.proofs.Secondary.Sound.{IsSound, Started}
use Rattle.laws.proofs.Secondary.Sound as sound
use Rattle.secondary_protocol.specs.Core.{EndState, SecondaryState, start, due, applied, peer, peer_fault}
use Rattle.secondary_protocol.specs.Core as core
use Rattle.peerdisk.specs.Pending as peerdisk
use Rattle.secondary_protocol.specs.Leaves.{Leaves, EndLeft}
use Rattle.secondary_protocol.specs.Node.{NodeState, NodeHas, NodeIsHad, NodeSteps}
use Rattle.secondary_protocol.specs.Steps.{Agrees, plainly}
use Rattle.secondary_protocol.proofs.Node.Apart.{AreApart, IsSettled, reached-settled}
use Rattle.secondary_protocol.proofs.Node.Due.{still-due}
use Rattle.secondary_protocol.proofs.Node.Grows.{Grows, grows-answering, taken-answering, map-answering, pushed-stays}
use Rattle.secondary_protocol.proofs.Node.Laid.{LaidAt, laid-map}
use Rattle.secondary_protocol.proofs.Node.Runs.{reached-step, node-refused, applies-to, fails-to}
use Rattle.secondary_protocol.proofs.Says.{states-say}
use Rattle.secondary_protocol.proofs.Starting.{starting}
use Rattle.secondary_protocol.proofs.Steps.Peers.{applies-agree, faults-agree, taken-some}
use Rattle.secondary_protocol.proofs.Tested.{secondary-connection-of, secondary-connection-with}

-- On a history that the node has, the item of a place that may start is the stream's, and lies over what is applied.
record MayApply (place : ℕ) (item : StreamItem) (h : SecondaryHistory) : Type 0 where
  some : h.connections ≡ [] → ⊥
  there : slice_get (items_taken (secondary_connection h)) place ≡ Some item
  sound : IsSound (secondary_connection h)
  started : Started (secondary_connection h) place sound
  apart : AreApart (items_taken (secondary_connection h))

may-apply : (n : NodeState) (place : ℕ) (item : StreamItem) (h : SecondaryHistory) → NodeHas n h → start place n.core ≡ Ok item → MayApply place item h
may-apply n place item h has starts = elim (starting (secondary_connection h) place) [
  | inl may ↦ record {
    some = some;
    there = there;
    sound = is_sound;
    started = sound.starting (secondary_connection h) place is_sound may.listed may.first;
    apart = settled.apart;
  }
  | inr may_not ↦ absurd (let one = may_not.starts in let other : start place n.core ≡ Err may_not.refusal =
      ap (peerdisk.start place) has.leaves.core.last.pending ∙ one in cc)
]
  where
    settled : IsSettled h
    settled = reached-settled h has.reached

    there : slice_get (items_taken (secondary_connection h)) place ≡ Some item
    there = (states-say n.core h has.leaves.core).items place item starts

    some : h.connections ≡ [] → ⊥
    some = taken-some h place item there

    is_sound : IsSound (secondary_connection h)
    is_sound = elim (last-at (no_secondary_connection h) h.connections) [
      | inl none ↦ absurd (some none)
      | inr at ↦ (each-get IsGood h.connections (length h.connections - 1) (secondary_connection h) settled.kept.good at).sound
    ]

-- What was pushed stays within what is due.
owed-bound : (v : Option EndState) (c : SecondaryConnection) → EndLeft v c → c.closed ≡ false → c.pushed - 3 ≤ length c.due
owed-bound None c left is_established = absurd (both_ways c.closed is_established left)
owed-bound (Some e) c left is_established = left.owed

-- What is due grows where an item is applied.
grows-applying : (asked : Protocol) (place : ℕ) (c : SecondaryConnection) → Grows c (applying asked place c)
grows-applying asked place c = go (slice_get (items_taken c) place)
  where
    by : (item : StreamItem) (b : Bool) → c.closed ≡ b → Grows c (record c {
      applied = c.applied ++ offsets_at place (below (length (contents_of item)));
      due = elim b [ true ↦ c.due | false ↦ c.due ++ applied_answer asked place item ];
    })
    by item true is = record { hello = refl; pushed = refl; more = []; due = sym (append-nil c.due); none = λ was. refl; shut = λ was. was }
    by item false is = record {
      hello = refl;
      pushed = refl;
      more = applied_answer asked place item;
      due = refl;
      none = λ was. absurd (both_ways c.closed is was);
      shut = λ was. was;
    }

    go : (v : Option StreamItem) → Grows c (applied_with v asked place c)
    go None = record { hello = refl; pushed = refl; more = []; due = sym (append-nil c.due); none = λ was. refl; shut = λ was. was }
    go (Some item) = by item c.closed refl

-- What is applied lies over the disk, and leaves what was taken.
applied-is : (asked : Protocol) (place : ℕ) (item : StreamItem) (c : SecondaryConnection) → slice_get (items_taken c) place ≡ Some item
    → applying asked place c ≡ record c {
      applied = c.applied ++ offsets_at place (below (length (contents_of item)));
      due = elim c.closed [ true ↦ c.due | false ↦ c.due ++ applied_answer asked place item ];
    }
applied-is asked place item c there = ap (λ (v : Option StreamItem). applied_with v asked place c) there

-- The disk did an item.
module _ (n : NodeState) (place : ℕ) (item : StreamItem) (starts : start place n.core ≡ Ok item) where
  done-agrees : (h : SecondaryHistory) → Leaves n.core h → Agrees plainly (Ok tt, applied place n.core) (step.peer place h)
  done-agrees h left = subst (λ (r : Result StreamItem Refusal). Agrees plainly
      (elim r as (λ _. Result (Unit {0}) Refusal × SecondaryState) [ Err refusal ↦ (Err refusal, n.core) | Ok item ↦ (Ok tt, applied place n.core) ])
      (step.peer place h)) starts (applies-agree place n.core h left)

  done-last : (h : SecondaryHistory) → NodeHas n h
      → secondary_connection (step.peer place h).1 ≡ answering (applying h.settings.protocol place (secondary_connection h))
  done-last h has =
      let agrees = done-agrees h has.leaves.core in
      ap secondary_connection (applies-to place h (done_with what.Nothing) agrees.reply)
      ∙ secondary-connection-of (λ x. answering (applying h.settings.protocol place x)) h
      (with_secondary_connection answering (with_secondary_connection (applying h.settings.protocol place) h))
      (change-twice (applying h.settings.protocol place) answering h.connections) (may-apply n place item h has starts).some

  done-settings : (h : SecondaryHistory) → NodeHas n h → (step.peer place h).1.settings ≡ h.settings
  done-settings h has = ap (λ (g : SecondaryHistory). g.settings) (applies-to place h (done_with what.Nothing) (done-agrees h has.leaves.core).reply)

  done-grows : (h : SecondaryHistory) → NodeHas n h → Grows (secondary_connection h) (secondary_connection (step.peer place h).1)
  done-grows h has = subst (Grows (secondary_connection h)) (sym (done-last h has))
      (grows-answering (secondary_connection h) (applying h.settings.protocol place (secondary_connection h))
      (grows-applying h.settings.protocol place (secondary_connection h)))

  -- that is the step
  pub node-applies : (disk : List (List ℕ)) → ((block : ℕ) → LaidAt item (below (length (contents_of item))) n.disk disk block)
      → NodeSteps (Applies place) n (reply.Ok (done_with what.Nothing)) (record n { core = applied place n.core; disk = disk })
  node-applies disk laid = record {
    replies = λ h has. (done-agrees h has.leaves.core).reply;
    after = λ h has.
        let c = secondary_connection h in
        let may = may-apply n place item h has starts in
        let last = done-last h has in
        let form = applied-is h.settings.protocol place item (secondary_connection h) may.there in record {
          leaves = record {
            core = (done-agrees h has.leaves.core).leaves;
            disk = λ block.
                laid-map (secondary_connection h) place item may.sound may.started may.apart may.there (below (length (contents_of item))) n.disk disk
                has.leaves.disk laid
                block
                ∙ sym (ap (λ (d : SecondaryConnection). map_of d block) last
                ∙ (map-answering (applying h.settings.protocol place (secondary_connection h)) block ∙ ap (λ (d : SecondaryConnection). map_of d block) form));
            pushed = has.leaves.pushed ∙ (sym
                (pushed-stays h.settings (secondary_connection h) (secondary_connection (step.peer place h).1) (done-grows h has)
                (owed-bound n.core.end (secondary_connection h) has.leaves.core.last.end))
                ∙ ap (λ (x : Settings). take (secondary_connection (step.peer place h).1).pushed (answers_due x (secondary_connection (step.peer place h).1)))
                (sym (done-settings h has)));
            taken = has.leaves.taken ∙ sym (ap (λ (d : SecondaryConnection). d.taken) last
                ∙ (taken-answering (applying h.settings.protocol place (secondary_connection h)) ∙ ap (λ (d : SecondaryConnection). d.taken) form));
          };
          reached = reached-step (Applies place) h has.reached;
        };
  }

  -- what was due is due then
  pub applies-due : (packet : Packet) → NodeIsHad n → due n.core ≡ Ok packet → is_some (applied place n.core).end ≡ true
      → due (applied place n.core) ≡ Ok packet
  applies-due packet is_had =
      let h = is_had.history in
      let has = is_had.has in
      still-due n.core (applied place n.core) h (step.peer place h).1 packet has.leaves.core (done-agrees h has.leaves.core).leaves (done-settings h has)
      (done-grows h has)

  -- It failed, and left some offsets of the item new.
  failed-agrees : (offsets : List ℕ) (h : SecondaryHistory) → Leaves n.core h
      → Agrees plainly (Ok tt, core.failing place n.core) (step.peer_fault place offsets h)
  failed-agrees offsets h left = subst
      (λ (r : Result StreamItem Refusal). Agrees plainly
      (elim r as (λ _. Result (Unit {0}) Refusal × SecondaryState) [ Err refusal ↦ (Err refusal, n.core) | Ok item ↦ (Ok tt, core.failing place n.core) ])
      (step.peer_fault place offsets h)) starts
      (faults-agree place offsets n.core h left)

  -- that is the step
  pub node-fails : (offsets : List ℕ) (disk : List (List ℕ)) → ((block : ℕ) → LaidAt item (within (length (contents_of item)) offsets) n.disk disk block)
      → NodeSteps (FailsToApply place offsets) n (reply.Ok (done_with what.Nothing)) (record n { core = core.failing place n.core; disk = disk })
  node-fails offsets disk laid = record {
    replies = λ h has. (failed-agrees offsets h has.leaves.core).reply;
    after = λ h has.
        let may = may-apply n place item h has starts in
        let to = fails-to place offsets h (done_with what.Nothing) (failed-agrees offsets h has.leaves.core).reply in
        let last : secondary_connection (step.peer_fault place offsets h).1 ≡ failing place offsets (secondary_connection h) = ap secondary_connection to
        ∙ secondary-connection-with (failing place offsets) h may.some in
        let grows : Grows (secondary_connection h) (failing place offsets (secondary_connection h)) = record {
          hello = refl;
          pushed = refl;
          more = [];
          due = sym (append-nil (secondary_connection h).due);
          none = λ was. refl;
          shut = λ was. refl;
        } in record {
          leaves = record {
            core = (failed-agrees offsets h has.leaves.core).leaves;
            disk = λ block.
                laid-map (secondary_connection h) place item may.sound may.started may.apart may.there (within (length (contents_of item)) offsets) n.disk disk
                has.leaves.disk laid block
                ∙ sym (ap (λ (d : SecondaryConnection). map_of d block) last
                ∙ ap (λ (part : Part). map_of (record (secondary_connection h) { applied = part }) block) (fault-applied place offsets (secondary_connection h)
                ∙ ap (λ (l : List ℕ). (secondary_connection h).applied ++ offsets_at place l)
                (reached-is place offsets (secondary_connection h) item may.there)));
            pushed = has.leaves.pushed ∙ (sym
                (pushed-stays h.settings (secondary_connection h) (secondary_connection (step.peer_fault place offsets h).1)
                (subst (Grows (secondary_connection h)) (sym last) grows)
                (owed-bound n.core.end (secondary_connection h) has.leaves.core.last.end))
                ∙ ap (λ (x : Settings). take (secondary_connection (step.peer_fault place offsets h).1).pushed
                (answers_due x (secondary_connection (step.peer_fault place offsets h).1)))
                (sym (ap (λ (g : SecondaryHistory). g.settings) to)));
            taken = has.leaves.taken ∙ sym (ap (λ (d : SecondaryConnection). d.taken) last);
          };
          reached = reached-step (FailsToApply place offsets) h has.reached;
        };
  }

-- A place that may not start leaves the node.
pub node-not-started : (n : NodeState) (place : ℕ) (e : Refusal) → start place n.core ≡ Err e → NodeSteps (Applies place) n (reply.Refused e) n
node-not-started n place e refused = node-refused (Applies place) tt n e (λ h left.
    (subst (λ (r : Result StreamItem Refusal). Agrees plainly
    (elim r as (λ _. Result (Unit {0}) Refusal × SecondaryState) [ Err refusal ↦ (Err refusal, n.core) | Ok item ↦ (Ok tt, applied place n.core) ])
    (step.peer place h)) refused (applies-agree place n.core h left)).reply)
