-- A node whose disk fails an item after so many blocks.
use Rattle.std.proofs.Common.{ℕ, ◌≡◌, ◌<◌, ◌≤◌, inl, inr, Bool, false, not, List, [], ◌∷◌, ◌++◌, length, map, Option, Some, None, Ok, Err, slice_get, sym, ◌∙◌}
use Rattle.std.proofs.Common.{ap, subst}
use Rattle.std.specs.Prelude.{option_map}
use Rattle.std.proofs.lemmas.Bool.{le-ltb, lt-ltb}
use Rattle.blocks.specs.declared.refusal.Refusal.{Refusal}
use Rattle.blocks.specs.declared.refusal.Refusal.TheVariants.{UnknownJob, EpochOpen, BadRange}
use Rattle.blocks.specs.declared.outcome.Reply.{Reply}
use Rattle.blocks.specs.declared.outcome.Reply.TheVariants as reply
use Rattle.blocks.specs.declared.outcome.What.TheVariants as what
use Rattle.model.specs.Pair.{keeps_too_many, peer_fault_kept}
use Rattle.model.specs.Refusals.{Test, first_refusal, done_with}
use Rattle.model.specs.Stream.{StreamItem, contents_of, below, within}
use Rattle.model.specs.Secondary.{SecondaryHistory, secondary_connection, items_taken, pending}
use Rattle.model.specs.SecondarySteps.{has_earlier, peer_fault, peer_tests}
use Rattle.secondary_protocol.specs.Core.{failing, start}
use Rattle.secondary_protocol.specs.Leaves.{pending_in}
use Rattle.secondary_protocol.specs.Node.{NodeState, NodeHas, IsStep}
use Rattle.secondary_protocol.proofs.Node.Applies.{node-fails}
use Rattle.secondary_protocol.proofs.Node.Laid.{LaidAt}
use Rattle.secondary_protocol.proofs.Starting.{starting}
use Rattle.secondary_protocol.proofs.Steps.Peers.{tests-pass}
use Rattle.peerdisk.specs.Pending as peerdisk

-- the step by the outcome of its first tests, and by how many blocks the item has
abbrev by-tests : ℕ → ℕ → List Test → Option StreamItem → SecondaryHistory → Reply × SecondaryHistory
by-tests place kept tests item h =
    elim (first_refusal (tests ++ (keeps_too_many kept (option_map (λ (one : StreamItem). length (contents_of one)) item), BadRange) ∷ [])) as
    (λ _. Reply × SecondaryHistory) [
      | Some refusal ↦ (reply.Refused refusal, h)
      | None ↦ peer_fault place (below kept) h
    ]

-- A step that is refused leaves the node.
refuses : (step : SecondaryHistory → Reply × SecondaryHistory) (n : NodeState) (e : Refusal)
    → ((h : SecondaryHistory) → NodeHas n h → step h ≡ (reply.Refused e, h)) → IsStep step n (reply.Refused e) n
refuses step n e is = record {
  replies = λ h has. sym (ap (λ (p : Reply × SecondaryHistory). p.0) (is h has));
  after = λ h has. subst (NodeHas n) (sym (ap (λ (p : Reply × SecondaryHistory). p.1) (is h has))) has;
}

-- what may start on a history that the node has
may-start : (n : NodeState) (place : ℕ) (item : StreamItem) (h : SecondaryHistory) → NodeHas n h → start place n.core ≡ Ok item
    → (peer_tests h place ≡ (false, UnknownJob) ∷ (false, EpochOpen) ∷ []) × (slice_get (items_taken (secondary_connection h)) place ≡ Some item)
may-start n place item h has starts = elim (starting (secondary_connection h) place) [
  | inl may ↦
      let one : start place n.core ≡ Ok may.item = ap (peerdisk.start place) has.leaves.core.last.pending ∙ may.starts in
      let same : may.item ≡ item = cc in (
        tests-pass h place (map (pending_in (items_taken (secondary_connection h))) (pending (secondary_connection h))) may,
        may.there
            ∙ ap (λ (i : StreamItem). Some i) same,
      )
  | inr may_not ↦ absurd (let other : start place n.core ≡ Err may_not.refusal = ap (peerdisk.start place) has.leaves.core.last.pending ∙ may_not.starts in cc)
]

-- The place may not start.
pub node-fault-not-started : (n : NodeState) (place kept : ℕ) (e : Refusal) → start place n.core ≡ Err e
    → IsStep (peer_fault_kept place kept) n (reply.Refused e) n
node-fault-not-started n place kept e refused = refuses (peer_fault_kept place kept) n e (λ h has. elim (starting (secondary_connection h) place) [
  | inl may ↦ absurd (let other : start place n.core ≡ Ok may.item = ap (peerdisk.start place) has.leaves.core.last.pending ∙ may.starts in cc)
  | inr may_not ↦
      let other : start place n.core ≡ Err may_not.refusal = ap (peerdisk.start place) has.leaves.core.last.pending ∙ may_not.starts in
      let same : may_not.refusal ≡ e = cc in
      elim may_not.tested [
        | inl unknown ↦ ap (λ b. by-tests place kept ((not b, UnknownJob) ∷ (has_earlier (secondary_connection h) place, EpochOpen) ∷ [])
            (slice_get (items_taken (secondary_connection h)) place) h) unknown.0 ∙ ap (λ (r : Refusal). (reply.Refused r, h)) (sym unknown.1 ∙ same)
        | inr earlier ↦ ap (λ b. by-tests place kept ((not b, UnknownJob) ∷ (has_earlier (secondary_connection h) place, EpochOpen) ∷ [])
            (slice_get (items_taken (secondary_connection h)) place) h) earlier.0
            ∙ (ap (λ b. by-tests place kept ((false, UnknownJob) ∷ (b, EpochOpen) ∷ []) (slice_get (items_taken (secondary_connection h)) place) h) earlier.1
            ∙ ap (λ (r : Refusal). (reply.Refused r, h)) (sym earlier.2 ∙ same))
      ]
])

module _ (n : NodeState) (place kept : ℕ) (item : StreamItem) (starts : start place n.core ≡ Ok item) where
  -- the tests that are left
  started : (h : SecondaryHistory) → NodeHas n h
      → peer_fault_kept place kept h ≡ by-tests place kept ((false, UnknownJob) ∷ (false, EpochOpen) ∷ []) (Some item) h
  started h has =
      let may = may-start n place item h has starts in
      ap (λ (ts : List Test). by-tests place kept ts (slice_get (items_taken (secondary_connection h)) place) h) may.0
      ∙ ap (λ (v : Option StreamItem). by-tests place kept ((false, UnknownJob) ∷ (false, EpochOpen) ∷ []) v h) may.1

  abbrev left : Bool → SecondaryHistory → Reply × SecondaryHistory
  left many h = elim (first_refusal ((many, BadRange) ∷ [])) as
      (λ _. Reply × SecondaryHistory) [ Some refusal ↦ (reply.Refused refusal, h) | None ↦ peer_fault place (below kept) h ]

  -- The item has fewer blocks.
  pub node-keeps-too-many : length (contents_of item) < kept → IsStep (peer_fault_kept place kept) n (reply.Refused BadRange) n
  node-keeps-too-many many = refuses (peer_fault_kept place kept) n BadRange (λ h has. started h has
      ∙ ap (λ b. left b h) (lt-ltb (length (contents_of item)) kept many))

  -- The disk fails it.
  pub node-fails-kept : kept ≤ length (contents_of item) → (disk : List (List ℕ))
      → ((block : ℕ) → LaidAt item (within (length (contents_of item)) (below kept)) n.disk disk block)
      → IsStep (peer_fault_kept place kept) n (reply.Ok (done_with what.Nothing)) (record n { core = failing place n.core; disk = disk })
  node-fails-kept few disk laid =
      let steps = node-fails n place item starts (below kept) disk laid in
      let is : (h : SecondaryHistory) → NodeHas n h → peer_fault_kept place kept h ≡ peer_fault place (below kept) h = λ h has. started h has
      ∙ ap (λ b. left b h) (le-ltb (length (contents_of item)) kept few) in record {
        replies = λ h has. steps.replies h has ∙ sym (ap (λ (p : Reply × SecondaryHistory). p.0) (is h has));
        after = λ h has. subst (NodeHas (record n { core = failing place n.core; disk = disk })) (sym (ap (λ (p : Reply × SecondaryHistory). p.1) (is h has)))
            (steps.after h has);
      }
