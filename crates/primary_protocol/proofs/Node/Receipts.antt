-- A caller takes a receipt of a node.
use Rattle.std.proofs.Common.{ℕ, ◌≡◌, Option, Result, Ok, Err, refl, sym, ◌∙◌, ap, subst}
use Rattle.std.specs.Result.{result_map_both}
use Rattle.blocks.specs.Positions.{StreamPosition}
use Rattle.blocks.specs.declared.refusal.Refusal.{Refusal}
use Rattle.blocks.specs.declared.outcome.What.TheVariants as what
use Rattle.blocks.specs.declared.outcome.Reply.TheVariants as reply
use Rattle.model.specs.Refusals.{done_with}
use Rattle.model.specs.Primary.{CompletionKind, Completion, PrimaryHistory}
use Rattle.model.specs.PrimarySteps as step
use Rattle.model.specs.Settlement.{Receipt, receipt_of}
use Rattle.model.specs.LocalRuns.{Receipts}
use Rattle.primary_protocol.specs.Core.{Completed, JournalEntry, PrimaryState}
use Rattle.primary_protocol.specs.Transitions.{take_completed}
use Rattle.primary_protocol.specs.Leaves.{Leaves, is_linked}
use Rattle.primary_protocol.specs.Node.{NodeState, NodeHas, NodeSteps, IsStep, take_receipt}
use Rattle.primary_protocol.specs.Steps.{SameAnswer, TellsReceipt}
use Rattle.primary_protocol.proofs.Node.Due.{kept-leaves}
use Rattle.primary_protocol.proofs.Node.Keeps.{unchanged, receipts-keeps}
use Rattle.primary_protocol.proofs.Node.Runs.{node-steps}
use Rattle.primary_protocol.proofs.Receipts.Receipts.{receipts-agree}

-- the receipt of an entry that was completed
abbrev pub receipt_with : ℕ → JournalEntry → CompletionKind → Option StreamPosition → Receipt
receipt_with number entry kind home = record {
  number = number;
  first = entry.first;
  count = entry.count;
  kind = kind;
  home = home;
}

module _ (n : NodeState) (number : ℕ) (got : Result JournalEntry Refusal) (core : PrimaryState) (is : (got, core) ≡ take_completed number n.core) where
  tells : (h : PrimaryHistory) → NodeHas n h → TellsReceipt number n.core h
  tells h has = receipts-agree number n.core h has.reached has.leaves.core

  answer : (h : PrimaryHistory) → NodeHas n h → SameAnswer number got (step.take_completed number h).0
  answer h has = subst (λ (r : Result JournalEntry Refusal). SameAnswer number r (step.take_completed number h).0)
      (sym (ap (λ (p : Result JournalEntry Refusal × PrimaryState). p.0) is)) (tells h has).answer

  -- the history after it
  pub node-receipted : NodeSteps (Receipts number) n (reply.Ok (done_with what.Nothing)) (record n { core = core })
  node-receipted = node-steps (Receipts number) n (reply.Ok (done_with what.Nothing)) (record n { core = core }) (λ h has. record {
    reply = refl;
    leaves = kept-leaves n core n.disk n.taken h (step.take_completed number h).1 (unchanged h) has.leaves
        (subst (λ (s : PrimaryState). Leaves s (step.take_completed number h).1) (sym (ap (λ (p : Result JournalEntry Refusal × PrimaryState). p.1) is))
        (tells h has).leaves)
        (receipts-keeps number h) has.leaves.disk has.leaves.taken n.faithful has.leaves.faithful;
  })

  -- the call answers what the step answers
  pub node-receipt : (returned : Result Receipt Refusal) → ((e : Refusal) → got ≡ Err e → returned ≡ Err e)
      → ((entry : JournalEntry) (kind : CompletionKind) (home : Option StreamPosition) → got ≡ Ok entry → entry.fate ≡ Completed (is_linked kind) home
      → returned ≡ Ok (receipt_with number entry kind home))
      → IsStep (take_receipt number) n returned (record n { core = core })
  node-receipt returned refused given = record {
    replies = λ h has. go got (step.take_completed number h).0 refl (answer h has);
    after = λ h has. node-receipted.after h has;
  }
    where
      go : (r : Result JournalEntry Refusal) (v : Result Completion Refusal) → got ≡ r → SameAnswer number r v
          → returned ≡ result_map_both receipt_of (λ e. e) v
      go (Ok entry) (Ok completion) at same =
          given entry completion.kind completion.home at same.3
          ∙ λ i. Ok (record {
            number = sym same.0 i;
            first = same.1 i;
            count = same.2 i;
            kind = completion.kind;
            home = completion.home;
          })
      go (Err e) (Err other) at same = refused e at ∙ ap Err same
      go (Ok entry) (Err other) at same = absurd same
      go (Err e) (Ok completion) at same = absurd same
