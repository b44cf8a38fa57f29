-- A caller takes the receipt of a write.
use Rattle.std.proofs.Common.{ℕ, suc, ◌≡◌, ◌<◌, ◌≤◌, Bool, true, false, Option, Some, None, Result, Ok, Err, refl, sym, ◌∙◌, ap, subst, arith}
use Rattle.std.specs.Prelude.{ok_or}
use Rattle.std.specs.Option.{option_map}
use Rattle.blocks.specs.Positions.{StreamPosition}
use Rattle.blocks.specs.declared.refusal.Refusal.{Refusal}
use Rattle.blocks.specs.declared.refusal.Refusal.TheVariants.{NotCompleted}
use Rattle.blocks.specs.declared.outcome.What.TheVariants as what
use Rattle.blocks.specs.declared.outcome.Reply.TheVariants as reply
use Rattle.model.specs.Refusals.{done_with}
use Rattle.model.specs.Primary.{CompletionKind, Linked, Alone}
use Rattle.model.specs.Settlement.{Receipt}
use Rattle.model.specs.LocalRuns.{Receipts}
use Rattle.primary_protocol.specs.Core.{Fate, Completed, JournalEntry, PrimaryState}
use Rattle.primary_protocol.specs.Leaves.{is_linked}
use Rattle.primary_protocol.specs.Node.{IsStep, take_receipt}
use Rattle.primary_protocol.specs.Transitions.{take_completed}
use Rattle.primary_protocol.proofs.Node.Keeps.{receipts-keeps}
use Rattle.primary_protocol.proofs.Node.Receipts.{node-receipt, node-receipted, receipt_with}
use Rattle.primary.specs.Receipts.{kind_of, receipt_in}
use Rattle.primary.specs.State.{PrimaryView, IsNode, node}
use Rattle.primary.proofs.Kept.{plain-is}

pub kind-back : (k : CompletionKind) → kind_of (is_linked k) ≡ k
kind-back Linked = refl
kind-back Alone = refl

-- the receipt of a completed write
receipt-as : (number : ℕ) (entry : JournalEntry) (kind : CompletionKind) (home : Option StreamPosition) → entry.fate ≡ Completed (is_linked kind) home
    → receipt_in number entry ≡ Some (receipt_with number entry kind home)
receipt-as number entry kind home is =
    ap (λ (fate : Fate). receipt_in number (record entry { fate = fate })) is
    ∙ ap (λ k. Some (record (receipt_with number entry kind home) { kind = k })) (kind-back kind)

module _ (v : PrimaryView) (before : IsNode v) (number : ℕ) (got : Result JournalEntry Refusal) (core : PrimaryState)
    (is : (got, core) ≡ take_completed number v.core)
  where
    -- a node it stays
    pub receipt-is : IsNode (record v { core = core })
    receipt-is = plain-is (Receipts number) v core (reply.Ok (done_with what.Nothing)) (receipts-keeps number) before
        (node-receipted (node v) number got core is)

    -- there is none to take
    pub receipt-refused : (e : Refusal) (returned : Result Receipt Refusal) → got ≡ Err e → returned ≡ Err e
        → IsStep (take_receipt number) (node v) returned (node (record v { core = core }))
    receipt-refused e returned was said = node-receipt (node v) number got core is returned (λ x at. said
        ∙ ap Err (let same : Err e ≡ Err x = sym was ∙ at in let equal : e ≡ x = cc in equal)) (λ entry kind home at fate. let no : Err e ≡ Ok entry = sym was
        ∙ at in absurd (cc))

    -- it is told as the entry has it
    pub receipt-given : (entry : JournalEntry) (returned : Result Receipt Refusal) → got ≡ Ok entry → returned ≡ ok_or (receipt_in number entry) NotCompleted
        → IsStep (take_receipt number) (node v) returned (node (record v { core = core }))
    receipt-given entry returned was said =
        node-receipt (node v) number got core is returned (λ x at. let no : Ok entry ≡ Err x = sym was ∙ at in absurd (cc))
        (λ other kind home at fate.
        let both : Ok entry ≡ Ok other = sym was ∙ at in
        let same : entry ≡ other = cc in
        said ∙ (ap (λ (e : JournalEntry). ok_or (receipt_in number e) NotCompleted) same
        ∙ ap (λ (r : Option Receipt). ok_or r NotCompleted) (receipt-as number other kind home fate)))
