-- A node whose disk does an item, or fails it.
use Rattle.std.proofs.Common.{ℕ, ◌≡◌, ◌+◌, ◌≤◌, true, List, length, take, Option, Some, None, Result, Ok, Err, refl, sym, ◌∙◌, ap, subst, subst₂, arith}
use Rattle.std.specs.Prelude.{is_some}
use Rattle.blocks.specs.Contents.{blocks_of, overwritten, IsTorn}
use Rattle.blocks.specs.Faults.{FaultState, written}
use Rattle.blocks.specs.declared.refusal.Refusal.{Refusal}
use Rattle.blocks.specs.declared.outcome.Done.{Done}
use Rattle.blocks.specs.declared.outcome.Reply.{Reply}
use Rattle.blocks.specs.declared.outcome.Reply.TheVariants as reply
use Rattle.blocks.specs.declared.outcome.What.TheVariants as what
use Rattle.model.specs.Frames.{Packet}
use Rattle.model.specs.Pair.{peer_fault_kept}
use Rattle.model.specs.Secondary.{SecondaryHistory}
use Rattle.model.specs.Stream.{StreamItem, contents_of, first_of, below, within}
use Rattle.model.specs.Refusals.{done_with}
use Rattle.model.specs.LocalRuns.{Applies, FailsToApply}
use Rattle.endpoint.specs.PacketSender.{PacketSenderState}
use Rattle.secondary_protocol.specs.Core.{EndState, SecondaryState, applied, failing, start}
use Rattle.secondary_protocol.specs.Node.{IsStep, NodeState, NodeSteps, secondary_step}
use Rattle.secondary_protocol.specs.Steps.{replied}
use Rattle.secondary_protocol.proofs.Node.Applies.{applies-due, node-applies, node-fails}
use Rattle.secondary_protocol.proofs.Node.Faults.{node-fails-kept}
use Rattle.secondary_protocol.proofs.Node.Laid.{LaidAt, kept-laid, torn-laid, torn_offsets, whole-laid}
use Rattle.secondary_protocol.proofs.Node.Runs.{node-had}
use Rattle.secondary_protocol.proofs.Node.Sized.{disk-long}
use Rattle.secondary.specs.State.{SecondaryView, node, IsBegun, IsDue, IsNode}
use Rattle.secondary.proofs.Kept.{StepsTo, numbered-same, shuts}

-- Blocks of the device are blocks of the disk.
pub on-disk : (v : SecondaryView) (item : StreamItem) → IsNode v → first_of item + length (contents_of item) ≤ v.core.settings.blocks
    → first_of item + length (contents_of item) ≤ length v.disk
on-disk v item is inside = let long = disk-long (node v) is.had in omega arith

-- the step of a call that was refused
pub refused-step : (step : SecondaryHistory → Reply × SecondaryHistory) (n : NodeState) (result : Result Done Refusal) (e : Refusal) → result ≡ Err e
    → IsStep step n (reply.Refused e) n → IsStep step n (replied (λ done. done) result) n
refused-step step n result e is steps = subst (λ (r : Result Done Refusal). IsStep step n (replied (λ done. done) r) n) (sym is) steps

-- The disk does the item, of which these are the bytes, or fails it.
module _ (v : SecondaryView) (place : ℕ) (item : StreamItem) (first : ℕ) (bytes contents : List ℕ) (core : SecondaryState) (disk : List (List ℕ)) (said : Done)
    (was : IsNode v) (starts : start place v.core ≡ Ok item) (inside : first_of item + length (contents_of item) ≤ v.core.settings.blocks)
    (at : first ≡ first_of item) (shown : bytes ≡ contents) (whole : blocks_of 4096 contents ≡ contents_of item) (plain : said ≡ done_with what.Nothing) where
  blocks : blocks_of 4096 bytes ≡ contents_of item
  blocks = ap (blocks_of 4096) shown ∙ whole

  fits : first_of item + length (contents_of item) ≤ length v.disk
  fits = on-disk v item was inside

  -- it does all of it
  pub done : core ≡ applied place v.core → disk ≡ overwritten v.disk first (blocks_of 4096 bytes)
      → StepsTo (secondary_step (Applies place)) v (reply.Ok said) core disk
  done does written =
      subst₂ (λ (d : Done) (x : SecondaryState). StepsTo (secondary_step (Applies place)) v (reply.Ok d) x disk) (sym plain) (sym does) (record {
        steps = steps;
        is = λ faults steady faithful. record {
          had = node-had (Applies place) (node v) (reply.Ok (done_with what.Nothing)) (record (node v) { core = applied place v.core; disk = disk }) was.had
              steps;
          out_there = λ is_established. was.out_there (stays v.core.end is_established);
          in_there = λ is_established. was.in_there (stays v.core.end is_established);
          begun = begun v.outgoing was.begun;
          numbered = numbered-same v.outgoing v.incoming v.core (applied place v.core) refl was.numbered;
        };
      })
    where
      steps : NodeSteps (Applies place) (node v) (reply.Ok (done_with what.Nothing)) (record (node v) { core = applied place v.core; disk = disk })
      steps = node-applies (node v) place item starts disk
          (λ block. subst (λ (d : List (List ℕ)). LaidAt item (below (length (contents_of item))) v.disk d block)
          (sym (written ∙ (λ i. overwritten v.disk (at i) (blocks i)))) (whole-laid item v.disk fits block))

      stays : (x : Option EndState) → is_some (applied place (record v.core { end = x })).end ≡ true → is_some x ≡ true
      stays None is_established = is_established
      stays (Some e) is_established = refl

      due : (x : Option (List Packet)) → IsDue x v.core → IsDue x (applied place v.core)
      due None old = tt
      due (Some begun) old = λ is_established.
          let one = old (stays v.core.end is_established) in (one.0, applies-due (node v) place item starts one.0 was.had one.1 is_established, one.2)

      begun : (x : Option PacketSenderState) → IsBegun x v.core → IsBegun x (applied place v.core)
      begun None old = tt
      begun (Some x) old = due x.partly old

  -- it fails, and leaves any of its blocks new
  pub failed : core ≡ failing place v.core → IsTorn v.disk first (blocks_of 4096 bytes) disk
      → (offsets : List ℕ) × StepsTo (secondary_step (FailsToApply place offsets)) v (reply.Ok said) core disk
  failed does torn =
      let is_torn : IsTorn v.disk (first_of item) (contents_of item) disk = subst₂ (λ (n : ℕ) (l : List (List ℕ)). IsTorn v.disk n l disk) at blocks torn in
      let offsets : List ℕ = torn_offsets item v.disk fits disk is_torn in (
        offsets,
        subst₂ (λ (d : Done) (x : SecondaryState). StepsTo (secondary_step (FailsToApply place offsets)) v (reply.Ok d) x disk) (sym plain) (sym does)
            (shuts (secondary_step (FailsToApply place offsets)) v (reply.Ok (done_with what.Nothing)) (failing place v.core) disk was
            (node-fails (node v) place item starts offsets disk (torn-laid item v.disk fits disk is_torn)) refl refl),
      )

  -- it fails after its first blocks
  pub failed-after : (kept : ℕ) → kept ≤ length (contents_of item) → core ≡ failing place v.core
      → disk ≡ overwritten v.disk first (take kept (blocks_of 4096 bytes)) → StepsTo (peer_fault_kept place kept) v (reply.Ok said) core disk
  failed-after kept few does written =
      subst₂ (λ (d : Done) (x : SecondaryState). StepsTo (peer_fault_kept place kept) v (reply.Ok d) x disk) (sym plain) (sym does)
      (shuts (peer_fault_kept place kept) v (reply.Ok (done_with what.Nothing)) (failing place v.core) disk was
      (node-fails-kept (node v) place kept item starts few disk (λ block.
      subst (λ (d : List (List ℕ)). LaidAt item (within (length (contents_of item)) (below kept)) v.disk d block)
      (sym (written ∙ (λ i. overwritten v.disk (at i) (take kept (blocks i))))) (kept-laid item v.disk fits kept few block))) refl refl)

-- the disk after an armed write
pub armed-write : (s t u : FaultState) (kept first : ℕ) (blocks : List (List ℕ)) → t ≡ record s { write_arming = Some (record { passes = 0; kept = kept }) }
    → u ≡ written first blocks t → u.disk ≡ overwritten s.disk first (take kept blocks)
armed-write s t u kept first blocks armed after = ap (λ (x : FaultState). x.disk) (after ∙ ap (written first blocks) armed)
