-- A resync reads its next block, or the local disk fails that.
use Rattle.std.proofs.Common.{ℕ, ◌≡◌, Bool, true, false, not, ◌||◌, List, [], ◌∷◌, length, Option, Some, None, Result, Ok, Err, refl, sym, ◌∙◌, ap, subst}
use Rattle.std.proofs.Common.{nat_lt}
use Rattle.std.specs.Prelude.{is_some, is_none, unwrap_or}
use Rattle.blocks.specs.declared.refusal.Refusal.{Refusal}
use Rattle.blocks.specs.declared.refusal.Refusal.TheVariants.{NotConnected, NothingToDo, ReadFault}
use Rattle.blocks.specs.declared.outcome.Done.{Done}
use Rattle.blocks.specs.declared.outcome.Reply.{Reply}
use Rattle.blocks.specs.declared.outcome.Reply.TheVariants as reply
use Rattle.blocks.specs.declared.outcome.What.TheVariants as what
use Rattle.model.specs.Stream.{StreamItem, ResyncItem}
use Rattle.model.specs.Primary.{PrimaryConnection, PrimaryHistory, primary_connection, resync_runs, under_way, free_block, local_map}
use Rattle.model.specs.PrimarySteps as step
use Rattle.model.specs.PrimarySteps.{appending}
use Rattle.resync.specs.Next.{next_block}
use Rattle.primary_protocol.specs.Core.{UnderWay, EndState, PrimaryState, tested}
use Rattle.primary_protocol.specs.Transitions as transition
use Rattle.primary_protocol.specs.Transitions.{copying}
use Rattle.primary_protocol.specs.Leaves.{UnderWayLeft, LeavesEnd, EndLeft, Leaves}
use Rattle.primary_protocol.specs.Steps.{IsReached, Agrees, ResyncsAgree, ResyncFaultsAgree}
use Rattle.primary_protocol.proofs.Resync.NextBlock.{next-is, held-alone, copying-due}
use Rattle.primary_protocol.proofs.Common.Following.{follow}
use Rattle.primary_protocol.proofs.Common.Reached.{reached-ordered, refused-agrees, tested-agrees, from-follow}
use Rattle.primary_protocol.proofs.Send.Due.{places-are}
use Rattle.laws.proofs.Rules.Memory.{may-copy, copy-tests-by}
use Rattle.std.proofs.Common.{drop}

-- whether a block is under way
way-same : (v : Option UnderWay) (c : PrimaryConnection) → UnderWayLeft v c → is_some v ≡ nat_lt 0 (length (under_way c))
way-same None c none = sym (ap (λ (l : List (ℕ × StreamItem)). nat_lt 0 (length l)) none)
way-same (Some way) c left = sym (ap (λ (l : List (ℕ × StreamItem)). nat_lt 0 (length l)) left.1)

-- where none is, nothing is under way
none-way : (v : Option UnderWay) (c : PrimaryConnection) → UnderWayLeft v c → is_some v ≡ false → under_way c ≡ []
none-way None c none is = none
none-way (Some way) c left is = absurd (cc)

module _ (out_of_memory : Bool) (s : PrimaryState) (h : PrimaryHistory) (e : EndState) (reached : IsReached h) (left : Leaves s h)
    (end : LeavesEnd e (primary_connection h)) where
  next-same : is_some e.under_way ≡ false → next_block s.marks s.held ≡ free_block h
  next-same alone = next-is s h left.rest.marks (held-alone s h left.rest.held (none-way e.under_way (primary_connection h) end.under_way alone))

  same_first : (not e.resync || (is_some e.under_way || is_none (next_block s.marks s.held))) ≡
      (not (resync_runs (primary_connection h)) || (nat_lt 0 (length (under_way (primary_connection h))) || is_none (free_block h)))
  same_first = (λ i. not (end.resync i) || go (is_some e.under_way) refl i)
      ∙ ap (λ b. not (resync_runs (primary_connection h)) || (b || is_none (free_block h))) (way-same e.under_way (primary_connection h) end.under_way)
    where
      go : (b : Bool) → is_some e.under_way ≡ b → (is_some e.under_way || is_none (next_block s.marks s.held)) ≡ (is_some e.under_way || is_none (free_block h))
      go true is = ap (λ b. b || is_none (next_block s.marks s.held)) is ∙ sym (ap (λ b. b || is_none (free_block h)) is)
      go false is = ap (λ v. is_some e.under_way || is_none v) (next-same is)

  -- the tests are the same
  resync-tests-same : transition.resync_tests out_of_memory e s ≡ drop 1 (step.resync_tests h out_of_memory)
  resync-tests-same = copy-tests-by h out_of_memory (not e.resync || (is_some e.under_way || is_none (next_block s.marks s.held))) s.log.epochs.places
      same_first
      (places-are s h left (reached-ordered h reached).ordered.1.1.0.0 end.is_open)

  -- The block is copied.
  copies : (read : Option (List ℕ)) (block : ℕ) (contents : List ℕ) → contents ≡ step.given read h block → resync_runs (primary_connection h) ≡ true
      → under_way (primary_connection h) ≡ []
      → free_block h ≡ Some block
      → Agrees reply.Ok (
        Ok (copying block contents e s).0,
        (copying block contents e s).1,
      )
      (step.succeeding (what.Block (record { 0 = block }) (length (primary_connection h).stream))
      (step.copying read block h))
  copies read block contents are runs none free =
      let known = reached-ordered h reached in
      subst (λ (l : List ℕ). Agrees reply.Ok (
        Ok (copying block l e s).0,
        (copying block l e s).1,
      ) (step.succeeding (what.Block (record { 0 = block }) (length (primary_connection h).stream))
      (step.copying read block h))) (sym are)
      (subst (λ (n : ℕ). Agrees reply.Ok (Ok (copying block (step.given read h block) e s).0, (copying block (step.given read h block) e s).1)
      (step.succeeding (what.Block (record { 0 = block }) n) (step.copying read block h)))
      (places-are s h left known.ordered.1.1.0.0 end.is_open)
      (from-follow _ _ (follow _ None (step.copying read block h)
      (copying-due known.settings known.bound s h e left known.ordered end runs none block free read) (what.Block (record { 0 = block }) s.log.epochs.places))))

  resync-agrees : (disk : ℕ → List ℕ) (read : Option (List ℕ)) → ((block : ℕ) → disk block ≡ step.given read h block)
      → Agrees reply.Ok (tested s (transition.resync_tests out_of_memory e s)
      (λ _. elim (next_block s.marks s.held) as (λ _. Result Done Refusal × PrimaryState) [
        | None ↦ (Err NothingToDo, s)
        | Some block ↦ let after = copying block (disk block) e s in (Ok after.0, after.1)
      ]))
      (step.tested h (drop 1 (step.resync_tests h out_of_memory)) (λ _. elim (free_block h) as (λ _. Reply × PrimaryHistory) [
        | None ↦ (reply.Refused NothingToDo, h)
        | Some block ↦ step.succeeding (what.Block (record { 0 = block }) (length (primary_connection h).stream))
            (step.copying read block h)
      ]))
  resync-agrees disk read holds =
      tested-agrees reply.Ok s h (transition.resync_tests out_of_memory e s) (drop 1 (step.resync_tests h out_of_memory))
      (λ _. core-by (next_block s.marks s.held)) (λ _. model-by (free_block h)) resync-tests-same left
      (λ none.
      let may = may-copy h out_of_memory none in
      let alone = way-same e.under_way (primary_connection h) end.under_way ∙ may.alone in
      subst (λ (v : Option ℕ). Agrees reply.Ok (core-by v) (model-by (free_block h))) (sym (next-same alone))
      (go (free_block h) refl may.runs (none-way e.under_way (primary_connection h) end.under_way alone)))
    where
      core-by : Option ℕ → Result Done Refusal × PrimaryState
      core-by v = elim v [ None ↦ (Err NothingToDo, s) | Some block ↦ let after = copying block (disk block) e s in (Ok after.0, after.1) ]

      model-by : Option ℕ → Reply × PrimaryHistory
      model-by v = elim v [
        | None ↦ (reply.Refused NothingToDo, h)
        | Some block ↦ step.succeeding (what.Block (record { 0 = block }) (length (primary_connection h).stream))
            (step.copying read block h)
      ]

      go : (v : Option ℕ) → free_block h ≡ v → resync_runs (primary_connection h) ≡ true → under_way (primary_connection h) ≡ []
          → Agrees reply.Ok (core-by v) (model-by v)
      go None is runs none = record { reply = refl; leaves = left }
      go (Some block) is runs none = copies read block (disk block) (holds block) runs none is

  fault-agrees : Agrees reply.Ok (tested s (transition.resync_tests out_of_memory e s) (λ _. (Err ReadFault, s)))
      (step.tested h (drop 1 (step.resync_tests h out_of_memory)) (λ _. (reply.Refused ReadFault, h)))
  fault-agrees = tested-agrees reply.Ok s h _ _ (λ _. (Err ReadFault, s)) (λ _. (reply.Refused ReadFault, h)) resync-tests-same left
      (λ none. record { reply = refl; leaves = left })

-- A closed end refuses both; an open one has the tests that are left.
module _ (out_of_memory : Bool) (s : PrimaryState) (h : PrimaryHistory) (left : Leaves s h) (done : EndState → Unit {0}
    → Result Done Refusal × PrimaryState) (answer : Unit {0} → Reply × PrimaryHistory) where
  abbrev core-by : Option EndState → Result Done Refusal × PrimaryState
  core-by v = elim v [ None ↦ (Err NotConnected, s) | Some e ↦ tested s (transition.resync_tests out_of_memory e s) (done e) ]

  abbrev model-by : Bool → Reply × PrimaryHistory
  model-by closed = step.tested h ((closed, NotConnected) ∷ drop 1 (step.resync_tests h out_of_memory)) answer

  by-end : ((e : EndState) → LeavesEnd e (primary_connection h) → Agrees reply.Ok (core-by (Some e)) (model-by false)) → (v : Option EndState) → s.end ≡ v
      → EndLeft v (primary_connection h) → Agrees reply.Ok (core-by s.end) (model-by (primary_connection h).closed)
  by-end agree None none shut = refused-agrees reply.Ok s h NotConnected (core-by s.end) (model-by (primary_connection h).closed) (ap core-by none)
      (ap model-by shut) left
  by-end agree (Some e) is end =
      subst (λ v. Agrees reply.Ok (core-by v) (model-by (primary_connection h).closed)) (sym is)
      (subst (λ b. Agrees reply.Ok (core-by (Some e)) (model-by b)) (sym end.is_open) (agree e end))

-- it reads a block for a resync
pub resyncs-agree : ResyncsAgree
resyncs-agree disk read out_of_memory s h reached left holds =
    by-end out_of_memory s h left
    (λ e _. elim (next_block s.marks s.held) as (λ _. Result Done Refusal × PrimaryState) [
      | None ↦ (Err NothingToDo, s)
      | Some block ↦ let after =
          copying block (disk block) e s in (Ok after.0, after.1)
    ])
    (λ _. elim (free_block h) as (λ _. Reply × PrimaryHistory) [
      | None ↦ (reply.Refused NothingToDo, h)
      | Some block ↦ step.succeeding (what.Block (record { 0 = block }) (length (primary_connection h).stream))
          (step.copying read block h)
    ])
    (λ e end. resync-agrees out_of_memory s h e reached left end disk read holds) s.end refl left.rest.end

-- the local disk fails that read
pub resync-faults-agree : ResyncFaultsAgree
resync-faults-agree out_of_memory s h reached left =
    by-end out_of_memory s h left (λ e _. (Err ReadFault, s)) (λ _. (reply.Refused ReadFault, h)) (λ e end. fault-agrees out_of_memory s h e reached left end)
    s.end refl
    left.rest.end
