-- Where copying a block is refused, and that is no failure, no resync has a block to copy.
use Rattle.std.proofs.Common.{ℕ, ◌≡◌, Bool, true, false, not, ◌||◌, List, [], ◌∷◌, Option, Some, None, inl, inr, refl, sym, ◌∙◌, ap, subst}
use Rattle.std.specs.Prelude.{Result, Err, IfErr, is_some, is_none, drop, length, nat_lt, unwrap_or}
use Rattle.blocks.specs.declared.outcome.Done.{Done}
use Rattle.blocks.specs.declared.outcome.What.TheVariants as what
use Rattle.blocks.specs.declared.outcome.Reply.{Reply}
use Rattle.blocks.specs.declared.outcome.Reply.TheVariants as reply
use Rattle.blocks.specs.declared.refusal.Refusal.{Refusal}
use Rattle.blocks.specs.declared.refusal.Refusal.TheVariants.{NoMemory, NotConnected, NothingToDo, ReadFault}
use Rattle.endpoint.specs.Calls.{is_out_of_memory}
use Rattle.model.specs.Stream.{ResyncItem}
use Rattle.model.specs.Primary.{PrimaryHistory, primary_connection, resync_runs, under_way, free_block, local_map}
use Rattle.model.specs.PrimarySteps.{copying, resync_fault, resync_next, resync_tests, succeeding}
use Rattle.model.specs.Refusals.{Test, first_refusal}
use Rattle.primary.specs.Calls.{CopiesOne}
use Rattle.primary.specs.State.{PrimaryView, node}
use Rattle.primary_protocol.specs.Node.{NodeHas}
use Rattle.primary_protocol.specs.Steps.{replied}
use Rattle.mirror.specs.Runs.{IsNoFailure}

-- a refusal that is no failure is not of memory, and not of the disk
no-memory : IsNoFailure NoMemory → ⊥
no-memory (inl busy) = cc
no-memory (inr is) = cc

no-fault : IsNoFailure ReadFault → ⊥
no-fault (inl busy) = cc
no-fault (inr is) = cc

had-memory : (e : Refusal) → IsNoFailure e → is_out_of_memory {R = Done} (Err e) ≡ false
had-memory NoMemory waits = absurd (no-memory waits)
had-memory e waits = refl

-- where no marked block is free, the tests refuse
by-tests : (closed runs busy : Bool) (tests : List Test)
    → is_some (first_refusal ((closed, NotConnected) ∷ (not runs || (busy || true), NothingToDo) ∷ tests)) ≡ true
by-tests true runs busy tests = refl
by-tests false false busy tests = refl
by-tests false true true tests = refl
by-tests false true false tests = refl

none-free : (h : PrimaryHistory) → free_block h ≡ None → is_some (first_refusal (resync_tests h false)) ≡ true
none-free h none =
    let c = primary_connection h in
    let tests : List Test = drop 2 (resync_tests h false) in
    subst (λ (v : Option ℕ). is_some (first_refusal ((c.closed, NotConnected) ∷ (
      not (resync_runs c) || (nat_lt 0 (length (under_way c)) || is_none v),
      NothingToDo,
    ) ∷ tests)) ≡ true) (sym none) (by-tests c.closed (resync_runs c) (nat_lt 0 (length (under_way c))) tests)

-- what refuses the step of the model
next-refused : (read : Option (List ℕ)) (h : PrimaryHistory) (e : Refusal) → reply.Refused e ≡ (resync_next read false h).0 → is_some (first_refusal (resync_tests h false)) ≡ true
next-refused read h e said = go (first_refusal (resync_tests h false)) (free_block h) refl refl said
  where
    go : (v : Option Refusal) (w : Option ℕ) → first_refusal (resync_tests h false) ≡ v → free_block h ≡ w
        → reply.Refused e ≡ (elim v as (λ _. Reply × PrimaryHistory) [
          | Some refusal ↦ (reply.Refused refusal, h)
          | None ↦ elim w as (λ _. Reply × PrimaryHistory) [
            | None ↦ (reply.Refused NothingToDo, h)
            | Some block ↦ succeeding (what.Block (record { 0 = block }) (length (primary_connection h).stream))
                (copying read block h)
          ]
        ]).0 → is_some (first_refusal (resync_tests h false)) ≡ true
    go (Some refusal) w is free said = ap is_some is
    go None None is free said = none-free h free
    go None (Some block) is free said = absurd (cc)

fault-refused : (h : PrimaryHistory) (e : Refusal) → IsNoFailure e → reply.Refused e ≡ (resync_fault false h).0
    → is_some (first_refusal (resync_tests h false)) ≡ true
fault-refused h e waits said = go (first_refusal (resync_tests h false)) refl said
  where
    go : (v : Option Refusal) → first_refusal (resync_tests h false) ≡ v
        → reply.Refused e ≡ (elim v as (λ _. Reply × PrimaryHistory) [
          | Some refusal ↦ (reply.Refused refusal, h)
          | None ↦ (reply.Refused ReadFault, h)
        ]).0 → is_some (first_refusal (resync_tests h false)) ≡ true
    go (Some refusal) is said = ap is_some is
    go None is said = let fault : e ≡ ReadFault = cc in absurd (no-fault (subst IsNoFailure fault waits))

-- A call that is refused for another reason than a failure reads nothing, and is the model's.
pub none-to-copy : (v w : PrimaryView) (result : Result Done Refusal) (e : Refusal) → result ≡ Err e → IsNoFailure e → CopiesOne result v w
    → IfErr result (λ e. (e ≡ NoMemory → ⊥) → (e ≡ ReadFault → ⊥) → w ≡ v)
    → (h : PrimaryHistory) → NodeHas (node w) h → is_some (first_refusal (resync_tests h false)) ≡ true
none-to-copy v w result e was waits steps idle h has =
    let same : w ≡ v = subst (λ (r : Result Done Refusal). IfErr r (λ e. (e ≡ NoMemory → ⊥) → (e ≡ ReadFault → ⊥) → w ≡ v)) was idle
    (λ is. no-memory (subst IsNoFailure is waits)) (λ is. no-fault (subst IsNoFailure is waits)) in
    let had : NodeHas (node v) h = subst (λ n. NodeHas n h) (ap node same) has in
    elim steps [
      | inl done ↦ next-refused done.1.0 h e (subst (λ (b : Bool). reply.Refused e ≡ (resync_next done.1.0 b h).0) (had-memory e waits)
          (subst (λ (r : Result Done Refusal). replied reply.Ok r ≡ (resync_next done.1.0 (is_out_of_memory r) h).0) was (done.1.2.replies h had)))
      | inr failed ↦ fault-refused h e waits (subst (λ (b : Bool). reply.Refused e ≡ (resync_fault b h).0) (had-memory e waits)
          (subst (λ (r : Result Done Refusal). replied reply.Ok r ≡ (resync_fault (is_out_of_memory r) h).0) was (failed.1.replies h had)))
    ]
