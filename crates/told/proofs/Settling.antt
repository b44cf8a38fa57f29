-- Where a write of a block is accepted, no write of that block which was accepted before still waits for the disk.
use Rattle.std.proofs.Common.{ℕ, ◌≡◌, ◌<◌, ◌≤◌, ◌+◌, ◌-◌, ◌==◌, inl, inr, Bool, true, false, not, ◌&&◌, List, length, Option, Some, None, slice_get, refl, ap, subst, arith}
use Rattle.std.proofs.Common.{nat_lt, nat_le}
use Rattle.std.proofs.lemmas.Bool.{and_from, and_parts, cases_Bool, le-leb, lt-ltb, ltb-true}
use Rattle.blocks.specs.declared.refusal.Refusal.{Refusal}
use Rattle.blocks.specs.declared.outcome.Done.{Done}
use Rattle.blocks.specs.declared.outcome.Reply.TheVariants as reply
use Rattle.model.specs.Contents.{Write, covers, extent_of}
use Rattle.model.specs.Primary.{Accepted, Failed, LocalOutcome, OnDisk, PrimaryHistory, Waiting, is_completed, is_failed, is_on_disk, is_open, is_waiting}
use Rattle.model.specs.PrimarySteps.{submission, submit, submit_tests}
use Rattle.model.specs.Refusals.{first_refusal}
use Rattle.primary_protocol.specs.Steps.{IsReached}
use Rattle.primary_protocol.specs.Transitions.{whole_blocks}
use Rattle.primary_protocol.proofs.Common.Reached.{reached-ordered}
use Rattle.laws.proofs.Lists.Picks.{filtered-pick}
use Rattle.laws.proofs.Rules.Conflicts.{open-apart}
use Rattle.laws.proofs.Rules.Submissions.{IsAccepted, accepted-by-tests}
use Rattle.told.specs.Log.{IsSettled, IsSubmitted}
use Rattle.told.proofs.Writes.{outcome}

-- a submission that succeeds passed every test
accepted : (h : PrimaryHistory) (first : ℕ) (contents : List (List ℕ)) (done : Done) → reply.Ok done ≡ (submit first contents false h).0
    → IsAccepted h first contents
accepted h first contents done said =
    accepted-by-tests h first contents false (go (first_refusal (submit_tests h first contents false)) refl said)
  where
    go : (v : Option Refusal) → first_refusal (submit_tests h first contents false) ≡ v → reply.Ok done ≡ (outcome v h first contents).0
        → first_refusal (submit_tests h first contents false) ≡ None
    go (Some refusal) is ok = absurd (cc)
    go None is ok = is

-- it has a block at least
some-blocks : (h : PrimaryHistory) (first : ℕ) (contents : List (List ℕ)) → IsAccepted h first contents → 0 < length contents
some-blocks h first contents is =
    let count = length contents in
    let inside = nat_le (first + count) h.settings.blocks in
    let ranged = and_parts ((nat_lt 0 count && nat_le count 32) && inside) (extent_of first == extent_of (first + count - 1)) is.range in
    let sized = and_parts (nat_lt 0 count && nat_le count 32) inside ranged.0 in
    ltb-true 0 count (and_parts (nat_lt 0 count) (nat_le count 32) sized.0).0

-- it covers its first block
covers-first : (h : PrimaryHistory) (first : ℕ) (contents : List (List ℕ)) → 0 < length contents → covers (submission h first contents) first ≡ true
covers-first h first contents some =
    and_from (nat_le first first) (nat_lt first (first + length contents)) (le-leb first first (omega arith))
    (lt-ltb first (first + length contents) (omega arith))

-- a write that is on the disk or has failed does not wait for it
not-waiting : (outcome : LocalOutcome) → (outcome ≡ Waiting → ⊥) → is_waiting outcome ≡ false
not-waiting Waiting other = absurd (other refl)
not-waiting OnDisk other = refl
not-waiting (Failed offsets) other = refl

-- a write that waits for the disk is open
waiting-open : (h : PrimaryHistory) → IsReached h → (i : ℕ) (entry : Accepted) → slice_get h.writes i ≡ Some entry → entry.outcome ≡ Waiting
    → is_open h entry ≡ true
waiting-open h reached i entry at waits =
    let unfailed : not (is_failed entry.outcome) ≡ true = ap (λ (o : LocalOutcome). not (is_failed o)) waits in
    elim (cases_Bool (is_completed h entry.write.number)) [
      | inl completed ↦
          let disk : is_on_disk entry.outcome ≡ true = (reached-ordered h reached).ordered.0.tracked.on_disk i entry at completed in
          let other : is_on_disk entry.outcome ≡ false = ap is_on_disk waits in
          absurd (cc)
      | inr uncompleted ↦ and_from (not (is_completed h entry.write.number)) (not (is_failed entry.outcome)) (ap not uncompleted) unfailed
    ]

-- Where a write of a block is accepted, no earlier one of it waits.
pub settled : (h : PrimaryHistory) → IsReached h → (number block : ℕ) (bytes : List ℕ) (after : PrimaryHistory) → IsSubmitted number block bytes h after
    → IsSettled h block
settled h reached number block bytes after is i entry at own =
    let contents = whole_blocks bytes in
    let let_through = accepted h block contents is.0 is.1 in
    let here = covers-first h block contents (some-blocks h block contents let_through) in
    not-waiting entry.outcome (λ waits.
    let there = filtered-pick (is_open h) h.writes i entry at (waiting-open h reached i entry at waits) in
    open-apart h (submission h block contents) let_through.free there.0 entry there.1 block own here)
