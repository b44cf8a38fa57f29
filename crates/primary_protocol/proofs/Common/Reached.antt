-- What is known of a history that a run leads to, and how tests agree.
use Rattle.std.proofs.Common.{◌≡◌, inl, inr, Bool, true, false, not, List, Option, Some, None, Result, Ok, Err, refl, sym, ◌∙◌, ap, subst}
use Rattle.std.specs.Prelude.{is_some, is_none, if◌then◌else◌}
use Rattle.std.proofs.lemmas.Bool.{both_ways, lt-ltb}
use Rattle.blocks.specs.declared.settings.Settings.{Settings}
use Rattle.blocks.specs.declared.refusal.Refusal.{Refusal}
use Rattle.blocks.specs.declared.outcome.Done.{Done}
use Rattle.blocks.specs.declared.outcome.Reply.{Reply}
use Rattle.blocks.specs.declared.outcome.Reply.TheVariants as reply
use Rattle.model.specs.Primary.{PrimaryConnection, PrimaryHistory, no_primary_connection, last_of, last_index, primary_connection, change_last, is_established}
use Rattle.model.specs.PrimarySteps as step
use Rattle.model.specs.Refusals.{Test, first_refusal}
use Rattle.laws.proofs.Rules.EpochEnds.{TakesWrites, takes-writes}
use Rattle.laws.proofs.Lists.Last.{last-change}
use Rattle.laws.proofs.Releases.InOrderMoves.{Ordered}
use Rattle.laws.proofs.Releases.Runs.{ordered-run}
use Rattle.primary_protocol.specs.Core as core
use Rattle.primary_protocol.specs.Core.{EndState, PrimaryState, tested}
use Rattle.primary_protocol.specs.Leaves.{EndLeft, Leaves}
use Rattle.primary_protocol.specs.Steps.{IsReached, Agrees}
use Rattle.primary_protocol.proofs.Common.Following.{Follows}

-- What is known of a history that a run leads to.
pub record IsOrdered (h : PrimaryHistory) : Type 0 where
  pub settings : Settings
  pub bound : TakesWrites settings
  pub ordered : Ordered settings h

pub reached-ordered : (h : PrimaryHistory) → IsReached h → IsOrdered h
reached-ordered h r = record {
  settings = r.settings;
  bound = (takes-writes r.settings r.ranges);
  ordered = subst (Ordered r.settings) r.is (ordered-run r.settings r.disk r.tuple r.marks r.events r.ranges (λ block inside. r.sized block
      ∙ lt-ltb block r.settings.blocks inside));
}

-- What follows, as an answer.
pub from-follow : (got : Done × PrimaryState) (answer : Reply × PrimaryHistory) → Follows got answer → Agrees reply.Ok (Ok got.0, got.1) answer
from-follow got answer f = record { reply = f.reply; leaves = f.leaves }

-- With the same tests they agree, where they agree when no test holds.
pub tested-agrees : {R : Type 0} (as_reply : R → Reply) (s : PrimaryState) (h : PrimaryHistory) (tests same : List Test) (got : Unit {0}
    → Result R Refusal × PrimaryState) (answer : Unit {0} → Reply × PrimaryHistory)
    → tests ≡ same → Leaves s h → (first_refusal same ≡ None → Agrees as_reply (got tt) (answer tt))
    → Agrees as_reply (tested s tests got) (step.tested h same answer)
tested-agrees {R} as_reply s h tests same got answer e left done = subst (λ (ts : List Test). Agrees as_reply (tested s ts got) (step.tested h same answer))
    (sym e)
    (go (first_refusal same) refl)
  where
    go : (v : Option Refusal) → first_refusal same ≡ v
        → Agrees as_reply (elim v as (λ _. Result R Refusal × PrimaryState) [ Some refusal ↦ (Err refusal, s) | None ↦ got tt ])
        (elim v as (λ _. Reply × PrimaryHistory) [ Some refusal ↦ (reply.Refused refusal, h) | None ↦ answer tt ])
    go (Some refusal) is = record { reply = refl; leaves = left }
    go None is = done is

-- a refusal that is sure
pub refused-agrees : {R : Type 0} (as_reply : R → Reply) (s : PrimaryState) (h : PrimaryHistory) (refusal : Refusal) (got : Result R Refusal × PrimaryState)
    (answer : Reply × PrimaryHistory) → got ≡ (Err refusal, s) → answer ≡ (reply.Refused refusal, h) → Leaves s h → Agrees as_reply got answer
refused-agrees as_reply s h refusal got answer is so left = subst (λ x. Agrees as_reply x answer) (sym is)
    (subst (Agrees as_reply (Err refusal, s)) (sym so) (record { reply = refl; leaves = left }))

-- The end.

-- an end is there exactly where the connection is open
pub end-closed : (v : Option EndState) (c : PrimaryConnection) → EndLeft v c → is_none v ≡ c.closed
end-closed None c left = sym left
end-closed (Some e) c left = sym left.is_open

pub end-open : (v : Option EndState) (c : PrimaryConnection) → EndLeft v c → is_some v ≡ not c.closed
end-open None c left = sym (ap not left)
end-open (Some e) c left = sym (ap not left.is_open)

-- the last end after a change of it
pub primary-connection-of : (f : PrimaryConnection → PrimaryConnection) (h later : PrimaryHistory) → later.connections ≡ change_last f h.connections
    → (primary_connection h).closed ≡ false
    → primary_connection later ≡ f (primary_connection h)
primary-connection-of f h later connections standing = ap (last_of (no_primary_connection later.tuple)) connections
    ∙ elim (last-change f (no_primary_connection h.tuple) (no_primary_connection later.tuple) h.connections) [
      | inl none ↦ absurd (both_ways (primary_connection h).closed standing
          (ap (λ (l : List PrimaryConnection). (last_of (no_primary_connection h.tuple) l).closed) none))
      | inr last ↦ last
    ]

-- a stream stands for the state where it stands for the history
pub established-same : (s : PrimaryState) (h : PrimaryHistory) → Leaves s h → core.is_established s ≡ is_established (primary_connection h)
established-same s h left = ap is_some left.rest.log.connection ∙ go (is_established (primary_connection h))
  where
    go : (b : Bool) → is_some (if b then Some (last_index h.connections) else None) ≡ b
    go true = refl
    go false = refl
