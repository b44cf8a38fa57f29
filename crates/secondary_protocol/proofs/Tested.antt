-- Steps by their tests, and the last connection after a change.
use Rattle.std.proofs.Common.{ℕ, suc, ◌≡◌, inl, inr, Bool, true, false, not, List, [], ◌∷◌, length, map, Option, Some, None, Result, Err, refl, sym, ◌∙◌, ap}
use Rattle.std.proofs.Common.{subst, arith, ◌==◌, nat_lt}
use Rattle.std.specs.Prelude.{is_some, is_none}
use Rattle.std.proofs.lemmas.Bool.{both_ways}
use Rattle.std.proofs.lemmas.Bool.Decides.{nat_tests}
use Rattle.blocks.specs.declared.refusal.Refusal.{Refusal}
use Rattle.blocks.specs.declared.outcome.Done.{Done}
use Rattle.blocks.specs.declared.outcome.Reply.{Reply}
use Rattle.blocks.specs.declared.outcome.Reply.TheVariants as reply
use Rattle.model.specs.Refusals.{Test, first_refusal}
use Rattle.model.specs.Primary.{last_of, change_last}
use Rattle.model.specs.Secondary.{SecondaryConnection, SecondaryHistory, no_secondary_connection, secondary_connection, with_secondary_connection}
use Rattle.model.specs.SecondarySteps.{tested_secondary}
use Rattle.laws.proofs.Lists.Last.{last-change}
use Rattle.secondary_protocol.specs.Core.{EndState, SecondaryState, tested}
use Rattle.secondary_protocol.specs.Leaves.{Leaves, EndLeft, FailedLeft}
use Rattle.secondary_protocol.specs.Steps.{Agrees}

-- With the same tests they agree, where they agree when no test holds.
pub tested-agrees : {R : Type 0} (as_reply : R → Done) (s : SecondaryState) (h : SecondaryHistory) (tests same : List Test) (got : Unit {0}
    → Result R Refusal × SecondaryState) (step : Unit {0} → Reply × SecondaryHistory)
    → tests ≡ same → Leaves s h → (first_refusal same ≡ None → Agrees as_reply (got tt) (step tt))
    → Agrees as_reply (tested s tests got) (tested_secondary h same step)
tested-agrees {R} as_reply s h tests same got step e left done = subst (λ (ts : List Test). Agrees as_reply (tested s ts got) (tested_secondary h same step))
    (sym e)
    (go (first_refusal same) refl)
  where
    go : (v : Option Refusal) → first_refusal same ≡ v
        → Agrees as_reply (elim v as (λ _. Result R Refusal × SecondaryState) [ Some refusal ↦ (Err refusal, s) | None ↦ got tt ])
        (elim v as (λ _. Reply × SecondaryHistory) [ Some refusal ↦ (reply.Refused refusal, h) | None ↦ step tt ])
    go (Some refusal) is = record { reply = refl; leaves = left }
    go None is = done is

-- the first test does not hold, and the rest
pub passed : (b : Bool) (refusal : Refusal) (tests : List Test) → first_refusal ((b, refusal) ∷ tests) ≡ None → (b ≡ false) × (first_refusal tests ≡ None)
passed true refusal tests none = absurd (cc)
passed false refusal tests none = (refl, none)

-- an end is there exactly where the connection is open
pub end-closed : (v : Option EndState) (c : SecondaryConnection) → EndLeft v c → is_none v ≡ c.closed
end-closed None c left = sym left
end-closed (Some e) c left = sym left.is_open

pub end-open : (v : Option EndState) (c : SecondaryConnection) → EndLeft v c → is_some v ≡ not c.closed
end-open None c left = sym (ap not left)
end-open (Some e) c left = sym (ap not left.is_open)

-- an end that is there
pub end-there : (v : Option EndState) → is_none v ≡ false → (e : EndState) × (v ≡ Some e)
end-there None none = absurd (cc)
end-there (Some e) none = (e, refl)

-- The last connection is changed, where there is one.
pub secondary-connection-of : (f : SecondaryConnection → SecondaryConnection) (h later : SecondaryHistory) → later.connections ≡ change_last f h.connections
    → (h.connections ≡ [] → ⊥)
    → secondary_connection later ≡ f (secondary_connection h)
secondary-connection-of f h later is some = ap (last_of (no_secondary_connection later)) is
    ∙ elim (last-change f (no_secondary_connection h) (no_secondary_connection later) h.connections) [
      | inl none ↦ absurd (some none)
      | inr same ↦ same
    ]

pub secondary-connection-with : (f : SecondaryConnection → SecondaryConnection) (h : SecondaryHistory) → (h.connections ≡ [] → ⊥)
    → secondary_connection (with_secondary_connection f h) ≡ f (secondary_connection h)
secondary-connection-with f h some = secondary-connection-of f h (with_secondary_connection f h) refl some

-- there is one where it is open
pub open-some : (h : SecondaryHistory) → (secondary_connection h).closed ≡ false → h.connections ≡ [] → ⊥
open-some h is_established none = both_ways (secondary_connection h).closed is_established
    (ap (λ (l : List SecondaryConnection). (last_of (no_secondary_connection h) l).closed) none)

pub length-map : {X Y : Type 0} (f : X → Y) (xs : List X) → length (map f xs) ≡ length xs
length-map f [] = refl
length-map f (x ∷ xs) = ap suc (length-map f xs)

-- some, or none
pub some-or-none : (n : ℕ) → nat_lt 0 n ≡ not (n == 0)
some-or-none n = grind (arith, nat_tests)

-- at an open end nothing failed
pub open-whole : (v : Option ℕ) (c : SecondaryConnection) → FailedLeft v c → c.closed ≡ false → (v ≡ None) × (c.gone ≡ [])
open-whole None c left is_established = (refl, left)
open-whole (Some epoch) c left is_established = absurd (both_ways c.closed is_established left.closed)
