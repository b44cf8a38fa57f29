-- Opening: when it is refused, and when it is not.
use Rattle.std.proofs.Common.{ℕ, ◌≡◌, Bool, true, false, not, ◌&&◌, [], ◌∷◌, ◌⊎◌, inl, Option, Some, None, refl, sym, ◌∙◌, ap, subst}
use Rattle.std.specs.Prelude.{Result, Ok, Err, IfErr, if◌then◌else◌}
use Rattle.blocks.specs.declared.outcome.What.TheVariants as what
use Rattle.blocks.specs.declared.outcome.Reply.{Reply}
use Rattle.blocks.specs.declared.outcome.Reply.TheVariants as reply
use Rattle.blocks.specs.declared.refusal.Refusal.{Refusal}
use Rattle.blocks.specs.declared.refusal.Refusal.TheVariants.{NoMemory, NotDrained}
use Rattle.endpoint.specs.Calls.{is_out_of_memory, refusal_in}
use Rattle.model.specs.Primary.{PrimaryHistory}
use Rattle.model.specs.PrimarySteps.{open_primary, open_tests, opened, succeeding}
use Rattle.model.specs.Secondary.{SecondaryHistory, secondary_connection, is_drained}
use Rattle.model.specs.SecondarySteps.{open_secondary, opened_secondary, succeeding_secondary}
use Rattle.model.specs.Refusals.{first_refusal}
use Rattle.primary_protocol.specs.Steps.{plainly, replied}
use Rattle.secondary_protocol.specs.Steps as from_secondary

-- An opening whose tests all passed is refused for want of memory alone.
pub only-out-of-memory : (sync loss : ℕ) (h : PrimaryHistory) (e : Refusal) → first_refusal (open_tests h sync loss false) ≡ None
    → replied {R = Unit {0}} plainly (Err e) ≡ (open_primary sync loss (is_out_of_memory {R = Unit {0}} (Err e)) h).0 → e ≡ NoMemory
only-out-of-memory sync loss h NoMemory none said = refl
only-out-of-memory sync loss h e none said = absurd (go (first_refusal (open_tests h sync loss false)) none said)
  where
    go : (v : Option Refusal) → v ≡ None
        → reply.Refused e ≡ (elim v as (λ _. Reply × PrimaryHistory) [
          | Some refusal ↦ (reply.Refused refusal, h)
          | None ↦ succeeding what.Nothing (opened h sync loss)
        ]).0 → ⊥
    go (Some refusal) none said = absurd (cc)
    go None none said = absurd (cc)

-- The same of the call.
pub refused-for : (sync loss : ℕ) (h : PrimaryHistory) (asked result returned : Result (Unit {0}) Refusal) (e : Refusal) (P : Refusal → Type 0)
    → refusal_in asked ≡ first_refusal (open_tests h sync loss false) → asked ≡ Ok tt → result ≡ Err e
    → replied plainly result ≡ (open_primary sync loss (is_out_of_memory result) h).0 → returned ≡ Err e → IfErr returned (λ e. (e ≡ NoMemory) ⊎ P e)
refused-for sync loss h asked result returned e P may is was said same =
    let none : first_refusal (open_tests h sync loss false) ≡ None = sym may ∙ ap refusal_in is in
    let out_of_memory : e ≡ NoMemory =
    only-out-of-memory sync loss h e none
    (subst (λ (r : Result (Unit {0}) Refusal). replied plainly r ≡ (open_primary sync loss (is_out_of_memory r) h).0) was said) in
    subst (λ (r : Result (Unit {0}) Refusal). IfErr r (λ e. (e ≡ NoMemory) ⊎ P e)) (sym same) (inl out_of_memory)

-- A secondary that may open opens.
pub may-open : (g : SecondaryHistory) (asked result : Result (Unit {0}) Refusal)
    → asked ≡ (if (secondary_connection g).closed && is_drained g then Ok tt else Err NotDrained)
    → asked ≡ Ok tt → from_secondary.replied from_secondary.plainly result ≡ (open_secondary 0 g).0 → result ≡ Ok tt
may-open g asked result may is said = go ((secondary_connection g).closed && is_drained g) asked result may is said
  where
    go : (b : Bool) (asked result : Result (Unit {0}) Refusal) → asked ≡ (if b then Ok tt else Err NotDrained) → asked ≡ Ok tt
        → from_secondary.replied from_secondary.plainly result ≡ (elim (first_refusal ((not b, NotDrained) ∷ [])) as (λ _. Reply × SecondaryHistory) [
          | Some refusal ↦ (reply.Refused refusal, g)
          | None ↦ succeeding_secondary what.Nothing (opened_secondary 0 g)
        ]).0 → result ≡ Ok tt
    go true asked (Ok done) may is said = refl
    go true asked (Err e) may is said = absurd (cc)
    go false asked result may is said = absurd (cc)
