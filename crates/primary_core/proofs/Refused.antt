-- What an opening is refused for, but for want of memory, it is refused for.
use Rattle.std.proofs.Common.{ℕ, ◌≡◌, false, List, drop, Option, Some, None, Result, Ok, Err, refl, sym, ap}
use Rattle.blocks.specs.declared.refusal.Refusal.{Refusal}
use Rattle.model.specs.Refusals.{Test, first_refusal}
use Rattle.laws.proofs.Rules.Memory.{before_last, refused-alike}
use Rattle.primary_core.specs.OutOfMemory.{is_out_of_memory}
use Rattle.primary_core.specs.Submit.{result_of_tests}
use Rattle.primary_protocol.specs.Core.{PrimaryState, tested}
use Rattle.primary_protocol.specs.Transitions.{open_end, open_tests}

-- what is told is the first refusal
refused-first : (tests : List Test) (e : Refusal) → Err e ≡ result_of_tests tests → first_refusal tests ≡ Some e
refused-first tests e returned = go (first_refusal tests) returned
  where
    go : (v : Option Refusal) → Err e ≡ (elim v as (λ _. Result (Unit {0}) Refusal) [ Some refusal ↦ Err refusal | None ↦ Ok tt ]) → v ≡ Some e
    go (Some refusal) returned = let same : refusal ≡ e = cc in ap Some same
    go None returned = absurd (cc)

pub open-refused : (sync loss : ℕ) (s : PrimaryState) (e : Refusal) → Err e ≡ result_of_tests (open_tests sync loss false s)
    → (Err e, s) ≡ open_end sync loss (is_out_of_memory {R = Unit {0}} (Err e)) s
open-refused sync loss s e said =
    let out_of_memory = is_out_of_memory {R = Unit {0}} (Err e) in
    let still : first_refusal (open_tests sync loss out_of_memory s) ≡ Some e =
    refused-alike (before_last (open_tests sync loss false s)) (drop 3 (open_tests sync loss out_of_memory s)) e
    (refused-first (open_tests sync loss false s) e said) in
    rw (still, tested) refl
