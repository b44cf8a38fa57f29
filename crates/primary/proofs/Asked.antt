-- Whether an opening would be refused.
use Rattle.std.proofs.Common.{◌≡◌, List, Option, Some, None, Result, Ok, Err, refl, sym, ◌∙◌, ap}
use Rattle.blocks.specs.declared.refusal.Refusal.{Refusal}
use Rattle.endpoint.specs.Calls.{refusal_in}
use Rattle.model.specs.Refusals.{Test, first_refusal}
use Rattle.primary_core.specs.Submit.{result_of_tests}

pub refusal-of-tests : (tests : List Test) → refusal_in (result_of_tests tests) ≡ first_refusal tests
refusal-of-tests tests = go (first_refusal tests)
  where
    go : (v : Option Refusal) → refusal_in (elim v as (λ _. Result (Unit {0}) Refusal) [ Some refusal ↦ Err refusal | None ↦ Ok tt ]) ≡ v
    go (Some refusal) = refl
    go None = refl
