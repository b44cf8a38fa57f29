-- Tests of which none refuses.
use Rattle.std.proofs.Common.{◌≡◌, Bool, true, false, List, ◌∷◌, None, refl}
use Rattle.blocks.specs.declared.refusal.Refusal.{Refusal}
use Rattle.model.specs.Refusals.{Test, first_refusal}

-- where none refuses, the first does not hold and none of the rest refuses
pub test-passed : (holds : Bool) (refusal : Refusal) (tests : List Test) → first_refusal ((holds, refusal) ∷ tests) ≡ None
    → (holds ≡ false) × (first_refusal tests ≡ None)
test-passed true refusal tests h = absurd (cc)
test-passed false refusal tests h = (refl, h)
