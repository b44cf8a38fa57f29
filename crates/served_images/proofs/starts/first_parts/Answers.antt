use Rattle.std.proofs.Common.{ℕ, zero, suc, ◌≡◌, Bool, false, List, replicate, slice_get, refl, ◌∙◌, ap}
use Rattle.std.specs.Prelude.{unwrap_or}
use Rattle.std.proofs.lemmas.Result.{IfOk-weaker}
use Rattle.served_images.proofs.starts.first_parts.Goals as goal

-- no block of a new bitmap is marked
none_marked : (blocks block : ℕ) → unwrap_or (slice_get (replicate blocks false) block) false ≡ false
none_marked zero block = refl
none_marked (suc blocks) zero = refl
none_marked (suc blocks) (suc block) = none_marked blocks block

pub returns-clause-marks : goal.returns-clause-marks
returns-clause-marks c = IfOk-weaker c.parts_of.result _ _
    (λ parts is block. ap (λ (l : List Bool). unwrap_or (slice_get l block) false) (is ∙ c.in_ok-marks.ensures.made) ∙ none_marked _ block) c.parts_of.ensures.marks
