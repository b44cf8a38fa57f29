-- What taking a frame from a queue does.
use Rattle.std.specs.Prelude.{ℕ, ◌≡◌, List, [], ◌∷◌, Option, None, Some, Result, Ok, Err}
use Rattle.blocks.specs.declared.refusal.Refusal.{Refusal}
use Rattle.blocks.specs.declared.refusal.Refusal.TheVariants.{NothingThere}

-- the first frame is taken and the others stay, or there is none; an unknown queue stays unknown
abbrev pub TakesFirst : Option (List (List ℕ)) → Result (List ℕ) Refusal → Option (List (List ℕ)) → Type 0
TakesFirst None answer after = after ≡ None
TakesFirst (Some []) answer after = answer ≡ Err NothingThere
TakesFirst (Some (frame ∷ rest)) answer after = (answer ≡ Ok frame) × (after ≡ Some rest)
