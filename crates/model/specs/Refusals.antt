-- The order of tests: a step is refused by the first that holds, and then changes nothing.
use Rattle.std.specs.Prelude.{Bool, false, List, [], ◌∷◌, Option, Some, None, if◌then◌else◌}
use Rattle.blocks.specs.declared.refusal.Refusal.{Refusal}
use Rattle.blocks.specs.declared.outcome.Done.{Done}
use Rattle.blocks.specs.declared.outcome.What.{What}

-- one test: whether it holds, and the refusal that it gives
abbrev pub Test : Type 0
Test = Bool × Refusal

-- the refusal of the first test that holds
abbrev pub first_refusal : List Test → Option Refusal
first_refusal [] = None
first_refusal (test ∷ tests) = if test.0 then Some test.1 else first_refusal tests

-- the report of a step that did this, and ended nothing
abbrev pub done_with : What → Done
done_with what = record { what = what; completed = None; barrier = None; synced = false }
