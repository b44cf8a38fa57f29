-- The bytes of the three lines.
use Rattle.std.specs.Prelude.{ℕ, List, ◌++◌, codes, Option, None, Some}
use Rattle.std.specs.Fmt.{decimal}
use Rattle.program_values.specs.declared.results.Results.{Results}

-- on how many blocks the disks differ without a mark, or that they were not compared
abbrev pub unmarked_text : Option ℕ → List ℕ
unmarked_text (Some n) = decimal n
unmarked_text None = codes "not compared"

-- how many writes were completed, how many of these the primary's journal confirms, and on how many blocks the disks differ without a
-- mark, a line each
abbrev pub results_text : Results → List ℕ
results_text results =
    codes "completed " ++ decimal results.completed ++ codes "\nsettled " ++ decimal results.settled ++ codes "\nunmarked " ++ unmarked_text results.unmarked
    ++ codes "\n"
