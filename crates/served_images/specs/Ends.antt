-- Which sizes the options may ask for, and the results that are printed.
use Rattle.std.specs.Prelude.{ℕ, ◌<◌, ◌≤◌, Option, IfSome}
use Rattle.program_values.specs.declared.results.Results.{Results}
use Rattle.program_values.specs.declared.serve_options.ServeOptions.{ServeOptions}
use Rattle.served_images.specs.declared.totals.Totals.{Totals}

-- the options ask for no size, or for one that a device has
abbrev pub AreInRange : ServeOptions → Type 0
AreInRange options = IfSome options.blocks (λ asked. (0 < asked) × (asked ≤ 2147483648))

-- the results that are printed, with the unmarked blocks on which the disks differ, if they were compared
abbrev pub results : Totals → Option ℕ → Results
results totals unmarked = record { completed = totals.completed; settled = totals.confirmed; unmarked = unmarked }
