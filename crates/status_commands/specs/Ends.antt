-- The exit statuses of the commands that ask servers.
use Rattle.std.specs.Prelude.{ℕ}
use Rattle.status_commands.specs.declared.end.QueryEnd.{QueryEnd}
use Rattle.status_commands.specs.declared.end.QueryEnd.TheVariants as end

-- the status of an end
abbrev pub code_of : QueryEnd → ℕ
code_of end.Done = 0
code_of end.Failed = 1
code_of end.TimedOut = 5
code_of end.NoServer = 10
