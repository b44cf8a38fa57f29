-- The exit statuses.
use Rattle.std.specs.Prelude.{ℕ}
use Rattle.blocks.specs.declared.refusal.Refusal.{Refusal}
use Rattle.blocks.specs.declared.refusal.Refusal.TheVariants as refusal
use Rattle.program_values.specs.declared.status.SessionStatus.{SessionStatus}
use Rattle.program_values.specs.declared.status.SessionStatus.TheVariants as session
use Rattle.program_values.specs.declared.status.Status.{Status}
use Rattle.program_values.specs.declared.status.Status.TheVariants as status

-- the number of a status, as the system is told it
abbrev pub code_of : Status → ℕ
code_of status.Done = 0
code_of status.Failed = 1
code_of status.Misused = 2

-- the same of a session's
abbrev pub session_code_of : SessionStatus → ℕ
session_code_of session.Done = 0
session_code_of session.Failed = 1
session_code_of session.Refused = 3

-- how a session ends that a refusal ended
abbrev pub status_of : Refusal → SessionStatus
status_of refusal.NoMemory = session.Failed
status_of _ = session.Refused
