-- An unreleased write: what is known of it, when it is completed, and when it is released.
use Rattle.std.specs.Prelude.{ℕ, nat_le, ◌==◌, Bool, true, false, ◌&&◌, ◌||◌, not, if◌then◌else◌, List, Option, Some, None}
use Rattle.blocks.specs.Positions.{StreamPosition}
use Rattle.transferlog.specs.declared.local.Local.{Local}
use Rattle.transferlog.specs.declared.report.Completed.{Completed}
use Rattle.transferlog.specs.declared.report.AckedWrite.{AckedWrite}
use Rattle.transferlog.specs.declared.report.Released.{Released}
use Rattle.transferlog.specs.declared.report.ChangeReport.{ChangeReport}
use Rattle.transferlog.specs.declared.local.Local.TheVariants.{Waiting, OnDisk, Failed}

-- An accepted write: its number, its range, its bytes, and these as blocks; its home, which is its place in a stream,
-- if it has one; whether its connection is open; whether it was sent, and answered as the protocol asks; and what the
-- local disk did with it.
pub record LogWrite : Type 0 where
  pub number : ℕ
  pub first : ℕ
  pub count : ℕ
  pub contents : List ℕ
  pub blocks : List (List ℕ)
  pub home : Option StreamPosition
  pub linked : Bool
  pub sent : Bool
  pub answered : Bool
  pub local : Local

-- the local disk has all of it
abbrev pub is_on_disk : Local → Bool
is_on_disk Waiting = false
is_on_disk OnDisk = true
is_on_disk Failed = false

-- the local disk failed it
abbrev pub has_failed : Local → Bool
has_failed Waiting = false
has_failed OnDisk = false
has_failed Failed = true

-- the local disk has written or failed it
abbrev pub is_settled : LogWrite → Bool
is_settled w = is_on_disk w.local || has_failed w.local

-- completed: on the local disk, and answered or without a connection
abbrev pub is_completed : LogWrite → Bool
is_completed w = is_on_disk w.local && (w.answered || not w.linked)

-- open: neither completed nor failed
abbrev pub is_open : LogWrite → Bool
is_open w = not (is_completed w) && not (has_failed w.local)

-- the write is released, given that every write with a connection and a number up to `acknowledged_through` has its epoch's
-- acknowledgement
abbrev pub is_released : ℕ → LogWrite → Bool
is_released acknowledged_through w = is_settled w && (not w.linked || nat_le w.number acknowledged_through)

-- records the write as sent, and as answered if the protocol asks for no more
abbrev pub sending : Bool → LogWrite → LogWrite
sending answers w = record w { sent = true; answered = w.answered || answers }

-- records the write as answered
abbrev pub answering : LogWrite → LogWrite
answering w = record w { answered = true }

-- records the write as on the local disk
abbrev pub storing : LogWrite → LogWrite
storing w = record w { local = OnDisk }

-- records the write as failed on the local disk
abbrev pub failing : LogWrite → LogWrite
failing w = record w { local = Failed }

-- records that the write's connection is closed
abbrev pub unlinking : LogWrite → LogWrite
unlinking w = record w { linked = false }

-- the report of a write's completion
abbrev pub completed_of : LogWrite → Completed
completed_of w = record { number = w.number; first = w.first; count = w.count; linked = w.answered; home = w.home }

-- the report of a write's release: a write with a connection that is on both disks clears marks
abbrev pub released_of : LogWrite → Released
released_of w = record { number = w.number; first = w.first; count = w.count; clears = w.linked && is_on_disk w.local }

-- what a change does to a write: whether it takes it out of the open state, and its completion if it completes it
abbrev pub report_of : (LogWrite → LogWrite) → LogWrite → ChangeReport
report_of f w = record {
  closes = is_open w && not (is_open (f w));
  completion = if is_open w && is_completed (f w) then Some (completed_of (f w)) else None;
}

-- the release of a write, if it is released
abbrev pub release_of : ℕ → LogWrite → Option Released
release_of acknowledged_through w = if is_released acknowledged_through w then Some (released_of w) else None

-- whether a home is at this place
abbrev pub is_at : ℕ → Option StreamPosition → Bool
is_at place None = false
is_at place (Some home) = home.place == place

-- whether an answer names this write: place, first block and count are the write's, and it was sent on the established
-- connection and is not answered
abbrev pub awaits : AckedWrite → LogWrite → Bool
awaits of w = (is_at of.place w.home && ((w.first == of.first) && (w.count == of.count))) && (w.linked && (w.sent && not w.answered))

-- the write was sent on the established connection, and is not answered
abbrev pub is_unanswered : LogWrite → Bool
is_unanswered w = w.linked && (w.sent && not w.answered)

-- the write waits for the local disk
abbrev pub is_waiting : LogWrite → Bool
is_waiting w = not (is_settled w)
