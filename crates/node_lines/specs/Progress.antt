-- How far the nodes of a session have come.
use Rattle.std.specs.Prelude.{ℕ, ◌≡◌, ◌-◌, ◌==◌, nat_le, Bool, false, not, ◌&&◌, ◌||◌, Some, None, if◌then◌else◌, is_some, length}
use Rattle.model.specs.Primary.{PrimaryHistory, first_unreleased, is_established, items_sent, marked_blocks, next_local, primary_connection, unsent}
use Rattle.model.specs.Secondary.{SecondaryHistory, is_drained, items_taken, secondary_connection}
use Rattle.model.specs.Settlement.{applied_items}
use Rattle.model.specs.Status as status
use Rattle.model.specs.Status.{Inconsistent, open_epochs, primary_line, secondary_line}
use Rattle.node_lines.specs.declared.connection_items.ConnectionItems.{ConnectionItems}
use Rattle.node_lines.specs.declared.primary_progress.PrimaryProgress.{PrimaryProgress}
use Rattle.node_lines.specs.declared.secondary_progress.SecondaryProgress.{SecondaryProgress}
use Rattle.status_lines.specs.Lines.{primary_line_of, secondary_line_of}

-- the number up to which each write is released
abbrev pub released_to : PrimaryHistory → ℕ
released_to h = elim (first_unreleased h) [ Some number ↦ number - 1 | None ↦ length h.writes ]

-- the primary has nothing more to do for the link
abbrev pub is_quiet : PrimaryHistory → Bool
is_quiet h = let c = primary_connection h in
    c.closed || (is_established c && ((length (marked_blocks h) == 0) && ((open_epochs h == 0) && (unsent c == 0))))

-- what it has sent on its last connection
abbrev pub sent_items : PrimaryHistory → ConnectionItems
sent_items h = record { connection = length h.connections; items = items_sent (primary_connection h) }

-- what the secondary has taken on its last connection
abbrev pub taken_items : SecondaryHistory → ConnectionItems
taken_items h = record { connection = (secondary_connection h).number; items = length (items_taken (secondary_connection h)) }

-- nothing of what was sent is on its way to the secondary: it has taken as much on the same connection, or its end is closed
abbrev pub has_taken : ConnectionItems → SecondaryHistory → Bool
has_taken sent h = let taken = taken_items h in
    (secondary_connection h).closed || ((taken.connection == sent.connection) && nat_le sent.items taken.items)

-- its end is closed, and nothing is pending
abbrev pub may_reopen : SecondaryHistory → Bool
may_reopen h = (secondary_connection h).closed && is_drained h

-- The progress is that of this history.
pub record PrimaryShows (progress : PrimaryProgress) (h : PrimaryHistory) : Type 0 where
  pub line : primary_line_of progress.line ≡ primary_line h
  pub accepted : progress.accepted ≡ length h.writes
  pub released : progress.released ≡ released_to h
  pub marks : progress.marks ≡ length (marked_blocks h)
  pub sent : progress.sent ≡ sent_items h
  pub quiet : progress.is_quiet ≡ is_quiet h
  pub unfinished : progress.has_unfinished ≡ is_some (next_local h)

-- the line of a disk that may be doubted: a doubted one is not consistent, whatever its node knows
abbrev pub doubted_line : Bool → status.SecondaryLine → status.SecondaryLine
doubted_line is_doubted line =
    if is_doubted then record line { words = record line.words { own_disk = Inconsistent }; usable = false } else line

-- The progress is that of this history, of a disk that may be doubted.
pub record SecondaryShows (is_doubted : Bool) (progress : SecondaryProgress) (h : SecondaryHistory) : Type 0 where
  pub line : secondary_line_of progress.line ≡ doubted_line is_doubted (secondary_line h)
  pub opened : progress.is_open ≡ not (secondary_connection h).closed
  pub taken : progress.taken ≡ taken_items h
  pub applied : progress.applied ≡ applied_items (secondary_connection h)
  pub unfinished : progress.has_unfinished ≡ not (is_drained h)
