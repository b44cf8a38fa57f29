-- Worked examples of a secondary's usability, of connections that it never opened, and of settlements.
use Rattle.std.specs.Prelude.{ℕ, ◌≡◌, Bool, true, false, List, [], ◌∷◌, ◌++◌, take, Some, Ok, Err}
use Rattle.blocks.specs.declared.settings.Protocol.TheVariants as protocol
use Rattle.blocks.specs.declared.refusal.Refusal.TheVariants.{StrangeReceipt, NotDrained, ReadFault}
use Rattle.blocks.specs.SettingsRange.{standard}
use Rattle.model.specs.Contents.{filled}
use Rattle.model.specs.Primary.{Linked, Alone, PrimaryHistory, primary_opening, no_primary_connection, primary_connection_at}
use Rattle.model.specs.Secondary.{SecondaryHistory, secondary_opening, secondary_connection, secondary_connection_at, secondary_map, whole}
use Rattle.model.specs.LocalRuns.{Opens, Closes, primary_run, OpensToo, ClosesToo, secondary_run}
use Rattle.model.specs.Pair.{Event, LocalEvent, SendEvent, ReceiveEvent, PeerEvent, PeerFaultEvent, AckOutEvent, AckInEvent, ClosePrimaryEvent}
use Rattle.model.specs.Pair.{CloseSecondaryEvent, PairHistory}
use Rattle.model.specs.Settlement.{Receipt, settle}
use Rattle.model.specs.Status.{primary_line, linked_primary, secondary_line, linked_secondary, target_secondary}
use Rattle.model.specs.Rows.{words, connected, after, fill}
use Rattle.model.specs.WriteRows.{one_write, two_epochs}
use Rattle.model.specs.CloseRows.{short_epochs}
use Rattle.model.specs.ResyncRows.{two_marked, first_copied, second_copied}

-- the pair with two marked blocks, after these events
abbrev pub resync_target : List Event → PairHistory
resync_target events = after events two_marked

-- How far a secondary is whole, and when it may be used: not from the taking of SYNC_UUID to that of the closing UUIDS.
pub record Usage : Type 0 where
  pub waiting : secondary_line (after (take 16 two_epochs) (connected standard)).secondary ≡ linked_secondary protocol.C 2 0
  pub two_epochs : secondary_line (after two_epochs (connected standard)).secondary ≡ linked_secondary protocol.C 0 1
  pub started : secondary_line (resync_target (SendEvent ∷ ReceiveEvent ∷ [])).secondary ≡ target_secondary protocol.C 0 0
  pub nearly : secondary_line (resync_target (first_copied ++ second_copied ++ SendEvent ∷ SendEvent ∷ ReceiveEvent ∷ [])).secondary ≡ target_secondary
      protocol.C 0 2
  pub ended : secondary_line (resync_target (first_copied ++ second_copied ++ SendEvent ∷ SendEvent ∷ ReceiveEvent ∷ ReceiveEvent ∷ [])).secondary ≡
      linked_secondary protocol.C 0 2

-- A connection that the primary opened and the secondary never saw: its number is skipped, and nothing happened there.
abbrev pub alone_twice : PrimaryHistory
alone_twice = primary_run (Opens 5 7 false ∷ Closes ∷ Opens 9 11 false ∷ Closes ∷ [])
    (primary_opening standard (filled 8 (0 ∷ [])) (words 1 0 0 0) (λ block. false))

-- the secondary opened the first and the third
abbrev pub passed_one_over : SecondaryHistory
passed_one_over = secondary_run (OpensToo 0 ∷ ClosesToo ∷ OpensToo 1 ∷ []) (secondary_opening standard (filled 8 (0 ∷ [])) (words 1 0 0 0))

-- the connections that are then found by number
pub record NeverOpened : Type 0 where
  pub number : (secondary_connection passed_one_over).number ≡ 3
  pub is_open : (secondary_connection_at passed_one_over 3).closed ≡ false
  pub first : (secondary_connection_at passed_one_over 1).number ≡ 1
  pub unseen : (secondary_connection_at passed_one_over 2).closed ≡ true
  pub untaken : (secondary_connection_at passed_one_over 2).taken ≡ []
  pub there : (primary_connection_at alone_twice 2).sync ≡ 9
  pub beyond : primary_connection_at alone_twice 3 ≡ no_primary_connection (words 1 0 0 0)

-- A write that the peer's disk fails after all of its blocks; both ends are closed then.
abbrev pub failed_item : PairHistory
failed_item = after (fill 2 1 170 ∷ LocalEvent 1 ∷ SendEvent ∷ ReceiveEvent ∷ PeerFaultEvent 0 1 ∷ ClosePrimaryEvent ∷ []) (connected standard)

-- its receipt
abbrev pub alone_receipt : Receipt
alone_receipt = record { number = 1; first = 2; count = 1; kind = Alone; home = Some (record { index = 0; place = 0 }) }

-- One write that was completed over the link, and both ends closed.
abbrev pub one_through : PairHistory
one_through = after (one_write ++ SendEvent ∷ ReceiveEvent ∷ AckOutEvent ∷ AckInEvent ∷ ClosePrimaryEvent ∷ CloseSecondaryEvent ∷ []) (connected standard)

-- its receipt
abbrev pub linked_receipt : Receipt
linked_receipt = record { number = 1; first = 2; count = 1; kind = Linked; home = Some (record { index = 0; place = 0 }) }

-- a primary of this size that never connected
abbrev pub sized_primary : ℕ → (ℕ → Bool) → PrimaryHistory
sized_primary blocks marks = primary_opening (record standard { blocks = blocks }) (filled blocks (0 ∷ [])) (words 1 0 0 0) marks

-- a secondary of this size that never connected
abbrev pub sized_secondary : ℕ → SecondaryHistory
sized_secondary blocks = secondary_opening (record standard { blocks = blocks }) (filled blocks (0 ∷ [])) (words 2 0 0 0)

-- Settlements: of a completed write, of an item that failed though all its blocks reached the disk, with a receipt that
-- is given twice or is another's, with a disk that fails a read, with a write that the local disk has not done, and of
-- disks of two sizes.
pub record Settlements : Type 0 where
  pub through : settle one_through.primary one_through.secondary (linked_receipt ∷ []) false ≡ Ok
      (record { sent = 2; taken = 2; applied = 1; confirmed = 1; unmarked = 0 })
  pub failed : settle failed_item.primary failed_item.secondary (alone_receipt ∷ []) false ≡ Ok
      (record { sent = 1; taken = 1; applied = 0; confirmed = 1; unmarked = 0 })
  pub twice : settle one_through.primary one_through.secondary (linked_receipt ∷ linked_receipt ∷ []) false ≡ Err StrangeReceipt
  pub strange : settle one_through.primary one_through.secondary (alone_receipt ∷ []) false ≡ Err StrangeReceipt
  pub faulty : settle one_through.primary one_through.secondary [] true ≡ Err ReadFault
  pub unfinished : settle (after (fill 2 1 170 ∷ ClosePrimaryEvent ∷ CloseSecondaryEvent ∷ []) (connected standard)).primary
      (sized_secondary 8) [] false ≡ Err NotDrained
  pub larger : settle (sized_primary 8 (λ block. false)) (sized_secondary 4) [] false ≡ Ok
      (record { sent = 0; taken = 0; applied = 0; confirmed = 0; unmarked = 4 })
  pub smaller : settle (sized_primary 4 (λ block. true)) (sized_secondary 8) [] false ≡ Ok
      (record { sent = 0; taken = 0; applied = 0; confirmed = 0; unmarked = 4 })

-- The primary's line counts in `pe` a write that was sent and is not answered, and not one that is still to be sent.
pub record SentAndUnanswered : Type 0 where
  pub unsent : primary_line (after (fill 2 1 170 ∷ []) (connected standard)).primary ≡ linked_primary protocol.C 0 1 1 0
  pub sent : primary_line (after (fill 2 1 170 ∷ SendEvent ∷ []) (connected standard)).primary ≡ linked_primary protocol.C 1 1 1 0
  pub one_of_two : primary_line (after (fill 2 1 170 ∷ fill 3 1 187 ∷ SendEvent ∷ []) (connected standard)).primary ≡ linked_primary protocol.C 1 2 1 0

-- With epochs of one write, the peer takes an epoch and its barrier.
abbrev pub epoch_taken : List Event
epoch_taken = fill 2 1 170 ∷ SendEvent ∷ SendEvent ∷ ReceiveEvent ∷ ReceiveEvent ∷ []

-- An item that failed with all its blocks kept is not done: the disk holds the write, but is not whole to that epoch.
pub record FailedIsNotWhole : Type 0 where
  pub written : secondary_map (after (epoch_taken ++ PeerFaultEvent 0 1 ∷ []) (connected short_epochs)).secondary 2 ≡ Some (170 ∷ [])
  pub failed : whole (after (epoch_taken ++ PeerFaultEvent 0 1 ∷ []) (connected short_epochs)).secondary ≡ 0
  pub pending : whole (after epoch_taken (connected short_epochs)).secondary ≡ 0
  pub done : whole (after (epoch_taken ++ PeerEvent 0 ∷ []) (connected short_epochs)).secondary ≡ 1
