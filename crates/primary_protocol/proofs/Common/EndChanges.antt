-- The last end changes, and no write sees it.
use Rattle.std.proofs.Common.{ℕ, ◌≡◌, Bool, true, false, not, List, [], ◌++◌, length, map, Option, Some, None, slice_get, refl, sym, ◌∙◌, ap, subst}
use Rattle.std.specs.Prelude.{if◌then◌else◌}
use Rattle.std.proofs.lemmas.List.{append-nil}
use Rattle.blocks.specs.declared.tuple.Tuple.{Tuple}
use Rattle.model.specs.Primary.{Accepted, PrimaryConnection, PrimaryHistory, primary_connection, change_last, completes, is_released, unreleased}
use Rattle.model.specs.Stream.{BarrierItem, last_epoch}
use Rattle.model.specs.PrimarySteps.{completion_of, with_completions, epoch_is_over, appending}
use Rattle.transferlog.specs.Writes as log
use Rattle.transferlog.specs.Writes.{LogWrite}
use Rattle.transferlog.specs.Log.{LogState}
use Rattle.transferlog.specs.Writes.{completed_of}
use Rattle.epochs.specs.Epochs.{EpochsState}
use Rattle.overlap.specs.Holdings.{Holding}
use Rattle.laws.proofs.Lists.Last.{length-change}
use Rattle.laws.proofs.Lists.Picks.{pick-filtered}
use Rattle.laws.proofs.Primary.Homes.{HasHomes}
use Rattle.primary_protocol.specs.Core.{EndState, PrimaryState, unmarking}
use Rattle.primary_protocol.specs.Leaves.{logged_of, standing, held_of, marks_in, IsQuiet, LeavesActivity, LeavesEnd, LeavesStream, Leaves}
use Rattle.primary_protocol.proofs.Common.Filters.{filter-at, map-at}
use Rattle.primary_protocol.proofs.Common.Following.{IsDue, parted, barrier_of}
use Rattle.primary_protocol.proofs.Common.Reached.{primary-connection-of}
use Rattle.primary_protocol.proofs.Common.Marks.{unmarking-none}
use Rattle.primary_protocol.proofs.Common.NothingFollows.{quiet-none}
use Rattle.primary_protocol.proofs.Common.WriteStates.{completes-seen}

-- the last end changes, and with it the tuples and the marks alone
abbrev pub turned : (PrimaryConnection → PrimaryConnection) → Tuple → Option Tuple → (ℕ → Bool) → PrimaryHistory → PrimaryHistory
turned f tuple peer marks h = record h { connections = change_last f h.connections; tuple = tuple; peer = peer; marks = marks }

-- a log that reports nothing, with the epochs of a stream
abbrev pub unreported : Option ℕ → ℕ → EpochsState → LogState → LogState
unreported connection acknowledged_through epochs l = record l { connection = connection; acknowledged_through = acknowledged_through; epochs = epochs; released = []; completed = [] }

-- where nothing is completed, the journal stays
pub journal-stays : (h : PrimaryHistory) → IsQuiet h → with_completions h ≡ h
journal-stays h quiet = λ i. record h {
  journal = (ap (λ (l : List Accepted). h.journal ++ map (completion_of h) l) (quiet-none h quiet)
      ∙ append-nil h.journal) i;
}

-- No write sees the change.
pub record IsUnseen (h later : PrimaryHistory) : Type 0 where
  pub logged : (i : ℕ) (a : Accepted) → slice_get h.writes i ≡ Some a → logged_of later a ≡ logged_of h a
  pub released : (i : ℕ) (a : Accepted) → slice_get h.writes i ≡ Some a → is_released later a ≡ is_released h a

module _ (s : PrimaryState) (h : PrimaryHistory) (left : Leaves s h) (f : PrimaryConnection → PrimaryConnection) (tuple : Tuple) (peer : Option Tuple)
    (marks : ℕ
    → Bool) (unseen : IsUnseen h (turned f tuple peer marks h)) where
  pub unreleased-same : unreleased (turned f tuple peer marks h) ≡ unreleased h
  unreleased-same = filter-at (λ a. not (is_released (turned f tuple peer marks h) a)) (λ a. not (is_released h a)) h.writes
      (λ i a at. ap not (unseen.released i a at))

  pub writes-same : s.log.writes ≡ map (logged_of (turned f tuple peer marks h)) (unreleased (turned f tuple peer marks h))
  writes-same =
      left.rest.log.writes
      ∙ sym (ap (map (logged_of (turned f tuple peer marks h))) unreleased-same
      ∙ map-at (logged_of (turned f tuple peer marks h)) (logged_of h) (unreleased h)
      (λ i a at. let there = pick-filtered (λ x. not (is_released h x)) h.writes i a at in unseen.logged there.0 a there.1))

  completes-same : (i : ℕ) (a : Accepted) → slice_get h.writes i ≡ Some a → completes h a ≡ completes (turned f tuple peer marks h) a
  completes-same i a at = sym (completes-seen h a) ∙ (ap finished (sym (unseen.logged i a at)) ∙ completes-seen (turned f tuple peer marks h) a)
    where
      finished : LogWrite → Bool
      finished = log.is_completed

  pub quiet-same : IsQuiet (turned f tuple peer marks h)
  quiet-same i a at = left.rest.quiet i a at ∙ completes-same i a at

  pub connections-same : s.connections ≡ length (turned f tuple peer marks h).connections
  connections-same = left.rest.connections ∙ sym (length-change f h.connections)

  pub activity-same : LeavesActivity s.activity h.settings.slots (unreleased (turned f tuple peer marks h))
  activity-same = subst (LeavesActivity s.activity h.settings.slots) (sym unreleased-same) left.rest.activity

  -- What such a change leaves where the last epoch goes on, before what follows.
  pub unseen-due : HasHomes (turned f tuple peer marks h) → epoch_is_over (turned f tuple peer marks h) ≡ false → (primary_connection h).closed ≡ false
      → (core_tuple : Tuple) → core_tuple ≡ tuple → (core_peer : Option Tuple) → core_peer ≡ peer
      → (connection : Option ℕ) (confirmed : ℕ) (epochs : EpochsState) → connection ≡ standing (turned f tuple peer marks h)
      → LeavesStream (unreported connection confirmed epochs s.log) (turned f tuple peer marks h)
      → (bits : List Bool) → bits ≡ marks_in h.settings.blocks marks → (held : List Holding) → held ≡ held_of (turned f tuple peer marks h) → (e : EndState)
      → LeavesEnd e (f (primary_connection h))
      → IsDue (record s { tuple = core_tuple; peer = core_peer; log = unreported connection confirmed epochs s.log; marks = bits; held = held; end = Some e })
      None (turned f tuple peer marks h)
  unseen-due homes on unshut core_tuple tuple_is core_peer peer_is connection confirmed epochs connection_is stream bits bits_are held held_is e end = record {
    homes = homes;
    done = λ i a at completed. sym (quiet-same i a at) ∙ completed;
    settings = left.rest.settings;
    tuple = tuple_is;
    peer = peer_is;
    connections = connections-same;
    log = record {
      protocol = left.rest.log.protocol;
      backlog = left.rest.log.backlog;
      accepted = left.rest.log.accepted;
      connection = connection_is;
      writes = writes-same;
      last_writes = left.rest.log.last_writes;
    };
    completed = sym (ap (map (λ a. completed_of (logged_of (turned f tuple peer marks h) a))) (quiet-none (turned f tuple peer marks h) quiet-same));
    barrier_is = sym (ap barrier_of journal ∙ ap (λ b. if b then Some (last_number) else None) on);
    stream = subst (LeavesStream (unreported connection confirmed epochs s.log)) (sym (ap parted journal ∙ parted-same)) stream;
    entries = left.rest.entries.entries;
    receipts = left.rest.entries.receipts;
    held = held_is;
    marks = ap (unmarking [] s.log.last_writes) bits_are ∙ unmarking-none [] s.log.last_writes h.settings.blocks marks (λ n r at. absurd (cc));
    activity = activity-same;
    end = subst (LeavesEnd e) (sym (primary-connection-of f h (turned f tuple peer marks h) refl unshut)) end;
  }
    where
      journal : with_completions (turned f tuple peer marks h) ≡ turned f tuple peer marks h
      journal = journal-stays (turned f tuple peer marks h) quiet-same

      last_number : ℕ
      last_number = last_epoch (primary_connection (turned f tuple peer marks h)).stream

      parted-same : parted (turned f tuple peer marks h) ≡ turned f tuple peer marks h
      parted-same = ap (λ b. elim b as (λ _. PrimaryHistory) [
        | true ↦ appending (BarrierItem (last_epoch (primary_connection (turned f tuple peer marks h)).stream))
            (turned f tuple peer marks h)
        | false ↦ turned f tuple peer marks h
      ]) on
