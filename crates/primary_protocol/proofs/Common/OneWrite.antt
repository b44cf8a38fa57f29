-- Something happens to one write: what the log makes of it, and what the history does.
use Rattle.std.proofs.Common.{ℕ, ◌≡◌, ◌-◌, true, false, not, ◌&&◌, List, length, map, filter, Some, None, slice_get, sym, ◌∙◌, ap, nat_le}
use Rattle.std.specs.Prelude.{if◌then◌else◌}
use Rattle.blocks.specs.declared.settings.Protocol.{Protocol}
use Rattle.std.proofs.lemmas.List.{length-map}
use Rattle.blocks.specs.declared.settings.Settings.{Settings}
use Rattle.blocks.specs.Ranges.{below}
use Rattle.model.specs.Stream.{StreamItem}
use Rattle.model.specs.Primary.{Accepted, PrimaryConnection, PrimaryHistory, primary_connection, last_index, change_last, is_established, is_waiting, is_failed}
use Rattle.model.specs.Primary.{is_alone, is_confirmed}
use Rattle.model.specs.Primary.{is_released, completes, unreleased, is_answered_by, barrier_acknowledged, was_resynced}
use Rattle.model.specs.PrimarySteps.{newly_completed}
use Rattle.transferlog.specs.Log.{LogState, changing}
use Rattle.transferlog.specs.Ring.{on}
use Rattle.transferlog.specs.Writes as log
use Rattle.transferlog.specs.Writes.{LogWrite, completed_of, released_of}
use Rattle.laws.proofs.Lists.Last.{length-change}
use Rattle.laws.proofs.Primary.Homes.{HasHomes}
use Rattle.laws.proofs.Primary.LastOpen.{IsLastOpen}
use Rattle.primary_protocol.specs.Core.{PrimaryState, leaving}
use Rattle.primary_protocol.specs.Leaves.{logged_of, latest_in, LeavesLog, LeavesActivity, Leaves}
use Rattle.primary_protocol.proofs.Common.WritesChange.{IsMoved, left-then, latest-then, moved-released, moved-completed, moved-activity}
use Rattle.primary_protocol.proofs.Common.Releasing.{confirmed-number}
use Rattle.primary_protocol.proofs.Common.WriteStates.{settled-seen, not-not}
use Rattle.model.specs.Contents.{Write}
use Rattle.laws.proofs.Rules.Releases.{freed-same, released-parts, released-by, released-with}

-- What happens to the write of one number in the history, and to the last connection: what the log sees of it is the change `f`.
-- What the local disk did, what was answered and what was completed stays so.
pub record IsChange (h h1 : PrimaryHistory) (n : ℕ) (f : LogWrite → LogWrite) (g : Accepted → Accepted) (k : PrimaryConnection
    → PrimaryConnection) : Type 0 where
  pub settings : h1.settings ≡ h.settings
  pub journal : h1.journal ≡ h.journal
  pub connections : h1.connections ≡ change_last k h.connections
  pub last : primary_connection h1 ≡ k (primary_connection h)
  pub writes : h1.writes ≡ map g h.writes
  pub write : (a : Accepted) → (g a).write ≡ a.write
  pub home : (a : Accepted) → (g a).home ≡ a.home
  pub logged : (i : ℕ) (a : Accepted) → slice_get h.writes i ≡ Some a → logged_of h1 (g a) ≡ on n f (logged_of h a)
  pub alone : (i : ℕ) (a : Accepted) → slice_get h.writes i ≡ Some a → is_alone h1 (g a) ≡ is_alone h a
  pub confirmed : (i : ℕ) (a : Accepted) → slice_get h.writes i ≡ Some a → is_confirmed h1 (g a) ≡ is_confirmed h a
  pub settled : (i : ℕ) (a : Accepted) → slice_get h.writes i ≡ Some a → is_waiting a.outcome ≡ false → is_waiting (g a).outcome ≡ false
  pub failed : (i : ℕ) (a : Accepted) → slice_get h.writes i ≡ Some a → is_failed a.outcome ≡ true → is_failed (g a).outcome ≡ true
  pub completed : (i : ℕ) (a : Accepted) → slice_get h.writes i ≡ Some a → completes h a ≡ true → completes h1 (g a) ≡ true
  pub stream : (k (primary_connection h)).stream ≡ (primary_connection h).stream
  pub closed : (k (primary_connection h)).closed ≡ (primary_connection h).closed
  pub begun : (k (primary_connection h)).begun ≡ (primary_connection h).begun
  pub acknowledged : (epoch : ℕ) → barrier_acknowledged (k (primary_connection h)) epoch ≡ barrier_acknowledged (primary_connection h) epoch
  pub resynced : (place : ℕ) (item : StreamItem) → was_resynced (k (primary_connection h)) place item ≡ was_resynced (primary_connection h) place item
  pub answered : (asked : Protocol) (place : ℕ) (item : StreamItem) → is_answered_by asked (primary_connection h) place item ≡ true
      → is_answered_by asked (k (primary_connection h)) place item ≡ true

module _ (s : PrimaryState) (h h1 : PrimaryHistory) (n : ℕ) (f : LogWrite → LogWrite) (g : Accepted → Accepted) (k : PrimaryConnection → PrimaryConnection)
    (left : Leaves s h) (homes : HasHomes h) (last : IsLastOpen h) (c : IsChange h h1 n f g k) where
  -- the log then
  abbrev l1 : LogState
  l1 = (changing n f s.log).1

  released-then : (i : ℕ) (a : Accepted) → slice_get h.writes i ≡ Some a → log.is_released s.log.acknowledged_through (on n f (logged_of h a)) ≡ is_released h1 (g a)
  released-then i a at =
      ap (log.is_released s.log.acknowledged_through) (sym (c.logged i a at))
      ∙ released-with h1 (g a) _ _ _ (settled-seen (g a).outcome) (not-not (is_alone h1 (g a)))
      (λ linked. c.confirmed i a at ∙ (confirmed-number h s.log homes last left.rest.log.protocol left.stream.on i a at (sym (c.alone i a at) ∙ linked)
      ∙ ap (λ (w : Write). nat_le w.number s.log.acknowledged_through) (sym (c.write a))))

  -- what was released stays so
  released-stays : (i : ℕ) (a : Accepted) → slice_get h.writes i ≡ Some a → is_released h a ≡ true → is_released h1 (g a) ≡ true
  released-stays i a at is =
      let parts = released-parts h a is in
      released-by h1 (g a) (c.settled i a at parts.done) (freed-same h h1 a (g a) (c.confirmed i a at) (c.alone i a at) ∙ parts.freed)

  -- the writes are moved
  pub change-moved : IsMoved h h1 (on n f) g s.log.acknowledged_through
  change-moved = record {
    settings = c.settings;
    journal = c.journal;
    writes = c.writes;
    write = c.write;
    logged = c.logged;
    released = released-then;
    stays = released-stays;
    failed = c.failed;
  }

  -- what the log reports released
  pub released-is : (changing n f s.log).1.released ≡ map (λ a. released_of (logged_of h1 (g a)))
      (filter (λ a. not (is_released h a) && is_released h1 (g a)) h.writes)
  released-is = moved-released s h h1 (on n f) g s.log.acknowledged_through left homes last change-moved

  -- what the log reports completed
  pub completed-is : (changing n f s.log).1.completed ≡ map (λ a. completed_of (logged_of h1 a)) (newly_completed h1)
  completed-is = moved-completed s h h1 (on n f) g s.log.acknowledged_through left homes last change-moved

  pub established-then : is_established (primary_connection h1) ≡ is_established (primary_connection h)
  established-then = ap is_established c.last ∙ λ i. not (c.closed i) && c.begun i

  index-then : last_index h1.connections ≡ last_index h.connections
  index-then = ap (λ (cs : List PrimaryConnection). length cs - 1) c.connections ∙ ap (λ m. m - 1) (length-change k h.connections)

  -- the log is left
  pub log-then : LeavesLog (changing n f s.log).1 h1
  log-then = record {
    protocol = left.rest.log.protocol ∙ ap (λ (x : Settings). x.protocol) (sym c.settings);
    backlog = left.rest.log.backlog ∙ ap (λ (x : Settings). x.backlog) (sym c.settings);
    accepted = left.rest.log.accepted ∙ (sym (length-map h.writes g) ∙ ap length (sym c.writes));
    connection = left.rest.log.connection ∙ sym (λ i. if established-then i then Some (index-then i) else None);
    writes = left-then s h h1 (on n f) g s.log.acknowledged_through left homes last change-moved;
    last_writes = left.rest.log.last_writes ∙
        ((λ i. map (λ block. sym (latest-then s h h1 (on n f) g s.log.acknowledged_through left homes last change-moved block 0) i) (below h.settings.blocks))
        ∙ ap (λ (x : Settings). map (λ block. latest_in h1.writes block 0) (below x.blocks)) (sym c.settings));
  }

  -- the active extents are left
  pub activity-then : LeavesActivity (leaving (changing n f s.log).1.released s.activity) h1.settings.slots (unreleased h1)
  activity-then = moved-activity s h h1 (on n f) g s.log.acknowledged_through left homes last change-moved
