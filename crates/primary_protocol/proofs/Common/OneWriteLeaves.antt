-- Something happened to one write: what that leaves, before what follows.
use Rattle.std.proofs.Common.{ℕ, ◌≡◌, arith, Bool, true, false, not, ◌&&◌, List, [], ◌++◌, length, map, filter, Option, Some, slice_get, sym, ◌∙◌, ap, subst}
use Rattle.std.proofs.Common.{◌==◌}
use Rattle.std.specs.Prelude.{find, if◌then◌else◌}
use Rattle.std.specs.List.{list_any}
use Rattle.std.proofs.lemmas.List.{length-map}
use Rattle.model.specs.Contents.{Write}
use Rattle.model.specs.Stream.{StreamItem, placed}
use Rattle.model.specs.Primary.{Accepted, Completion, PrimaryConnection, PrimaryHistory, primary_connection, is_established, is_failed, is_completed, is_open}
use Rattle.model.specs.Primary.{open_writes, completes}
use Rattle.model.specs.Primary.{is_resync, was_resynced, under_way}
use Rattle.model.specs.PrimarySteps.{epoch_is_over}
use Rattle.transferlog.specs.Log.{changing}
use Rattle.transferlog.specs.Writes.{LogWrite}
use Rattle.laws.proofs.Lists.Last.{length-change}
use Rattle.laws.proofs.Lists.Picks.{pick-image}
use Rattle.laws.proofs.Primary.Homes.{HasHomes}
use Rattle.laws.proofs.Primary.LastOpen.{IsLastOpen}
use Rattle.overlap.specs.Holdings.{Holding}
use Rattle.primary_protocol.specs.Core.{Fate, Failed, JournalEntry, EndState, PrimaryState, unmarking}
use Rattle.primary_protocol.specs.Leaves.{fate_in, entry_of, holding_item, holding_write, held_of, marks_in, EndLeft, Leaves}
use Rattle.primary_protocol.proofs.Common.OneWrite.{IsChange, log-then, completed-is, activity-then, established-then}
use Rattle.primary_protocol.proofs.Common.Filters.{filter-at, map-at, filter-map, map-twice}
use Rattle.primary_protocol.proofs.Common.Following.{IsDue}
use Rattle.primary_protocol.proofs.Common.EpochEnds.{barrier-then, stream-then}

module _ (s : PrimaryState) (h h1 : PrimaryHistory) (n : ℕ) (f : LogWrite → LogWrite) (g : Accepted → Accepted) (k : PrimaryConnection → PrimaryConnection)
    (left : Leaves s h) (homes : HasHomes h) (last : IsLastOpen h) (quiet : epoch_is_over h ≡ false) (homes1 : HasHomes h1) (c : IsChange h h1 n f g k) where
  -- what the journal has is to be completed
  pub done-then : (i : ℕ) (a : Accepted) → slice_get h1.writes i ≡ Some a → is_completed h1 a.write.number ≡ true → completes h1 a ≡ true
  done-then i a at completed =
      let of = pick-image g h.writes i a (subst (λ (ws : List Accepted). slice_get ws i ≡ Some a) c.writes at) in
      let was : is_completed h of.0.write.number ≡ true =
      (λ j. list_any (λ (entry : Completion). entry.write.number == (sym (c.write of.0) j).number) (sym c.journal j))
      ∙ (ap (λ (x : Accepted). is_completed h1 x.write.number) of.2 ∙ completed) in
      subst (λ (x : Accepted). completes h1 x ≡ true) of.2 (c.completed i of.0 of.1 (sym (left.rest.quiet i of.0 of.1) ∙ was))

  -- The entries stay where no write failed by it.
  pub entries-stay : ((i : ℕ) (a : Accepted) → slice_get h.writes i ≡ Some a → is_failed (g a).outcome ≡ is_failed a.outcome) → h1.receipts ≡ h.receipts
      → s.entries ≡ map (entry_of h1) h1.writes
  entries-stay unfailed receipts =
      left.rest.entries.entries
      ∙ (map-at (entry_of h) (λ a. entry_of h1 (g a)) h.writes (λ i a at. sym (same i a at))
      ∙ (sym (map-twice (entry_of h1) g h.writes) ∙ ap (map (entry_of h1)) (sym c.writes)))
    where
      same : (i : ℕ) (a : Accepted) → slice_get h.writes i ≡ Some a → entry_of h1 (g a) ≡ entry_of h a
      same i a at = λ j. record {
        first = (c.write a j).first;
        count = length (c.write a j).contents;
        fate = elim (unfailed i a at j) as
            (λ _. Fate) [ true ↦ Failed | false ↦ fate_in (find (λ (entry : Completion). entry.write.number == (c.write a j).number) (c.journal j)) ];
        taken = list_any (λ number. number == (c.write a j).number) (receipts j);
      }

  -- what the block under way holds stays
  pub ways-stay : under_way (primary_connection h1) ≡ under_way (primary_connection h)
  ways-stay =
      ap under_way c.last
      ∙ (ap (λ (x : List StreamItem). filter (λ (entry : ℕ × StreamItem). is_resync entry.1 && not (was_resynced (k (primary_connection h)) entry.0 entry.1))
      (placed x)) c.stream
      ∙ filter-at (λ (entry : ℕ × StreamItem). is_resync entry.1 && not (was_resynced (k (primary_connection h)) entry.0 entry.1))
      (λ (entry : ℕ × StreamItem). is_resync entry.1 && not (was_resynced (primary_connection h) entry.0 entry.1)) (placed (primary_connection h).stream)
      (λ i entry at. ap (λ b. is_resync entry.1 && not b) (c.resynced entry.0 entry.1)))

  pub zeros-stay : map holding_item (if is_established (primary_connection h) then under_way (primary_connection h)
      else []) ≡ map holding_item (if is_established (primary_connection h1)
      then under_way (primary_connection h1) else [])
  zeros-stay = sym (λ i. map holding_item (if established-then s h h1 n f g k left homes last c i then ways-stay i else []))

  -- and so does all that is held, where no write failed by it
  pub held-stays : ((i : ℕ) (a : Accepted) → slice_get h.writes i ≡ Some a → is_failed (g a).outcome ≡ is_failed a.outcome) → s.held ≡ held_of h1
  held-stays unfailed =
      left.rest.held
      ∙ λ i. zeros-stay i ++ rest i
    where
      rest : map holding_write (open_writes h) ≡ map holding_write (open_writes h1)
      rest =
          map-at holding_write (λ a. holding_write (g a)) (open_writes h) (λ i a at. λ j. holding_write_of (sym (c.write a) j))
          ∙ (ap (map (λ a. holding_write (g a)))
          (filter-at (is_open h) (λ a. is_open h1 (g a)) h.writes
          (λ i a at. sym (λ j. not (list_any (λ (entry : Completion). entry.write.number == (c.write a j).number) (c.journal j))
          && not (unfailed i a at j))))
          ∙ (sym (map-twice holding_write g (filter (λ a. is_open h1 (g a)) h.writes))
          ∙ ap (map holding_write) (sym (filter-map (is_open h1) g h.writes) ∙ ap (filter (is_open h1)) (sym c.writes))))
        where
          holding_write_of : Write → Holding
          holding_write_of w = record { number = w.number; first = w.first; count = length w.contents }

  -- All is there for what follows.
  pub change-due : (entries : List JournalEntry) (held : List Holding) (marks : List Bool) (end : Option EndState) → h1.tuple ≡ h.tuple → h1.peer ≡ h.peer
      → h1.receipts ≡ h.receipts
      → entries ≡ map (entry_of h1) h1.writes → held ≡ held_of h1
      → unmarking (changing n f s.log).1.released (changing n f s.log).1.last_writes marks ≡ marks_in h1.settings.blocks h1.marks
      → EndLeft end (primary_connection h1)
      → IsDue (record s { log = (changing n f s.log).1; entries = entries; held = held; marks = marks; end = end }) (changing n f s.log).0 h1
  change-due entries held marks end tuple peer receipts entries_are held_is marks_are end_left = record {
    homes = homes1;
    done = done-then;
    settings = left.rest.settings ∙ sym c.settings;
    tuple = left.rest.tuple ∙ sym tuple;
    peer = left.rest.peer ∙ sym peer;
    connections = left.rest.connections ∙ (sym (length-change k h.connections) ∙ ap length (sym c.connections));
    log = log-then s h h1 n f g k left homes last c;
    completed = completed-is s h h1 n f g k left homes last c;
    barrier_is = barrier-then s h h1 n f g k left homes last quiet homes1 done-then c;
    stream = stream-then s h h1 n f g k left homes last quiet homes1 done-then c;
    entries = entries_are;
    receipts = λ i number at. let few =
        left.rest.entries.receipts i number (subst (λ (r : List ℕ). slice_get r i ≡ Some number) receipts at) in let size : length h1.writes ≡ length h.writes =
        ap length c.writes ∙ length-map h.writes g in omega arith;
    held = held_is;
    marks = marks_are;
    activity = activity-then s h h1 n f g k left homes last c;
    end = end_left;
  }
