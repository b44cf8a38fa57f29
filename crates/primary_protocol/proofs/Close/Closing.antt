-- An end closes, by a call or by a protocol error: what that leaves.
use Rattle.std.proofs.Common.{ℕ, ◌≡◌, ◌≤◌, inl, inr, Bool, true, false, not, ◌&&◌, ◌||◌, List, [], ◌++◌, length, map, filter, Option, Some, None}
use Rattle.std.proofs.Common.{slice_get, refl, sym, ◌∙◌, ap, subst, arith, ◌==◌}
use Rattle.std.specs.Prelude.{find, is_some, if◌then◌else◌}
use Rattle.std.specs.List.{list_any}
use Rattle.std.proofs.lemmas.Bool.{both_ways, eqb-true, false_from_ne_true}
use Rattle.std.proofs.lemmas.List.{length-map, map-id}
use Rattle.std.proofs.lemmas.List.Elements.{filter-append}
use Rattle.std.proofs.Math.Bool.{or-true}
use Rattle.blocks.specs.Positions.{StreamPosition}
use Rattle.blocks.specs.declared.tuple.Tuple.{Tuple}
use Rattle.blocks.specs.declared.settings.Settings.{Settings}
use Rattle.blocks.specs.declared.settings.Protocol.{Protocol}
use Rattle.blocks.specs.declared.outcome.What.TheVariants as what
use Rattle.blocks.specs.Identifiers.{lost}
use Rattle.blocks.specs.Ranges.{below, is_between}
use Rattle.model.specs.Stream.{StreamItem, BarrierItem, last_epoch}
use Rattle.model.specs.Marks.{marking_unreleased}
use Rattle.model.specs.Primary.{Accepted, Completion, PrimaryConnection, PrimaryHistory, no_primary_connection, primary_connection, last_index, change_last}
use Rattle.model.specs.Primary.{is_established}
use Rattle.model.specs.Primary.{accepted_frames, is_answered_by, is_answered, is_alone, is_failed}
use Rattle.model.specs.Primary.{is_released, is_completed, is_open, open_writes, completes, unreleased, under_way}
use Rattle.model.specs.PrimarySteps.{newly_completed, with_completions, appending, resync_is_over, follows, followed_with}
use Rattle.transferlog.specs.Log.{draining}
use Rattle.transferlog.specs.Writes as writes
use Rattle.transferlog.specs.Writes.{completed_of, released_of}
use Rattle.transferlog.specs.declared.report.Released.{Released}
use Rattle.epochs.specs.Epochs.{empty}
use Rattle.overlap.specs.Holdings.{Holding, without}
use Rattle.bitmap.specs.Marks as bits
use Rattle.laws.proofs.Rules.Completions.{completes-parts, completes-by}
use Rattle.laws.proofs.Rules.CloseMarks.{has_block, close-marks}
use Rattle.laws.proofs.Rules.EpochEnds.{most_writes, down-on}
use Rattle.laws.proofs.Lists.Last.{length-change, get-change, get-last-changed}
use Rattle.laws.proofs.Lists.Picks.{pick-image, pick-filtered}
use Rattle.laws.proofs.Primary.Homes.{HasHomes, open-at, alone-at, alone-homeless}
use Rattle.laws.proofs.Primary.LastOpen.{IsLastOpen, open-is-last}
use Rattle.primary_protocol.specs.Core.{Fate, Failed, EndState, PrimaryState, unmarking}
use Rattle.primary_protocol.specs.Transitions as transition
use Rattle.primary_protocol.specs.Leaves.{local_of, is_sent, logged_of, entry_of, fate_in, latest_in, holding_item, holding_write, held_of, marks_in, LeavesLog}
use Rattle.primary_protocol.specs.Leaves.{LeavesStream, LeavesEnd, Leaves}
use Rattle.primary_protocol.proofs.Common.Filters.{filter-map, filter-all, filter-none, map-at, any-map}
use Rattle.primary_protocol.proofs.Common.Following.{IsDue, follow, parted, barrier_of}
use Rattle.primary_protocol.proofs.Common.Marks.{unmarking-none, marking-in, marks-same}
use Rattle.primary_protocol.proofs.Common.WritesChange.{IsMoved, left-then, moved-released, moved-completed, moved-activity}
use Rattle.primary_protocol.proofs.Common.WriteStates.{settled-seen}
use Rattle.laws.proofs.Rules.Releases.{freed-alone, released-parts, released-by, released-with}
use Rattle.laws.proofs.Rules.Answered as rule
use Rattle.laws.proofs.Primary.WriteConnections.{sent-seen, answered-seen}

-- What a close does: the last end is closed, and nothing that a write sees of it changes but that; unreleased writes are marked, and
-- the tuple goes by `lost` where a stream had begun.
pub record IsClose (h h1 : PrimaryHistory) (k : PrimaryConnection → PrimaryConnection) : Type 0 where
  pub settings : h1.settings ≡ h.settings
  pub journal : h1.journal ≡ h.journal
  pub receipts : h1.receipts ≡ h.receipts
  pub writes : h1.writes ≡ h.writes
  pub connections : h1.connections ≡ change_last k h.connections
  pub last : primary_connection h1 ≡ k (primary_connection h)
  pub tuple : h1.tuple ≡ (if (primary_connection h).begun then lost (primary_connection h).loss h.tuple else h.tuple)
  pub marks : (block : ℕ) → h1.marks block ≡ marking_unreleased h block
  pub closed : (k (primary_connection h)).closed ≡ true
  pub pushed : (k (primary_connection h)).pushed ≡ (primary_connection h).pushed
  pub frames : accepted_frames (k (primary_connection h)) ≡ accepted_frames (primary_connection h)

module _ (s : PrimaryState) (h h1 : PrimaryHistory) (k : PrimaryConnection → PrimaryConnection) (e : EndState) (left : Leaves s h) (homes : HasHomes h)
    (last : IsLastOpen h)
    (homes1 : HasHomes h1) (c : IsClose h h1 k)
    (is : s.end ≡ Some e) (end : LeavesEnd e (primary_connection h)) (peer : Option Tuple) (peer_is : h1.peer ≡ peer) where
  there : (i : ℕ) → slice_get h1.connections i ≡ slice_get (change_last k h.connections) i
  there i = ap (λ (l : List PrimaryConnection). slice_get l i) c.connections

  last-at : slice_get h.connections (last_index h.connections) ≡ Some (primary_connection h)
  last-at = open-at h end.is_open

  -- every write is without a connection
  all-alone : (i : ℕ) (a : Accepted) → slice_get h.writes i ≡ Some a → is_alone h1 a ≡ true
  all-alone i a at = go a.home refl
    where
      go : (v : Option StreamPosition) → a.home ≡ v → is_alone h1 a ≡ true
      go None none = alone-homeless h1 a none
      go (Some home) so =
          let was = homes.housed i home.index home.place a at so in
          by-closed home was.0 was.1 so was.0.closed refl
        where
          by-closed : (home : StreamPosition) (d : PrimaryConnection) → slice_get h.connections home.index ≡ Some d → a.home ≡ Some home → (b : Bool)
              → d.closed ≡ b
              → is_alone h1 a ≡ true
          by-closed home d atd so true shut = elim (get-change k (no_primary_connection h.tuple) h.connections home.index d atd) [
            | inl stays ↦ alone-at h1 a home d so (there home.index ∙ stays) ∙ shut
            | inr changed ↦ alone-at h1 a home (k d) so (there home.index ∙ changed.0) ∙ (ap (λ (x : PrimaryConnection). (k x).closed) changed.1 ∙ c.closed)
          ]
          by-closed home d atd so false unshut =
              let ends = open-is-last h home.index d last atd unshut in
              alone-at h1 a home (k (primary_connection h)) so (there home.index
              ∙ (ap (slice_get (change_last k h.connections)) ends.0
              ∙ get-last-changed k (no_primary_connection h.tuple) h.connections (primary_connection h) last-at refl))
              ∙ c.closed

  sent-same : (a : Accepted) → is_sent h1 a ≡ is_sent h a
  sent-same = sent-seen h h1 k c.connections c.pushed

  answered-by : (asked : Protocol) (place : ℕ) (item : StreamItem)
      → is_answered_by asked (k (primary_connection h)) place item ≡ is_answered_by asked (primary_connection h) place item
  answered-by asked place item = rule.answered-same asked (primary_connection h) (k (primary_connection h)) place item c.pushed c.frames

  answered-same : (a : Accepted) → is_answered h1 a ≡ is_answered h a
  answered-same = answered-seen h h1 k c.connections c.settings (answered-by h.settings.protocol)

  closed-moved : IsMoved h h1 writes.unlinking (λ a. a) s.log.acknowledged_through
  closed-moved = record {
    settings = c.settings;
    journal = c.journal;
    writes = c.writes ∙ sym (map-id h.writes);
    write = λ a. refl;
    logged = λ i a at. λ j. record (logged_of h a) { linked = not (all-alone i a at j); sent = sent-same a j; answered = answered-same a j };
    released = λ i a at. released-with h1 a _ true false (settled-seen a.outcome) (sym (all-alone i a at))
        (λ linked. absurd (both_ways (is_alone h1 a) linked (all-alone i a at)));
    stays = λ i a at so. released-by h1 a (released-parts h a so).done (freed-alone h1 a (all-alone i a at));
    failed = λ i a at so. so;
  }

  -- no stream stands
  down : is_established (primary_connection h1) ≡ false
  down = ap is_established c.last ∙ ap (λ b. not b && (k (primary_connection h)).begun) c.closed

  done : (i : ℕ) (a : Accepted) → slice_get h1.writes i ≡ Some a → is_completed h1 a.write.number ≡ true → completes h1 a ≡ true
  done i a at completed =
      let ata : slice_get h.writes i ≡ Some a = subst (λ (ws : List Accepted). slice_get ws i ≡ Some a) c.writes at in
      let was : completes h a ≡ true = sym (left.rest.quiet i a ata)
      ∙ (ap (list_any (λ (entry : Completion). entry.write.number == a.write.number)) (sym c.journal) ∙ completed) in
      completes-by h1 a (completes-parts h a was).0 (ap (λ b. is_answered h1 a || b) (all-alone i a ata) ∙ or-true (is_answered h1 a))

  -- the log, once drained
  drained-log : LeavesLog (draining s.log) h1
  drained-log = record {
    protocol = left.rest.log.protocol ∙ ap (λ (x : Settings). x.protocol) (sym c.settings);
    backlog = left.rest.log.backlog ∙ ap (λ (x : Settings). x.backlog) (sym c.settings);
    accepted = left.rest.log.accepted ∙ ap length (sym c.writes);
    connection = sym (ap (λ b. if b then Some (last_index h1.connections) else None) down);
    writes = left-then s h h1 writes.unlinking (λ a. a) s.log.acknowledged_through left homes last closed-moved;
    last_writes = left.rest.log.last_writes ∙ ((λ i. map (λ block. latest_in (sym c.writes i) block 0) (below h.settings.blocks))
        ∙ ap (λ (x : Settings). map (λ block. latest_in h1.writes block 0) (below x.blocks)) (sym c.settings));
  }

  drained-stream : LeavesStream (draining s.log) (parted (with_completions h1))
  drained-stream = subst (LeavesStream (draining s.log)) (sym still_so) (record {
    max_epoch = left.stream.max_epoch ∙ ap most_writes (sym c.settings);
    on = λ so. absurd (both_ways (is_established (primary_connection h1)) down so);
    here = λ so. absurd (both_ways (is_established (primary_connection h1)) down so);
    off = λ none. ap empty (left.stream.max_epoch ∙ ap most_writes (sym c.settings));
  })
    where
      still_so : parted (with_completions h1) ≡ with_completions h1
      still_so = ap (λ b. elim b as (λ _. PrimaryHistory) [
        | true ↦ appending (BarrierItem (last_epoch (primary_connection (with_completions h1)).stream))
            (with_completions h1)
        | false ↦ with_completions h1
      ]) (down-on (with_completions h1) down)

  -- what is held, without the block under way
  held-is : without 0 s.held ≡ held_of h1
  held-is =
      ap (without 0) left.rest.held
      ∙ (filter-append (λ (x : Holding). not (x.number == 0)) (map holding_item (if is_established (primary_connection h) then under_way (primary_connection h)
      else []))
      (map holding_write (open_writes h))
      ∙ ((λ i. zeros (if is_established (primary_connection h) then under_way (primary_connection h) else []) i ++ rest i)
      ∙ sym (ap (λ b. map holding_item (if b then under_way (primary_connection h1) else []) ++ map holding_write (open_writes h1)) down)))
    where
      zeros : (entries : List (ℕ × StreamItem)) → filter (λ (x : Holding). not (x.number == 0)) (map holding_item entries) ≡ []
      zeros entries = filter-map (λ (x : Holding). not (x.number == 0)) holding_item entries
          ∙ ap (map holding_item) (filter-none (λ entry. not (0 == 0)) entries (λ i entry at. refl))

      rest : filter (λ (x : Holding). not (x.number == 0)) (map holding_write (open_writes h)) ≡ map holding_write (open_writes h1)
      rest =
          filter-map (λ (x : Holding). not (x.number == 0)) holding_write (open_writes h)
          ∙ (ap (map holding_write) (filter-all (λ a. not (a.write.number == 0)) (open_writes h) (λ i a at.
          let stood = pick-filtered (is_open h) h.writes i a at in
          let index = homes.numbered stood.0 a stood.1 in
          ap not (false_from_ne_true (a.write.number == 0) (λ e. let zero_is = eqb-true a.write.number 0 e in omega arith))))
          ∙ ap (map holding_write) (λ i. filter (λ a. not (list_any (λ (entry : Completion). entry.write.number == a.write.number) (sym c.journal i))
          && not (is_failed a.outcome)) (sym c.writes i)))

  marks-are : unmarking (draining s.log).released (draining s.log).last_writes (bits.marking (transition.unreleased_blocks s.log.writes) s.marks) ≡ marks_in
      h1.settings.blocks h1.marks
  marks-are =
      ap (λ m. unmarking (draining s.log).released (draining s.log).last_writes (bits.marking (transition.unreleased_blocks s.log.writes) m)) left.rest.marks
      ∙ (ap (unmarking (draining s.log).released (draining s.log).last_writes) (marking-in h.settings.blocks (transition.unreleased_blocks s.log.writes) h.marks)
      ∙ (unmarking-none (draining s.log).released (draining s.log).last_writes h.settings.blocks
      (λ block. h.marks block || transition.unreleased_blocks s.log.writes block) clears_none
      ∙ (marks-same h.settings.blocks (λ block. h.marks block || transition.unreleased_blocks s.log.writes block) h1.marks
      (λ block inside. close-marks h block (transition.unreleased_blocks s.log.writes block) (covered block) ∙ sym (c.marks block))
      ∙ ap (λ (x : Settings). marks_in x.blocks h1.marks) (sym c.settings))))
    where
      covered : (block : ℕ) → transition.unreleased_blocks s.log.writes block ≡ list_any (has_block block) (unreleased h)
      covered block = ap (list_any (λ w. is_between w.first w.count block)) left.rest.log.writes
          ∙ any-map (λ w. is_between w.first w.count block) (logged_of h) (unreleased h)

      clears_none : (n : ℕ) (r : Released) → slice_get (draining s.log).released n ≡ Some r → r.clears ≡ false
      clears_none n r at =
          let of = pick-image (λ a. released_of (logged_of h1 a)) (filter (λ a. not (is_released h a) && is_released h1 a) h.writes) n r
          (subst (λ (rs : List Released). slice_get rs n ≡ Some r)
          (moved-released s h h1 writes.unlinking (λ a. a) s.log.acknowledged_through left homes last closed-moved) at) in
          let stood = pick-filtered (λ a. not (is_released h a) && is_released h1 a) h.writes n of.0 of.1 in
          ap (λ (x : Released). x.clears) (sym of.2) ∙ λ j. not (all-alone stood.0 of.0 stood.1 j) && writes.is_on_disk (local_of of.0.outcome)

  tuple-is : (if is_some s.log.connection then lost e.loss s.tuple else s.tuple) ≡ h1.tuple
  tuple-is = (λ i. if stands_is i then lost (end.loss i) (left.rest.tuple i) else left.rest.tuple i) ∙ sym c.tuple
    where
      stands_is : is_some s.log.connection ≡ (primary_connection h).begun
      stands_is = ap is_some left.rest.log.connection
          ∙ (ap (λ b. is_some (if not b && (primary_connection h).begun then Some (last_index h.connections) else None)) end.is_open
          ∙ go (primary_connection h).begun)
        where
          go : (b : Bool) → is_some (if b then Some (last_index h.connections) else None) ≡ b
          go true = refl
          go false = refl

  entries-are : s.entries ≡ map (entry_of h1) h1.writes
  entries-are =
      left.rest.entries.entries
      ∙ (map-at (entry_of h) (entry_of h1) h.writes (λ i a at. λ j. record {
        first = a.write.first;
        count = length a.write.contents;
        fate = elim (is_failed a.outcome) as
            (λ _. Fate) [ true ↦ Failed | false ↦ fate_in (find (λ (entry : Completion). entry.write.number == a.write.number) (sym c.journal j)) ];
        taken = list_any (λ number. number == a.write.number) (sym c.receipts j);
      })
      ∙ ap (map (entry_of h1)) (sym c.writes))

  close-due : IsDue (record s {
    peer = peer;
    marks = bits.marking (transition.unreleased_blocks s.log.writes) s.marks;
    tuple = if is_some s.log.connection
        then lost e.loss s.tuple else s.tuple;
    held = without 0 s.held;
    log = draining s.log;
    end = None;
  }) None h1
  close-due = record {
    homes = homes1;
    done = done;
    settings = left.rest.settings ∙ sym c.settings;
    tuple = tuple-is;
    peer = sym peer_is;
    connections = left.rest.connections ∙ (sym (length-change k h.connections) ∙ ap length (sym c.connections));
    log = drained-log;
    completed = moved-completed s h h1 writes.unlinking (λ a. a) s.log.acknowledged_through left homes last closed-moved;
    barrier_is = sym (ap (λ b. if b then Some (last_epoch (primary_connection h1).stream) else None) (down-on (with_completions h1) down));
    stream = drained-stream;
    entries = entries-are;
    receipts = λ i number at. subst (λ (ws : List Accepted). number ≤ length ws) (sym c.writes)
        (left.rest.entries.receipts i number (subst (λ (r : List ℕ). slice_get r i ≡ Some number) c.receipts at));
    held = held-is;
    marks = marks-are;
    activity = moved-activity s h h1 writes.unlinking (λ a. a) s.log.acknowledged_through left homes last closed-moved;
    end = ap (λ (x : PrimaryConnection). x.closed) c.last ∙ c.closed;
  }

  -- the transition leaves what the history's close leaves
  pub close-leaves : Leaves (transition.closing e (record s { peer = peer })).1 (follows h1).history
  close-leaves = (follow _ None h1 close-due what.Nothing).leaves

  -- and tells how many writes it completed
  pub close-count : (transition.closing e (record s { peer = peer })).0 ≡ length (follows h1).completed
  close-count =
      ap length (moved-completed s h h1 writes.unlinking (λ a. a) s.log.acknowledged_through left homes last closed-moved)
      ∙ (length-map (newly_completed h1) (λ a. completed_of (logged_of h1 a))
      ∙ (sym (length-map (newly_completed h1) (λ a. a.write.number)) ∙ by-end (resync_is_over (parted (with_completions h1)))))
    where
      by-end : (b : Bool) → length (map (λ a. a.write.number) (newly_completed h1)) ≡ length
          (followed_with b (parted (with_completions h1)) (map (λ accepted. accepted.write.number) (newly_completed h1))
          (barrier_of (with_completions h1))).completed
      by-end true = refl
      by-end false = refl
