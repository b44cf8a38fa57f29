-- The peer acknowledges an epoch: what that leaves, before what follows.
use Rattle.std.proofs.Common.{ℕ, zero, suc, ◌≡◌, ◌+◌, ◌-◌, ◌<◌, ◌≤◌, ◌⊎◌, inl, inr, Bool, true, false, not, ◌&&◌, ◌||◌, List, [], ◌∷◌, ◌++◌, length, map}
use Rattle.std.proofs.Common.{filter, take, drop, Option, Some, None, slice_get, Result, Ok, Err, refl, sym, ◌∙◌, ap, subst, arith, nat_le, ◌==◌}
use Rattle.std.proofs.Math.Bool.{or-false}
use Rattle.std.proofs.lemmas.List.{append-nil, map-id}
use Rattle.std.specs.Prelude.{if◌then◌else◌}
use Rattle.std.proofs.lemmas.Bool.{cases_lt, both_ways, and_parts, eqb-true, eq-eqb, lt-ltb, le-leb, lt-leb, leb-true, false_from_ne_true}
use Rattle.std.proofs.lemmas.Option.{slice_get_within}
use Rattle.blocks.specs.Positions.{StreamPosition}
use Rattle.blocks.specs.declared.settings.Settings.{Settings}
use Rattle.blocks.specs.declared.settings.Protocol.{Protocol}
use Rattle.model.specs.Contents.{Write}
use Rattle.model.specs.Stream.{StreamItem, WriteItem, BarrierItem, placed, barriers_in, epoch_of, last_epoch, epoch_size}
use Rattle.model.specs.Frames.{BarrierAckFrame, Received, naming}
use Rattle.model.specs.Marks.{releasing}
use Rattle.model.specs.Primary.{Accepted, PrimaryConnection, PrimaryHistory, no_primary_connection, primary_connection, last_index, change_last}
use Rattle.model.specs.Primary.{with_primary_connection, is_established, items_sent}
use Rattle.model.specs.Primary.{is_answered_by, is_answered, is_alone, is_confirmed, is_released}
use Rattle.model.specs.Primary.{is_rs_write_ack, is_barrier_ack, barrier_acknowledged, was_resynced, unreleased, open_writes, under_way, is_resync}
use Rattle.model.specs.PrimarySteps.{newly_completed, completion_of, with_completions, epoch_is_over, appending}
use Rattle.model.specs.Acknowledgements.{is_in_turn}
use Rattle.blocks.specs.declared.refusal.Refusal.{Refusal}
use Rattle.blocks.specs.declared.refusal.Refusal.TheVariants.{BadBarrierAck}
use Rattle.transferlog.specs.Log.{LogState, confirming, asks_answers, lacks_answer}
use Rattle.transferlog.specs.Writes as writes
use Rattle.transferlog.specs.Writes.{LogWrite, completed_of, released_of}
use Rattle.epochs.specs.Epochs.{EpochsState, is_awaited, acknowledging}
use Rattle.laws.proofs.Rules.Completions.{completes-same}
use Rattle.laws.proofs.Rules.EpochEnds.{TakesWrites, over-same}
use Rattle.laws.proofs.Lists.Last.{length-change, get-change, get-last-changed}
use Rattle.laws.proofs.Primary.Homes.{HasHomes}
use Rattle.laws.proofs.Releases.InOrderMoves.{Ordered, OrderedAfter, in-order-kept}
use Rattle.laws.proofs.Primary.Moves.{with_frame}
use Rattle.laws.proofs.Releases.Cleared.{confirmed-releases}
use Rattle.laws.proofs.Streams.Barriers.{behind-barrier}
use Rattle.laws.proofs.Releases.Runs.{ordered-release}
use Rattle.primary_protocol.specs.Core.{EndState, PrimaryState, unmarking, leaving}
use Rattle.primary_protocol.specs.Leaves.{numbers_after, total, is_sent, logged_of, held_of, holding_item, holding_write, LeavesLog, LeavesStream, LeavesEpochs}
use Rattle.primary_protocol.specs.Leaves.{LeavesActivity, LeavesEnd, EndLeft, IsQuiet, Leaves}
use Rattle.primary_protocol.proofs.Acknowledge.WriteAnswered.{any-frame}
use Rattle.primary_protocol.proofs.Common.Filters.{filter-at}
use Rattle.primary_protocol.proofs.Common.Following.{IsDue, parted}
use Rattle.primary_protocol.proofs.Acknowledge.AcceptedFrame.{end-framed, way-framed}
use Rattle.primary_protocol.proofs.Common.Reached.{primary-connection-of}
use Rattle.primary_protocol.proofs.Common.Marks.{unmarking-is}
use Rattle.primary_protocol.proofs.Common.WritesChange.{IsMoved, left-then, moved-released, moved-activity}
use Rattle.primary_protocol.proofs.Common.Releasing.{not-alone}
use Rattle.primary_protocol.proofs.Common.Reporting.{reports-of}
use Rattle.primary_protocol.proofs.Common.NothingFollows.{quiet-none}
use Rattle.primary_protocol.proofs.Common.WriteStates.{settled-seen, not-not}
use Rattle.primary_protocol.proofs.Acknowledge.BarrierTurns.{turn-back, epochs, first-total, next-is, ended-one, size-is, its-barrier, its-answer}
use Rattle.laws.proofs.Rules.Releases.{is_freed, freed-cases, freed-confirmed, freed-alone, released-parts, released-by, released-with}
use Rattle.primary_protocol.proofs.Acknowledge.WriteAnswered.{frames-more}
use Rattle.laws.proofs.Rules.Answered.{answered-other}
use Rattle.laws.proofs.Primary.WriteConnections.{alone-seen, sent-seen, answered-seen}

module _ (settings : Settings) (bound : TakesWrites settings) (s : PrimaryState) (h : PrimaryHistory) (e : EndState) (left : Leaves s h)
    (ordered : Ordered settings h) (is : s.end ≡ Some e) (end : LeavesEnd e (primary_connection h)) (begun : (primary_connection h).begun ≡ true)
    (long : 2 < length (primary_connection h).taken) (number size : ℕ) (turn : is_in_turn h number size ≡ true) where
  homes : HasHomes h
  homes = ordered.1.1.0.0

  on : is_established (primary_connection h) ≡ true
  on = λ i. not (end.is_open i) && begun i

  abbrev e0 : LeavesEpochs s.log (primary_connection h)
  e0 = epochs settings s h e left ordered end begun number size

  abbrev frame : Received
  frame = Ok (BarrierAckFrame number size)

  abbrev taken : PrimaryHistory
  taken = with_primary_connection (with_frame (Ok (BarrierAckFrame number size))) h

  abbrev later : PrimaryHistory
  later = releasing h (with_primary_connection (with_frame (Ok (BarrierAckFrame number size))) h)

  after : OrderedAfter settings taken
  after = (in-order-kept settings bound).confirms h number size end.is_open begun turn ordered

  after-releasing : OrderedAfter settings later
  after-releasing = ordered-release settings h taken (confirmed-releases settings h number size end.is_open ordered) ordered after

  out : primary_connection later ≡ with_frame frame (primary_connection h)
  out = primary-connection-of (with_frame frame) h later refl end.is_open

  next : number ≡ suc e0.acked
  next = next-is settings s h e left ordered end begun number size turn

  sized : size ≡ epoch_size (primary_connection h).stream (suc e0.acked)
  sized = size-is settings s h e left ordered end begun number size turn

  ended : e0.acked < barriers_in (primary_connection h).stream
  ended = ended-one settings s h e left ordered end begun number size turn

  first : (0 < length s.log.epochs.sizes) × (total (take 1 s.log.epochs.sizes) ≡ epoch_size (primary_connection h).stream (suc e0.acked))
  first = first-total s.log (primary_connection h) e0 ended

  -- What is acknowledged then.

  said : (epoch : ℕ) → 0 < epoch → barrier_acknowledged (with_frame frame (primary_connection h)) epoch ≡ nat_le epoch (suc e0.acked)
  said epoch some = any-frame (is_barrier_ack epoch) (primary_connection h) frame end.plain
      ∙ ((λ i. e0.acknowledged epoch some i || (number == epoch)) ∙ go (cases_lt e0.acked epoch))
    where
      go : (e0.acked < epoch) ⊎ (epoch ≤ e0.acked) → (nat_le epoch e0.acked || (number == epoch)) ≡ nat_le epoch (suc e0.acked)
      go (inr early) = (λ i. le-leb epoch e0.acked early i || (number == epoch)) ∙ sym (le-leb epoch (suc e0.acked) (omega arith))
      go (inl late) = (λ i. lt-leb epoch e0.acked late i || (number == epoch)) ∙ by-number (number == epoch) refl
        where
          by-number : (b : Bool) → (number == epoch) ≡ b → b ≡ nat_le epoch (suc e0.acked)
          by-number true same = sym (le-leb epoch (suc e0.acked) (let one = eqb-true number epoch same in let n = next in omega arith))
          by-number false other = sym (false_from_ne_true (nat_le epoch (suc e0.acked)) (λ upto. let few = leb-true epoch (suc e0.acked) upto in let n =
              next in both_ways (number == epoch) other (eq-eqb number epoch (omega arith))))

  block-same : (place : ℕ) (item : StreamItem)
      → was_resynced (with_frame frame (primary_connection h)) place item ≡ was_resynced (primary_connection h) place item
  block-same place item = any-frame (is_rs_write_ack (naming place item)) (primary_connection h) frame end.plain
      ∙ or-false (was_resynced (primary_connection h) place item)

  answered-by : (asked : Protocol) (place : ℕ) (item : StreamItem)
      → is_answered_by asked (with_frame frame (primary_connection h)) place item ≡ is_answered_by asked (primary_connection h) place item
  answered-by asked place item =
      answered-other asked (primary_connection h) (with_frame frame (primary_connection h)) frame place item refl
      (frames-more (primary_connection h) frame end.plain) refl refl

  -- What a write sees.

  alone-same : (a : Accepted) → is_alone later a ≡ is_alone h a
  alone-same = alone-seen h later (with_frame frame) refl refl

  sent-same : (a : Accepted) → is_sent later a ≡ is_sent h a
  sent-same = sent-seen h later (with_frame frame) refl refl

  answered-same : (a : Accepted) → is_answered later a ≡ is_answered h a
  answered-same = answered-seen h later (with_frame frame) refl refl (answered-by h.settings.protocol)

  seen : (a : Accepted) → logged_of later a ≡ logged_of h a
  seen a = λ j. record (logged_of h a) { linked = not (alone-same a j); sent = sent-same a j; answered = answered-same a j }

  abbrev upto : ℕ
  upto = s.log.acknowledged_through + size

  -- a write on the stream is released up to the new number
  confirmed-number : (i : ℕ) (a : Accepted) → slice_get h.writes i ≡ Some a → is_alone h a ≡ false → is_confirmed later a ≡ nat_le a.write.number upto
  confirmed-number i a at linked =
      let here = not-alone h homes ordered.1.0 i a at linked in
      let sum : s.log.acknowledged_through + total (take 1 s.log.epochs.sizes) ≡ upto = let t = first.1 in let z = sized in omega arith in
      let one : e0.acked + 1 ≡ suc e0.acked = omega arith in
      ap (λ (v : Option StreamPosition). elim v as (λ _. Bool) [
        | None ↦ false
        | Some home ↦ elim (slice_get (change_last (with_frame frame) h.connections) home.index) as
            (λ _. Bool) [ None ↦ false | Some c ↦ barrier_acknowledged c (epoch_of c.stream home.place) ]
      ]) here.home
      ∙ (ap (λ (v : Option PrimaryConnection). elim v as (λ _. Bool) [ None ↦ false | Some c ↦ barrier_acknowledged c (epoch_of c.stream here.place) ])
      (get-last-changed (with_frame frame) (no_primary_connection h.tuple) h.connections (primary_connection h) here.connected refl)
      ∙ (said (epoch_of (primary_connection h).stream here.place) (omega arith)
      ∙ (ap (nat_le (epoch_of (primary_connection h).stream here.place)) (sym one)
      ∙ (sym (e0.upto 1 here.place a.write (let many = first.0 in omega arith) here.there) ∙ ap (nat_le a.write.number) sum))))

  confirmed-stays : (i : ℕ) (a : Accepted) → slice_get h.writes i ≡ Some a → is_confirmed h a ≡ true → is_confirmed later a ≡ true
  confirmed-stays i a at was = go a.home refl was
    where
      see : ℕ → Option PrimaryConnection → Bool
      see place v = elim v as (λ _. Bool) [ None ↦ false | Some c ↦ barrier_acknowledged c (epoch_of c.stream place) ]

      go : (v : Option StreamPosition) → a.home ≡ v
          → elim v as (λ _. Bool) [ None ↦ false | Some home ↦ see home.place (slice_get h.connections home.index) ] ≡ true
          → elim v as (λ _. Bool) [ None ↦ false | Some home ↦ see home.place (slice_get (change_last (with_frame frame) h.connections) home.index) ] ≡ true
      go None so confirmed = absurd (cc)
      go (Some home) so confirmed =
          let housed = homes.housed i home.index home.place a at so in
          elim (get-change (with_frame frame) (no_primary_connection h.tuple) h.connections home.index housed.0 housed.1) [
            | inl stays ↦ ap (see home.place) (stays ∙ sym housed.1) ∙ confirmed
            | inr changed ↦
                let its : barrier_acknowledged housed.0 (epoch_of housed.0.stream home.place) ≡ true = ap (see home.place) (sym housed.1) ∙ confirmed in
                let last : barrier_acknowledged (primary_connection h) (epoch_of (primary_connection h).stream home.place) ≡ true =
                ap (λ (c : PrimaryConnection). barrier_acknowledged c (epoch_of c.stream home.place)) (sym changed.1) ∙ its in
                let early =
                leb-true (epoch_of (primary_connection h).stream home.place) e0.acked
                (sym (e0.acknowledged (epoch_of (primary_connection h).stream home.place) (omega arith))
                ∙ last) in
                ap (see home.place) changed.0 ∙
                (ap (λ (c : PrimaryConnection). barrier_acknowledged (with_frame frame c) (epoch_of c.stream home.place)) changed.1
                ∙ (said (epoch_of (primary_connection h).stream home.place) (omega arith)
                ∙ le-leb (epoch_of (primary_connection h).stream home.place) (suc e0.acked) (omega arith)))
          ]

  confirmed-moved : IsMoved h later (λ w. w) (λ a. a) upto
  confirmed-moved = record {
    settings = refl;
    journal = refl;
    writes = sym (map-id h.writes);
    write = λ a. refl;
    logged = λ i a at. seen a;
    released = λ i a at. released-with later a _ _ _ (settled-seen a.outcome) (not-not (is_alone h a) ∙ sym (alone-same a))
        (λ linked. confirmed-number i a at (sym (alone-same a) ∙ linked));
    stays = λ i a at so.
        let parts = released-parts h a so in
        released-by later a parts.done (stays-sure i a at parts.freed);
    failed = λ i a at so. so;
  }
    where
      stays-sure : (i : ℕ) (a : Accepted) → slice_get h.writes i ≡ Some a → is_freed h a ≡ true → is_freed later a ≡ true
      stays-sure i a at returned = elim (freed-cases h a returned) [
        | inl confirmed ↦ freed-confirmed later a (confirmed-stays i a at confirmed)
        | inr alone ↦ freed-alone later a (alone-same a ∙ alone)
      ]

  -- The log then.

  abbrev l1 : LogState
  l1 = confirming number size s.log

  map-none : (ws : List LogWrite) → map (λ w. w) ws ≡ ws
  map-none [] = refl
  map-none (w ∷ ws) = ap (λ (l : List LogWrite). w ∷ l) (map-none ws)

  writes-left : l1.writes ≡ map (logged_of later) (unreleased later)
  writes-left = ap (filter (λ w. not (writes.is_released upto w))) (sym (map-none s.log.writes))
      ∙ left-then s h later (λ w. w) (λ a. a) upto left homes ordered.1.0 confirmed-moved

  released-left : l1.released ≡ map (λ a. released_of (logged_of later a)) (filter (λ a. not (is_released h a) && is_released later a) h.writes)
  released-left = ap (λ ws. map released_of (filter (writes.is_released upto) ws)) (sym (map-none s.log.writes))
      ∙ moved-released s h later (λ w. w) (λ a. a) upto left homes ordered.1.0 confirmed-moved

  quiet : IsQuiet later
  quiet i a at = left.rest.quiet i a at ∙ sym (completes-same h later a (answered-same a) (alone-same a))

  none-new : newly_completed later ≡ []
  none-new = quiet-none later quiet

  index-then : last_index later.connections ≡ last_index h.connections
  index-then = ap (λ m. m - 1) (length-change (with_frame frame) h.connections)

  log-left : LeavesLog l1 later
  log-left = record {
    protocol = left.rest.log.protocol;
    backlog = left.rest.log.backlog;
    accepted = left.rest.log.accepted;
    connection = left.rest.log.connection ∙ sym (λ i. if is_established (out i) then Some (index-then i) else None);
    writes = writes-left;
    last_writes = left.rest.log.last_writes;
  }

  -- The epochs then.

  awaited : is_awaited number size s.log.epochs ≡ true
  awaited = (and_parts (is_awaited number size s.log.epochs) (not (asks_answers s.log.protocol && lacks_answer size s.log))
      (turn-back settings s h e left ordered end begun number size turn).1).0

  rest-is : (acknowledging number size s.log.epochs).1 ≡ record s.log.epochs { sizes = drop 1 s.log.epochs.sizes }
  rest-is = ap (λ b. (by b).1) awaited
    where
      by : Bool → Result (Unit {0}) Refusal × EpochsState
      by b = if b then (Ok tt, record s.log.epochs { sizes = drop 1 s.log.epochs.sizes }) else (Err BadBarrierAck, s.log.epochs)

  -- the oldest size goes
  sizes-split : (s.log.epochs.sizes ≡ size ∷ drop 1 s.log.epochs.sizes)
      × (drop 1 s.log.epochs.sizes ≡ map (epoch_size (primary_connection h).stream)
      (numbers_after (suc e0.acked) (barriers_in (primary_connection h).stream - suc e0.acked)))
  sizes-split = go (barriers_in (primary_connection h).stream - e0.acked) refl
    where
      go : (n : ℕ) → barriers_in (primary_connection h).stream - e0.acked ≡ n
          → (s.log.epochs.sizes ≡ size ∷ drop 1 s.log.epochs.sizes)
          × (drop 1 s.log.epochs.sizes ≡ map (epoch_size (primary_connection h).stream)
          (numbers_after (suc e0.acked) (barriers_in (primary_connection h).stream - suc e0.acked)))
      go zero none = absurd (let some = ended in omega arith)
      go (suc n) more =
          let all : s.log.epochs.sizes ≡ epoch_size (primary_connection h).stream (suc e0.acked) ∷ map (epoch_size (primary_connection h).stream)
          (numbers_after (suc e0.acked) n) =
          e0.sizes ∙ ap (λ m. map (epoch_size (primary_connection h).stream) (numbers_after e0.acked m)) more in
          let fewer : n ≡ barriers_in (primary_connection h).stream - suc e0.acked = omega arith in
          let behind : drop 1 s.log.epochs.sizes ≡ map (epoch_size (primary_connection h).stream) (numbers_after (suc e0.acked) n) = ap (drop 1) all in
          (all ∙ λ i. sym sized i ∷ sym behind i, behind ∙ ap (λ m. map (epoch_size (primary_connection h).stream) (numbers_after (suc e0.acked) m)) fewer)

  sum-split : (k : ℕ) → total (take (suc k) s.log.epochs.sizes) ≡ size + total (take k (drop 1 s.log.epochs.sizes))
  sum-split k = ap (λ (l : List ℕ). total (take (suc k) l)) sizes-split.0

  answered-then : (place : ℕ) (write : Write) → slice_get (primary_connection h).stream place ≡ Some (WriteItem write)
      → epoch_of (primary_connection h).stream place ≤ suc e0.acked
      → is_answered_by s.log.protocol (with_frame frame (primary_connection h)) place (WriteItem write) ≡ true
  answered-then place write at few = answered-by s.log.protocol place (WriteItem write)
      ∙ elim (cases_lt e0.acked (epoch_of (primary_connection h).stream place)) [
        | inr early ↦ e0.answered place write at early
        | inl late ↦ elim (its-answer settings s h e left ordered end begun number size turn place write at (let n = next in omega arith)) [
          | inl none ↦ ap (λ (p : Protocol). is_answered_by p (primary_connection h) place (WriteItem write)) (left.rest.log.protocol ∙ none)
              ∙ lt-ltb place (items_sent (primary_connection h)) (sent (let n = next in omega arith))
          | inr answer ↦ ap (λ (p : Protocol). is_answered_by p (primary_connection h) place (WriteItem write)) left.rest.log.protocol ∙ answer
        ]
      ]
    where
      barrier : (place : ℕ) × (place < items_sent (primary_connection h)) × (slice_get (primary_connection h).stream place ≡ Some (BarrierItem number))
          × (epoch_of (primary_connection h).stream place ≡ number) × (barrier_acknowledged (primary_connection h) number ≡ false)
      barrier = its-barrier settings s h e left ordered end begun number size turn

      -- a write of the epoch stands before its barrier, so it was sent
      sent : epoch_of (primary_connection h).stream place ≤ number → place < items_sent (primary_connection h)
      sent low =
          let within = slice_get_within (primary_connection h).stream place (WriteItem write) at in
          let early = barrier.1 in
          elim (cases_lt barrier.0 place) [
            | inl behind ↦ absurd (let rises = behind-barrier (primary_connection h).stream barrier.0 place number behind (omega arith) barrier.2 in let own =
                barrier.3 in omega arith)
            | inr upto ↦ omega arith
          ]

  e1 : LeavesEpochs l1 (with_frame frame (primary_connection h))
  e1 = record {
    acked = suc e0.acked;
    acknowledged = said;
    within = ended;
    places = ap (λ (x : EpochsState). x.places) rest-is ∙ e0.places;
    ended = ap (λ (x : EpochsState). x.ended) rest-is ∙ e0.ended;
    sizes = ap (λ (x : EpochsState). x.sizes) rest-is ∙ sizes-split.1;
    size = ap (λ (x : EpochsState). x.size) rest-is ∙ e0.size;
    resync = ap (λ (x : EpochsState). x.resync) rest-is ∙ e0.resync;
    upto = λ k place write few at.
        let sum = sum-split k in
        let same : s.log.acknowledged_through + size + total (take k (drop 1 s.log.epochs.sizes)) ≡ s.log.acknowledged_through + total
        (take (suc k) s.log.epochs.sizes) =
        omega arith in
        let count : e0.acked + suc k ≡ suc e0.acked + k = omega arith in
        let many : length s.log.epochs.sizes ≡ suc (length (drop 1 s.log.epochs.sizes)) = ap length sizes-split.0 in
        let within : k ≤ length (drop 1 s.log.epochs.sizes) = subst (λ (x : EpochsState). k ≤ length x.sizes) rest-is few in
        (λ i. nat_le write.number (s.log.acknowledged_through + size + total (take k (rest-is i).sizes)))
        ∙ (ap (nat_le write.number) same ∙ (e0.upto (suc k) place write (omega arith) at ∙ ap (nat_le (epoch_of (primary_connection h).stream place)) count));
    newest = (λ i. s.log.acknowledged_through + size + total (rest-is i).sizes + (rest-is i).size)
        ∙ (let all : total s.log.epochs.sizes ≡ size + total (drop 1 s.log.epochs.sizes) = ap total sizes-split.0 in let n = e0.newest in omega arith);
    first = λ some. ap (λ (x : EpochsState). x.first) rest-is ∙ (e0.first (subst (λ (x : EpochsState). 0 < x.size) rest-is some)
        ∙ ((let all : total s.log.epochs.sizes ≡ size + total (drop 1 s.log.epochs.sizes) = ap total sizes-split.0 in let is : suc
        (s.log.acknowledged_through + total s.log.epochs.sizes) ≡ suc (s.log.acknowledged_through + size + total (drop 1 s.log.epochs.sizes)) =
        omega arith in is)
        ∙ sym (λ i. suc (s.log.acknowledged_through + size + total (rest-is i).sizes))));
    answered = answered-then;
  }

  journal-same : (with_completions later).journal ≡ h.journal
  journal-same = ap (λ (l : List Accepted). h.journal ++ map (completion_of later) l) none-new ∙ append-nil h.journal

  on-still : epoch_is_over (with_completions later) ≡ false
  on-still = over-same h (with_completions later) (primary_connection h) (with_frame frame (primary_connection h)) refl out refl refl refl refl journal-same
      block-same
      ∙ ordered.1.1.0.1.on

  stream-left : LeavesStream l1 (parted (with_completions later))
  stream-left = subst (LeavesStream l1)
      (sym (ap (λ b. elim b as (λ _. PrimaryHistory) [
        | true ↦ appending (BarrierItem (last_epoch (primary_connection (with_completions later)).stream))
            (with_completions later)
        | false ↦ with_completions later
      ]) on-still)) (record {
        max_epoch = ap (λ (x : EpochsState). x.max_epoch) rest-is ∙ left.stream.max_epoch;
        on = λ so. subst (LeavesEpochs l1) (sym out) e1;
        here = λ so i a at behind. let place = left.stream.here on i a at (omega arith) in
            (place.0, place.1 ∙ ap (λ m. let at : StreamPosition = record { index = m; place = place.0 } in Some at) (sym index-then));
        off = λ none. absurd (both_ways (is_established (primary_connection later)) none (ap is_established out ∙ on));
      })

  held-left : s.held ≡ held_of later
  held-left = left.rest.held ∙ sym
      (ap (λ (c : PrimaryConnection). map holding_item (if is_established c then under_way c else []) ++ map holding_write (open_writes h)) out
      ∙ ap (λ (l : List (ℕ × StreamItem)). map holding_item (if is_established (primary_connection h) then l else []) ++ map holding_write (open_writes h))
      (filter-at (λ (entry : ℕ × StreamItem). is_resync entry.1 && not (was_resynced (with_frame frame (primary_connection h)) entry.0 entry.1))
      (λ (entry : ℕ × StreamItem). is_resync entry.1 && not (was_resynced (primary_connection h) entry.0 entry.1)) (placed (primary_connection h).stream)
      (λ i entry at. ap (λ b. is_resync entry.1 && not b) (block-same entry.0 entry.1))))

  -- All is there for what follows.
  pub confirmed-due : IsDue (record s { log = confirming number size s.log }) None
      (releasing h (with_primary_connection (with_frame (Ok (BarrierAckFrame number size))) h))
  confirmed-due = record {
    homes = after-releasing.1.1.0.0;
    done = λ i a at completed. sym (quiet i a at) ∙ completed;
    settings = left.rest.settings;
    tuple = left.rest.tuple;
    peer = left.rest.peer;
    connections = left.rest.connections ∙ sym (length-change (with_frame frame) h.connections);
    log = log-left;
    completed = sym (ap (map (λ a. completed_of (logged_of later a))) none-new);
    barrier_is = sym (ap (λ b. if b then Some (last_epoch (primary_connection (with_completions later)).stream) else None) on-still);
    stream = stream-left;
    entries = left.rest.entries.entries;
    receipts = left.rest.entries.receipts;
    held = held-left;
    marks =
        ap (unmarking l1.released l1.last_writes) left.rest.marks
        ∙ unmarking-is settings h taken l1.released l1.last_writes ordered after.1.1.0.0 after.1.0
        (confirmed-releases settings h number size end.is_open ordered)
        (reports-of h taken (λ a. a) l1.released released-left (sym (map-id h.writes)) (λ a. refl)) h.settings.blocks h.marks log-left.last_writes;
    activity = subst (λ rs. LeavesActivity (leaving rs s.activity) h.settings.slots (unreleased later))
        (ap (λ ws. map released_of (filter (writes.is_released upto) ws)) (map-none s.log.writes))
        (moved-activity s h later (λ w. w) (λ a. a) upto left homes ordered.1.0 confirmed-moved);
    end = subst (λ v. EndLeft v (primary_connection later)) (sym is)
        (subst (LeavesEnd e) (sym out) (end-framed e (primary_connection h) frame e.under_way end begun long
        (record { received = λ place item later_place. refl; written = λ place item later_place. refl; resynced = λ place item later_place. refl })
        (way-framed e.under_way (primary_connection h) frame block-same end.under_way)));
  }
