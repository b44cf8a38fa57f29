-- A write is accepted over a stream that stands: what that leaves, before what follows.
use Rattle.std.proofs.Common.{ℕ, suc, ◌≡◌, ◌+◌, ◌-◌, ◌<◌, ◌≤◌, inl, inr, Bool, true, false, not, ◌&&◌, List, [], ◌∷◌, ◌++◌, length, map, Option, Some}
use Rattle.std.proofs.Common.{None, slice_get, refl, sym, ◌∙◌, ap, subst, arith, nat_lt, nat_le, ◌==◌}
use Rattle.std.specs.Prelude.{option_map, if◌then◌else◌}
use Rattle.std.specs.List.{list_any}
use Rattle.std.proofs.lemmas.Bool.{both_ways, le-ltb}
use Rattle.std.proofs.lemmas.Bool.Decides.{nat_tests}
use Rattle.std.proofs.lemmas.List.{length-append, map-append, append-nil, append_assoc}
use Rattle.std.proofs.lemmas.Option.{slice_get_within}
use Rattle.blocks.specs.Positions.{StreamPosition}
use Rattle.blocks.specs.declared.settings.Settings.{Settings}
use Rattle.blocks.specs.declared.settings.Protocol.{Protocol}
use Rattle.model.specs.Contents.{Write, extent_of}
use Rattle.model.specs.Stream.{StreamItem, WriteItem, BarrierItem, number_of, last_epoch, epoch_size, items_of_epoch}
use Rattle.model.specs.Primary.{Accepted, Completion, PrimaryConnection, PrimaryHistory, no_primary_connection, primary_connection, last_index, is_established}
use Rattle.model.specs.Primary.{items_sent, is_answered_by, is_answered}
use Rattle.model.specs.Primary.{is_alone, is_failed, is_completed, is_open, open_writes, is_released, unreleased, under_way}
use Rattle.model.specs.PrimarySteps.{completion_of, newly_completed, with_completions, epoch_is_over, appending, submission, submitted}
use Rattle.epochs.specs.Epochs.{EpochsState, with_write, with_resync, write_placed, ended_if, placed}
use Rattle.transferlog.specs.Log as log
use Rattle.transferlog.specs.Log.{LogState, home_in, accepted_write, with_last_write}
use Rattle.transferlog.specs.Writes.{LogWrite, completed_of}
use Rattle.overlap.specs.Holdings.{Holding, holding, holding_too}
use Rattle.activitylog.specs.Activity.{can_begin, begun}
use Rattle.model.specs.Marks.{marking}
use Rattle.transferlog.specs.declared.local.Local.TheVariants as local
use Rattle.laws.proofs.Rules.Completions.{completes-same}
use Rattle.laws.proofs.Primary.LastEpoch.{unsettled-more}
use Rattle.laws.proofs.Rules.EpochEnds.{TakesWrites, IsUnsettled, GoesOn, goes-on, over-full}
use Rattle.laws.proofs.Lists.Elements.{get-more, get-split}
use Rattle.laws.proofs.Lists.Last.{length-change, get-last-changed}
use Rattle.laws.proofs.Lists.Picks.{pick-image}
use Rattle.laws.proofs.Primary.Ends.{established-parts}
use Rattle.laws.proofs.Primary.Homes.{HasHomes, open-at, alone-at}
use Rattle.laws.proofs.Releases.InOrderMoves.{Ordered, OrderedAfter, in-order-kept}
use Rattle.laws.proofs.Primary.LawfulMoves.{last-changed}
use Rattle.laws.proofs.Streams.Lawful.{barrier-empties}
use Rattle.laws.proofs.Primary.Moves.{MaySubmit}
use Rattle.laws.proofs.Tracked.Kept.{fresh-number}
use Rattle.primary_protocol.specs.Core as core
use Rattle.primary_protocol.specs.Core.{Open, EndState, PrimaryState, unmarking}
use Rattle.primary_protocol.specs.Transitions.{whole_blocks}
use Rattle.primary_protocol.specs.Leaves.{is_sent, logged_of, holding_item, holding_write, held_of, LeavesLog, LeavesStream, LeavesEpochs, LeavesActivity}
use Rattle.primary_protocol.specs.Leaves.{LeavesEnd, EndLeft, IsQuiet, Leaves}
use Rattle.primary_protocol.proofs.Submit.NewWrite.{blocks-whole, concat-whole, latest-more, holding-end, filter-one}
use Rattle.primary_protocol.proofs.Common.Appending.{end-more, under-way-more}
use Rattle.primary_protocol.proofs.Submit.Extents.{begins-activity}
use Rattle.primary_protocol.proofs.Common.Connections.{SeesSame, seen-same, released-alike, alone-same, answers-same}
use Rattle.primary_protocol.proofs.Common.Epochs.{epochs-write, epochs-barrier, epochs-same}
use Rattle.primary_protocol.proofs.Common.Filters.{filter-at, map-at}
use Rattle.primary_protocol.proofs.Common.Following.{IsDue, parted, barrier_of, runs-more}
use Rattle.primary_protocol.proofs.Common.Marks.{unmarking-none}
use Rattle.primary_protocol.proofs.Common.NothingFollows.{quiet-none}
use Rattle.primary_protocol.proofs.Submit.Entries.{open-lower, numbers-early, HasRange, accepted_at, entries-more, done-more}
use Rattle.laws.proofs.Rules.Answered.{unanswered}

-- Over a stream that stands.
module _ (settings : Settings) (bound : TakesWrites settings) (s : PrimaryState) (h : PrimaryHistory) (first : ℕ) (bytes : List ℕ) (left : Leaves s h)
    (ordered : Ordered settings h)
    (may : MaySubmit h first (whole_blocks bytes)) (range : HasRange h.settings first (length (whole_blocks bytes)))
    (begins : can_begin (extent_of first) s.activity ≡ true) (on : is_established (primary_connection h) ≡ true) where
  homes : HasHomes h
  homes = ordered.1.1.0.0

  abbrev pub write : Write
  write = submission h first (whole_blocks bytes)

  abbrev pub item : StreamItem
  item = WriteItem (submission h first (whole_blocks bytes))

  abbrev pub new : Accepted
  new = accepted_at h first (whole_blocks bytes) (Some (record { index = last_index h.connections; place = length (primary_connection h).stream }))

  abbrev pub longer : PrimaryHistory
  longer = record h { writes = h.writes ++ new ∷ [] }

  abbrev pub later : PrimaryHistory
  later = appending (WriteItem (submission h first (whole_blocks bytes))) (record h { writes = h.writes ++ new ∷ [] })

  abbrev pub f : PrimaryConnection → PrimaryConnection
  f c = record c { stream = c.stream ++ WriteItem (submission h first (whole_blocks bytes)) ∷ [] }

  pub submitted-is : submitted h first (whole_blocks bytes) ≡ later
  submitted-is = ap (λ b. elim b as (λ _. PrimaryHistory) [
    | true ↦ later
    | false ↦ record h { writes = h.writes ++ accepted_at h first (whole_blocks bytes) None ∷ []; marks = marking write h.marks }
  ]) on

  after : OrderedAfter settings later
  after = subst (OrderedAfter settings) submitted-is ((in-order-kept settings bound).submits h first (whole_blocks bytes) may ordered)

  parts : ((primary_connection h).closed ≡ false) × ((primary_connection h).begun ≡ true)
  parts = established-parts (primary_connection h) on

  pub out : primary_connection later ≡ f (primary_connection h)
  out = last-changed longer f (no_primary_connection h.tuple) parts.0

  same : SeesSame (primary_connection h) (f (primary_connection h))
  same = record { closed = refl; pushed = refl; taken = refl; refused = refl }

  fresh : is_completed h (suc (length h.writes)) ≡ false
  fresh = fresh-number h ordered.0.numbers

  -- an old write is seen as before
  seen : (a : Accepted) → logged_of later a ≡ logged_of h a
  seen = seen-same h later f refl refl same

  released-old : (i : ℕ) (a : Accepted) → slice_get h.writes i ≡ Some a → is_released later a ≡ is_released h a
  released-old = released-alike h later f refl refl same homes (item ∷ []) refl

  -- the new one waits, and is in the log
  unreleased-is : unreleased later ≡ unreleased h ++ new ∷ []
  unreleased-is =
      filter-one (λ a. not (is_released later a)) h.writes new true refl
      ∙ ap (λ (l : List Accepted). l ++ new ∷ [])
      (filter-at (λ a. not (is_released later a)) (λ a. not (is_released h a)) h.writes (λ i a at. ap not (released-old i a at)))

  there : slice_get h.connections (last_index h.connections) ≡ Some (primary_connection h)
  there = open-at h parts.0

  there-then : slice_get later.connections (last_index h.connections) ≡ Some (f (primary_connection h))
  there-then = get-last-changed f (no_primary_connection h.tuple) h.connections (primary_connection h) there refl

  -- the new write in the log
  new-logged : (e : EndState) → LeavesEnd e (primary_connection h)
      → accepted_write first (length (whole_blocks bytes)) bytes (Some (record {
        index = last_index h.connections;
        place =
            length (primary_connection h).stream;
      })) s.log ≡ logged_of later new
  new-logged e end = λ i. record {
    number = number_is i;
    first = first;
    count = length (whole_blocks bytes);
    contents = sym (concat-whole bytes range.some) i;
    blocks = sym (blocks-whole bytes range.some) i;
    home = Some (record { index = last_index h.connections; place = length (primary_connection h).stream });
    linked = not (sym linked_is i);
    sent = sym sent_is i;
    answered = sym answered_is i;
    local = local.Waiting;
  }
    where
      number_is : s.log.accepted + 1 ≡ suc (length h.writes)
      number_is = let all = left.rest.log.accepted in omega arith

      linked_is : is_alone later new ≡ false
      linked_is = alone-at later new (record { index = last_index h.connections; place = length (primary_connection h).stream })
          (f (primary_connection h)) refl there-then ∙ parts.0

      sent_is : is_sent later new ≡ false
      sent_is = ap (λ (v : Option PrimaryConnection). elim v as
          (λ _. Bool) [ None ↦ false | Some c ↦ nat_lt (length (primary_connection h).stream) (items_sent c) ]) there-then
          ∙ le-ltb (length (primary_connection h).stream) (items_sent (primary_connection h)) end.pushed

      by-protocol : (asked : Protocol) → is_answered_by asked (f (primary_connection h)) (length (primary_connection h).stream) item ≡ false
      by-protocol asked = unanswered asked (f (primary_connection h)) (length (primary_connection h).stream) item end.pushed
          (end.unasked (length (primary_connection h).stream) item (omega arith)).0 (end.unasked (length (primary_connection h).stream) item (omega arith)).1

      answered_is : is_answered later new ≡ false
      answered_is = ap (λ (v : Option PrimaryConnection). elim v as
          (λ _. Bool) [ None ↦ false | Some c ↦ is_answered_by h.settings.protocol c (length (primary_connection h).stream) item ]) there-then
          ∙ by-protocol h.settings.protocol

  index-then : last_index later.connections ≡ last_index h.connections
  index-then = ap (λ m. m - 1) (length-change f h.connections)

  connection-is : s.log.connection ≡ Some (last_index h.connections)
  connection-is = left.rest.log.connection ∙ ap (λ b. if b then Some (last_index h.connections) else None) on

  -- what is due: an end that is open
  an-end : (e : EndState) × (s.end ≡ Some e) × LeavesEnd e (primary_connection h)
  an-end = go s.end refl left.rest.end
    where
      go : (v : Option EndState) → s.end ≡ v → EndLeft v (primary_connection h) → (e : EndState) × (s.end ≡ Some e) × LeavesEnd e (primary_connection h)
      go None none shut = absurd (both_ways (primary_connection h).closed parts.0 shut)
      go (Some e) is end = (e, is, end)

  -- the log then
  abbrev pub placed-there : ℕ × (Option ℕ × EpochsState)
  placed-there = placed (s.log.accepted + 1) s.log.epochs

  abbrev pub l1 : LogState
  l1 = log.with_write (accepted_write first (length (whole_blocks bytes)) bytes (Some (record {
    index = last_index h.connections;
    place =
        length (primary_connection h).stream;
  })) s.log)
      (placed (s.log.accepted + 1) s.log.epochs).1.1 s.log

  home-is : home_in s.log.connection (s.log.accepted + 1) s.log.epochs ≡ (
    Some (record { index = last_index h.connections; place = length (primary_connection h).stream }),
    (placed (s.log.accepted + 1) s.log.epochs).1,
  )
  home-is =
      ap (λ v. home_in v (s.log.accepted + 1) s.log.epochs) connection-is
      ∙ ap (λ n. let at : StreamPosition = record { index = last_index h.connections; place = n } in (Some at, (placed (s.log.accepted + 1) s.log.epochs).1))
      (left.stream.on on).places

  pub accepting-is : log.accepting first (length (whole_blocks bytes)) bytes s.log ≡ (
    record { number = s.log.accepted + 1; place = Some (length (primary_connection h).stream); barrier = (placed (s.log.accepted + 1) s.log.epochs).1.0 },
    l1,
  )
  accepting-is = ap (λ home. (
    record { number = s.log.accepted + 1; place = option_map (λ x. x.place) home.0; barrier = home.1.0 },
    log.with_write (accepted_write first (length (whole_blocks bytes)) bytes home.0 s.log) home.1.1 s.log,
  )) home-is

  log-left : LeavesLog l1 later
  log-left = record {
    protocol = left.rest.log.protocol;
    backlog = left.rest.log.backlog;
    accepted = let all = left.rest.log.accepted in let size = length-append h.writes (new ∷ []) in omega arith;
    connection = connection-is ∙ sym (λ i. if (ap is_established out ∙ on) i then Some (index-then i) else None);
    writes =
        (λ i. left.rest.log.writes i ++ new-logged an-end.0 an-end.2 i ∷ [])
        ∙ (ap (λ (l : List LogWrite). l ++ logged_of later new ∷ []) (map-at (logged_of h) (logged_of later) (unreleased h) (λ i a at. sym (seen a)))
        ∙ (sym (map-append (logged_of later) (unreleased h) (new ∷ [])) ∙ ap (map (logged_of later)) (sym unreleased-is)));
    last_writes =
        ap (with_last_write (s.log.accepted + 1) first (length (whole_blocks bytes))) left.rest.log.last_writes
        ∙ latest-more h.settings.blocks h.writes new (s.log.accepted + 1) first (length (whole_blocks bytes)) (let all = left.rest.log.accepted in omega arith)
        refl refl range.inside;
  }

  -- nothing is completed
  quiet : IsQuiet later
  quiet = done-more h later first (whole_blocks bytes) (Some (record {
    index = last_index h.connections;
    place =
        length (primary_connection h).stream;
  })) left.rest.quiet fresh refl refl
      (λ i a at. completes-same h later a (answers-same h later f refl refl same a) (alone-same h later f refl refl same a))

  none-new : newly_completed later ≡ []
  none-new = quiet-none later quiet

  journal-same : (with_completions later).journal ≡ h.journal
  journal-same = ap (λ (l : List Accepted). h.journal ++ map (completion_of later) l) none-new ∙ append-nil h.journal

  -- what is held
  held-left : holding_too (holding (s.log.accepted + 1) first (length (whole_blocks bytes))) s.held ≡ held_of later
  held-left =
      ap (holding_too (holding (s.log.accepted + 1) first (length (whole_blocks bytes)))) left.rest.held
      ∙ (holding-end (holding (s.log.accepted + 1) first (length (whole_blocks bytes))) (held_of h) lower
      ∙ (append_assoc zeros (map holding_write (open_writes h)) (holding (s.log.accepted + 1) first (length (whole_blocks bytes)) ∷ [])
      ∙ λ i. zeros-same i ++ opens i))
    where
      zeros : List Holding
      zeros = map holding_item (if is_established (primary_connection h) then under_way (primary_connection h) else [])

      all : s.log.accepted ≡ length h.writes
      all = left.rest.log.accepted

      lower : (i : ℕ) (x : Holding) → slice_get (held_of h) i ≡ Some x → x.number < s.log.accepted + 1
      lower i x at = elim (get-split (map holding_item (if is_established (primary_connection h) then under_way (primary_connection h) else []))
          (map holding_write (open_writes h)) i x at) [
            | inl way ↦ let of = pick-image holding_item (if is_established (primary_connection h) then under_way (primary_connection h)
                else []) i x way in let none : x.number ≡ 0 =
                ap (λ (y : Holding). y.number) (sym of.2) in omega arith
            | inr opened ↦ let low = open-lower h homes opened.0 x opened.2 in let size = all in omega arith
          ]

      zeros-same : map holding_item (if is_established (primary_connection h) then under_way (primary_connection h)
          else []) ≡ map holding_item (if is_established (primary_connection later)
          then under_way (primary_connection later) else [])
      zeros-same =
          sym (ap (λ (l : List (ℕ × StreamItem)). map holding_item (if is_established (primary_connection h) then l else []))
          (under-way-more (primary_connection h) (f (primary_connection h)) item same refl refl))
          ∙ sym (λ i. map holding_item (if is_established (out i) then under_way (out i) else []))

      opens : map holding_write (open_writes h) ++ holding (s.log.accepted + 1) first (length (whole_blocks bytes)) ∷ [] ≡ map holding_write (open_writes later)
      opens =
          (λ i. map holding_write (open_writes h) ++ holding ((let size = all in let is : s.log.accepted + 1 ≡ suc (length h.writes) = omega arith in is) i)
          first (length (whole_blocks bytes)) ∷ [])
          ∙ (sym (map-append holding_write (open_writes h) (new ∷ []))
          ∙ ap (map holding_write) (sym (filter-one (is_open h) h.writes new true (ap (λ b. not b && true) fresh))))

  -- The last epoch.

  quiet-end : GoesOn h (primary_connection h)
  quiet-end = goes-on h on ordered.1.1.0.1.on

  e0 : LeavesEpochs s.log (primary_connection h)
  e0 = left.stream.on on

  not-zero : (s.log.accepted + 1 == 0) ≡ false
  not-zero = grind (arith, nat_tests)

  placed-is : (placed (s.log.accepted + 1) s.log.epochs).1 ≡ write_placed (with_write (s.log.accepted + 1) s.log.epochs)
  placed-is = ap (λ b. if b then (None, with_resync s.log.epochs) else write_placed (with_write (s.log.accepted + 1) s.log.epochs)) not-zero

  -- the log with the write, before a barrier
  abbrev pub l0 : LogState
  l0 = record l1 { epochs = with_write (s.log.accepted + 1) s.log.epochs }

  e1 : LeavesEpochs l0 (primary_connection later)
  e1 = subst (LeavesEpochs l0) (sym out)
      (epochs-write s.log l0 (primary_connection h) (f (primary_connection h)) item e0 same refl refl refl write refl
      (let all = left.rest.log.accepted in omega arith) refl refl)

  -- whether the epoch is as long as it may be
  abbrev is_long : Bool
  is_long = nat_le s.log.epochs.max_epoch (s.log.epochs.size + 1)

  established-later : is_established (primary_connection later) ≡ true
  established-later = ap is_established out ∙ on

  -- what is open of the old ones is so still
  still-open : (a : Accepted) → is_open (with_completions later) a ≡ is_open h a
  still-open a = ap (λ (j : List Completion). not (list_any (λ (entry : Completion). entry.write.number == a.write.number) j) && not (is_failed a.outcome))
      journal-same

  -- the new write is open
  new-open : (a : Accepted) → a ≡ new → is_open (with_completions later) a ≡ true
  new-open a is = still-open a ∙ (ap (is_open h) is ∙ ap (λ b. not b && true) fresh)

  -- nothing of the last epoch is done
  unsettled : IsUnsettled (with_completions later) (f (primary_connection h))
  unsettled = unsettled-more h (with_completions later) (primary_connection h) (f (primary_connection h)) item refl refl quiet-end.unsettled
      (λ number was i a at same. elim (get-more h.writes new i a at) [
        | inl old ↦ still-open a ∙ was i a old same
        | inr added ↦ new-open a added.1
      ])
      (λ made is i a at same. elim (get-more h.writes new i a at) [
        | inl old ↦
            let itself : write ≡ made = cc in
            let number : suc (length h.writes) ≡ made.number = ap (λ (w : Write). w.number) itself in
            let index = homes.numbered i a old in
            let within = slice_get_within h.writes i a old in
            absurd (omega arith)
        | inr added ↦ new-open a added.1
      ])
      (λ place block contents. refl) refl

  over-is : epoch_is_over (with_completions later) ≡ is_long
  over-is = over-full (with_completions later) (f (primary_connection h)) s.log.epochs.max_epoch out on left.stream.max_epoch unsettled
      ∙ ap (nat_le s.log.epochs.max_epoch) size_is
    where
      size_is : epoch_size ((primary_connection h).stream ++ item ∷ []) (last_epoch ((primary_connection h).stream ++ item ∷ [])) ≡ s.log.epochs.size + 1
      size_is = sym (e1.size ∙ ap (λ (c : PrimaryConnection). epoch_size c.stream (last_epoch c.stream)) out)

  write-placed-is : (placed (s.log.accepted + 1) s.log.epochs).1 ≡ ended_if (epoch_is_over (with_completions later))
      (with_write (s.log.accepted + 1) s.log.epochs)
  write-placed-is = placed-is ∙ ap (λ b. ended_if b (with_write (s.log.accepted + 1) s.log.epochs)) (sym over-is)

  barrier-left : (placed (s.log.accepted + 1) s.log.epochs).1.0 ≡ barrier_of (with_completions later)
  barrier-left = ap (λ x. x.0) write-placed-is ∙ go (epoch_is_over (with_completions later))
    where
      more : s.log.epochs.ended + 1 ≡ last_epoch (primary_connection later).stream
      more = let x = e1.ended in omega arith

      go : (b : Bool) → (ended_if b (with_write (s.log.accepted + 1) s.log.epochs)).0 ≡ (if b then Some (last_epoch (primary_connection later).stream)
          else None)
      go true = ap (λ n. Some n) more
      go false = refl

  stream-left : LeavesStream l1 (parted (with_completions later))
  stream-left = go (epoch_is_over (with_completions later)) refl (ap (λ x. x.1) write-placed-is)
    where
      here : (i : ℕ) (a : Accepted) → slice_get later.writes i ≡ Some a → s.log.acknowledged_through < a.write.number
          → (place : ℕ) × (a.home ≡ Some (record { index = last_index h.connections; place = place }))
      here i a at behind = elim (get-more h.writes new i a at) [
        | inl old ↦ left.stream.here on i a old behind
        | inr added ↦ (length (primary_connection h).stream, ap (λ (x : Accepted). x.home) added.1)
      ]

      go : (b : Bool) → epoch_is_over (with_completions later) ≡ b
          → (placed (s.log.accepted + 1) s.log.epochs).1.1 ≡ (ended_if b (with_write (s.log.accepted + 1) s.log.epochs)).1
          → LeavesStream l1 (elim b as (λ _. PrimaryHistory) [
            | true ↦ appending (BarrierItem (last_epoch (primary_connection (with_completions later)).stream))
                (with_completions later)
            | false ↦ with_completions later
          ])
      go false still epochs = record {
        max_epoch = ap (λ (x : EpochsState). x.max_epoch) epochs ∙ left.stream.max_epoch;
        on = λ so. epochs-same l0 l1 (primary_connection later) (primary_connection later) e1 refl (λ epoch. refl) (λ asked place it was. was) refl refl refl
            epochs;
        here = λ so i a at behind. let place = here i a at behind in
            (place.0, place.1 ∙ ap (λ m. let at : StreamPosition = record { index = m; place = place.0 } in Some at) (sym index-then));
        off = λ none. absurd (both_ways (is_established (primary_connection later)) none established-later);
      }
      go true over epochs = record {
        max_epoch = ap (λ (x : EpochsState). x.max_epoch) epochs ∙ left.stream.max_epoch;
        on = λ so. epochs-barrier l0 l1 (primary_connection later)
            (primary_connection (appending (BarrierItem (last_epoch (primary_connection later).stream)) (with_completions later)))
            (BarrierItem (last_epoch (primary_connection later).stream)) e1
            (subst (SeesSame (primary_connection later)) (sym last) (record { closed = refl; pushed = refl; taken = refl; refused = refl }))
            (ap (λ (c : PrimaryConnection). c.stream) last) refl refl refl refl
            (ap (λ (x : List StreamItem). items_of_epoch x (last_epoch x)) (ap (λ (c : PrimaryConnection). c.stream) last)
            ∙ barrier-empties (primary_connection later).stream (last_epoch (primary_connection later).stream)) refl epochs few;
        here = λ so i a at behind.
            let place = here i a at behind in (
              place.0,
              place.1 ∙ ap (λ m. let at : StreamPosition = record { index = m; place = place.0 } in Some at)
                  (sym (ap (λ m. m - 1) (length-change
                  (λ (c : PrimaryConnection). record c { stream = c.stream ++ BarrierItem (last_epoch (primary_connection later).stream) ∷ [] })
                  later.connections) ∙ index-then)),
            );
        off = λ none. absurd (both_ways
            (is_established (primary_connection (appending (BarrierItem (last_epoch (primary_connection later).stream)) (with_completions later)))) none
            (ap is_established last ∙ established-later));
      }
        where
          last : primary_connection (appending (BarrierItem (last_epoch (primary_connection later).stream)) (with_completions later)) ≡
              record (primary_connection later) {
                stream =
                    (primary_connection later).stream ++ BarrierItem (last_epoch (primary_connection later).stream) ∷ [];
              }
          last = last-changed (with_completions later)
              (λ (c : PrimaryConnection). record c { stream = c.stream ++ BarrierItem (last_epoch (primary_connection later).stream) ∷ [] })
              (no_primary_connection h.tuple) (established-parts (primary_connection later) established-later).0

          few : (place : ℕ) (w : Write) → slice_get (primary_connection later).stream place ≡ Some (WriteItem w) → w.number ≤ s.log.accepted + 1
          few place w at = elim (get-more (primary_connection h).stream item place (WriteItem w)
              (subst (λ (c : PrimaryConnection). slice_get c.stream place ≡ Some (WriteItem w)) out at)) [
                | inl old ↦ let early = numbers-early h homes (last_index h.connections) (primary_connection h) there place w old in let all =
                    left.rest.log.accepted in omega arith
                | inr added ↦ let is : w.number ≡ suc (length h.writes) = ap number_of added.1 in let all = left.rest.log.accepted in omega arith
              ]

  -- All is there for what follows.
  pub stream-due : (number : ℕ) → number ≡ s.log.accepted + 1
      → IsDue (core.appending (WriteItem (record { number = number; first = first; contents = whole_blocks bytes }) ∷ []) (record s {
        log = l1;
        entries = s.entries ++ record { first = first; count = length (whole_blocks bytes); fate = Open; taken = false } ∷ [];
        held = holding_too (holding (s.log.accepted + 1) first (length (whole_blocks bytes))) s.held;
        activity = begun (extent_of first) s.activity;
      })) (placed (s.log.accepted + 1) s.log.epochs).1.0 later
  stream-due number number_is = record {
    homes = after.1.1.0.0;
    done = λ i a at completed. sym (quiet i a at) ∙ completed;
    settings = left.rest.settings;
    tuple = left.rest.tuple;
    peer = left.rest.peer;
    connections = left.rest.connections ∙ sym (length-change f h.connections);
    log = log-left;
    completed = sym (ap (map (λ a. completed_of (logged_of later a))) none-new);
    barrier_is = barrier-left;
    stream = stream-left;
    entries = entries-more s h later first (whole_blocks bytes) (Some (record {
      index = last_index h.connections;
      place =
          length (primary_connection h).stream;
    })) left fresh refl refl refl;
    receipts = λ i number at. let few = left.rest.entries.receipts i number at in let size = length-append h.writes (new ∷ []) in omega arith;
    held = held-left;
    marks = ap (unmarking [] l1.last_writes) left.rest.marks ∙ unmarking-none [] l1.last_writes h.settings.blocks h.marks (λ n r at. absurd (cc));
    activity = subst (LeavesActivity (begun (extent_of first) s.activity) h.settings.slots) (sym unreleased-is)
        (begins-activity s.activity h.settings.slots (unreleased h) new left.rest.activity begins);
    end = ends an-end.0 an-end.1 an-end.2;
  }
    where
      item_is : WriteItem (record { number = number; first = first; contents = whole_blocks bytes }) ≡ item
      item_is = ap (λ n. WriteItem (record { number = n; first = first; contents = whole_blocks bytes })) (number_is
          ∙ (let all = left.rest.log.accepted in omega arith))

      ends : (e : EndState) → s.end ≡ Some e → LeavesEnd e (primary_connection h)
          → EndLeft (option_map (λ (e : EndState). record e
          { unsent = e.unsent ++ WriteItem (record { number = number; first = first; contents = whole_blocks bytes }) ∷ [] }) s.end) (primary_connection later)
      ends e is end =
          subst (λ (v : Option EndState). EndLeft
          (option_map (λ (e : EndState). record e
          { unsent = e.unsent ++ WriteItem (record { number = number; first = first; contents = whole_blocks bytes }) ∷ [] }) v) (primary_connection later))
          (sym is)
          (subst (λ (i : StreamItem). LeavesEnd (record e { unsent = e.unsent ++ i ∷ [] }) (primary_connection later)) (sym item_is)
          (subst (λ (b : Bool). LeavesEnd (record e { unsent = e.unsent ++ item ∷ []; resync = b }) (primary_connection later))
          (runs-more (primary_connection h) (primary_connection later) item (ap (λ (c : PrimaryConnection). c.stream) out) (ap is_established out) refl refl
          ∙ sym end.resync)
          (end-more e (primary_connection h) (primary_connection later) item (subst (SeesSame (primary_connection h)) (sym out) same)
          (ap (λ (c : PrimaryConnection). c.stream) out)
          (ap (λ (c : PrimaryConnection). c.sync) out) (ap (λ (c : PrimaryConnection). c.loss) out) (ap (λ (c : PrimaryConnection). c.hello) out)
          (ap (λ (c : PrimaryConnection). c.begun) out
          ∙ parts.1) refl end)))
