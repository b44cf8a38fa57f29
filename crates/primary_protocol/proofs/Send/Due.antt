-- What a primary owes, and a frame that is pushed and that no write sees.
use Rattle.std.proofs.Common.{ℕ, zero, suc, ◌≡◌, ◌+◌, ◌-◌, ◌<◌, ◌≤◌, inl, inr, Bool, true, false, not, ◌&&◌, List, [], ◌∷◌, ◌++◌, length, map, drop}
use Rattle.std.proofs.Common.{Some, None, slice_get, Ok, refl, sym, ◌∙◌, ap, subst, arith, nat_lt, nat_le}
use Rattle.std.specs.Prelude.{min, option_map, if◌then◌else◌}
use Rattle.std.proofs.lemmas.Bool.{cases_lt, lt-ltb, le-ltb, le-leb, lt-leb}
use Rattle.std.proofs.lemmas.Option.{slice_get_within}
use Rattle.blocks.specs.Positions.{StreamPosition}
use Rattle.blocks.specs.declared.settings.Protocol.{Protocol}
use Rattle.blocks.specs.declared.outcome.What.{What}
use Rattle.blocks.specs.declared.outcome.Reply.TheVariants as reply
use Rattle.model.specs.Stream.{StreamItem}
use Rattle.model.specs.Frames.{Packet, frame_of, hello_of}
use Rattle.model.specs.Refusals.{done_with}
use Rattle.model.specs.Primary.{Accepted, PrimaryHistory, primary_connection, last_index, with_primary_connection, is_established, items_sent, frames_due}
use Rattle.model.specs.Primary.{is_answered_by, is_alone, is_confirmed, is_released, unreleased, open_writes, under_way}
use Rattle.model.specs.Primary.{resync_runs}
use Rattle.model.specs.PrimarySteps as step
use Rattle.model.specs.PrimarySteps.{epoch_is_over, resync_is_over}
use Rattle.epochs.specs.Epochs.{EpochsState}
use Rattle.transferlog.specs.Writes.{LogWrite, is_completed}
use Rattle.laws.proofs.Rules.FramesDue.{due-hello, due-at}
use Rattle.laws.proofs.Rules.ResyncEnds.{over-alike}
use Rattle.laws.proofs.Rules.EpochEnds.{over-same}
use Rattle.laws.proofs.Lists.Elements.{get-there}
use Rattle.laws.proofs.Lists.Last.{length-change}
use Rattle.laws.proofs.Lists.Picks.{pick-filtered}
use Rattle.laws.proofs.Primary.Homes.{HasHomes, open-at}
use Rattle.laws.proofs.Primary.Moves.{pushing}
use Rattle.primary_protocol.specs.Core.{EndState, PrimaryState}
use Rattle.primary_protocol.specs.Transitions.{owed, next_place}
use Rattle.primary_protocol.specs.Leaves.{logged_of, holding_item, holding_write, LeavesActivity, LeavesEpochs, LeavesEnd, Leaves}
use Rattle.primary_protocol.specs.Steps.{Agrees}
use Rattle.primary_protocol.proofs.Common.Epochs.{epochs-same}
use Rattle.primary_protocol.proofs.Common.Filters.{filter-at, map-at}
use Rattle.primary_protocol.proofs.Common.Reached.{primary-connection-of}
use Rattle.primary_protocol.proofs.Common.NothingFollows.{still}
use Rattle.primary_protocol.proofs.Common.WriteStates.{completes-seen}
use Rattle.laws.proofs.Rules.Releases.{released-same}
use Rattle.laws.proofs.Lists.Beginnings.{begins-self}
use Rattle.model.specs.Primary.{accepted_frames}
use Rattle.laws.proofs.Rules.Answered.{answered-more}
use Rattle.laws.proofs.Primary.WriteConnections.{alone-seen, confirmed-seen}

-- What is owed.

pub get-drop : {X : Type 0} (n : ℕ) (xs : List X) → slice_get (drop n xs) 0 ≡ slice_get xs n
get-drop zero xs = refl
get-drop (suc n) [] = refl
get-drop (suc n) (x ∷ xs) = get-drop n xs

pub drop-more : {X : Type 0} (n : ℕ) (xs : List X) → drop 1 (drop n xs) ≡ drop (suc n) xs
drop-more zero [] = refl
drop-more zero (x ∷ xs) = refl
drop-more (suc n) [] = refl
drop-more (suc n) (x ∷ xs) = drop-more n xs

length-drop : {X : Type 0} (n : ℕ) (xs : List X) → n ≤ length xs → n + length (drop n xs) ≡ length xs
length-drop zero xs within = omega arith
length-drop (suc n) [] within = absurd (omega arith)
length-drop (suc n) (x ∷ xs) within = let rest = length-drop n xs (omega arith) in omega arith

none-past : {X : Type 0} (xs : List X) (n : ℕ) → length xs ≤ n → slice_get xs n ≡ None
none-past [] n past = refl
none-past (x ∷ xs) zero past = absurd (omega arith)
none-past (x ∷ xs) (suc n) past = none-past xs n (omega arith)

-- as many places as the stream has, also where none has begun
pub places-are : (s : PrimaryState) (h : PrimaryHistory) → Leaves s h → HasHomes h → (primary_connection h).closed ≡ false
    → s.log.epochs.places ≡ length (primary_connection h).stream
places-are s h left homes unshut = go (primary_connection h).begun refl
  where
    go : (b : Bool) → (primary_connection h).begun ≡ b → s.log.epochs.places ≡ length (primary_connection h).stream
    go true is = (left.stream.on (λ i. not (unshut i) && is i)).places
    go false is = ap (λ (x : EpochsState). x.places) (left.stream.off (λ i. not (unshut i) && is i))
        ∙ sym (ap length (homes.empty (last_index h.connections) (primary_connection h) (open-at h unshut) is))

module _ (s : PrimaryState) (h : PrimaryHistory) (e : EndState) (left : Leaves s h) (homes : HasHomes h) (end : LeavesEnd e (primary_connection h)) where
  -- the place of the next item
  pub place-is : next_place e s ≡ items_sent (primary_connection h)
  place-is =
      let places = places-are s h left homes end.is_open in
      let unsent : length e.unsent ≡ length (drop ((primary_connection h).pushed - 3) (primary_connection h).stream) = ap length end.unsent in
      let all = length-drop ((primary_connection h).pushed - 3) (primary_connection h).stream end.pushed in
      omega arith

  pub said-early : (primary_connection h).pushed < 3 → nat_lt e.hello_sent 3 ≡ true
  said-early early = ap (λ n. nat_lt n 3) end.hello_sent ∙ lt-ltb (min (primary_connection h).pushed 3) 3 (omega arith)

  pub said-late : 3 ≤ (primary_connection h).pushed → nat_lt e.hello_sent 3 ≡ false
  said-late late = ap (λ n. nat_lt n 3) end.hello_sent ∙ le-ltb (min (primary_connection h).pushed 3) 3 (omega arith)

  pub owed-late : 3 ≤ (primary_connection h).pushed
      → owed e s ≡ option_map (frame_of (items_sent (primary_connection h))) (slice_get (primary_connection h).stream (items_sent (primary_connection h)))
  owed-late late =
      ap (λ b. if b then slice_get (hello_of s.settings e.hello) e.hello_sent else option_map (frame_of (next_place e s)) (slice_get e.unsent 0)) (said-late late)
      ∙ λ i. option_map (frame_of (place-is i)) ((ap (λ (l : List StreamItem). slice_get l 0) end.unsent
      ∙ get-drop ((primary_connection h).pushed - 3) (primary_connection h).stream) i)

  pub owed-is : owed e s ≡ slice_get (frames_due h.settings (primary_connection h)) (primary_connection h).pushed
  owed-is = elim (cases_lt (primary_connection h).pushed 3) [
    | inl early ↦
        ap (λ b. if b then slice_get (hello_of s.settings e.hello) e.hello_sent else option_map (frame_of (next_place e s)) (slice_get e.unsent 0)) (said-early early)
        ∙ ((λ i. slice_get (hello_of (left.rest.settings i) (end.hello i)) ((end.hello_sent ∙ same early) i))
        ∙ sym (due-hello h.settings (primary_connection h) (primary_connection h).pushed early))
    | inr late ↦
        let index : (primary_connection h).pushed ≡ 3 + items_sent (primary_connection h) = omega arith in
        owed-late late ∙ sym (ap (slice_get (frames_due h.settings (primary_connection h))) index
        ∙ due-at h.settings (primary_connection h) (items_sent (primary_connection h)))
  ]
    where
      same : (primary_connection h).pushed < 3 → min (primary_connection h).pushed 3 ≡ (primary_connection h).pushed
      same early = omega arith

  -- whether nothing is owed
  pub none-owed : slice_get (frames_due h.settings (primary_connection h)) (primary_connection h).pushed ≡ None
      → nat_le (length (frames_due h.settings (primary_connection h))) (primary_connection h).pushed ≡ true
  none-owed none = elim (cases_lt (primary_connection h).pushed (length (frames_due h.settings (primary_connection h)))) [
    | inl within ↦ absurd (let there = get-there (frames_due h.settings (primary_connection h)) (primary_connection h).pushed within in let at = there.1 in cc)
    | inr past ↦ le-leb (length (frames_due h.settings (primary_connection h))) (primary_connection h).pushed past
  ]

  pub some-owed : (packet : Packet) → slice_get (frames_due h.settings (primary_connection h)) (primary_connection h).pushed ≡ Some packet
      → nat_le (length (frames_due h.settings (primary_connection h))) (primary_connection h).pushed ≡ false
  some-owed packet at = lt-leb (length (frames_due h.settings (primary_connection h))) (primary_connection h).pushed
      (slice_get_within (frames_due h.settings (primary_connection h)) (primary_connection h).pushed packet at)

-- A frame is pushed that no write sees.
module _ (s : PrimaryState) (h : PrimaryHistory) (e f : EndState) (left : Leaves s h) (homes : HasHomes h) (end : LeavesEnd e (primary_connection h))
    (is : s.end ≡ Some e)
    (seen : (i : ℕ) (a : Accepted) → slice_get h.writes i ≡ Some a → logged_of (with_primary_connection pushing h) a ≡ logged_of h a)
    (pushed : LeavesEnd f (pushing (primary_connection h)))
    (on : epoch_is_over h ≡ false) (rests : resync_is_over h ≡ false) where
  out : primary_connection (with_primary_connection pushing h) ≡ pushing (primary_connection h)
  out = primary-connection-of pushing h (with_primary_connection pushing h) refl end.is_open

  -- what a write sees of its connection
  confirmed-same : (a : Accepted) → is_confirmed (with_primary_connection pushing h) a ≡ is_confirmed h a
  confirmed-same = confirmed-seen h (with_primary_connection pushing h) pushing refl (λ place. refl)

  alone-same : (a : Accepted) → is_alone (with_primary_connection pushing h) a ≡ is_alone h a
  alone-same = alone-seen h (with_primary_connection pushing h) pushing refl refl

  unreleased-same : unreleased (with_primary_connection pushing h) ≡ unreleased h
  unreleased-same = filter-at (λ a. not (is_released (with_primary_connection pushing h) a)) (λ a. not (is_released h a)) h.writes
      (λ i a at. ap not (released-same h (with_primary_connection pushing h) a (confirmed-same a) (alone-same a)))

  index-same : last_index (with_primary_connection pushing h).connections ≡ last_index h.connections
  index-same = ap (λ m. m - 1) (length-change pushing h.connections)

  pub pushed-leaves : Leaves (record s { end = Some f }) (with_primary_connection pushing h)
  pushed-leaves = record {
    rest = record {
      settings = left.rest.settings;
      tuple = left.rest.tuple;
      peer = left.rest.peer;
      connections = left.rest.connections ∙ sym (length-change pushing h.connections);
      log = record {
        protocol = left.rest.log.protocol;
        backlog = left.rest.log.backlog;
        accepted = left.rest.log.accepted;
        connection = left.rest.log.connection ∙ sym (λ i. if is_established (out i) then Some (index-same i) else None);
        writes =
            left.rest.log.writes
            ∙ sym (ap (map (logged_of (with_primary_connection pushing h))) unreleased-same
            ∙ map-at (logged_of (with_primary_connection pushing h)) (logged_of h) (unreleased h)
            (λ i a at. let there = pick-filtered (λ x. not (is_released h x)) h.writes i a at in seen there.0 a there.1));
        last_writes = left.rest.log.last_writes;
      };
      entries = record { entries = left.rest.entries.entries; receipts = left.rest.entries.receipts };
      marks = left.rest.marks;
      held = left.rest.held ∙ sym (λ i. map holding_item (if is_established (out i) then under_way (out i) else []) ++ map holding_write (open_writes h));
      activity = subst (LeavesActivity s.activity h.settings.slots) (sym unreleased-same) left.rest.activity;
      end = subst (LeavesEnd f) (sym out) pushed;
      quiet = λ i a at. left.rest.quiet i a at
          ∙ (sym (completes-seen h a) ∙ (ap log_completed (sym (seen i a at)) ∙ completes-seen (with_primary_connection pushing h) a));
    };
    stream = record {
      max_epoch = left.stream.max_epoch;
      on = λ so. subst (LeavesEpochs s.log) (sym out)
          (epochs-same s.log s.log (primary_connection h) (pushing (primary_connection h)) (left.stream.on (sym (ap is_established out) ∙ so)) refl
          (λ epoch. refl) grows refl refl refl refl);
      here = λ so i a at behind. let place = left.stream.here (sym (ap is_established out) ∙ so) i a at behind in (
        place.0,
        place.1
            ∙ ap (λ m. let at : StreamPosition = record { index = m; place = place.0 } in Some at) (sym index-same),
      );
      off = λ none. left.stream.off (sym (ap is_established out) ∙ none);
    };
  }
    where
      log_completed : LogWrite → Bool
      log_completed = is_completed

      grows : (asked : Protocol) (place : ℕ) (item : StreamItem) → is_answered_by asked (primary_connection h) place item ≡ true
          → is_answered_by asked (pushing (primary_connection h)) place item ≡ true
      grows asked place item so = answered-more asked (primary_connection h) (pushing (primary_connection h)) place item (omega arith)
          (begins-self (accepted_frames (primary_connection h))) so

  pub pushed-agrees : (name : What)
      → Agrees reply.Ok (Ok (done_with name), record s { end = Some f }) (step.succeeding name (with_primary_connection pushing h))
  pushed-agrees name =
      subst (Agrees reply.Ok (Ok (done_with name), record s { end = Some f }))
      (sym (still (with_primary_connection pushing h) pushed-leaves.rest.quiet (over ∙ on) (ended ∙ rests) name))
      (record { reply = refl; leaves = pushed-leaves })
    where
      over : epoch_is_over (with_primary_connection pushing h) ≡ epoch_is_over h
      over = over-same h (with_primary_connection pushing h) (primary_connection h) (pushing (primary_connection h)) refl out refl refl refl refl refl
          (λ place item. refl)

      ended : resync_is_over (with_primary_connection pushing h) ≡ resync_is_over h
      ended = over-alike h (with_primary_connection pushing h) refl refl (ap resync_runs out) (ap under_way out)
