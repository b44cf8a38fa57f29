-- A BARRIER_ACK: the log takes it exactly where the history finds it in its turn.
use Rattle.std.proofs.Common.{ℕ, zero, suc, ◌≡◌, ◌+◌, ◌-◌, ◌<◌, ◌⊎◌, inl, inr, Bool, true, false, not, ◌&&◌, ◌||◌, List, [], ◌∷◌, length, map, take, drop}
use Rattle.std.proofs.Common.{Option, Some, None, slice_get, refl, sym, ◌∙◌, ap, subst, arith, nat_lt, nat_le, ◌==◌}
use Rattle.std.specs.List.{list_any}
use Rattle.std.proofs.lemmas.Bool.{cases_Bool, cases_lt, both_ways, and_parts, not-true, eqb-true, eq-eqb, ltb-true, lt-ltb, le-leb, lt-leb, leb-true}
use Rattle.std.proofs.lemmas.Bool.{leb-false, false_from_ne_true}
use Rattle.std.proofs.lemmas.Option.{slice_get_within}
use Rattle.blocks.specs.declared.settings.Settings.{Settings}
use Rattle.blocks.specs.declared.settings.Protocol.{Protocol}
use Rattle.blocks.specs.declared.settings.Protocol.TheVariants as protocol
use Rattle.blocks.specs.Ranges.{is_between}
use Rattle.model.specs.Contents.{Write}
use Rattle.model.specs.Stream.{StreamItem, WriteItem, ResyncItem, BarrierItem, SyncUuidItem, UuidsItem, barriers_in, epoch_of, epoch_size, placed}
use Rattle.model.specs.Stream.{IsLawful}
use Rattle.model.specs.Primary.{Accepted, PrimaryConnection, PrimaryHistory, primary_connection, last_index, is_established, items_sent, is_answered_by}
use Rattle.model.specs.Primary.{is_answered, is_alone, is_confirmed}
use Rattle.model.specs.Primary.{is_released, unreleased, barrier_acknowledged, is_resync, was_resynced, under_way}
use Rattle.model.specs.Acknowledgements.{is_in_turn}
use Rattle.transferlog.specs.Log.{LogState, may_confirm, lacks_answer, asks_answers}
use Rattle.epochs.specs.Epochs.{is_awaited, begins_with}
use Rattle.laws.proofs.Rules.AckTurns.{IsTurn, turn-has, turn-by}
use Rattle.laws.proofs.Rules.EpochEnds.{most_writes}
use Rattle.laws.proofs.Lists.Elements.{same-at}
use Rattle.laws.proofs.Lists.Picks.{pick-any, any-pick, pick-filtered, filtered-pick}
use Rattle.laws.proofs.Primary.Homes.{open-at, alone-at, confirmed-at}
use Rattle.laws.proofs.Releases.InOrderMoves.{Ordered, earlier-said}
use Rattle.laws.proofs.Streams.Barriers.{barrier-of, behind-barrier}
use Rattle.laws.proofs.Streams.Places.{placed-at}
use Rattle.primary_protocol.specs.Core.{UnderWay, EndState, PrimaryState}
use Rattle.primary_protocol.specs.Taking.{is_unsent, is_in_epoch}
use Rattle.primary_protocol.specs.Leaves.{numbers_after, total, logged_of, LeavesEpochs, LeavesEnd, UnderWayLeft, Leaves}
use Rattle.primary_protocol.proofs.Common.Appending.{under-way-at}
use Rattle.primary_protocol.proofs.Acknowledge.AwaitedWrite.{answered-here}
use Rattle.primary_protocol.proofs.Common.Epochs.{sizes-many}
use Rattle.primary_protocol.proofs.Common.Filters.{any-map}
use Rattle.laws.proofs.Rules.Releases.{held-linked}

-- what is dropped stands behind
get-behind : {X : Type 0} (n : ℕ) (xs : List X) (k : ℕ) (x : X) → slice_get (drop n xs) k ≡ Some x → slice_get xs (n + k) ≡ Some x
get-behind zero xs k x at = ap (slice_get xs) (omega arith) ∙ at
get-behind (suc n) [] k x at = absurd (cc)
get-behind (suc n) (y ∷ xs) k x at = let index : suc n + k ≡ suc (n + k) = omega arith in ap (slice_get (y ∷ xs)) index ∙ get-behind n xs k x at

behind-get : {X : Type 0} (n : ℕ) (xs : List X) (k : ℕ) (x : X) → slice_get xs (n + k) ≡ Some x → slice_get (drop n xs) k ≡ Some x
behind-get zero xs k x at = ap (slice_get xs) (omega arith) ∙ at
behind-get (suc n) [] k x at = absurd (cc)
behind-get (suc n) (y ∷ xs) k x at = let index : suc (n + k) ≡ suc n + k = omega arith in behind-get n xs k x (ap (slice_get (y ∷ xs)) index ∙ at)

-- The oldest epoch that is not acknowledged, and its size.
first-size : (l : LogState) (c : PrimaryConnection) (e : LeavesEpochs l c) (size : ℕ) → begins_with size l.epochs.sizes ≡ true
    → (e.acked < barriers_in c.stream) × (size ≡ epoch_size c.stream (suc e.acked))
first-size l c e size begins = go (barriers_in c.stream - e.acked) refl (ap (begins_with size) (sym e.sizes) ∙ begins)
  where
    go : (n : ℕ) → barriers_in c.stream - e.acked ≡ n → begins_with size (map (epoch_size c.stream) (numbers_after e.acked n)) ≡ true
        → (e.acked < barriers_in c.stream) × (size ≡ epoch_size c.stream (suc e.acked))
    go zero none so = absurd (cc)
    go (suc n) some so = (omega arith, eqb-true size (epoch_size c.stream (suc e.acked)) so)

sizes-first : (l : LogState) (c : PrimaryConnection) (e : LeavesEpochs l c) → e.acked < barriers_in c.stream
    → begins_with (epoch_size c.stream (suc e.acked)) l.epochs.sizes ≡ true
sizes-first l c e some = ap (begins_with (epoch_size c.stream (suc e.acked))) e.sizes ∙ go (barriers_in c.stream - e.acked) refl
  where
    go : (n : ℕ) → barriers_in c.stream - e.acked ≡ n
        → begins_with (epoch_size c.stream (suc e.acked)) (map (epoch_size c.stream) (numbers_after e.acked n)) ≡ true
    go zero none = absurd (omega arith)
    go (suc n) more = eq-eqb (epoch_size c.stream (suc e.acked)) (epoch_size c.stream (suc e.acked)) refl

-- what the first of the sizes adds up to
pub first-total : (l : LogState) (c : PrimaryConnection) (e : LeavesEpochs l c) → e.acked < barriers_in c.stream
    → (0 < length l.epochs.sizes) × (total (take 1 l.epochs.sizes) ≡ epoch_size c.stream (suc e.acked))
first-total l c e some = (let many = sizes-many l c e in omega arith, ap (λ xs. total (take 1 xs)) e.sizes ∙ go (barriers_in c.stream - e.acked) refl)
  where
    go : (n : ℕ) → barriers_in c.stream - e.acked ≡ n → total (take 1 (map (epoch_size c.stream) (numbers_after e.acked n))) ≡ epoch_size c.stream (suc e.acked)
    go zero none = absurd (omega arith)
    go (suc n) more = omega arith

module _ (settings : Settings) (s : PrimaryState) (h : PrimaryHistory) (e : EndState) (left : Leaves s h) (ordered : Ordered settings h)
    (end : LeavesEnd e (primary_connection h)) (begun : (primary_connection h).begun ≡ true) (number size : ℕ) where
  on : is_established (primary_connection h) ≡ true
  on = λ i. not (end.is_open i) && begun i

  pub epochs : LeavesEpochs s.log (primary_connection h)
  epochs = left.stream.on on

  there : slice_get h.connections (last_index h.connections) ≡ Some (primary_connection h)
  there = open-at h end.is_open

  lawful : IsLawful (most_writes settings) (primary_connection h).stream
  lawful = ordered.1.1.0.1.streams.lawful (last_index h.connections) (primary_connection h) there

  sent : ℕ
  sent = items_sent (primary_connection h)

  stream : List StreamItem
  stream = (primary_connection h).stream

  -- the core's test
  abbrev takes : Bool
  takes = not (is_unsent number e.unsent || is_in_epoch number e.under_way) && may_confirm number size s.log

  -- where the log takes it
  module _ (unsent : is_unsent number e.unsent ≡ false) (elsewhere : is_in_epoch number e.under_way ≡ false) (may : may_confirm number size s.log ≡ true) where
    parts : (is_awaited number size s.log.epochs ≡ true) × (not (asks_answers s.log.protocol && lacks_answer size s.log) ≡ true)
    parts = and_parts (is_awaited number size s.log.epochs) (not (asks_answers s.log.protocol && lacks_answer size s.log)) may

    awaited : ((number + length s.log.epochs.sizes == s.log.epochs.ended + 1) ≡ true) × (begins_with size s.log.epochs.sizes ≡ true)
    awaited = and_parts (number + length s.log.epochs.sizes == s.log.epochs.ended + 1) (begins_with size s.log.epochs.sizes) parts.0

    sized : (epochs.acked < barriers_in (primary_connection h).stream) × (size ≡ epoch_size (primary_connection h).stream (suc epochs.acked))
    sized = first-size s.log (primary_connection h) epochs size awaited.1

    number_is : number ≡ suc epochs.acked
    number_is = let eq = eqb-true (number + length s.log.epochs.sizes) (s.log.epochs.ended + 1) awaited.0 in let many =
        sizes-many s.log (primary_connection h) epochs in let ended = epochs.ended in omega arith

    the-barrier : (place : ℕ) × (slice_get (primary_connection h).stream place ≡ Some (BarrierItem number))
        × (epoch_of (primary_connection h).stream place ≡ number)
    the-barrier =
        let some = sized.0 in
        let found = barrier-of (primary_connection h).stream number (let is = number_is in omega arith) (let is = number_is in omega arith) in
        let lawful_so = lawful.barriers found.0 found.1 found.2 in
        (found.0, found.2 ∙ ap (λ n. Some (BarrierItem n)) (lawful_so ∙ found.3), found.3)

    early : the-barrier.0 < items_sent (primary_connection h)
    early = elim (cases_lt the-barrier.0 (items_sent (primary_connection h))) [
      | inl so ↦ so
      | inr late ↦ absurd (
          let k : ℕ = the-barrier.0 - items_sent (primary_connection h) in
          let index : items_sent (primary_connection h) + k ≡ the-barrier.0 = omega arith in
          let at : slice_get (drop (items_sent (primary_connection h)) (primary_connection h).stream) k ≡ Some (BarrierItem number) =
          behind-get (items_sent (primary_connection h)) (primary_connection h).stream k (BarrierItem number)
          (ap (slice_get (primary_connection h).stream) index ∙ the-barrier.1) in
          both_ways (is_unsent number e.unsent) unsent
          (any-pick (λ item. elim item as (λ _. Bool) [ BarrierItem epoch ↦ epoch == number | _ ↦ false ]) e.unsent k (BarrierItem number)
          (subst (λ (l : List StreamItem). slice_get l k ≡ Some (BarrierItem number)) (sym end.unsent) at) (eq-eqb number number refl)))
    ]

    earlier : (j epoch : ℕ) → j < the-barrier.0 → slice_get (primary_connection h).stream j ≡ Some (BarrierItem epoch)
        → barrier_acknowledged (primary_connection h) epoch ≡ true
    earlier j epoch before at =
        let lawful_so = lawful.barriers j epoch at in
        let within = slice_get_within (primary_connection h).stream the-barrier.0 (BarrierItem number) the-barrier.1 in
        let rises = behind-barrier (primary_connection h).stream j the-barrier.0 epoch before (omega arith) at in
        let at_epoch = the-barrier.2 in
        epochs.acknowledged epoch (omega arith) ∙ le-leb epoch epochs.acked (let is = number_is in omega arith)

    -- each item of the epoch has its answer
    block-acknowledged : (place block : ℕ) (contents : List ℕ) → slice_get (primary_connection h).stream place ≡ Some (ResyncItem block contents)
        → epoch_of (primary_connection h).stream place ≡ number → was_resynced (primary_connection h) place (ResyncItem block contents) ≡ true
    block-acknowledged place block contents at is = go (was_resynced (primary_connection h) place (ResyncItem block contents)) refl e.under_way refl
        end.under_way
      where
        zero_more : 0 + place ≡ place
        zero_more = omega arith

        go : (b : Bool) → was_resynced (primary_connection h) place (ResyncItem block contents) ≡ b → (v : Option UnderWay) → e.under_way ≡ v
            → UnderWayLeft v (primary_connection h)
            → was_resynced (primary_connection h) place (ResyncItem block contents) ≡ true
        go true so v way left_so = so
        go false not_yet v way left_so =
            let waits = filtered-pick (λ (x : ℕ × StreamItem). is_resync x.1 && not (was_resynced (primary_connection h) x.0 x.1))
            (placed (primary_connection h).stream) place (
              place,
              ResyncItem block contents,
            ) (placed-at 0 (primary_connection h).stream place (ResyncItem block contents) at
            ∙ ap (λ m. Some (m, ResyncItem block contents)) zero_more) (ap not not_yet) in
            by-way v way left_so waits.0 waits.1
          where
            by-way : (v : Option UnderWay) → e.under_way ≡ v → UnderWayLeft v (primary_connection h) → (n : ℕ)
                → slice_get (under_way (primary_connection h)) n ≡ Some (place, ResyncItem block contents)
                → was_resynced (primary_connection h) place (ResyncItem block contents) ≡ true
            by-way None way none n there_so =
                absurd (let empty : slice_get [] n ≡ Some (place, ResyncItem block contents) =
                subst (λ (l : List (ℕ × StreamItem)). slice_get l n ≡ Some (place, ResyncItem block contents)) none there_so in cc)
            by-way (Some w) way one zero there_so = absurd (
                let first : Some (w.place, ResyncItem w.block one.0) ≡ Some (place, ResyncItem block contents) =
                ap (λ (l : List (ℕ × StreamItem)). slice_get l 0)
                (sym one.1) ∙ there_so in
                let same : (w.place, ResyncItem w.block one.0) ≡ (place, ResyncItem block contents) = cc in
                let place_is : w.place ≡ place = ap (λ (x : ℕ × StreamItem). x.0) same in
                let epoch_is : w.epoch ≡ number = sym one.2 ∙ (ap (epoch_of (primary_connection h).stream) place_is ∙ is) in
                both_ways (is_in_epoch number e.under_way) elsewhere (ap (is_in_epoch number) way ∙ eq-eqb w.epoch number epoch_is))
            by-way (Some w) way one (suc n) there_so =
                absurd (let none : slice_get ((w.place, ResyncItem w.block one.0) ∷ []) (suc n) ≡ Some (place, ResyncItem block contents) =
                subst (λ (l : List (ℕ × StreamItem)). slice_get l (suc n) ≡ Some (place, ResyncItem block contents)) one.1 there_so in cc)

    write-acknowledged : (place : ℕ) (write : Write) → slice_get (primary_connection h).stream place ≡ Some (WriteItem write)
        → epoch_of (primary_connection h).stream place ≡ number
        → (h.settings.protocol ≡ protocol.A) ⊎ (is_answered_by h.settings.protocol (primary_connection h) place (WriteItem write) ≡ true)
    write-acknowledged place write at is = by-protocol h.settings.protocol refl
      where
        found : (i : ℕ) × (a : Accepted) × (slice_get h.writes i ≡ Some a) × (a.write ≡ write)
            × (a.home ≡ Some (record { index = last_index h.connections; place = place }))
        found = ordered.1.1.0.0.homed (last_index h.connections) place (primary_connection h) write there at

        unconfirmed : is_confirmed h found.1 ≡ false
        unconfirmed = confirmed-at h found.1 (record { index = last_index h.connections; place = place }) (primary_connection h) found.4 there
            ∙ (epochs.acknowledged (epoch_of (primary_connection h).stream place) (omega arith)
            ∙ lt-leb (epoch_of (primary_connection h).stream place) epochs.acked (let n = number_is in omega arith))

        linked : is_alone h found.1 ≡ false
        linked = alone-at h found.1 (record { index = last_index h.connections; place = place }) (primary_connection h) found.4 there ∙ end.is_open

        held : is_released h found.1 ≡ false
        held = held-linked h found.1 unconfirmed linked

        -- it is one of those that the log looks at
        between : is_between (s.log.acknowledged_through + 1) size found.1.write.number ≡ true
        between =
            let number_of : found.1.write.number ≡ write.number = ap (λ (w : Write). w.number) found.3 in
            let some = first-total s.log (primary_connection h) epochs sized.0 in
            let low : nat_le write.number (s.log.acknowledged_through + 0) ≡ false = epochs.upto 0 place write (omega arith) at
            ∙ lt-leb (epoch_of (primary_connection h).stream place) (epochs.acked + 0) (let n = number_is in omega arith) in
            let high : nat_le write.number (s.log.acknowledged_through + total (take 1 s.log.epochs.sizes)) ≡ true =
            epochs.upto 1 place write (let many = some.0 in omega arith) at
            ∙ le-leb (epoch_of (primary_connection h).stream place) (epochs.acked + 1) (let n = number_is in omega arith) in
            let above = leb-false write.number (s.log.acknowledged_through + 0) low in
            let upto = leb-true write.number (s.log.acknowledged_through + total (take 1 s.log.epochs.sizes)) high in
            let sum = some.1 in
            let size_is = sized.1 in
            λ i. le-leb (s.log.acknowledged_through + 1) found.1.write.number (omega arith) i && lt-ltb found.1.write.number (s.log.acknowledged_through + 1 + size) (omega arith) i

        answered : asks_answers s.log.protocol ≡ true → is_answered h found.1 ≡ true
        answered asks = elim (cases_Bool (is_answered h found.1)) [
          | inl so ↦ so
          | inr not_yet ↦ absurd (
              let kept = filtered-pick (λ x. not (is_released h x)) h.writes found.0 found.1 found.2 (ap not held) in
              let lacks : lacks_answer size s.log ≡ true = ap (list_any (λ w. is_between (s.log.acknowledged_through + 1) size w.number && not w.answered))
              left.rest.log.writes
              ∙ (any-map (λ w. is_between (s.log.acknowledged_through + 1) size w.number && not w.answered) (logged_of h) (unreleased h)
              ∙ any-pick (λ a. is_between (s.log.acknowledged_through + 1) size a.write.number && not (is_answered h a)) (unreleased h) kept.0 found.1 kept.1
              (λ i. between i && not (not_yet i))) in
              both_ways (asks_answers s.log.protocol && lacks_answer size s.log) (not-true (asks_answers s.log.protocol && lacks_answer size s.log) parts.1)
              (λ i. asks i && lacks i))
        ]

        here : is_answered h found.1 ≡ is_answered_by h.settings.protocol (primary_connection h) place (WriteItem write)
        here = answered-here h found.1 place found.4 there
            ∙ ap (λ (w : Write). is_answered_by h.settings.protocol (primary_connection h) place (WriteItem w)) found.3

        by-protocol : (p : Protocol) → h.settings.protocol ≡ p
            → (h.settings.protocol ≡ protocol.A) ⊎ (is_answered_by h.settings.protocol (primary_connection h) place (WriteItem write) ≡ true)
        by-protocol protocol.A asked = inl asked
        by-protocol protocol.B asked = inr (sym here ∙ answered (ap asks_answers (left.rest.log.protocol ∙ asked)))
        by-protocol protocol.C asked = inr (sym here ∙ answered (ap asks_answers (left.rest.log.protocol ∙ asked)))

    -- so it is in its turn
    pub turn-forth : is_in_turn h number size ≡ true
    turn-forth = turn-by h number size (record {
      place = the-barrier.0;
      sent = early;
      there = the-barrier.1;
      first = epochs.acknowledged number (let is = number_is in omega arith) ∙ lt-leb number epochs.acked (let is = number_is in omega arith);
      before = earlier;
      sized = sized.1 ∙ ap (epoch_size (primary_connection h).stream) (sym number_is);
      blocks = block-acknowledged;
      writes = write-acknowledged;
    })

  -- where it is in its turn
  module _ (turn : is_in_turn h number size ≡ true) where
    its : IsTurn h number size
    its = turn-has h number size turn

    -- the barrier, sent and not acknowledged
    pub its-barrier : (place : ℕ) × (place < items_sent (primary_connection h)) × (slice_get (primary_connection h).stream place ≡ Some (BarrierItem number))
        × (epoch_of (primary_connection h).stream place ≡ number) × (barrier_acknowledged (primary_connection h) number ≡ false)
    its-barrier = (its.place, its.sent, its.there, sym (lawful.barriers its.place number its.there), its.first)

    some : 0 < number
    some = let is = its-barrier.3 in omega arith

    -- it is the next that is not acknowledged
    pub next-is : number ≡ suc epochs.acked
    next-is =
        let late = leb-false number epochs.acked (sym (epochs.acknowledged number some) ∙ its-barrier.4) in
        elim (cases_lt (suc epochs.acked) number) [
          | inl later ↦ absurd (
              let said = earlier-said (most_writes settings) (primary_connection h) number its.place lawful its.there its.before (suc epochs.acked)
              (omega arith)
              later in
              let early = leb-true (suc epochs.acked) epochs.acked (sym (epochs.acknowledged (suc epochs.acked) (omega arith)) ∙ said) in
              omega arith)
          | inr upto ↦ omega arith
        ]

    pub ended-one : epochs.acked < barriers_in (primary_connection h).stream
    ended-one =
        let within = slice_get_within (primary_connection h).stream its-barrier.0 (BarrierItem number) its-barrier.2 in
        let behind = behind-barrier (primary_connection h).stream its-barrier.0 (length (primary_connection h).stream) number within
        (omega arith) its-barrier.2 in
        let whole : barriers_in (take (length (primary_connection h).stream) (primary_connection h).stream) ≡ barriers_in (primary_connection h).stream =
        ap barriers_in (take-whole (primary_connection h).stream) in
        let epoch = its-barrier.3 in
        let is = next-is in
        omega arith
      where
        take-whole : {X : Type 0} (xs : List X) → take (length xs) xs ≡ xs
        take-whole [] = refl
        take-whole (x ∷ xs) = ap (λ (l : List _). x ∷ l) (take-whole xs)

    pub size-is : size ≡ epoch_size (primary_connection h).stream (suc epochs.acked)
    size-is = its.sized ∙ ap (epoch_size (primary_connection h).stream) next-is

    -- a write of the epoch has its answer, where the protocol asks for one
    pub its-answer : (place : ℕ) (write : Write) → slice_get (primary_connection h).stream place ≡ Some (WriteItem write)
        → epoch_of (primary_connection h).stream place ≡ number
        → (h.settings.protocol ≡ protocol.A) ⊎ (is_answered_by h.settings.protocol (primary_connection h) place (WriteItem write) ≡ true)
    its-answer = its.writes

    none-unsent : is_unsent number e.unsent ≡ false
    none-unsent = false_from_ne_true (is_unsent number e.unsent) (λ waits.
        let some_one = pick-any (λ item. elim item as (λ _. Bool) [ BarrierItem epoch ↦ epoch == number | _ ↦ false ]) e.unsent waits in
        let at = get-behind (items_sent (primary_connection h)) (primary_connection h).stream some_one.0 some_one.1
        (subst (λ (l : List StreamItem). slice_get l some_one.0 ≡ Some some_one.1) end.unsent some_one.2) in
        by-item some_one.0 some_one.1 at some_one.3)
      where
        by-item : (k : ℕ) (item : StreamItem) → slice_get (primary_connection h).stream (items_sent (primary_connection h) + k) ≡ Some item
            → elim item as (λ _. Bool) [ BarrierItem epoch ↦ epoch == number | _ ↦ false ] ≡ true → ⊥
        by-item k (BarrierItem epoch) at is =
            let same = eqb-true epoch number is in
            let within = slice_get_within (primary_connection h).stream (items_sent (primary_connection h) + k) (BarrierItem epoch) at in
            let early = its-barrier.1 in
            let rises = behind-barrier (primary_connection h).stream its-barrier.0 (items_sent (primary_connection h) + k) number (omega arith)
            (omega arith) its-barrier.2 in
            let other = lawful.barriers (items_sent (primary_connection h) + k) epoch at in
            let own = its-barrier.3 in
            omega arith
        by-item k (WriteItem write) at is = absurd (cc)
        by-item k (ResyncItem block contents) at is = absurd (cc)
        by-item k (SyncUuidItem word) at is = absurd (cc)
        by-item k (UuidsItem tuple) at is = absurd (cc)

    none-way : is_in_epoch number e.under_way ≡ false
    none-way = go e.under_way end.under_way
      where
        go : (v : Option UnderWay) → UnderWayLeft v (primary_connection h) → is_in_epoch number v ≡ false
        go None none = refl
        go (Some way) one = false_from_ne_true (way.epoch == number) (λ same.
            let at = under-way-at (primary_connection h) way.place (ResyncItem way.block one.0) [] one.1 in
            let answered = its.blocks way.place way.block one.0 at (one.2 ∙ eqb-true way.epoch number same) in
            let first : slice_get (under_way (primary_connection h)) 0 ≡ Some (way.place, ResyncItem way.block one.0) =
            ap (λ (l : List (ℕ × StreamItem)). slice_get l 0) one.1 in
            let waits = (pick-filtered (λ (x : ℕ × StreamItem). is_resync x.1 && not (was_resynced (primary_connection h) x.0 x.1))
            (placed (primary_connection h).stream) 0 (
              way.place,
              ResyncItem way.block one.0,
            ) first).2 in
            both_ways (was_resynced (primary_connection h) way.place (ResyncItem way.block one.0))
            (not-true (was_resynced (primary_connection h) way.place (ResyncItem way.block one.0)) waits) answered)

    none-lacks : (asks_answers s.log.protocol && lacks_answer size s.log) ≡ false
    none-lacks = false_from_ne_true (asks_answers s.log.protocol && lacks_answer size s.log) (λ both.
        let halves = and_parts (asks_answers s.log.protocol) (lacks_answer size s.log) both in
        let some_one = pick-any (λ a. is_between (s.log.acknowledged_through + 1) size a.write.number && not (is_answered h a)) (unreleased h)
        (sym (ap (list_any (λ w. is_between (s.log.acknowledged_through + 1) size w.number && not w.answered)) left.rest.log.writes
        ∙ any-map (λ w. is_between (s.log.acknowledged_through + 1) size w.number && not w.answered) (logged_of h) (unreleased h)) ∙ halves.1) in
        let stood = pick-filtered (λ x. not (is_released h x)) h.writes some_one.0 some_one.1 some_one.2 in
        by-write some_one.1 stood.0 stood.1
        (and_parts (is_between (s.log.acknowledged_through + 1) size some_one.1.write.number) (not (is_answered h some_one.1)) some_one.3) halves.0)
      where
        by-write : (a : Accepted) (i : ℕ) → slice_get h.writes i ≡ Some a
            → (is_between (s.log.acknowledged_through + 1) size a.write.number ≡ true) × (not (is_answered h a) ≡ true) → asks_answers s.log.protocol ≡ true → ⊥
        by-write a i at halves asks =
            let bounds = and_parts (nat_le (s.log.acknowledged_through + 1) a.write.number) (nat_lt a.write.number (s.log.acknowledged_through + 1 + size)) halves.0 in
            let low = leb-true (s.log.acknowledged_through + 1) a.write.number bounds.0 in
            let high = ltb-true a.write.number (s.log.acknowledged_through + 1 + size) bounds.1 in
            let place = left.stream.here on i a at (omega arith) in
            let housed = ordered.1.1.0.0.housed i (last_index h.connections) place.0 a at place.1 in
            let same : housed.0 ≡ primary_connection h = same-at h.connections (last_index h.connections) housed.0 (primary_connection h) housed.1 there in
            let item : slice_get (primary_connection h).stream place.0 ≡ Some (WriteItem a.write) =
            subst (λ (c : PrimaryConnection). slice_get c.stream place.0 ≡ Some (WriteItem a.write)) same housed.2 in
            let sums = first-total s.log (primary_connection h) epochs ended-one in
            let over : nat_le (epoch_of (primary_connection h).stream place.0) (epochs.acked + 0) ≡ false =
            sym (epochs.upto 0 place.0 a.write (omega arith) item)
            ∙ lt-leb a.write.number (s.log.acknowledged_through + 0) (omega arith) in
            let under : nat_le (epoch_of (primary_connection h).stream place.0) (epochs.acked + 1) ≡ true =
            sym (epochs.upto 1 place.0 a.write (let many = sums.0 in omega arith) item)
            ∙ le-leb a.write.number (s.log.acknowledged_through + total (take 1 s.log.epochs.sizes)) (let sum = sums.1 in let is = size-is in omega arith) in
            let above = leb-false (epoch_of (primary_connection h).stream place.0) (epochs.acked + 0) over in
            let upto = leb-true (epoch_of (primary_connection h).stream place.0) (epochs.acked + 1) under in
            let n = next-is in
            elim (its-answer place.0 a.write item (omega arith)) [
              | inl none ↦ both_ways (asks_answers s.log.protocol) (ap asks_answers (left.rest.log.protocol ∙ none)) asks
              | inr answer ↦ both_ways (is_answered h a) (not-true (is_answered h a) halves.1) (answered-here h a place.0 place.1 there ∙ answer)
            ]

    pub turn-back : ((is_unsent number e.unsent || is_in_epoch number e.under_way) ≡ false) × (may_confirm number size s.log ≡ true)
    turn-back = (
      λ i. none-unsent i || none-way i,
      λ i. (eq-eqb (number + length s.log.epochs.sizes) (s.log.epochs.ended + 1) (let many = sizes-many s.log (primary_connection h) epochs in let ended =
          epochs.ended in let n = next-is in omega arith) i
          && (ap (λ n. begins_with n s.log.epochs.sizes) size-is ∙ sizes-first s.log (primary_connection h) epochs ended-one) i) && not (none-lacks i),
    )
