-- Where something happens to one write, the log ends the last epoch where the history does.
use Rattle.std.proofs.Common.{ℕ, zero, suc, ◌≡◌, ◌+◌, ◌-◌, ◌<◌, ◌≤◌, ◌⊎◌, inl, inr, Bool, true, false, not, ◌&&◌, List, [], ◌∷◌, ◌++◌, length, filter, take}
use Rattle.std.proofs.Common.{Option, Some, None, slice_get, refl, sym, ◌∙◌, ap, subst, arith, nat_lt, nat_le, ◌==◌}
use Rattle.std.specs.Prelude.{if◌then◌else◌, option_map}
use Rattle.std.specs.List.{list_any}
use Rattle.std.proofs.lemmas.Bool.{cases_lt, both_ways, and_parts, and_from, not-true, false_from_ne_true, eqb-true, eq-eqb, le-leb, lt-ltb, ltb-true}
use Rattle.std.proofs.lemmas.Bool.{leb-false, lt-leb, le-ltb}
use Rattle.std.proofs.lemmas.Option.{slice_get_within, slice_get-map}
use Rattle.std.proofs.Math.Bool.{and-false}
use Rattle.blocks.specs.Positions.{StreamPosition}
use Rattle.blocks.specs.declared.settings.Settings.{Settings}
use Rattle.model.specs.Contents.{Write}
use Rattle.model.specs.Stream.{StreamItem, WriteItem, ResyncItem, BarrierItem, barriers_in, epoch_of, last_epoch, epoch_size, items_of_epoch, placed}
use Rattle.model.specs.Primary.{Accepted, PrimaryConnection, PrimaryHistory, no_primary_connection, primary_connection, last_index, is_established, is_failed}
use Rattle.model.specs.Primary.{is_completed, is_open, completes}
use Rattle.model.specs.Primary.{is_released, was_resynced}
use Rattle.model.specs.PrimarySteps.{with_completions, epoch_is_over, appending}
use Rattle.transferlog.specs.Log.{LogState, changing, closes_any, ended_by}
use Rattle.transferlog.specs.Ring.{on}
use Rattle.transferlog.specs.Writes as log
use Rattle.transferlog.specs.Writes.{LogWrite}
use Rattle.epochs.specs.Epochs.{EpochsState, empty, is_in_last, ended_if}
use Rattle.laws.proofs.Rules.EpochEnds.{most_writes, over-standing, HasRoom, GoesOn, goes-on, not-over, down-on, over-by-write}
use Rattle.laws.proofs.Lists.Elements.{same-at}
use Rattle.laws.proofs.Lists.Last.{length-change}
use Rattle.laws.proofs.Lists.Picks.{pick-any, any-pick, pick-filtered, filtered-pick, pick-image}
use Rattle.laws.proofs.Primary.Ends.{established-parts}
use Rattle.laws.proofs.Primary.Homes.{HasHomes, open-at}
use Rattle.laws.proofs.Primary.LastOpen.{IsLastOpen}
use Rattle.laws.proofs.Primary.LawfulMoves.{last-changed}
use Rattle.laws.proofs.Streams.Lawful.{barrier-empties, epoch-bound}
use Rattle.laws.proofs.Streams.Places.{placed-at, placed-back}
use Rattle.primary_protocol.specs.Core.{PrimaryState}
use Rattle.primary_protocol.specs.Leaves.{logged_of, total, LeavesEpochs, LeavesStream, Leaves}
use Rattle.primary_protocol.proofs.Common.OneWrite.{IsChange, established-then}
use Rattle.primary_protocol.proofs.Common.Completing.{quiet-completed}
use Rattle.primary_protocol.proofs.Common.Connections.{SeesSame}
use Rattle.primary_protocol.proofs.Common.Epochs.{epochs-same, epochs-barrier, sizes-many}
use Rattle.primary_protocol.proofs.Common.Filters.{any-at, any-map, any-filter}
use Rattle.primary_protocol.proofs.Common.Following.{parted, barrier_of}
use Rattle.primary_protocol.proofs.Common.Releasing.{released-not-open}
use Rattle.primary_protocol.proofs.Common.WriteStates.{open-seen}

-- all sizes together
take-all : (xs : List ℕ) → take (length xs) xs ≡ xs
take-all [] = refl
take-all (x ∷ xs) = ap (λ l. x ∷ l) (take-all xs)

-- a write of the stream is in the last epoch where its number is behind those of the ended ones
pub in-last : (l : LogState) (c : PrimaryConnection) (e : LeavesEpochs l c) (place : ℕ) (write : Write) → slice_get c.stream place ≡ Some (WriteItem write)
    → nat_le write.number (l.acknowledged_through + total l.epochs.sizes) ≡ nat_le (epoch_of c.stream place) (barriers_in c.stream)
in-last l c e place write at =
    ap (λ xs. nat_le write.number (l.acknowledged_through + total xs)) (sym (take-all l.epochs.sizes))
    ∙ (e.upto (length l.epochs.sizes) place write (omega arith) at ∙ ap (nat_le (epoch_of c.stream place)) (sizes-many l c e))

-- the number of a write that the log places in the last epoch
pub last-number : (l : LogState) (c : PrimaryConnection) (e : LeavesEpochs l c) (n : ℕ) → 0 < n → n ≤ l.accepted
    → is_in_last n l.epochs ≡ nat_lt (l.acknowledged_through + total l.epochs.sizes) n
last-number l c e n some few = go (n == 0) refl
  where
    go : (b : Bool) → (n == 0) ≡ b → (if b then l.epochs.resync else nat_lt 0 l.epochs.size && nat_le l.epochs.first n) ≡ nat_lt
        (l.acknowledged_through + total l.epochs.sizes) n
    go true is = absurd (let none = eqb-true n 0 is in omega arith)
    go false is = by-size l.epochs.size refl
      where
        by-size : (m : ℕ) → l.epochs.size ≡ m → (nat_lt 0 l.epochs.size && nat_le l.epochs.first n) ≡ nat_lt (l.acknowledged_through + total l.epochs.sizes) n
        by-size zero none =
            ap (λ m. nat_lt 0 m && nat_le l.epochs.first n) none
            ∙ sym (false_from_ne_true (nat_lt (l.acknowledged_through + total l.epochs.sizes) n)
            (λ less. let more = ltb-true (l.acknowledged_through + total l.epochs.sizes) n less in let all = e.newest in omega arith))
        by-size (suc m) many =
            let first = e.first (omega arith) in
            let begun : nat_lt 0 l.epochs.size ≡ true = lt-ltb 0 l.epochs.size (omega arith) in
            ap (λ b. b && nat_le l.epochs.first n) begun ∙ (ap (λ x. nat_le x n) first ∙ both (cases_lt (l.acknowledged_through + total l.epochs.sizes) n))
          where
            both : ((l.acknowledged_through + total l.epochs.sizes) < n) ⊎ (n ≤ (l.acknowledged_through + total l.epochs.sizes))
                → nat_le (suc (l.acknowledged_through + total l.epochs.sizes)) n ≡ nat_lt (l.acknowledged_through + total l.epochs.sizes) n
            both (inl less) = le-leb (suc (l.acknowledged_through + total l.epochs.sizes)) n (omega arith) ∙ sym (lt-ltb (l.acknowledged_through + total l.epochs.sizes) n less)
            both (inr more) = lt-leb (suc (l.acknowledged_through + total l.epochs.sizes)) n (omega arith) ∙ sym (le-ltb (l.acknowledged_through + total l.epochs.sizes) n more)

module _ (s : PrimaryState) (h h1 : PrimaryHistory) (n : ℕ) (f : LogWrite → LogWrite) (g : Accepted → Accepted) (k : PrimaryConnection → PrimaryConnection)
    (left : Leaves s h) (homes : HasHomes h) (last : IsLastOpen h) (quiet : epoch_is_over h ≡ false) (homes1 : HasHomes h1) (done1 : (i : ℕ) (a : Accepted)
    → slice_get h1.writes i ≡ Some a → is_completed h1 a.write.number ≡ true → completes h1 a ≡ true)
    (c : IsChange h h1 n f g k) where
  at-then : (i : ℕ) (a : Accepted) → slice_get h.writes i ≡ Some a → slice_get h1.writes i ≡ Some (g a)
  at-then i a at = ap (λ (ws : List Accepted). slice_get ws i) c.writes ∙ (slice_get-map g h.writes i ∙ ap (option_map g) at)

  open-was : (i : ℕ) (a : Accepted) → slice_get h.writes i ≡ Some a → is_open h a ≡ log.is_open (logged_of h a)
  open-was i a at = ap (λ b. not b && not (is_failed a.outcome)) (left.rest.quiet i a at) ∙ sym (open-seen h a)

  open-now : (i : ℕ) (a : Accepted) → slice_get h.writes i ≡ Some a → is_open (with_completions h1) (g a) ≡ log.is_open (on n f (logged_of h a))
  open-now i a at =
      ap (λ b. not b && not (is_failed (g a).outcome)) (quiet-completed h1 (record { numbered = homes1.numbered; done = done1 }) i (g a) (at-then i a at))
      ∙ (sym (open-seen h1 (g a)) ∙ ap log.is_open (c.logged i a at))

  -- the write that is open no more
  closes-is : closes_any (on n f) s.log ≡ list_any (λ a. log.is_open (logged_of h a) && not (log.is_open (on n f (logged_of h a)))) h.writes
  closes-is =
      ap (list_any (λ w. log.is_open w && not (log.is_open (on n f w)))) left.rest.log.writes
      ∙ (any-map (λ w. log.is_open w && not (log.is_open (on n f w))) (logged_of h) (filter (λ a. not (is_released h a)) h.writes)
      ∙ (any-filter (λ a. log.is_open (logged_of h a) && not (log.is_open (on n f (logged_of h a)))) (λ a. not (is_released h a)) h.writes
      ∙ any-at (λ a. not (is_released h a) && (log.is_open (logged_of h a) && not (log.is_open (on n f (logged_of h a)))))
      (λ a. log.is_open (logged_of h a) && not (log.is_open (on n f (logged_of h a)))) h.writes
      (λ i a at. go a (is_released h a) refl (released-not-open h s.log homes last left.rest.log.protocol left.stream.on i a at))))
    where
      go : (a : Accepted) (b : Bool) → is_released h a ≡ b → (is_released h a ≡ true → log.is_open (logged_of h a) ≡ false)
          → (not (is_released h a) && (log.is_open (logged_of h a) && not (log.is_open (on n f (logged_of h a))))) ≡
          (log.is_open (logged_of h a) && not (log.is_open (on n f (logged_of h a))))
      go a true is shut = (λ j. not (is j) && (log.is_open (logged_of h a) && not (log.is_open (on n f (logged_of h a)))))
          ∙ sym (ap (λ b. b && not (log.is_open (on n f (logged_of h a)))) (shut is))
      go a false is shut = ap (λ b. not b && (log.is_open (logged_of h a) && not (log.is_open (on n f (logged_of h a))))) is

  -- only the write of the number changes
  changed-number : (a : Accepted) → log.is_open (logged_of h a) ≡ true → log.is_open (on n f (logged_of h a)) ≡ false → a.write.number ≡ n
  changed-number a was now = go (a.write.number == n) refl
    where
      go : (b : Bool) → (a.write.number == n) ≡ b → a.write.number ≡ n
      go true is = eqb-true a.write.number n is
      go false is = absurd (both_ways (log.is_open (logged_of h a)) (sym (ap (λ b. log.is_open (if b then f (logged_of h a) else logged_of h a)) is) ∙ now) was)

  module _ (standing : is_established (primary_connection h) ≡ true) where
    c0 : PrimaryConnection
    c0 = primary_connection h

    e : LeavesEpochs s.log (primary_connection h)
    e = left.stream.on standing

    unshut : (primary_connection h).closed ≡ false
    unshut = (established-parts (primary_connection h) standing).0

    there : slice_get h.connections (last_index h.connections) ≡ Some (primary_connection h)
    there = open-at h unshut

    quiet-end : GoesOn h (primary_connection h)
    quiet-end = goes-on h standing quiet

    established-now : is_established (primary_connection h1) ≡ true
    established-now = established-then s h h1 n f g k left homes last c ∙ standing

    stream-is : (primary_connection h1).stream ≡ (primary_connection h).stream
    stream-is = ap (λ (x : PrimaryConnection). x.stream) c.last ∙ c.stream

    -- the items of the last epoch
    items : List (ℕ × StreamItem)
    items = items_of_epoch (primary_connection h).stream (last_epoch (primary_connection h).stream)

    -- a write of the last epoch that is open no more, and was: the write of the number
    settles : (j place : ℕ) (write : Write)
        → slice_get (items_of_epoch (primary_connection h).stream (last_epoch (primary_connection h).stream)) j ≡ Some (place, WriteItem write)
        → (i : ℕ) (a : Accepted) → slice_get h1.writes i ≡ Some a → a.write.number ≡ write.number → is_open (with_completions h1) a ≡ false
        → (closes_any (on n f) s.log && is_in_last n s.log.epochs) ≡ true
    settles j place write at i a ati same shut =
        let of = pick-image g h.writes i a (subst (λ (ws : List Accepted). slice_get ws i ≡ Some a) c.writes ati) in
        by-write of.0 of.1 (ap (λ (w : Write). w.number) (sym (c.write of.0)) ∙ (ap (λ (x : Accepted). x.write.number) of.2 ∙ same))
        (ap (is_open (with_completions h1)) of.2 ∙ shut)
      where
        by-write : (b : Accepted) → slice_get h.writes i ≡ Some b → b.write.number ≡ write.number → is_open (with_completions h1) (g b) ≡ false
            → (closes_any (on n f) s.log && is_in_last n s.log.epochs) ≡ true
        by-write b ati same shut =
            let shut_now : log.is_open (on n f (logged_of h b)) ≡ false = sym (open-now i b ati) ∙ shut in
            let open_then : log.is_open (logged_of h b) ≡ true = sym (open-was i b ati) ∙ quiet-end.unsettled.writes j place write at i b ati same in
            let number = changed-number b open_then shut_now in
            let closed : closes_any (on n f) s.log ≡ true = closes-is
            ∙ any-pick (λ a. log.is_open (logged_of h a) && not (log.is_open (on n f (logged_of h a)))) h.writes i b ati
            (and_from (log.is_open (logged_of h b)) (not (log.is_open (on n f (logged_of h b)))) open_then (ap not shut_now)) in
            let stood = pick-filtered (λ (x : ℕ × StreamItem). epoch_of (primary_connection h).stream x.0 == last_epoch (primary_connection h).stream)
            (placed (primary_connection h).stream) j (
              place,
              WriteItem write,
            ) at in
            let back = placed-back 0 (primary_connection h).stream stood.0 (place, WriteItem write) stood.1 in
            let index : stood.0 ≡ place = let p = back.0 in omega arith in
            let here : slice_get (primary_connection h).stream place ≡ Some (WriteItem write) =
            subst (λ m. slice_get (primary_connection h).stream m ≡ Some (WriteItem write)) index
            back.1 in
            let epoch : epoch_of (primary_connection h).stream place ≡ last_epoch (primary_connection h).stream =
            eqb-true (epoch_of (primary_connection h).stream place)
            (last_epoch (primary_connection h).stream) stood.2 in
            let b_index = homes.numbered i b ati in
            let within = slice_get_within h.writes i b ati in
            let all = left.rest.log.accepted in
            let behind : nat_le write.number (s.log.acknowledged_through + total s.log.epochs.sizes) ≡ false = in-last s.log (primary_connection h) e place write here
            ∙ lt-leb (epoch_of (primary_connection h).stream place) (barriers_in (primary_connection h).stream) (omega arith) in
            let more = leb-false write.number (s.log.acknowledged_through + total s.log.epochs.sizes) behind in
            and_from _ _ closed (last-number s.log (primary_connection h) e n (omega arith) (omega arith)
            ∙ lt-ltb (s.log.acknowledged_through + total s.log.epochs.sizes) n (omega arith))

    -- the other way: where the write of the number is open no more, and is in the last epoch, that epoch is over
    settled-then : closes_any (on n f) s.log ≡ true → is_in_last n s.log.epochs ≡ true
        → epoch_is_over (with_completions h1) ≡ true
    settled-then closed in_it =
        let some = pick-any (λ a. log.is_open (logged_of h a) && not (log.is_open (on n f (logged_of h a)))) h.writes (sym closes-is ∙ closed) in
        let parts = and_parts (log.is_open (logged_of h some.1)) (not (log.is_open (on n f (logged_of h some.1)))) some.3 in
        let shut = not-true (log.is_open (on n f (logged_of h some.1))) parts.1 in
        let number = changed-number some.1 parts.0 shut in
        let index = homes.numbered some.0 some.1 some.2 in
        let within = slice_get_within h.writes some.0 some.1 some.2 in
        let all = left.rest.log.accepted in
        let behind = ltb-true (s.log.acknowledged_through + total s.log.epochs.sizes) n (sym (last-number s.log (primary_connection h) e n (omega arith) (omega arith))
        ∙ in_it) in
        let place = left.stream.here standing some.0 some.1 some.2 (omega arith) in
        let housed = homes.housed some.0 (last_index h.connections) place.0 some.1 some.2 place.1 in
        let same : housed.0 ≡ primary_connection h = same-at h.connections (last_index h.connections) housed.0 (primary_connection h) housed.1 there in
        let item : slice_get (primary_connection h).stream place.0 ≡ Some (WriteItem some.1.write) =
        subst (λ (x : PrimaryConnection). slice_get x.stream place.0 ≡ Some (WriteItem some.1.write)) same housed.2 in
        let late : nat_le (epoch_of (primary_connection h).stream place.0) (barriers_in (primary_connection h).stream) ≡ false =
        sym (in-last s.log (primary_connection h) e place.0 some.1.write item)
        ∙ lt-leb some.1.write.number (s.log.acknowledged_through + total s.log.epochs.sizes) (omega arith) in
        let more = leb-false (epoch_of (primary_connection h).stream place.0) (barriers_in (primary_connection h).stream) late in
        let bound = epoch-bound (primary_connection h).stream place.0 in
        let epoch : (epoch_of (primary_connection h).stream place.0 == last_epoch (primary_connection h).stream) ≡ true =
        eq-eqb (epoch_of (primary_connection h).stream place.0)
        (last_epoch (primary_connection h).stream) (omega arith) in
        let placed_so = placed-at 0 (primary_connection h).stream place.0 (WriteItem some.1.write) item in
        let zero_more : 0 + place.0 ≡ place.0 = omega arith in
        let listed = filtered-pick (λ (x : ℕ × StreamItem). epoch_of (primary_connection h).stream x.0 == last_epoch (primary_connection h).stream)
        (placed (primary_connection h).stream) place.0
        (place.0, WriteItem some.1.write) (placed_so ∙ ap (λ m. Some (m, WriteItem some.1.write)) zero_more) epoch in
        over-by-write (with_completions h1) (primary_connection h1) refl established-now listed.0 place.0 some.1.write
        (subst (λ (x : List StreamItem). slice_get (items_of_epoch x (last_epoch x)) listed.0 ≡ Some (place.0, WriteItem some.1.write))
        (sym stream-is) listed.1)
        some.0 (g some.1) (at-then some.0 some.1 some.2) (ap (λ (w : Write). w.number) (c.write some.1)) (open-now some.0 some.1 some.2 ∙ shut)

    -- where no write of it is open no more, it goes on
    still-on : (closes_any (on n f) s.log && is_in_last n s.log.epochs) ≡ false → epoch_is_over (with_completions h1) ≡ false
    still-on not_both = not-over (with_completions h1) (primary_connection h1) refl (record {
      unsettled = record {
        writes = λ j place write at i a ati same. open-still i a (settles j place write (before j at) i a ati same);
        blocks = λ j place block contents at.
            ap (λ (x : PrimaryConnection). was_resynced x place (ResyncItem block contents)) c.last
            ∙ (c.resynced place (ResyncItem block contents) ∙ quiet-end.unsettled.blocks j place block contents (before j at));
      };
      room = subst (λ (x : Settings). HasRoom x (epoch_size (primary_connection h1).stream (last_epoch (primary_connection h1).stream))) (sym c.settings)
          (subst (λ (x : List StreamItem). HasRoom h.settings (epoch_size x (last_epoch x))) (sym stream-is) quiet-end.room);
    })
      where
        before : (j : ℕ) {v : Option (ℕ × StreamItem)}
            → slice_get (items_of_epoch (primary_connection h1).stream (last_epoch (primary_connection h1).stream)) j ≡ v
            → slice_get (items_of_epoch (primary_connection h).stream (last_epoch (primary_connection h).stream)) j ≡ v
        before j at = ap (λ (x : List StreamItem). slice_get (items_of_epoch x (last_epoch x)) j) (sym stream-is) ∙ at

        open-still : (i : ℕ) (a : Accepted) → (is_open (with_completions h1) a ≡ false → (closes_any (on n f) s.log && is_in_last n s.log.epochs) ≡ true)
            → is_open (with_completions h1) a ≡ true
        open-still i a shuts = go (is_open (with_completions h1) a) refl
          where
            go : (v : Bool) → is_open (with_completions h1) a ≡ v → is_open (with_completions h1) a ≡ true
            go true is = is
            go false shut = absurd (both_ways (closes_any (on n f) s.log && is_in_last n s.log.epochs) not_both (shuts shut))

    over-there : epoch_is_over (with_completions h1) ≡ (closes_any (on n f) s.log && is_in_last n s.log.epochs)
    over-there = same (closes_any (on n f) s.log) refl (is_in_last n s.log.epochs) refl
      where
        none : (closes_any (on n f) s.log && is_in_last n s.log.epochs) ≡ false
            → epoch_is_over (with_completions h1) ≡ (closes_any (on n f) s.log && is_in_last n s.log.epochs)
        none not_both = still-on not_both ∙ sym not_both

        same : (b : Bool) → closes_any (on n f) s.log ≡ b → (d : Bool) → is_in_last n s.log.epochs ≡ d
            → epoch_is_over (with_completions h1) ≡ (closes_any (on n f) s.log && is_in_last n s.log.epochs)
        same true closed true in_it = settled-then closed in_it ∙ sym (λ j. closed j && in_it j)
        same true closed false out = none (λ j. closed j && out j)
        same false stays d is = none (λ j. stays j && is_in_last n s.log.epochs)

  -- The history's last epoch is over exactly where the log's is.
  over-is : epoch_is_over (with_completions h1) ≡ (closes_any (on n f) s.log && is_in_last n s.log.epochs)
  over-is = go (is_established (primary_connection h)) refl
    where
      go : (b : Bool) → is_established (primary_connection h) ≡ b
          → epoch_is_over (with_completions h1) ≡ (closes_any (on n f) s.log && is_in_last n s.log.epochs)
      go true standing = over-there standing
      go false down =
          down-on (with_completions h1) (established-then s h h1 n f g k left homes last c ∙ down)
          ∙ sym (ap (λ (x : EpochsState). closes_any (on n f) s.log && is_in_last n x) (left.stream.off down)
          ∙ (ap (λ b. closes_any (on n f) s.log && b) (by-number (n == 0)) ∙ and-false (closes_any (on n f) s.log)))
        where
          by-number : (b : Bool) → (if b then false else nat_lt 0 0 && nat_le 0 n) ≡ false
          by-number true = refl
          by-number false = refl

  ends-as : (b d : Bool) → closes_any (on n f) s.log ≡ b → is_in_last n s.log.epochs ≡ d
      → ended_by (closes_any (on n f) s.log) n s.log.epochs ≡ ended_if (b && d) s.log.epochs
  ends-as true d closed in_it = ap (λ x. ended_by x n s.log.epochs) closed ∙ (ap (λ x. ended_if x s.log.epochs) in_it ∙ ended_cases d)
    where
      ended_cases : (d : Bool) → ended_if d s.log.epochs ≡ ended_if (true && d) s.log.epochs
      ended_cases true = refl
      ended_cases false = refl
  ends-as false d stays in_it = ap (λ x. ended_by x n s.log.epochs) stays

  -- what the log answers, and its epochs then
  ended-is : ended_by (closes_any (on n f) s.log) n s.log.epochs ≡ ended_if (epoch_is_over (with_completions h1)) s.log.epochs
  ended-is =
      ends-as (closes_any (on n f) s.log) (is_in_last n s.log.epochs) refl refl
      ∙ ap (λ b. ended_if b s.log.epochs) (sym over-is)

  -- an end whose last epoch is over stands
  over-stood : epoch_is_over (with_completions h1) ≡ true → is_established (primary_connection h1) ≡ true
  over-stood over = over-standing (with_completions h1) over

  -- the log's answer is the history's barrier
  pub barrier-then : (changing n f s.log).0 ≡ barrier_of (with_completions h1)
  barrier-then = ap (λ x. x.0) ended-is ∙ go (epoch_is_over (with_completions h1)) refl
    where
      go : (b : Bool) → epoch_is_over (with_completions h1) ≡ b
          → (ended_if b s.log.epochs).0 ≡ (if b then Some (last_epoch (primary_connection h1).stream) else None)
      go false on_still = refl
      go true over =
          let standing : is_established (primary_connection h) ≡ true = sym (established-then s h h1 n f g k left homes last c) ∙ over-stood over in
          let e = left.stream.on standing in
          let more : s.log.epochs.ended + 1 ≡ suc (barriers_in (primary_connection h).stream) = let x = e.ended in omega arith in
          ap (λ m. Some m) (more ∙ ap (λ (x : List StreamItem). suc (barriers_in x)) (sym (ap (λ (x : PrimaryConnection). x.stream) c.last ∙ c.stream)))

  -- The log's epochs are left, with the barrier.
  pub stream-then : LeavesStream (changing n f s.log).1 (parted (with_completions h1))
  stream-then = go (epoch_is_over (with_completions h1)) refl (ap (λ x. x.1) ended-is)
    where
      -- the epochs before a barrier
      before : (l : LogState) → l.protocol ≡ s.log.protocol → l.acknowledged_through ≡ s.log.acknowledged_through → l.accepted ≡ s.log.accepted → l.epochs ≡ s.log.epochs
          → is_established (primary_connection h) ≡ true → LeavesEpochs l (primary_connection h1)
      before l protocol confirmed accepted epochs standing =
          subst (LeavesEpochs l) (sym c.last)
          (epochs-same s.log l (primary_connection h) (k (primary_connection h)) (left.stream.on standing) c.stream c.acknowledged c.answered protocol confirmed
          accepted epochs)

      stood : is_established (primary_connection h1) ≡ true → is_established (primary_connection h) ≡ true
      stood so = sym (established-then s h h1 n f g k left homes last c) ∙ so

      index : last_index h1.connections ≡ last_index h.connections
      index = ap (λ (cs : List PrimaryConnection). length cs - 1) c.connections ∙ ap (λ m. m - 1) (length-change k h.connections)

      -- a write behind the confirmed ones has its place
      here : is_established (primary_connection h) ≡ true → (i : ℕ) (a : Accepted) → slice_get h1.writes i ≡ Some a → s.log.acknowledged_through < a.write.number
          → (place : ℕ) × (a.home ≡ Some (record { index = last_index h.connections; place = place }))
      here standing i a at behind =
          let of = pick-image g h.writes i a (subst (λ (ws : List Accepted). slice_get ws i ≡ Some a) c.writes at) in
          let number : of.0.write.number ≡ a.write.number = ap (λ (w : Write). w.number) (sym (c.write of.0)) ∙ ap (λ (x : Accepted). x.write.number) of.2 in
          let place = left.stream.here standing i of.0 of.1 (omega arith) in
          (place.0, ap (λ (x : Accepted). x.home) (sym of.2) ∙ (c.home of.0 ∙ place.1))

      go : (b : Bool) → epoch_is_over (with_completions h1) ≡ b → (changing n f s.log).1.epochs ≡ (ended_if b s.log.epochs).1
          → LeavesStream (changing n f s.log).1
          (elim b as (λ _. PrimaryHistory) [
            | true ↦ appending (BarrierItem (last_epoch (primary_connection (with_completions h1)).stream))
                (with_completions h1)
            | false ↦ with_completions h1
          ])
      go false still epochs = record {
        max_epoch = ap (λ (x : EpochsState). x.max_epoch) epochs ∙ (left.stream.max_epoch ∙ ap most_writes (sym c.settings));
        on = λ so. before (changing n f s.log).1 refl refl refl epochs (stood so);
        here = λ so i a at behind. let place = here (stood so) i a at behind in
            (place.0, place.1 ∙ ap (λ m. let at : StreamPosition = record { index = m; place = place.0 } in Some at) (sym index));
        off = λ none. epochs ∙ (left.stream.off (sym (established-then s h h1 n f g k left homes last c) ∙ none)
            ∙ ap (λ (x : Settings). empty (most_writes x)) (sym c.settings));
      }
      go true over epochs = record {
        max_epoch = ap (λ (x : EpochsState). x.max_epoch) epochs ∙ (left.stream.max_epoch ∙ ap most_writes (sym c.settings));
        on = λ so. epochs-barrier s.log (changing n f s.log).1 (primary_connection h1)
            (primary_connection (appending (BarrierItem (last_epoch (primary_connection h1).stream)) (with_completions h1)))
            (BarrierItem (last_epoch (primary_connection h1).stream))
            (before s.log refl refl refl refl standing)
            (subst (SeesSame (primary_connection h1)) (sym out) (record { closed = refl; pushed = refl; taken = refl; refused = refl }))
            (ap (λ (x : PrimaryConnection). x.stream) out) refl refl refl refl
            (ap (λ (x : List StreamItem). items_of_epoch x (last_epoch x)) (ap (λ (x : PrimaryConnection). x.stream) out)
            ∙ barrier-empties (primary_connection h1).stream (last_epoch (primary_connection h1).stream)) refl epochs few;
        here = λ so i a at behind.
            let place = here standing i a at behind in (
              place.0,
              place.1 ∙ ap (λ m. let at : StreamPosition = record { index = m; place = place.0 } in Some at)
                  (sym (ap (λ m. m - 1) (length-change
                  (λ (x : PrimaryConnection). record x { stream = x.stream ++ BarrierItem (last_epoch (primary_connection h1).stream) ∷ [] })
                  h1.connections) ∙ index)),
            );
        off = λ none. absurd (both_ways
            (is_established (primary_connection (appending (BarrierItem (last_epoch (primary_connection h1).stream)) (with_completions h1)))) none
            (ap is_established out
            ∙ over-stood over));
      }
        where
          standing : is_established (primary_connection h) ≡ true
          standing = stood (over-stood over)

          out : primary_connection (appending (BarrierItem (last_epoch (primary_connection h1).stream)) (with_completions h1))
              ≡ record (primary_connection h1) {
                stream =
                    (primary_connection h1).stream ++ BarrierItem (last_epoch (primary_connection h1).stream) ∷ [];
              }
          out = last-changed (with_completions h1)
              (λ (x : PrimaryConnection). record x { stream = x.stream ++ BarrierItem (last_epoch (primary_connection h1).stream) ∷ [] })
              (no_primary_connection h1.tuple) (established-parts (primary_connection h1) (over-stood over)).0

          few : (place : ℕ) (write : Write) → slice_get (primary_connection h1).stream place ≡ Some (WriteItem write) → write.number ≤ s.log.accepted
          few place write at =
              let ended_at : slice_get h.connections (last_index h.connections) ≡ Some (primary_connection h) =
              open-at h (established-parts (primary_connection h) standing).0 in
              let found = homes.homed (last_index h.connections) place (primary_connection h) write ended_at
              (subst (λ (x : List StreamItem). slice_get x place ≡ Some (WriteItem write)) (ap (λ (x : PrimaryConnection). x.stream) c.last ∙ c.stream) at) in
              let number = homes.numbered found.0 found.1 found.2 in
              let same : found.1.write.number ≡ write.number = ap (λ (w : Write). w.number) found.3 in
              let within = slice_get_within h.writes found.0 found.1 found.2 in
              let all = left.rest.log.accepted in
              omega arith
