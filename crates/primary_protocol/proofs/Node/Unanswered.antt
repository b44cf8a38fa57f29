-- How many writes of the standing stream were sent and are not answered, as a primary's log tells it.
use Rattle.std.proofs.Common.{ℕ, zero, suc, ◌≡◌, ◌+◌, ◌<◌, ◌≤◌, inl, inr, Bool, true, false, cond, not, ◌&&◌, List, [], ◌∷◌, length, map, filter}
use Rattle.std.proofs.Common.{Some, slice_get, refl, sym, ◌∙◌, ap, arith, nat_lt}
use Rattle.std.specs.Prelude.{if◌then◌else◌, option_map}
use Rattle.std.proofs.lemmas.Bool.{cases_Bool, both_ways, and_parts, and_from, not-true}
use Rattle.std.proofs.lemmas.List.{length-map}
use Rattle.model.specs.Contents.{Write}
use Rattle.model.specs.Stream.{StreamItem, WriteItem, ResyncItem, BarrierItem, SyncUuidItem, UuidsItem, is_write, number_of, placed, placed_from}
use Rattle.model.specs.Primary.{Accepted, PrimaryHistory, is_alone, is_answered, is_answered_by, is_released, items_sent}
use Rattle.model.specs.Primary.{last_index, primary_connection, is_established, unreleased}
use Rattle.model.specs.Status.{unanswered}
use Rattle.transferlog.specs.Writes.{LogWrite, is_unanswered}
use Rattle.laws.proofs.Lists.Picks.{pick-filtered, filtered-pick, pick-image}
use Rattle.laws.proofs.Primary.Ends.{established-parts}
use Rattle.laws.proofs.Primary.Homes.{HasHomes, alone-at, open-at}
use Rattle.laws.proofs.Streams.Places.{placed-at, placed-back}
use Rattle.primary_protocol.specs.Core.{PrimaryState}
use Rattle.primary_protocol.specs.Leaves.{is_sent, logged_of, Leaves}
use Rattle.primary_protocol.specs.Steps.{IsReached}
use Rattle.primary_protocol.proofs.Common.Homes.{sent-at, answered-at}
use Rattle.primary_protocol.proofs.Common.Filters.{filter-at, filter-map, filter-none, filter-twice}
use Rattle.primary_protocol.proofs.Common.Reached.{IsOrdered, reached-ordered}
use Rattle.primary_protocol.proofs.Common.Numbers.{AreNumberedFrom, numbered-first, numbered-rest, get-map}
use Rattle.primary_protocol.proofs.Common.Releasing.{confirmed-answered, not-alone}
use Rattle.laws.proofs.Rules.Releases.{freed-linked, released-parts}

-- Rising lists of numbers.

-- each number is above the one before it, the first at least this
abbrev RisesFrom : ℕ → List ℕ → Type 0
RisesFrom low [] = Unit {0}
RisesFrom low (x ∷ xs) = (low ≤ x) × RisesFrom (suc x) xs

lower : (low less : ℕ) (xs : List ℕ) → less ≤ low → RisesFrom low xs → RisesFrom less xs
lower low less [] within rises = tt
lower low less (x ∷ xs) within rises = (let a = rises.0 in omega arith, rises.1)

above : (low : ℕ) (xs : List ℕ) (i n : ℕ) → RisesFrom low xs → slice_get xs i ≡ Some n → low ≤ n
above low [] i n rises at = absurd (cc)
above low (x ∷ xs) zero n rises at = let same : x ≡ n = cc in let a = rises.0 in omega arith
above low (x ∷ xs) (suc i) n rises at = let a = rises.0 in let b = above (suc x) xs i n rises.1 at in omega arith

-- a filter leaves a rising list rising
rises-filtered : {X : Type 0} (number : X → ℕ) (p : X → Bool) (low : ℕ) (xs : List X) → RisesFrom low (map number xs) → RisesFrom low (map number (filter p xs))
rises-filtered number p low [] rises = tt
rises-filtered {X} number p low (x ∷ xs) rises = go (rises-filtered number p (suc (number x)) xs rises.1) (p x)
  where
    go : RisesFrom (suc (number x)) (map number (filter p xs)) → (b : Bool) → RisesFrom low (map number (cond b (x ∷ filter p xs) (filter p xs)))
    go rest true = (rises.0, rest)
    go rest false = lower (suc (number x)) low (map number (filter p xs)) (let a = rises.0 in omega arith) rest

-- the list has the number
abbrev Has : List ℕ → ℕ → Type 0
Has xs n = (i : ℕ) × (slice_get xs i ≡ Some n)

-- two rising lists of the same numbers are as long
same-length : (low other : ℕ) (xs ys : List ℕ) → RisesFrom low xs → RisesFrom other ys → ((n : ℕ) → Has xs n → Has ys n) → ((n : ℕ) → Has ys n → Has xs n)
    → length xs ≡ length ys
same-length low other [] [] rises too forth back = refl
same-length low other [] (y ∷ ys) rises too forth back = absurd (let none = back y (0, refl) in let at = none.1 in cc)
same-length low other (x ∷ xs) [] rises too forth back = absurd (let none = forth x (0, refl) in let at = none.1 in cc)
same-length low other (x ∷ xs) (y ∷ ys) rises too forth back =
    ap suc (same-length (suc x) (suc y) xs ys rises.1 too.1 (λ n has. behind n has.0 has.1 (forth n (suc has.0, has.1)))
    (λ n has. behind-too n has.0 has.1 (back n (suc has.0, has.1))))
  where
    low_end : x ≤ y
    low_end = by (back y (0, refl))
      where
        by : Has (x ∷ xs) y → x ≤ y
        by (zero, at) = let same : x ≡ y = cc in omega arith
        by (suc i, at) = let a = above (suc x) xs i y rises.1 at in omega arith

    high_end : y ≤ x
    high_end = by (forth x (0, refl))
      where
        by : Has (y ∷ ys) x → y ≤ x
        by (zero, at) = let same : y ≡ x = cc in omega arith
        by (suc i, at) = let a = above (suc y) ys i x too.1 at in omega arith

    behind : (n i : ℕ) → slice_get xs i ≡ Some n → Has (y ∷ ys) n → Has ys n
    behind n i at (zero, first) = absurd (let same : y ≡ n = cc in let a = above (suc x) xs i n rises.1 at in let b = high_end in let d =
        low_end in omega arith)
    behind n i at (suc j, there) = (j, there)

    behind-too : (n i : ℕ) → slice_get ys i ≡ Some n → Has (x ∷ xs) n → Has xs n
    behind-too n i at (zero, first) = absurd (let same : x ≡ n = cc in let a = above (suc y) ys i n too.1 at in let b = high_end in let d =
        low_end in omega arith)
    behind-too n i at (suc j, there) = (j, there)

-- Accepted writes rise by their numbers, and so do those of a stream.

writes-rise : (n : ℕ) (xs : List Accepted) → AreNumberedFrom n xs → RisesFrom n (map (λ (a : Accepted). a.write.number) xs)
writes-rise n [] all = tt
writes-rise n (x ∷ xs) all = let first = numbered-first n x xs all in (
  omega arith,
  lower (suc n) (suc x.write.number) (map (λ (a : Accepted). a.write.number) xs) (omega arith) (writes-rise (suc n) xs (numbered-rest n x xs all)),
)

-- numbers of the writes rise along the items
abbrev RisesAlong : List StreamItem → Type 0
RisesAlong items = (place later : ℕ) (a b : Write) → place < later → slice_get items place ≡ Some (WriteItem a) → slice_get items later ≡ Some (WriteItem b)
    → a.number < b.number

stream-rises : (low start : ℕ) (items : List StreamItem) → RisesAlong items
    → ((place : ℕ) (a : Write) → slice_get items place ≡ Some (WriteItem a) → low ≤ a.number)
    → RisesFrom low (map (λ (entry : ℕ × StreamItem). number_of entry.1) (filter (λ (entry : ℕ × StreamItem). is_write entry.1) (placed_from start items)))
stream-rises low start [] rises least = tt
stream-rises low start (WriteItem w ∷ items) rises least = (
  least 0 w refl,
  stream-rises (suc w.number) (suc start) items (λ place later a b less ata atb. rises (suc place) (suc later) a b (omega arith) ata atb)
      (λ place a at. rises 0 (suc place) w a (omega arith) refl at),
)
stream-rises low start (ResyncItem block contents ∷ items) rises least =
    stream-rises low (suc start) items (λ place later a b less ata atb. rises (suc place) (suc later) a b (omega arith) ata atb)
    (λ place a at. least (suc place) a at)
stream-rises low start (BarrierItem epoch ∷ items) rises least =
    stream-rises low (suc start) items (λ place later a b less ata atb. rises (suc place) (suc later) a b (omega arith) ata atb)
    (λ place a at. least (suc place) a at)
stream-rises low start (SyncUuidItem word ∷ items) rises least =
    stream-rises low (suc start) items (λ place later a b less ata atb. rises (suc place) (suc later) a b (omega arith) ata atb)
    (λ place a at. least (suc place) a at)
stream-rises low start (UuidsItem tuple ∷ items) rises least =
    stream-rises low (suc start) items (λ place later a b less ata atb. rises (suc place) (suc later) a b (omega arith) ata atb)
    (λ place a at. least (suc place) a at)

-- an item with its place
placed-here : (items : List StreamItem) (n : ℕ) (item : StreamItem) → slice_get items n ≡ Some item → slice_get (placed items) n ≡ Some (n, item)
placed-here items n item at = let same : 0 + n ≡ n = omega arith in placed-at 0 items n item at
    ∙ ap (λ (m : ℕ). let entry : ℕ × StreamItem = (m, item) in Some entry) same

-- The writes that the log says are not answered.
module _ (s : PrimaryState) (h : PrimaryHistory) (reached : IsReached h) (left : Leaves s h) where
  known : IsOrdered h
  known = reached-ordered h reached

  homes : HasHomes h
  homes = known.ordered.1.1.0.0

  abbrev waits : Accepted → Bool
  waits a = is_unanswered (logged_of h a)

  -- what is released waits for no answer
  released-answered : (i : ℕ) (a : Accepted) → slice_get h.writes i ≡ Some a → (not (is_released h a) && waits a) ≡ waits a
  released-answered i a at = go (is_released h a) refl
    where
      go : (b : Bool) → is_released h a ≡ b → (not b && waits a) ≡ waits a
      go false is = refl
      go true is = sym (elim (cases_Bool (is_alone h a)) [
        | inl alone ↦ ap (λ b. not b && (is_sent h a && not (is_answered h a))) alone
        | inr linked ↦
            let confirmed = freed-linked h a (released-parts h a is).freed linked in
            let answered = confirmed-answered h s.log homes known.ordered.1.0 left.rest.log.protocol left.stream.on i a at linked confirmed in
            ap (λ b. not (is_alone h a) && (is_sent h a && not b)) answered ∙ off (not (is_alone h a)) (is_sent h a)
      ])
        where
          off : (a b : Bool) → (a && (b && false)) ≡ false
          off true true = refl
          off true false = refl
          off false b = refl

  counted : length (filter is_unanswered s.log.writes) ≡ length (filter waits h.writes)
  counted =
      ap (λ (l : List LogWrite). length (filter is_unanswered l)) left.rest.log.writes
      ∙ (ap length (filter-map is_unanswered (logged_of h) (unreleased h))
      ∙ (length-map (filter waits (unreleased h)) (logged_of h)
      ∙ ap length (filter-twice waits (λ (a : Accepted). not (is_released h a)) h.writes
      ∙ filter-at (λ (a : Accepted). not (is_released h a) && waits a) waits h.writes released-answered)))

  -- where no stream stands, none does
  none-waits : is_established (primary_connection h) ≡ false → filter waits h.writes ≡ []
  none-waits shut = filter-none waits h.writes (λ i a at. elim (cases_Bool (is_alone h a)) [
    | inl alone ↦ ap (λ b. not b && (is_sent h a && not (is_answered h a))) alone
    | inr linked ↦ absurd (both_ways (is_established (primary_connection h)) shut (not-alone h homes known.ordered.1.0 i a at linked).standing)
  ])

  module _ (standing : is_established (primary_connection h) ≡ true) where
    abbrev asks : ℕ × StreamItem → Bool
    asks entry = nat_lt entry.0 (items_sent (primary_connection h)) && not (is_answered_by h.settings.protocol (primary_connection h) entry.0 entry.1)

    abbrev number_at : ℕ × StreamItem → ℕ
    number_at entry = number_of entry.1

    abbrev items : List (ℕ × StreamItem)
    items = filter (λ (entry : ℕ × StreamItem). is_write entry.1) (placed (primary_connection h).stream)

    connected : slice_get h.connections (last_index h.connections) ≡ Some (primary_connection h)
    connected = open-at h (established-parts (primary_connection h) standing).0

    -- a write that waits has its item there
    forth : (n : ℕ) → Has (map (λ (a : Accepted). a.write.number) (filter waits h.writes)) n → Has (map number_at (filter asks items)) n
    forth n (i, at) =
        let image = pick-image (λ (a : Accepted). a.write.number) (filter waits h.writes) i n at in
        let a : Accepted = image.0 in
        let there = pick-filtered waits h.writes i a image.1 in
        let parts = and_parts (not (is_alone h a)) (is_sent h a && not (is_answered h a)) there.2 in
        let more = and_parts (is_sent h a) (not (is_answered h a)) parts.1 in
        let here = not-alone h homes known.ordered.1.0 there.0 a there.1 (not-true (is_alone h a) parts.0) in
        let entry : ℕ × StreamItem = (here.place, WriteItem a.write) in
        let first = filtered-pick (λ (entry : ℕ × StreamItem). is_write entry.1) (placed (primary_connection h).stream) here.place entry
        (placed-here (primary_connection h).stream here.place (WriteItem a.write) here.there) refl in
        let asked : asks (here.place, WriteItem a.write) ≡ true = and_from (nat_lt here.place (items_sent (primary_connection h)))
        (not (is_answered_by h.settings.protocol (primary_connection h) here.place (WriteItem a.write)))
        (sym (sent-at h a (last_index h.connections) here.place (primary_connection h) here.home connected) ∙ more.0)
        (ap not (sym (answered-at h a (last_index h.connections) here.place (primary_connection h) here.home connected)) ∙ more.1) in
        let second = filtered-pick asks items first.0 entry first.1 asked in
        (second.0, get-map number_at (filter asks items) second.0 ∙ (ap (option_map number_at) second.1 ∙ ap Some image.2))

    -- and back
    back : (n : ℕ) → Has (map number_at (filter asks items)) n → Has (map (λ (a : Accepted). a.write.number) (filter waits h.writes)) n
    back n (i, at) =
        let image = pick-image number_at (filter asks items) i n at in
        let second = pick-filtered asks items i image.0 image.1 in
        let first = pick-filtered (λ (entry : ℕ × StreamItem). is_write entry.1) (placed (primary_connection h).stream) second.0 image.0 second.1 in
        let stood = placed-back 0 (primary_connection h).stream first.0 image.0 first.1 in
        go image.0.0 image.0.1 first.0 stood.0 stood.1 first.2 second.2 image.2
      where
        go : (place : ℕ) (item : StreamItem) (k : ℕ) → place ≡ 0 + k → slice_get (primary_connection h).stream k ≡ Some item → is_write item ≡ true
            → asks (place, item) ≡ true
            → number_of item ≡ n → Has (map (λ (a : Accepted). a.write.number) (filter waits h.writes)) n
        go place (WriteItem w) k index there written asked number_is =
            let same : place ≡ k = omega arith in
            let its = homes.homed (last_index h.connections) place (primary_connection h) w connected (ap (slice_get (primary_connection h).stream) same
            ∙ there) in
            let a : Accepted = its.1 in
            let home : a.home ≡ Some (record { index = last_index h.connections; place = place }) = its.4 in
            let parts = and_parts (nat_lt place (items_sent (primary_connection h)))
            (not (is_answered_by h.settings.protocol (primary_connection h) place (WriteItem w))) asked in
            let linked : not (is_alone h a) ≡ true =
            ap not (alone-at h a (record { index = last_index h.connections; place = place }) (primary_connection h) home connected
            ∙ (established-parts (primary_connection h) standing).0) in
            let sent : is_sent h a ≡ true = sent-at h a (last_index h.connections) place (primary_connection h) home connected ∙ parts.0 in
            let unanswered_still : not (is_answered h a) ≡ true = ap not (answered-at h a (last_index h.connections) place (primary_connection h) home connected
            ∙ ap (λ (x : Write). is_answered_by h.settings.protocol (primary_connection h) place (WriteItem x)) its.3) ∙ parts.1 in
            let found = filtered-pick waits h.writes its.0 a its.2
            (and_from (not (is_alone h a)) (is_sent h a && not (is_answered h a)) linked
            (and_from (is_sent h a) (not (is_answered h a)) sent unanswered_still)) in (
              found.0,
              get-map (λ (a : Accepted). a.write.number) (filter waits h.writes) found.0
                  ∙ (ap (option_map (λ (a : Accepted). a.write.number)) found.1 ∙ ap Some (ap (λ (x : Write). x.number) its.3 ∙ number_is)),
            )
        go place (ResyncItem block contents) k index there written asked number_is = absurd (cc)
        go place (BarrierItem epoch) k index there written asked number_is = absurd (cc)
        go place (SyncUuidItem word) k index there written asked number_is = absurd (cc)
        go place (UuidsItem tuple) k index there written asked number_is = absurd (cc)

    as-many : length (filter waits h.writes) ≡ length
        (filter (λ (entry : ℕ × StreamItem). is_write entry.1 && asks entry) (placed (primary_connection h).stream))
    as-many =
        sym (length-map (filter waits h.writes) (λ (a : Accepted). a.write.number))
        ∙ (same-length 1 0 (map (λ (a : Accepted). a.write.number) (filter waits h.writes)) (map number_at (filter asks items))
        (rises-filtered (λ (a : Accepted). a.write.number) waits 1 h.writes (writes-rise 1 h.writes (λ i a at. homes.numbered i a at ∙ omega arith)))
        (rises-filtered number_at asks 0 items
        (stream-rises 0 0 (primary_connection h).stream
        (known.ordered.1.1.0.1.streams.lawful (last_index h.connections) (primary_connection h) connected).rising
        (λ place a at. omega arith))) forth back
        ∙ (length-map (filter asks items) number_at
        ∙ ap length (filter-twice asks (λ (entry : ℕ × StreamItem). is_write entry.1) (placed (primary_connection h).stream))))

  -- How many writes were sent on the connection that stands, and are not answered.
  pub says-unanswered : length (filter is_unanswered s.log.writes) ≡ unanswered h
  says-unanswered = counted ∙ go (is_established (primary_connection h)) refl
    where
      go : (b : Bool) → is_established (primary_connection h) ≡ b
          → length (filter waits h.writes) ≡ (if b
          then length (filter (λ (entry : ℕ × StreamItem). is_write entry.1
          && (nat_lt entry.0 (items_sent (primary_connection h)) && not (is_answered_by h.settings.protocol (primary_connection h) entry.0 entry.1)))
          (placed (primary_connection h).stream))
          else 0)
      go true is = as-many is
      go false is = ap length (none-waits is)
