-- Streams are lawful, whatever calls made them: the state is what the stream says, call by call.
use Rattle.std.proofs.Common.{◌≡◌, ℕ, zero, suc, ◌+◌, ◌<◌, ◌≤◌, ◌==◌, nat_lt, nat_le, Bool, true, false, ◌&&◌, ◌||◌, List, [], ◌∷◌, length, map, refl, sym}
use Rattle.std.proofs.Common.{arith, Some}
use Rattle.std.specs.Prelude.{All, if◌then◌else◌}
use Rattle.std.proofs.lemmas.List.Elements.{All-cons, All-nil}
use Rattle.std.proofs.lemmas.Bool.Decides.{nat_tests}
use Rattle.epochs.specs.Epochs.{EpochsState, is_in_last, ending, with_write, with_resync, uncounted, ended_if}
use Rattle.epochs.specs.Streams.{WriteItem, ResyncItem, BarrierItem, IdentifiersItem, Call, PlaceWrite, PlaceResync, Uuids, Completed, Entry, Stands}
use Rattle.epochs.specs.Streams.{with_completion}
use Rattle.epochs.specs.Streams.{is_done, with_barrier, with_item, made, highest, CallsRise, last_epoch, writes_of, barriers_of, IsLawful, StreamsAreLawful}
use Rattle.epochs.proofs.Completions.{length-completion, writes-completion, barriers-completion, last-completion, last_writes-completion, lawful-completion}

-- no number is below this one
abbrev AtLeast : ℕ → List ℕ → Type 0
AtLeast low [] = Unit {0}
AtLeast low (n ∷ ns) = (low ≤ n) × AtLeast low ns

-- no number is above this one
abbrev AtMost : ℕ → List ℕ → Type 0
AtMost high [] = Unit {0}
AtMost high (n ∷ ns) = (n ≤ high) × AtMost high ns

-- no entry is a resync item
abbrev NoResync : List Entry → Type 0
NoResync [] = Unit {0}
NoResync (Stands (WriteItem number) place done ∷ es) = NoResync es
NoResync (Stands ResyncItem place done ∷ es) = ⊥
NoResync (Stands (BarrierItem number) place done ∷ es) = NoResync es
NoResync (Stands IdentifiersItem place done ∷ es) = NoResync es

-- of no entry was completion completed
abbrev NoneDone : List Entry → Type 0
NoneDone [] = Unit {0}
NoneDone (e ∷ es) = (is_done e ≡ false) × NoneDone es

-- The state is what the stream says, the numbers go no further than this one, and the stream is lawful.
record Ties (most last : ℕ) (s : EpochsState) (stream : List Entry) : Type 0 where
  max_epoch : s.max_epoch ≡ most
  places : s.places ≡ length stream
  ended : s.ended ≡ barriers_of stream
  size : s.size ≡ length (writes_of (last_epoch stream))
  short : s.size ≤ most
  first : AtLeast s.first (writes_of (last_epoch stream))
  some : AtLeast 1 (writes_of (last_epoch stream))
  begun : s.first ≤ last
  highest : AtMost last (writes_of stream)
  no_resync : s.resync ≡ false → NoResync (last_epoch stream)
  lawful : IsLawful most stream

-- what holds between calls
record Holds (most last : ℕ) (s : EpochsState) (stream : List Entry) : Type 0 where
  ties : Ties most last s stream
  goes_on : s.size < most
  none_done : NoneDone (last_epoch stream)

all_below : (number last : ℕ) (ns : List ℕ) → last < number → AtMost last ns → All (λ n. n < number) ns
all_below number last [] above most = All-nil (λ n. n < number)
all_below number last (n ∷ ns) above most =
    let here : n < number = omega (arith, most.0) in
    All-cons (λ n. n < number) n ns here (all_below number last ns above most.1)

at_most_more : (number last : ℕ) (ns : List ℕ) → last < number → AtMost last ns → AtMost number ns
at_most_more number last [] above most = tt
at_most_more number last (n ∷ ns) above most = (omega (arith, most.0), at_most_more number last ns above most.1)

all_open : (es : List Entry) → NoneDone es → All (λ e. is_done e ≡ false) es
all_open [] none = All-nil (λ e. is_done e ≡ false)
all_open (e ∷ es) none = All-cons (λ e. is_done e ≡ false) e es none.0 (all_open es none.1)

not_zero : (n : ℕ) → 0 < n → (n == 0) ≡ false
not_zero n positive = grind (arith, nat_tests)

first_by : (none : Bool) (number last first : ℕ) (ns : List ℕ) → (none ≡ true → length ns ≡ 0) → last < number → first ≤ last → AtLeast first ns
    → AtLeast (if none then number else first) (number ∷ ns)
first_by true number last first [] empty above begun least = (omega arith, tt)
first_by true number last first (n ∷ ns) empty above begun least = let length_is : suc (length ns) ≡ 0 = empty refl in absurd (omega arith)
first_by false number last first ns empty above begun least = (omega arith, least)

first_kept : (number last size first : ℕ) (ns : List ℕ) → size ≡ length ns → last < number → first ≤ last → AtLeast first ns
    → AtLeast (if size == 0 then number else first) (number ∷ ns)
first_kept number last size first ns is above begun least = first_by (size == 0) number last first ns (λ none. grind (arith, nat_tests)) above begun least

begun_kept : (number last size first : ℕ) → last < number → first ≤ last → (if size == 0 then number else first) ≤ number
begun_kept number last zero first above begun = omega arith
begun_kept number last (suc size) first above begun = rw (not_zero (suc size) (omega arith)) (omega arith)

-- a write is placed
write_ties : (most last number : ℕ) (s : EpochsState) (stream : List Entry) → Ties most last s stream → s.size < most → last < number
    → Ties most number (with_write number s) (with_item (WriteItem number) s.places stream)
write_ties most last number s stream ties goes_on above = record {
  max_epoch = ties.max_epoch;
  places = omega (arith, ties.places);
  ended = ties.ended;
  size = omega (arith, ties.size);
  short = omega arith;
  first = first_kept number last s.size s.first (writes_of (last_epoch stream)) ties.size above ties.begun ties.first;
  some = (omega arith, ties.some);
  begun = begun_kept number last s.size s.first above ties.begun;
  highest = (omega arith, at_most_more number last (writes_of stream) above ties.highest);
  no_resync = ties.no_resync;
  lawful = (
    record {
      placed = ties.places;
      number = all_below number last (writes_of stream) above ties.highest;
      short = omega (arith, ties.size);
    },
    ties.lawful,
  );
}

-- a resync item is placed
resync_ties : (most last : ℕ) (s : EpochsState) (stream : List Entry) → Ties most last s stream
    → Ties most last (with_resync s) (with_item ResyncItem s.places stream)
resync_ties most last s stream ties = record {
  max_epoch = ties.max_epoch;
  places = omega (arith, ties.places);
  ended = ties.ended;
  size = ties.size;
  short = ties.short;
  first = ties.first;
  some = ties.some;
  begun = ties.begun;
  highest = ties.highest;
  no_resync = λ none. cc;
  lawful = (record { placed = ties.places; number = tt; short = omega (arith, ties.size, ties.short) }, ties.lawful);
}

-- an item that no epoch counts is placed
uncounted_ties : (most last : ℕ) (s : EpochsState) (stream : List Entry) → Ties most last s stream
    → Ties most last (uncounted s).1 (with_item IdentifiersItem s.places stream)
uncounted_ties most last s stream ties = record {
  max_epoch = ties.max_epoch;
  places = omega (arith, ties.places);
  ended = ties.ended;
  size = ties.size;
  short = ties.short;
  first = ties.first;
  some = ties.some;
  begun = ties.begun;
  highest = ties.highest;
  no_resync = ties.no_resync;
  lawful = (record { placed = ties.places; number = tt; short = omega (arith, ties.size, ties.short) }, ties.lawful);
}

-- the epoch ends
ending_ties : (most last : ℕ) (s : EpochsState) (stream : List Entry) → Ties most last s stream
    → Ties most last (ending s) (with_barrier (Some (s.ended + 1)) stream)
ending_ties most last s stream ties = record {
  max_epoch = ties.max_epoch;
  places = omega (arith, ties.places);
  ended = omega (arith, ties.ended);
  size = refl;
  short = omega arith;
  first = tt;
  some = tt;
  begun = ties.begun;
  highest = ties.highest;
  no_resync = λ none. tt;
  lawful = (record { placed = tt; number = omega (arith, ties.ended); short = omega arith }, ties.lawful);
}

-- The epoch ends or goes on; where it goes on, it is not full, and completion was completed of none of its items.
ended_if_holds : (most last : ℕ) (over : Bool) (s : EpochsState) (stream : List Entry) → 0 < most → Ties most last s stream
    → (over ≡ false → (s.size < most) × NoneDone (last_epoch stream))
    → Holds most last (ended_if over s).1 (with_barrier (ended_if over s).0 stream)
ended_if_holds most last true s stream positive ties on =
    record { ties = ending_ties most last s stream ties; goes_on = positive; none_done = tt }
ended_if_holds most last false s stream positive ties on =
    record { ties = ties; goes_on = (on refl).0; none_done = (on refl).1 }

no_resync-completion : (completed : ℕ) (es : List Entry) → NoResync es → NoResync (map (with_completion completed) es)
no_resync-completion completed [] none = tt
no_resync-completion completed (Stands (WriteItem number) place done ∷ es) none = no_resync-completion completed es none
no_resync-completion completed (Stands ResyncItem place done ∷ es) none = none
no_resync-completion completed (Stands (BarrierItem number) place done ∷ es) none = no_resync-completion completed es none
no_resync-completion completed (Stands IdentifiersItem place done ∷ es) none = no_resync-completion completed es none

-- completion is completed of an item
completion_ties : (most last completed : ℕ) (s : EpochsState) (stream : List Entry) → Ties most last s stream
    → Ties most last s (map (with_completion completed) stream)
completion_ties most last completed s stream ties = record {
  max_epoch = ties.max_epoch;
  places = rw (length-completion completed stream) ties.places;
  ended = rw (barriers-completion completed stream) ties.ended;
  size = rw (last_writes-completion completed stream) ties.size;
  short = ties.short;
  first = rw (last_writes-completion completed stream) ties.first;
  some = rw (last_writes-completion completed stream) ties.some;
  begun = ties.begun;
  highest = rw (writes-completion completed stream) ties.highest;
  no_resync = λ none. rw (last-completion completed stream) (no_resync-completion completed (last_epoch stream) (ties.no_resync none));
  lawful = lawful-completion completed most stream ties.lawful;
}

or_false : (a b : Bool) → a ≡ false → b ≡ false → (a || b) ≡ false
or_false true b is = λ _. is
or_false false b is = λ other. other

other_number : (a b : ℕ) → a < b → (a == b) ≡ false
other_number a b less = grind (arith, nat_tests)

-- The completion of a write below the first of the last epoch completes no item there.
write_completed : (completed first : ℕ) (es : List Entry) → 0 < completed → completed < first → AtLeast first (writes_of es) → NoneDone es
    → NoneDone (map (with_completion completed) es)
write_completed completed first [] positive under least none = tt
write_completed completed first (Stands (WriteItem number) place done ∷ es) positive under least none = (
  or_false (completed == number) done (other_number completed number (omega (arith, least.0))) none.0,
  write_completed completed first es positive under least.1 none.1,
)
write_completed completed first (Stands ResyncItem place done ∷ es) positive under least none =
    (or_false (completed == 0) done (grind (arith, nat_tests)) none.0, write_completed completed first es positive under least none.1)
write_completed completed first (Stands (BarrierItem number) place done ∷ es) positive under least none =
    (none.0, write_completed completed first es positive under least none.1)
write_completed completed first (Stands IdentifiersItem place done ∷ es) positive under least none =
    (none.0, write_completed completed first es positive under least none.1)

-- If the last epoch has no write, the completion of one completes no item there.
no_write_completed : (completed : ℕ) (es : List Entry) → 0 < completed → length (writes_of es) ≡ 0 → NoneDone es → NoneDone (map (with_completion completed) es)
no_write_completed completed [] positive no_writes none = tt
no_write_completed completed (Stands (WriteItem number) place done ∷ es) positive no_writes none = absurd (omega (arith, no_writes))
no_write_completed completed (Stands ResyncItem place done ∷ es) positive no_writes none =
    (or_false (completed == 0) done (grind (arith, nat_tests)) none.0, no_write_completed completed es positive no_writes none.1)
no_write_completed completed (Stands (BarrierItem number) place done ∷ es) positive no_writes none =
    (none.0, no_write_completed completed es positive no_writes none.1)
no_write_completed completed (Stands IdentifiersItem place done ∷ es) positive no_writes none =
    (none.0, no_write_completed completed es positive no_writes none.1)

-- If the last epoch has no resync item, the completion of one completes no item there.
resync_completed : (es : List Entry) → AtLeast 1 (writes_of es) → NoResync es → NoneDone es → NoneDone (map (with_completion 0) es)
resync_completed [] least no_resync none = tt
resync_completed (Stands (WriteItem number) place done ∷ es) least no_resync none =
    (or_false (0 == number) done (other_number 0 number (omega (arith, least.0))) none.0, resync_completed es least.1 no_resync none.1)
resync_completed (Stands ResyncItem place done ∷ es) least no_resync none = absurd no_resync
resync_completed (Stands (BarrierItem number) place done ∷ es) least no_resync none = (none.0, resync_completed es least no_resync none.1)
resync_completed (Stands IdentifiersItem place done ∷ es) least no_resync none = (none.0, resync_completed es least no_resync none.1)

elsewhere_by : (size first completed : ℕ) (es : List Entry) → size ≡ length (writes_of es) → AtLeast first (writes_of es) → NoneDone es → 0 < completed
    → (nat_lt 0 size && nat_le first completed) ≡ false → NoneDone (map (with_completion completed) es)
elsewhere_by zero first completed es is least none positive apart = no_write_completed completed es positive (sym is) none
elsewhere_by (suc size) first completed es is least none positive apart = write_completed completed first es positive (grind (arith, nat_tests)) least none

-- What is not in the last epoch by the state is not completed there.
completed_elsewhere : (most last completed : ℕ) (s : EpochsState) (stream : List Entry) → Ties most last s stream → NoneDone (last_epoch stream)
    → is_in_last completed s ≡ false → NoneDone (map (with_completion completed) (last_epoch stream))
completed_elsewhere most last zero s stream ties none elsewhere = resync_completed (last_epoch stream) ties.some (ties.no_resync elsewhere) none
completed_elsewhere most last (suc completed) s stream ties none elsewhere =
    elsewhere_by s.size s.first (suc completed) (last_epoch stream) ties.size ties.first none (omega arith)
    (rw (not_zero (suc completed) (omega arith)) at elsewhere)

not_full : (most size : ℕ) → nat_le most size ≡ false → size < most
not_full most size is = grind (arith, nat_tests)

-- each call keeps it
call_holds : (most : ℕ) (call : Call) (before : List Call) → 0 < most → CallsRise (call ∷ before)
    → Holds most (highest before) (made most before).state (made most before).stream
    → Holds most (highest (call ∷ before)) (made most (call ∷ before)).state (made most (call ∷ before)).stream
call_holds most (PlaceWrite zero) before positive rise holds = absurd (omega (arith, rise.0))
call_holds most (PlaceWrite (suc number)) before positive rise holds =
    let m = made most before in
    rw (not_zero (suc number) (omega arith)) (ended_if_holds most (suc number) (nat_le m.state.max_epoch (m.state.size + 1)) (with_write (suc number) m.state)
    (with_item (WriteItem (suc number)) m.state.places m.stream) positive
    (write_ties most (highest before) (suc number) m.state m.stream holds.ties holds.goes_on rise.0)
    (λ on. (omega (arith, not_full m.state.max_epoch (m.state.size + 1) on, holds.ties.max_epoch), (refl, holds.none_done))))
call_holds most PlaceResync before positive rise holds =
    let m = made most before in
    record { ties = resync_ties most (highest before) m.state m.stream holds.ties; goes_on = holds.goes_on; none_done = (refl, holds.none_done) }
call_holds most Uuids before positive rise holds =
    let m = made most before in
    record { ties = uncounted_ties most (highest before) m.state m.stream holds.ties; goes_on = holds.goes_on; none_done = (refl, holds.none_done) }
call_holds most (Completed completed) before positive rise holds =
    let m = made most before in
    ended_if_holds most (highest before) (is_in_last completed m.state) m.state (map (with_completion completed) m.stream) positive
    (completion_ties most (highest before) completed m.state m.stream holds.ties)
    (λ elsewhere. (
      holds.goes_on,
      rw (last-completion completed m.stream)
          (completed_elsewhere most (highest before) completed m.state m.stream holds.ties holds.none_done elsewhere),
    ))

rises_before : (call : Call) (before : List Call) → CallsRise (call ∷ before) → CallsRise before
rises_before (PlaceWrite number) before rise = rise.1
rises_before PlaceResync before rise = rise
rises_before Uuids before rise = rise
rises_before (Completed completed) before rise = rise

calls_hold : (most : ℕ) (calls : List Call) → 0 < most → CallsRise calls → Holds most (highest calls) (made most calls).state (made most calls).stream
calls_hold most [] positive rise = record {
  ties = record {
    max_epoch = refl;
    places = refl;
    ended = refl;
    size = refl;
    short = omega arith;
    first = tt;
    some = tt;
    begun = omega arith;
    highest = tt;
    no_resync = λ none. tt;
    lawful = tt;
  };
  goes_on = positive;
  none_done = tt;
}
calls_hold most (call ∷ before) positive rise =
    call_holds most call before positive rise (calls_hold most before positive (rises_before call before rise))

pub lawful : StreamsAreLawful
lawful most calls positive rise =
    let holds = calls_hold most calls positive rise in (holds.ties.lawful, all_open (last_epoch (made most calls).stream) holds.none_done)
