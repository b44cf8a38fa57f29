-- The stream that a list of calls makes, and what each such stream is like.
use Rattle.std.specs.Prelude.{ℕ, suc, ◌≡◌, ◌<◌, ◌≤◌, ◌==◌, Bool, false, ◌||◌, List, [], ◌∷◌, length, map, All, Option, Some, None, MatchOption}
use Rattle.epochs.specs.Epochs.{EpochsState, empty, placed, completing, uncounted}

-- What a call puts into a stream: a write, by its number; a resync item; a barrier, by its number; a SYNC_UUID or
-- UUIDS.
pub data Item : Type 0 where
  WriteItem : (number : ℕ) → Item
  ResyncItem : Item
  BarrierItem : (number : ℕ) → Item
  IdentifiersItem : Item

-- The calls that make a stream. Completion is reported for a write by its number, and for a resync item by 0.
pub data Call : Type 0 where
  PlaceWrite : (number : ℕ) → Call
  PlaceResync : Call
  Uuids : Call
  Completed : (number : ℕ) → Call

-- An item in the stream, with the place that was returned for it, if one was, and whether its completion was reported.
pub data Entry : Type 0 where
  Stands : (item : Item) (place : Option ℕ) (done : Bool) → Entry

-- a stream as it was made so far, its last item first
pub record Made : Type 0 where
  pub state : EpochsState
  pub stream : List Entry

-- whether the item is the write with this number, or for 0 a resync item
abbrev pub is_numbered : ℕ → Item → Bool
is_numbered completed (WriteItem number) = completed == number
is_numbered completed ResyncItem = completed == 0
is_numbered completed (BarrierItem number) = false
is_numbered completed IdentifiersItem = false

-- reports the item's completion
abbrev pub with_completion : ℕ → Entry → Entry
with_completion number (Stands item place done) = Stands item place (is_numbered number item || done)

-- whether its completion was reported
abbrev pub is_done : Entry → Bool
is_done (Stands item place done) = done

-- the stream after a barrier, if one is appended
abbrev pub with_barrier : Option ℕ → List Entry → List Entry
with_barrier None stream = stream
with_barrier (Some number) stream = Stands (BarrierItem number) None false ∷ stream

-- the stream after an item for which this place was returned
abbrev pub with_item : Item → ℕ → List Entry → List Entry
with_item item place stream = Stands item (Some place) false ∷ stream

-- the stream after a call
abbrev pub called : Call → Made → Made
called (PlaceWrite number) m =
    let answer = placed number m.state in
    record { state = answer.1.1; stream = with_barrier answer.1.0 (with_item (WriteItem number) answer.0 m.stream) }
called PlaceResync m =
    let answer = placed 0 m.state in
    record { state = answer.1.1; stream = with_barrier answer.1.0 (with_item ResyncItem answer.0 m.stream) }
called Uuids m =
    let answer = uncounted m.state in
    record { state = answer.1; stream = with_item IdentifiersItem answer.0 m.stream }
called (Completed number) m =
    let answer = completing number m.state in
    record { state = answer.1; stream = with_barrier answer.0 (map (with_completion number) m.stream) }

-- the stream that calls make of an empty one, the last call first
abbrev pub made : ℕ → List Call → Made
made max_epoch [] = record { state = empty max_epoch; stream = [] }
made max_epoch (call ∷ before) = called call (made max_epoch before)

-- the highest number of a write among these calls, the last call first
abbrev pub highest : List Call → ℕ
highest [] = 0
highest (PlaceWrite number ∷ before) = number
highest (PlaceResync ∷ before) = highest before
highest (Uuids ∷ before) = highest before
highest (Completed number ∷ before) = highest before

-- the numbers of the writes rise from 1 on, the last call first
abbrev pub CallsRise : List Call → Type 0
CallsRise [] = Unit {0}
CallsRise (PlaceWrite number ∷ before) = (highest before < number) × CallsRise before
CallsRise (PlaceResync ∷ before) = CallsRise before
CallsRise (Uuids ∷ before) = CallsRise before
CallsRise (Completed number ∷ before) = CallsRise before

-- the entries of a stream's last epoch: those after its last barrier
abbrev pub last_epoch : List Entry → List Entry
last_epoch [] = []
last_epoch (Stands (WriteItem number) place done ∷ before) = Stands (WriteItem number) place done ∷ last_epoch before
last_epoch (Stands ResyncItem place done ∷ before) = Stands ResyncItem place done ∷ last_epoch before
last_epoch (Stands (BarrierItem number) place done ∷ before) = []
last_epoch (Stands IdentifiersItem place done ∷ before) = Stands IdentifiersItem place done ∷ last_epoch before

-- the numbers of the writes among these entries
abbrev pub writes_of : List Entry → List ℕ
writes_of [] = []
writes_of (Stands (WriteItem number) place done ∷ before) = number ∷ writes_of before
writes_of (Stands ResyncItem place done ∷ before) = writes_of before
writes_of (Stands (BarrierItem number) place done ∷ before) = writes_of before
writes_of (Stands IdentifiersItem place done ∷ before) = writes_of before

-- how many barriers there are
abbrev pub barriers_of : List Entry → ℕ
barriers_of [] = 0
barriers_of (Stands (WriteItem number) place done ∷ before) = barriers_of before
barriers_of (Stands ResyncItem place done ∷ before) = barriers_of before
barriers_of (Stands (BarrierItem number) place done ∷ before) = suc (barriers_of before)
barriers_of (Stands IdentifiersItem place done ∷ before) = barriers_of before

-- the item's number is the one that comes next: a write's is above those before it, a barrier's is the number of those
-- before it plus one
abbrev pub FollowsOn : Item → List Entry → Type 0
FollowsOn (WriteItem number) before = All (λ earlier. earlier < number) (writes_of before)
FollowsOn ResyncItem before = Unit {0}
FollowsOn (BarrierItem number) before = number ≡ suc (barriers_of before)
FollowsOn IdentifiersItem before = Unit {0}

-- A lawful entry after those before it: it is at the place that was returned, its number comes next, and the epoch that
-- goes on with it has no more writes than it may.
pub record IsLawfulAfter (max_epoch : ℕ) (item : Item) (place : Option ℕ) (done : Bool) (before : List Entry) : Type 0 where
  pub placed : MatchOption place (Unit {0}) (λ answered. answered ≡ length before)
  pub number : FollowsOn item before
  pub short : length (writes_of (last_epoch (Stands item place done ∷ before))) ≤ max_epoch

-- each entry is lawful
abbrev pub IsLawful : ℕ → List Entry → Type 0
IsLawful max_epoch [] = Unit {0}
IsLawful max_epoch (Stands item place done ∷ before) = IsLawfulAfter max_epoch item place done before × IsLawful max_epoch before

-- Every list of calls whose write numbers rise makes a lawful stream, and no item of its last epoch has its completion
-- reported.
abbrev pub StreamsAreLawful : Type 0
StreamsAreLawful = (max_epoch : ℕ) (calls : List Call) → 0 < max_epoch → CallsRise calls
    → IsLawful max_epoch (made max_epoch calls).stream × All (λ e. is_done e ≡ false) (last_epoch (made max_epoch calls).stream)
