-- What is kept where a write is accepted.
use Rattle.std.proofs.Common.{ℕ, ◌≡◌, ◌+◌, ◌*◌, ◌<◌, ◌≤◌, ◌⊎◌, inl, inr, nat_le, Bool, true, false, ◌&&◌, List, length, refl, ap, arith, Option, Some, None}
use Rattle.std.specs.Prelude.{is_some, if◌then◌else◌, option_map}
use Rattle.std.proofs.lemmas.Bool.Decides.{nat_tests}
use Rattle.epochs.specs.Epochs.{EpochsState, placed}
use Rattle.transferlog.specs.Log.{LogState, accepting}
use Rattle.model.specs.Contents.{extent_of}
use Rattle.primary_protocol.specs.Core.{EndState, PrimaryState, is_established}
use Rattle.primary_core.specs.Kept.{IsSound, owing, places_owing}
use Rattle.primary_core.specs.State.{end_of, room_at}
use Rattle.primary_core.specs.Submit.{taken_in}
use Rattle.primary_core.specs.declared.connection.Connection.{Connection}
use Rattle.primary_core.proofs.Epochs.{places-item}
use Rattle.primary_core.proofs.SoundLog.{sound-accepting}
use Rattle.primary_core.proofs.Submission.{counted-begun}

few-bool : (b : Bool) → (if b then 1 else 0) ≤ 1
few-bool true = omega arith
few-bool false = omega arith

below-limit : (n : ℕ) → nat_le 4294967288 n ≡ false → n < 4294967288
below-limit n is = grind (arith, nat_tests)

pub few-accepted : (n : ℕ) → nat_le 1048576 n ≡ false → n < 1048576
few-accepted n is = grind (arith, nat_tests)

-- where a stream stands, little is due after the write
owing-two : (connection number : ℕ) (end : Option EndState) (l m : LogState) (barrier : Option ℕ) → m.connection ≡ Some connection
    → (let after : Option ℕ × EpochsState = (barrier, m.epochs) in after ≡ (placed number l.epochs).1) → owing barrier end m ≤ 2
owing-two connection number None l m barrier at is = omega arith
owing-two connection number (Some e) l m barrier at is =
    let item = places-item number l.epochs in
    let due = item.due in
    let few = few-bool e.resync in
    rw (at, ap (λ (p : Option ℕ × EpochsState). p.0) is, ap (λ (p : Option ℕ × EpochsState). p.1) is) (omega arith)

-- without it, wherever
owing-left : (end : Option EndState) (connection : Option ℕ) (first count : ℕ) (contents : List ℕ) (l : LogState) → l.connection ≡ connection
    → (owing None end (accepting first count contents l).1 ≤ 2) ⊎ (owing None end (accepting first count contents l).1 ≤ owing None end l)
owing-left None connection first count contents l at = inl (omega arith)
owing-left (Some e) None first count contents l at = inr (rw at (omega arith))
owing-left (Some e) (Some connection) first count contents l at =
    let two = owing-two connection (l.accepted + 1) (Some e) l (accepting first count contents l).1 (accepting first count contents l).0.barrier at
    (rw at refl) in
    inl (omega (arith, two))

-- there is room still
pub room-accepted : (connection : Option Connection) (first count : ℕ) (contents : List ℕ) (l : LogState)
    → ((e : EndState) → option_map end_of connection ≡ Some e → 3 ≤ room_at connection)
    → owing None (option_map end_of connection) l ≤ room_at connection
    → owing None (option_map end_of connection) (accepting first count contents l).1 ≤ room_at connection
room-accepted None first count contents l roomy enough = omega arith
room-accepted (Some x) first count contents l roomy enough = elim (owing-left (Some (end_of x)) l.connection first count contents l refl) [
  | inl two ↦ omega (arith, two, roomy (end_of x) refl)
  | inr less ↦ omega (arith, less, enough)
]

-- the stream has places still
places-some : (connection number : ℕ) (end : Option EndState) (l m : LogState) → m.connection ≡ Some connection → l.epochs.places < 4294967288
    → m.epochs ≡ (placed number l.epochs).1.1 → m.epochs.places + places_owing end m ≤ 4294967290
places-some connection number None l m at few is =
    let item = places-item number l.epochs in
    let places = item.places in
    let due = item.due in
    rw (at, is) (omega arith)
places-some connection number (Some e) l m at few is =
    let item = places-item number l.epochs in
    let places = item.places in
    let due = item.due in
    let resync = few-bool e.resync in
    rw (at, is) (omega arith)

places-none : (end : Option EndState) (l m : LogState) → l.connection ≡ None → m.connection ≡ None → m.epochs ≡ l.epochs
    → l.epochs.places + places_owing end l ≤ 4294967290 → m.epochs.places + places_owing end m ≤ 4294967290
places-none None l m at there is few = let was = rw at at few in rw (there, is) was
places-none (Some e) l m at there is few = let was = rw at at few in rw (there, is) was

pub places-accepted : (end : Option EndState) (connection : Option ℕ) (first count : ℕ) (contents : List ℕ) (l : LogState) → l.connection ≡ connection
    → (is_some connection && nat_le 4294967288 l.epochs.places) ≡ false
    → l.epochs.places + places_owing end l ≤ 4294967290
    → (accepting first count contents l).1.epochs.places + places_owing end (accepting first count contents l).1 ≤ 4294967290
places-accepted end None first count contents l at room few = places-none end l (accepting first count contents l).1 at at (rw at refl) few
places-accepted end (Some connection) first count contents l at room few =
    places-some connection (l.accepted + 1) end l (accepting first count contents l).1 at (below-limit l.epochs.places room) (rw at refl)

pub few-places : (end : Option EndState) (connection : Option ℕ) (l : LogState) → l.connection ≡ connection
    → (is_some connection && nat_le 4294967288 l.epochs.places) ≡ false → l.epochs.places + places_owing end l ≤ 4294967290
    → l.epochs.places < 4294967290
few-places end (Some connection) l at room few = let below = below-limit l.epochs.places room in omega arith
few-places None None l at room few = let was = rw at at few in omega (arith, was)
few-places (Some e) None l at room few = let was = rw at at few in omega (arith, was)

-- a write is taken in
pub sound-accepted : (s : PrimaryState) (first count : ℕ) (contents : List ℕ) → IsSound s → first + count ≤ s.settings.blocks → length contents ≡ 4096 * count
    → (is_established s && nat_le 4294967288 s.log.epochs.places) ≡ false
    → IsSound (taken_in first count contents s).1
sound-accepted s first count contents is inside whole room = record {
  in_range = is.in_range;
  log = sound-accepting s.settings first count contents s.log inside whole is.log;
  marks = is.marks;
  counted = counted-begun s.log.accepted (extent_of first) s.activity is.counted;
  standing = is.standing;
  places = places-accepted s.end s.log.connection first count contents s.log refl room is.places;
}
