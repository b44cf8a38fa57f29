-- A barrier that a step appends was due.
use Rattle.std.proofs.Common.{ℕ, ◌≡◌, ◌+◌, ◌≤◌, ◌==◌, nat_lt, nat_le, Bool, true, false, ◌&&◌, ◌||◌, refl, arith, Option, None}
use Rattle.std.specs.Prelude.{if◌then◌else◌}
use Rattle.epochs.specs.Epochs.{EpochsState, is_in_last, ended_if, completing, placed, with_resync, with_write, write_placed}
use Rattle.transferlog.specs.Log.{LogState, changing, ended_by, closes_any}
use Rattle.transferlog.specs.Ring.{on}
use Rattle.transferlog.specs.Writes.{LogWrite}
use Rattle.primary_core.specs.Kept.{is_going_on, barriers_due, appended}

-- what a step appends has its place, and was due
pub record Appends (before after : EpochsState) (barrier : Option ℕ) : Type 0 where
  pub places : after.places ≡ before.places + appended barrier
  pub due : appended barrier + barriers_due after ≤ barriers_due before

pub nothing-appended : (e : EpochsState) → Appends e e None
nothing-appended e = record { places = omega arith; due = omega arith }

appends-if : (over : Bool) (e : EpochsState) → (over ≡ true → is_going_on e ≡ true) → Appends e (ended_if over e).1 (ended_if over e).0
appends-if true e going = record { places = refl; due = rw (going refl) (omega arith) }
appends-if false e going = nothing-appended e

or-left : (a b : Bool) → a ≡ true → (a || b) ≡ true
or-left true b is = refl
or-left false b is = cc

or-right : (a b : Bool) → b ≡ true → (a || b) ≡ true
or-right true b is = refl
or-right false b is = is

and-left : (a b : Bool) → (a && b) ≡ true → a ≡ true
and-left true b is = refl
and-left false b is = cc

going-at : (is_resync : Bool) (number : ℕ) (e : EpochsState) → (if is_resync then e.resync else nat_lt 0 e.size && nat_le e.first number) ≡ true
    → is_going_on e ≡ true
going-at true number e is = or-right (nat_lt 0 e.size) e.resync is
going-at false number e is = or-left (nat_lt 0 e.size) e.resync (and-left (nat_lt 0 e.size) (nat_le e.first number) is)

-- an item of the last epoch is completed
pub appends-completing : (number : ℕ) (e : EpochsState) → Appends e (completing number e).1 (completing number e).0
appends-completing number e = appends-if (is_in_last number e) e (going-at (number == 0) number e)

appends-ended : (closed : Bool) (number : ℕ) (e : EpochsState) → Appends e (ended_by closed number e).1 (ended_by closed number e).0
appends-ended true number e = appends-completing number e
appends-ended false number e = nothing-appended e

-- something happens to one write
pub appends-changing : (number : ℕ) (f : LogWrite → LogWrite) (l : LogState) → Appends l.epochs (changing number f l).1.epochs (changing number f l).0
appends-changing number f l = appends-ended (closes_any (on number f) l) number l.epochs

-- What an item that is placed leaves room for: its barrier, which may be appended at once.
pub record Places (before after : EpochsState) (barrier : Option ℕ) : Type 0 where
  pub places : after.places ≡ before.places + 1 + appended barrier
  pub due : appended barrier + barriers_due after ≤ 1

few-due : (b : Bool) → (if b then 1 else 0) ≤ 1
few-due true = omega arith
few-due false = omega arith

places-write : (over : Bool) (e : EpochsState) → (ended_if over e).1.places ≡ e.places + appended (ended_if over e).0
places-write true e = refl
places-write false e = omega arith

due-write : (over : Bool) (e : EpochsState) → appended (ended_if over e).0 + barriers_due (ended_if over e).1 ≤ 1
due-write true e = omega arith
due-write false e = let few = few-due (is_going_on e) in omega arith

places-item-at : (is_resync : Bool) (number : ℕ) (e : EpochsState)
    → let answer : Option ℕ × EpochsState = (if is_resync then (None, with_resync e) else write_placed (with_write number e)) in Places e answer.1 answer.0
places-item-at true number e = record { places = omega arith; due = let few = few-due (nat_lt 0 e.size || true) in omega arith }
places-item-at false number e =
    let w = with_write number e in
    let over = nat_le w.max_epoch w.size in
    record { places = places-write over w; due = due-write over w }

-- an item is placed, a write or for 0 a resync item
pub places-item : (number : ℕ) (e : EpochsState) → Places e (placed number e).1.1 (placed number e).1.0
places-item number e = places-item-at (number == 0) number e
