-- A state stays sound where its log makes a step.
use Rattle.std.proofs.Common.{ℕ, ◌≡◌, ◌+◌, ◌≤◌, ◌∙◌, arith, Bool, List, length, Option, Some, None}
use Rattle.transferlog.specs.Log.{LogState}
use Rattle.primary_protocol.specs.Core.{EndState, PrimaryState}
use Rattle.primary_core.specs.Kept.{IsSound, IsSoundLog, owing, places_owing}
use Rattle.primary_core.specs.State.{IsCore}
use Rattle.primary_core.specs.declared.state.PrimaryCore.TheInside.{Inside}
use Rattle.primary_core.proofs.Epochs.{Appends}

-- where the same stream goes on, no more is due than before, with the barrier that was appended
pub owing-after : (end : Option EndState) (l m : LogState) (barrier : Option ℕ) → m.connection ≡ l.connection → Appends l.epochs m.epochs barrier
    → owing barrier end m ≤ owing None end l
owing-after None l m barrier same appends = omega arith
owing-after (Some e) l m barrier same appends = rw same (omega (arith, appends.due))

-- less is due without the barrier
pub owing-less : (end : Option EndState) (l : LogState) (barrier : Option ℕ) → owing None end l ≤ owing barrier end l
owing-less None l barrier = omega arith
owing-less (Some e) l barrier = omega arith

pub places-after : (end : Option EndState) (l m : LogState) (barrier : Option ℕ) → m.connection ≡ l.connection → Appends l.epochs m.epochs barrier
    → l.epochs.places + places_owing end l ≤ 4294967290 → m.epochs.places + places_owing end m ≤ 4294967290
places-after None l m barrier same appends few = rw same (omega (arith, appends.due, appends.places))
places-after (Some e) l m barrier same appends few = rw same (omega (arith, appends.due, appends.places))

-- a step of the log that accepts nothing
pub sound-logged : (s : PrimaryState) (m : LogState) (barrier : Option ℕ) → IsSound s → IsSoundLog s.settings m → m.accepted ≡ s.log.accepted
    → m.connection ≡ s.log.connection → Appends s.log.epochs m.epochs barrier
    → IsSound (record s { log = m })
sound-logged s m barrier is log accepted same appends = record {
  in_range = is.in_range;
  log = log;
  marks = is.marks;
  counted = rw accepted is.counted;
  standing = λ e is_open resync. rw same (is.standing e is_open resync);
  places = places-after s.end s.log m barrier same appends is.places;
}

-- other marks of the device
pub core-marks : (c : Inside) (marks : List Bool) → length marks ≡ length c.marks → IsCore c → IsCore (record c { marks = marks })
core-marks c marks same is = record {
  sound = record {
    in_range = is.sound.in_range;
    log = is.sound.log;
    marks = same ∙ is.sound.marks;
    counted = is.sound.counted;
    standing = is.sound.standing;
    places = is.sound.places;
  };
  writers = is.writers;
  flagged = is.flagged;
  room = is.room;
}
