-- What the log says of a write, and what the history says of it.
use Rattle.std.proofs.Common.{◌≡◌, Bool, true, false, not, ◌&&◌, ◌||◌, refl, ◌∙◌, ap}
use Rattle.model.specs.Primary as history
use Rattle.model.specs.Primary.{LocalOutcome, Waiting, OnDisk, Failed, Accepted, PrimaryConnection, PrimaryHistory, is_answered, is_alone, completes, is_failed}
use Rattle.model.specs.Primary.{is_on_disk, is_confirmed, is_released}
use Rattle.transferlog.specs.Writes as log
use Rattle.transferlog.specs.Writes.{LogWrite}
use Rattle.laws.proofs.Rules.Completions.{completes-parts, completes-with}
use Rattle.primary_protocol.specs.Leaves.{local_of, logged_of}

-- Truth values.

pub not-not : (b : Bool) → not (not b) ≡ b
not-not true = refl
not-not false = refl

-- What the local disk did.

pub disk-seen : (o : LocalOutcome) → log.is_on_disk (local_of o) ≡ is_on_disk o
disk-seen Waiting = refl
disk-seen OnDisk = refl
disk-seen (Failed offsets) = refl

pub failed-seen : (o : LocalOutcome) → log.has_failed (local_of o) ≡ is_failed o
failed-seen Waiting = refl
failed-seen OnDisk = refl
failed-seen (Failed offsets) = refl

pub settled-seen : (o : LocalOutcome) → (log.is_on_disk (local_of o) || log.has_failed (local_of o)) ≡ not (history.is_waiting o)
settled-seen Waiting = refl
settled-seen OnDisk = refl
settled-seen (Failed offsets) = refl

-- a write that the local disk has is not one that it failed
pub disk-not-failed : (o : LocalOutcome) → is_on_disk o ≡ true → is_failed o ≡ false
disk-not-failed Waiting on = refl
disk-not-failed OnDisk on = refl
disk-not-failed (Failed offsets) on = absurd (cc)

-- What is read off.

pub completes-seen : (h : PrimaryHistory) (a : Accepted) → log.is_completed (logged_of h a) ≡ completes h a
completes-seen h a = completes-with h a _ _ _ (disk-seen a.outcome) refl (not-not (is_alone h a))

pub open-seen : (h : PrimaryHistory) (a : Accepted) → log.is_open (logged_of h a) ≡ (not (completes h a) && not (is_failed a.outcome))
open-seen h a = λ i. not (completes-seen h a i) && not (failed-seen a.outcome i)

pub waiting-seen : (h : PrimaryHistory) (a : Accepted) → log.is_waiting (logged_of h a) ≡ history.is_waiting a.outcome
waiting-seen h a = ap not (settled-seen a.outcome) ∙ not-not (history.is_waiting a.outcome)

-- what completes did not fail
pub completes-not-failed : (h : PrimaryHistory) (a : Accepted) → completes h a ≡ true → is_failed a.outcome ≡ false
completes-not-failed h a done = disk-not-failed a.outcome (completes-parts h a done).0
