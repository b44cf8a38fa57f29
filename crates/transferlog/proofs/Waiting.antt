-- Below which number no write waits for the local disk.
use Rattle.std.proofs.Common.{◌≡◌, ℕ, zero, suc, ◌+◌, ◌<◌, ◌≤◌, ◌==◌, Bool, true, false, List, [], ◌∷◌, ◌++◌, refl, arith, Option, Some, None, get_or}
use Rattle.std.specs.Prelude.{find}
use Rattle.std.proofs.Math.ListN.{set}
use Rattle.std.proofs.lemmas.Bool.Decides.{nat_tests}
use Rattle.transferlog.specs.Writes.{LogWrite, is_waiting}
use Rattle.transferlog.specs.Ring.{Each, Rises, WaitsFrom, changed, has_number, is_waiting_at, write_at}
use Rattle.transferlog.specs.Slots.{writes_in}
use Rattle.transferlog.specs.declared.write.Change.{Change}
use Rattle.transferlog.specs.declared.write.Change.TheVariants as change
use Rattle.transferlog.proofs.InSlots.{number-changed}
use Rattle.transferlog.proofs.Numbers.{NoneHas, higher_number, is_same, write_at-none}

-- a write is added
pub each_pushed : (P : LogWrite → Type 0) (ws : List LogWrite) (w : LogWrite) → Each P ws → P w → Each P (ws ++ w ∷ [])
each_pushed P [] w each here = (here, tt)
each_pushed P (v ∷ ws) w each here = (each.0, each_pushed P ws w each.1 here)

-- a write is taken out of its slot
pub each_removed : (P : LogWrite → Type 0) (i : ℕ) (slots : List (Option LogWrite)) → Each P (writes_in slots) → Each P (writes_in (set slots i None))
each_removed P i [] each = tt
each_removed P zero (None ∷ slots) each = each
each_removed P zero (Some v ∷ slots) each = each.1
each_removed P (suc i) (None ∷ slots) each = each_removed P i slots each
each_removed P (suc i) (Some v ∷ slots) each = (each.0, each_removed P i slots each.1)

-- a write is changed in its slot
pub each_changed : (P : LogWrite → Type 0) (i : ℕ) (w v : LogWrite) (slots : List (Option LogWrite)) → get_or slots i None ≡ Some w → (P w → P v)
    → Each P (writes_in slots) → Each P (writes_in (set slots i (Some v)))
each_changed P i w v [] is keeps each = cc
each_changed P zero w v (None ∷ slots) is keeps each = cc
each_changed P zero w v (Some x ∷ slots) is keeps each = let same : x ≡ w = cc in (keeps (rw same at each.0), each.1)
each_changed P (suc i) w v (None ∷ slots) is keeps each = each_changed P i w v slots is keeps each
each_changed P (suc i) w v (Some x ∷ slots) is keeps each = (each.0, each_changed P i w v slots is keeps each.1)

-- no change makes a write wait
waited : (what : Change) (w : LogWrite) → is_waiting (changed what w) ≡ true → is_waiting w ≡ true
waited (change.Sent answers) w is = is
waited change.Answered w is = is
waited change.OnDisk w is = cc
waited change.Failed w is = cc
waited change.Unlinked w is = is

pub waits_changed : (n : ℕ) (what : Change) (w : LogWrite) → WaitsFrom n w → WaitsFrom n (changed what w)
waits_changed n what w from is = rw (number-changed what w) (from (waited what w is))

-- all numbers are above this one
above : (n low : ℕ) (ws : List LogWrite) → n < low → Rises low ws → Each (WaitsFrom (n + 1)) ws
above n low [] less rises = tt
above n low (w ∷ ws) less rises = ((λ is. omega (arith, rises.0)), above n (suc w.number) ws (omega (arith, rises.0)) rises.1)

none_above : (n low : ℕ) (ws : List LogWrite) → n < low → Rises low ws → NoneHas n ws
none_above n low [] less rises = tt
none_above n low (w ∷ ws) less rises = (higher_number w.number n (omega (arith, rises.0)), none_above n (suc w.number) ws (omega (arith, rises.0)) rises.1)

pub is_other : (a b : ℕ) → (a == b) ≡ false → b ≤ a → b + 1 ≤ a
is_other a b is least = grind (arith, nat_tests)

-- where the write with this number does not wait, none does up to it
next_by : (same : Bool) (n low : ℕ) (w : LogWrite) (ws : List LogWrite) → has_number n w ≡ same → Rises low (w ∷ ws) → Each (WaitsFrom n) (w ∷ ws)
    → is_waiting_at (write_at n (w ∷ ws)) ≡ false → (is_waiting_at (write_at n ws) ≡ false → Each (WaitsFrom (n + 1)) ws) → Each (WaitsFrom (n + 1)) (w ∷ ws)
next_by true n low w ws is rises each settled rest =
    let here : is_waiting w ≡ false = rw is at settled in
    let number = is_same w.number n is in
    ((λ waits. absurd (cc)), above n (suc w.number) ws (omega arith) rises.1)
next_by false n low w ws is rises each settled rest =
    ((λ waits. is_other w.number n is (each.0 waits)), rest (rw is at settled))

pub waits_next : (n low : ℕ) (ws : List LogWrite) → Rises low ws → Each (WaitsFrom n) ws → is_waiting_at (write_at n ws) ≡ false → Each (WaitsFrom (n + 1)) ws
waits_next n low [] rises each settled = tt
waits_next n low (w ∷ ws) rises each settled =
    next_by (has_number n w) n low w ws refl rises each settled (waits_next n (suc w.number) ws rises.1 each.1)

-- where the write with this number waits, and none below it, it is the first that does
found_by : (waits same : Bool) (n low : ℕ) (w : LogWrite) (ws : List LogWrite) → is_waiting w ≡ waits → has_number n w ≡ same → Rises low (w ∷ ws)
    → Each (WaitsFrom n) (w ∷ ws) → is_waiting_at (write_at n (w ∷ ws)) ≡ true → (is_waiting_at (write_at n ws) ≡ true → write_at n ws ≡ find is_waiting ws)
    → write_at n (w ∷ ws) ≡ find is_waiting (w ∷ ws)
found_by true true n low w ws waits is rises each at rest = rw (is, waits) refl
found_by true false n low w ws waits is rises each at rest =
    let none = write_at-none n ws (none_above n (suc w.number) ws (omega (arith, each.0 waits)) rises.1) in
    let now : is_waiting_at (write_at n ws) ≡ true = rw is at at in
    absurd (cc)
found_by false true n low w ws waits is rises each at rest =
    let here : is_waiting w ≡ true = rw is at at in
    absurd (cc)
found_by false false n low w ws waits is rises each at rest = rw (is, waits) (rest (rw is at at))

pub first_found : (n low : ℕ) (ws : List LogWrite) → Rises low ws → Each (WaitsFrom n) ws → is_waiting_at (write_at n ws) ≡ true
    → write_at n ws ≡ find is_waiting ws
first_found n low [] rises each at = refl
first_found n low (w ∷ ws) rises each at =
    found_by (is_waiting w) (has_number n w) n low w ws refl refl rises each at (first_found n (suc w.number) ws rises.1 each.1)

-- where all numbers are below it, none waits
none_by : (waits : Bool) (n : ℕ) (w : LogWrite) (ws : List LogWrite) → is_waiting w ≡ waits → WaitsFrom n w → w.number < n → find is_waiting ws ≡ None
    → find is_waiting (w ∷ ws) ≡ None
none_by true n w ws waits from below rest = absurd (omega (arith, from waits))
none_by false n w ws waits from below rest = rw waits rest

pub none_found : (n : ℕ) (ws : List LogWrite) → Each (WaitsFrom n) ws → Each (λ w. w.number < n) ws → find is_waiting ws ≡ None
none_found n [] each below = refl
none_found n (w ∷ ws) each below = none_by (is_waiting w) n w ws refl each.0 below.0 (none_found n ws each.1 below.1)
