-- What is found, changed or taken out by its slot is what has that number.
use Rattle.std.proofs.Common.{◌≡◌, ℕ, zero, suc, ◌+◌, ◌<◌, ◌≤◌, List, [], ◌∷◌, ◌++◌, length, refl, sym, ◌∙◌, ap, arith, Option, Some, None, get_or, drop}
use Rattle.std.proofs.Common.{add-one}
use Rattle.std.proofs.lemmas.List.{get_or_read}
use Rattle.std.proofs.Math.ListN.{set}
use Rattle.transferlog.specs.Writes.{LogWrite}
use Rattle.transferlog.specs.Ring.{RingState, write_at, with_change, without, changed, Rises}
use Rattle.transferlog.specs.declared.write.Change.{Change}
use Rattle.transferlog.specs.declared.write.Change.TheVariants as change
use Rattle.transferlog.specs.Slots.{writes_in, AreNumbered, IsRing, ring_of}
use Rattle.transferlog.specs.declared.ring.Ring.TheInside.{Inside}
use Rattle.transferlog.proofs.Numbers.{same_number, lower_number, higher_number, NoneHas, write_at-none, with_change-none, without-none}

abbrev Slots : Type 0
Slots = List (Option LogWrite)

-- the numbers of slots further on are higher
pub none_before : (number first : ℕ) (slots : Slots) → number < first → AreNumbered first slots → NoneHas number (writes_in slots)
none_before number first [] before numbered = tt
none_before number first (None ∷ slots) before numbered = none_before number (suc first) slots (omega arith) numbered
none_before number first (Some w ∷ slots) before numbered =
    (higher_number w.number number (omega (arith, numbered.0)), none_before number (suc first) slots (omega arith) numbered.1)

-- a hole, or a slot past the last one, has no write
pub none_in_hole : (number first i : ℕ) (slots : Slots) → number ≡ first + i → AreNumbered first slots → get_or slots i None ≡ None
    → NoneHas number (writes_in slots)
none_in_hole number first i [] at numbered hole = tt
none_in_hole number first zero (None ∷ slots) at numbered hole = none_before number (suc first) slots (omega arith) numbered
none_in_hole number first zero (Some w ∷ slots) at numbered hole = cc
none_in_hole number first (suc i) (None ∷ slots) at numbered hole = none_in_hole number (suc first) i slots (omega arith) numbered hole
none_in_hole number first (suc i) (Some w ∷ slots) at numbered hole =
    (lower_number w.number number (omega (arith, numbered.0)), none_in_hole number (suc first) i slots (omega arith) numbered.1 hole)

-- a write is found by its slot
pub write_at-slot : (number first i : ℕ) (slots : Slots) → number ≡ first + i → AreNumbered first slots
    → write_at number (writes_in slots) ≡ get_or slots i None
write_at-slot number first i [] at numbered = refl
write_at-slot number first zero (None ∷ slots) at numbered = write_at-none number (writes_in slots)
    (none_before number (suc first) slots (omega arith) numbered)
write_at-slot number first zero (Some w ∷ slots) at numbered = rw (same_number w.number number (omega (arith, numbered.0))) refl
write_at-slot number first (suc i) (None ∷ slots) at numbered = write_at-slot number (suc first) i slots (omega arith) numbered
write_at-slot number first (suc i) (Some w ∷ slots) at numbered =
    rw (lower_number w.number number (omega (arith, numbered.0))) (write_at-slot number (suc first) i slots (omega arith) numbered.1)

-- a write is changed in its slot
pub with_change-slot : (number first i : ℕ) (f : LogWrite → LogWrite) (w : LogWrite) (slots : Slots) → number ≡ first + i → AreNumbered first slots
    → get_or slots i None ≡ Some w → with_change number f (writes_in slots) ≡ writes_in (set slots i (Some (f w)))
with_change-slot number first i f w [] at numbered is = cc
with_change-slot number first zero f w (None ∷ slots) at numbered is = cc
with_change-slot number first zero f w (Some v ∷ slots) at numbered is =
    let same : v ≡ w = cc in
    rw (same_number v.number number (omega (arith, numbered.0)))
    (rw (with_change-none number f (writes_in slots) (none_before number (suc first) slots (omega arith) numbered.1)) (ap (λ x. f x ∷ writes_in slots) same))
with_change-slot number first (suc i) f w (None ∷ slots) at numbered is = with_change-slot number (suc first) i f w slots (omega arith) numbered is
with_change-slot number first (suc i) f w (Some v ∷ slots) at numbered is =
    rw (lower_number v.number number (omega (arith, numbered.0)))
    (ap (λ more. v ∷ more) (with_change-slot number (suc first) i f w slots (omega arith) numbered.1 is))

-- a write is taken out of its slot
pub without-slot : (number first i : ℕ) (slots : Slots) → number ≡ first + i → AreNumbered first slots
    → without number (writes_in slots) ≡ writes_in (set slots i None)
without-slot number first i [] at numbered = refl
without-slot number first zero (None ∷ slots) at numbered = without-none number (writes_in slots) (none_before number (suc first) slots (omega arith) numbered)
without-slot number first zero (Some v ∷ slots) at numbered =
    rw (same_number v.number number (omega (arith, numbered.0)))
    (without-none number (writes_in slots) (none_before number (suc first) slots (omega arith) numbered.1))
without-slot number first (suc i) (None ∷ slots) at numbered = without-slot number (suc first) i slots (omega arith) numbered
without-slot number first (suc i) (Some v ∷ slots) at numbered =
    rw (lower_number v.number number (omega (arith, numbered.0))) (ap (λ more. v ∷ more) (without-slot number (suc first) i slots (omega arith) numbered.1))

-- what a slot may hold under its number
abbrev pub MayHold : ℕ → Option LogWrite → Type 0
MayHold number None = Unit {0}
MayHold number (Some w) = w.number ≡ number

-- slots stay numbered where a write is changed or taken out
pub numbered-set : (number first i : ℕ) (x : Option LogWrite) (slots : Slots) → number ≡ first + i → MayHold number x → AreNumbered first slots
    → AreNumbered first (set slots i x)
numbered-set number first i x [] at may numbered = tt
numbered-set number first zero None (None ∷ slots) at may numbered = numbered
numbered-set number first zero (Some w) (None ∷ slots) at may numbered = (omega (arith, may), numbered)
numbered-set number first zero None (Some v ∷ slots) at may numbered = numbered.1
numbered-set number first zero (Some w) (Some v ∷ slots) at may numbered = (omega (arith, may), numbered.1)
numbered-set number first (suc i) x (None ∷ slots) at may numbered = numbered-set number (suc first) i x slots (omega arith) may numbered
numbered-set number first (suc i) x (Some v ∷ slots) at may numbered = (numbered.0, numbered-set number (suc first) i x slots (omega arith) may numbered.1)

-- the write in a slot has its number
pub numbered_at : (number first i : ℕ) (w : LogWrite) (slots : Slots) → number ≡ first + i → AreNumbered first slots → get_or slots i None ≡ Some w
    → w.number ≡ number
numbered_at number first i w [] at numbered is = cc
numbered_at number first zero w (None ∷ slots) at numbered is = cc
numbered_at number first zero w (Some v ∷ slots) at numbered is =
    let same : v ≡ w = cc in let numbers = ap (λ (x : LogWrite). x.number) same in omega (arith, numbered.0, numbers)
numbered_at number first (suc i) w (None ∷ slots) at numbered is = numbered_at number (suc first) i w slots (omega arith) numbered is
numbered_at number first (suc i) w (Some v ∷ slots) at numbered is = numbered_at number (suc first) i w slots (omega arith) numbered.1 is

-- a write is added at the end
pub writes_in-push : (slots : Slots) (w : LogWrite) → writes_in (slots ++ Some w ∷ []) ≡ writes_in slots ++ w ∷ []
writes_in-push [] w = refl
writes_in-push (None ∷ slots) w = writes_in-push slots w
writes_in-push (Some v ∷ slots) w = ap (λ more. v ∷ more) (writes_in-push slots w)

pub numbered-push : (first : ℕ) (slots : Slots) (w : LogWrite) → AreNumbered first slots → w.number ≡ first + length slots
    → AreNumbered first (slots ++ Some w ∷ [])
numbered-push first [] w numbered is = (omega (arith, is), tt)
numbered-push first (None ∷ slots) w numbered is = numbered-push (suc first) slots w numbered (omega (arith, is))
numbered-push first (Some v ∷ slots) w numbered is = (numbered.0, numbered-push (suc first) slots w numbered.1 (omega (arith, is)))

pub few_writes : (slots : Slots) → length (writes_in slots) ≤ length slots
few_writes [] = omega arith
few_writes (None ∷ slots) = omega (arith, few_writes slots)
few_writes (Some v ∷ slots) = omega (arith, few_writes slots)

-- how many writes there are where one is changed, or taken out
pub length-changed : (i : ℕ) (w v : LogWrite) (slots : Slots) → get_or slots i None ≡ Some w
    → length (writes_in (set slots i (Some v))) ≡ length (writes_in slots)
length-changed i w v [] is = cc
length-changed zero w v (None ∷ slots) is = cc
length-changed zero w v (Some x ∷ slots) is = refl
length-changed (suc i) w v (None ∷ slots) is = length-changed i w v slots is
length-changed (suc i) w v (Some x ∷ slots) is = ap suc (length-changed i w v slots is)

pub length-removed : (i : ℕ) (w : LogWrite) (slots : Slots) → get_or slots i None ≡ Some w
    → length (writes_in (set slots i None)) + 1 ≡ length (writes_in slots)
length-removed i w [] is = cc
length-removed zero w (None ∷ slots) is = cc
length-removed zero w (Some x ∷ slots) is = omega arith
length-removed (suc i) w (None ∷ slots) is = length-removed i w slots is
length-removed (suc i) w (Some x ∷ slots) is = let more = length-removed i w slots is in omega (arith, more)

pub past_the_end : (i : ℕ) (slots : Slots) → length slots ≤ i → get_or slots i None ≡ None
past_the_end i [] past = refl
past_the_end zero (x ∷ slots) past = absurd (omega arith)
past_the_end (suc i) (x ∷ slots) past = past_the_end i slots (omega arith)

-- a hole that is written again
pub set_same : (i : ℕ) (slots : Slots) → get_or slots i None ≡ None → writes_in (set slots i None) ≡ writes_in slots
set_same i [] hole = refl
set_same zero (None ∷ slots) hole = refl
set_same zero (Some w ∷ slots) hole = cc
set_same (suc i) (None ∷ slots) hole = set_same i slots hole
set_same (suc i) (Some w ∷ slots) hole = ap (λ more. w ∷ more) (set_same i slots hole)

-- no change touches a write's number
pub number-changed : (what : Change) (w : LogWrite) → (changed what w).number ≡ w.number
number-changed (change.Sent answers) w = refl
number-changed change.Answered w = refl
number-changed change.OnDisk w = refl
number-changed change.Failed w = refl
number-changed change.Unlinked w = refl

-- the write in a slot, where it was read
pub found : (slots : Slots) (i : ℕ) (x : Option LogWrite) (w : LogWrite) → i < length slots → x ≡ get_or slots i x → x ≡ Some w → get_or slots i None ≡ Some w
found slots i x w inside read is = sym (get_or_read slots i x inside read None) ∙ is

-- a hole at the front is dropped
pub writes_in-drop : (x : Option LogWrite) (slots : Slots) → x ≡ get_or slots 0 x → x ≡ None → writes_in (drop 1 slots) ≡ writes_in slots
writes_in-drop x [] read is = refl
writes_in-drop x (None ∷ slots) read is = refl
writes_in-drop x (Some w ∷ slots) read is = cc

pub numbered-drop : (first : ℕ) (x : Option LogWrite) (slots : Slots) → x ≡ get_or slots 0 x → x ≡ None → AreNumbered first slots
    → AreNumbered (first + 1) (drop 1 slots)
numbered-drop first x [] read is numbered = tt
numbered-drop first x (None ∷ slots) read is numbered = rw add-one numbered
numbered-drop first x (Some w ∷ slots) read is numbered = cc

-- the writes of numbered slots rise
pub rises_in : (low first : ℕ) (slots : Slots) → low ≤ first → AreNumbered first slots → Rises low (writes_in slots)
rises_in low first [] from numbered = tt
rises_in low first (None ∷ slots) from numbered = rises_in low (suc first) slots (omega arith) numbered
rises_in low first (Some w ∷ slots) from numbered =
    (omega (arith, numbered.0), rises_in (suc w.number) (suc first) slots (omega (arith, numbered.0)) numbered.1)

-- numbers rise, by what the fields keep
pub rises_of : (r : Inside) (s : RingState) → ring_of r ≡ s → IsRing r → Rises 0 s.writes
rises_of r s is ring = rw (← is) (rises_in 0 r.first r.slots.items (omega arith) ring.numbered)
