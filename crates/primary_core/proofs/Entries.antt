-- The entry of one number is changed.
use Rattle.std.proofs.Common.{ℕ, zero, suc, ◌≡◌, ◌+◌, ◌-◌, ◌<◌, List, [], ◌∷◌, length, refl, ap, arith, get_or, slice_set}
use Rattle.transferlog.proofs.Numbers.{same_number, higher_number}
use Rattle.primary_protocol.specs.Core.{JournalEntry, with_entry}

-- no entry has the number 0
pub no-entry : (f : JournalEntry → JournalEntry) (es : List JournalEntry) → es ≡ with_entry 0 f es
no-entry f [] = refl
no-entry f (e ∷ es) = ap (λ more. e ∷ more) (no-entry f es)

-- no entry has a number past the last one
pub past-entries : (number : ℕ) (f : JournalEntry → JournalEntry) (es : List JournalEntry) → length es < number → es ≡ with_entry number f es
past-entries number f [] past = refl
past-entries number f (e ∷ es) past = rw (higher_number number 1 (omega arith)) (ap (λ more. e ∷ more) (past-entries (number - 1) f es (omega arith)))

-- the entry at an index has the number after that
pub entry-set : (number i : ℕ) (f : JournalEntry → JournalEntry) (x : JournalEntry) (es : List JournalEntry) → number ≡ i + 1
    → slice_set es i (f (get_or es i x)) ≡ with_entry number f es
entry-set number i f x [] is = refl
entry-set number zero f x (e ∷ es) is = rw (same_number number 1 (omega arith)) refl
entry-set number (suc i) f x (e ∷ es) is = rw (higher_number number 1 (omega arith)) (ap (λ more. e ∷ more) (entry-set (number - 1) i f x es (omega arith)))
