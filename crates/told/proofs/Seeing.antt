-- What a caller was told stays told, and so is what it was told last.
use Rattle.std.proofs.Common.{ℕ, ◌≡◌, List, [], ◌∷◌, ◌++◌, refl, sym, ◌∙◌, ap, append_assoc}
use mathlib.Core.List.{IsPrefix}
use Rattle.told.specs.declared.entry.Told.{Told}
use Rattle.told.specs.declared.entry.Told.TheVariants.{Held}
use Rattle.told.specs.Log.{Extends, SaysHeld, SaysHeldSince, WasTold}

pub prefix-self : (seen : List Told) → IsPrefix seen seen
prefix-self seen = ([], append_nil seen)
  where
    append_nil : (xs : List Told) → xs ++ [] ≡ xs
    append_nil [] = refl
    append_nil (x ∷ xs) = ap (λ (ys : List Told). x ∷ ys) (append_nil xs)

pub prefix-on : (seen more all : List Told) → IsPrefix seen more → IsPrefix more all → IsPrefix seen all
prefix-on seen more all one other =
    (one.0 ++ other.0, sym (append_assoc seen one.0 other.0) ∙ (ap (λ (xs : List Told). xs ++ other.0) one.1 ∙ other.1))

-- a caller that was told something more
pub told-prefix : (seen : List Told) (one : Told) (later : List Told) → Extends seen one later → IsPrefix seen later
told-prefix seen one later extends = (extends.0 ++ one ∷ [], sym (append_assoc seen extends.0 (one ∷ [])) ∙ sym extends.1)

pub told-last : (seen : List Told) (one : Told) (later : List Told) → Extends seen one later → WasTold later one
told-last seen one later extends = (seen ++ extends.0, [], extends.1)

-- what was told stands in every list that goes on from there
pub stays-told : (seen all : List Told) (one : Told) → IsPrefix seen all → WasTold seen one → WasTold all one
stays-told seen all one pre was = (
  was.0,
  was.1 ++ pre.0,
  sym pre.1 ∙ (ap (λ (xs : List Told). xs ++ pre.0) was.2 ∙ append_assoc was.0 (one ∷ was.1) pre.0),
)

-- what a read gave is held since what was seen before it
pub held-since : (seen : List Told) (first count : ℕ) (bytes : List ℕ) (later : List Told) → Extends seen (Held first count bytes) later
    → SaysHeldSince seen later first count bytes
held-since seen first count bytes later extends = (extends.0, [], extends.1)

-- and it stays so while the log goes on
pub since-on : (seen log all : List Told) → IsPrefix log all → (first count : ℕ) (bytes : List ℕ) → SaysHeldSince seen log first count bytes
    → SaysHeldSince seen all first count bytes
since-on seen log all pre first count bytes held = (
  held.0,
  held.1 ++ pre.0,
  sym pre.1 ∙ (ap (λ (xs : List Told). xs ++ pre.0) held.2 ∙ append_assoc (seen ++ held.0) (Held first count bytes ∷ held.1) pre.0),
)

-- it is held since an earlier beginning, too
pub since-earlier : (earlier seen log : List Told) → IsPrefix earlier seen → (first count : ℕ) (bytes : List ℕ) → SaysHeldSince seen log first count bytes
    → SaysHeldSince earlier log first count bytes
since-earlier earlier seen log pre first count bytes held = (
  pre.0 ++ held.0,
  held.1,
  held.2 ∙ (ap (λ (xs : List Told). (xs ++ held.0) ++ Held first count bytes ∷ held.1) (sym pre.1)
      ∙ ap (λ (xs : List Told). xs ++ Held first count bytes ∷ held.1) (append_assoc earlier pre.0 held.0)),
)

-- so it was told
pub since-says : (seen log : List Told) (first count : ℕ) (bytes : List ℕ) → SaysHeldSince seen log first count bytes → SaysHeld log first count bytes
since-says seen log first count bytes held = (seen ++ held.0, held.1, held.2)
