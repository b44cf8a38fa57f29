-- Whether a write of some numbers is not answered, number by number.
use Rattle.std.proofs.Common.{◌≡◌, ℕ, suc, ◌+◌, ◌<◌, ◌≤◌, ◌==◌, Bool, true, false, ◌&&◌, ◌||◌, List, [], ◌∷◌, refl, arith, not}
use Rattle.std.specs.List.{list_any}
use Rattle.std.proofs.lemmas.Bool.Decides.{nat_tests}
use Rattle.blocks.specs.Ranges.{is_between}
use Rattle.transferlog.specs.Writes.{LogWrite}
use Rattle.transferlog.specs.Ring.{Each, Rises, has_number, write_at, is_unanswered}
use Rattle.transferlog.proofs.Numbers.{NoneHas}
use Rattle.transferlog.proofs.Moves.{number_is, none_above}

-- a write from the first number on and below the second is answered
abbrev pub IsAnsweredBelow : ℕ → ℕ → LogWrite → Type 0
IsAnsweredBelow first k w = first ≤ w.number → w.number < k → not w.answered ≡ false

pub none_yet : (first : ℕ) (ws : List LogWrite) → Each (IsAnsweredBelow first first) ws
none_yet first [] = tt
none_yet first (w ∷ ws) = (λ from below. absurd (omega arith), none_yet first ws)

other_is : (a b : ℕ) → (a == b) ≡ false → a < b + 1 → a < b
other_is a b other below = grind (arith, nat_tests)

next_other : (first k : ℕ) (ws : List LogWrite) → NoneHas k ws → Each (IsAnsweredBelow first k) ws → Each (IsAnsweredBelow first (k + 1)) ws
next_other first k [] none each = tt
next_other first k (w ∷ ws) none each = (λ from below. each.0 from (other_is w.number k none.0 below), next_other first k ws none.1 each.1)

next_by : (b : Bool) (first k low : ℕ) (w : LogWrite) (ws : List LogWrite) → has_number k w ≡ b → Rises low (w ∷ ws)
    → is_unanswered (write_at k (w ∷ ws)) ≡ false → Each (IsAnsweredBelow first k) (w ∷ ws)
    → (is_unanswered (write_at k ws) ≡ false → Each (IsAnsweredBelow first (k + 1)) ws) → Each (IsAnsweredBelow first (k + 1)) (w ∷ ws)
next_by true first k low w ws is rises answered each rest =
    let number = number_is w.number k is in
    (λ from below. rw is at answered, next_other first k ws (none_above k (suc w.number) ws (omega arith) rises.1) each.1)
next_by false first k low w ws is rises answered each rest =
    (λ from below. each.0 from (other_is w.number k is below), rest (rw is at answered))

pub answered_next : (first k low : ℕ) (ws : List LogWrite) → Rises low ws → is_unanswered (write_at k ws) ≡ false → Each (IsAnsweredBelow first k) ws
    → Each (IsAnsweredBelow first (k + 1)) ws
answered_next first k low [] rises answered each = tt
answered_next first k low (w ∷ ws) rises answered each =
    next_by (has_number k w) first k low w ws refl rises answered each (λ more. answered_next first k (suc w.number) ws rises.1 more each.1)

or_true : (b : Bool) → (b || true) ≡ true
or_true true = refl
or_true false = refl

inside : (first count n : ℕ) → first ≤ n → n < first + count → is_between first count n ≡ true
inside first count n from below = grind (arith, nat_tests)

from_inside : (first count n : ℕ) → is_between first count n ≡ true → first ≤ n
from_inside first count n is = grind (arith, nat_tests)

below_inside : (first count n : ℕ) → is_between first count n ≡ true → n < first + count
below_inside first count n is = grind (arith, nat_tests)

-- a write that is not answered is found
found_by : (b : Bool) (first count k : ℕ) (w : LogWrite) (ws : List LogWrite) → has_number k w ≡ b → first ≤ k → k < first + count
    → is_unanswered (write_at k (w ∷ ws)) ≡ true
    → (is_unanswered (write_at k ws) ≡ true → list_any (λ v. is_between first count v.number && not v.answered) ws ≡ true)
    → list_any (λ v. is_between first count v.number && not v.answered) (w ∷ ws) ≡ true
found_by true first count k w ws is from below lacks rest =
    let number = number_is w.number k is in
    let here : is_between first count w.number ≡ true = inside first count w.number (omega arith) (omega arith) in
    let open_still : not w.answered ≡ true = rw is at lacks in
    rw (here, open_still) refl
found_by false first count k w ws is from below lacks rest = rw (rest (rw is at lacks)) (or_true (is_between first count w.number && not w.answered))

pub lacks_one : (first count k : ℕ) (ws : List LogWrite) → first ≤ k → k < first + count → is_unanswered (write_at k ws) ≡ true
    → list_any (λ v. is_between first count v.number && not v.answered) ws ≡ true
lacks_one first count k [] from below lacks = cc
lacks_one first count k (w ∷ ws) from below lacks =
    found_by (has_number k w) first count k w ws refl from below lacks (λ more. lacks_one first count k ws from below more)

-- none lacks an answer, where each below the last number is answered
lacks_not : (b : Bool) (first count : ℕ) (w : LogWrite) → is_between first count w.number ≡ b → IsAnsweredBelow first (first + count) w
    → (is_between first count w.number && not w.answered) ≡ false
lacks_not true first count w is answered = rw is (answered (from_inside first count w.number is) (below_inside first count w.number is))
lacks_not false first count w is answered = rw is refl

pub lacks_none : (first count : ℕ) (ws : List LogWrite) → Each (IsAnsweredBelow first (first + count)) ws
    → list_any (λ v. is_between first count v.number && not v.answered) ws ≡ false
lacks_none first count [] each = refl
lacks_none first count (w ∷ ws) each = rw (lacks_not (is_between first count w.number) first count w refl each.0) (lacks_none first count ws each.1)
