-- What happens to one write, in a list whose numbers rise.
use Rattle.std.proofs.Common.{◌≡◌, ℕ, suc, ◌<◌, ◌≤◌, ◌==◌, Bool, true, false, ◌&&◌, ◌||◌, List, [], ◌∷◌, length, refl, sym, ◌∙◌, ap, arith, Option, Some, None}
use Rattle.std.proofs.Common.{not}
use Rattle.std.specs.Prelude.{filter, map, is_some, if◌then◌else◌}
use Rattle.std.specs.Option.{option_map, option_and_then, option_to_list}
use Rattle.std.specs.List.{list_any}
use Rattle.std.proofs.lemmas.Bool.Decides.{nat_tests}
use Rattle.transferlog.specs.Writes.{LogWrite, is_open, is_completed, is_released, completed_of, released_of, report_of, release_of}
use Rattle.transferlog.specs.Ring.{has_number, write_at, on, with_change, without, Rises}
use Rattle.transferlog.specs.Ring.{Each}
use Rattle.transferlog.specs.Fields.{IsKept}
use Rattle.transferlog.specs.declared.report.Completed.{Completed}
use Rattle.transferlog.specs.declared.report.ChangeReport.{ChangeReport}
use Rattle.transferlog.proofs.Numbers.{NoneHas, without-none, higher_number}

-- the number is the one that was tested for
pub number_is : (n m : ℕ) → (n == m) ≡ true → n ≡ m
number_is n m is = grind (arith, nat_tests)

pub none_above : (n low : ℕ) (ws : List LogWrite) → n < low → Rises low ws → NoneHas n ws
none_above n low [] above rises = tt
none_above n low (w ∷ ws) above rises = (higher_number w.number n (omega (arith, rises.0)), none_above n (suc w.number) ws (omega (arith, rises.0)) rises.1)

-- what is kept apart from the write with this number
abbrev pub KeptBut : ℕ → ℕ → LogWrite → Type 0
KeptBut n acknowledged_through w = has_number n w ≡ false → is_released acknowledged_through w ≡ false

-- a change that keeps a write's number
abbrev pub KeepsNumber : (LogWrite → LogWrite) → Type 0
KeepsNumber f = (w : LogWrite) → (f w).number ≡ w.number

changed_kept : (b : Bool) (n acknowledged_through : ℕ) (f : LogWrite → LogWrite) (w : LogWrite) → has_number n w ≡ b → KeepsNumber f → IsKept acknowledged_through w
    → KeptBut n acknowledged_through (if b then f w else w)
changed_kept true n acknowledged_through f w is keeps kept = λ other. let has : ((f w).number == n) ≡ true = rw (keeps w) is in cc
changed_kept false n acknowledged_through f w is keeps kept = λ other. kept

-- only the changed write can be released
pub kept_but : (n acknowledged_through : ℕ) (f : LogWrite → LogWrite) (ws : List LogWrite) → KeepsNumber f → Each (IsKept acknowledged_through) ws
    → Each (KeptBut n acknowledged_through) (with_change n f ws)
kept_but n acknowledged_through f [] keeps kept = tt
kept_but n acknowledged_through f (w ∷ ws) keeps kept = (changed_kept (has_number n w) n acknowledged_through f w refl keeps kept.0, kept_but n acknowledged_through f ws keeps kept.1)

changed_number : (b : Bool) (f : LogWrite → LogWrite) (w : LogWrite) → KeepsNumber f → (if b then f w else w).number ≡ w.number
changed_number true f w keeps = keeps w
changed_number false f w keeps = refl

-- numbers rise as before
pub rises_changed : (n low : ℕ) (f : LogWrite → LogWrite) (ws : List LogWrite) → KeepsNumber f → Rises low ws → Rises low (with_change n f ws)
rises_changed n low f [] keeps rises = tt
rises_changed n low f (w ∷ ws) keeps rises =
    rw (changed_number (has_number n w) f w keeps) (rises.0, rises_changed n (suc w.number) f ws keeps rises.1)

found_by : (b : Bool) (n : ℕ) (f : LogWrite → LogWrite) (w : LogWrite) (ws : List LogWrite) → has_number n w ≡ b → KeepsNumber f
    → write_at n (with_change n f ws) ≡ option_map f (write_at n ws) → write_at n (with_change n f (w ∷ ws)) ≡ option_map f (write_at n (w ∷ ws))
found_by true n f w ws is keeps rest = let has : ((f w).number == n) ≡ true = rw (keeps w) is in rw is (rw has refl)
found_by false n f w ws is keeps rest = rw is (rw is rest)

-- the changed write is found
pub write_at-changed : (n : ℕ) (f : LogWrite → LogWrite) (ws : List LogWrite) → KeepsNumber f → write_at n (with_change n f ws) ≡ option_map f (write_at n ws)
write_at-changed n f [] keeps = refl
write_at-changed n f (w ∷ ws) keeps = found_by (has_number n w) n f w ws refl keeps (write_at-changed n f ws keeps)

-- a write with another number is passed by
pub skipped : (n : ℕ) (w : LogWrite) (ws : List LogWrite) → has_number n w ≡ false → write_at n (w ∷ ws) ≡ write_at n ws
skipped n w ws is = rw is refl

-- where none has the number, none is released
none_released : (n acknowledged_through : ℕ) (ws : List LogWrite) → NoneHas n ws → Each (KeptBut n acknowledged_through) ws → filter (is_released acknowledged_through) ws ≡ []
none_released n acknowledged_through [] none kept = refl
none_released n acknowledged_through (w ∷ ws) none kept = rw (kept.0 none.0) (none_released n acknowledged_through ws none.1 kept.1)

all_left : (n acknowledged_through : ℕ) (ws : List LogWrite) → NoneHas n ws → Each (KeptBut n acknowledged_through) ws → filter (λ w. not (is_released acknowledged_through w)) ws ≡ ws
all_left n acknowledged_through [] none kept = refl
all_left n acknowledged_through (w ∷ ws) none kept = rw (kept.0 none.0) (ap (λ more. w ∷ more) (all_left n acknowledged_through ws none.1 kept.1))

pub one_released : (b : Bool) (w : LogWrite) → map released_of (if b then w ∷ [] else []) ≡ option_to_list (if b then Some (released_of w) else None)
one_released true w = refl
one_released false w = refl

released_by : (b : Bool) (n acknowledged_through low : ℕ) (w : LogWrite) (ws : List LogWrite) → has_number n w ≡ b → Rises low (w ∷ ws)
    → Each (KeptBut n acknowledged_through) (w ∷ ws)
    → map released_of (filter (is_released acknowledged_through) ws) ≡ option_to_list (option_and_then (release_of acknowledged_through) (write_at n ws))
    → map released_of (filter (is_released acknowledged_through) (w ∷ ws)) ≡ option_to_list (option_and_then (release_of acknowledged_through) (write_at n (w ∷ ws)))
released_by true n acknowledged_through low w ws is rises kept rest =
    let number = number_is w.number n is in
    rw is (rw (none_released n acknowledged_through ws (none_above n (suc w.number) ws (omega arith) rises.1) kept.1) (one_released (is_released acknowledged_through w) w))
released_by false n acknowledged_through low w ws is rises kept rest = rw is (rw (kept.0 is) rest)

-- what is released is the one write, if it is
pub released_one : (n acknowledged_through low : ℕ) (ws : List LogWrite) → Rises low ws → Each (KeptBut n acknowledged_through) ws
    → map released_of (filter (is_released acknowledged_through) ws) ≡ option_to_list (option_and_then (release_of acknowledged_through) (write_at n ws))
released_one n acknowledged_through low [] rises kept = refl
released_one n acknowledged_through low (w ∷ ws) rises kept =
    released_by (has_number n w) n acknowledged_through low w ws refl rises kept (released_one n acknowledged_through (suc w.number) ws rises.1 kept.1)

pub one_left : (b : Bool) (w : LogWrite) (ws : List LogWrite)
    → (if not b then w ∷ ws else ws) ≡ (if is_some (if b then Some (released_of w) else None) then ws else w ∷ ws)
one_left true w ws = refl
one_left false w ws = refl

left_after : (b : Bool) (w : LogWrite) (ws vs : List LogWrite) → (if b then w ∷ ws else w ∷ vs) ≡ w ∷ (if b then ws else vs)
left_after true w ws vs = refl
left_after false w ws vs = refl

left_by : (b : Bool) (n acknowledged_through low : ℕ) (w : LogWrite) (ws : List LogWrite) → has_number n w ≡ b → Rises low (w ∷ ws) → Each (KeptBut n acknowledged_through) (w ∷ ws)
    → filter (λ v. not (is_released acknowledged_through v)) ws ≡ (if is_some (option_and_then (release_of acknowledged_through) (write_at n ws)) then without n ws else ws)
    → filter (λ v. not (is_released acknowledged_through v)) (w ∷ ws) ≡ (if is_some (option_and_then (release_of acknowledged_through) (write_at n (w ∷ ws))) then without n (w ∷ ws)
    else w ∷ ws)
left_by true n acknowledged_through low w ws is rises kept rest =
    let number = number_is w.number n is in
    let none = none_above n (suc w.number) ws (omega arith) rises.1 in
    rw is (rw (all_left n acknowledged_through ws none kept.1) (rw (without-none n ws none) (one_left (is_released acknowledged_through w) w ws)))
left_by false n acknowledged_through low w ws is rises kept rest =
    rw is (rw (kept.0 is) (ap (λ more. w ∷ more) rest
    ∙ sym (left_after (is_some (option_and_then (release_of acknowledged_through) (write_at n ws))) w (without n ws) ws)))

-- what is left is all but the one write, if it is released
pub left_one : (n acknowledged_through low : ℕ) (ws : List LogWrite) → Rises low ws → Each (KeptBut n acknowledged_through) ws
    → filter (λ v. not (is_released acknowledged_through v)) ws ≡ (if is_some (option_and_then (release_of acknowledged_through) (write_at n ws)) then without n ws else ws)
left_one n acknowledged_through low [] rises kept = refl
left_one n acknowledged_through low (w ∷ ws) rises kept =
    left_by (has_number n w) n acknowledged_through low w ws refl rises kept (left_one n acknowledged_through (suc w.number) ws rises.1 kept.1)

-- the completion of a turn, if there was one
abbrev pub completion_in : Option ChangeReport → List Completed
completion_in None = []
completion_in (Some report) = option_to_list report.completion

-- whether a turn closed a write
abbrev pub closes_in : Option ChangeReport → Bool
closes_in None = false
closes_in (Some report) = report.closes

not_both : (a b : Bool) → (not a && b) ≡ true → a ≡ false
not_both true b is = cc
not_both false b is = refl

open_not_completed : (w : LogWrite) → is_open w ≡ true → is_completed w ≡ false
open_not_completed w is = not_both (is_completed w) _ is

still_open : (b : Bool) (n : ℕ) (f : LogWrite → LogWrite) (w : LogWrite) (ws : List LogWrite) → is_open w ≡ b → has_number n w ≡ false → (rest : List Completed)
    → map completed_of (filter is_completed (map (on n f) (filter is_open ws))) ≡ rest
    → map completed_of (filter is_completed (map (on n f) (filter is_open (w ∷ ws)))) ≡ rest
still_open true n f w ws is none rest same = rw is (rw none (rw (open_not_completed w is) same))
still_open false n f w ws is none rest same = rw is same

none_completed : (n : ℕ) (f : LogWrite → LogWrite) (ws : List LogWrite) → NoneHas n ws
    → map completed_of (filter is_completed (map (on n f) (filter is_open ws))) ≡ []
none_completed n f [] none = refl
none_completed n f (w ∷ ws) none = still_open (is_open w) n f w ws refl none.0 [] (none_completed n f ws none.1)

completed_head : (o d : Bool) (n : ℕ) (f : LogWrite → LogWrite) (w : LogWrite) (ws : List LogWrite) → has_number n w ≡ true → is_open w ≡ o
    → is_completed (f w) ≡ d
    → map completed_of (filter is_completed (map (on n f) (filter is_open ws))) ≡ []
    → map completed_of (filter is_completed (map (on n f) (filter is_open (w ∷ ws)))) ≡ completion_in (option_map (report_of f) (write_at n (w ∷ ws)))
completed_head true true n f w ws is o d rest = rw o (rw is (rw d (rw o (ap (λ more. completed_of (f w) ∷ more) rest))))
completed_head true false n f w ws is o d rest = rw o (rw is (rw d (rw o rest)))
completed_head false d n f w ws is o e rest = rw o (rw is (rw o rest))

completed_by : (b : Bool) (n low : ℕ) (f : LogWrite → LogWrite) (w : LogWrite) (ws : List LogWrite) → has_number n w ≡ b → Rises low (w ∷ ws)
    → map completed_of (filter is_completed (map (on n f) (filter is_open ws))) ≡ completion_in (option_map (report_of f) (write_at n ws))
    → map completed_of (filter is_completed (map (on n f) (filter is_open (w ∷ ws)))) ≡ completion_in (option_map (report_of f) (write_at n (w ∷ ws)))
completed_by true n low f w ws is rises rest =
    let number = number_is w.number n is in
    completed_head (is_open w) (is_completed (f w)) n f w ws is refl refl (none_completed n f ws (none_above n (suc w.number) ws (omega arith) rises.1))
completed_by false n low f w ws is rises rest =
    still_open (is_open w) n f w ws refl is _ (rest ∙ ap (λ o. completion_in (option_map (report_of f) o)) (sym (skipped n w ws is)))

-- what is completed is the one write, if it is
pub completed_one : (n low : ℕ) (f : LogWrite → LogWrite) (ws : List LogWrite) → Rises low ws
    → map completed_of (filter is_completed (map (on n f) (filter is_open ws))) ≡ completion_in (option_map (report_of f) (write_at n ws))
completed_one n low f [] rises = refl
completed_one n low f (w ∷ ws) rises = completed_by (has_number n w) n low f w ws refl rises (completed_one n (suc w.number) f ws rises.1)

stays : (b : Bool) → (b && not b) ≡ false
stays true = refl
stays false = refl

or_none : (b : Bool) → (b || false) ≡ b
or_none true = refl
or_none false = refl

none_closes : (n : ℕ) (f : LogWrite → LogWrite) (ws : List LogWrite) → NoneHas n ws → list_any (λ w. is_open w && not (is_open (on n f w))) ws ≡ false
none_closes n f [] none = refl
none_closes n f (w ∷ ws) none = rw none.0 (rw (stays (is_open w)) (none_closes n f ws none.1))

closes_by : (b : Bool) (n low : ℕ) (f : LogWrite → LogWrite) (w : LogWrite) (ws : List LogWrite) → has_number n w ≡ b → Rises low (w ∷ ws)
    → list_any (λ v. is_open v && not (is_open (on n f v))) ws ≡ closes_in (option_map (report_of f) (write_at n ws))
    → list_any (λ v. is_open v && not (is_open (on n f v))) (w ∷ ws) ≡ closes_in (option_map (report_of f) (write_at n (w ∷ ws)))
closes_by true n low f w ws is rises rest =
    let number = number_is w.number n is in
    rw is (rw (none_closes n f ws (none_above n (suc w.number) ws (omega arith) rises.1)) (or_none (is_open w && not (is_open (f w)))))
closes_by false n low f w ws is rises rest = rw is (rw (stays (is_open w)) rest)

-- whether a write is open no more is told by the one turn
pub closes_one : (n low : ℕ) (f : LogWrite → LogWrite) (ws : List LogWrite) → Rises low ws
    → list_any (λ w. is_open w && not (is_open (on n f w))) ws ≡ closes_in (option_map (report_of f) (write_at n ws))
closes_one n low f [] rises = refl
closes_one n low f (w ∷ ws) rises = closes_by (has_number n w) n low f w ws refl rises (closes_one n (suc w.number) f ws rises.1)

-- what is left is kept
kept_if : (b : Bool) (acknowledged_through : ℕ) (w : LogWrite) (ws : List LogWrite) → is_released acknowledged_through w ≡ b → Each (IsKept acknowledged_through) ws
    → Each (IsKept acknowledged_through) (if not b then w ∷ ws else ws)
kept_if true acknowledged_through w ws is rest = rest
kept_if false acknowledged_through w ws is rest = (is, rest)

pub left_kept : (acknowledged_through : ℕ) (ws : List LogWrite) → Each (IsKept acknowledged_through) (filter (λ w. not (is_released acknowledged_through w)) ws)
left_kept acknowledged_through [] = tt
left_kept acknowledged_through (w ∷ ws) = kept_if (is_released acknowledged_through w) acknowledged_through w (filter (λ v. not (is_released acknowledged_through v)) ws) refl (left_kept acknowledged_through ws)

each_if : (b : Bool) (P : LogWrite → Type 0) (w : LogWrite) (ws : List LogWrite) → P w → Each P ws → Each P (if b then w ∷ ws else ws)
each_if true P w ws here rest = (here, rest)
each_if false P w ws here rest = rest

pub each_filter : (P : LogWrite → Type 0) (p : LogWrite → Bool) (ws : List LogWrite) → Each P ws → Each P (filter p ws)
each_filter P p [] each = tt
each_filter P p (w ∷ ws) each = each_if (p w) P w (filter p ws) each.0 (each_filter P p ws each.1)

each_on : (b : Bool) (P : LogWrite → Type 0) (f : LogWrite → LogWrite) (w : LogWrite) → ((v : LogWrite) → P v → P (f v)) → P w → P (if b then f w else w)
each_on true P f w keeps here = keeps w here
each_on false P f w keeps here = here

pub each_changed : (P : LogWrite → Type 0) (n : ℕ) (f : LogWrite → LogWrite) (ws : List LogWrite) → ((v : LogWrite) → P v → P (f v)) → Each P ws
    → Each P (with_change n f ws)
each_changed P n f [] keeps each = tt
each_changed P n f (w ∷ ws) keeps each = (each_on (has_number n w) P f w keeps each.0, each_changed P n f ws keeps each.1)

length_if : (b : Bool) (w : LogWrite) (ws : List LogWrite) (n : ℕ) → length ws ≤ n → length (if b then w ∷ ws else ws) ≤ suc n
length_if true w ws n few = omega (arith, few)
length_if false w ws n few = omega (arith, few)

pub few_left : (p : LogWrite → Bool) (f : LogWrite → LogWrite) (ws : List LogWrite) → length (filter p (map f ws)) ≤ length ws
few_left p f [] = omega arith
few_left p f (w ∷ ws) = length_if (p (f w)) (f w) (filter p (map f ws)) (length ws) (few_left p f ws)
