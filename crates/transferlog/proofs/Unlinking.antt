-- Writes that lose their connection one number after another.
use Rattle.std.proofs.Common.{◌≡◌, ℕ, suc, ◌+◌, ◌<◌, ◌≤◌, ◌==◌, nat_lt, Bool, true, false, ◌&&◌, List, [], ◌∷◌, ◌++◌, length, refl, ◌∙◌, ap, arith, Option}
use Rattle.std.proofs.Common.{Some, None}
use Rattle.std.proofs.lemmas.List.{length-map}
use Rattle.std.specs.Prelude.{filter, map, if◌then◌else◌}
use Rattle.std.specs.Option.{option_map, option_and_then}
use Rattle.std.proofs.lemmas.Bool.Decides.{nat_tests}
use Rattle.transferlog.specs.Writes.{LogWrite, is_open, is_completed, completed_of, report_of, unlinking}
use Rattle.transferlog.specs.Ring.{Each, has_number, write_at, on, with_change}
use Rattle.transferlog.specs.Slots.{writes_in, AreNumbered}
use Rattle.transferlog.specs.Fields.{IsAlone}
use Rattle.transferlog.specs.declared.report.Completed.{Completed}
use Rattle.transferlog.specs.declared.report.ChangeReport.{ChangeReport}
use Rattle.transferlog.proofs.Moves.{number_is}
use Rattle.transferlog.proofs.Sweep.{out_at}

-- a write whose number is below this one has lost its connection
abbrev pub unlinked : ℕ → LogWrite → LogWrite
unlinked k w = if nat_lt w.number k then unlinking w else w

-- a write that is completed by losing its connection
abbrev pub completes : LogWrite → Bool
completes w = is_open w && is_completed (unlinking w)

below_next : (n k : ℕ) → nat_lt n k ≡ true → nat_lt n (k + 1) ≡ true
below_next n k is = grind (arith, nat_tests)

at_next : (n k : ℕ) → n ≡ k → nat_lt n (k + 1) ≡ true
at_next n k is = grind (arith, nat_tests)

past_next : (n k : ℕ) → nat_lt n k ≡ false → (n == k) ≡ false → nat_lt n (k + 1) ≡ false
past_next n k least other = grind (arith, nat_tests)

below_is_other : (n k : ℕ) → nat_lt n k ≡ true → (n == k) ≡ false
below_is_other n k is = grind (arith, nat_tests)

found_by : (below same : Bool) (k : ℕ) (w : LogWrite) (ws : List LogWrite) → nat_lt w.number k ≡ below → has_number k w ≡ same
    → write_at k (map (unlinked k) ws) ≡ write_at k ws → write_at k (map (unlinked k) (w ∷ ws)) ≡ write_at k (w ∷ ws)
found_by true same k w ws below is rest = let other = below_is_other w.number k below in rw below (rw other rest)
found_by false true k w ws below is rest = rw below (rw is refl)
found_by false false k w ws below is rest = rw below (rw is rest)

-- the write with the number, where those below it lost their connection
pub found_linked : (k : ℕ) (ws : List LogWrite) → write_at k (map (unlinked k) ws) ≡ write_at k ws
found_linked k [] = refl
found_linked k (w ∷ ws) = found_by (nat_lt w.number k) (has_number k w) k w ws refl refl (found_linked k ws)

next_by : (below same : Bool) (k : ℕ) (w : LogWrite) → nat_lt w.number k ≡ below → has_number k w ≡ same → on k unlinking (unlinked k w) ≡ unlinked (k + 1) w
next_by true same k w below is = let other = below_is_other w.number k below in rw (below, below_next w.number k below) (rw other refl)
next_by false true k w below is = rw (below, at_next w.number k (number_is w.number k is)) (rw is refl)
next_by false false k w below is = rw (below, past_next w.number k below is) (rw is refl)

both : (a b : LogWrite) (xs ys : List LogWrite) → a ≡ b → xs ≡ ys → a ∷ xs ≡ b ∷ ys
both a b xs ys first rest = rw (first, rest) refl

not_below : (n k : ℕ) → k ≤ n → nat_lt n k ≡ false
not_below n k least = grind (arith, nat_tests)

is_below : (n k : ℕ) → n < k → nat_lt n k ≡ true
is_below n k less = grind (arith, nat_tests)

-- one more write loses its connection
pub unlinked_next : (k : ℕ) (ws : List LogWrite) → with_change k unlinking (map (unlinked k) ws) ≡ map (unlinked (k + 1)) ws
unlinked_next k [] = refl
unlinked_next k (w ∷ ws) = both _ _ _ _ (next_by (nat_lt w.number k) (has_number k w) k w refl refl) (unlinked_next k ws)

pub none_unlinked : (k : ℕ) (ws : List LogWrite) → Each (λ w. k ≤ w.number) ws → map (unlinked k) ws ≡ ws
none_unlinked k [] each = refl
none_unlinked k (w ∷ ws) each = let least : nat_lt w.number k ≡ false = not_below w.number k each.0 in rw least
    (ap (λ more. w ∷ more) (none_unlinked k ws each.1))

pub all_unlinked : (k : ℕ) (ws : List LogWrite) → Each (λ w. w.number < k) ws → map (unlinked k) ws ≡ map unlinking ws
all_unlinked k [] each = refl
all_unlinked k (w ∷ ws) each = let below : nat_lt w.number k ≡ true = is_below w.number k each.0 in rw below
    (ap (λ more. unlinking w ∷ more) (all_unlinked k ws each.1))

-- the completion of a turn is what comes of a write that is completed
turned_by : (found : Option LogWrite)
    → option_and_then (λ (t : ChangeReport). t.completion) (option_map (report_of unlinking) found) ≡ option_and_then (λ w. if completes w then Some (completed_of w)
    else None) found
turned_by None = refl
turned_by (Some w) = refl

pub completion_at : (k : ℕ) (ws left : List LogWrite) (report : Option ChangeReport) → report ≡ option_map (report_of unlinking) (write_at k left)
    → left ≡ map (unlinked k) ws
    → option_and_then (λ (t : ChangeReport). t.completion) report ≡ out_at completes completed_of k ws
completion_at k ws left report is left_is =
    ap (option_and_then (λ (t : ChangeReport). t.completion)) (is
    ∙ (ap (λ vs. option_map (report_of unlinking) (write_at k vs)) left_is ∙ ap (option_map (report_of unlinking)) (found_linked k ws)))
    ∙ turned_by (write_at k ws)

all_by : (o d : Bool) (w : LogWrite) (ws : List LogWrite) → is_open w ≡ o → is_completed (unlinking w) ≡ d
    → map completed_of (filter completes ws) ≡ map completed_of (filter is_completed (map unlinking (filter is_open ws)))
    → map completed_of (filter completes (w ∷ ws)) ≡ map completed_of (filter is_completed (map unlinking (filter is_open (w ∷ ws))))
all_by true true w ws is d rest = rw is (rw d (ap (λ more. completed_of w ∷ more) rest))
all_by true false w ws is d rest = rw is (rw d rest)
all_by false d w ws is e rest = rw is rest

-- all that is completed
pub all_completed : (ws : List LogWrite) → map completed_of (filter completes ws) ≡ map completed_of (filter is_completed (map unlinking (filter is_open ws)))
all_completed [] = refl
all_completed (w ∷ ws) = all_by (is_open w) (is_completed (unlinking w)) w ws refl refl (all_completed ws)

-- the numbers of slots
pub numbers_from : (low first : ℕ) (slots : List (Option LogWrite)) → low ≤ first → AreNumbered first slots → Each (λ w. low ≤ w.number) (writes_in slots)
numbers_from low first [] from numbered = tt
numbers_from low first (None ∷ slots) from numbered = numbers_from low (suc first) slots (omega arith) numbered
numbers_from low first (Some w ∷ slots) from numbered = (omega (arith, numbered.0), numbers_from low (suc first) slots (omega arith) numbered.1)

pub numbers_below : (high first : ℕ) (slots : List (Option LogWrite)) → first + length slots ≤ high → AreNumbered first slots
    → Each (λ w. w.number < high) (writes_in slots)
numbers_below high first [] below numbered = tt
numbers_below high first (None ∷ slots) below numbered = numbers_below high (suc first) slots (omega (arith, below)) numbered
numbers_below high first (Some w ∷ slots) below numbered =
    (omega (arith, numbered.0, below), numbers_below high (suc first) slots (omega (arith, below)) numbered.1)

pub each_alone : (ws : List LogWrite) → Each IsAlone (map unlinking ws)
each_alone [] = tt
each_alone (w ∷ ws) = (refl, each_alone ws)

pub each_to : (P Q : LogWrite → Type 0) (ws : List LogWrite) → ((w : LogWrite) → P w → Q w) → Each P ws → Each Q ws
each_to P Q [] to each = tt
each_to P Q (w ∷ ws) to each = (to w each.0, each_to P Q ws to each.1)

few_if : (b : Bool) (w : LogWrite) (ws : List LogWrite) (n : ℕ) → length ws ≤ n → length (if b then w ∷ ws else ws) ≤ suc n
few_if true w ws n few = omega (arith, few)
few_if false w ws n few = omega (arith, few)

few_chosen : (p : LogWrite → Bool) (ws : List LogWrite) → length (filter p ws) ≤ length ws
few_chosen p [] = omega arith
few_chosen p (w ∷ ws) = few_if (p w) w (filter p ws) (length ws) (few_chosen p ws)

-- no more is completed than there is
pub few_completed : (noted : List Completed) (ws : List LogWrite) → noted ≡ []
    → length (noted ++ map completed_of (filter is_completed (map unlinking (filter is_open ws)))) ≤ length ws
few_completed noted ws none =
    let completed = few_chosen is_completed (map unlinking (filter is_open ws)) in
    rw none (simp length-map (omega (arith, simp length-map at completed, few_chosen is_open ws)))
