-- Writes that go one number after another: what comes of them and what is left, number by number.
use Rattle.std.proofs.Common.{◌≡◌, ℕ, suc, ◌+◌, ◌<◌, ◌≤◌, ◌==◌, nat_lt, Bool, true, false, ◌&&◌, List, [], ◌∷◌, ◌++◌, length, refl, ap, arith, Option, Some}
use Rattle.std.proofs.Common.{None, not, length-append}
use Rattle.std.specs.Prelude.{filter, map, is_some, if◌then◌else◌, IsSome}
use Rattle.std.specs.Option.{option_and_then, option_to_list}
use Rattle.std.proofs.lemmas.List.{length-map}
use Rattle.std.proofs.lemmas.Bool.Decides.{nat_tests}
use Rattle.transferlog.specs.Writes.{LogWrite}
use Rattle.transferlog.specs.Ring.{Each, has_number, write_at, without, Rises}
use Rattle.transferlog.proofs.Numbers.{write_at-none, without-none, lower_number}
use Rattle.transferlog.proofs.Moves.{number_is, none_above}

-- a write below this number that is to go
abbrev pub goes : (LogWrite → Bool) → ℕ → LogWrite → Bool
goes p k w = nat_lt w.number k && p w

-- a write that has not gone
abbrev pub remains : (LogWrite → Bool) → ℕ → LogWrite → Bool
remains p k w = not (goes p k w)

below_is : (a b : ℕ) → a < b → nat_lt a b ≡ true
below_is a b less = grind (arith, nat_tests)

not_below_is : (a b : ℕ) → b ≤ a → nat_lt a b ≡ false
not_below_is a b least = grind (arith, nat_tests)

below_or_not : (a b : ℕ) → nat_lt a b ≡ true → a < b
below_or_not a b is = grind (arith, nat_tests)

above_or_not : (a b : ℕ) → nat_lt a b ≡ false → b ≤ a
above_or_not a b is = grind (arith, nat_tests)

above_not : (a b : ℕ) → b ≤ a → (a == b) ≡ false → b < a
above_not a b least other = grind (arith, nat_tests)

-- above the number, none has gone
pub none_gone : (p : LogWrite → Bool) (k low : ℕ) (ws : List LogWrite) → k ≤ low → Rises low ws → filter (goes p k) ws ≡ []
none_gone p k low [] above rises = refl
none_gone p k low (w ∷ ws) above rises =
    rw (not_below_is w.number k (omega (arith, rises.0))) (none_gone p k (suc w.number) ws (omega (arith, rises.0)) rises.1)

pub all_remain : (p : LogWrite → Bool) (k low : ℕ) (ws : List LogWrite) → k ≤ low → Rises low ws → filter (remains p k) ws ≡ ws
all_remain p k low [] above rises = refl
all_remain p k low (w ∷ ws) above rises =
    rw (not_below_is w.number k (omega (arith, rises.0))) (ap (λ more. w ∷ more) (all_remain p k (suc w.number) ws (omega (arith, rises.0)) rises.1))

-- the write with the number, where those below it have gone
found_if : (b : Bool) (k : ℕ) (w : LogWrite) (ws : List LogWrite) (found : Option LogWrite) → has_number k w ≡ false → write_at k ws ≡ found
    → write_at k (if not b then w ∷ ws else ws) ≡ found
found_if true k w ws found other is = is
found_if false k w ws found other is = rw other is

found_by : (b : Bool) (p : LogWrite → Bool) (k low : ℕ) (w : LogWrite) (ws : List LogWrite) → nat_lt w.number k ≡ b → Rises low (w ∷ ws)
    → write_at k (filter (remains p k) ws) ≡ write_at k ws → write_at k (filter (remains p k) (w ∷ ws)) ≡ write_at k (w ∷ ws)
found_by true p k low w ws is rises rest =
    let other = lower_number w.number k (below_or_not w.number k is) in
    rw (is, other) (found_if (p w) k w (filter (remains p k) ws) (write_at k ws) other rest)
found_by false p k low w ws is rises rest =
    rw is (rw (all_remain p k (suc w.number) ws (omega (arith, above_or_not w.number k is)) rises.1) refl)

pub found_still : (p : LogWrite → Bool) (k low : ℕ) (ws : List LogWrite) → Rises low ws → write_at k (filter (remains p k) ws) ≡ write_at k ws
found_still p k low [] rises = refl
found_still p k low (w ∷ ws) rises =
    found_by (nat_lt w.number k) p k low w ws refl rises (found_still p k (suc w.number) ws rises.1)

-- what comes of a write that goes, if it does
abbrev pub out_of : {X : Type 0} → (LogWrite → Bool) → (LogWrite → X) → LogWrite → Option X
out_of p out w = if p w then Some (out w) else None

-- the same of the write with this number
abbrev pub out_at : {X : Type 0} → (LogWrite → Bool) → (LogWrite → X) → ℕ → List LogWrite → Option X
out_at p out k ws = option_and_then (out_of p out) (write_at k ws)

one_out : {X : Type 0} (b : Bool) (out : LogWrite → X) (w : LogWrite) → map out (if b then w ∷ [] else []) ≡ option_to_list (if b then Some (out w) else None)
one_out true out w = refl
one_out false out w = refl

one_left : {X : Type 0} (b : Bool) (out : LogWrite → X) (w : LogWrite) (ws : List LogWrite)
    → (if not b then w ∷ ws else ws) ≡ (if is_some (if b then Some (out w) else None) then ws else w ∷ ws)
one_left true out w ws = refl
one_left false out w ws = refl

gone_if : {X : Type 0} (b : Bool) (out : LogWrite → X) (w : LogWrite) (xs ys : List LogWrite) (more : List X) → map out xs ≡ map out ys ++ more
    → map out (if b then w ∷ xs else xs) ≡ map out (if b then w ∷ ys else ys) ++ more
gone_if true out w xs ys more is = ap (λ rest. out w ∷ rest) is
gone_if false out w xs ys more is = is

gone_by : {X : Type 0} (below same : Bool) (p : LogWrite → Bool) (out : LogWrite → X) (k low : ℕ) (w : LogWrite) (ws : List LogWrite)
    → nat_lt w.number k ≡ below → has_number k w ≡ same → Rises low (w ∷ ws)
    → map out (filter (goes p (k + 1)) ws) ≡ map out (filter (goes p k) ws) ++ option_to_list (out_at p out k ws)
    → map out (filter (goes p (k + 1)) (w ∷ ws)) ≡ map out (filter (goes p k) (w ∷ ws)) ++ option_to_list (out_at p out k (w ∷ ws))
gone_by true same p out k low w ws below is rises rest =
    let less = below_or_not w.number k below in
    rw (below, lower_number w.number k less, below_is w.number (k + 1) (omega (arith, less)))
    (gone_if (p w) out w (filter (goes p (k + 1)) ws) (filter (goes p k) ws) (option_to_list (out_at p out k ws)) rest)
gone_by false true p out k low w ws below is rises rest =
    let number = number_is w.number k is in
    rw (below, is, below_is w.number (k + 1) (omega arith))
    (rw (none_gone p k (suc w.number) ws (omega arith) rises.1, none_gone p (k + 1) (suc w.number) ws (omega arith) rises.1) (one_out (p w) out w))
gone_by false false p out k low w ws below is rises rest =
    let most = above_or_not w.number k below in
    let above = above_not w.number k most is in
    rw (below, is, not_below_is w.number (k + 1) (omega (arith, above)))
    (rw (none_gone p k (suc w.number) ws (omega (arith, above)) rises.1, none_gone p (k + 1) (suc w.number) ws (omega (arith, above)) rises.1)
    (rw (write_at-none k ws (none_above k (suc w.number) ws (omega (arith, above)) rises.1)) refl))

-- what has gone after the next number
pub gone_next : {X : Type 0} (p : LogWrite → Bool) (out : LogWrite → X) (k low : ℕ) (ws : List LogWrite) → Rises low ws
    → map out (filter (goes p (k + 1)) ws) ≡ map out (filter (goes p k) ws) ++ option_to_list (out_at p out k ws)
gone_next p out k low [] rises = refl
gone_next p out k low (w ∷ ws) rises =
    gone_by (nat_lt w.number k) (has_number k w) p out k low w ws refl refl rises (gone_next p out k (suc w.number) ws rises.1)

left_if : (b some : Bool) (k : ℕ) (w : LogWrite) (xs ys : List LogWrite) → has_number k w ≡ false → xs ≡ (if some then without k ys else ys)
    → (if not b then w ∷ xs else xs) ≡ (if some then without k (if not b then w ∷ ys else ys) else (if not b then w ∷ ys else ys))
left_if true some k w xs ys other is = is
left_if false true k w xs ys other is = rw other (ap (λ more. w ∷ more) is)
left_if false false k w xs ys other is = ap (λ more. w ∷ more) is

left_by : {X : Type 0} (below same : Bool) (p : LogWrite → Bool) (out : LogWrite → X) (k low : ℕ) (w : LogWrite) (ws : List LogWrite)
    → nat_lt w.number k ≡ below → has_number k w ≡ same → Rises low (w ∷ ws)
    → filter (remains p (k + 1)) ws ≡ (if is_some (out_at p out k ws) then without k (filter (remains p k) ws) else filter (remains p k) ws)
    → filter (remains p (k + 1)) (w ∷ ws) ≡ (if is_some (out_at p out k (w ∷ ws)) then without k (filter (remains p k) (w ∷ ws))
    else filter (remains p k) (w ∷ ws))
left_by true same p out k low w ws below is rises rest =
    let less = below_or_not w.number k below in
    let other = lower_number w.number k less in
    rw (below, other, below_is w.number (k + 1) (omega (arith, less)))
    (left_if (p w) (is_some (out_at p out k ws)) k w (filter (remains p (k + 1)) ws) (filter (remains p k) ws) other rest)
left_by false true p out k low w ws below is rises rest =
    let number = number_is w.number k is in
    rw (below, is, below_is w.number (k + 1) (omega arith))
    (rw (all_remain p k (suc w.number) ws (omega arith) rises.1, all_remain p (k + 1) (suc w.number) ws (omega arith) rises.1)
    (rw (without-none k ws (none_above k (suc w.number) ws (omega arith) rises.1)) (one_left (p w) out w ws)))
left_by false false p out k low w ws below is rises rest =
    let most = above_or_not w.number k below in
    let above = above_not w.number k most is in
    rw (below, is, not_below_is w.number (k + 1) (omega (arith, above)))
    (rw (all_remain p k (suc w.number) ws (omega (arith, above)) rises.1, all_remain p (k + 1) (suc w.number) ws (omega (arith, above)) rises.1)
    (rw (write_at-none k ws (none_above k (suc w.number) ws (omega (arith, above)) rises.1)) refl))

-- what is left after the next number
pub left_next : {X : Type 0} (p : LogWrite → Bool) (out : LogWrite → X) (k low : ℕ) (ws : List LogWrite) → Rises low ws
    → filter (remains p (k + 1)) ws ≡ (if is_some (out_at p out k ws) then without k (filter (remains p k) ws) else filter (remains p k) ws)
left_next p out k low [] rises = refl
left_next p out k low (w ∷ ws) rises =
    left_by (nat_lt w.number k) (has_number k w) p out k low w ws refl refl rises (left_next p out k (suc w.number) ws rises.1)

not_gone : (a b : Bool) → (b ≡ true → a ≡ true → ⊥) → (a && b) ≡ false
not_gone true true h = absurd (h refl refl)
not_gone true false h = refl
not_gone false b h = refl

gone_is : (a b : Bool) → (b ≡ true → a ≡ true) → (a && b) ≡ b
gone_is true b h = refl
gone_is false true h = h refl
gone_is false false h = refl

-- At the beginning nothing has gone.
pub all_before : (p : LogWrite → Bool) (k : ℕ) (ws : List LogWrite) → Each (λ w. p w ≡ true → k ≤ w.number) ws
    → (filter (goes p k) ws ≡ []) × (filter (remains p k) ws ≡ ws)
all_before p k [] each = (refl, refl)
all_before p k (w ∷ ws) each =
    let none = not_gone (nat_lt w.number k) (p w) (λ released below. absurd (omega (arith, each.0 released, below_or_not w.number k below))) in
    let rest = all_before p k ws each.1 in
    (rw none rest.0, rw none (ap (λ more. w ∷ more) rest.1))

-- At the end all that is released has gone.
pub all_after : (p : LogWrite → Bool) (k : ℕ) (ws : List LogWrite) → Each (λ w. p w ≡ true → w.number < k) ws
    → (filter (goes p k) ws ≡ filter (p) ws) × (filter (remains p k) ws ≡ filter (λ w. not (p w)) ws)
all_after p k [] each = (refl, refl)
all_after p k (w ∷ ws) each =
    let same = gone_is (nat_lt w.number k) (p w) (λ released. below_is w.number k (each.0 released)) in
    let rest = all_after p k ws each.1 in (
      rw same (ap (λ more. if p w then w ∷ more else more) rest.0),
      rw same (ap (λ more. if not (p w) then w ∷ more else more) rest.1),
    )

few_if : (b : Bool) (w : LogWrite) (ws : List LogWrite) (n : ℕ) → length ws ≤ n → length (if b then w ∷ ws else ws) ≤ suc n
few_if true w ws n few = omega (arith, few)
few_if false w ws n few = omega (arith, few)

pub few_filtered : (p : LogWrite → Bool) (ws : List LogWrite) → length (filter p ws) ≤ length ws
few_filtered p [] = omega arith
few_filtered p (w ∷ ws) = few_if (p w) w (filter p ws) (length ws) (few_filtered p ws)

one_more : {X : Type 0} (o : Option X) → IsSome o → length (option_to_list o) ≡ 1
one_more None some = cc
one_more (Some r) some = refl

-- where a write is released, not all have gone yet
pub room_left : {X : Type 0} (p : LogWrite → Bool) (out : LogWrite → X) (k : ℕ) (ws : List LogWrite) → Rises 0 ws → IsSome (out_at p out k ws)
    → length (filter (goes p k) ws) < length ws
room_left p out k ws rises some =
    let next = ap length (gone_next p out k 0 ws rises) in
    let lengths = simp (length-append, length-map) at next in
    omega (arith, lengths, one_more (out_at p out k ws) some, few_filtered (goes p (k + 1)) ws)
