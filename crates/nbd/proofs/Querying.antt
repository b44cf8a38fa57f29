-- Queries of metadata contexts, read one after another.
use Rattle.std.proofs.Common.{◌≡◌, ℕ, zero, suc, ◌+◌, ◌-◌, ◌<◌, ◌≤◌, Bool, true, false, cond, List, [], length, drop, Option, Some, None, refl, sym, ap, ◌∙◌, arith, ◌⊎◌, inl, inr}
use Rattle.std.specs.Prelude.{nat_le, slice_range, ◌&&◌, ◌||◌, ◌==◌}
use Rattle.std.specs.List.{list_any}
use Rattle.std.proofs.Common.{eq-eqb}
use Rattle.std.proofs.lemmas.Bool.{ne_eqb}
use Rattle.std.proofs.lemmas.Bool.Decides.{nat_tests}
use Rattle.packets.specs.Numbers.{number_in}
use Rattle.nbd.specs.Contexts.{named_in, named_of}
use Rattle.nbd.specs.Exports.{Exported}
use Rattle.nbd.specs.Options.{Replied, for_name, is_named, meta, meta_asked, meta_named, meta_refused, names, names_allocation, queried, rep_err_invalid, rep_err_unknown, strings_in, with_string}

-- ---- one after another

le_is : (a b : ℕ) → a ≤ b → nat_le a b ≡ true
le_is a b h = grind (arith, nat_tests)

le_is_not : (a b : ℕ) → b < a → nat_le a b ≡ false
le_is_not a b h = grind (arith, nat_tests)

pub named_step : (option n : ℕ) (bytes : List ℕ) (named : Bool) → 4 ≤ length bytes → 4 + number_in 4 0 bytes ≤ length bytes
    → named_in option (suc n) bytes named
    ≡ named_in option n (drop (4 + number_in 4 0 bytes) bytes) (named || names option (slice_range bytes 4 (4 + number_in 4 0 bytes)))
unfolding named_in
named_step option n bytes named four all = rw (le_is 4 (length bytes) four, le_is (4 + number_in 4 0 bytes) (length bytes) all) refl

stops_by : (a b : Bool) (x : Option Bool) → (a ≡ false) ⊎ (b ≡ false) → cond (a && b) x None ≡ None
stops_by true true x (inl short) = absurd cc
stops_by true true x (inr short) = absurd cc
stops_by true false x either = refl
stops_by false b x either = refl

either_short : (bytes : List ℕ) → (length bytes < 4) ⊎ (length bytes < 4 + number_in 4 0 bytes)
    → (nat_le 4 (length bytes) ≡ false) ⊎ (nat_le (4 + number_in 4 0 bytes) (length bytes) ≡ false)
either_short bytes (inl short) = inl (le_is_not 4 (length bytes) short)
either_short bytes (inr short) = inr (le_is_not (4 + number_in 4 0 bytes) (length bytes) short)

pub named_stops : (option n : ℕ) (bytes : List ℕ) (named : Bool) → (length bytes < 4) ⊎ (length bytes < 4 + number_in 4 0 bytes)
    → named_in option (suc n) bytes named ≡ None
unfolding named_in
named_stops option n bytes named short = stops_by (nat_le 4 (length bytes)) (nat_le (4 + number_in 4 0 bytes) (length bytes)) _ (either_short bytes short)

pub named_end : (option : ℕ) (bytes : List ℕ) (named : Bool) → named_in option 0 bytes named ≡ cond (length bytes == 0) (Some named) None
unfolding named_in
named_end option bytes named = refl

-- ---- what that is

abbrev with_named : ℕ → Bool → Option (List (List ℕ)) → Option Bool
with_named option named None = None
with_named option named (Some queries) = Some (named || list_any (names option) queries)

or_false : (b : Bool) → b || false ≡ b
or_false true = refl
or_false false = refl

or_assoc : (a b c : Bool) → (a || b) || c ≡ a || (b || c)
or_assoc true b c = refl
or_assoc false b c = refl

at_end : (option : ℕ) (named b : Bool) → cond b (Some named) None ≡ with_named option named (cond b (Some []) None)
at_end option named true = ap (λ (x : Bool). Some x) (sym (or_false named))
at_end option named false = refl

one_further : (option : ℕ) (named : Bool) (query : List ℕ) (s : Option (List (List ℕ)))
    → with_named option (named || names option query) s ≡ with_named option named (with_string query s)
one_further option named query None = refl
one_further option named query (Some queries) = ap (λ (x : Bool). Some x) (or_assoc named (names option query) (list_any (names option) queries))

further : (option : ℕ) (named b : Bool) (query : List ℕ) (x : Option Bool) (s : Option (List (List ℕ))) → x ≡ with_named option (named || names option query) s
    → cond b x None ≡ with_named option named (cond b (with_string query s) None)
further option named true query x s is = is ∙ one_further option named query s
further option named false query x s is = refl

pub named_is : (option n : ℕ) (bytes : List ℕ) (named : Bool) → named_in option n bytes named ≡ with_named option named (strings_in n bytes)
unfolding named_in strings_in
named_is option zero bytes named = at_end option named (length bytes == 0)
named_is option (suc n) bytes named =
    let long = number_in 4 0 bytes in
    further option named (nat_le 4 (length bytes) && nat_le (4 + long) (length bytes)) (slice_range bytes 4 (4 + long)) _ (strings_in n (drop (4 + long) bytes))
    (named_is option n (drop (4 + long) bytes) (named || names option (slice_range bytes 4 (4 + long))))

-- there are as many strings as were asked for
abbrev IsOf : ℕ → Option (List (List ℕ)) → Type 0
IsOf n None = Unit {0}
IsOf n (Some strings) = length strings ≡ n

one_longer : (n : ℕ) (first : List ℕ) (s : Option (List (List ℕ))) → IsOf n s → IsOf (suc n) (with_string first s)
one_longer n first None is = tt
one_longer n first (Some strings) is = omega (arith, is)

either_of : (n : ℕ) (b : Bool) (s : Option (List (List ℕ))) → IsOf n s → IsOf n (cond b s None)
either_of n true s is = is
either_of n false s is = tt

strings_are : (n : ℕ) (bytes : List ℕ) → IsOf n (strings_in n bytes)
unfolding strings_in
strings_are zero bytes = either_of 0 (length bytes == 0) (Some []) refl
strings_are (suc n) bytes =
    let long = number_in 4 0 bytes in
    either_of (suc n) (nat_le 4 (length bytes) && nat_le (4 + long) (length bytes)) (with_string (slice_range bytes 4 (4 + long)) (strings_in n (drop (4 + long) bytes)))
    (one_longer n (slice_range bytes 4 (4 + long)) (strings_in n (drop (4 + long) bytes)) (strings_are n (drop (4 + long) bytes)))

-- ---- the data of an option

abbrev pub with_name : List ℕ → Option Bool → Option (List ℕ × Bool)
with_name name None = None
with_name name (Some named) = Some (name, named)

named_for : (option count : ℕ) (name : List ℕ) (s : Option (List (List ℕ))) → IsOf count s
    → named_of option (for_name name s) ≡ with_name name (with_named option ((option == 9) && (count == 0)) s)
named_for option count name None is = refl
named_for option count name (Some queries) is =
    ap (λ (x : ℕ). Some (name, ((option == 9) && (x == 0)) || list_any (names option) queries)) is

asked_by : (option count : ℕ) (name rest : List ℕ) (b : Bool)
    → named_of option (cond b (for_name name (strings_in count rest)) None)
    ≡ cond b (with_name name (named_in option count rest ((option == 9) && (count == 0)))) None
asked_by option count name rest true =
    named_for option count name (strings_in count rest) (strings_are count rest)
    ∙ ap (with_name name) (sym (named_is option count rest ((option == 9) && (count == 0))))
asked_by option count name rest false = refl

-- what the data of an option ask, as they are read
pub asked_is : (option : ℕ) (bytes : List ℕ) → (let long = number_in 4 0 bytes in let count = number_in 4 (4 + long) bytes in
    named_of option (queried bytes)
    ≡ cond (nat_le 8 (length bytes) && nat_le (long + 8) (length bytes))
    (with_name (slice_range bytes 4 (4 + long)) (named_in option count (drop (8 + long) bytes) ((option == 9) && (count == 0)))) None)
unfolding queried
asked_is option bytes =
    let long = number_in 4 0 bytes in
    asked_by option (number_in 4 (4 + long) bytes) (slice_range bytes 4 (4 + long)) (drop (8 + long) bytes) (nat_le 8 (length bytes) && nat_le (long + 8) (length bytes))

-- both tests let it through
both_pass : {A : Type 0} (a b : Bool) (x y : A) → a ≡ true → b ≡ true → cond (a && b) x y ≡ x
both_pass true true x y ha hb = refl
both_pass true false x y ha hb = absurd cc
both_pass false b x y ha hb = absurd cc

-- the same, by what was read
pub asked_as : (option long count : ℕ) (bytes name rest : List ℕ) (start : Bool) → long ≡ number_in 4 0 bytes → count ≡ number_in 4 (4 + long) bytes
    → 8 ≤ length bytes → long + 8 ≤ length bytes → name ≡ slice_range bytes 4 (4 + long) → rest ≡ drop (8 + long) bytes → start ≡ ((option == 9) && (count == 0))
    → named_of option (queried bytes) ≡ with_name name (named_in option count rest start)
asked_as option long count bytes name rest start is_long is_count eight all is_name is_rest is_start =
    let first = number_in 4 0 bytes in
    let found : ℕ → Option (List ℕ × Bool) = λ (l : ℕ). with_name (slice_range bytes 4 (4 + l))
    (named_in option (number_in 4 (4 + l) bytes) (drop (8 + l) bytes) ((option == 9) && (number_in 4 (4 + l) bytes == 0))) in
    asked_is option bytes
    ∙ both_pass (nat_le 8 (length bytes)) (nat_le (first + 8) (length bytes)) (found first) None (le_is 8 (length bytes) eight)
    (le_is (first + 8) (length bytes) (omega (arith, is_long, all)))
    ∙ ap found (sym is_long)
    ∙ ap (λ (n : ℕ). with_name (slice_range bytes 4 (4 + long)) (named_in option n (drop (8 + long) bytes) ((option == 9) && (n == 0)))) (sym is_count)
    ∙ ap (λ (xs : List ℕ). with_name xs (named_in option count (drop (8 + long) bytes) ((option == 9) && (count == 0)))) (sym is_name)
    ∙ ap (λ (xs : List ℕ). with_name name (named_in option count xs ((option == 9) && (count == 0)))) (sym is_rest)
    ∙ ap (λ (b : Bool). with_name name (named_in option count rest b)) (sym is_start)

-- whether a LIST without queries asks for all
pub start_listed : (option count : ℕ) (start : Bool) → option ≡ 9 → start ≡ (count == 0) → start ≡ ((option == 9) && (count == 0))
start_listed option count start is same = same ∙ sym (ap (λ (b : Bool). b && (count == 0)) (eq-eqb option 9 is))

pub start_set : (option count : ℕ) (start : Bool) → (option ≡ 9 → ⊥) → start ≡ (option == 9) → start ≡ ((option == 9) && (count == 0))
start_set option count start other same =
    same ∙ ne_eqb option 9 other ∙ sym (ap (λ (b : Bool). b && (count == 0)) (ne_eqb option 9 other))

-- ---- the reply

pub nothing_asked : (option : ℕ) (q : Option (List ℕ × List (List ℕ))) → named_of option q ≡ None → q ≡ None
nothing_asked option None is = refl
nothing_asked option (Some asked) is = absurd cc

some_same : {A : Type 0} (x y : A) → Some x ≡ Some y → x ≡ y
some_same x y is = cc

pub reply_asked : (e : Exported) (option : ℕ) (q : Option (List ℕ × List (List ℕ))) (name : List ℕ) (named : Bool) → named_of option q ≡ Some (name, named)
    → meta_asked e option q ≡ cond (is_named e name) (meta_named e option named) (meta_refused e option rep_err_unknown)
reply_asked e option None name named is = absurd cc
reply_asked e option (Some asked) name named is =
    let same : (asked.0, names_allocation option asked.1) ≡ (name, named) = some_same _ _ is in
    ap (λ (p : List ℕ × Bool). cond (is_named e p.0) (meta_named e option p.1) (meta_refused e option rep_err_unknown)) same

-- one of two replies
pub first_reply : (b : Bool) (x y : Replied) → b ≡ true → cond b x y ≡ x
first_reply true x y is = refl
first_reply false x y is = absurd cc

pub second_reply : (b : Bool) (x y : Replied) → b ≡ false → cond b x y ≡ y
second_reply true x y is = absurd cc
second_reply false x y is = refl

-- where replies are structured
pub meta_unasked : (e : Exported) (option : ℕ) (bytes : List ℕ) → e.terms.structured ≡ true → named_of option (queried bytes) ≡ None
    → meta e option bytes ≡ meta_refused e option rep_err_invalid
meta_unasked e option bytes on none =
    first_reply e.terms.structured (meta_asked e option (queried bytes)) (meta_refused e option rep_err_invalid) on
    ∙ ap (meta_asked e option) (nothing_asked option (queried bytes) none)

pub meta_is : (e : Exported) (option : ℕ) (bytes name : List ℕ) (named : Bool) → e.terms.structured ≡ true
    → named_of option (queried bytes) ≡ Some (name, named)
    → meta e option bytes ≡ cond (is_named e name) (meta_named e option named) (meta_refused e option rep_err_unknown)
meta_is e option bytes name named on is =
    first_reply e.terms.structured (meta_asked e option (queried bytes)) (meta_refused e option rep_err_invalid) on
    ∙ reply_asked e option (queried bytes) name named is

-- one of two tests holds
pub or_first : (a b x : Bool) → a ≡ true → x ≡ true → x ≡ (a || b)
or_first true b x is same = same
or_first false b x is same = absurd cc

pub or_second : (a b x : Bool) → a ≡ false → x ≡ b → x ≡ (a || b)
or_second true b x is same = absurd cc
or_second false b x is same = same

-- ---- a turn of the loop

pub named_further : (option left : ℕ) (bytes query later : List ℕ) (named more : Bool) → 0 < left → 4 + number_in 4 0 bytes ≤ length bytes
    → query ≡ slice_range bytes 4 (4 + number_in 4 0 bytes) → later ≡ drop (4 + number_in 4 0 bytes) bytes → more ≡ (named || names option query)
    → named_in option left bytes named ≡ named_in option (left - 1) later more
named_further option zero bytes query later named more some all front back is = absurd (omega (arith, some))
named_further option (suc n) bytes query later named more some all front back is =
    let less : n ≡ suc n - 1 = omega arith in
    named_step option n bytes named (omega (arith, all)) all
    ∙ ap (λ (q : List ℕ). named_in option n (drop (4 + number_in 4 0 bytes) bytes) (named || names option q)) (sym front)
    ∙ ap (λ (b : Bool). named_in option n (drop (4 + number_in 4 0 bytes) bytes) b) (sym is) ∙ ap (λ (r : List ℕ). named_in option n r more) (sym back)
    ∙ ap (λ (m : ℕ). named_in option m later more) less

pub named_over : (option left : ℕ) (bytes : List ℕ) (named : Bool) → 0 < left → (length bytes < 4) ⊎ (length bytes < 4 + number_in 4 0 bytes)
    → named_in option left bytes named ≡ None
named_over option zero bytes named some short = absurd (omega (arith, some))
named_over option (suc n) bytes named some short = named_stops option n bytes named short
