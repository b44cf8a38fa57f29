-- The marks that released writes clear, block by block.
use Rattle.std.proofs.Common.{ℕ, zero, suc, ◌≡◌, ◌≢◌, ◌+◌, ◌<◌, ◌≤◌, ◌⊎◌, inl, inr, nat_lt, nat_le, Bool, true, false, ◌&&◌, ◌||◌, not, List, [], ◌∷◌, ◌++◌}
use Rattle.std.proofs.Common.{length, refl, sym, ◌∙◌, ap, subst, arith, get_or, drop, drop-cons, add-one, length-set}
use Rattle.std.specs.Prelude.{Contains, map, slice_set}
use Rattle.std.specs.List.{AllByRecursion, list_any}
use Rattle.std.proofs.lemmas.List.{length-map, map-append}
use Rattle.std.proofs.lemmas.Bool.{lt-ltb, le-ltb, lt-leb, cases_lt}
use Rattle.std.proofs.Math.Bool.{and-false}
use Rattle.blocks.specs.Ranges.{below}
use Rattle.bitmap.specs.Marks.{count, marked}
use Rattle.bitmap.proofs.Lists.{same-marks, marked-set_same, marked-set_other}
use Rattle.transferlog.specs.declared.report.Released.{Released}
use Rattle.transferlog.specs.Log.{clears}
use Rattle.primary_protocol.specs.Core.{unmarking}
use Rattle.primary_core.specs.Kept.{Cleared, LiesInside}
use Rattle.primary_core.proofs.Reports.{length-below, length-unmarking}

-- Marks by their blocks.

marked-left : (xs ys : List Bool) (b : ℕ) → b < length xs → marked (xs ++ ys) b ≡ marked xs b
marked-left [] ys b less = absurd (omega arith)
marked-left (x ∷ xs) ys zero less = refl
marked-left (x ∷ xs) ys (suc b) less = marked-left xs ys b (omega arith)

marked-end : (xs : List Bool) (v : Bool) (b : ℕ) → b ≡ length xs → marked (xs ++ v ∷ []) b ≡ v
marked-end [] v b is = rw is refl
marked-end (x ∷ xs) v zero is = absurd (omega arith)
marked-end (x ∷ xs) v (suc b) is = marked-end xs v b (omega arith)

marked-map : (f : ℕ → Bool) (n b : ℕ) → b < n → marked (map f (below n)) b ≡ f b
marked-map f zero b less = absurd (omega arith)
marked-map f (suc n) b less = ap (λ (xs : List Bool). marked xs b) (map-append f (below n) (n ∷ [])) ∙ go (marked-map f n b) (cases_lt b n)
  where
    long : length (map f (below n)) ≡ n
    long = length-map (below n) f ∙ length-below n

    go : (b < n → marked (map f (below n)) b ≡ f b) → (b < n) ⊎ (n ≤ b) → marked (map f (below n) ++ f n ∷ []) b ≡ f b
    go rest (inl low) = marked-left (map f (below n)) (f n ∷ []) b (omega (arith, long)) ∙ rest low
    go rest (inr high) = let last : b ≡ n = omega arith in marked-end (map f (below n)) (f n) b (omega (arith, long)) ∙ ap f (sym last)

-- One release clears its blocks one by one.

cases_eq : (a b : ℕ) → (a ≡ b) ⊎ (a ≢ b)
cases_eq a b = elim (cases_lt a b) [
  | inl less ↦ inr (omega arith)
  | inr more ↦ elim (cases_lt b a) [ inl less ↦ inr (omega arith) | inr same ↦ inl (omega arith) ]
]

and-true : (a : Bool) → a ≡ (a && true)
and-true true = refl
and-true false = refl

-- a block outside of the range is not cleared
not-below : (r : Released) (last_writes : List ℕ) (b : ℕ) → b < r.first → clears r b last_writes ≡ false
not-below r last_writes b less = rw (lt-leb r.first b less) (rw (and-false r.clears) refl)

not-above : (r : Released) (last_writes : List ℕ) (b : ℕ) → r.first + r.count ≤ b → clears r b last_writes ≡ false
not-above r last_writes b more = rw (le-ltb b (r.first + r.count) more) (rw (and-false (nat_le r.first b)) (rw (and-false r.clears) refl))

-- the tests of the next block agree with those of this one, but at it
upto-next : (block b : ℕ) → b ≢ block → nat_lt b (block + 1) ≡ nat_lt b block
upto-next block b other = elim (cases_lt b block) [
  | inl less ↦ lt-ltb b (block + 1) (omega arith) ∙ sym (lt-ltb b block less)
  | inr more ↦ le-ltb b (block + 1) (omega (arith, other)) ∙ sym (le-ltb b block more)
]

pub cleared-next : (r : Released) (last_writes : List ℕ) (old new : List Bool) (block : ℕ) → block < length new → clears r block last_writes ≡ true
    → Cleared r last_writes old new block → Cleared r last_writes old (slice_set new block false) (block + 1)
cleared-next r last_writes old new block inside is so = record { same = length-set new block false ∙ so.same; each = λ b. go b (cases_eq b block) }
  where
    go : (b : ℕ) → (b ≡ block) ⊎ (b ≢ block) → marked (slice_set new block false) b ≡ (marked old b && not (nat_lt b (block + 1) && clears r b last_writes))
    go b (inl here) = rw here (rw (marked-set_same new block false inside)
        (rw (lt-ltb block (block + 1) (omega arith), is) (sym (and-false (marked old block)))))
    go b (inr other) = rw (marked-set_other new block false b other) (rw (upto-next block b other) (so.each b))

pub cleared-not : (r : Released) (last_writes : List ℕ) (old new : List Bool) (block : ℕ) → clears r block last_writes ≡ false → Cleared r last_writes old new block
    → Cleared r last_writes old new (block + 1)
cleared-not r last_writes old new block is so = record { same = so.same; each = λ b. go b (cases_eq b block) }
  where
    go : (b : ℕ) → (b ≡ block) ⊎ (b ≢ block) → marked new b ≡ (marked old b && not (nat_lt b (block + 1) && clears r b last_writes))
    go b (inl here) = rw here (so.each block ∙ (rw is (rw (and-false (nat_lt block block), and-false (nat_lt block (block + 1))) refl)))
    go b (inr other) = rw (upto-next block b other) (so.each b)

-- a block that is not marked stays so
pub cleared-unmarked : (r : Released) (last_writes : List ℕ) (old new : List Bool) (block : ℕ) → marked new block ≡ false
    → Cleared r last_writes old new block → Cleared r last_writes old new (block + 1)
cleared-unmarked r last_writes old new block none so = record { same = so.same; each = λ b. go b (cases_eq b block) }
  where
    as_before : (marked old block && not (nat_lt block block && clears r block last_writes)) ≡ marked old block
    as_before = rw (le-ltb block block (omega arith)) (sym (and-true (marked old block)))

    old_none : marked old block ≡ false
    old_none = sym as_before ∙ (sym (so.each block) ∙ none)

    go : (b : ℕ) → (b ≡ block) ⊎ (b ≢ block) → marked new b ≡ (marked old b && not (nat_lt b (block + 1) && clears r b last_writes))
    go b (inl here) = rw here (rw (none, old_none) refl)
    go b (inr other) = rw (upto-next block b other) (so.each b)

-- the same, where it is not marked or the release does not clear it
pub cleared-or_not : (r : Released) (last_writes : List ℕ) (old new : List Bool) (block : ℕ) → (marked new block && clears r block last_writes) ≡ false
    → Cleared r last_writes old new block → Cleared r last_writes old new (block + 1)
cleared-or_not r last_writes old new block is so = go (marked new block) refl
  where
    go : (b : Bool) → marked new block ≡ b → Cleared r last_writes old new (block + 1)
    go true here = cleared-not r last_writes old new block (sym (ap (λ (v : Bool). v && clears r block last_writes) here) ∙ is) so
    go false none = cleared-unmarked r last_writes old new block none so

pub both-right : (a b : Bool) → (a && b) ≡ true → b ≡ true
both-right true b is = is
both-right false b is = cc

-- All blocks of one release.
and-or : (a b c : Bool) → ((a && not b) && not c) ≡ (a && not (b || c))
and-or true true c = refl
and-or true false c = refl
and-or false b c = refl

upto-all : (r : Released) (last_writes : List ℕ) (b : ℕ) → (nat_lt b (r.first + r.count) && clears r b last_writes) ≡ clears r b last_writes
upto-all r last_writes b = elim (cases_lt b (r.first + r.count)) [
  | inl less ↦ rw (lt-ltb b (r.first + r.count) less) refl
  | inr more ↦ rw (not-above r last_writes b more) (and-false (nat_lt b (r.first + r.count)))
]

pub unmark-next : (r : Released) (released : List Released) (last_writes : List ℕ) (old new : List Bool) → Cleared r last_writes old new (r.first + r.count)
    → unmarking released last_writes new ≡ unmarking (r ∷ released) last_writes old
unmark-next r released last_writes old new so =
    same-marks (unmarking released last_writes new) (unmarking (r ∷ released) last_writes old) (length-unmarking released last_writes new
    ∙ (so.same ∙ sym (length-unmarking (r ∷ released) last_writes old))) (λ b less.
    let inside : b < length new = omega (arith, length-unmarking released last_writes new) in
    let there : b < length old = omega (arith, so.same) in
    marked-map _ (length new) b inside
    ∙ (ap (λ (v : Bool). v && not (list_any (λ s. clears s b last_writes) released)) (so.each b ∙ ap (λ (v : Bool). marked old b && not v) (upto-all r last_writes b))
    ∙ (and-or (marked old b) (clears r b last_writes) (list_any (λ s. clears s b last_writes) released)
    ∙ sym (marked-map (λ block. marked old block && not (list_any (λ s. clears s block last_writes) (r ∷ released))) (length old) b there))))

pub unmark-none : (last_writes : List ℕ) (marks : List Bool) → unmarking [] last_writes marks ≡ marks
unmark-none last_writes marks =
    same-marks (unmarking [] last_writes marks) marks (length-unmarking [] last_writes marks) (λ b less.
    let inside : b < length marks = omega (arith, length-unmarking [] last_writes marks) in
    marked-map (λ block. marked marks block && true) (length marks) b inside ∙ sym (and-true (marked marks b)))

none-marked : (marks : List Bool) (b : ℕ) → count marks ≡ 0 → marked marks b ≡ false
none-marked [] b none = refl
none-marked (true ∷ marks) b none = absurd (omega arith)
none-marked (false ∷ marks) zero none = refl
none-marked (false ∷ marks) (suc b) none = none-marked marks b (omega arith)

-- where nothing is marked, nothing changes
pub unmark-unmarked : (released : List Released) (last_writes : List ℕ) (marks : List Bool) → count marks ≡ 0 → marks ≡ unmarking released last_writes marks
unmark-unmarked released last_writes marks none =
    same-marks marks (unmarking released last_writes marks) (sym (length-unmarking released last_writes marks)) (λ b less.
    none-marked marks b none
    ∙ sym (marked-map (λ block. marked marks block && not (list_any (λ r. clears r block last_writes) released)) (length marks) b less
    ∙ rw (none-marked marks b none) refl))

same-item : (rs : List Released) (i : ℕ) (d e : Released) → i < length rs → get_or rs i d ≡ get_or rs i e
same-item [] i d e inside = absurd (omega arith)
same-item (r ∷ rs) zero d e inside = refl
same-item (r ∷ rs) (suc i) d e inside = same-item rs i d e (omega arith)

-- a release of a list is one of them
pub contains-at : (rs : List Released) (i : ℕ) (d : Released) → i < length rs → Contains rs (get_or rs i d)
contains-at rs i d inside = (i, inside, same-item rs i (get_or rs i d) d inside)

-- One release more of a list, as a loop goes over it.
pub unmark-step : (rs : List Released) (i : ℕ) (d : Released) (last_writes : List ℕ) (first old new : List Bool) → i < length rs → length old ≡ length first
    → AllByRecursion (LiesInside (length old)) (drop i rs)
    → unmarking (drop i rs) last_writes old ≡ unmarking rs last_writes first → Cleared (get_or rs i d) last_writes old new ((get_or rs i d).first + (get_or rs i d).count)
    → (length new ≡ length first) ×
    (AllByRecursion (LiesInside (length new)) (drop (i + 1) rs) × (unmarking (drop (i + 1) rs) last_writes new ≡ unmarking rs last_writes first))
unmark-step rs i d last_writes first old new inside size all rest so =
    let split : drop i rs ≡ get_or rs i d ∷ drop (suc i) rs = drop-cons rs i d inside in
    let parts : AllByRecursion (LiesInside (length old)) (get_or rs i d ∷ drop (suc i) rs) = subst (AllByRecursion (LiesInside (length old))) split all in
    rw add-one (
      so.same ∙ size,
      (
        rw so.same parts.1,
        unmark-next (get_or rs i d) (drop (suc i) rs) last_writes old new so
            ∙ (sym (ap (λ (more : List Released). unmarking more last_writes old) split) ∙ rest),
      ),
    )

pub nothing-left : {X : Type 0} (rs : List X) (i : ℕ) → length rs ≤ i → drop i rs ≡ []
nothing-left [] zero past = refl
nothing-left [] (suc i) past = refl
nothing-left (r ∷ rs) zero past = absurd (omega arith)
nothing-left (r ∷ rs) (suc i) past = nothing-left rs i (omega arith)

-- all releases of a list
pub unmark-all : (rs : List Released) (i : ℕ) (last_writes : List ℕ) (first marks : List Bool) → length rs ≤ i
    → unmarking (drop i rs) last_writes marks ≡ unmarking rs last_writes first → marks ≡ unmarking rs last_writes first
unmark-all rs i last_writes first marks past rest = sym (unmark-none last_writes marks)
    ∙ (sym (ap (λ (more : List Released). unmarking more last_writes marks) (nothing-left rs i past)) ∙ rest)
