-- Places of a stream, their epochs as the stream grows, and tests over the items at their places.
use Rattle.std.proofs.Common.{ℕ, zero, suc, ◌≡◌, ◌+◌, ◌-◌, ◌≤◌, ◌<◌, inl, inr, Bool, true, false, cond, List, [], ◌∷◌, ◌++◌, length, take, map, filter, Some}
use Rattle.std.proofs.Common.{slice_get, refl, sym, ◌∙◌, ap, subst, arith, ◌==◌, length-append, drop}
use Rattle.std.specs.List.{list_any}
use Rattle.std.proofs.lemmas.Bool.{or_cases, or_left, or_right, eqb-true, eq-eqb, cases_Bool}
use Rattle.std.proofs.lemmas.List.{take-append-le, length-take-le, take-append-drop}
use Rattle.std.proofs.lemmas.List.Elements.{filter-append}
use Rattle.model.specs.Stream.{StreamItem, is_barrier, barriers_in, epoch_of, last_epoch, placed_from}
use Rattle.std.specs.Prelude.{map, filter}

-- barriers of a joined list
pub barriers-append : (xs ys : List StreamItem) → barriers_in (xs ++ ys) ≡ barriers_in xs + barriers_in ys
barriers-append xs ys = ap length (filter-append is_barrier xs ys) ∙ length-append (filter is_barrier xs) (filter is_barrier ys)

-- a place keeps its epoch as the stream grows
pub epoch-grows : (items more : List StreamItem) (place : ℕ) → place ≤ length items → epoch_of (items ++ more) place ≡ epoch_of items place
epoch-grows items more place within = ap (λ xs. suc (barriers_in xs)) (take-append-le place items more within)

-- a place of a front keeps its epoch
pub epoch-front : (items : List StreamItem) (n place : ℕ) → place < n → n ≤ length items → epoch_of (take n items) place ≡ epoch_of items place
epoch-front items n place less within =
    let size : length (take n items) ≡ n = length-take-le n items within in
    sym (epoch-grows (take n items) (drop n items) place (omega arith)) ∙ ap (λ (l : List StreamItem). epoch_of l place) (take-append-drop n items)

take-past : {X : Type 0} (xs ys : List X) (n : ℕ) → length xs ≤ n → take n (xs ++ ys) ≡ xs ++ take (n - length xs) ys
take-past [] ys n past = ap (λ m. take m ys) (omega arith)
take-past (x ∷ xs) ys zero past = absurd (omega arith)
take-past (x ∷ xs) ys (suc n) past = ap (λ (l : List _). x ∷ l) (take-past xs ys n (omega arith) ∙ ap (λ m. xs ++ take m ys) (omega arith))

-- a place behind the end of a stream is in no earlier epoch than its last one
pub epoch-behind : (items more : List StreamItem) (place : ℕ) → length items ≤ place → last_epoch items ≤ epoch_of (items ++ more) place
epoch-behind items more place behind =
    let whole : barriers_in (take place (items ++ more)) ≡ barriers_in items + barriers_in (take (place - length items) more) =
    ap barriers_in (take-past items more place behind) ∙ barriers-append items (take (place - length items) more) in
    omega arith

-- a stream's last epoch does not fall
pub last-grows : (items more : List StreamItem) → last_epoch items ≤ last_epoch (items ++ more)
last-grows items more = let whole = barriers-append items more in omega arith

-- an item of a stream that grew is an old one at its place, or a new one behind the end
pub get-grows : (items more : List StreamItem) (place : ℕ) → place < length items → slice_get (items ++ more) place ≡ slice_get items place
get-grows [] more place within = absurd (omega arith)
get-grows (item ∷ items) more zero within = refl
get-grows (item ∷ items) more (suc place) within = get-grows items more place (omega arith)

-- an item that stands at a place and passes a test
pub record At (p : ℕ × StreamItem → Bool) (start : ℕ) (items : List StreamItem) (place : ℕ) : Type 0 where
  pub offset : ℕ
  pub item : StreamItem
  pub is : place ≡ start + offset
  pub there : slice_get items offset ≡ Some item
  pub passes : p (place, item) ≡ true

-- where one of the passing items is said to stand at a place, it does
pub some-at : (p : ℕ × StreamItem → Bool) (start : ℕ) (items : List StreamItem) (place : ℕ)
    → list_any (λ (entry : ℕ × StreamItem). entry.0 == place) (filter p (placed_from start items)) ≡ true → At p start items place
some-at p start [] place some = absurd (cc)
some-at p start (x ∷ items) place some =
    let later : list_any (λ (entry : ℕ × StreamItem). entry.0 == place) (filter p (placed_from (suc start) items)) ≡ true → At p start (x ∷ items) place =
    λ h. let found = some-at p (suc start) items place h in
    record { offset = suc found.offset; item = found.item; is = omega (arith, found.is); there = found.there; passes = found.passes } in
    elim (cases_Bool (p (start, x))) [
      | inl passed ↦
          let here : list_any (λ (entry : ℕ × StreamItem). entry.0 == place) ((start, x) ∷ filter p (placed_from (suc start) items)) ≡ true =
          subst (λ b. list_any (λ (entry : ℕ × StreamItem). entry.0 == place)
          (cond b ((start, x) ∷ filter p (placed_from (suc start) items)) (filter p (placed_from (suc start) items))) ≡ true) passed some in
          elim (or_cases (start == place) (list_any (λ (entry : ℕ × StreamItem). entry.0 == place) (filter p (placed_from (suc start) items))) here) [
            | inl same ↦
                let is : start ≡ place = eqb-true start place same in
                record { offset = 0; item = x; is = omega arith; there = refl; passes = subst (λ n. p (n, x) ≡ true) is passed }
            | inr h ↦ later h
          ]
      | inr failed ↦ later (subst (λ b. list_any (λ (entry : ℕ × StreamItem). entry.0 == place)
          (cond b ((start, x) ∷ filter p (placed_from (suc start) items)) (filter p (placed_from (suc start) items))) ≡ true) failed some)
    ]

-- the place of an item that passes two tests is among those of the items that do
pub listed-at : (p test : ℕ × StreamItem → Bool) (start : ℕ) (items : List StreamItem) (n : ℕ) (item : StreamItem) → slice_get items n ≡ Some item
    → p (start + n, item) ≡ true → test (start + n, item) ≡ true
    → list_any (λ (place : ℕ). place == start + n) (map (λ (entry : ℕ × StreamItem). entry.0) (filter test (filter p (placed_from start items)))) ≡ true
listed-at p test start [] n item at passes tested = absurd (cc)
listed-at p test start (x ∷ items) zero item at passes tested =
    let same : x ≡ item = cc in
    let here : start + 0 ≡ start = omega arith in
    let first : p (start, x) ≡ true = rw same (rw here at passes) in
    let second : test (start, x) ≡ true = rw same (rw here at tested) in
    let rest = filter p (placed_from (suc start) items) in
    let found : list_any (λ (place : ℕ). place == start + 0) (map (λ (entry : ℕ × StreamItem). entry.0) (filter test ((start, x) ∷ rest))) ≡ true =
    subst (λ b. list_any (λ (place : ℕ). place == start + 0)
    (map (λ (entry : ℕ × StreamItem). entry.0) (cond b ((start, x) ∷ filter test rest) (filter test rest))) ≡
    true) (sym second)
    (or_left (start == start + 0) (list_any (λ (place : ℕ). place == start + 0) (map (λ (entry : ℕ × StreamItem). entry.0) (filter test rest)))
    (eq-eqb start (start + 0) (sym here))) in
    subst (λ b. list_any (λ (place : ℕ). place == start + 0) (map (λ (entry : ℕ × StreamItem). entry.0) (filter test (cond b ((start, x) ∷ rest) rest))) ≡ true)
    (sym first) found
listed-at p test start (x ∷ items) (suc n) item at passes tested =
    let here : start + suc n ≡ suc start + n = omega arith in
    let rest = filter p (placed_from (suc start) items) in
    let more = listed-at p test (suc start) items n item at (rw here at passes) (rw here at tested) in
    let found : list_any (λ (place : ℕ). place == start + suc n) (map (λ (entry : ℕ × StreamItem). entry.0) (filter test rest)) ≡ true = rw here more in
    let kept : list_any (λ (place : ℕ). place == start + suc n) (map (λ (entry : ℕ × StreamItem). entry.0) (filter test ((start, x) ∷ rest))) ≡ true =
    elim (test (start, x)) as (λ b. list_any (λ (place : ℕ). place == start + suc n)
    (map (λ (entry : ℕ × StreamItem). entry.0) (cond b ((start, x) ∷ filter test rest) (filter test rest))) ≡ true) [
      | true ↦ or_right (start == start + suc n)
          (list_any (λ (place : ℕ). place == start + suc n) (map (λ (entry : ℕ × StreamItem). entry.0) (filter test rest)))
          found
      | false ↦ found
    ] in
    elim (p (start, x)) as (λ b. list_any (λ (place : ℕ). place == start + suc n)
    (map (λ (entry : ℕ × StreamItem). entry.0) (filter test (cond b ((start, x) ∷ rest) rest))) ≡ true) [ true ↦ kept | false ↦ found ]

-- an item stands at its place among the placed ones
pub placed-at : (start : ℕ) (items : List StreamItem) (n : ℕ) (item : StreamItem) → slice_get items n ≡ Some item
    → slice_get (placed_from start items) n ≡ Some (start + n, item)
placed-at start [] n item at = absurd (cc)
placed-at start (x ∷ items) zero item at = let same : x ≡ item = cc in ap (λ (i : StreamItem). Some (start, i)) same
    ∙ ap (λ (m : ℕ). Some (m, item)) (omega arith)
placed-at start (x ∷ items) (suc n) item at = placed-at (suc start) items n item at ∙ ap (λ (m : ℕ). Some (m, item)) (omega arith)

-- an element of placed items
pub placed-back : (start : ℕ) (items : List StreamItem) (n : ℕ) (entry : ℕ × StreamItem) → slice_get (placed_from start items) n ≡ Some entry
    → (entry.0 ≡ start + n) × (slice_get items n ≡ Some entry.1)
placed-back start [] n entry at = absurd (cc)
placed-back start (x ∷ items) zero entry at = let same : (start, x) ≡ entry = cc in (
  ap (λ (e : ℕ × StreamItem). e.0) (sym same)
      ∙ omega arith,
  ap (λ (e : ℕ × StreamItem). Some e.1) same,
)
placed-back start (x ∷ items) (suc n) entry at = let rest = placed-back (suc start) items n entry at in (rest.0 ∙ omega arith, rest.1)
