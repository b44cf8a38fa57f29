-- Filters and maps of lists: two that agree on what stands there, and one after another.
use Rattle.std.proofs.Common.{ℕ, suc, ◌≡◌, Bool, true, false, cond, ◌&&◌, ◌||◌, List, [], ◌∷◌, ◌++◌, map, filter, Option, Some, None, slice_get, refl, ◌∙◌, ap}
use Rattle.std.specs.Prelude.{find, option_map}
use Rattle.std.specs.List.{list_any}

-- Two that agree.

pub filter-at : {X : Type 0} (p q : X → Bool) (xs : List X) → ((i : ℕ) (x : X) → slice_get xs i ≡ Some x → p x ≡ q x) → filter p xs ≡ filter q xs
filter-at p q [] same = refl
filter-at p q (x ∷ xs) same = λ i. cond (same 0 x refl i) (x ∷ filter-at p q xs (λ n y at. same (suc n) y at) i)
    (filter-at p q xs (λ n y at. same (suc n) y at) i)

pub map-at : {X Y : Type 0} (f g : X → Y) (xs : List X) → ((i : ℕ) (x : X) → slice_get xs i ≡ Some x → f x ≡ g x) → map f xs ≡ map g xs
map-at f g [] same = refl
map-at f g (x ∷ xs) same = λ i. same 0 x refl i ∷ map-at f g xs (λ n y at. same (suc n) y at) i

pub any-at : {X : Type 0} (p q : X → Bool) (xs : List X) → ((i : ℕ) (x : X) → slice_get xs i ≡ Some x → p x ≡ q x) → list_any p xs ≡ list_any q xs
any-at p q [] same = refl
any-at p q (x ∷ xs) same = λ i. same 0 x refl i || any-at p q xs (λ n y at. same (suc n) y at) i

pub find-at : {X : Type 0} (p q : X → Bool) (xs : List X) → ((i : ℕ) (x : X) → slice_get xs i ≡ Some x → p x ≡ q x) → find p xs ≡ find q xs
find-at p q [] same = refl
find-at p q (x ∷ xs) same = λ i. cond (same 0 x refl i) (Some x) (find-at p q xs (λ n y at. same (suc n) y at) i)

-- One after another.

pub filter-map : {X Y : Type 0} (p : Y → Bool) (f : X → Y) (xs : List X) → filter p (map f xs) ≡ map f (filter (λ x. p (f x)) xs)
filter-map p f [] = refl
filter-map p f (x ∷ xs) = elim (p (f x)) as
    (λ b. cond b (f x ∷ filter p (map f xs)) (filter p (map f xs)) ≡ map f (cond b (x ∷ filter (λ x. p (f x)) xs) (filter (λ x. p (f x)) xs))) [
      | true ↦ ap (λ (l : List _). f x ∷ l) (filter-map p f xs)
      | false ↦ filter-map p f xs
    ]

pub filter-twice : {X : Type 0} (p q : X → Bool) (xs : List X) → filter p (filter q xs) ≡ filter (λ x. q x && p x) xs
filter-twice p q [] = refl
filter-twice p q (x ∷ xs) = go (filter-twice p q xs) (q x) (p x) refl
  where
    go : filter p (filter q xs) ≡ filter (λ x. q x && p x) xs → (b c : Bool) → p x ≡ c
        → filter p (cond b (x ∷ filter q xs) (filter q xs)) ≡ cond (b && c) (x ∷ filter (λ x. q x && p x) xs) (filter (λ x. q x && p x) xs)
    go rest false c is = rest
    go rest true true is = ap (λ b. cond b (x ∷ filter p (filter q xs)) (filter p (filter q xs))) is ∙ ap (λ (l : List _). x ∷ l) rest
    go rest true false is = ap (λ b. cond b (x ∷ filter p (filter q xs)) (filter p (filter q xs))) is ∙ rest

pub map-twice : {X Y Z : Type 0} (f : Y → Z) (g : X → Y) (xs : List X) → map f (map g xs) ≡ map (λ x. f (g x)) xs
map-twice f g [] = refl
map-twice f g (x ∷ xs) = ap (λ (l : List _). f (g x) ∷ l) (map-twice f g xs)

pub any-map : {X Y : Type 0} (p : Y → Bool) (f : X → Y) (xs : List X) → list_any p (map f xs) ≡ list_any (λ x. p (f x)) xs
any-map p f [] = refl
any-map p f (x ∷ xs) = ap (λ b. p (f x) || b) (any-map p f xs)

pub any-filter : {X : Type 0} (p q : X → Bool) (xs : List X) → list_any p (filter q xs) ≡ list_any (λ x. q x && p x) xs
any-filter p q [] = refl
any-filter p q (x ∷ xs) = elim (q x) as (λ b. list_any p (cond b (x ∷ filter q xs) (filter q xs)) ≡ ((b && p x) || list_any (λ x. q x && p x) xs)) [
  | true ↦ ap (λ b. p x || b) (any-filter p q xs)
  | false ↦ any-filter p q xs
]

pub find-map : {X Y : Type 0} (p : Y → Bool) (f : X → Y) (xs : List X) → find p (map f xs) ≡ option_map f (find (λ x. p (f x)) xs)
find-map p f [] = refl
find-map p f (x ∷ xs) = elim (p (f x)) as (λ b. cond b (Some (f x)) (find p (map f xs)) ≡ option_map f (cond b (Some x) (find (λ x. p (f x)) xs))) [
  | true ↦ refl
  | false ↦ find-map p f xs
]

-- what the second list has is found where the first has none
pub find-append : {X : Type 0} (p : X → Bool) (xs ys : List X) → find p (xs ++ ys) ≡ elim (find p xs) as (λ _. Option X) [ None ↦ find p ys | Some x ↦ Some x ]
find-append p [] ys = refl
find-append {X} p (x ∷ xs) ys =
    elim (p x) as (λ b. cond b (Some x) (find p (xs ++ ys)) ≡ elim (cond b (Some x) (find p xs)) as (λ _. Option X) [ None ↦ find p ys | Some y ↦ Some y ]) [
      | true ↦ refl
      | false ↦ find-append p xs ys
    ]

-- what a filter lets through of what none passes
pub filter-none : {X : Type 0} (p : X → Bool) (xs : List X) → ((i : ℕ) (x : X) → slice_get xs i ≡ Some x → p x ≡ false) → filter p xs ≡ []
filter-none p [] none = refl
filter-none p (x ∷ xs) none = ap (λ b. cond b (x ∷ filter p xs) (filter p xs)) (none 0 x refl) ∙ filter-none p xs (λ n y at. none (suc n) y at)

pub filter-all : {X : Type 0} (p : X → Bool) (xs : List X) → ((i : ℕ) (x : X) → slice_get xs i ≡ Some x → p x ≡ true) → filter p xs ≡ xs
filter-all p [] all = refl
filter-all p (x ∷ xs) all = ap (λ b. cond b (x ∷ filter p xs) (filter p xs)) (all 0 x refl)
    ∙ ap (λ (l : List _). x ∷ l) (filter-all p xs (λ n y at. all (suc n) y at))
