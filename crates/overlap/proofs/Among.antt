-- What is among the entries of a map, and among the holdings that they stand for.
use Rattle.std.proofs.Common.{ℕ, zero, suc, ◌≡◌, ◌<◌, ◌≤◌, ◌⊎◌, inl, inr, Bool, true, false, List, [], ◌∷◌, Some, None, refl, sym, ap, arith}
use Rattle.std.specs.Prelude.{All, Contains, filter, find, option_map}
use Rattle.std.specs.Ordering.{nat_cmp}
use Rattle.std.specs.declared.cmp.Ordering.TheVariants.{Less}
use Rattle.std.specs.Map.{keys_of, lookup}
use Rattle.std.specs.BTreeMap.{is_at}
use Rattle.std.specs.List.{AllByRecursion}
use Rattle.std.specs.List.Sorted.{IsStrictlySortedBy}
use Rattle.std.proofs.lemmas.Map.Keys.{sorted_head, sorted_tail}
use Rattle.std.proofs.lemmas.Bool.Decides.{nat_tests}
use Rattle.overlap.specs.Holdings.{Holding, holding}
use Rattle.overlap.specs.Maps.{holdings}
use Rattle.overlap.specs.declared.held.Span.{Span}

-- x is an element of the list
abbrev pub Among : {X : Type 0} → X → List X → Type 0
Among x [] = ⊥
Among x (y ∷ ys) = (x ≡ y) ⊎ Among x ys

-- what a look-up finds
pub found : {X : Type 0} (k : ℕ) (v : X) (es : List (ℕ × X)) → lookup (is_at (nat_cmp k)) es ≡ Some v → Among (k, v) es
found k v [] is = absurd (cc)
found {X} k v (e ∷ es) is = go (found k v es) (is_at (nat_cmp k) e.0) refl
  where
    go : (lookup (is_at (nat_cmp k)) es ≡ Some v → Among (k, v) es) → (b : Bool) → is_at (nat_cmp k) e.0 ≡ b → Among (k, v) (e ∷ es)
    go rest true same =
        let one : Some e.1 ≡ Some v = rw same at is in
        let value : v ≡ e.1 = cc in
        let key : k ≡ e.0 = grind (arith, nat_tests, same) in
        inl (rw (key, value) refl)
    go rest false same = inr (rest (rw same at is))

-- and what is among the entries is found, where the keys rise
pub above_head : {X : Type 0} (x e : ℕ × X) (es : List (ℕ × X)) → AllByRecursion (λ k. nat_cmp x.0 k ≡ Less) (keys_of es) → Among e es → x.0 < e.0
above_head x e [] above among = absurd among
above_head x e (y ∷ es) above (inl same) = rw same (grind (arith, nat_tests, above.0))
above_head x e (y ∷ es) above (inr among) = above_head x e es above.1 among

pub finds : {X : Type 0} (e : ℕ × X) (es : List (ℕ × X)) → IsStrictlySortedBy nat_cmp (keys_of es) → Among e es → lookup (is_at (nat_cmp e.0)) es ≡ Some e.1
finds e [] ordered among = absurd among
finds e (x ∷ es) ordered (inl same) =
    let here : is_at (nat_cmp e.0) x.0 ≡ true = rw same (grind (arith, nat_tests)) in
    rw here (ap (λ p. Some p.1) (sym same))
finds e (x ∷ es) ordered (inr among) =
    let above = above_head x e es (sorted_head nat_cmp x.0 (keys_of es) ordered) among in
    let other : is_at (nat_cmp e.0) x.0 ≡ false = grind (arith, nat_tests) in
    rw other (finds e es (sorted_tail nat_cmp x.0 (keys_of es) ordered) among)

-- through a filter
pub among-filter : {X : Type 0} (p : X → Bool) (x : X) (xs : List X) → Among x xs → p x ≡ true → Among x (filter p xs)
among-filter p x [] among passes = absurd among
among-filter p x (y ∷ ys) (inl same) passes = let y_passes : p y ≡ true = cc in rw y_passes (inl same)
among-filter {X} p x (y ∷ ys) (inr among) passes = go (among-filter p x ys among passes) (p y) refl
  where
    go : Among x (filter p ys) → (b : Bool) → p y ≡ b → Among x (filter p (y ∷ ys))
    go rest true is = rw is (inr rest)
    go rest false is = rw is rest

pub among-filtered : {X : Type 0} (p : X → Bool) (x : X) (xs : List X) → Among x (filter p xs) → Among x xs × (p x ≡ true)
among-filtered p x [] among = absurd among
among-filtered {X} p x (y ∷ ys) among = go (among-filtered p x ys) (p y) refl
  where
    cases : p y ≡ true → Among x (y ∷ filter p ys) → (Among x (filter p ys) → Among x ys × (p x ≡ true)) → Among x (y ∷ ys) × (p x ≡ true)
    cases is (inl same) rest = (inl same, cc)
    cases is (inr among') rest = let r = rest among' in (inr r.0, r.1)

    go : (Among x (filter p ys) → Among x ys × (p x ≡ true)) → (b : Bool) → p y ≡ b → Among x (y ∷ ys) × (p x ≡ true)
    go rest true is = cases is (rw is at among) rest
    go rest false is = let r = rest (rw is at among) in (inr r.0, r.1)

-- the holding that an entry stands for
abbrev pub of_entry : ℕ × Span → Holding
of_entry e = holding e.0 e.1.first e.1.count

pub all-holdings : (P : Holding → Type 0) (es : List (ℕ × Span)) → ((e : ℕ × Span) → Among e es → P (of_entry e)) → All P (holdings es)
all-holdings P [] each k d within = absurd (omega arith)
all-holdings P (e ∷ es) each zero d within = each e (inl refl)
all-holdings P (e ∷ es) each (suc k) d within = all-holdings P es (λ x a. each x (inr a)) k d (omega arith)

pub contains-holdings : (e : ℕ × Span) (es : List (ℕ × Span)) → Among e es → Contains (holdings es) (of_entry e)
contains-holdings e [] among = absurd among
contains-holdings e (x ∷ es) (inl same) = (0, omega arith, ap of_entry (sym same))
contains-holdings e (x ∷ es) (inr among) = let rest = contains-holdings e es among in (suc rest.0, omega (arith, rest.1), rest.2)

-- the first that passes
pub find-none : (p : Holding → Bool) (es : List (ℕ × Span)) → ((e : ℕ × Span) → Among e es → p (of_entry e) ≡ false) → find p (holdings es) ≡ None
find-none p [] each = refl
find-none p (e ∷ es) each = let here = each e (inl refl) in rw here (find-none p es (λ x a. each x (inr a)))

pub none-find : (p : Holding → Bool) (es : List (ℕ × Span)) → option_map (λ h. h.number) (find p (holdings es)) ≡ None → (e : ℕ × Span) → Among e es
    → p (of_entry e) ≡ false
none-find p [] none e among = absurd among
none-find p (x ∷ es) none e among = go (none-find p es) (p (of_entry x)) refl among
  where
    go : (option_map (λ h. h.number) (find p (holdings es)) ≡ None → (y : ℕ × Span) → Among y es → p (of_entry y) ≡ false)
        → (b : Bool) → p (of_entry x) ≡ b → Among e (x ∷ es) → p (of_entry e) ≡ false
    go rest true is a = let some = rw is at none in absurd (cc)
    go rest false is (inl same) = rw same is
    go rest false is (inr a) = rest (rw is at none) e a

pub find-lowest : (p : Holding → Bool) (es : List (ℕ × Span)) → IsStrictlySortedBy nat_cmp (keys_of es) → (e : ℕ × Span) → Among e es → p (of_entry e) ≡ true
    → ((x : ℕ × Span) → Among x es → p (of_entry x) ≡ true → e.0 ≤ x.0) → option_map (λ h. h.number) (find p (holdings es)) ≡ Some e.0
find-lowest p [] ordered e among passes least = absurd among
find-lowest p (x ∷ es) ordered e among passes least = go (find-lowest p es (sorted_tail nat_cmp x.0 (keys_of es) ordered) e) (p (of_entry x)) refl among
  where
    go : (Among e es → p (of_entry e) ≡ true → ((y : ℕ × Span) → Among y es → p (of_entry y) ≡ true → e.0 ≤ y.0)
        → option_map (λ h. h.number) (find p (holdings es)) ≡ Some e.0)
        → (b : Bool) → p (of_entry x) ≡ b → Among e (x ∷ es) → option_map (λ h. h.number) (find p (holdings (x ∷ es))) ≡ Some e.0
    go rest true is (inl same) = rw is (ap (λ q. Some q.0) (sym same))
    go rest true is (inr a) = absurd (omega (arith, above_head x e es (sorted_head nat_cmp x.0 (keys_of es) ordered) a, least x (inl refl) is))
    go rest false is (inl same) = let here : p (of_entry e) ≡ false = rw same is in absurd (cc)
    go rest false is (inr a) = rw is (rest a passes (λ y b t. least y (inr b) t))
