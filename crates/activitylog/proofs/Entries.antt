-- What the cache's calls do to the active extents.
use Rattle.std.proofs.Common.{ℕ, suc, ◌≡◌, ◌+◌, ◌-◌, ◌≤◌, ◌==◌, Bool, true, false, ◌||◌, List, [], ◌∷◌, length, Option, Some, None, refl, sym, ◌∙◌, ap, arith}
use Rattle.std.proofs.Common.{nat_eq}
use Rattle.std.specs.Prelude.{fold, is_some, unwrap_or, if◌then◌else◌}
use Rattle.std.specs.List.{AllByRecursion, IsDistinct}
use Rattle.std.specs.Map.{keys_of, lookup, lookup_entry, remove_entry, set_value}
use Rattle.std.proofs.lemmas.Map.Keys.{IsDistinct-head, IsDistinct-tail}
use Rattle.std.proofs.lemmas.Bool.{eqb-true, eq-eqb}
use Rattle.std.proofs.lemmas.Bool.Decides.{nat_tests}
use Rattle.std.proofs.lemmas.List.{take_all}
use Rattle.lru.specs.LruCache.{LruCache, promoted, put_entries}
use Rattle.activitylog.specs.Activity.{Active, has_idle, is_active, one_less, other_than, without_oldest_idle, writes_of}
use Rattle.activitylog.specs.Entries.{active_of, oldest_idle}

pub length-active : (es : List (ℕ × ℕ)) → length (active_of es) ≡ length es
length-active [] = refl
length-active (e ∷ es) = ap suc (length-active es)

-- Look-ups.
pub active-lookup : (k : ℕ) (es : List (ℕ × ℕ)) → is_some (lookup (nat_eq k) es) ≡ is_active k (active_of es)
active-lookup k [] = refl
active-lookup k (e ∷ es) = go (active-lookup k es) (nat_eq k e.0) refl
  where
    go : is_some (lookup (nat_eq k) es) ≡ is_active k (active_of es) → (b : Bool) → nat_eq k e.0 ≡ b
        → is_some (lookup (nat_eq k) (e ∷ es)) ≡ is_active k (active_of (e ∷ es))
    go rest true is = rw is refl
    go rest false is = rw is rest

pub writes-lookup : (k : ℕ) (es : List (ℕ × ℕ)) → unwrap_or (lookup (nat_eq k) es) 0 ≡ writes_of k (active_of es)
writes-lookup k [] = refl
writes-lookup k (e ∷ es) = go (writes-lookup k es) (nat_eq k e.0) refl
  where
    go : unwrap_or (lookup (nat_eq k) es) 0 ≡ writes_of k (active_of es) → (b : Bool) → nat_eq k e.0 ≡ b
        → unwrap_or (lookup (nat_eq k) (e ∷ es)) 0 ≡ writes_of k (active_of (e ∷ es))
    go rest true is = rw is refl
    go rest false is = rw is rest

entry-some : (k w : ℕ) (es : List (ℕ × ℕ)) → lookup (nat_eq k) es ≡ Some w → lookup_entry (nat_eq k) es ≡ Some (k, w)
entry-some k w [] is = absurd (cc)
entry-some k w (e ∷ es) is = go (entry-some k w es) (nat_eq k e.0) refl
  where
    go : (lookup (nat_eq k) es ≡ Some w → lookup_entry (nat_eq k) es ≡ Some (k, w)) → (b : Bool) → nat_eq k e.0 ≡ b
        → lookup_entry (nat_eq k) (e ∷ es) ≡ Some (k, w)
    go rest true same =
        let key : e.0 ≡ k = sym (eqb-true k e.0 same) in
        let one = rw same at is in
        let value : e.1 ≡ w = cc in
        rw (same, ← key, ← value) refl
    go rest false same = rw same (rest (rw same at is))

entry-none : (k : ℕ) (es : List (ℕ × ℕ)) → lookup (nat_eq k) es ≡ None → lookup_entry (nat_eq k) es ≡ None
entry-none k [] is = refl
entry-none k (e ∷ es) is = go (entry-none k es) (nat_eq k e.0) refl
  where
    go : (lookup (nat_eq k) es ≡ None → lookup_entry (nat_eq k) es ≡ None) → (b : Bool) → nat_eq k e.0 ≡ b → lookup_entry (nat_eq k) (e ∷ es) ≡ None
    go rest true same = absurd (let some = rw same at is in cc)
    go rest false same = rw same (rest (rw same at is))

-- An entry is taken out.
pub active-remove : (k : ℕ) (es : List (ℕ × ℕ)) → active_of (remove_entry (nat_eq k) es) ≡ other_than k (active_of es)
active-remove k [] = refl
active-remove k (e ∷ es) = go (active-remove k es) (nat_eq k e.0) refl
  where
    go : active_of (remove_entry (nat_eq k) es) ≡ other_than k (active_of es) → (b : Bool) → nat_eq k e.0 ≡ b
        → active_of (remove_entry (nat_eq k) (e ∷ es)) ≡ other_than k (active_of (e ∷ es))
    go rest true is = rw is refl
    go rest false is = rw is (ap (λ xs. record { extent = e.0; writes = e.1 } ∷ xs) rest)

pub length-removed : (k : ℕ) (es : List (ℕ × ℕ)) → is_some (lookup (nat_eq k) es) ≡ true → length (remove_entry (nat_eq k) es) + 1 ≡ length es
length-removed k [] is = absurd (cc)
length-removed k (e ∷ es) is = go (length-removed k es) (nat_eq k e.0) refl
  where
    go : (is_some (lookup (nat_eq k) es) ≡ true → length (remove_entry (nat_eq k) es) + 1 ≡ length es) → (b : Bool) → nat_eq k e.0 ≡ b
        → length (remove_entry (nat_eq k) (e ∷ es)) + 1 ≡ length (e ∷ es)
    go rest true same = rw same (omega arith)
    go rest false same = rw same (omega (arith, rest (rw same at is)))

-- One write less.
pub active-set : (k v : ℕ) (es : List (ℕ × ℕ)) → lookup (nat_eq k) es ≡ Some v → active_of (set_value (nat_eq k) es (v - 1)) ≡ one_less k (active_of es)
active-set k v [] is = absurd (cc)
active-set k v (e ∷ es) is = go (active-set k v es) (nat_eq k e.0) refl
  where
    go : (lookup (nat_eq k) es ≡ Some v → active_of (set_value (nat_eq k) es (v - 1)) ≡ one_less k (active_of es)) → (b : Bool) → nat_eq k e.0 ≡ b
        → active_of (set_value (nat_eq k) (e ∷ es) (v - 1)) ≡ one_less k (active_of (e ∷ es))
    go rest true same =
        let one = rw same at is in
        let value : e.1 ≡ v = cc in
        rw (same, value) refl
    go rest false same = rw same (ap (λ xs. record { extent = e.0; writes = e.1 } ∷ xs) (rest (rw same at is)))

-- What goes in, where the cache has room.
pub put-new : (c : LruCache ℕ ℕ) (k v slots : ℕ) → c.cap ≡ slots + 1 → length c.entries ≤ slots → lookup (nat_eq k) c.entries ≡ None
    → put_entries nat_eq c k v ≡ (k, v) ∷ c.entries
put-new c k v slots cap few none = rw (entry-none k c.entries none) (ap (λ es. (k, v) ∷ es) (take_all (c.cap - 1) c.entries (omega arith)))

pub put-known : (c : LruCache ℕ ℕ) (k v w : ℕ) → lookup (nat_eq k) c.entries ≡ Some w → put_entries nat_eq c k v ≡ (k, v) ∷ remove_entry (nat_eq k) c.entries
put-known c k v w some = rw (entry-some k w c.entries some) refl

-- What is written to an entry that was brought to the front.
pub mut-known : (k v w : ℕ) (es : List (ℕ × ℕ)) → lookup (nat_eq k) es ≡ Some w
    → set_value (nat_eq k) (promoted (nat_eq k) es) v ≡ (k, v) ∷ remove_entry (nat_eq k) es
mut-known k v w es some = let same : nat_eq k k ≡ true = eq-eqb k k refl in rw (entry-some k w es some, same) refl

pub mut-unknown : (k : ℕ) (es : List (ℕ × ℕ)) → lookup (nat_eq k) es ≡ None → promoted (nat_eq k) es ≡ es
mut-unknown k es none = rw (entry-none k es none) refl

-- The one that makes room.
abbrev pub later_idle : Option ℕ → ℕ × ℕ → Option ℕ
later_idle idle e = if e.1 == 0 then Some e.0 else idle

none-idle : (xs : List Active) → has_idle xs ≡ false → oldest_idle xs ≡ None
none-idle [] none = refl
none-idle (a ∷ xs) none = go (a.writes == 0) (has_idle xs) refl refl
  where
    go : (b c : Bool) → (a.writes == 0) ≡ b → has_idle xs ≡ c → oldest_idle (a ∷ xs) ≡ None
    go true c here rest = absurd (let some = rw here at none in cc)
    go false true here rest = absurd (let some = rw (here, rest) at none in cc)
    go false false here rest = rw (rest, here) refl

pub fold-idle : (idle : Option ℕ) (es : List (ℕ × ℕ)) → fold later_idle idle es ≡ (if has_idle (active_of es) then oldest_idle (active_of es) else idle)
fold-idle idle [] = refl
fold-idle idle (e ∷ es) = go (fold-idle (later_idle idle e) es) (e.1 == 0) (has_idle (active_of es)) refl refl
  where
    go : fold later_idle (later_idle idle e) es ≡ (if has_idle (active_of es) then oldest_idle (active_of es) else later_idle idle e)
        → (b c : Bool) → (e.1 == 0) ≡ b → has_idle (active_of es) ≡ c
        → fold later_idle idle (e ∷ es) ≡ (if has_idle (active_of (e ∷ es)) then oldest_idle (active_of (e ∷ es)) else idle)
    go rest true true here there = rest ∙ rw (here, there) refl
    go rest true false here there = rest ∙ rw (here, there) refl
    go rest false true here there = rest ∙ rw (here, there) refl
    go rest false false here there = rest ∙ rw (here, there) refl

pub oldest-idle : (es : List (ℕ × ℕ)) → fold later_idle None es ≡ oldest_idle (active_of es)
oldest-idle es = go (has_idle (active_of es)) refl
  where
    go : (b : Bool) → has_idle (active_of es) ≡ b → fold later_idle None es ≡ oldest_idle (active_of es)
    go true is = fold-idle None es ∙ rw is refl
    go false is = fold-idle None es ∙ rw is (sym (none-idle (active_of es) is))

pub is_some-oldest : (xs : List Active) → is_some (oldest_idle xs) ≡ has_idle xs
is_some-oldest [] = refl
is_some-oldest (a ∷ xs) = go (is_some-oldest xs) (a.writes == 0) (has_idle xs) refl refl
  where
    go : is_some (oldest_idle xs) ≡ has_idle xs → (b c : Bool) → (a.writes == 0) ≡ b → has_idle xs ≡ c → is_some (oldest_idle (a ∷ xs)) ≡ has_idle (a ∷ xs)
    go rest true true here there = rw (here, there) (rest ∙ there)
    go rest true false here there = rw (here, there) refl
    go rest false true here there = rw (here, there) (rest ∙ there)
    go rest false false here there = rw (here, there) refl

pub oldest-active : (i : ℕ) (xs : List Active) → oldest_idle xs ≡ Some i → is_active i xs ≡ true
oldest-active i [] is = absurd (cc)
oldest-active i (a ∷ xs) is = go (oldest-active i xs) (a.writes == 0) (has_idle xs) refl refl
  where
    or_right_ : (b : Bool) → (b || true) ≡ true
    or_right_ true = refl
    or_right_ false = refl

    go : (oldest_idle xs ≡ Some i → is_active i xs ≡ true) → (b c : Bool) → (a.writes == 0) ≡ b → has_idle xs ≡ c → is_active i (a ∷ xs) ≡ true
    go rest b true here there = rw (rest (rw there at is)) (or_right_ (i == a.extent))
    go rest true false here there =
        let one = rw (there, here) at is in
        let same : i ≡ a.extent = cc in
        rw (eq-eqb i a.extent same) refl
    go rest false false here there = absurd (let one = rw (there, here) at is in cc)

-- a key that differs from all is not the one
apart_from : (i k : ℕ) (es : List (ℕ × ℕ)) → AllByRecursion (λ y. nat_eq k y ≡ false) (keys_of es) → is_active i (active_of es) ≡ true → nat_eq i k ≡ false
apart_from i k [] apart is = absurd (cc)
apart_from i k (e ∷ es) apart is = go (apart_from i k es apart.1) (nat_eq i e.0) refl
  where
    go : (is_active i (active_of es) ≡ true → nat_eq i k ≡ false) → (b : Bool) → nat_eq i e.0 ≡ b → nat_eq i k ≡ false
    go rest true same =
        let key : i ≡ e.0 = eqb-true i e.0 same in
        rw key (flip k e.0 apart.0)
      where
        flip : (a b : ℕ) → nat_eq a b ≡ false → nat_eq b a ≡ false
        flip a b is = grind (arith, nat_tests)
    go rest false same = rest (rw same at is)

pub active-remove_oldest : (i : ℕ) (es : List (ℕ × ℕ)) → IsDistinct nat_eq (keys_of es) → oldest_idle (active_of es) ≡ Some i
    → active_of (remove_entry (nat_eq i) es) ≡ without_oldest_idle (active_of es)
active-remove_oldest i [] distinct is = absurd (cc)
active-remove_oldest i (e ∷ es) distinct is = go (active-remove_oldest i es (IsDistinct-tail nat_eq e.0 (keys_of es) distinct)) (e.1 == 0)
    (has_idle (active_of es)) refl refl
  where
    go : (oldest_idle (active_of es) ≡ Some i → active_of (remove_entry (nat_eq i) es) ≡ without_oldest_idle (active_of es))
        → (b c : Bool) → (e.1 == 0) ≡ b → has_idle (active_of es) ≡ c → active_of (remove_entry (nat_eq i) (e ∷ es)) ≡ without_oldest_idle (active_of (e ∷ es))
    go rest b true here there =
        let later : oldest_idle (active_of es) ≡ Some i = rw there at is in
        let apart : nat_eq i e.0 ≡ false = apart_from i e.0 es (IsDistinct-head nat_eq e.0 (keys_of es) distinct) (oldest-active i (active_of es) later) in
        rw (apart, there) (ap (λ xs. record { extent = e.0; writes = e.1 } ∷ xs) (rest later))
    go rest true false here there =
        let one = rw (there, here) at is in
        let same : i ≡ e.0 = cc in
        rw (eq-eqb i e.0 same, there, here) refl
    go rest false false here there = absurd (let one = rw (there, here) at is in cc)
