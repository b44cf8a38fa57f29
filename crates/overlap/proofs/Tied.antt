-- Two maps that are tied stay so, and tell the lowest conflict.
use Rattle.std.proofs.Common.{ℕ, ◌≡◌, ◌<◌, ◌≤◌, ◌+◌, ◌==◌, ◌⊎◌, inl, inr, ⊎_elim, List, [], ◌∷◌, Bool, true, false, cond, Option, Some, None, refl, sym, ◌∙◌}
use Rattle.std.proofs.Common.{ap, arith}
use Rattle.std.specs.Prelude.{All, filter, option_map, ◌↔◌}
use Rattle.std.specs.Ordering.{nat_cmp}
use Rattle.std.specs.BTreeMap.{BTreeMap, IsOrdered, get, is_at}
use Rattle.std.specs.BTreeMap.Range.{entries_between, range_contains}
use Rattle.std.specs.declared.ops.Bound.TheVariants.{Included, Unbounded}
use Rattle.std.specs.Map.{keys_of}
use Rattle.std.specs.List.{AllByRecursion}
use Rattle.std.specs.List.Sorted.{IsStrictlySortedBy}
use Rattle.std.proofs.lemmas.Map.Keys.{sorted_head, sorted_tail}
use Rattle.std.proofs.lemmas.Bool.{cases_lt}
use Rattle.blocks.specs.Ranges.{ranges_meet}
use Rattle.std.proofs.lemmas.Bool.Decides.{nat_tests}
use Rattle.std.proofs.lemmas.List.Elements.{All-contains}
use Rattle.overlap.specs.Holdings.{conflict, meets, IsLowestConflict}
use Rattle.overlap.specs.Maps.{holdings, reaches, lowest_of, AreApart, AreTied, EndsBefore}
use Rattle.overlap.specs.declared.held.Span.{Span}
use Rattle.overlap.specs.declared.held.Holder.{Holder}
use Rattle.overlap.proofs.Lists.{same_test}
use Rattle.overlap.proofs.Among.{Among, above_head, found, finds, among-filter, among-filtered, of_entry, all-holdings, contains-holdings, find-none, none-find}
use Rattle.overlap.proofs.Among.{find-lowest}
use Rattle.overlap.proofs.Lowest.{HasNumber, fold-none, fold-some, fold-least}

-- An update at a key k: at k it says w, and elsewhere what was there, v.
abbrev pub Updated : {X : Type 0} → ℕ → ℕ → Option X → Option X → Option X → Type 0
Updated k q w v o = ((k ≡ q) × (o ≡ w)) ⊎ ((k ≡ q → ⊥) × (o ≡ v))

pub updated : {X : Type 0} (k q : ℕ) (w v o : Option X) → o ≡ cond (is_at (nat_cmp k) q) w v → Updated k q w v o
updated {X} k q w v o is = go (q == k) refl
  where
    go : (b : Bool) → (q == k) ≡ b → Updated k q w v o
    go true at = inl (grind (arith, nat_tests), is ∙ rw (same_test k q, at) refl)
    go false at = inr ((λ e. grind (arith, nat_tests)), is ∙ rw (same_test k q, at) refl)

updated_here : {X : Type 0} (k : ℕ) (w v o : Option X) → Updated k k w v o → o ≡ w
updated_here k w v o (inl here) = here.1
updated_here k w v o (inr there) = absurd (there.0 refl)

-- what was there stays, where nothing was at k
kept : {X : Type 0} (g : ℕ → Option X) (k q : ℕ) (w o : Option X) (x : X) → Updated k q w (g q) o → g k ≡ None → g q ≡ Some x → o ≡ Some x
kept g k q w o x (inl here) none was = absurd (let nothing : g q ≡ None = rw here.0 at none in cc)
kept g k q w o x (inr there) none was = there.1 ∙ was

-- A key that was not there, put in and taken out again.
pub updated_back : {X : Type 0} (k q : ℕ) (w v o p : Option X) (g : ℕ → Option X) → g k ≡ None → g q ≡ v → o ≡ cond (is_at (nat_cmp k) q) w v
    → p ≡ cond (is_at (nat_cmp k) q) None o → p ≡ v
updated_back {X} k q w v o p g none is in_ out = go (q == k) refl
  where
    go : (b : Bool) → (q == k) ≡ b → p ≡ v
    go true at = let key : q ≡ k = grind (arith, nat_tests) in out ∙ rw (same_test k q, at) (sym none ∙ rw (← key) is)
    go false at = out ∙ rw (same_test k q, at) (in_ ∙ rw (same_test k q, at) refl)

-- a map that answers as before
pub tied-same : (n n' : BTreeMap ℕ Span) (f f' : BTreeMap ℕ Holder) → AreTied n f → n'.entries ≡ n.entries → ((q : ℕ) → get nat_cmp f' q ≡ get nat_cmp f q)
    → AreTied n' f'
tied-same n n' f f' tied same answers = record {
  forth = λ k s is. let was : get nat_cmp n k ≡ Some s = rw same at is in answers s.first ∙ tied.forth k s was;
  back = λ k h is. rw same (tied.back k h (sym (answers k) ∙ is));
  some = λ k s is. tied.some k s (rw same at is);
  apart = λ a b g h is_a is_b. tied.apart a b g h (sym (answers a) ∙ is_a) (sym (answers b) ∙ is_b);
  ordered = rw same tied.ordered;
}

-- whether an entry begins in the range or before it
abbrev is_inside : ℕ → ℕ × Holder → Bool
is_inside last e = range_contains nat_cmp Unbounded (Included last) e.0

-- the number that is found, of the ranges that begin up to `last`
abbrev pub lowest : ℕ → ℕ → BTreeMap ℕ Holder → Option ℕ
lowest first last f = lowest_of first (entries_between nat_cmp Unbounded (Included last) f.entries)

-- a list of entries of which any two are apart
pub apart-list : (es : List (ℕ × Holder)) → IsStrictlySortedBy nat_cmp (keys_of es)
    → ((x y : ℕ × Holder) → Among x es → Among y es → x.0 < y.0 → x.0 + x.1.count ≤ y.0) → AreApart es
apart-list [] ordered each = tt
apart-list (e ∷ es) ordered each = (
  after es (λ y among. let above = above_head e y es (sorted_head nat_cmp e.0 (keys_of es) ordered) among in (above, each e y (inl refl) (inr among) above)),
  apart-list es (sorted_tail nat_cmp e.0 (keys_of es) ordered) (λ x y a b. each x y (inr a) (inr b)),
)
  where
    after : (xs : List (ℕ × Holder)) → ((y : ℕ × Holder) → Among y xs → EndsBefore e y) → AllByRecursion (EndsBefore e) xs
    after [] all = tt
    after (x ∷ xs) all = (all x (inl refl), after xs (λ y among. all y (inr among)))

-- those of the holdings that a test passes are apart
all-filter : (e : ℕ × Holder) (p : ℕ × Holder → Bool) (es : List (ℕ × Holder)) → AllByRecursion (EndsBefore e) es → AllByRecursion (EndsBefore e) (filter p es)
all-filter e p [] all = tt
all-filter e p (x ∷ es) all = go (all-filter e p es all.1) (p x) refl
  where
    go : AllByRecursion (EndsBefore e) (filter p es) → (b : Bool) → p x ≡ b → AllByRecursion (EndsBefore e) (filter p (x ∷ es))
    go rest true is = rw is (all.0, rest)
    go rest false is = rw is rest

pub apart-filter : (p : ℕ × Holder → Bool) (es : List (ℕ × Holder)) → AreApart es → AreApart (filter p es)
apart-filter p [] apart = tt
apart-filter p (x ∷ es) apart = go (apart-filter p es apart.1) (p x) refl
  where
    go : AreApart (filter p es) → (b : Bool) → p x ≡ b → AreApart (filter p (x ∷ es))
    go rest true is = rw is (all-filter x p es apart.0, rest)
    go rest false is = rw is rest

module _ (n : BTreeMap ℕ Span) (f : BTreeMap ℕ Holder) (tied : AreTied n f) where
  among-number : (k : ℕ) (s : Span) → get nat_cmp n k ≡ Some s → Among (k, s) n.entries
  among-number k s is = found k s n.entries is

  -- nobody holds the first block of a range without a conflict
  pub absent : (first count : ℕ) → 0 < count → conflict first count (holdings n.entries) ≡ None → get nat_cmp f first ≡ None
  absent first count some none = go (get nat_cmp f first) refl
    where
      go : (o : Option Holder) → get nat_cmp f first ≡ o → o ≡ None
      go None is = refl
      go (Some h) is =
          let by_number = tied.back first h is in
          let among = found h.number (record { first = first; count = h.count }) n.entries by_number in
          let free = none-find (meets first count) n.entries none (h.number, record { first = first; count = h.count }) among in
          let big = tied.some h.number (record { first = first; count = h.count }) by_number in
          absurd (grind (arith, nat_tests))

  -- a range without a conflict begins after a holding ends, or ends before it begins
  pub clear-of : (first count : ℕ) → 0 < count → conflict first count (holdings n.entries) ≡ None → (k : ℕ) (h : Holder) → get nat_cmp f k ≡ Some h
      → (k + h.count ≤ first) ⊎ (first + count ≤ k)
  clear-of first count some none k h is =
      let by_number = tied.back k h is in
      let among = found h.number (record { first = k; count = h.count }) n.entries by_number in
      let free = none-find (meets first count) n.entries none (h.number, record { first = k; count = h.count }) among in
      let big = tied.some h.number (record { first = k; count = h.count }) by_number in
      go free big (cases_lt k (first + count))
    where
      go : ranges_meet k h.count first count ≡ false → 0 < h.count → (k < first + count) ⊎ (first + count ≤ k) → (k + h.count ≤ first) ⊎ (first + count ≤ k)
      go free big (inl low) = inl (grind (arith, nat_tests))
      go free big (inr high) = inr high

  -- one more range, of a number that holds nothing, from a block on that nobody holds
  module _ (n' : BTreeMap ℕ Span) (f' : BTreeMap ℕ Holder) (number : ℕ) (s : Span) (ordered : IsOrdered nat_cmp n') (some : 0 < s.count)
      (no_number : get nat_cmp n number ≡ None) (no_first : get nat_cmp f s.first ≡ None)
      (clear : (k : ℕ) (h : Holder) → get nat_cmp f k ≡ Some h → (k + h.count ≤ s.first) ⊎ (s.first + s.count ≤ k))
      (to_n : (q : ℕ) → Updated number q (Some s) (get nat_cmp n q) (get nat_cmp n' q))
      (to_f : (q : ℕ) → Updated s.first q (Some (record { number = number; count = s.count })) (get nat_cmp f q) (get nat_cmp f' q)) where
    sized : (k : ℕ) (t : Span) → get nat_cmp n' k ≡ Some t → Updated number k (Some s) (get nat_cmp n k) (get nat_cmp n' k) → 0 < t.count
    sized k t is (inl here) = let same : t ≡ s = cc in rw same some
    sized k t is (inr there) = let was : get nat_cmp n k ≡ Some t = cc in tied.some k t was

    forth : (k : ℕ) (t : Span) → get nat_cmp n' k ≡ Some t → Updated number k (Some s) (get nat_cmp n k) (get nat_cmp n' k)
        → get nat_cmp f' t.first ≡ Some (record { number = k; count = t.count })
    forth k t is (inl here) = let same : t ≡ s = cc in rw (same, ← here.0) (updated_here s.first _ _ _ (to_f s.first))
    forth k t is (inr there) =
        let was : get nat_cmp n k ≡ Some t = cc in
        kept (get nat_cmp f) s.first t.first _ _ _ (to_f t.first) no_first (tied.forth k t was)

    back : (k : ℕ) (h : Holder) → get nat_cmp f' k ≡ Some h
        → Updated s.first k (Some (record { number = number; count = s.count })) (get nat_cmp f k) (get nat_cmp f' k)
        → get nat_cmp n' h.number ≡ Some (record { first = k; count = h.count })
    back k h is (inl here) =
        let same : h ≡ record { number = number; count = s.count } = cc in
        rw (same, ← here.0) (updated_here number _ _ _ (to_n number))
    back k h is (inr there) =
        let was : get nat_cmp f k ≡ Some h = cc in
        kept (get nat_cmp n) number h.number _ _ _ (to_n h.number) no_number (tied.back k h was)

    apart : (a b : ℕ) (g h : Holder) → get nat_cmp f' a ≡ Some g → get nat_cmp f' b ≡ Some h → a < b
        → Updated s.first a (Some (record { number = number; count = s.count })) (get nat_cmp f a) (get nat_cmp f' a)
        → Updated s.first b (Some (record { number = number; count = s.count })) (get nat_cmp f b) (get nat_cmp f' b) → a + g.count ≤ b
    apart a b g h is_a is_b below (inl one) (inl two) = absurd (omega (arith, one.0, two.0))
    apart a b g h is_a is_b below (inl one) (inr two) =
        let was : get nat_cmp f b ≡ Some h = cc in
        let same : g ≡ record { number = number; count = s.count } = cc in
        let wide : g.count ≡ s.count = ap (λ (x : Holder). x.count) same in
        ⊎_elim (λ ends. absurd (omega (arith, one.0, below, ends))) (λ begins. omega (arith, one.0, wide, begins)) (clear b h was)
    apart a b g h is_a is_b below (inr one) (inl two) =
        let was : get nat_cmp f a ≡ Some g = cc in
        ⊎_elim (λ ends. omega (arith, two.0, ends)) (λ begins. absurd (omega (arith, two.0, below, begins, some))) (clear a g was)
    apart a b g h is_a is_b below (inr one) (inr two) =
        let was_a : get nat_cmp f a ≡ Some g = cc in
        let was_b : get nat_cmp f b ≡ Some h = cc in
        tied.apart a b g h was_a was_b below

    pub tied-hold : AreTied n' f'
    tied-hold = record {
      forth = λ k t is. forth k t is (to_n k);
      back = λ k h is. back k h is (to_f k);
      some = λ k t is. sized k t is (to_n k);
      apart = λ a b g h is_a is_b below. apart a b g h is_a is_b below (to_f a) (to_f b);
      ordered = ordered;
    }

  -- the holdings that begin up to a block are apart
  pub apart-between : (last : ℕ) → IsOrdered nat_cmp f → AreApart (entries_between nat_cmp Unbounded (Included last) f.entries)
  apart-between last rising =
      apart-filter (is_inside last) f.entries
      (apart-list f.entries rising (λ x y a b. tied.apart x.0 y.0 x.1 y.1 (finds x f.entries rising a) (finds y f.entries rising b)))

  module _ (first count last : ℕ) (some : 0 < count) (last_is : last + 1 ≡ first + count) (rising : IsOrdered nat_cmp f) where
    -- A holding that meets the range begins in it or before it, and reaches it.
    seen : (e : ℕ × Span) → Among e n.entries → meets first count (of_entry e) ≡ true
        → Among (e.1.first, record { number = e.0; count = e.1.count }) (entries_between nat_cmp Unbounded (Included last) f.entries)
        × (reaches first (e.1.first, record { number = e.0; count = e.1.count }) ≡ true)
    seen e among met =
        let is = finds e n.entries tied.ordered among in
        let big = tied.some e.0 e.1 is in
        let there = found e.1.first (record { number = e.0; count = e.1.count }) f.entries (tied.forth e.0 e.1 is) in
        let within : is_inside last (e.1.first, record { number = e.0; count = e.1.count }) ≡ true = grind (arith, nat_tests) in
        let reach : reaches first (e.1.first, record { number = e.0; count = e.1.count }) ≡ true = grind (arith, nat_tests) in
        (among-filter (is_inside last) (e.1.first, record { number = e.0; count = e.1.count }) f.entries there within, reach)

    when_none : lowest first last f ≡ None → (e : ℕ × Span) → Among e n.entries → meets first count (of_entry e) ≡ false
    when_none none e among = go (meets first count (of_entry e)) refl
      where
        go : (b : Bool) → meets first count (of_entry e) ≡ b → b ≡ false
        go false is = refl
        go true is =
            let see = seen e among is in
            let short = (fold-none first None _ none).1 _ see.0 in
            absurd (let reach = see.1 in cc)

    -- The number that is found holds a range that meets this one.
    Holds : ℕ → Type 0
    Holds k = (e : ℕ × Span) × Among e n.entries × (meets first count (of_entry e) ≡ true) × (e.0 ≡ k)

    holds : (k : ℕ) → (None ≡ Some k) ⊎ HasNumber first (entries_between nat_cmp Unbounded (Included last) f.entries) k → Holds k
    unfolding Holds
    holds k (inl none) = absurd (cc)
    holds k (inr has) =
        let b = has.0 in
        let inside = among-filtered (is_inside last) has.0 f.entries has.1 in
        let there = tied.back has.0.0 has.0.1 (finds has.0 f.entries rising inside.0) in
        let span : Span = record { first = has.0.0; count = has.0.1.count } in
        let big = tied.some has.0.1.number span there in
        let within = inside.1 in
        let reach = has.2 in
        let met : meets first count (of_entry (has.0.1.number, span)) ≡ true = grind (arith, nat_tests) in
        ((has.0.1.number, span), found has.0.1.number span n.entries there, met, has.3)

    least : (k : ℕ) → lowest first last f ≡ Some k → (e : ℕ × Span) → Among e n.entries → meets first count (of_entry e) ≡ true → k ≤ e.0
    least k is e among met = let see = seen e among met in (fold-least first None _ k is).1 _ see.0 see.1

    pub is-conflict : lowest first last f ≡ conflict first count (holdings n.entries)
    unfolding Holds
    is-conflict = go (lowest first last f) refl
      where
        go : (o : Option ℕ) → lowest first last f ≡ o → o ≡ conflict first count (holdings n.entries)
        go None is = sym (ap (option_map (λ h. h.number)) (find-none (meets first count) n.entries (when_none is)))
        go (Some k) is =
            let h = holds k (fold-some first None _ k is) in
            let same = h.3 in
            sym (rw (← same) (find-lowest (meets first count) n.entries tied.ordered h.0 h.1 h.2 (λ x a t. rw same (least k is x a t))))

    pub is-lowest : (k : ℕ) → lowest first last f ≡ Some k → IsLowestConflict first count (holdings n.entries) k
    unfolding Holds
    is-lowest k is =
        let h = holds k (fold-some first None _ k is) in
        record {
          holder = of_entry h.0;
          holds = contains-holdings h.0 n.entries h.1;
          meets_it = h.2;
          numbered = h.3;
          least = all-holdings (λ x. meets first count x ≡ true → k ≤ x.number) n.entries (least k is);
        }

    pub is-none : (lowest first last f ≡ None) ↔ All (λ h. meets first count h ≡ false) (holdings n.entries)
    unfolding Holds
    is-none = (λ none. all-holdings (λ h. meets first count h ≡ false) n.entries (when_none none), λ free. go free (lowest first last f) refl)
      where
        go : All (λ h. meets first count h ≡ false) (holdings n.entries) → (o : Option ℕ) → lowest first last f ≡ o → o ≡ None
        go free None is = refl
        go free (Some k) is =
            let h = holds k (fold-some first None _ k is) in
            let no_meet = All-contains (λ x. meets first count x ≡ false) (holdings n.entries) (of_entry h.0) free (contains-holdings h.0 n.entries h.1) in
            absurd (let met = h.2 in cc)
