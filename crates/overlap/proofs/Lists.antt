-- How the list of the holdings follows the map by number.
use Rattle.std.proofs.Common.{ℕ, ◌≡◌, nat_lt, ◌==◌, Bool, true, false, List, [], ◌∷◌, refl, sym, ap, arith}
use Rattle.std.specs.Prelude.{is_some}
use Rattle.std.specs.Ordering.{nat_cmp}
use Rattle.std.specs.declared.cmp.Ordering.TheVariants.{Less}
use Rattle.std.specs.Map.{keys_of, lookup, remove_entry}
use Rattle.std.specs.BTreeMap.{is_at, insert_entry}
use Rattle.std.specs.List.{AllByRecursion}
use Rattle.std.specs.List.Sorted.{IsStrictlySortedBy}
use Rattle.std.proofs.lemmas.Map.Keys.{sorted_head, sorted_tail}
use Rattle.std.proofs.lemmas.Bool.Decides.{nat_tests}
use Rattle.overlap.specs.Holdings.{holding, holding_too, is_held, without}
use Rattle.overlap.specs.Maps.{holdings}
use Rattle.overlap.specs.declared.held.Span.{Span}

pub same_test : (a b : ℕ) → is_at (nat_cmp a) b ≡ (b == a)
same_test a b = grind (arith, nat_tests)

pub is_held-holdings : (number : ℕ) (es : List (ℕ × Span)) → is_some (lookup (is_at (nat_cmp number)) es) ≡ is_held number (holdings es)
is_held-holdings number [] = refl
is_held-holdings number (e ∷ es) = go (is_held-holdings number es) (e.0 == number) refl
  where
    go : is_some (lookup (is_at (nat_cmp number)) es) ≡ is_held number (holdings es) → (b : Bool) → (e.0 == number) ≡ b
        → is_some (lookup (is_at (nat_cmp number)) (e ∷ es)) ≡ is_held number (holdings (e ∷ es))
    go rest true is = rw (same_test number e.0, is) refl
    go rest false is = rw (same_test number e.0, is) rest

pub holdings-insert : (number : ℕ) (s : Span) (es : List (ℕ × Span)) → is_held number (holdings es) ≡ false
    → holdings (insert_entry nat_cmp es number s) ≡ holding_too (holding number s.first s.count) (holdings es)
holdings-insert number s [] new = refl
holdings-insert number s (e ∷ es) new = go (holdings-insert number s es) (nat_lt number e.0) (number == e.0) (e.0 == number) refl refl refl
  where
    go : (is_held number (holdings es) ≡ false → holdings (insert_entry nat_cmp es number s) ≡ holding_too (holding number s.first s.count) (holdings es))
        → (b c d : Bool) → nat_lt number e.0 ≡ b → (number == e.0) ≡ c → (e.0 == number) ≡ d
        → holdings (insert_entry nat_cmp (e ∷ es) number s) ≡ holding_too (holding number s.first s.count) (holdings (e ∷ es))
    go rest true c d below same back = rw below refl
    go rest false true true below same back = absurd (let no = rw back at new in cc)
    go rest false true false below same back = absurd (grind (arith, nat_tests))
    go rest false false true below same back = absurd (grind (arith, nat_tests))
    go rest false false false below same back =
        let not_here : is_held number (holdings es) ≡ false = rw back at new in
        rw (below, same) (ap (λ hs. holding e.0 e.1.first e.1.count ∷ hs) (rest not_here))

-- no holding of a higher number goes
without-above : (number : ℕ) (es : List (ℕ × Span)) → AllByRecursion (λ k. nat_cmp number k ≡ Less) (keys_of es) → without number (holdings es) ≡ holdings es
without-above number [] above = refl
without-above number (e ∷ es) above =
    let other : (e.0 == number) ≡ false = grind (arith, nat_tests, above.0) in
    rw other (ap (λ hs. holding e.0 e.1.first e.1.count ∷ hs) (without-above number es above.1))

pub holdings-remove : (number : ℕ) (es : List (ℕ × Span)) → IsStrictlySortedBy nat_cmp (keys_of es)
    → holdings (remove_entry (is_at (nat_cmp number)) es) ≡ without number (holdings es)
holdings-remove number [] ordered = refl
holdings-remove number (e ∷ es) ordered = go (holdings-remove number es (sorted_tail nat_cmp e.0 (keys_of es) ordered)) (e.0 == number) refl
  where
    go : holdings (remove_entry (is_at (nat_cmp number)) es) ≡ without number (holdings es)
        → (b : Bool) → (e.0 == number) ≡ b → holdings (remove_entry (is_at (nat_cmp number)) (e ∷ es)) ≡ without number (holdings (e ∷ es))
    go rest true is =
        let same : e.0 ≡ number = grind (arith, nat_tests) in
        let above : AllByRecursion (λ k. nat_cmp number k ≡ Less) (keys_of es) = rw same at (sorted_head nat_cmp e.0 (keys_of es) ordered) in
        rw (same_test number e.0, is) (sym (without-above number es above))
    go rest false is = rw (same_test number e.0, is) (ap (λ hs. holding e.0 e.1.first e.1.count ∷ hs) rest)
