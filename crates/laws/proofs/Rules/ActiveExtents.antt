-- An extent is active: which extents writes have, how many they are, and when no slot can be had.
use Rattle.std.proofs.Common.{ℕ, zero, suc, ◌≡◌, ◌≤◌, ◌<◌, ◌⊎◌, inl, inr, Bool, true, false, not, ◌&&◌, ◌||◌, List, [], ◌∷◌, length, Some, slice_get, refl, sym}
use Rattle.std.proofs.Common.{◌∙◌, ap, subst, arith, ◌==◌, nat_le}
use Rattle.std.specs.Prelude.{if◌then◌else◌}
use Rattle.std.specs.List.{list_any, IsDistinct, AllByRecursion}
use Rattle.std.specs.Cmp.{nat_eq_equiv}
use Rattle.std.proofs.lemmas.Bool.{or_parts, or_cases, or_left, or_right, eqb-true, eq-eqb, ne_eqb, leb-false, lt-leb, le-leb, not-false, and_cases, and_right}
use Rattle.std.proofs.lemmas.Map.Made.{length-le_from_is_member}
use Rattle.model.specs.Contents.{extent_of}
use Rattle.model.specs.Primary.{Accepted, insert_once, active_extents_of}

-- the number is among these
abbrev pub has : List ℕ → ℕ → Bool
has ns n = list_any (λ m. m == n) ns

-- no slot can be had for an extent, where these writes are unreleased
abbrev pub is_full : ℕ → List Accepted → ℕ → Bool
is_full slots writes extent = not (has (active_extents_of writes) extent) && nat_le slots (length (active_extents_of writes))

-- an extent that is put in is there
insert-has : (n : ℕ) (ns : List ℕ) → has (insert_once n ns) n ≡ true
insert-has n ns = go (has ns n) refl
  where
    go : (b : Bool) → has ns n ≡ b → has (if b then ns else n ∷ ns) n ≡ true
    go true is = is
    go false is = or_left (n == n) (has ns n) (eq-eqb n n refl)

-- an extent that was there stays
insert-keeps : (n m : ℕ) (ns : List ℕ) → has ns m ≡ true → has (insert_once n ns) m ≡ true
insert-keeps n m ns there = elim (has ns n) as (λ b. has (if b then ns else n ∷ ns) m ≡ true) [ true ↦ there | false ↦ or_right (n == m) (has ns m) there ]

-- what is there was put in, or was there
insert-from : (n m : ℕ) (ns : List ℕ) → has (insert_once n ns) m ≡ true → (n ≡ m) ⊎ (has ns m ≡ true)
insert-from n m ns = elim (has ns n) as (λ b. has (if b then ns else n ∷ ns) m ≡ true → (n ≡ m) ⊎ (has ns m ≡ true)) [
  | true ↦ λ there. inr there
  | false ↦ λ there. elim (or_cases (n == m) (has ns m) there) [ inl same ↦ inl (eqb-true n m same) | inr old ↦ inr old ]
]

-- the extent of a write is among those of the writes
pub has-extent : (ws : List Accepted) (i : ℕ) (a : Accepted) → slice_get ws i ≡ Some a → has (active_extents_of ws) (extent_of a.write.first) ≡ true
has-extent [] i a at = absurd (cc)
has-extent (w ∷ ws) zero a at =
    let same : w ≡ a = cc in
    subst (λ (x : Accepted). has (active_extents_of (w ∷ ws)) (extent_of x.write.first) ≡ true) same (insert-has (extent_of w.write.first)
    (active_extents_of ws))
has-extent (w ∷ ws) (suc i) a at = insert-keeps (extent_of w.write.first) (extent_of a.write.first) (active_extents_of ws) (has-extent ws i a at)

-- each of the writes' extents is the extent of one of them
pub extent-from : (ws : List Accepted) (n : ℕ) → has (active_extents_of ws) n ≡ true
    → (i : ℕ) × (a : Accepted) × (slice_get ws i ≡ Some a) × (extent_of a.write.first ≡ n)
extent-from [] n there = absurd (cc)
extent-from (w ∷ ws) n there = elim (insert-from (extent_of w.write.first) n (active_extents_of ws) there) [
  | inl same ↦ (0, w, refl, same)
  | inr old ↦ let rest = extent-from ws n old in (suc rest.0, rest.1, rest.2, rest.3)
]

-- a number that is not among these differs from each
apart-from : (n : ℕ) (ns : List ℕ) → has ns n ≡ false → AllByRecursion (λ m. (n == m) ≡ false) ns
apart-from n [] none = tt
apart-from n (m ∷ ns) none =
    let parts = or_parts (m == n) (has ns n) none in
    (ne_eqb n m (λ same. absurd (let yes = eq-eqb m n (sym same) in let no = parts.0 in cc)), apart-from n ns parts.1)

-- an extent that is put in once leaves them distinct
distinct-insert : (n : ℕ) (ns : List ℕ) → IsDistinct (λ a b. a == b) ns → IsDistinct (λ a b. a == b) (insert_once n ns)
unfolding IsDistinct
distinct-insert n ns distinct = go (has ns n) refl
  where
    go : (b : Bool) → has ns n ≡ b → IsDistinct (λ a b. a == b) (if b then ns else n ∷ ns)
    go true is = distinct
    go false is = (apart-from n ns is, distinct)

-- the extents are distinct
distinct-extents : (ws : List Accepted) → IsDistinct (λ a b. a == b) (active_extents_of ws)
unfolding IsDistinct
distinct-extents [] = tt
distinct-extents (w ∷ ws) = distinct-insert (extent_of w.write.first) (active_extents_of ws) (distinct-extents ws)

-- the same test with its sides changed
flip-has : (ns : List ℕ) (n : ℕ) → has ns n ≡ list_any (λ m. n == m) ns
flip-has [] n = refl
flip-has (m ∷ ns) n = ap (λ b. b || has ns n) (flip m n) ∙ ap (λ b. (n == m) || b) (flip-has ns n)
  where
    flip : (m n : ℕ) → (m == n) ≡ (n == m)
    flip m n = nat_eq_equiv.symm m n

-- writes whose extents are all among these have no more of them
pub extents-bound : (ws : List Accepted) (ns : List ℕ) → ((i : ℕ) (a : Accepted) → slice_get ws i ≡ Some a → has ns (extent_of a.write.first) ≡ true)
    → length (active_extents_of ws) ≤ length ns
extents-bound ws ns among = length-le_from_is_member nat_eq_equiv (active_extents_of ws) ns (distinct-extents ws) (λ q there.
    let found = extent-from ws q (flip-has (active_extents_of ws) q ∙ there) in
    sym (flip-has ns q) ∙ subst (λ n. has ns n ≡ true) found.3 (among found.0 found.1 found.2))

-- an extent that is there or finds room is one of no more than there may be
insert-bound : (n : ℕ) (ns : List ℕ) (slots : ℕ) → (not (has ns n) && nat_le slots (length ns)) ≡ false → length ns ≤ slots → length (insert_once n ns) ≤ slots
insert-bound n ns slots room bound = go (has ns n) refl
  where
    go : (b : Bool) → has ns n ≡ b → length (if b then ns else n ∷ ns) ≤ slots
    go true is = bound
    go false is = elim (and_cases (not (has ns n)) (nat_le slots (length ns)) room) [
      | inl there ↦ absurd (let yes = not-false (has ns n) there in cc)
      | inr free ↦ let less = leb-false slots (length ns) free in omega arith
    ]

-- One more write, whose extent is active or finds a slot: its extent is the only one more.
pub more-extents : (writes later : List Accepted) (added : Accepted) (slots : ℕ) → is_full slots writes (extent_of added.write.first) ≡ false
    → length (active_extents_of writes) ≤ slots
    → ((i : ℕ) (a : Accepted) → slice_get later i ≡ Some a → (has (active_extents_of writes) (extent_of a.write.first) ≡ true) ⊎ (a ≡ added))
    → length (active_extents_of later) ≤ slots
more-extents writes later added slots room few from =
    let e : ℕ = extent_of added.write.first in
    let bound = insert-bound e (active_extents_of writes) slots room few in
    let less = extents-bound later (insert_once e (active_extents_of writes)) (λ i a at. elim (from i a at) [
      | inl old ↦ insert-keeps e (extent_of a.write.first) (active_extents_of writes) old
      | inr new ↦ subst (λ (x : Accepted). has (insert_once e (active_extents_of writes)) (extent_of x.write.first) ≡ true) (sym new) (insert-has e
          (active_extents_of writes))
    ]) in
    omega arith

-- No slot can be had.

-- fewer extents than slots leave one
pub full-room : (slots : ℕ) (writes : List Accepted) (extent : ℕ) → length (active_extents_of writes) < slots → is_full slots writes extent ≡ false
full-room slots writes extent less = and_right (not (has (active_extents_of writes) extent)) _ (lt-leb slots (length (active_extents_of writes)) less)

-- an active extent has one
pub full-there : (slots : ℕ) (writes : List Accepted) (extent : ℕ) → has (active_extents_of writes) extent ≡ true → is_full slots writes extent ≡ false
full-there slots writes extent there = ap (λ b. not b && nat_le slots (length (active_extents_of writes))) there

-- another one has none, where as many are active
pub full-out : (slots : ℕ) (writes : List Accepted) (extent : ℕ) → has (active_extents_of writes) extent ≡ false → slots ≤ length (active_extents_of writes)
    → is_full slots writes extent ≡ true
full-out slots writes extent none many = λ i. not (none i) && le-leb slots (length (active_extents_of writes)) many i
