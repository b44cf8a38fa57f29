-- A write begins in an extent, where it may.
use Rattle.std.proofs.Common.{ℕ, zero, suc, ◌≡◌, ◌+◌, ◌<◌, ◌≤◌, inl, inr, Bool, true, false, not, ◌||◌, List, [], ◌∷◌, ◌++◌, length, map, filter, Some}
use Rattle.std.proofs.Common.{slice_get, refl, sym, ◌∙◌, ap, subst, arith, nat_lt, ◌==◌}
use Rattle.std.specs.Prelude.{if◌then◌else◌}
use Rattle.std.specs.Cmp.{nat_eq_equiv}
use Rattle.std.specs.List.{list_any, IsDistinct, AllByRecursion}
use Rattle.std.proofs.lemmas.Map.Made.{length-le_from_is_member}
use Rattle.std.proofs.lemmas.Option.{slice_get_within}
use Rattle.laws.proofs.Lists.Elements.{get-there}
use Rattle.std.proofs.lemmas.Bool.{cases_Bool, both_ways, or_parts, or_cases, or_left, or_right, eqb-true, eq-eqb, ltb-true, ltb-false, false_from_ne_true}
use Rattle.std.proofs.lemmas.List.{length-map, length-append}
use Rattle.std.proofs.lemmas.List.Elements.{filter-append}
use Rattle.model.specs.Contents.{extent_of}
use Rattle.model.specs.Primary.{Accepted, active_extents_of}
use Rattle.activitylog.specs.Activity.{Active, ActivityState, is_active, writes_of, other_than, has_idle, without_oldest_idle, can_begin, staying, begun}
use Rattle.laws.proofs.Lists.Picks.{pick-filtered, filtered-pick}
use Rattle.laws.proofs.Rules.ActiveExtents.{has, is_full, has-extent, extent-from, extents-bound, full-room, full-there, full-out}
use Rattle.primary_protocol.specs.Leaves.{AreOnce, writes_in, LeavesActivity}
use Rattle.primary_protocol.proofs.Common.Activity.{Counts, counts-of, of-counts, counts-same}
use Rattle.primary_protocol.proofs.Common.Freeing.{same-either}

-- The extents that stay.

-- those but one
other-writes : (extent other : ℕ) (active : List Active) → (other == extent) ≡ false → writes_of other (other_than extent active) ≡ writes_of other active
other-writes extent other [] apart = refl
other-writes extent other (a ∷ active) apart = go (other-writes extent other active apart) (extent == a.extent) refl
  where
    go : writes_of other (other_than extent active) ≡ writes_of other active → (b : Bool) → (extent == a.extent) ≡ b
        → writes_of other (if b then active else a ∷ other_than extent active) ≡ (if other == a.extent then a.writes else writes_of other active)
    go rest true is = sym (ap (λ b. if b then a.writes
        else writes_of other active) (false_from_ne_true (other == a.extent)
        (λ e. both_ways (other == extent) apart (eq-eqb other extent (eqb-true other a.extent e ∙ sym (eqb-true extent a.extent is))))))
    go rest false is = ap (λ n. if other == a.extent then a.writes else n) rest

other-active : (extent other : ℕ) (active : List Active) → (other == extent) ≡ false
    → list_any (λ (b : Active). other == b.extent) (other_than extent active) ≡ list_any (λ (b : Active). other == b.extent) active
other-active extent other [] apart = refl
other-active extent other (a ∷ active) apart = go (other-active extent other active apart) (extent == a.extent) refl
  where
    go : list_any (λ (b : Active). other == b.extent) (other_than extent active) ≡ list_any (λ (b : Active). other == b.extent) active → (b : Bool)
        → (extent == a.extent) ≡ b
        → list_any (λ (b : Active). other == b.extent) (if b then active
        else a ∷ other_than extent active) ≡ ((other == a.extent) || list_any (λ (b : Active). other == b.extent) active)
    go rest true is = sym (ap (λ b. b || list_any (λ (b : Active). other == b.extent) active)
        (false_from_ne_true (other == a.extent)
        (λ e. both_ways (other == extent) apart (eq-eqb other extent (eqb-true other a.extent e ∙ sym (eqb-true extent a.extent is))))))
    go rest false is = ap (λ b. (other == a.extent) || b) rest

-- an extent that is taken out is not there
other-gone : (extent : ℕ) (active : List Active) → AreOnce active → list_any (λ (b : Active). extent == b.extent) (other_than extent active) ≡ false
other-gone extent [] once = refl
other-gone extent (a ∷ active) once = go (other-gone extent active once.1) (extent == a.extent) refl
  where
    go : list_any (λ (b : Active). extent == b.extent) (other_than extent active) ≡ false → (b : Bool) → (extent == a.extent) ≡ b
        → list_any (λ (b : Active). extent == b.extent) (if b then active else a ∷ other_than extent active) ≡ false
    go rest true is = ap (λ n. list_any (λ (b : Active). n == b.extent) active) (eqb-true extent a.extent is) ∙ once.0
    go rest false is = λ i. is i || rest i

other-once : (extent : ℕ) (active : List Active) → AreOnce active → AreOnce (other_than extent active)
other-once extent [] once = once
other-once extent (a ∷ active) once = go (other-once extent active once.1) (extent == a.extent) refl
  where
    go : AreOnce (other_than extent active) → (b : Bool) → (extent == a.extent) ≡ b → AreOnce (if b then active else a ∷ other_than extent active)
    go rest true is = once.1
    go rest false is = (other-active extent a.extent active (same-either a.extent extent ∙ is) ∙ once.0, rest)

other-length : (extent : ℕ) (active : List Active) → list_any (λ (b : Active). extent == b.extent) active ≡ true
    → suc (length (other_than extent active)) ≡ length active
other-length extent [] there = absurd (cc)
other-length extent (a ∷ active) there = go (other-length extent active) (extent == a.extent) refl
  where
    go : (list_any (λ (b : Active). extent == b.extent) active ≡ true → suc (length (other_than extent active)) ≡ length active) → (b : Bool)
        → (extent == a.extent) ≡ b → suc (length (if b then active else a ∷ other_than extent active)) ≡ suc (length active)
    go rest true is = refl
    go rest false is = ap suc (rest (sym (ap (λ b. b || list_any (λ (b : Active). extent == b.extent) active) is) ∙ there))

-- an extent that is not active has no writes
none-active : (extent : ℕ) (active : List Active) → list_any (λ (b : Active). extent == b.extent) active ≡ false → writes_of extent active ≡ 0
none-active extent [] none = refl
none-active extent (a ∷ active) none =
    let parts = or_parts (extent == a.extent) (list_any (λ (b : Active). extent == b.extent) active) none in
    ap (λ b. if b then a.writes else writes_of extent active) parts.0 ∙ none-active extent active parts.1

-- The oldest idle extent goes: what has writes stays.
oldest-gone : (active : List Active) → AreOnce active → has_idle active ≡ true → (other : ℕ)
    → writes_of other (without_oldest_idle active) ≡ writes_of other active
oldest-gone [] once idle other = absurd (cc)
oldest-gone (a ∷ active) once idle other = go (has_idle active) refl (a.writes == 0) refl (oldest-gone active once.1)
  where
    go : (b : Bool) → has_idle active ≡ b → (d : Bool) → (a.writes == 0) ≡ d
        → (has_idle active ≡ true → (other : ℕ) → writes_of other (without_oldest_idle active) ≡ writes_of other active)
        → writes_of other (if b then a ∷ without_oldest_idle active else if d then active else a ∷ active) ≡ (if other == a.extent then a.writes
        else writes_of other active)
    go true is d so rest = ap (λ n. if other == a.extent then a.writes else n) (rest is other)
    go false is false so rest = refl
    go false is true so rest = by-extent (other == a.extent) refl
      where
        by-extent : (b : Bool) → (other == a.extent) ≡ b → writes_of other active ≡ (if b then a.writes else writes_of other active)
        by-extent true same = ap (λ n. writes_of n active) (eqb-true other a.extent same) ∙ (none-active a.extent active once.0 ∙ sym (eqb-true a.writes 0 so))
        by-extent false same = refl

oldest-fewer : (active : List Active) → (other : ℕ) → list_any (λ (b : Active). other == b.extent) (without_oldest_idle active) ≡ true
    → list_any (λ (b : Active). other == b.extent) active ≡ true
oldest-fewer [] other there = there
oldest-fewer (a ∷ active) other there = go (has_idle active) (a.writes == 0) there (oldest-fewer active other)
  where
    go : (b d : Bool) → list_any (λ (b : Active). other == b.extent) (if b then a ∷ without_oldest_idle active else if d then active else a ∷ active) ≡ true
        → (list_any (λ (b : Active). other == b.extent) (without_oldest_idle active) ≡ true → list_any (λ (b : Active). other == b.extent) active ≡ true)
        → ((other == a.extent) || list_any (λ (b : Active). other == b.extent) active) ≡ true
    go true d there rest = elim (or_cases (other == a.extent) (list_any (λ (b : Active). other == b.extent) (without_oldest_idle active)) there)
        [ inl here ↦ or_left _ _ here | inr later ↦ or_right _ _ (rest later) ]
    go false true there rest = or_right _ _ there
    go false false there rest = there

oldest-once : (active : List Active) → AreOnce active → AreOnce (without_oldest_idle active)
oldest-once [] once = once
oldest-once (a ∷ active) once = go (has_idle active) (a.writes == 0) (oldest-once active once.1)
  where
    go : (b d : Bool) → AreOnce (without_oldest_idle active) → AreOnce (if b then a ∷ without_oldest_idle active else if d then active else a ∷ active)
    go true d rest = (
      false_from_ne_true (list_any (λ (b : Active). a.extent == b.extent) (without_oldest_idle active))
          (λ there. both_ways (list_any (λ (b : Active). a.extent == b.extent) active) once.0 (oldest-fewer active a.extent there)),
      rest,
    )
    go false true rest = once.1
    go false false rest = once

oldest-length : (active : List Active) → has_idle active ≡ true → suc (length (without_oldest_idle active)) ≡ length active
oldest-length [] idle = absurd (cc)
oldest-length (a ∷ active) idle = go (has_idle active) refl (a.writes == 0) refl (oldest-length active)
  where
    go : (b : Bool) → has_idle active ≡ b → (d : Bool) → (a.writes == 0) ≡ d
        → (has_idle active ≡ true → suc (length (without_oldest_idle active)) ≡ length active)
        → suc (length (if b then a ∷ without_oldest_idle active else if d then active else a ∷ active)) ≡ suc (length active)
    go true is d so rest = ap suc (rest is)
    go false is true so rest = refl
    go false is false so rest = absurd (both_ways (has_idle (a ∷ active)) (λ i. so i || is i) idle)

-- what has writes is active still
oldest-active : (active : List Active) → AreOnce active → has_idle active ≡ true → (other : ℕ) → 0 < writes_of other active
    → list_any (λ (b : Active). other == b.extent) (without_oldest_idle active) ≡ true
oldest-active active once idle other some = elim (cases_Bool (list_any (λ (b : Active). other == b.extent) (without_oldest_idle active))) [
  | inl there ↦ there
  | inr none ↦ absurd (let gone = none-active other (without_oldest_idle active) none in let same = oldest-gone active once idle other in omega arith)
]

-- A write begins.
begun-counts : (extent : ℕ) (a : ActivityState) (slots : ℕ) (count : ℕ → ℕ) → Counts a slots count → can_begin extent a ≡ true
    → Counts (begun extent a) slots (λ other. if other == extent then count other + 1 else count other)
begun-counts extent a slots count c may = record {
  limit = c.limit;
  counts = λ other. by-counts other (other == extent) refl;
  active = λ other some. by-active other (other == extent) refl some;
  once = (fresh, still_once);
  few = bound;
}
  where
    idle-else : is_active extent a.active ≡ false → nat_lt (length a.active) a.slots ≡ false → has_idle a.active ≡ true
    idle-else out full = elim (or_cases (is_active extent a.active || nat_lt (length a.active) a.slots) (has_idle a.active) may)
        [ inl one ↦ absurd (both_ways (is_active extent a.active || nat_lt (length a.active) a.slots) (λ i. out i || full i) one) | inr idle ↦ idle ]

    by-case : (P : List Active → Type 0) → (is_active extent a.active ≡ true → P (other_than extent a.active))
        → (is_active extent a.active ≡ false → nat_lt (length a.active) a.slots ≡ true → P a.active)
        → (is_active extent a.active ≡ false → has_idle a.active ≡ true → P (without_oldest_idle a.active)) → P (staying extent a)
    by-case P one two three = go (is_active extent a.active) refl (nat_lt (length a.active) a.slots) refl
      where
        go : (b : Bool) → is_active extent a.active ≡ b → (d : Bool) → nat_lt (length a.active) a.slots ≡ d
            → P (if b then other_than extent a.active else if d then a.active else without_oldest_idle a.active)
        go true is d so = one is
        go false is true so = two is so
        go false is false so = three is (idle-else is so)

    by-counts : (other : ℕ) (b : Bool) → (other == extent) ≡ b
        → (if b then writes_of extent a.active + 1 else writes_of other (staying extent a)) ≡ (if b then count other + 1 else count other)
    by-counts other true is = ap (λ n. n + 1) (ap (λ n. writes_of n a.active) (sym (eqb-true other extent is)) ∙ c.counts other)
    by-counts other false is = by-case (λ l. writes_of other l ≡ writes_of other a.active) (λ there. other-writes extent other a.active is) (λ out room. refl)
        (λ out idle. oldest-gone a.active c.once idle other) ∙ c.counts other

    by-active : (other : ℕ) (b : Bool) → (other == extent) ≡ b → 0 < (if b then count other + 1 else count other)
        → (b || list_any (λ (b : Active). other == b.extent) (staying extent a)) ≡ true
    by-active other true is some = refl
    by-active other false is some =
        let was = c.active other some in
        by-case (λ l. list_any (λ (b : Active). other == b.extent) l ≡ true) (λ there. other-active extent other a.active is
        ∙ was) (λ out room. was) (λ out idle. oldest-active a.active c.once idle other (let n = c.counts other in omega arith))

    fresh : list_any (λ (b : Active). extent == b.extent) (staying extent a) ≡ false
    fresh = by-case (λ l. list_any (λ (b : Active). extent == b.extent) l ≡ false) (λ there. other-gone extent a.active c.once) (λ out room. out)
        (λ out idle. false_from_ne_true (list_any (λ (b : Active). extent == b.extent) (without_oldest_idle a.active))
        (λ there. both_ways (list_any (λ (b : Active). extent == b.extent) a.active) out (oldest-fewer a.active extent there)))

    still_once : AreOnce (staying extent a)
    still_once = by-case AreOnce (λ there. other-once extent a.active c.once) (λ out room. c.once) (λ out idle. oldest-once a.active c.once)

    bound : suc (length (staying extent a)) ≤ slots
    bound =
        let few = c.few in
        let limit = c.limit in
        by-case (λ l. suc (length l) ≤ slots) (λ there. let size = other-length extent a.active there in omega arith)
        (λ out room. let less = ltb-true (length a.active) a.slots room in omega arith) (λ out idle. let size = oldest-length a.active idle in omega arith)

-- an accepted write lies in its extent
pub begins-activity : (a : ActivityState) (slots : ℕ) (writes : List Accepted) (new : Accepted) → LeavesActivity a slots writes
    → can_begin (extent_of new.write.first) a ≡ true → LeavesActivity (begun (extent_of new.write.first) a) slots (writes ++ new ∷ [])
begins-activity a slots writes new left may =
    of-counts (begun (extent_of new.write.first) a) slots (writes ++ new ∷ [])
    (counts-same (begun (extent_of new.write.first) a) slots (λ other. if other == extent_of new.write.first then writes_in other writes + 1
    else writes_in other writes) (λ other. writes_in other (writes ++ new ∷ [])) more
    (begun-counts (extent_of new.write.first) a slots (λ other. writes_in other writes) (counts-of a slots writes left) may))
  where
    more : (other : ℕ) → (if other == extent_of new.write.first then writes_in other writes + 1
        else writes_in other writes) ≡ writes_in other (writes ++ new ∷ [])
    more other =
        let lies : Accepted → Bool = λ x. other == extent_of x.write.first in
        go (other == extent_of new.write.first) refl
        ∙ sym (ap length (filter-append lies writes (new ∷ [])) ∙ length-append (filter lies writes) (filter lies (new ∷ [])))
      where
        go : (b : Bool) → (other == extent_of new.write.first) ≡ b
            → (if b then writes_in other writes + 1 else writes_in other writes) ≡ writes_in other writes + length
            (filter (λ (x : Accepted). other == extent_of x.write.first) (new ∷ []))
        go true is = sym (ap (λ b. writes_in other writes + length {A = Accepted} (if b then new ∷ [] else [])) is)
        go false is = sym (ap (λ b. writes_in other writes + length {A = Accepted} (if b then new ∷ [] else [])) is ∙ omega arith)

-- Whether it may.

-- a write's extent has writes
some-writes : (writes : List Accepted) (i : ℕ) (a : Accepted) → slice_get writes i ≡ Some a → 0 < writes_in (extent_of a.write.first) writes
some-writes writes i a at =
    let there = filtered-pick (λ (x : Accepted). extent_of a.write.first == extent_of x.write.first) writes i a at
    (eq-eqb (extent_of a.write.first) (extent_of a.write.first) refl) in
    let within = slice_get_within (filter (λ (x : Accepted). extent_of a.write.first == extent_of x.write.first) writes) there.0 a there.1 in
    omega arith

-- and so does every extent that is among theirs
has-writes : (writes : List Accepted) (extent : ℕ) → has (active_extents_of writes) extent ≡ true → 0 < writes_in extent writes
has-writes writes extent there =
    let of = extent-from writes extent there in
    subst (λ n. 0 < writes_in n writes) of.3 (some-writes writes of.0 of.1 of.2)

-- the extents of a list
abbrev extents : List Active → List ℕ
extents active = map (λ (b : Active). b.extent) active

has-active : (active : List Active) (n : ℕ) → list_any (λ (b : Active). n == b.extent) active ≡ true → has (extents active) n ≡ true
has-active [] n there = absurd (cc)
has-active (a ∷ active) n there = elim (or_cases (n == a.extent) (list_any (λ (b : Active). n == b.extent) active) there) [
  | inl here ↦ or_left (a.extent == n) (has (extents active) n) (same-either a.extent n ∙ here)
  | inr later ↦ or_right (a.extent == n) (has (extents active) n) (has-active active n later)
]

-- no more extents have writes than these, where each of them is among these
few-extents : (writes : List Accepted) (active : List Active)
    → ((extent : ℕ) → 0 < writes_in extent writes → list_any (λ (b : Active). extent == b.extent) active ≡ true)
    → length (active_extents_of writes) ≤ length active
few-extents writes active all =
    let bound = extents-bound writes (extents active)
    (λ i a at. has-active active (extent_of a.write.first) (all (extent_of a.write.first) (some-writes writes i a at))) in
    let size = length-map active (λ (b : Active). b.extent) in
    omega arith

apart-extents : (n : ℕ) (l : List Active) → list_any (λ (b : Active). n == b.extent) l ≡ false → AllByRecursion (λ m. (n == m) ≡ false) (extents l)
apart-extents n [] none = tt
apart-extents n (b ∷ l) none = let parts = or_parts (n == b.extent) (list_any (λ (b : Active). n == b.extent) l) none in (parts.0, apart-extents n l parts.1)

distinct : (l : List Active) → AreOnce l → IsDistinct (λ a b. a == b) (extents l)
unfolding IsDistinct
distinct [] once = tt
distinct (a ∷ l) once = (apart-extents a.extent l once.0, distinct l once.1)

-- where no active extent is idle, each has writes
all-busy : (writes : List Accepted) (active : List Active) → AreOnce active → ((extent : ℕ) → writes_of extent active ≡ writes_in extent writes)
    → has_idle active ≡ false → length active ≤ length (active_extents_of writes)
all-busy writes active once counts busy =
    let size = length-map active (λ (b : Active). b.extent) in
    let bound = length-le_from_is_member nat_eq_equiv (extents active) (active_extents_of writes) (distinct active once) member in
    omega arith
  where
    -- an active extent of this list has writes
    busy-at : (l : List Active) → has_idle l ≡ false → AreOnce l → (q : ℕ) → list_any (λ m. q == m) (extents l) ≡ true → 0 < writes_of q l
    busy-at [] none once q there = absurd (cc)
    busy-at (a ∷ l) none once q there = go (busy-at l (or_parts (a.writes == 0) (has_idle l) none).1 once.1 q) (q == a.extent) refl
      where
        some : (n : ℕ) → (n == 0) ≡ false → 0 < n
        some zero is = absurd (cc)
        some (suc n) is = omega arith

        go : (list_any (λ m. q == m) (extents l) ≡ true → 0 < writes_of q l) → (b : Bool) → (q == a.extent) ≡ b → 0 < (if b then a.writes else writes_of q l)
        go rest true is = some a.writes (or_parts (a.writes == 0) (has_idle l) none).0
        go rest false is = rest (sym (ap (λ b. b || list_any (λ m. q == m) (extents l)) is) ∙ there)

    member : (q : ℕ) → list_any (λ m. q == m) (extents active) ≡ true → list_any (λ m. q == m) (active_extents_of writes) ≡ true
    member q there =
        let some = busy-at active busy once q there in
        let n = counts q in
        let one = some_there writes q (omega arith) in
        one
      where
        some_there : (ws : List Accepted) (q : ℕ) → 0 < writes_in q ws → list_any (λ m. q == m) (active_extents_of ws) ≡ true
        some_there ws q some =
            let got = get-there (filter (λ (x : Accepted). q == extent_of x.write.first) ws) 0 some in
            let stood = pick-filtered (λ (x : Accepted). q == extent_of x.write.first) ws 0 got.0 got.1 in
            flipped (active_extents_of ws) q (subst (λ n. has (active_extents_of ws) n ≡ true) (sym (eqb-true q (extent_of got.0.write.first) stood.2))
            (has-extent ws stood.0 got.0 stood.1))
          where
            flipped : (ns : List ℕ) (n : ℕ) → has ns n ≡ true → list_any (λ m. n == m) ns ≡ true
            flipped [] n there = there
            flipped (m ∷ ns) n there = elim (or_cases (m == n) (has ns n) there) [
              | inl here ↦ or_left (n == m) (list_any (λ m. n == m) ns) (same-either n m
                  ∙ here)
              | inr later ↦ or_right (n == m) (list_any (λ m. n == m) ns) (flipped ns n later)
            ]

-- The log may take a write exactly where the history does not find it full.
pub can-begin-is : (a : ActivityState) (slots extent : ℕ) (writes : List Accepted) → LeavesActivity a slots writes
    → not (can_begin extent a) ≡ is_full slots writes extent
can-begin-is a slots extent writes left = by-active (is_active extent a.active) refl
  where
    few : length a.active ≤ slots
    few = left.few

    not-full : length (active_extents_of writes) < slots → is_full slots writes extent ≡ false
    not-full = full-room slots writes extent

    by-active : (b : Bool) → is_active extent a.active ≡ b
        → not ((is_active extent a.active || nat_lt (length a.active) a.slots) || has_idle a.active) ≡ is_full slots writes extent
    by-active true is = (λ i. not ((is i || nat_lt (length a.active) a.slots) || has_idle a.active)) ∙ sym (by-has (has (active_extents_of writes) extent) refl)
      where
        by-has : (b : Bool) → has (active_extents_of writes) extent ≡ b → is_full slots writes extent ≡ false
        by-has true there = full-there slots writes extent there
        by-has false none =
            let size = other-length extent a.active is in
            let bound = few-extents writes (other_than extent a.active) (λ other some. elsewhere other some (other == extent) refl) in
            not-full (omega arith)
          where
            elsewhere : (other : ℕ) → 0 < writes_in other writes → (b : Bool) → (other == extent) ≡ b
                → list_any (λ (b : Active). other == b.extent) (other_than extent a.active) ≡ true
            elsewhere other some true same =
                absurd (both_ways (has (active_extents_of writes) extent) none
                (subst (λ n. has (active_extents_of writes) n ≡ true) (eqb-true other extent same) (there other some)))
              where
                there : (other : ℕ) → 0 < writes_in other writes → has (active_extents_of writes) other ≡ true
                there other some =
                    let got = get-there (filter (λ (x : Accepted). other == extent_of x.write.first) writes) 0 some in
                    let stood = pick-filtered (λ (x : Accepted). other == extent_of x.write.first) writes 0 got.0 got.1 in
                    subst (λ n. has (active_extents_of writes) n ≡ true) (sym (eqb-true other (extent_of got.0.write.first) stood.2))
                    (has-extent writes stood.0 got.0 stood.1)
            elsewhere other some false apart = other-active extent other a.active apart ∙ left.active other some
    by-active false out = by-room (nat_lt (length a.active) a.slots) refl (has_idle a.active) refl
      where
        limit : a.slots ≡ slots
        limit = left.limit

        by-room : (b : Bool) → nat_lt (length a.active) a.slots ≡ b → (d : Bool) → has_idle a.active ≡ d
            → not ((is_active extent a.active || nat_lt (length a.active) a.slots) || has_idle a.active) ≡ is_full slots writes extent
        by-room true room d idle =
            let less = ltb-true (length a.active) a.slots room in
            let bound = few-extents writes a.active left.active in
            (λ i. not ((out i || room i) || has_idle a.active)) ∙ sym (not-full (omega arith))
        by-room false full true idle =
            let size = oldest-length a.active idle in
            let bound = few-extents writes (without_oldest_idle a.active)
            (λ other some. oldest-active a.active left.once idle other (let n = left.counts other in omega arith)) in
            (λ i. not ((out i || full i) || idle i)) ∙ sym (not-full (omega arith))
        by-room false full false busy =
            let many = ltb-false (length a.active) a.slots full in
            let bound = all-busy writes a.active left.once left.counts busy in
            let none : has (active_extents_of writes) extent ≡ false = false_from_ne_true (has (active_extents_of writes) extent)
            (λ there. both_ways (is_active extent a.active) out (left.active extent (has-writes writes extent there))) in
            (λ i. not ((out i || full i) || busy i)) ∙ sym (full-out slots writes extent none (omega arith))
