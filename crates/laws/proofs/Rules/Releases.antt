-- When a write is released: what holds of one that is, that such a one is, and that another is released alike.
use Rattle.std.proofs.Common.{◌≡◌, ◌⊎◌, inl, inr, Bool, true, false, not, ◌&&◌, ◌||◌, refl, sym, ap}
use Rattle.std.proofs.lemmas.Bool.{both_ways, and_parts, and_from, or_cases, or_left, or_right, not-true}
use Rattle.model.specs.Primary.{Accepted, PrimaryHistory, is_waiting, is_alone, is_confirmed, is_released}

-- What it waits for beside the local disk: its epoch is acknowledged, or it is without a connection.
abbrev pub is_freed : PrimaryHistory → Accepted → Bool
is_freed h a = is_confirmed h a || is_alone h a

-- one of the two holds
pub freed-cases : (h : PrimaryHistory) (a : Accepted) → is_freed h a ≡ true → (is_confirmed h a ≡ true) ⊎ (is_alone h a ≡ true)
freed-cases h a freed = or_cases (is_confirmed h a) (is_alone h a) freed

-- with a connection it is the first
pub freed-linked : (h : PrimaryHistory) (a : Accepted) → is_freed h a ≡ true → is_alone h a ≡ false → is_confirmed h a ≡ true
freed-linked h a freed linked = elim (freed-cases h a freed) [ inl is ↦ is | inr alone ↦ absurd (both_ways (is_alone h a) linked alone) ]

-- either will do
pub freed-confirmed : (h : PrimaryHistory) (a : Accepted) → is_confirmed h a ≡ true → is_freed h a ≡ true
freed-confirmed h a confirmed = or_left (is_confirmed h a) (is_alone h a) confirmed

pub freed-alone : (h : PrimaryHistory) (a : Accepted) → is_alone h a ≡ true → is_freed h a ≡ true
freed-alone h a alone = or_right (is_confirmed h a) (is_alone h a) alone

-- where both are the same, it waits alike
pub freed-same : (h later : PrimaryHistory) (a b : Accepted) → is_confirmed later b ≡ is_confirmed h a → is_alone later b ≡ is_alone h a
    → is_freed later b ≡ is_freed h a
freed-same h later a b confirmed alone = λ i. confirmed i || alone i

-- A released write: its local write is done or failed, and it waits for nothing else.
pub record IsReleased (h : PrimaryHistory) (a : Accepted) : Type 0 where
  pub done : is_waiting a.outcome ≡ false
  pub freed : is_freed h a ≡ true

pub released-parts : (h : PrimaryHistory) (a : Accepted) → is_released h a ≡ true → IsReleased h a
released-parts h a released =
    let parts = and_parts (not (is_waiting a.outcome)) (is_freed h a) released in
    record { done = not-true (is_waiting a.outcome) parts.0; freed = parts.1 }

-- the other way
pub released-by : (h : PrimaryHistory) (a : Accepted) → is_waiting a.outcome ≡ false → is_freed h a ≡ true → is_released h a ≡ true
released-by h a done freed = and_from (not (is_waiting a.outcome)) (is_freed h a) (ap not done) freed

-- one that waits for the local disk is not released
pub held-waiting : (h : PrimaryHistory) (a : Accepted) → is_waiting a.outcome ≡ true → is_released h a ≡ false
held-waiting h a waits = ap (λ w. not w && is_freed h a) waits

-- nor is one with a connection whose epoch is not acknowledged
pub held-linked : (h : PrimaryHistory) (a : Accepted) → is_confirmed h a ≡ false → is_alone h a ≡ false → is_released h a ≡ false
held-linked h a unconfirmed linked = go (is_waiting a.outcome) (is_confirmed h a) (is_alone h a) unconfirmed linked
  where
    go : (w c l : Bool) → c ≡ false → l ≡ false → (not w && (c || l)) ≡ false
    go true c l none off = refl
    go false false false none off = refl
    go false true l none off = absurd (cc)
    go false false true none off = absurd (cc)

-- one without a connection waits for the local disk alone
pub released-none : (h : PrimaryHistory) (a : Accepted) → is_alone h a ≡ true → is_released h a ≡ not (is_waiting a.outcome)
released-none h a alone = go (not (is_waiting a.outcome)) (is_confirmed h a) (is_alone h a) alone
  where
    go : (w c l : Bool) → l ≡ true → (w && (c || l)) ≡ w
    go true true l on = refl
    go true false l on = on
    go false c l on = refl

-- the same write is released alike, where its epoch is acknowledged alike, and it is without a connection alike
pub released-same : (h later : PrimaryHistory) (a : Accepted) → is_confirmed later a ≡ is_confirmed h a → is_alone later a ≡ is_alone h a
    → is_released later a ≡ is_released h a
released-same h later a confirmed alone = λ i. not (is_waiting a.outcome) && (confirmed i || alone i)

-- whatever asks the same says when it is
pub released-with : (h : PrimaryHistory) (a : Accepted) (done alone confirmed : Bool) → done ≡ not (is_waiting a.outcome) → alone ≡ is_alone h a
    → (is_alone h a ≡ false → is_confirmed h a ≡ confirmed) → (done && (alone || confirmed)) ≡ is_released h a
released-with h a done alone confirmed is_local is_unlinked returned =
    λ i. is_local i && go alone (is_alone h a) (is_confirmed h a) is_unlinked returned i
  where
    go : (x y z : Bool) → x ≡ y → (y ≡ false → z ≡ confirmed) → (x || confirmed) ≡ (z || y)
    go true true true same returned = refl
    go true true false same returned = refl
    go false false true same returned = sym (returned refl)
    go false false false same returned = sym (returned refl)
    go true false z same returned = absurd (cc)
    go false true z same returned = absurd (cc)
