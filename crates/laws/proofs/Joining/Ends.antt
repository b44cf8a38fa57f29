-- The two ends of a connection, by where they stand and by its number.
use Rattle.std.proofs.Common.{ℕ, zero, suc, ◌≡◌, ◌⊎◌, inl, inr, Bool, true, false, List, [], ◌∷◌, Option, Some, None, slice_get, refl, sym, ◌∙◌, ap, subst}
use Rattle.std.proofs.Common.{arith}
use Rattle.std.specs.Prelude.{filter_map, unwrap_or, drop}
use Rattle.model.specs.Stream.{StreamItem, IsBeginning}
use Rattle.model.specs.Frames.{Received, counting}
use Rattle.model.specs.Primary.{PrimaryConnection, PrimaryHistory, no_primary_connection, primary_connection_at}
use Rattle.model.specs.Secondary.{SecondaryConnection, SecondaryHistory, no_secondary_connection, secondary_connection_at, items_taken, received_item}
use Rattle.model.specs.Headline.{IsJoined, pushed_by, pushed_back_by}
use Rattle.laws.proofs.Lists.Elements.{append-empty}
use Rattle.laws.proofs.Secondary.Numbers.{NumbersRise, secondary-connection-there, secondary-connection-cases}

-- The two ends of a connection that both nodes opened: where they stand, and that they have its number.
pub record AreEnds (p : PrimaryHistory) (s : SecondaryHistory) (k j : ℕ) (c : PrimaryConnection) (d : SecondaryConnection) : Type 0 where
  pub primary_connection : slice_get p.connections k ≡ Some c
  pub secondary_connection : slice_get s.connections j ≡ Some d
  pub number : d.number ≡ suc k

-- the primary's end of a number that it opened
pub primary-connection-there : (p : PrimaryHistory) (k : ℕ) (c : PrimaryConnection) → slice_get p.connections k ≡ Some c → primary_connection_at p (suc k) ≡ c
primary-connection-there p k c at = ap (λ (v : Option PrimaryConnection). unwrap_or v (no_primary_connection p.tuple)) at

-- it opened the number, or its end is one that was never open
pub primary-connection-cases : (p : PrimaryHistory) (k : ℕ)
    → ((c : PrimaryConnection) × (slice_get p.connections k ≡ Some c) × (primary_connection_at p (suc k) ≡ c))
    ⊎ (primary_connection_at p (suc k) ≡ no_primary_connection p.tuple)
primary-connection-cases p k = go (slice_get p.connections k) refl
  where
    go : (v : Option PrimaryConnection) → slice_get p.connections k ≡ v
        → ((c : PrimaryConnection) × (slice_get p.connections k ≡ Some c) × (primary_connection_at p (suc k) ≡ c))
        ⊎ (primary_connection_at p (suc k) ≡ no_primary_connection p.tuple)
    go None is = inr (ap (λ (v : Option PrimaryConnection). unwrap_or v (no_primary_connection p.tuple)) is)
    go (Some c) is = inl (c, is, ap (λ (v : Option PrimaryConnection). unwrap_or v (no_primary_connection p.tuple)) is)

-- what an end of a connection took begins what the other end pushed
pub joined-out : (p : PrimaryHistory) (s : SecondaryHistory) → NumbersRise s.connections → IsJoined p s
    → (k j : ℕ) (c : PrimaryConnection) (d : SecondaryConnection)
    → AreEnds p s k j c d → IsBeginning d.taken (pushed_by p c)
joined-out p s rise joined k j c d ends =
    let there : secondary_connection_at s (suc k) ≡ d = subst (λ n. secondary_connection_at s n ≡ d) ends.number
    (secondary-connection-there s rise j d ends.secondary_connection) in
    subst (λ (x : SecondaryConnection). IsBeginning x.taken (pushed_by p c)) there
    (subst (λ (x : PrimaryConnection). IsBeginning (secondary_connection_at s (suc k)).taken (pushed_by p x))
    (primary-connection-there p k c ends.primary_connection) (joined.out (suc k)))

-- the other way
pub joined-back : (p : PrimaryHistory) (s : SecondaryHistory) → NumbersRise s.connections → IsJoined p s
    → (k j : ℕ) (c : PrimaryConnection) (d : SecondaryConnection)
    → AreEnds p s k j c d → IsBeginning c.taken (pushed_back_by s d)
joined-back p s rise joined k j c d ends =
    let there : secondary_connection_at s (suc k) ≡ d = subst (λ n. secondary_connection_at s n ≡ d) ends.number
    (secondary-connection-there s rise j d ends.secondary_connection) in
    subst (λ (x : SecondaryConnection). IsBeginning c.taken (pushed_back_by s x)) there
    (subst (λ (x : PrimaryConnection). IsBeginning x.taken (pushed_back_by s (secondary_connection_at s (suc k))))
    (primary-connection-there p k c ends.primary_connection) (joined.back (suc k)))

-- an end that took something did not stand against one that was never open
some-taken : (taken : List Received) (n : ℕ) (frame : Received) → IsBeginning taken [] → slice_get taken n ≡ Some frame → ⊥
some-taken taken n frame begins at = let none = append-empty taken begins.0 begins.1 in let there : slice_get [] n ≡ Some frame =
    subst (λ (l : List Received). slice_get l n ≡ Some frame) none at in cc (there)

-- A connection on which the primary took a frame was opened by the secondary too.
pub secondary-end : (p : PrimaryHistory) (s : SecondaryHistory) → IsJoined p s → (k n : ℕ) (c : PrimaryConnection) (frame : Received)
    → slice_get p.connections k ≡ Some c
    → slice_get c.taken n ≡ Some frame → (j : ℕ) × (d : SecondaryConnection) × AreEnds p s k j c d
secondary-end p s joined k n c frame at taken = elim (secondary-connection-cases s (suc k)) [
  | inl found ↦ (found.0, found.1, record { primary_connection = at; secondary_connection = found.2; number = found.3 })
  | inr none ↦ absurd (
      let back : IsBeginning c.taken (pushed_back_by s (no_secondary_connection s)) =
      subst (λ (x : SecondaryConnection). IsBeginning c.taken (pushed_back_by s x)) none
      (subst (λ (x : PrimaryConnection). IsBeginning x.taken (pushed_back_by s (secondary_connection_at s (suc k)))) (primary-connection-there p k c at)
      (joined.back (suc k))) in
      some-taken c.taken n frame back taken)
]

-- A connection on which the secondary took a frame was opened by the primary.
pub primary-end : (p : PrimaryHistory) (s : SecondaryHistory) → NumbersRise s.connections → IsJoined p s
    → (j n : ℕ) (d : SecondaryConnection) (frame : Received)
    → slice_get s.connections j ≡ Some d → slice_get d.taken n ≡ Some frame
    → (k : ℕ) × (c : PrimaryConnection) × AreEnds p s k j c d
primary-end p s rise joined j n d frame at taken = go d.number refl
  where
    out : IsBeginning d.taken (pushed_by p (primary_connection_at p d.number))
    out = subst (λ (x : SecondaryConnection). IsBeginning x.taken (pushed_by p (primary_connection_at p d.number))) (secondary-connection-there s rise j d at)
        (joined.out d.number)

    go : (number : ℕ) → d.number ≡ number → (k : ℕ) × (c : PrimaryConnection) × AreEnds p s k j c d
    go zero is = absurd (let low = rise.some j d at in omega arith)
    go (suc k) is = elim (primary-connection-cases p k) [
      | inl found ↦ (k, found.0, record { primary_connection = found.1; secondary_connection = at; number = is })
      | inr none ↦ absurd (
          let nothing : IsBeginning d.taken (pushed_by p (no_primary_connection p.tuple)) =
          subst (λ (x : PrimaryConnection). IsBeginning d.taken (pushed_by p x)) none
          (subst (λ (m : ℕ). IsBeginning d.taken (pushed_by p (primary_connection_at p m))) is out) in
          some-taken d.taken n frame nothing taken)
    ]

-- an end that has an item took a frame
pub item-taken : (d : SecondaryConnection) (n : ℕ) (item : StreamItem) → slice_get (items_taken d) n ≡ Some item
    → (m : ℕ) × (frame : Received) × (slice_get d.taken m ≡ Some frame)
item-taken d n item at = go d.taken refl
  where
    nothing : (b : Bool) → filter_map received_item (drop 3 (counting b [])) ≡ []
    nothing true = refl
    nothing false = refl

    go : (l : List Received) → d.taken ≡ l → (m : ℕ) × (frame : Received) × (slice_get d.taken m ≡ Some frame)
    go [] is = absurd (
        let none : items_taken d ≡ [] = ap (λ (l : List Received). filter_map received_item (drop 3 (counting d.refused l))) is ∙ nothing d.refused in
        let there : slice_get [] n ≡ Some item = subst (λ (l : List StreamItem). slice_get l n ≡ Some item) none at in
        cc (there))
    go (frame ∷ rest) is = (0, frame, ap (λ (l : List Received). slice_get l 0) is)

-- what holds of every connection, and of an end that was never open, holds of each look-up
pub each-at : (P : SecondaryConnection → Type 0) (s : SecondaryHistory) → ((j : ℕ) (d : SecondaryConnection) → slice_get s.connections j ≡ Some d → P d)
    → P (no_secondary_connection s) → (number : ℕ)
    → P (secondary_connection_at s number)
each-at P s all none number = elim (secondary-connection-cases s number) [
  | inl found ↦ subst P (sym found.4) (all found.0 found.1 found.2)
  | inr never ↦ subst P
      (sym never) none
]
