-- What goes at the ends of a row.
use Rattle.std.proofs.Common.{ℕ, zero, suc, ◌≡◌, ◌+◌, ◌≤◌, Bool, true, false, List, [], ◌∷◌, ◌++◌, length, Option, Some, None, refl, sym, ◌∙◌, ap, arith}
use Rattle.std.proofs.Common.{nat_le, get_or}
use Rattle.std.specs.Prelude.{filter, is_some}
use Rattle.std.specs.Int.{from_bool}
use Rattle.std.specs.List.{AllByRecursion}
use Rattle.std.proofs.lemmas.Bool.Decides.{nat_tests}
use Rattle.peerdisk.specs.Pending.{Pending}
use Rattle.peerdisk.specs.Slots.{AreInOrder, of_filled, pending_from, Filled}

-- whether a slot has an item of no later epoch
abbrev pub early : {X : Type 0} → ℕ → Option (Filled X) → Bool
early epoch None = false
early epoch (Some e) = nat_le e.epoch epoch

-- The order is the same whatever place is first.
all-shift : {X : Type 0} (epoch first other : ℕ) (slots : List (Option (Filled X))) → AllByRecursion (λ later. epoch ≤ later.epoch) (pending_from first slots)
    → AllByRecursion (λ later. epoch ≤ later.epoch) (pending_from other slots)
all-shift epoch first other [] all = tt
all-shift epoch first other (None ∷ slots) all = all-shift epoch (suc first) (suc other) slots all
all-shift epoch first other (Some e ∷ slots) all = (all.0, all-shift epoch (suc first) (suc other) slots all.1)

pub order-shift : {X : Type 0} (first other : ℕ) (slots : List (Option (Filled X))) → AreInOrder (pending_from first slots)
    → AreInOrder (pending_from other slots)
order-shift first other [] order = tt
order-shift first other (None ∷ slots) order = order-shift (suc first) (suc other) slots order
order-shift first other (Some e ∷ slots) order = (all-shift e.epoch (suc first) (suc other) slots order.0, order-shift (suc first) (suc other) slots order.1)

-- The last slot goes.
all-init : {X : Type 0} (epoch first : ℕ) (x : Option (Filled X)) (slots : List (Option (Filled X)))
    → AllByRecursion (λ later. epoch ≤ later.epoch) (pending_from first (slots ++ x ∷ []))
    → AllByRecursion (λ later. epoch ≤ later.epoch) (pending_from first slots)
all-init epoch first x [] all = tt
all-init epoch first x (None ∷ slots) all = all-init epoch (suc first) x slots all
all-init epoch first x (Some e ∷ slots) all = (all.0, all-init epoch (suc first) x slots all.1)

pub order-init : {X : Type 0} (first : ℕ) (x : Option (Filled X)) (slots : List (Option (Filled X))) → AreInOrder (pending_from first (slots ++ x ∷ []))
    → AreInOrder (pending_from first slots)
order-init first x [] order = tt
order-init first x (None ∷ slots) order = order-init (suc first) x slots order
order-init first x (Some e ∷ slots) order = (all-init e.epoch (suc first) x slots order.0, order-init (suc first) x slots order.1)

-- how many items a slot has
abbrev pub items_in : {X : Type 0} → Option X → ℕ
items_in x = from_bool (is_some x)

pub length-last : {X : Type 0} (first : ℕ) (x : Option (Filled X)) (slots : List (Option (Filled X)))
    → length (pending_from first (slots ++ x ∷ [])) ≡ length (pending_from first slots) + items_in x
length-last first None [] = refl
length-last first (Some e) [] = refl
length-last first x (None ∷ slots) = length-last (suc first) x slots
length-last first x (Some e ∷ slots) = let more = length-last (suc first) x slots in omega (arith, more)

abbrev pub kept : {X : Type 0} → ℕ → List (Pending X) → List (Pending X)
kept epoch ps = filter (λ p. nat_le p.epoch epoch) ps

pub kept-last : {X : Type 0} (epoch first : ℕ) (x : Option (Filled X)) (slots : List (Option (Filled X))) → early epoch x ≡ false
    → kept epoch (pending_from first (slots ++ x ∷ [])) ≡ kept epoch (pending_from first slots)
kept-last epoch first None [] late = refl
kept-last epoch first (Some e) [] late = rw late refl
kept-last epoch first x (None ∷ slots) late = kept-last epoch (suc first) x slots late
kept-last {X} epoch first x (Some e ∷ slots) late = go (kept-last epoch (suc first) x slots late) (nat_le e.epoch epoch) refl
  where
    go : kept epoch (pending_from (suc first) (slots ++ x ∷ [])) ≡ kept epoch (pending_from (suc first) slots) → (b : Bool) → nat_le e.epoch epoch ≡ b
        → kept epoch (of_filled first e ∷ pending_from (suc first) (slots ++ x ∷ [])) ≡ kept epoch (of_filled first e ∷ pending_from (suc first) slots)
    go rest true is = rw is (ap (λ ps. of_filled first e ∷ ps) rest)
    go rest false is = rw is rest

-- Where the last slot stays, all do.
last_of_all : {X : Type 0} (low epoch first i : ℕ) (x : Option (Filled X)) (slots : List (Option (Filled X)))
    → AllByRecursion (λ later. low ≤ later.epoch) (pending_from first slots)
    → x ≡ get_or slots i None → early epoch x ≡ true → low ≤ epoch
last_of_all low epoch first i x [] all read is = cc
last_of_all low epoch first zero x (None ∷ slots) all read is = cc
last_of_all low epoch first zero x (Some e ∷ slots) all read is = let early : nat_le e.epoch epoch ≡ true = cc in grind (arith, nat_tests, all.0, early)
last_of_all low epoch first (suc i) x (None ∷ slots) all read is = last_of_all low epoch (suc first) i x slots all read is
last_of_all low epoch first (suc i) x (Some e ∷ slots) all read is = last_of_all low epoch (suc first) i x slots all.1 read is

pub kept-all : {X : Type 0} (epoch first i : ℕ) (x : Option (Filled X)) (slots : List (Option (Filled X))) → i + 1 ≡ length slots → x ≡ get_or slots i None
    → early epoch x ≡ true → AreInOrder (pending_from first slots)
    → pending_from first slots ≡ kept epoch (pending_from first slots)
kept-all epoch first i x [] long read is order = refl
kept-all epoch first zero x (None ∷ slots) long read is order = cc
kept-all epoch first zero x (Some e ∷ []) long read is order = let early : nat_le e.epoch epoch ≡ true = cc in rw early refl
kept-all epoch first zero x (Some e ∷ y ∷ slots) long read is order = absurd (omega arith)
kept-all epoch first (suc i) x (None ∷ slots) long read is order = kept-all epoch (suc first) i x slots (omega arith) read is order
kept-all epoch first (suc i) x (Some e ∷ slots) long read is order =
    let low : e.epoch ≤ epoch = last_of_all e.epoch epoch (suc first) i x slots order.0 read is in
    let early : nat_le e.epoch epoch ≡ true = grind (arith, nat_tests) in
    rw early (ap (λ ps. of_filled first e ∷ ps) (kept-all epoch (suc first) i x slots (omega arith) read is order.1))

pub kept-none : {X : Type 0} (epoch first : ℕ) (slots : List (Option (Filled X))) → length slots ≡ 0
    → pending_from first slots ≡ kept epoch (pending_from first slots)
kept-none epoch first [] none = refl
kept-none epoch first (x ∷ slots) none = absurd (omega arith)

-- The last slot has an item of a later epoch, or is a hole: it goes.
pub record LastGone {X : Type 0} (epoch dropped one : ℕ) (new before : List (Option (Filled X))) : Type 0 where
  pub order : AreInOrder (pending_from 0 new)
  pub items : (first : ℕ) → kept epoch (pending_from first new) ≡ kept epoch (pending_from first before)
  pub count : (first : ℕ) → dropped + one + length (pending_from first new) ≡ length (pending_from first before)

pub last-gone : {X : Type 0} (epoch dropped one : ℕ) (x : Option (Filled X)) (slots new before : List (Option (Filled X))) → slots ≡ new ++ x ∷ []
    → early epoch x ≡ false → one ≡ items_in x
    → AreInOrder (pending_from 0 slots) → ((first : ℕ) → kept epoch (pending_from first slots) ≡ kept epoch (pending_from first before))
    → ((first : ℕ) → dropped + length (pending_from first slots) ≡ length (pending_from first before)) → LastGone epoch dropped one new before
last-gone epoch dropped one x slots new before was late is order items count = record {
  order = order-init 0 x new (rw (← was) order);
  items = λ (first : ℕ). sym (kept-last epoch first x new late) ∙ rw (← was) (items first);
  count = λ (first : ℕ). let long = ap (λ xs. length (pending_from first xs)) was
      ∙ length-last first x new in let all = count first in omega (arith, long, all, is);
}
