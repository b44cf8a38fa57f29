-- What is pending was taken, before a step and after it.
use Rattle.std.proofs.Common.{ℕ, ◌≡◌, ◌+◌, ◌≤◌, Bool, true, false, List, [], ◌∷◌, length, Option, Some, None, Result, Ok, Err, refl, sym, ◌∙◌, ap}
use Rattle.std.proofs.Common.{subst, arith, nat_eq, nat_le}
use Rattle.std.specs.Prelude.{IfOk, IsOk, MatchResult, filter, is_some}
use Rattle.std.specs.List.{AllByRecursion}
use Rattle.blocks.specs.declared.refusal.Refusal.{Refusal}
use Rattle.blocks.specs.declared.refusal.Refusal.TheVariants.{EpochOpen, UnknownJob}
use Rattle.model.specs.Stream.{StreamItem, contents_of, first_of}
use Rattle.peerdisk.specs.Pending.{Pending, after_fault, at_place, epoch_at, has_earlier, is_pending, start, without}
use Rattle.peerdisk.proofs.Pendings.{all-filter, all-without, pending-is, start-none}
use Rattle.secondary_protocol.specs.Core.{Intake}
use Rattle.secondary_core.specs.State.{IsOf}

-- More was taken.
pub of-more : (size : ℕ) (t u : Intake) (ps : List (Pending StreamItem)) → t.places ≤ u.places → t.barriers ≤ u.barriers → AllByRecursion (IsOf size t) ps
    → AllByRecursion (IsOf size u) ps
of-more size t u [] places barriers all = tt
of-more size t u (p ∷ ps) places barriers all =
    let here = all.0 in
    (record { place = omega (arith, here.place); epoch = omega (arith, here.epoch); inside = here.inside }, of-more size t u ps places barriers all.1)

-- nothing is pending
pub of-none : {X : Type 0} (P : X → Type 0) (xs : List X) → length xs ≡ 0 → AllByRecursion P xs
of-none P [] none = tt
of-none P (x ∷ xs) none = absurd (omega (arith, none))

-- An item that may start is pending.
pub may_start : {X : Type 0} (k : ℕ) (ps : List (Pending X)) → IsOk (start k ps) → is_pending k ps ≡ true
may_start {X} k ps may = by-item (at_place k ps) refl
  where
    by-item : (o : Option (Pending X)) → at_place k ps ≡ o → is_pending k ps ≡ true
    by-item None none = absurd (let never = rw (start-none k ps none) at may in cc)
    by-item (Some p) some = pending-is k ps ∙ ap is_some some

-- what holds of all that is pending holds of the item at a place
at-all : {X : Type 0} (P : Pending X → Type 0) (k : ℕ) (ps : List (Pending X)) (p : Pending X) → AllByRecursion P ps → at_place k ps ≡ Some p → P p
at-all P k [] p all some = absurd (cc)
at-all {X} P k (q ∷ ps) p all some = by-place (at-all P k ps p all.1) (nat_eq k q.place) refl
  where
    by-place : (at_place k ps ≡ Some p → P p) → (b : Bool) → nat_eq k q.place ≡ b → P p
    by-place rest true is = let here : Some q ≡ Some p = rw is at some in let one : q ≡ p = cc in subst P one all.0
    by-place rest false is = rest (rw is at some)

-- The item that may start is one that was taken.
pub start-inside : (size : ℕ) (t : Intake) (k : ℕ) (ps : List (Pending StreamItem)) (item : StreamItem) → AllByRecursion (IsOf size t) ps → start k ps ≡ Ok item
    → first_of item + length (contents_of item) ≤ size
start-inside size t k ps item all started = by-item (at_place k ps) refl
  where
    by-item : (o : Option (Pending StreamItem)) → at_place k ps ≡ o → first_of item + length (contents_of item) ≤ size
    by-item None none = absurd (let other : Err UnknownJob ≡ Ok item = sym (start-none k ps none) ∙ started in cc)
    by-item (Some p) some = by-epoch (has_earlier k ps) refl
      where
        by-epoch : (b : Bool) → has_earlier k ps ≡ b → first_of item + length (contents_of item) ≤ size
        by-epoch true held = absurd (let other : Err EpochOpen ≡ Ok item = sym (rw (some, held) refl) ∙ started in cc)
        by-epoch false held =
            let same : Ok p.item ≡ Ok item = sym (rw (some, held) refl) ∙ started in
            let one : p.item ≡ item = cc in
            subst (λ (x : StreamItem). first_of x + length (contents_of x) ≤ size) one (at-all (IsOf size t) k ps p all some).inside

-- One item goes.
pub one_less : {X : Type 0} (k : ℕ) (ps : List (Pending X)) → is_pending k ps ≡ true → length (without k ps) + 1 ≡ length ps
one_less k [] there = absurd (cc)
one_less {X} k (p ∷ ps) there = by-place (one_less k ps) (nat_eq k p.place) refl
  where
    by-place : (is_pending k ps ≡ true → length (without k ps) + 1 ≡ length ps) → (b : Bool) → nat_eq k p.place ≡ b
        → length (without k (p ∷ ps)) + 1 ≡ length (p ∷ ps)
    by-place rest true is = rw is (omega arith)
    by-place rest false is = let less = rest (rw is at there) in rw is (omega (arith, less))

no-more : {X : Type 0} (test : X → Bool) (xs : List X) → length (filter test xs) ≤ length xs
no-more test [] = omega arith
no-more {X} test (x ∷ xs) = by-test (no-more test xs) (test x) refl
  where
    by-test : length (filter test xs) ≤ length xs → (b : Bool) → test x ≡ b → length (filter test (x ∷ xs)) ≤ length (x ∷ xs)
    by-test rest true is = rw is (omega (arith, rest))
    by-test rest false is = rw is (omega (arith, rest))

-- After a fault no more is pending than before, and it was taken.
pub fewer : {X : Type 0} (k : ℕ) (ps : List (Pending X)) → is_pending k ps ≡ true → length (after_fault k ps) ≤ length ps
fewer k ps there = omega (arith, no-more (λ p. nat_le p.epoch (epoch_at k ps)) (without k ps), one_less k ps there)

pub all-after : {X : Type 0} (P : Pending X → Type 0) (k : ℕ) (ps : List (Pending X)) → AllByRecursion P ps → AllByRecursion P (after_fault k ps)
all-after P k ps all = all-filter P (λ p. nat_le p.epoch (epoch_at k ps)) (without k ps) (all-without P k ps all)

pub started-inside : {R : Type 0} (now : R → StreamItem) (r : Result R Refusal) (size : ℕ) (t : Intake) (k : ℕ) (ps : List (Pending StreamItem))
    → AllByRecursion (IsOf size t) ps
    → MatchResult r (λ x. start k ps ≡ Ok (now x)) (λ e. start k ps ≡ Err e) → IfOk r (λ x. first_of (now x) + length (contents_of (now x)) ≤ size)
started-inside now (Ok x) size t k ps all started = start-inside size t k ps (now x) all started
started-inside now (Err e) size t k ps all started = tt
