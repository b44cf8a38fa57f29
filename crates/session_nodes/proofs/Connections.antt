-- The connections of an end by their numbers: what an opening adds to those before it.
use Rattle.std.proofs.Common.{ℕ, ◌≡◌, ◌<◌, ◌≤◌, Bool, true, false, List, [], ◌∷◌, ◌++◌, refl, sym, ◌∙◌, ap, subst, arith, ◌==◌}
use Rattle.std.specs.Prelude.{if◌then◌else◌}
use Rattle.std.specs.List.{AllByRecursion}
use Rattle.std.proofs.lemmas.Bool.{both_ways, eqb-true, eq-eqb, ne_eqb}
use Rattle.endpoint.specs.PacketReceiver.{TakenBefore}
use Rattle.endpoint.specs.PacketSender.{PushedBefore}
use Rattle.endpoint.specs.Joined.{pushed_past, taken_past}

-- what is known at each number, where it is known at the present connection's and at any other
pub by-number : {X : Type 0} (here : ℕ) (now : X) (past known : ℕ → X) → now ≡ known here → ((number : ℕ) → (number ≡ here → ⊥) → past number ≡ known number)
    → (number : ℕ) → (if here == number then now else past number) ≡ known number
by-number here now past known present before number = go (here == number) refl
  where
    go : (b : Bool) → (here == number) ≡ b → (if b then now else past number) ≡ known number
    go true same = present ∙ ap known (eqb-true here number same)
    go false other = before number (λ is. both_ways (here == number) other (eq-eqb here number (sym is)))

-- a connection of another number than the present one is one before it
pub earlier : {X : Type 0} (here number : ℕ) (now past : X) → (number ≡ here → ⊥) → past ≡ (if here == number then now else past)
earlier here number now past other = sym (ap (λ b. if b then now else past) (ne_eqb here number (λ is. other (sym is))))

-- of two connections at most one has the number, so it does not matter which is tested first
either-first : {X : Type 0} (low high number : ℕ) (lower higher rest found : X) → low < high → found ≡ (if high == number then higher else rest)
    → (if low == number then lower else found) ≡ (if high == number then higher else (if low == number then lower else rest))
either-first low high number lower higher rest found less is = go (low == number) refl
  where
    go : (b : Bool) → (low == number) ≡ b → (if b then lower else found) ≡ (if high == number then higher else (if b then lower else rest))
    go true here =
        let same = eqb-true low number here in
        sym (ap (λ b. if b then higher else lower) (ne_eqb high number (λ is. omega arith)))
    go false here = is

-- where the numbers of the earlier connections are lower, a connection at the end of them is found by its number alone
pub past-more : (number : ℕ) (last : PushedBefore) (past : List PushedBefore) → AllByRecursion (λ (b : PushedBefore). b.number < last.number) past
    → pushed_past number (past ++ last ∷ []) ≡ (if last.number == number then last.pushed else pushed_past number past)
past-more number last [] lower = refl
past-more number last (b ∷ past) lower =
    either-first b.number last.number number b.pushed last.pushed (pushed_past number past) _ lower.0 (past-more number last past lower.1)

pub came-more : (number : ℕ) (last : TakenBefore) (past : List TakenBefore) → AllByRecursion (λ (b : TakenBefore). b.number < last.number) past
    → taken_past number (past ++ last ∷ []) ≡ (if last.number == number then last.taken else taken_past number past)
came-more number last [] lower = refl
came-more number last (b ∷ past) lower =
    either-first b.number last.number number b.taken last.taken (taken_past number past) _ lower.0 (came-more number last past lower.1)

-- what lies below a bound, under another name of the bound and of the list
pub all-same : {X : Type 0} (f : X → ℕ) {bound other : ℕ} {xs ys : List X} → other ≡ bound → ys ≡ xs → AllByRecursion (λ (x : X). f x < bound) xs
    → AllByRecursion (λ (x : X). f x < other) ys
all-same {X} f {bound} {ys = ys} same_bound same low = subst (λ (n : ℕ). AllByRecursion (λ (x : X). f x < n) ys) (sym same_bound)
    (subst (λ (l : List X). AllByRecursion (λ (x : X). f x < bound) l) (sym same) low)

-- what lies below a bound, and one more
pub all-more : {X : Type 0} (f : X → ℕ) (least most : ℕ) (xs : List X) (x : X) → AllByRecursion (λ (y : X). f y < least) xs → least ≤ most → f x < most
    → AllByRecursion (λ (y : X). f y < most) (xs ++ x ∷ [])
all-more f least most [] x low more last = (last, tt)
all-more f least most (y ∷ xs) x low more last = (let first = low.0 in omega arith, all-more f least most xs x low.1 more last)
