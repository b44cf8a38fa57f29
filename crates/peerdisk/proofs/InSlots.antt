-- What is found, put or taken out by its slot is what has that place.
use Rattle.std.proofs.Common.{ℕ, zero, suc, ◌≡◌, ◌+◌, ◌-◌, ◌<◌, ◌≤◌, true, false, List, [], ◌∷◌, ◌++◌, length, Option, Some, None, refl, sym, ◌∙◌, ap, arith}
use Rattle.std.proofs.Common.{nat_eq, get_or, take, ◌⊎◌, inl, inr}
use Rattle.std.specs.Prelude.{All, is_some, option_map}
use Rattle.std.proofs.Math.ListN.{set}
use Rattle.std.proofs.lemmas.Bool.{cases_lt}
use Rattle.std.proofs.lemmas.Bool.Decides.{nat_tests}
use Rattle.peerdisk.specs.Pending.{Pending, at_place, is_pending, without}
use Rattle.peerdisk.specs.Slots.{IsRow, begins_taken, of_filled, pending_from, Filled}
use Rattle.peerdisk.proofs.Pendings.{pending-is}

-- An item is found by its slot.
pub at-before : {X : Type 0} (k first : ℕ) (slots : List (Option (Filled X))) → k < first → at_place k (pending_from first slots) ≡ None
at-before k first [] less = refl
at-before k first (None ∷ slots) less = at-before k (suc first) slots (omega arith)
at-before k first (Some e ∷ slots) less = let other : nat_eq k first ≡ false =
    grind (arith, nat_tests) in rw other (at-before k (suc first) slots (omega arith))

pub at-slot : {X : Type 0} (k first i : ℕ) (slots : List (Option (Filled X))) → k ≡ first + i
    → at_place k (pending_from first slots) ≡ option_map (of_filled k) (get_or slots i None)
at-slot k first i [] at = refl
at-slot k first zero (None ∷ slots) at = at-before k (suc first) slots (omega arith)
at-slot k first zero (Some e ∷ slots) at =
    let key : k ≡ first = omega arith in
    let same : nat_eq k first ≡ true = grind (arith, nat_tests) in
    rw same (ap (λ n. Some (of_filled n e)) (sym key))
at-slot k first (suc i) (None ∷ slots) at = at-slot k (suc first) i slots (omega arith)
at-slot k first (suc i) (Some e ∷ slots) at = let other : nat_eq k first ≡ false =
    grind (arith, nat_tests) in rw other (at-slot k (suc first) i slots (omega arith))

pub past_the_end : {X : Type 0} (i : ℕ) (slots : List (Option (Filled X))) → length slots ≤ i → get_or slots i None ≡ None
past_the_end i [] past = refl
past_the_end zero (x ∷ slots) past = absurd (omega arith)
past_the_end (suc i) (x ∷ slots) past = past_the_end i slots (omega arith)

pub at-past : {X : Type 0} (k first : ℕ) (slots : List (Option (Filled X))) → first + length slots ≤ k → at_place k (pending_from first slots) ≡ None
at-past k first slots past = let at : k ≡ first + (k - first) = omega arith in at-slot k first (k - first) slots at
    ∙ ap (option_map (of_filled k)) (past_the_end (k - first) slots (omega arith))

-- a pending place has a slot, and that is no hole
pub record Within {X : Type 0} (k first : ℕ) (slots : List (Option (Filled X))) : Type 0 where
  pub from : first ≤ k
  pub to : k - first < length slots
  pub taken : is_some (get_or slots (k - first) None) ≡ true

pub some-map : {X Y : Type 0} (f : X → Y) (o : Option X) → is_some (option_map f o) ≡ is_some o
some-map f None = refl
some-map f (Some x) = refl

pub within : {X : Type 0} (k first : ℕ) (slots : List (Option (Filled X))) → is_pending k (pending_from first slots) ≡ true → Within k first slots
within {X} k first slots is = go (cases_lt k first) (cases_lt k (first + length slots))
  where
    there : is_some (at_place k (pending_from first slots)) ≡ true
    there = sym (pending-is k (pending_from first slots)) ∙ is

    go : (k < first) ⊎ (first ≤ k) → (k < first + length slots) ⊎ (first + length slots ≤ k) → Within k first slots
    go (inl less) more = absurd (let is_there = there in let none : is_some (at_place k (pending_from first slots)) ≡ false =
        ap is_some (at-before k first slots less) in cc)
    go (inr from) (inr past) = absurd (let is_there = there in let none : is_some (at_place k (pending_from first slots)) ≡ false =
        ap is_some (at-past k first slots past) in cc)
    go (inr from) (inl less) =
        let at : k ≡ first + (k - first) = omega arith in
        record {
          from = from;
          to = omega arith;
          taken = sym (some-map (of_filled k) (get_or slots (k - first) None)) ∙ ap is_some (sym (at-slot k first (k - first) slots at)) ∙ there;
        }

-- An item is taken out of its slot.
without-before : {X : Type 0} (k first : ℕ) (slots : List (Option (Filled X))) → k < first → without k (pending_from first slots) ≡ pending_from first slots
without-before k first [] less = refl
without-before k first (None ∷ slots) less = without-before k (suc first) slots (omega arith)
without-before k first (Some e ∷ slots) less =
    let other : nat_eq k first ≡ false =
    grind (arith, nat_tests) in rw other (ap (λ ps. of_filled first e ∷ ps) (without-before k (suc first) slots (omega arith)))

pub without-slot : {X : Type 0} (k first i : ℕ) (slots : List (Option (Filled X))) → k ≡ first + i
    → pending_from first (set slots i None) ≡ without k (pending_from first slots)
without-slot k first i [] at = refl
without-slot k first zero (None ∷ slots) at = sym (without-before k (suc first) slots (omega arith))
without-slot k first zero (Some e ∷ slots) at = let same : nat_eq k first ≡ true = grind (arith, nat_tests) in rw same refl
without-slot k first (suc i) (None ∷ slots) at = without-slot k (suc first) i slots (omega arith)
without-slot k first (suc i) (Some e ∷ slots) at =
    let other : nat_eq k first ≡ false =
    grind (arith, nat_tests) in rw other (ap (λ ps. of_filled first e ∷ ps) (without-slot k (suc first) i slots (omega arith)))

pub length-removed : {X : Type 0} (first i : ℕ) (e : Filled X) (slots : List (Option (Filled X))) → get_or slots i None ≡ Some e
    → length (pending_from first (set slots i None)) + 1 ≡ length (pending_from first slots)
length-removed first i e [] is = cc
length-removed first zero e (None ∷ slots) is = cc
length-removed first zero e (Some x ∷ slots) is = omega arith
length-removed first (suc i) e (None ∷ slots) is = length-removed (suc first) i e slots is
length-removed first (suc i) e (Some x ∷ slots) is = let more = length-removed (suc first) i e slots is in omega (arith, more)

-- An item comes last, after holes.
pub pending-push : {X : Type 0} (first : ℕ) (e : Filled X) (slots : List (Option (Filled X)))
    → pending_from first (slots ++ Some e ∷ []) ≡ pending_from first slots ++ of_filled (first + length slots) e ∷ []
pending-push first e [] = let same : first + 0 ≡ first = omega arith in rw same refl
pending-push first e (None ∷ slots) = let same : suc first + length slots ≡ first + suc (length slots) = omega arith in pending-push (suc first) e slots
    ∙ ap (λ n. pending_from (suc first) slots ++ of_filled n e ∷ []) same
pending-push first e (Some x ∷ slots) =
    let same : suc first + length slots ≡ first + suc (length slots) = omega arith in
    ap (λ ps. of_filled first x ∷ ps) (pending-push (suc first) e slots ∙ ap (λ n. pending_from (suc first) slots ++ of_filled n e ∷ []) same)

tail_all : {X : Type 0} (P : Pending X → Type 0) (p : Pending X) (ps : List (Pending X)) → All P (p ∷ ps) → All P ps
tail_all P p ps all k d less = all (suc k) d (omega arith)

-- past all items there are holes
pub pending-take : {X : Type 0} (k first n : ℕ) (slots : List (Option (Filled X))) → k ≤ first + n → All (λ p. p.place < k) (pending_from first slots)
    → pending_from first (take n slots) ≡ pending_from first slots
pending-take k first zero [] to above = refl
pending-take k first (suc n) [] to above = refl
pending-take k first zero (None ∷ slots) to above = pending-take k (suc first) zero slots (omega arith) above
pending-take k first zero (Some e ∷ slots) to above = absurd (let here : first < k = above 0 (of_filled first e) (omega arith) in omega arith)
pending-take k first (suc n) (None ∷ slots) to above = pending-take k (suc first) n slots (omega arith) above
pending-take k first (suc n) (Some e ∷ slots) to above =
    ap (λ ps. of_filled first e ∷ ps)
    (pending-take k (suc first) n slots (omega arith) (tail_all (λ p. p.place < k) (of_filled first e) (pending_from (suc first) slots) above))

pub begins_at : {X : Type 0} (k first : ℕ) (slots : List (Option (Filled X))) → begins_taken slots ≡ true → 0 < length slots
    → All (λ p. p.place < k) (pending_from first slots) → first < k
begins_at k first [] begins long above = absurd (omega arith)
begins_at k first (None ∷ slots) begins long above = absurd (cc)
begins_at k first (Some e ∷ slots) begins long above = above 0 (of_filled first e) (omega arith)

pub few : {X : Type 0} (first : ℕ) (slots : List (Option (Filled X))) → length (pending_from first slots) ≤ length slots
few first [] = omega arith
few first (None ∷ slots) = omega (arith, few (suc first) slots)
few first (Some e ∷ slots) = omega (arith, few (suc first) slots)

-- A row that begins elsewhere, if it has no slot yet.
pub no-items : {X : Type 0} (first other : ℕ) (slots : List (Option (Filled X))) → length slots ≡ 0 → pending_from first slots ≡ pending_from other slots
no-items first other [] none = refl
no-items first other (x ∷ slots) none = absurd (omega arith)

pub grown : {X : Type 0} (first other : ℕ) (slots : List (Option (Filled X))) (count len other_len capacity other_capacity : ℕ)
    → IsRow first slots count len capacity → len ≡ length slots → other_len ≡ len → other < 4294967296
    → (0 < len → other ≡ first) → 0 < other_capacity → IsRow other slots count other_len other_capacity
grown first other [] count len other_len capacity other_capacity row long same low begin room = record {
  order = tt;
  counted = row.counted;
  begins = refl;
  small = omega (arith, long, same, low);
  begun = λ (from : 0 < other). room;
}
grown first other (x ∷ slots) count len other_len capacity other_capacity row long same low begin room =
    let is : other ≡ first = begin (omega (arith, long)) in
    rw is (record { order = row.order; counted = row.counted; begins = row.begins; small = omega (arith, same, row.small); begun = λ (from : 0 < first). room })

pub has-room : (place first capacity : ℕ) → place < first + capacity → (0 < first → 0 < capacity) → 0 < capacity
has-room place first capacity less begun = go (cases_lt 0 first)
  where
    go : (0 < first) ⊎ (first ≤ 0) → 0 < capacity
    go (inl more) = begun more
    go (inr none) = omega arith

-- An item is put last.
pub put-last : {X : Type 0} (k first n : ℕ) (e : Filled X) (old holes new : List (Option (Filled X))) → new ≡ holes ++ Some e ∷ []
    → pending_from first holes ≡ pending_from first (take n old) → k ≡ first + n → length holes ≡ n
    → All (λ p. p.place < k) (pending_from first old) → pending_from first new ≡ pending_from first old ++ of_filled k e ∷ []
put-last k first n e old holes new is same at long above =
    let place : first + length holes ≡ k = omega arith in
    ap (pending_from first) is ∙ pending-push first e holes ∙ ap (λ m. pending_from first holes ++ of_filled m e ∷ []) place
    ∙ ap (λ ps. ps ++ of_filled k e ∷ []) (same ∙ pending-take k first n old (omega arith) above)

pub begins-put : {X : Type 0} (first k : ℕ) (e : Filled X) (old new : List (Option (Filled X))) → begins_taken old ≡ true → (length old ≡ 0 → k ≡ first)
    → pending_from first new ≡ pending_from first old ++ of_filled k e ∷ []
    → begins_taken new ≡ true
begins-put first k e old [] begins begin is = refl
begins-put first k e old (Some x ∷ new) begins begin is = refl
begins-put first k e [] (None ∷ new) begins begin is =
    let key : k ≡ first = begin refl in
    let same : nat_eq first k ≡ true = grind (arith, nat_tests) in
    let none = at-before first (suc first) new (omega arith) in
    let some : at_place first (of_filled k e ∷ []) ≡ Some (of_filled k e) = rw same refl in
    let both = ap (at_place first) is in
    absurd (cc)
begins-put first k e (None ∷ old) (None ∷ new) begins begin is = absurd (cc)
begins-put first k e (Some x ∷ old) (None ∷ new) begins begin is =
    let same : nat_eq first first ≡ true = grind (arith, nat_tests) in
    let none = at-before first (suc first) new (omega arith) in
    let some : at_place first (of_filled first x ∷ (pending_from (suc first) old ++ of_filled k e ∷ [])) ≡ Some (of_filled first x) = rw same refl in
    let both = ap (at_place first) is in
    absurd (cc)

pub from-first : {X : Type 0} (k first : ℕ) (slots : List (Option (Filled X))) → begins_taken slots ≡ true → (length slots ≡ 0 → k ≡ first)
    → All (λ p. p.place < k) (pending_from first slots) → first ≤ k
from-first k first [] begins begin above = let is = begin refl in omega (arith, is)
from-first k first (None ∷ slots) begins begin above = absurd (cc)
from-first k first (Some e ∷ slots) begins begin above = let here : first < k = above 0 (of_filled first e) (omega arith) in omega (arith, here)
