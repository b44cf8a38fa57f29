-- The acknowledgements of epochs: those that become due are the same in the state and in the history.
use Rattle.std.proofs.Common.{ℕ, zero, suc, ◌≡◌, ◌+◌, ◌-◌, ◌<◌, ◌≤◌, ◌⊎◌, inl, inr, Bool, true, false, cond, not, ◌&&◌, ◌||◌, List, [], ◌∷◌, ◌++◌, length, map}
use Rattle.std.proofs.Common.{filter, take, drop, refl, sym, ◌∙◌, ap, subst, arith, ◌==◌, nat_lt, nat_le}
use Rattle.std.specs.List.{list_any, list_all}
use Rattle.std.proofs.lemmas.Bool.{cases_Bool, both_ways, lt-ltb, le-leb, le-ltb, lt-leb, cases_lt, eqb-true, eq-eqb}
use Rattle.std.proofs.lemmas.List.{map-append, length-append, drop-append-le}
use Rattle.std.proofs.lemmas.List.Elements.{filter-append}
use Rattle.model.specs.Stream.{StreamItem, is_barrier, barriers_in, has_blocks, is_whole, epoch_of, epoch_size, placed, placed_from, below}
use Rattle.model.specs.Frames.{Packet, BarrierAckFrame}
use Rattle.model.specs.Secondary.{SecondaryConnection, items_taken, is_pending, pending}
use Rattle.model.specs.Secondary as model
use Rattle.model.specs.SecondarySteps.{barriers_to_answer, barrier_answer}
use Rattle.model.specs.SecondarySteps as step
use Rattle.laws.proofs.Rules.BarrierAnswers.{answered-by, answered-then}
use Rattle.peerdisk.specs.Pending.{Pending}
use Rattle.secondary_protocol.specs.Core.{EndState, is_applied_to, answers, answering}
use Rattle.secondary_protocol.specs.Leaves.{LeavesEnd, numbers_after, pending_in}

-- Epochs that are applied.

-- a later place is in no earlier epoch
epoch-rises : (items : List StreamItem) (place later : ℕ) → place ≤ later → epoch_of items place ≤ epoch_of items later
epoch-rises [] place later less = let here = none place in let there = none later in omega arith
  where
    none : (n : ℕ) → barriers_in (take {A = StreamItem} n []) ≡ 0
    none zero = refl
    none (suc n) = refl
epoch-rises (x ∷ items) zero later less = omega arith
epoch-rises (x ∷ items) (suc place) zero less = absurd (omega arith)
epoch-rises (x ∷ items) (suc place) (suc later) less = go (is_barrier x) (epoch-rises items place later (omega arith))
  where
    go : (b : Bool) → epoch_of items place ≤ epoch_of items later
        → suc (length (cond b (x ∷ filter is_barrier (take place items)) (filter is_barrier (take place items)))) ≤ suc
        (length (cond b (x ∷ filter is_barrier (take later items)) (filter is_barrier (take later items))))
    go true rest = omega arith
    go false rest = rest

-- none of some waiting items is of an epoch up to this one, where the place before them is of a later one
none-soon : (all : List StreamItem) (p : ℕ × StreamItem → Bool) (first start epoch : ℕ) (items : List StreamItem) → first ≤ start → epoch < epoch_of all first
    → list_any (λ entry. nat_le (epoch_of all entry.0) epoch) (filter p (placed_from start items)) ≡ false
none-soon all p first start epoch [] from late = refl
none-soon all p first start epoch (x ∷ items) from late = go (p (start, x)) (none-soon all p first (suc start) epoch items (omega arith) late)
  where
    go : (b : Bool) → list_any (λ entry. nat_le (epoch_of all entry.0) epoch) (filter p (placed_from (suc start) items)) ≡ false
        → list_any (λ entry. nat_le (epoch_of all entry.0) epoch)
        (cond b ((start, x) ∷ filter p (placed_from (suc start) items)) (filter p (placed_from (suc start) items))) ≡ false
    go true rest =
        let rises = epoch-rises all first start from in
        let late_too : nat_le (epoch_of all start) epoch ≡ false = lt-leb (epoch_of all start) epoch (omega arith) in
        rw (late_too, rest) refl
    go false rest = rest

-- the first of the waiting items is of the first of their epochs
first-epoch : (all : List StreamItem) (p : ℕ × StreamItem → Bool) (start epoch : ℕ) (items : List StreamItem)
    → list_any (λ entry. nat_le (epoch_of all entry.0) epoch) (filter p (placed_from start items)) ≡ not
    (is_applied_to (map (pending_in all) (filter p (placed_from start items))) epoch)
first-epoch all p start epoch [] = refl
first-epoch all p start epoch (x ∷ items) = go (p (start, x)) (first-epoch all p (suc start) epoch items)
  where
    by-first : (epoch < epoch_of all start) ⊎ (epoch_of all start ≤ epoch)
        → (nat_le (epoch_of all start) epoch || list_any (λ entry. nat_le (epoch_of all entry.0) epoch) (filter p (placed_from (suc start) items))) ≡ not
        (nat_lt epoch (epoch_of all start))
    by-first (inl late) = rw (lt-leb (epoch_of all start) epoch late, lt-ltb epoch (epoch_of all start) late)
        (none-soon all p start (suc start) epoch items (omega arith) late)
    by-first (inr soon) = rw (le-leb (epoch_of all start) epoch soon, le-ltb epoch (epoch_of all start) soon) refl

    go : (b : Bool) → list_any (λ entry. nat_le (epoch_of all entry.0) epoch) (filter p (placed_from (suc start) items)) ≡ not
        (is_applied_to (map (pending_in all) (filter p (placed_from (suc start) items))) epoch)
        → list_any (λ entry. nat_le (epoch_of all entry.0) epoch)
        (cond b ((start, x) ∷ filter p (placed_from (suc start) items)) (filter p (placed_from (suc start) items)))
        ≡ not (is_applied_to (map (pending_in all) (cond b ((start, x) ∷ filter p (placed_from (suc start) items)) (filter p (placed_from (suc start) items))))
        epoch)
    go true rest = by-first (cases_lt epoch (epoch_of all start))
    go false rest = rest

-- a test of all items is one of those that wait, where nothing is gone
all-by-waiting : (d : SecondaryConnection) (epoch : ℕ) (xs : List (ℕ × StreamItem)) → d.gone ≡ []
    → list_all (λ entry. not (nat_le (epoch_of (items_taken d) entry.0) epoch && has_blocks entry.1) || is_whole d.applied entry.0 entry.1) xs ≡ not
    (list_any (λ entry. nat_le (epoch_of (items_taken d) entry.0) epoch) (filter (is_pending d) xs))
all-by-waiting d epoch [] none = refl
all-by-waiting d epoch (x ∷ xs) none = go (nat_le (epoch_of (items_taken d) x.0) epoch) (has_blocks x.1) (is_whole d.applied x.0 x.1)
    (list_any (λ place. place == x.0) d.gone) (ap (list_any (λ place. place == x.0)) none) refl (all-by-waiting d epoch xs none)
  where
    soon : ℕ × StreamItem → Bool
    soon entry = nat_le (epoch_of (items_taken d) entry.0) epoch

    go : (le blocks whole gone : Bool) → gone ≡ false → nat_le (epoch_of (items_taken d) x.0) epoch ≡ le
        → list_all (λ entry. not (nat_le (epoch_of (items_taken d) entry.0) epoch && has_blocks entry.1) || is_whole d.applied entry.0 entry.1) xs ≡ not
        (list_any (λ entry. nat_le (epoch_of (items_taken d) entry.0) epoch) (filter (is_pending d) xs))
        → ((not (le && blocks) || whole)
        && list_all (λ entry. not (nat_le (epoch_of (items_taken d) entry.0) epoch && has_blocks entry.1) || is_whole d.applied entry.0 entry.1) xs)
        ≡ not (list_any (λ entry. nat_le (epoch_of (items_taken d) entry.0) epoch)
        (cond ((blocks && not whole) && not gone) (x ∷ filter (is_pending d) xs) (filter (is_pending d) xs)))
    go le blocks whole true is same rest = absurd (cc)
    go true true true false is same rest = rest
    go true true false false is same rest = rw same refl
    go true false true false is same rest = rest
    go true false false false is same rest = rest
    go false true true false is same rest = rest
    go false true false false is same rest = rw same rest
    go false false true false is same rest = rest
    go false false false false is same rest = rest

double : (b : Bool) → not (not b) ≡ b
double true = refl
double false = refl

-- An epoch is applied for the one where it is for the other.
pub applied-same : (d : SecondaryConnection) (epoch : ℕ) → d.gone ≡ []
    → model.is_applied_to d epoch ≡ is_applied_to (map (pending_in (items_taken d)) (pending d)) epoch
applied-same d epoch none =
    all-by-waiting d epoch (placed (items_taken d)) none
    ∙ (ap not (first-epoch (items_taken d) (is_pending d) 0 epoch (items_taken d))
    ∙ double (is_applied_to (map (pending_in (items_taken d)) (pending d)) epoch))

-- Which epochs are answered.

-- as long as they are applied, one after the other
record Shape (ps : List (Pending StreamItem)) (size : ℕ → ℕ) (n k : ℕ) : Type 0 where
  count : ℕ
  few : count ≤ k
  answers_are : answers ps n (map size (numbers_after n k)) ≡ map (λ x. BarrierAckFrame x (size x)) (numbers_after n count)
  passing : filter (is_applied_to ps) (numbers_after n k) ≡ numbers_after n count

later-too : (ps : List (Pending StreamItem)) (n m : ℕ) → n ≤ m → is_applied_to ps n ≡ false → is_applied_to ps m ≡ false
later-too [] n m less not_yet = absurd (cc)
later-too (p ∷ ps) n m less not_yet = elim (cases_lt m p.epoch) [
  | inl early ↦ absurd (both_ways (nat_lt n p.epoch) not_yet (lt-ltb n p.epoch (omega arith)))
  | inr late ↦ le-ltb m p.epoch late
]

none-later : (ps : List (Pending StreamItem)) (n k : ℕ) → is_applied_to ps (suc n) ≡ false → filter (is_applied_to ps) (numbers_after n k) ≡ []
none-later ps n zero not_yet = refl
none-later ps n (suc k) not_yet = rw not_yet (none-later ps (suc n) k (later-too ps (suc n) (suc (suc n)) (omega arith) not_yet))

shape : (ps : List (Pending StreamItem)) (size : ℕ → ℕ) (n k : ℕ) → Shape ps size n k
shape ps size n zero = record { count = 0; few = omega arith; answers_are = refl; passing = refl }
shape ps size n (suc k) = go (is_applied_to ps (suc n)) refl (shape ps size (suc n) k)
  where
    go : (b : Bool) → is_applied_to ps (suc n) ≡ b → Shape ps size (suc n) k → Shape ps size n (suc k)
    go true is rest = record {
      count = suc rest.count;
      few = let few = rest.few in omega arith;
      answers_are = rw is (ap (λ l. BarrierAckFrame (suc n) (size (suc n)) ∷ l) rest.answers_are);
      passing = rw is (ap (λ l. suc n ∷ l) rest.passing);
    }
    go false is rest = record { count = 0; few = omega arith; answers_are = rw is refl; passing = none-later ps n (suc k) is }

-- Numbers.

pub numbers-split : (n a k : ℕ) → numbers_after n (a + k) ≡ numbers_after n a ++ numbers_after (n + a) k
numbers-split n zero k = let same : n + 0 ≡ n = omega arith in let none : 0 + k ≡ k = omega arith in rw (same, none) refl
numbers-split n (suc a) k =
    let step_on : suc n + a ≡ n + suc a = omega arith in
    let count : suc a + k ≡ suc (a + k) = omega arith in
    ap (numbers_after n) count ∙ ap (λ l. suc n ∷ l) (numbers-split (suc n) a k ∙ ap (λ m. numbers_after (suc n) a ++ numbers_after m k) step_on)

pub numbers-end : (n k : ℕ) → numbers_after n (suc k) ≡ numbers_after n k ++ suc (n + k) ∷ []
numbers-end n k =
    let count : k + 1 ≡ suc k = omega arith in
    ap (numbers_after n) (sym count) ∙ numbers-split n k 1

-- the numbers from 1 on
pub numbers-below : (n : ℕ) → map suc (below n) ≡ numbers_after 0 n
numbers-below zero = refl
numbers-below (suc n) = map-append suc (below n) (n ∷ [])
    ∙ (ap (λ l. l ++ suc n ∷ []) (numbers-below n) ∙ (ap (λ m. numbers_after 0 n ++ suc m ∷ []) (omega arith) ∙ sym (numbers-end 0 n)))

pub filter-all : (p q : ℕ → Bool) (n k : ℕ) → ((x : ℕ) → n < x → x ≤ n + k → p x ≡ q x) → filter p (numbers_after n k) ≡ filter q (numbers_after n k)
filter-all p q n zero same = refl
filter-all p q n (suc k) same =
    ap (λ b. cond b (suc n ∷ filter p (numbers_after (suc n) k)) (filter p (numbers_after (suc n) k))) (same (suc n) (omega arith) (omega arith))
    ∙ ap (λ l. cond (q (suc n)) (suc n ∷ l) l) (filter-all p q (suc n) k (λ x from upto. same x (omega arith) (omega arith)))

pub filter-no : (p : ℕ → Bool) (n k : ℕ) → ((x : ℕ) → n < x → x ≤ n + k → p x ≡ false) → filter p (numbers_after n k) ≡ []
filter-no p n zero none = refl
filter-no p n (suc k) none = rw (none (suc n) (omega arith) (omega arith)) (filter-no p (suc n) k (λ x from upto. none x (omega arith) (omega arith)))

length-numbers : (n k : ℕ) → length (numbers_after n k) ≡ k
length-numbers n zero = refl
length-numbers n (suc k) = ap suc (length-numbers (suc n) k)

drop-numbers : {X : Type 0} (f : ℕ → X) (n m k : ℕ) → m ≤ k → drop m (map f (numbers_after n k)) ≡ map f (numbers_after (n + m) (k - m))
drop-numbers f n zero k less = let same : n + 0 ≡ n = omega arith in let all : k - 0 ≡ k = omega arith in rw (same, all) refl
drop-numbers f n (suc m) zero less = absurd (omega arith)
drop-numbers f n (suc m) (suc k) less =
    let one : suc n + m ≡ n + suc m = omega arith in
    let two : k - m ≡ suc k - suc m = omega arith in
    drop-numbers f (suc n) m k (omega arith) ∙ ap (λ (x : ℕ × ℕ). map f (numbers_after x.0 x.1)) (λ i. (one i, two i))

-- which epochs these numbers are
listed : (x n k : ℕ)
    → list_any (λ y. y == x) (numbers_after n k) ≡ (nat_lt n x && nat_le x (n + k))
listed x n zero = elim (cases_lt n x) [
  | inl less ↦ rw (lt-ltb n x less) (sym (lt-leb x (n + 0) (omega arith)))
  | inr more ↦ rw (le-ltb n x more) refl
]
listed x n (suc k) = rw (listed x (suc n) k) (by-order (cases_Bool (suc n == x)))
  where
    by-order : ((suc n == x) ≡ true) ⊎ ((suc n == x) ≡ false)
        → ((suc n == x) || (nat_lt (suc n) x && nat_le x (suc n + k))) ≡ (nat_lt n x && nat_le x (n + suc k))
    by-order (inl same) =
        let is : suc n ≡ x = eqb-true (suc n) x same in
        rw (same, lt-ltb n x (omega arith), le-leb x (n + suc k) (omega arith)) refl
    by-order (inr other) = elim (cases_lt (suc n) x) [
      | inl less ↦
          let one : suc n + k ≡ n + suc k = omega arith in
          rw (other, lt-ltb (suc n) x less, lt-ltb n x (omega arith), one) refl
      | inr more ↦
          let not_it : suc n ≡ x → ⊥ = λ e. both_ways (suc n == x) other (eq-eqb (suc n) x e) in
          rw (other, le-ltb (suc n) x more, le-ltb n x (omega arith)) refl
    ]

-- The acknowledgements that become due.

-- what the history acknowledges is what the state does
answers-same : (e : EndState) (d : SecondaryConnection) → d.gone ≡ [] → LeavesEnd e d
    → Shape (map (pending_in (items_taken d)) (pending d)) (epoch_size (items_taken d)) e.answered (barriers_in (items_taken d) - e.answered)
    → map (barrier_answer d) (barriers_to_answer d) ≡ answers (map (pending_in (items_taken d)) (pending d)) e.answered e.sizes
answers-same e d none left s =
    let items : List StreamItem = items_taken d in
    let ps : List (Pending StreamItem) = map (pending_in (items_taken d)) (pending d) in
    let k : ℕ = barriers_in (items_taken d) - e.answered in
    let p : ℕ → Bool = λ epoch. model.is_applied_to d epoch && not (nat_le epoch e.answered) in
    let within = left.within in
    let sum : barriers_in items ≡ e.answered + k = omega arith in
    let zero_too : 0 + e.answered ≡ e.answered = omega arith in
    let numbers : map suc (below (barriers_in items)) ≡ numbers_after 0 e.answered ++ numbers_after e.answered k =
    numbers-below (barriers_in items)
    ∙ (ap (numbers_after 0) sum ∙ (numbers-split 0 e.answered k ∙ ap (λ m. numbers_after 0 e.answered ++ numbers_after m k) zero_too)) in
    let before : filter p (numbers_after 0 e.answered) ≡ [] = filter-no p 0 e.answered (λ x from upto.
    ap (λ b. model.is_applied_to d x && not b) (le-leb x e.answered (omega arith)) ∙ and-false (model.is_applied_to d x)) in
    let behind : filter p (numbers_after e.answered k) ≡ filter (is_applied_to ps) (numbers_after e.answered k) = filter-all p (is_applied_to ps) e.answered k
    (λ x from upto.
    ap (λ b. model.is_applied_to d x && not b) (lt-leb x e.answered from)
    ∙ (and-true (model.is_applied_to d x) ∙ applied-same d x none)) in
    let all : barriers_to_answer d ≡ numbers_after e.answered s.count =
    answered-by d (λ epoch. nat_le epoch e.answered) left.answered
    ∙ (ap (filter p) numbers ∙ (filter-append p (numbers_after 0 e.answered) (numbers_after e.answered k)
    ∙ (ap (λ l. l ++ filter p (numbers_after e.answered k)) before ∙ (behind ∙ s.passing)))) in
    ap (map (barrier_answer d)) all ∙ (sym s.answers_are ∙ ap (answers ps e.answered) (sym left.sizes))
  where
    and-false : (b : Bool) → (b && not true) ≡ false
    and-false true = refl
    and-false false = refl

    and-true : (b : Bool) → (b && not false) ≡ b
    and-true true = refl
    and-true false = refl

-- an open end acknowledges what it can
pub answering-open : (d : SecondaryConnection) → d.closed ≡ false → step.answering d ≡ record d { due = d.due ++ map (barrier_answer d) (barriers_to_answer d) }
answering-open d is_established =
    ap (λ b. elim b as (λ _. SecondaryConnection) [ true ↦ d | false ↦ record d { due = d.due ++ map (barrier_answer d) (barriers_to_answer d) } ])
    is_established

-- The end that has acknowledged what it can is what the history leaves.
pub left-answering : (e : EndState) (d : SecondaryConnection) (ps : List (Pending StreamItem)) → d.gone ≡ [] → ps ≡ map (pending_in (items_taken d)) (pending d)
    → LeavesEnd e d
    → LeavesEnd (answering ps e) (step.answering d)
left-answering e d ps none is left =
    let items : List StreamItem = items_taken d in
    let listed_ps : List (Pending StreamItem) = map (pending_in (items_taken d)) (pending d) in
    let k : ℕ = barriers_in (items_taken d) - e.answered in
    let s = shape listed_ps (epoch_size items) e.answered k in
    let new : List Packet = answers ps e.answered e.sizes in
    let same : map (barrier_answer d) (barriers_to_answer d) ≡ new = answers-same e d none left s
    ∙ ap (λ (l : List (Pending StreamItem)). answers l e.answered e.sizes) (sym is) in
    let shaped : new ≡ map (λ x. BarrierAckFrame x (epoch_size items x)) (numbers_after e.answered s.count) =
    ap (λ (l : List (Pending StreamItem)). answers l e.answered e.sizes) is ∙ (ap (answers listed_ps e.answered) left.sizes ∙ s.answers_are) in
    let count : length new ≡ s.count = ap length shaped
    ∙ (length-map (λ x. BarrierAckFrame x (epoch_size items x)) (numbers_after e.answered s.count) ∙ length-numbers e.answered s.count) in
    let few = s.few in
    let within = left.within in
    let owed = left.owed in
    let longer = length-append d.due new in
    subst (LeavesEnd (answering ps e)) (sym (answering-open d left.is_open ∙ ap (λ (l : List Packet). record d { due = d.due ++ l }) same)) (record {
      is_open = left.is_open;
      plain = left.plain;
      hello = left.hello;
      hello_received = left.hello_received;
      hello_sent = left.hello_sent;
      owed = omega arith;
      due = ap (λ (l : List Packet). l ++ new) left.due ∙ sym (drop-append-le (d.pushed - 3) d.due new left.owed);
      answered = λ epoch from.
          answered-then d.due new (epoch_size items) (numbers_after e.answered s.count) shaped epoch
          ∙ ((λ i. left.answered epoch from i || listed epoch e.answered s.count i)
          ∙ (either epoch e.answered s.count ∙ ap (λ m. nat_le epoch (e.answered + m)) (sym count)));
      within = omega arith;
      sizes =
          ap (drop (length new)) left.sizes
          ∙ (drop-numbers (epoch_size items) e.answered (length new) k (omega arith)
          ∙ ap (λ m. map (epoch_size items) (numbers_after (e.answered + length new) m)) (omega arith));
    })
  where
    length-map : {X Y : Type 0} (f : X → Y) (xs : List X) → length (map f xs) ≡ length xs
    length-map f [] = refl
    length-map f (x ∷ xs) = ap suc (length-map f xs)

    either : (x a m : ℕ) → (nat_le x a || (nat_lt a x && nat_le x (a + m))) ≡ nat_le x (a + m)
    either x a m = elim (cases_lt a x) [
      | inl less ↦ rw (lt-leb x a less, lt-ltb a x less) refl
      | inr more ↦ rw (le-leb x a more) (sym (le-leb x (a + m) (omega arith)))
    ]
