-- What each call answers, by the pending items.
use Rattle.std.proofs.Common.{ℕ, suc, unwrap_or, ◌≡◌, ◌<◌, ◌≤◌, Bool, true, false, List, [], ◌∷◌, ◌++◌, length, Option, Some, None, Ok, Err, refl, ◌∙◌, ap}
use Rattle.std.proofs.Common.{arith, nat_eq, nat_lt, nat_le}
use Rattle.std.specs.Prelude.{All, filter, is_some, option_map, slice_get, if◌then◌else◌}
use Rattle.std.specs.List.{AllByRecursion, list_any}
use Rattle.std.proofs.lemmas.Bool.{lt-leb}
use Rattle.std.proofs.lemmas.Bool.Decides.{nat_tests}
use Rattle.blocks.specs.declared.refusal.Refusal.TheVariants.{EpochOpen, UnknownJob}
use Rattle.peerdisk.specs.Pending.{Pending, at_place, has_earlier, is_pending, put, start, without}
use Rattle.peerdisk.specs.Slots.{AreInOrder}

pub pending-is : {X : Type 0} (k : ℕ) (ps : List (Pending X)) → is_pending k ps ≡ is_some (at_place k ps)
pending-is k [] = refl
pending-is {X} k (p ∷ ps) = go (pending-is k ps) (nat_eq k p.place) refl
  where
    go : is_pending k ps ≡ is_some (at_place k ps) → (b : Bool) → nat_eq k p.place ≡ b → is_pending k (p ∷ ps) ≡ is_some (at_place k (p ∷ ps))
    go rest true is = rw is refl
    go rest false is = rw is rest

-- The order stays.
pub all-without : {X : Type 0} (P : Pending X → Type 0) (k : ℕ) (ps : List (Pending X)) → AllByRecursion P ps → AllByRecursion P (without k ps)
all-without P k [] all = tt
all-without {X} P k (p ∷ ps) all = go (all-without P k ps all.1) (nat_eq k p.place) refl
  where
    go : AllByRecursion P (without k ps) → (b : Bool) → nat_eq k p.place ≡ b → AllByRecursion P (without k (p ∷ ps))
    go rest true is = rw is all.1
    go rest false is = rw is (all.0, rest)

pub order-without : {X : Type 0} (k : ℕ) (ps : List (Pending X)) → AreInOrder ps → AreInOrder (without k ps)
order-without k [] order = tt
order-without {X} k (p ∷ ps) order = go (order-without k ps order.1) (nat_eq k p.place) refl
  where
    go : AreInOrder (without k ps) → (b : Bool) → nat_eq k p.place ≡ b → AreInOrder (without k (p ∷ ps))
    go rest true is = rw is order.1
    go rest false is = rw is (all-without (λ later. p.epoch ≤ later.epoch) k ps order.0, rest)

pub all-filter : {X : Type 0} (P : Pending X → Type 0) (test : Pending X → Bool) (ps : List (Pending X)) → AllByRecursion P ps
    → AllByRecursion P (filter test ps)
all-filter P test [] all = tt
all-filter {X} P test (p ∷ ps) all = go (all-filter P test ps all.1) (test p) refl
  where
    go : AllByRecursion P (filter test ps) → (b : Bool) → test p ≡ b → AllByRecursion P (filter test (p ∷ ps))
    go rest true is = rw is (all.0, rest)
    go rest false is = rw is rest

pub order-filter : {X : Type 0} (test : Pending X → Bool) (ps : List (Pending X)) → AreInOrder ps → AreInOrder (filter test ps)
order-filter test [] order = tt
order-filter {X} test (p ∷ ps) order = go (order-filter test ps order.1) (test p) refl
  where
    go : AreInOrder (filter test ps) → (b : Bool) → test p ≡ b → AreInOrder (filter test (p ∷ ps))
    go rest true is = rw is (all-filter (λ later. p.epoch ≤ later.epoch) test ps order.0, rest)
    go rest false is = rw is rest

-- An item comes last.
tail_all : {X : Type 0} (P : Pending X → Type 0) (p : Pending X) (ps : List (Pending X)) → All P (p ∷ ps) → All P ps
tail_all P p ps all k d within = all (suc k) d (omega arith)

pub all-push : {X : Type 0} (P : Pending X → Type 0) (p : Pending X) (ps : List (Pending X)) → AllByRecursion P ps → P p → AllByRecursion P (ps ++ p ∷ [])
all-push P p [] all last = (last, tt)
all-push P p (q ∷ ps) all last = (all.0, all-push P p ps all.1 last)

pub order-push : {X : Type 0} (p : Pending X) (ps : List (Pending X)) → AreInOrder ps → All (λ q. q.epoch ≤ p.epoch) ps → AreInOrder (ps ++ p ∷ [])
order-push p [] order late = (tt, tt)
order-push p (q ∷ ps) order late =
    let here : q.epoch ≤ p.epoch = late 0 q (omega arith) in
    (all-push (λ later. q.epoch ≤ later.epoch) p ps order.0 here, order-push p ps order.1 (tail_all (λ q. q.epoch ≤ p.epoch) q ps late))

pub put-room : {X : Type 0} (limit reach : ℕ) (p : Pending X) (ps : List (Pending X)) → length ps < limit
    → (Ok tt, record { limit = limit; pending = ps ++ p ∷ []; reach = reach }) ≡ put p.place p.epoch p.item false
    (record { limit = limit; pending = ps; reach = reach })
put-room limit reach p ps room =
    let not_full : nat_le limit (length ps) ≡ false = lt-leb limit (length ps) room in
    rw not_full refl

-- Starting.
pub start-none : {X : Type 0} (k : ℕ) (ps : List (Pending X)) → at_place k ps ≡ None → start k ps ≡ Err UnknownJob
start-none k ps none = rw none refl

-- The lowest place has the oldest epoch.
none_earlier : {X : Type 0} (first epoch : ℕ) (ps : List (Pending X)) → AllByRecursion (λ later. first ≤ later.epoch) ps → epoch ≤ first
    → list_any (λ q. nat_lt q.epoch epoch) ps ≡ false
none_earlier first epoch [] all old = refl
none_earlier first epoch (p ∷ ps) all old =
    let here : nat_lt p.epoch epoch ≡ false = grind (arith, nat_tests, all.0) in
    rw here (none_earlier first epoch ps all.1 old)

earlier-first : {X : Type 0} (p : Pending X) (ps : List (Pending X)) (epoch : ℕ) → AreInOrder (p ∷ ps)
    → list_any (λ q. nat_lt q.epoch epoch) (p ∷ ps) ≡ nat_lt p.epoch epoch
earlier-first {X} p ps epoch order = go (nat_lt p.epoch epoch) refl
  where
    go : (b : Bool) → nat_lt p.epoch epoch ≡ b → list_any (λ q. nat_lt q.epoch epoch) (p ∷ ps) ≡ nat_lt p.epoch epoch
    go true is = rw is refl
    go false is = let old : epoch ≤ p.epoch = grind (arith, nat_tests) in rw is (none_earlier p.epoch epoch ps order.0 old)

pub start-some : {X : Type 0} (k first : ℕ) (p : Pending X) (ps : List (Pending X)) (held_back : Bool) → AreInOrder ps → at_place k ps ≡ Some p
    → option_map (λ p. p.epoch) (slice_get ps 0) ≡ Some first → nat_lt first p.epoch ≡ held_back → start k ps ≡ (if held_back then Err EpochOpen else Ok p.item)
start-some k first p [] held_back order some is held = absurd (cc)
start-some k first p (q ∷ ps) held_back order some is held =
    let same : q.epoch ≡ first = cc in
    let earlier : has_earlier k (q ∷ ps) ≡ held_back =
    ap (λ (o : Option (Pending _)). list_any (λ q. nat_lt q.epoch (unwrap_or (option_map (λ p. p.epoch) o) 0)) (q ∷ ps)) some
    ∙ earlier-first q ps p.epoch order ∙ ap (λ n. nat_lt n p.epoch) same ∙ held in
    rw (some, earlier) refl
