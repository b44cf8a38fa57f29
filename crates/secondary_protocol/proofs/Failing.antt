-- What waits for the disk once it failed an item.
use Rattle.std.proofs.Common.{ℕ, ◌≡◌, Bool, true, false, cond, not, ◌&&◌, List, [], ◌∷◌, map, filter, refl, sym}
use Rattle.std.proofs.Common.{◌∙◌, ap, subst, arith, ◌==◌, nat_le}
use Rattle.model.specs.Stream.{StreamItem, epoch_of, placed}
use Rattle.model.specs.Secondary.{SecondaryConnection, items_taken, is_pending, pending}
use Rattle.model.specs.SecondarySteps.{failing}
use Rattle.laws.proofs.Rules.DiskFaults.{failing-pending}
use Rattle.peerdisk.specs.Pending.{Pending, without, after_fault, epoch_at}
use Rattle.secondary_protocol.specs.Leaves.{pending_in}
use Rattle.secondary_protocol.proofs.Waiting.{without-placed, filter-at}

-- Lists.

filter-map : {X Y : Type 0} (f : X → Y) (q : Y → Bool) (xs : List X) → filter q (map f xs) ≡ map f (filter (λ x. q (f x)) xs)
filter-map f q [] = refl
filter-map {X} {Y} f q (x ∷ xs) = go (filter-map f q xs) (q (f x))
  where
    go : filter q (map f xs) ≡ map f (filter (λ x. q (f x)) xs) → (b : Bool)
        → cond b (f x ∷ filter q (map f xs)) (filter q (map f xs)) ≡ map f (cond b (x ∷ filter (λ x. q (f x)) xs) (filter (λ x. q (f x)) xs))
    go rest true = ap (λ l. f x ∷ l) rest
    go rest false = rest

filter-filter : {X : Type 0} (p q : X → Bool) (xs : List X) → filter q (filter p xs) ≡ filter (λ x. p x && q x) xs
filter-filter p q [] = refl
filter-filter {X} p q (x ∷ xs) = go (filter-filter p q xs) (p x)
  where
    go : filter q (filter p xs) ≡ filter (λ x. p x && q x) xs → (b : Bool)
        → filter q (cond b (x ∷ filter p xs) (filter p xs)) ≡ cond (b && q x) (x ∷ filter (λ x. p x && q x) xs) (filter (λ x. p x && q x) xs)
    go rest true = ap (λ l. cond (q x) (x ∷ l) l) rest
    go rest false = rest

-- Pending.

-- the disk's list after a fault
pub waiting-failed : (d : SecondaryConnection) (place : ℕ) (offsets : List ℕ)
    → epoch_at place (map (pending_in (items_taken d)) (pending d)) ≡ epoch_of (items_taken d) place
    → map (pending_in (items_taken d)) (pending (failing place offsets d)) ≡ after_fault place (map (pending_in (items_taken d)) (pending d))
waiting-failed d place offsets epoch =
    let items : List StreamItem = items_taken d in
    let but : ℕ × StreamItem → Bool = λ entry. is_pending d entry && not (entry.0 == place) in
    let soon : ℕ × StreamItem → Bool = λ entry. nat_le (epoch_of (items_taken d) entry.0) (epoch_of (items_taken d) place) in
    ap (map (pending_in items)) (filter-at (is_pending (failing place offsets d)) (λ entry. but entry && soon entry) 0 items
    (λ n one at. subst (λ (k : ℕ). is_pending (failing place offsets d) (k, one) ≡ (but (k, one) && soon (k, one))) (omega arith)
    (failing-pending d place offsets n one at)))
    ∙ (ap (map (pending_in items)) (sym (filter-filter but soon (placed items)))
    ∙ (sym (filter-map (pending_in items) (λ p. nat_le p.epoch (epoch_of items place)) (filter but (placed items)))
    ∙ (ap (filter (λ p. nat_le p.epoch (epoch_of items place))) (sym (without-placed items (is_pending d) place 0 items))
    ∙ ap (λ (e : ℕ). filter (λ (p : Pending StreamItem). nat_le p.epoch e) (without place (map (pending_in items) (pending d)))) (sym epoch))))
