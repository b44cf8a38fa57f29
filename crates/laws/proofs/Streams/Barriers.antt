-- The barriers of a stream, by their epochs.
use Rattle.std.proofs.Common.{ℕ, zero, suc, ◌≡◌, ◌≤◌, ◌<◌, Bool, true, false, cond, List, [], ◌∷◌, length, take, filter, Some, slice_get, refl, ap, arith}
use Rattle.model.specs.Stream.{StreamItem, WriteItem, ResyncItem, BarrierItem, SyncUuidItem, UuidsItem, is_barrier, barriers_in, epoch_of}

-- each epoch that is over has a barrier
pub barrier-of : (items : List StreamItem) (number : ℕ) → 0 < number → number ≤ barriers_in items
    → (place : ℕ) × (epoch : ℕ) × (slice_get items place ≡ Some (BarrierItem epoch)) × (epoch_of items place ≡ number)
barrier-of [] number from upto = absurd (omega arith)
barrier-of (WriteItem write ∷ items) number from upto = let rest = barrier-of items number from upto in (suc rest.0, rest.1, rest.2, rest.3)
barrier-of (ResyncItem block contents ∷ items) number from upto = let rest = barrier-of items number from upto in (suc rest.0, rest.1, rest.2, rest.3)
barrier-of (SyncUuidItem word ∷ items) number from upto = let rest = barrier-of items number from upto in (suc rest.0, rest.1, rest.2, rest.3)
barrier-of (UuidsItem tuple ∷ items) number from upto = let rest = barrier-of items number from upto in (suc rest.0, rest.1, rest.2, rest.3)
barrier-of (BarrierItem epoch ∷ items) zero from upto = absurd (omega arith)
barrier-of (BarrierItem epoch ∷ items) (suc zero) from upto = (0, epoch, refl, refl)
barrier-of (BarrierItem epoch ∷ items) (suc (suc n)) from upto =
    let rest = barrier-of items (suc n) (omega arith) (omega arith) in
    (suc rest.0, rest.1, rest.2, let is = rest.3 in omega arith)

-- what stands behind a barrier is in a later epoch
pub behind-barrier : (items : List StreamItem) (place later epoch : ℕ) → place < later → later ≤ length items → slice_get items place ≡ Some (BarrierItem epoch)
    → epoch_of items place < epoch_of items later
behind-barrier [] place later epoch less within at = absurd (cc)
behind-barrier (x ∷ items) place zero epoch less within at = absurd (omega arith)
behind-barrier (x ∷ items) zero (suc later) epoch less within at =
    let same : x ≡ BarrierItem epoch = cc in
    let here : barriers_in (x ∷ take later items) ≡ suc (barriers_in (take later items)) = ap (λ (i : StreamItem). barriers_in (i ∷ take later items)) same in
    omega arith
behind-barrier (x ∷ items) (suc place) (suc later) epoch less within at =
    let rest = behind-barrier items place later epoch (omega arith) (omega arith) at in
    go (is_barrier x) rest
  where
    go : (b : Bool) → epoch_of items place < epoch_of items later
        → suc (length (cond b (x ∷ filter is_barrier (take place items)) (filter is_barrier (take place items)))) < suc
        (length (cond b (x ∷ filter is_barrier (take later items)) (filter is_barrier (take later items))))
    go true rest = omega arith
    go false rest = rest
