-- The epochs that are acknowledged, one after the other.
use Rattle.std.proofs.Common.{ℕ, suc, ◌≡◌, ◌+◌, ◌-◌, ◌<◌, ◌≤◌, ◌⊎◌, inl, inr, nat_le, nat_lt, Bool, true, false, List, [], ◌∷◌, ◌++◌, length, Some, None, refl}
use Rattle.std.proofs.Common.{sym, ◌∙◌, ap, arith}
use Rattle.std.specs.Prelude.{option_map, slice_get}
use Rattle.std.proofs.lemmas.Bool.{cases_lt, le-ltb, lt-leb, lt-ltb}
use Rattle.std.proofs.lemmas.Bool.Decides.{nat_tests}
use Rattle.std.proofs.lemmas.List.{append-nil, append_assoc, length-append, length-drop}
use Rattle.model.specs.Frames.{BarrierAckFrame}
use Rattle.model.specs.Stream.{StreamItem}
use Rattle.peerdisk.specs.Pending.{Pending}
use Rattle.secondary_protocol.specs.Core.{answers, is_applied_to}
use Rattle.secondary_core.specs.Outboxes.{OutboxState, acknowledging}

-- nothing is to be acknowledged
pub none-new : (ps : List (Pending StreamItem)) (o : OutboxState) → answers ps o.answered o.sizes ≡ [] → acknowledging ps o ≡ o
none-new ps o none =
    let zeroed : o.answered + 0 ≡ o.answered = omega arith in
    rw (none, append-nil o.due, zeroed) refl

-- the oldest ended epoch has a pending item
held : (ps : List (Pending StreamItem)) (answered : ℕ) (sizes : List ℕ) → is_applied_to ps (suc answered) ≡ false → answers ps answered sizes ≡ []
held ps answered [] waits = refl
held ps answered (size ∷ sizes) waits = rw waits refl

-- the oldest ended epoch is acknowledged, and then the others
abbrev pub and_next : ℕ → List ℕ → OutboxState → OutboxState
and_next size sizes e = record e { due = e.due ++ BarrierAckFrame (suc e.answered) size ∷ []; answered = suc e.answered; sizes = sizes }

pub next : (ps : List (Pending StreamItem)) (e : OutboxState) (size : ℕ) (sizes : List ℕ) → e.sizes ≡ size ∷ sizes → is_applied_to ps (suc e.answered) ≡ true
    → acknowledging ps (and_next size sizes e) ≡ acknowledging ps e
next ps e size sizes are applied =
    let more = answers ps (suc e.answered) sizes in
    let all : answers ps e.answered e.sizes ≡ BarrierAckFrame (suc e.answered) size ∷ more = ap (answers ps e.answered) are ∙ rw applied refl in
    let dues = append_assoc e.due (BarrierAckFrame (suc e.answered) size ∷ []) more in
    let counts : suc e.answered + length more ≡ e.answered + suc (length more) = omega arith in
    rw (all, dues, counts, are) refl

-- Which epochs are applied is read off the lowest pending place.
pub applied-first : (ps : List (Pending StreamItem)) (first epoch : ℕ) → option_map (λ p. p.epoch) (slice_get ps 0) ≡ Some first → 0 < epoch
    → is_applied_to ps epoch ≡ nat_le epoch (first - 1)
applied-first [] first epoch is some = absurd (cc)
applied-first (p ∷ ps) first epoch is some = let same : p.epoch ≡ first = cc in rw same (by-order (cases_lt epoch first))
  where
    by-order : (epoch < first) ⊎ (first ≤ epoch) → nat_lt epoch first ≡ nat_le epoch (first - 1)
    by-order (inl less) = let low : nat_le epoch (first - 1) ≡ true = grind (arith, nat_tests) in lt-ltb epoch first less ∙ sym low
    by-order (inr more) = let high : nat_le epoch (first - 1) ≡ false = grind (arith, nat_tests) in le-ltb epoch first more ∙ sym high

pub applied-none : (ps : List (Pending StreamItem)) (epoch : ℕ) → option_map (λ p. p.epoch) (slice_get ps 0) ≡ None → is_applied_to ps epoch ≡ true
applied-none [] epoch is = refl
applied-none (p ∷ ps) epoch is = absurd (cc)

-- The acknowledgements that become due are of epochs that waited for that.
few-new : (ps : List (Pending StreamItem)) (epoch : ℕ) (sizes : List ℕ) → length (answers ps epoch sizes) ≤ length sizes
few-new ps epoch [] = omega arith
few-new ps epoch (size ∷ sizes) = by-test (few-new ps (suc epoch) sizes) (is_applied_to ps (suc epoch)) refl
  where
    by-test : length (answers ps (suc epoch) sizes) ≤ length sizes → (b : Bool) → is_applied_to ps (suc epoch) ≡ b
        → length (answers ps epoch (size ∷ sizes)) ≤ length (size ∷ sizes)
    by-test rest true is = rw is (omega (arith, rest))
    by-test rest false is = rw is (omega arith)

pub record Counts (e f : OutboxState) : Type 0 where
  pub due : length f.due + length f.sizes ≡ length e.due + length e.sizes
  pub epochs : f.answered + length f.sizes ≡ e.answered + length e.sizes
  pub fewer : length f.sizes ≤ length e.sizes

pub counts : (ps : List (Pending StreamItem)) (e : OutboxState) → Counts e (acknowledging ps e)
counts ps e =
    let new = answers ps e.answered e.sizes in
    let few = few-new ps e.answered e.sizes in
    let left = length-drop (length new) e.sizes in
    record {
      due = omega (arith, length-append e.due new, few, left);
      epochs = omega (arith, few, left);
      fewer = omega (arith, left);
    }

-- Nothing is left to acknowledge: the next epoch is not applied, or its number does not fit, and then none is left.
pub at-end : (ps : List (Pending StreamItem)) (answered : ℕ) (sizes : List ℕ) (last : ℕ)
    → ((epoch : ℕ) → 0 < epoch → epoch < 4294967296 → is_applied_to ps epoch ≡ nat_le epoch last)
    → last ≤ answered → answered + length sizes < 4294967296 → answers ps answered sizes ≡ []
at-end ps answered [] last reads done fits = refl
at-end ps answered (size ∷ sizes) last reads done fits =
    let late : nat_le (suc answered) last ≡ false = lt-leb (suc answered) last (omega arith) in
    held ps answered (size ∷ sizes) (reads (suc answered) (omega arith) (omega (arith, fits)) ∙ late)
