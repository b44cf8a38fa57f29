-- Barriers are acknowledged in their turn: those that become due in one step, behind those that were due before.
use Rattle.std.proofs.Common.{ℕ, zero, suc, ◌≡◌, ◌≤◌, inl, inr, Bool, true, not, ◌&&◌, ◌||◌, List, [], ◌∷◌, ◌++◌, take, map}
use Rattle.std.proofs.Common.{Some, slice_get, Ok, refl, ◌∙◌, ap, arith, ◌==◌, nat_le}
use Rattle.std.specs.List.{list_any, list_all}
use Rattle.std.proofs.lemmas.Bool.{cases_Bool, and_parts, and_from, or_right, or_from, le-leb, leb-true}
use Rattle.std.proofs.lemmas.List.Folds.{list_any-append}
use Rattle.blocks.specs.declared.settings.Protocol.{Protocol}
use Rattle.model.specs.Stream.{StreamItem, is_whole, has_blocks, epoch_of, epoch_size, placed}
use Rattle.model.specs.Frames.{Packet}
use Rattle.model.specs.Primary.{is_barrier_ack}
use Rattle.model.specs.Secondary.{SecondaryConnection, items_taken, is_applied_to}
use Rattle.model.specs.SecondarySteps.{barrier_answer, barriers_to_answer}
use Rattle.laws.proofs.Rules.BarrierAnswers.{answered-now}
use Rattle.laws.proofs.Secondary.Fits.{is_said, is_answered_to, FitsBarrier, said-grows, answered-grows}
use Rattle.laws.proofs.Secondary.TrueBarriers.{applied-whole}

-- a test that is implied by another one of each element
all-implied : {X : Type 0} (p q : X → Bool) (xs : List X) → ((x : X) → p x ≡ true → q x ≡ true) → list_all p xs ≡ true → list_all q xs ≡ true
all-implied p q [] implied all = refl
all-implied p q (x ∷ xs) implied all =
    let parts = and_parts (p x) (list_all p xs) all in
    and_from (q x) (list_all q xs) (implied x parts.0) (all-implied p q xs implied parts.1)

-- where all is applied up to an epoch, it is up to each earlier one
applied-before : (d : SecondaryConnection) (epoch later : ℕ) → epoch ≤ later → is_applied_to d later ≡ true → is_applied_to d epoch ≡ true
applied-before d epoch later before applied = all-implied (test later) (test epoch) (placed (items_taken d))
    (λ entry. weaker (epoch_of (items_taken d) entry.0) (has_blocks entry.1) (is_whole d.applied entry.0 entry.1)) applied
  where
    test : ℕ → ℕ × StreamItem → Bool
    test e entry = not (nat_le (epoch_of (items_taken d) entry.0) e && has_blocks entry.1) || is_whole d.applied entry.0 entry.1

    weaker : (at : ℕ) (blocks whole : Bool) → (not (nat_le at later && blocks) || whole) ≡ true → (not (nat_le at epoch && blocks) || whole) ≡ true
    weaker at blocks whole h = elim (cases_Bool (nat_le at epoch)) [
      | inl early ↦ let upto = leb-true at epoch early in let still : nat_le at later ≡ true = le-leb at later (omega arith) in rw early (rw still at h)
      | inr late ↦ rw late refl
    ]

-- what is said of the acknowledgements of some epochs
said-of : (d : SecondaryConnection) (epoch n : ℕ) (epochs : List ℕ)
    → is_said (is_barrier_ack epoch) (take n (map (barrier_answer d) epochs)) ≡ list_any (λ k. k == epoch) (take n epochs)
said-of d epoch zero epochs = refl
said-of d epoch (suc n) [] = refl
said-of d epoch (suc n) (e ∷ epochs) = ap (λ b. (e == epoch) || b) (said-of d epoch n epochs)

-- Each of the acknowledgements that become due in one step is in its turn.
pub answers-fit : (asked : Protocol) (d : SecondaryConnection)
    → ((place : ℕ) (item : StreamItem) → slice_get (items_taken d) place ≡ Some item → has_blocks item ≡ true
    → is_whole d.applied place item ≡ true → is_answered_to asked d.due place item ≡ true)
    → (n epoch : ℕ) → slice_get (barriers_to_answer d) n ≡ Some epoch
    → FitsBarrier asked (items_taken d) (d.due ++ take n (map (barrier_answer d) (barriers_to_answer d))) epoch (epoch_size (items_taken d) epoch)
answers-fit asked d answered n epoch at =
    let now : List Packet = take n (map (barrier_answer d) (barriers_to_answer d)) in
    let one = answered-now d n epoch at in
    let split : (e : ℕ) → is_said (is_barrier_ack e) (d.due ++ now) ≡ (is_said (is_barrier_ack e) d.due || is_said (is_barrier_ack e) now) =
    λ e. list_any-append (λ packet. is_barrier_ack e (Ok packet)) d.due now in
    record {
      from = one.from;
      upto = one.upto;
      counts = refl;
      earlier = λ e from before. elim (cases_Bool (is_said (is_barrier_ack e) d.due)) [
        | inl said ↦ said-grows (is_barrier_ack e) d.due now said
        | inr unsaid ↦ split e ∙ or_right _ _ (said-of d e n (barriers_to_answer d)
            ∙ one.earlier e from before (applied-before d e epoch (omega arith) one.applied) unsaid)
      ];
      first = split epoch ∙ or_from _ _ one.unsaid (said-of d epoch n (barriers_to_answer d) ∙ one.once);
      answered = λ place item there early blocks. answered-grows asked d.due now place item
          (answered place item there blocks (applied-whole d epoch place item one.applied there early blocks));
    }
