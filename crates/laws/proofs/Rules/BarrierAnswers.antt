-- What is acknowledged, and in which order: which barriers are acknowledged now, each in its turn; and which packets acknowledge none.
use Rattle.std.proofs.Common.{ℕ, zero, suc, ◌≡◌, ◌≤◌, ◌<◌, inl, inr, Bool, true, false, cond, not, ◌&&◌, ◌||◌, List, [], ◌∷◌, ◌++◌, length, take, map, filter}
use Rattle.std.proofs.Common.{Some, slice_get, Ok, refl, sym, ◌∙◌, ap, subst, arith, ◌==◌}
use Rattle.std.specs.List.{list_any}
use Rattle.std.proofs.lemmas.Bool.{cases_Bool, both_ways, and_parts, and_from, not-true, not_from_false, eq-eqb, eqb-true, false_from_ne_true}
use Rattle.std.proofs.lemmas.List.{append-nil, map-append, take-append-le}
use Rattle.std.proofs.lemmas.List.Elements.{filter-append}
use Rattle.std.proofs.lemmas.List.Folds.{list_any-append}
use Rattle.std.proofs.lemmas.Option.{slice_get_within}
use Rattle.std.proofs.Math.Seq.{take-append_seam}
use Rattle.blocks.specs.declared.settings.Protocol.{Protocol}
use Rattle.blocks.specs.declared.settings.Protocol.TheVariants as protocol
use Rattle.model.specs.Stream.{StreamItem, WriteItem, ResyncItem, BarrierItem, SyncUuidItem, UuidsItem, below, barriers_in}
use Rattle.model.specs.Frames.{Packet, RecvAckFrame, BarrierAckFrame, Acknowledged}
use Rattle.model.specs.Primary.{is_barrier_ack}
use Rattle.model.specs.Secondary.{SecondaryConnection, items_taken, is_applied_to}
use Rattle.model.specs.SecondarySteps.{is_barrier_answer, barriers_to_answer, applied_answer}
use Rattle.laws.proofs.Lists.Elements.{get-left, get-more, get-end}
use Rattle.laws.proofs.Lists.Picks.{pick-any, pick-filtered, pick-image, pick-below, any-filtered}

-- Numbers.

-- the numbers from 1 to this one
abbrev up_to : ℕ → List ℕ
up_to n = map suc (below n)

up-to-more : (n : ℕ) → up_to (suc n) ≡ up_to n ++ suc n ∷ []
up-to-more n = map-append suc (below n) (n ∷ [])

-- each of them is one of them
among : (n e : ℕ) → 0 < e → e ≤ n → (k : ℕ) × (slice_get (up_to n) k ≡ Some e)
among zero e from upto = absurd (omega arith)
among (suc n) e from upto = elim (cases_Bool (e == suc n)) [
  | inl last ↦
      let is : e ≡ suc n = eqb-true e (suc n) last in
      (length (up_to n), ap (λ (l : List ℕ). slice_get l (length (up_to n))) (up-to-more n) ∙ (get-end (up_to n) (suc n) ∙ ap (λ (m : ℕ). Some m) (sym is)))
  | inr before ↦
      let other : e ≡ suc n → ⊥ = λ same. both_ways (e == suc n) before (eq-eqb e (suc n) same) in
      let rest = among n e from (omega arith) in
      (rest.0, ap (λ (l : List ℕ). slice_get l rest.0) (up-to-more n) ∙ get-left (up_to n) (suc n ∷ []) rest.0 e rest.1)
]

-- In a list, this number stands at this place behind the smaller ones that pass, and is not among those before it.
abbrev IsInTurn : (ℕ → Bool) → List ℕ → ℕ → ℕ → Type 0
IsInTurn p list place number = ((e : ℕ) → 0 < e → e < number → p e ≡ true → list_any (λ k. k == e) (take place list) ≡ true)
    × (list_any (λ k. k == number) (take place list) ≡ false)

-- the next number is not among those up to the last one
not-yet : (p : ℕ → Bool) (n : ℕ) → list_any (λ k. k == suc n) (filter p (up_to n)) ≡ false
not-yet p n = false_from_ne_true _ (λ some.
    let found = pick-any (λ k. k == suc n) (filter p (up_to n)) some in
    let there = pick-filtered p (up_to n) found.0 found.1 found.2 in
    let number = pick-image suc (below n) there.0 found.1 there.1 in
    let less = pick-below n there.0 number.0 number.1 in
    let same = eqb-true found.1 (suc n) found.3 in
    let is = number.2 in
    omega arith)

-- each of the numbers that pass is in turn
in-turn : (p : ℕ → Bool) (n i x : ℕ) → slice_get (filter p (up_to n)) i ≡ Some x → IsInTurn p (filter p (up_to n)) i x
in-turn p zero i x at = absurd (cc)
in-turn p (suc n) i x at = subst (λ (l : List ℕ). slice_get l i ≡ Some x
    → IsInTurn p l i x) (sym (ap (filter p) (up-to-more n) ∙ filter-append p (up_to n) (suc n ∷ []))) (go (p (suc n)) (in-turn p n i x)) at
  where
    go : (b : Bool) → (slice_get (filter p (up_to n)) i ≡ Some x → IsInTurn p (filter p (up_to n)) i x)
        → slice_get (filter p (up_to n) ++ cond b (suc n ∷ []) []) i ≡ Some x → IsInTurn p (filter p (up_to n) ++ cond b (suc n ∷ []) []) i x
    go false rest there = subst (λ (l : List ℕ). slice_get l i ≡ Some x → IsInTurn p l i x) (sym (append-nil (filter p (up_to n)))) rest there
    go true rest there = elim (get-more (filter p (up_to n)) (suc n) i x there) [
      | inl old ↦
          let front : take i (filter p (up_to n) ++ suc n ∷ []) ≡ take i (filter p (up_to n)) = take-append-le i (filter p (up_to n)) (suc n ∷ [])
          (let within = slice_get_within (filter p (up_to n)) i x old in omega arith) in
          let before = rest old in
          (λ e from less passes. ap (list_any (λ k. k == e)) front ∙ before.0 e from less passes, ap (list_any (λ k. k == x)) front ∙ before.1)
      | inr new ↦
          let front : take i (filter p (up_to n) ++ suc n ∷ []) ≡ filter p (up_to n) = ap (λ m. take m (filter p (up_to n) ++ suc n ∷ [])) new.0
          ∙ take-append_seam (filter p (up_to n)) (suc n ∷ []) in
          let is = new.1 in (
            λ e from less passes. let place = among n e from (omega arith) in ap (list_any (λ k. k == e)) front
                ∙ any-filtered (λ k. k == e) p (up_to n) place.0 e place.1 passes (eq-eqb e e refl),
            ap (list_any (λ k. k == x)) front ∙ (ap (λ (m : ℕ). list_any (λ k. k == m) (filter p (up_to n))) is ∙ not-yet p n),
          )
    ]

-- Which barriers are acknowledged now.

-- It was taken and all up to it is applied; it was not acknowledged, nor is it before this place; and each earlier one was acknowledged, or
-- is before this place if all up to it is applied.
pub record IsAnswered (d : SecondaryConnection) (n epoch : ℕ) : Type 0 where
  pub from : 0 < epoch
  pub upto : epoch ≤ barriers_in (items_taken d)
  pub applied : is_applied_to d epoch ≡ true
  pub unsaid : list_any (λ packet. is_barrier_ack epoch (Ok packet)) d.due ≡ false
  pub once : list_any (λ k. k == epoch) (take n (barriers_to_answer d)) ≡ false
  pub earlier : (e : ℕ) → 0 < e → e < epoch → is_applied_to d e ≡ true → list_any (λ packet. is_barrier_ack e (Ok packet)) d.due ≡ false
      → list_any (λ k. k == e) (take n (barriers_to_answer d)) ≡ true

-- each of them is so
pub answered-now : (d : SecondaryConnection) (n epoch : ℕ) → slice_get (barriers_to_answer d) n ≡ Some epoch → IsAnswered d n epoch
answered-now d n epoch at =
    let all : ℕ = barriers_in (items_taken d) in
    let p : ℕ → Bool = λ e. is_applied_to d e && not (list_any (is_barrier_answer e) d.due) in
    let turn = in-turn p all n epoch at in
    let passes = pick-filtered p (up_to all) n epoch at in
    let number = pick-image suc (below all) passes.0 epoch passes.1 in
    let less = pick-below all passes.0 number.0 number.1 in
    let is = number.2 in
    let parts = and_parts (is_applied_to d epoch) (not (list_any (is_barrier_answer epoch) d.due)) passes.2 in
    let same : (e : ℕ) → list_any (is_barrier_answer e) d.due ≡ list_any (λ packet. is_barrier_ack e (Ok packet)) d.due =
    λ e i. list_any (λ packet. same-test e packet i) d.due in
    record {
      from = omega arith;
      upto = omega arith;
      applied = parts.0;
      unsaid = sym (same epoch) ∙ not-true _ parts.1;
      once = turn.1;
      earlier = λ e from before applied unsaid. turn.0 e from before
          (and_from (is_applied_to d e) (not (list_any (is_barrier_answer e) d.due)) applied (not_from_false _ (same e ∙ unsaid)));
    }
  where
    -- the two tests of a barrier's acknowledgement are one
    same-test : (epoch : ℕ) (packet : Packet) → is_barrier_answer epoch packet ≡ is_barrier_ack epoch (Ok packet)
    same-test epoch (BarrierAckFrame number size) = refl
    same-test epoch packet = refl

-- whatever tells which were acknowledged tells which are now
pub answered-by : (d : SecondaryConnection) (p : ℕ → Bool) → ((epoch : ℕ) → 0 < epoch → list_any (is_barrier_answer epoch) d.due ≡ p epoch)
    → barriers_to_answer d ≡ filter (λ epoch. is_applied_to d epoch && not (p epoch)) (map suc (below (barriers_in (items_taken d))))
answered-by d p tells = go (below (barriers_in (items_taken d)))
  where
    go : (xs : List ℕ) → filter (λ epoch. is_applied_to d epoch && not (list_any (is_barrier_answer epoch) d.due)) (map suc xs)
        ≡ filter (λ epoch. is_applied_to d epoch && not (p epoch)) (map suc xs)
    go [] = refl
    go (x ∷ xs) = λ i. cond (is_applied_to d (suc x) && not (tells (suc x) (omega arith) i)) (suc x ∷ go xs i) (go xs i)

-- and then these were
pub answered-then : (due new : List Packet) (size : ℕ → ℕ) (epochs : List ℕ) → new ≡ map (λ epoch. BarrierAckFrame epoch (size epoch)) epochs → (epoch : ℕ)
    → list_any (is_barrier_answer epoch) (due ++ new) ≡ (list_any (is_barrier_answer epoch) due || list_any (λ k. k == epoch) epochs)
answered-then due new size epochs is epoch = list_any-append (is_barrier_answer epoch) due new
    ∙ ap (λ b. list_any (is_barrier_answer epoch) due || b) (ap (list_any (is_barrier_answer epoch)) is ∙ go epochs)
  where
    go : (xs : List ℕ) → list_any (is_barrier_answer epoch) (map (λ x. BarrierAckFrame x (size x)) xs) ≡ list_any (λ k. k == epoch) xs
    go [] = refl
    go (x ∷ xs) = ap (λ b. (x == epoch) || b) (go xs)

-- Packets that acknowledge no barrier.

-- none of them does
pub AnswerNone : List Packet → Type 0
AnswerNone packets = (epoch : ℕ) → list_any (is_barrier_answer epoch) packets ≡ false

-- they change nothing of what was acknowledged
pub answered-still : (due packets all : List Packet) → all ≡ due ++ packets → AnswerNone packets → (epoch : ℕ)
    → list_any (is_barrier_answer epoch) all ≡ list_any (is_barrier_answer epoch) due
unfolding AnswerNone
answered-still due packets all is none epoch =
    ap (list_any (is_barrier_answer epoch)) is
    ∙ (list_any-append (is_barrier_answer epoch) due packets
    ∙ (ap (λ b. list_any (is_barrier_answer epoch) due || b) (none epoch) ∙ plain (list_any (is_barrier_answer epoch) due)))
  where
    plain : (b : Bool) → (b || false) ≡ b
    plain true = refl
    plain false = refl

-- so does nothing
pub none-answer : AnswerNone []
unfolding AnswerNone
none-answer epoch = refl

-- a RECV_ACK
pub receipt-answers : (ack : Acknowledged) → AnswerNone (RecvAckFrame ack ∷ [])
unfolding AnswerNone
receipt-answers ack epoch = refl

-- and what is due of an item that was applied
pub applied-answers : (asked : Protocol) (place : ℕ) (item : StreamItem) → AnswerNone (applied_answer asked place item)
unfolding AnswerNone
applied-answers protocol.A place (WriteItem write) epoch = refl
applied-answers protocol.B place (WriteItem write) epoch = refl
applied-answers protocol.C place (WriteItem write) epoch = refl
applied-answers asked place (ResyncItem block contents) epoch = refl
applied-answers asked place (BarrierItem number) epoch = refl
applied-answers asked place (SyncUuidItem word) epoch = refl
applied-answers asked place (UuidsItem tuple) epoch = refl
