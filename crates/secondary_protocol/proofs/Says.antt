-- What a state says is what the history says.
use Rattle.std.proofs.Common.{ℕ, ◌≡◌, ◌-◌, ◌<◌, inl, inr, List, [], ◌∷◌, length, map}
use Rattle.std.proofs.Common.{Option, Some, None, Ok, Err, slice_get, refl, sym, ◌∙◌, ap, subst, arith, ◌==◌, nat_lt, nat_le}
use Rattle.std.specs.Prelude.{ok_or, option_map}
use Rattle.std.specs.List.{list_any}
use Rattle.std.proofs.lemmas.Bool.{and_from, not_from_false, le-leb, lt-leb, le-ltb, lt-ltb, cases_lt, false_from_ne_true}
use Rattle.blocks.specs.declared.refusal.Refusal.TheVariants.{NothingThere}
use Rattle.model.specs.Stream.{StreamItem, epoch_of, barriers_in}
use Rattle.model.specs.Secondary.{SecondaryConnection, SecondaryHistory, secondary_connection, items_taken, is_pending, pending, next_pending}
use Rattle.model.specs.Secondary as model
use Rattle.laws.proofs.Rules.Usage.{whole-applied, whole-gone}
use Rattle.laws.proofs.Streams.Lawful.{epoch-bound}
use Rattle.peerdisk.specs.Pending.{next, start}
use Rattle.secondary_protocol.specs.Core.{SecondaryState, is_applied_to, whole}
use Rattle.secondary_protocol.specs.Leaves.{Leaves, FailedLeft, pending_in}
use Rattle.secondary_protocol.specs.Steps.{StatesSay}
use Rattle.secondary_protocol.proofs.Answering.{applied-same}
use Rattle.secondary_protocol.proofs.Starting.{starting}
use Rattle.secondary_protocol.proofs.Steps.Pushes.{due-same}
use Rattle.secondary_protocol.proofs.Tested.{length-map}

-- How far it is whole.

-- the first that waits is of no epoch behind the last
whole-is : (s : SecondaryState) (h : SecondaryHistory) → Leaves s h → whole s ≡ model.whole h
whole-is s h left = go s.failed left.last.failed
  where
    d : SecondaryConnection
    d = secondary_connection h

    all : ℕ
    all = barriers_in (items_taken (secondary_connection h))

    shift : (x e : ℕ) → 0 < x → nat_lt x e ≡ nat_le x (e - 1)
    shift x e from = elim (cases_lt x e) [
      | inl less ↦ lt-ltb x e less ∙ sym (le-leb x (e - 1) (omega arith))
      | inr more ↦ le-ltb x e more ∙ sym (lt-leb x (e - 1) (omega arith))
    ]

    by-first : (L : List (ℕ × StreamItem)) → pending (secondary_connection h) ≡ L → (secondary_connection h).gone ≡ []
        → elim (map (pending_in (items_taken (secondary_connection h))) L) as
        (λ _. ℕ) [ [] ↦ barriers_in (items_taken (secondary_connection h)) | p ∷ ps ↦ p.epoch - 1 ] ≡ model.whole h
    by-first [] is none = whole-applied h all none (omega arith) (λ x from upto.
        applied-same d x none ∙ (ap (λ (l : List (ℕ × StreamItem)). is_applied_to (map (pending_in (items_taken d)) l) x) is ∙ sym (le-leb x all upto)))
    by-first (entry ∷ L) is none =
        let bound = epoch-bound (items_taken d) entry.0 in
        whole-applied h (epoch_of (items_taken d) entry.0 - 1) none (omega arith) (λ x from upto. applied-same d x none
        ∙ (ap (λ (l : List (ℕ × StreamItem)). is_applied_to (map (pending_in (items_taken d)) l) x) is ∙ shift x (epoch_of (items_taken d) entry.0) from))

    go : (v : Option ℕ) → FailedLeft v (secondary_connection h)
        → elim v as (λ _. ℕ) [ Some epoch ↦ epoch - 1 | None ↦ elim s.pending as (λ _. ℕ) [ [] ↦ s.intake.barriers | p ∷ ps ↦ p.epoch - 1 ] ] ≡ model.whole h
    go None none =
        (λ k. elim (left.last.pending k) as (λ _. ℕ) [ [] ↦ (left.last.intake k).barriers | p ∷ ps ↦ p.epoch - 1 ])
        ∙ by-first (pending (secondary_connection h)) refl none
    go (Some epoch) was =
        let bound = epoch-bound (items_taken d) was.place in
        let epoch_is = was.epoch_is in
        whole-gone h (epoch - 1) was.place was.item was.at was.has_blocks was.gone (omega arith) (omega arith) (λ other one at blocks early.
        and_from _ _ (and_from _ _ blocks (not_from_false _ (false_from_ne_true (is_pending d (other, one))
        (λ waits. let same = was.waiting other one at waits in omega arith))))
        (not_from_false _ (false_from_ne_true (list_any (λ (k : ℕ). k == other) d.gone) (λ gone. let later = was.later other gone in omega arith))))

-- what a state says is what the history says
pub states-say : StatesSay
states-say s h left = record {
  next = ap next left.last.pending ∙ first (pending (secondary_connection h));
  drained = ap (λ n. n == 0) (ap length left.last.pending ∙ length-map (pending_in (items_taken (secondary_connection h))) (pending (secondary_connection h)));
  whole = whole-is s h left;
  items = λ place item is. elim (starting (secondary_connection h) place) [
    | inl may ↦ let same : Ok may.item ≡ Ok item = sym may.starts
        ∙ (sym (ap (start place) left.last.pending) ∙ is) in let one : may.item ≡ item =
        cc in subst (λ (x : StreamItem). slice_get (items_taken (secondary_connection h)) place ≡ Some x) one may.there
    | inr may_not ↦ absurd (let other : Err may_not.refusal ≡ Ok item = sym may_not.starts ∙ (sym (ap (start place) left.last.pending) ∙ is) in cc)
  ];
  owes = λ packet is. due-same s h packet left is;
}
  where
    first : (L : List (ℕ × StreamItem))
        → next (map (pending_in (items_taken (secondary_connection h))) L) ≡ ok_or (option_map (λ entry. entry.0) (slice_get L 0)) NothingThere
    first [] = refl
    first (x ∷ L) = refl
