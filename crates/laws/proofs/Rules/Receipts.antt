-- When a receipt is given: what holds of a refusal, of a failed write's and of each entry's, holds of what a caller gets.
use Rattle.std.proofs.Common.{ℕ, ◌≡◌, ◌==◌, Bool, true, false, ◌&&◌, ◌||◌, [], ◌∷◌, Option, Some, None, is_none, Result, Ok, Err}
use Rattle.std.specs.Prelude.{find}
use Rattle.std.specs.List.{list_any}
use Rattle.blocks.specs.declared.refusal.Refusal.{Refusal}
use Rattle.blocks.specs.declared.refusal.Refusal.TheVariants.{LocalFault, NotCompleted, UnknownJob}
use Rattle.model.specs.Refusals.{first_refusal}
use Rattle.model.specs.Primary.{Accepted, Completion, PrimaryHistory, is_open}
use Rattle.model.specs.PrimarySteps.{accepted_at, take_completed_tests, receipted, take_completed}

-- the history stays where it is refused, and else has the receipt
pub receipt-has : (P : Result Completion Refusal × PrimaryHistory → Type 0) (number : ℕ) (h : PrimaryHistory) → ((refusal : Refusal) → P (Err refusal, h))
    → P (Err LocalFault, receipted number h)
    → ((entry : Completion) → P (Ok entry, receipted number h)) → P (take_completed number h)
receipt-has P number h refused failed given = go (first_refusal (take_completed_tests h number)) (find (λ entry. entry.write.number == number) h.journal)
  where
    go : (v : Option Refusal) (found : Option Completion) → P (elim v as (λ _. Result Completion Refusal × PrimaryHistory) [
      | Some refusal ↦ (Err refusal, h)
      | None ↦ elim found as (λ _. Result Completion Refusal × PrimaryHistory) [
        | None ↦ (Err LocalFault, receipted number h)
        | Some entry ↦
            (Ok entry, receipted number h)
      ]
    ])
    go (Some refusal) found = refused refusal
    go None None = failed
    go None (Some entry) = given entry

-- What holds of an entry, and of each of the three refusals, holds of what a caller gets.
pub receipt-or-refusal : (P : Result Completion Refusal → Type 0) (number : ℕ) (h : PrimaryHistory) → P (Err UnknownJob) → P (Err NotCompleted)
    → P (Err LocalFault) → ((entry : Completion) → P (Ok entry)) → P (take_completed number h).0
receipt-or-refusal P number h unknown waits failed given =
    go (is_none (accepted_at h number) || list_any (λ taken. taken == number) h.receipts)
    (list_any (λ (accepted : Accepted). (accepted.write.number == number) && is_open h accepted) h.writes)
    (find (λ (entry : Completion). entry.write.number == number) h.journal)
  where
    go : (gone waiting : Bool) (found : Option Completion)
        → P (elim (first_refusal ((gone, UnknownJob) ∷ (waiting, NotCompleted) ∷ [])) as (λ _. Result Completion Refusal × PrimaryHistory) [
          | Some refusal ↦ (Err refusal, h)
          | None ↦ elim found as (λ _. Result Completion Refusal × PrimaryHistory) [
            | None ↦ (Err LocalFault, receipted number h)
            | Some entry ↦ (Ok entry, receipted number h)
          ]
        ]).0
    go true waiting found = unknown
    go false true found = waits
    go false false None = failed
    go false false (Some entry) = given entry

-- what a caller gets, by what is asked: whether the number is unknown or its receipt was taken, whether its write is open, its entry
abbrev pub receipt_by : ℕ → PrimaryHistory → Bool → Bool → Option Completion → Result Completion Refusal × PrimaryHistory
receipt_by number h gone waits found = elim (first_refusal ((gone, UnknownJob) ∷ (waits, NotCompleted) ∷ [])) [
  | Some refusal ↦ (Err refusal, h)
  | None ↦ elim found [ None ↦ (Err LocalFault, receipted number h) | Some entry ↦ (Ok entry, receipted number h) ]
]

-- whatever asks the same gets the same
pub receipt-by : (number : ℕ) (h : PrimaryHistory) (gone waits : Bool) (found : Option Completion)
    → gone ≡ (is_none (accepted_at h number) || list_any (λ taken. taken == number) h.receipts)
    → waits ≡ list_any (λ (a : Accepted). (a.write.number == number) && is_open h a) h.writes
    → found ≡ find (λ (entry : Completion). entry.write.number == number) h.journal → receipt_by number h gone waits found ≡ take_completed number h
receipt-by number h gone waits found is_gone is_waiting is_found = λ i. receipt_by number h (is_gone i) (is_waiting i) (is_found i)
