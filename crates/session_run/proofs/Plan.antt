-- How the receipts of one writer after another make up those of a run.
use Rattle.std.proofs.Common.{ℕ, suc, ◌≡◌, ◌<◌, ◌≤◌, ◌+◌, ◌*◌, inl, inr, List, ◌++◌, length, arith, ap, sym, subst, ◌∙◌}
use Rattle.std.proofs.Math.Nat.{mul-le-mul_right}
use Rattle.std.proofs.lemmas.Bool.{cases_lt}
use Rattle.std.proofs.lemmas.Option.{slice_get_within}
use Rattle.laws.proofs.Lists.Elements.{get-split}
use Rattle.model.specs.Settlement.{Receipt}
use Rattle.program_values.specs.declared.run_options.RunOptions.{RunOptions}
use mathlib.Core.List.{IsPrefix}
use Rattle.told.specs.declared.entry.Told.{Told}
use Rattle.told.specs.declared.entry.Told.TheVariants.{Accepted}
use Rattle.told.proofs.Seeing.{stays-told}
use Rattle.session_run.specs.Plan.{AreOfPlan, AreOfWriter, IsOfTurn}
use Rattle.told.specs.Log.{SaysAccepted}

-- a place among the receipts of all writers is that of one turn of one writer
same-turn : (writes w k turn n : ℕ) → turn < writes → n < writes → w * writes + turn ≡ k * writes + n → (w ≡ k) × (turn ≡ n)
same-turn writes w k turn n small less is = elim (cases_lt w k) [
  | inl below ↦ absurd (let more : suc w * writes ≤ k * writes = mul-le-mul_right writes below in omega (arith, more))
  | inr from ↦ elim (cases_lt k w) [
    | inl above ↦ absurd (let more : suc k * writes ≤ w * writes = mul-le-mul_right writes above in omega (arith, more))
    | inr to ↦
        let same : w ≡ k = omega (arith, from, to) in
        let equal : w * writes ≡ k * writes = ap (λ m. m * writes) same in (same, omega (arith, equal))
  ]
]

-- those of the next writer, behind those of all before it
pub plan-grows : (accepts : ℕ → ℕ → List ℕ → Type 0) (options : RunOptions) (writer : ℕ) (all more : List Receipt)
    → length all ≡ writer * options.writes → length more ≡ options.writes → AreOfPlan accepts options all → AreOfWriter accepts options writer more
    → AreOfPlan accepts options (all ++ more)
plan-grows accepts options writer all more size one planned turns w turn receipt small at =
    elim (get-split all more (w * options.writes + turn) receipt at) [
      | inl old ↦ planned w turn receipt small old
      | inr new ↦
          let within : new.0 < length more = slice_get_within more new.0 receipt new.2 in
          let is = same-turn options.writes w writer turn new.0 small (omega (arith, one)) (new.1 ∙ ap (λ n. n + new.0) size) in
          subst (λ k. IsOfTurn accepts options k turn receipt) (sym is.0)
          (subst (λ n. IsOfTurn accepts options writer n receipt) (sym is.1) (turns new.0 receipt new.2))
    ]

-- What holds of each write that a turn's receipt names holds of the plan.
pub turn-means : (first second : ℕ → ℕ → List ℕ → Type 0) → ((number block : ℕ) (bytes : List ℕ) → first number block bytes → second number block bytes)
    → (options : RunOptions) (writer turn : ℕ) (receipt : Receipt) → IsOfTurn first options writer turn receipt → IsOfTurn second options writer turn receipt
turn-means first second means options writer turn receipt is = record {
  first = is.first;
  count = is.count;
  accepted = means receipt.number receipt.first _ is.accepted;
}

pub plan-means : (first second : ℕ → ℕ → List ℕ → Type 0) → ((number block : ℕ) (bytes : List ℕ) → first number block bytes → second number block bytes)
    → (options : RunOptions) (receipts : List Receipt) → AreOfPlan first options receipts → AreOfPlan second options receipts
plan-means first second means options receipts planned writer turn receipt small at =
    turn-means first second means options writer turn receipt (planned writer turn receipt small at)

-- what a writer was told stays told
pub writer-grows : (old new : List Told) → IsPrefix old new → (options : RunOptions) (writer : ℕ) (receipts : List Receipt)
    → AreOfWriter (SaysAccepted old) options writer receipts → AreOfWriter (SaysAccepted new) options writer receipts
writer-grows old new seen options writer receipts planned turn receipt at =
    turn-means (SaysAccepted old) (SaysAccepted new) (λ number first bytes was. stays-told old new (Accepted number first bytes) seen was) options writer turn receipt
    (planned turn receipt at)
