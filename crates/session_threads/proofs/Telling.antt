-- What a caller is told of a write, from its acceptance to its receipt.
use Rattle.std.proofs.Common.{ℕ, ◌≡◌, List, [], ◌∷◌, ◌++◌, Result, Ok, Err, sym, ◌∙◌, ap, subst}
use Rattle.std.specs.Prelude.{IfOk, OnErr}
use mathlib.Core.List.{IsPrefix}
use Rattle.blocks.specs.declared.refusal.Refusal.{Refusal}
use Rattle.model.specs.Settlement.{Receipt}
use Rattle.told.specs.declared.entry.Told.{Told}
use Rattle.told.specs.declared.entry.Told.TheVariants.{Accepted, Given}
use Rattle.told.specs.Callers.{CallerState}
use Rattle.told.specs.Log.{Extends}
use Rattle.told.proofs.Seeing.{prefix-self, told-prefix}

-- that it was accepted, under the number of the receipt, and the receipt
pub written-told : (old mid new : List Told) (result : Result Receipt Refusal) (number first : ℕ) (bytes : List ℕ)
    → Extends old (Accepted number first bytes) mid → IfOk result (λ receipt. receipt.number ≡ number)
    → IfOk result (λ receipt. Extends mid (Given receipt) new)
    → IfOk result (λ receipt. (between : List Told) × Extends old (Accepted receipt.number first bytes) between × Extends between (Given receipt) new)
written-told old mid new (Err e) number first bytes accepted is given = tt
written-told old mid new (Ok receipt) number first bytes accepted is given =
    (mid, subst (λ n. Extends old (Accepted n first bytes) mid) (sym is) accepted, given)

-- the write is the caller's own, under that number
pub written-mine : (old mid new : List ℕ) (result : Result Receipt Refusal) (number : ℕ) → mid ≡ old ++ number ∷ [] → new ≡ mid
    → IfOk result (λ receipt. receipt.number ≡ number) → IfOk result (λ receipt. new ≡ old ++ receipt.number ∷ [])
written-mine old mid new (Err e) number grown same is = tt
written-mine old mid new (Ok receipt) number grown same is = same ∙ grown ∙ ap (λ n. old ++ n ∷ []) (sym is)

-- a caller that was told a receipt, or nothing, goes on from what it knew
pub given-on : (old new : CallerState) (result : Result Receipt Refusal) → IfOk result (λ receipt. Extends old.log (Given receipt) new.log)
    → OnErr result (new ≡ old) → IsPrefix old.log new.log
given-on old new (Ok receipt) given untold = told-prefix old.log (Given receipt) new.log given
given-on old new (Err e) given untold = subst (λ (c : CallerState). IsPrefix old.log c.log) (sym untold) (prefix-self old.log)

-- the receipt with which a write ends is the one that was told
pub ended-told : (old new : List Told) (result : Result Receipt Refusal) (receipt : Receipt) (Blocks : Receipt → Type 0)
    → IfOk result (λ ended. (ended ≡ receipt) × Blocks ended) → Extends old (Given receipt) new → IfOk result (λ ended. Extends old (Given ended) new)
ended-told old new (Err e) receipt Blocks own given = tt
ended-told old new (Ok ended) receipt Blocks own given = subst (λ r. Extends old (Given r) new) (sym own.0) given
