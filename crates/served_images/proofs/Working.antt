-- What holds of the receipts of a session's work.
use Rattle.std.proofs.Common.{◌≡◌, List, Result, Ok, Vec, Global, subst, sym}
use Rattle.std.specs.Prelude.{IfOk}
use Rattle.blocks.specs.declared.refusal.Refusal.{Refusal}
use Rattle.model.specs.Settlement.{Receipt}

-- what holds of these receipts, where the work gave them
pub given : (worked : Result (Vec Receipt Global) Refusal) (receipts : Vec Receipt Global) (Q : List Receipt → Type 0) → worked ≡ Ok receipts → Q receipts.items
    → IfOk worked (λ all. Q all.items)
given worked receipts Q is holds = subst (λ (w : Result (Vec Receipt Global) Refusal). IfOk w (λ all. Q all.items)) (sym is) holds
