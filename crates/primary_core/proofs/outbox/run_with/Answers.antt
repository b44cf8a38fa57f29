use Rattle.std.proofs.Common.{ℕ, ◌≡◌, ◌+◌, ◌++◌, ◌∷◌, [], List, sym, ◌∙◌, ap, arith, add-one}
use Rattle.std.proofs.lemmas.Bool.Decides.{nat_tests}
use Rattle.primary_core.specs.Outbox.{run}
use Rattle.primary_core.proofs.Barriers.{run-longer}
use Rattle.primary_core.proofs.outbox.run_with.Goals as goal
use Rattle.primary_core.proofs.outbox.run_with.Goals.{then-is_run, else-is_run}

pub returns-then-first-number : goal.returns-then-first-number
returns-then-first-number c ns long runs at =
    let first = c.args.first in
    let count = c.args.count in
    elim c.if-is_run.branch [
      | then-is_run w ↦
          let next : c.args.number ≡ first + count = grind (arith, nat_tests, c.from-number.ensures, c.if-first-number.true, w.t-13-is, at) in
          ap (λ (k : ℕ). ns ++ k ∷ []) next
          ∙ (ap (λ (xs : List ℕ). xs ++ (first + count) ∷ []) (runs w.if-is_run.true)
          ∙ (run-longer first count ∙ ap (run first) (sym (add-one count))))
      | else-is_run w ↦ absurd (cc)
    ]
