use Rattle.std.proofs.Common.{◌≡◌, ◌≤◌, List, false, refl, sym, ap, subst}
use Rattle.std.specs.Prelude.{IfOk, IsTrue}
use Rattle.model.specs.Settlement.{Receipt, Settlement, settlement}
use Rattle.model.specs.Theorems.{Settles}
use Rattle.settlement.specs.Settled.{AreEntries, kept, numbers}
use Rattle.session_run.specs.Outcome.{AreAtRest, HasSettled, IsNumber}
use Rattle.session_run.proofs.Outcome.{settled-numbers}
use Rattle.session_run.proofs.report.settled_by.Goals as goal

pub returns-clause-confirmed : goal.returns-clause-confirmed
returns-clause-confirmed g c = subst (λ w. IfOk w (λ receipts. IsNumber (λ n. n.confirmed) c.args.primary.now c.args.secondary.now receipts.items
    c.in_ok-settled.settled.confirmed)) (sym c.in_ok-receipts.was) (λ p s hp hs.
    subst (λ (l : List Receipt). c.in_ok-settled.settled.confirmed ≡ (settlement p s l).confirmed) c.as_slice.ensures.value
    (ap (λ (n : Settlement). n.confirmed) (settled-numbers p (kept s) c.as_slice.result.now false (numbers c.in_ok-settled.settled)
    (c.in_ok-settled.ensures.kept (subst IsTrue c.store.ensures.faithful refl) (subst IsTrue c.store-2.ensures.faithful refl) p s hp hs))))

pub returns-clause-unmarked : goal.returns-clause-unmarked
returns-clause-unmarked g c = subst (λ w. IfOk w (λ receipts. IsNumber (λ n. n.unmarked) c.args.primary.now c.args.secondary.now receipts.items
    c.in_ok-settled.settled.unmarked)) (sym c.in_ok-receipts.was) (λ p s hp hs.
    ap (λ (n : Settlement). n.unmarked) (settled-numbers p (kept s) c.as_slice.result.now false (numbers c.in_ok-settled.settled)
    (c.in_ok-settled.ensures.kept (subst IsTrue c.store.ensures.faithful refl) (subst IsTrue c.store-2.ensures.faithful refl) p s hp hs)))

pub returns-clause-settles : goal.returns-clause-settles
returns-clause-settles g c = subst (λ w. IfOk w (λ receipts. c.args.secondary.now.core.number ≤ c.args.primary.now.core.connections
    → HasSettled c.args.primary.now c.args.secondary.now receipts.items c.in_ok-settled.settled.confirmed c.in_ok-settled.settled.unmarked))
    (sym c.in_ok-receipts.was) (λ numbered p s hp hs joined honest. (
      numbers c.in_ok-settled.settled,
      (
        subst (λ (l : List Receipt). Settles p s l (numbers c.in_ok-settled.settled)) c.as_slice.ensures.value
            (c.in_ok-settled.ensures.settles numbered (subst IsTrue c.store.ensures.faithful refl) (subst IsTrue c.store-2.ensures.faithful refl) p s hp hs joined honest),
        (refl, refl),
      ),
    ))

pub returns-clause-rest : goal.returns-clause-rest
returns-clause-rest g c = subst (λ w. IfOk w (λ receipts. AreAtRest c.args.primary.now c.args.secondary.now receipts.items)) (sym c.in_ok-receipts.was)
    (λ p s hp hs. (
      c.in_ok-settled.ensures.rest p s hp hs,
      subst (AreEntries p) c.as_slice.ensures.value (c.in_ok-settled.ensures.entries p hp),
    ))
