-- The primary closes its end.
use Rattle.std.proofs.Common.{ℕ, ◌≡◌, Bool, true, false, [], ◌∷◌, length, Option, Some, None, Result, Ok, Err, refl, sym, ap, subst}
use Rattle.blocks.specs.declared.refusal.Refusal.{Refusal}
use Rattle.blocks.specs.declared.refusal.Refusal.TheVariants.{NotConnected}
use Rattle.blocks.specs.declared.outcome.Reply.{Reply}
use Rattle.blocks.specs.declared.outcome.Reply.TheVariants as reply
use Rattle.model.specs.Primary.{PrimaryHistory, primary_connection}
use Rattle.model.specs.PrimarySteps as step
use Rattle.model.specs.PrimarySteps.{closing, follows}
use Rattle.laws.proofs.Releases.InOrderMoves.{in-order-kept}
use Rattle.primary_protocol.specs.Core.{EndState, PrimaryState}
use Rattle.primary_protocol.specs.Transitions as transition
use Rattle.primary_protocol.specs.Leaves.{EndLeft}
use Rattle.primary_protocol.specs.Steps.{Agrees, ClosesAgree}
use Rattle.primary_protocol.proofs.Close.Closing.{IsClose, close-leaves, close-count}
use Rattle.primary_protocol.proofs.Common.Reached.{reached-ordered, primary-connection-of, refused-agrees}

close-is : (h : PrimaryHistory) → (primary_connection h).closed ≡ false → IsClose h (closing h) (λ c. record c { closed = true })
close-is h unshut = record {
  settings = refl;
  journal = refl;
  receipts = refl;
  writes = refl;
  connections = refl;
  last = primary-connection-of (λ c. record c { closed = true }) h (closing h) refl unshut;
  tuple = refl;
  marks = λ block. refl;
  closed = refl;
  pushed = refl;
  frames = refl;
}

-- the primary closes its end
pub closes-agree : ClosesAgree
closes-agree s h reached left = by-end s.end refl left.rest.end
  where
    core-by : Option EndState → Result ℕ Refusal × PrimaryState
    core-by v = elim v [ None ↦ (Err NotConnected, s) | Some e ↦ let after = transition.closing e s in (Ok after.0, after.1) ]

    model-by : Bool → Reply × PrimaryHistory
    model-by closed = step.tested h ((closed, NotConnected) ∷ [])
        (λ _. let after = follows (closing h) in (reply.Closed (length after.completed), after.history))

    by-end : (v : Option EndState) → s.end ≡ v → EndLeft v (primary_connection h) → Agrees reply.Closed (core-by s.end) (step.close_primary h)
    by-end None none shut = refused-agrees reply.Closed s h NotConnected (core-by s.end) (step.close_primary h) (ap core-by none) (ap model-by shut) left
    by-end (Some e) is end =
        let known = reached-ordered h reached in
        let homes1 = ((in-order-kept known.settings known.bound).closes h end.is_open known.ordered).1.1.0.0 in
        let shut = close-is h end.is_open in
        subst (λ v. Agrees reply.Closed (core-by v) (step.close_primary h)) (sym is)
        (subst (λ b. Agrees reply.Closed (core-by (Some e)) (model-by b)) (sym end.is_open) (record {
          reply = ap reply.Closed (close-count s h (closing h) (λ c. record c { closed = true }) e left known.ordered.1.1.0.0 known.ordered.1.0 homes1 shut is
              end s.peer (sym left.rest.peer));
          leaves = close-leaves s h (closing h) (λ c. record c { closed = true }) e left known.ordered.1.1.0.0 known.ordered.1.0 homes1 shut is end s.peer
              (sym left.rest.peer);
        }))
