-- Whether an opening would be refused, as the state tells it and as the history does.
use Rattle.std.proofs.Common.{ℕ, ◌≡◌, ◌∷◌, [], false, Option, Some, None, ◌∙◌, ap}
use Rattle.std.specs.Prelude.{is_some, List}
use Rattle.blocks.specs.declared.tuple.Tuple.{Tuple}
use Rattle.model.specs.Primary.{PrimaryHistory, primary_connection}
use Rattle.model.specs.PrimarySteps as step
use Rattle.primary_protocol.specs.Core.{PrimaryState}
use Rattle.primary_protocol.specs.Transitions as transition
use Rattle.primary_protocol.specs.Leaves.{Leaves}
use Rattle.primary_protocol.proofs.Common.Reached.{end-open}
use Rattle.laws.proofs.Rules.Memory.{open-tests-by}

pub open-tests-same : (sync loss : ℕ) (s : PrimaryState) (h : PrimaryHistory) → Leaves s h
    → transition.open_tests sync loss false s ≡ step.open_tests h sync loss false
open-tests-same sync loss s h left = open-tests-by h sync loss false (is_some s.end) (transition.known_tuples s) s.connections
    (end-open s.end (primary_connection h) left.rest.end) known left.rest.connections
  where
    known : transition.known_tuples s ≡ step.known_tuples h
    known = ap (λ (v : Option Tuple). elim v as (λ _. List Tuple) [ None ↦ s.tuple ∷ [] | Some peer ↦ s.tuple ∷ peer ∷ [] ]) left.rest.peer
        ∙ ap (λ (t : Tuple). elim h.peer as (λ _. List Tuple) [ None ↦ t ∷ [] | Some peer ↦ t ∷ peer ∷ [] ]) left.rest.tuple
