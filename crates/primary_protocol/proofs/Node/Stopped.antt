-- What a primary's state tells of a stop, its identifiers and the writes of an extent, is what its history says.
use Rattle.std.proofs.Common.{ℕ, ◌≡◌, Bool, not, ◌&&◌, length, filter, Option, Some, None, slice_get, sym, ◌∙◌, ap, arith}
use Rattle.std.specs.Prelude.{◌==◌, if◌then◌else◌}
use Rattle.std.proofs.lemmas.Bool.Decides.{nat_tests}
use Rattle.blocks.specs.Identifiers.{lost}
use Rattle.blocks.specs.declared.tuple.Tuple.{Tuple}
use Rattle.activitylog.specs.Activity.{writes_of}
use Rattle.model.specs.Contents.{extent_of}
use Rattle.model.specs.Primary.{Accepted, PrimaryHistory, primary_connection, is_established, unreleased}
use Rattle.model.specs.Stopped.{stopped_tuple}
use Rattle.primary_protocol.specs.Core as core
use Rattle.primary_protocol.specs.Core.{EndState, PrimaryState}
use Rattle.primary_protocol.specs.Leaves.{EndLeft, Leaves}
use Rattle.primary_protocol.specs.Transitions as transition
use Rattle.primary_protocol.proofs.Common.Filters.{filter-at}
use Rattle.primary_protocol.proofs.Common.Reached.{established-same}

-- The identifiers that a close would leave now.
pub says-stopped : (s : PrimaryState) (h : PrimaryHistory) → Leaves s h → transition.stopped_tuple s ≡ stopped_tuple h
says-stopped s h left = go s.end left.rest.end
  where
    go : (v : Option EndState) → EndLeft v (primary_connection h)
        → (elim v as (λ _. Tuple) [ None ↦ s.tuple | Some e ↦ if core.is_established s then lost e.loss s.tuple else s.tuple ]) ≡ stopped_tuple h
    go None closed = left.rest.tuple
        ∙ sym (ap (λ b. if not b && (primary_connection h).begun then lost (primary_connection h).loss h.tuple else h.tuple) closed)
    go (Some e) end = λ i. if established-same s h left i then lost (end.loss i) (left.rest.tuple i) else left.rest.tuple i

-- How many unreleased writes lie in the extent.
pub says-unreleased-in : (s : PrimaryState) (h : PrimaryHistory) (extent : ℕ) → Leaves s h
    → writes_of extent s.activity.active ≡ length (filter (λ (a : Accepted). extent_of a.write.first == extent) (unreleased h))
says-unreleased-in s h extent left =
    left.rest.activity.counts extent
    ∙ ap length (filter-at (λ (a : Accepted). extent == extent_of a.write.first) (λ (a : Accepted). extent_of a.write.first == extent) (unreleased h)
    (λ i a at. turned extent (extent_of a.write.first)))
  where
    turned : (a b : ℕ) → (a == b) ≡ (b == a)
    turned a b = grind (arith, nat_tests)
