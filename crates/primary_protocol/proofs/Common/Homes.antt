-- What is seen of a write at its home.
use Rattle.std.proofs.Common.{ℕ, ◌≡◌, Bool, false, Option, Some, None, slice_get, ◌∙◌, ap, nat_lt}
use Rattle.blocks.specs.Positions.{StreamPosition}
use Rattle.model.specs.Stream.{WriteItem}
use Rattle.model.specs.Primary.{Accepted, PrimaryConnection, PrimaryHistory, is_answered, is_answered_by, items_sent}
use Rattle.primary_protocol.specs.Leaves.{is_sent}

-- whether it is sent
pub sent-at : (h : PrimaryHistory) (a : Accepted) (k place : ℕ) (c : PrimaryConnection) → a.home ≡ Some (record { index = k; place = place })
    → slice_get h.connections k ≡ Some c
    → is_sent h a ≡ nat_lt place (items_sent c)
sent-at h a k place c home there =
    ap (λ (v : Option StreamPosition). elim v as
    (λ _. Bool) [
      | None ↦ false
      | Some home ↦ elim (slice_get h.connections home.index) as (λ _. Bool) [ None ↦ false | Some c ↦ nat_lt home.place (items_sent c) ]
    ]) home
    ∙ ap (λ (v : Option PrimaryConnection). elim v as (λ _. Bool) [ None ↦ false | Some c ↦ nat_lt place (items_sent c) ]) there

-- whether the peer has answered it
pub answered-at : (h : PrimaryHistory) (a : Accepted) (k place : ℕ) (c : PrimaryConnection) → a.home ≡ Some (record { index = k; place = place })
    → slice_get h.connections k ≡ Some c
    → is_answered h a ≡ is_answered_by h.settings.protocol c place (WriteItem a.write)
answered-at h a k place c home there =
    ap (λ (v : Option StreamPosition). elim v as
    (λ _. Bool) [
      | None ↦ false
      | Some home ↦ elim (slice_get h.connections home.index) as
          (λ _. Bool) [ None ↦ false | Some c ↦ is_answered_by h.settings.protocol c home.place (WriteItem a.write) ]
    ]) home
    ∙ ap (λ (v : Option PrimaryConnection). elim v as (λ _. Bool) [ None ↦ false | Some c ↦ is_answered_by h.settings.protocol c place (WriteItem a.write) ])
    there
