-- What a write sees of its connection, where the last one changes.
use Rattle.std.proofs.Common.{ℕ, zero, suc, ◌≡◌, ◌-◌, Bool, true, false, List, [], ◌∷◌, Option, Some, None, slice_get, refl, ◌∙◌, ap, nat_lt}
use Rattle.blocks.specs.Positions.{StreamPosition}
use Rattle.blocks.specs.declared.settings.Settings.{Settings}
use Rattle.model.specs.Stream.{StreamItem, WriteItem, epoch_of}
use Rattle.model.specs.Primary.{Accepted, PrimaryConnection, PrimaryHistory, primary_connection, no_primary_connection, last_of, change_last, is_answered_by}
use Rattle.model.specs.Primary.{is_answered, is_alone}
use Rattle.model.specs.Primary.{is_confirmed, barrier_acknowledged, items_sent}

-- what is read off an element sees no change of the last one that it does not see there
pub look : {X Y : Type 0} (see : Option X → Y) (f : X → X) (none : X) (xs : List X) (k : ℕ) → see (Some (f (last_of none xs))) ≡ see (Some (last_of none xs))
    → see (slice_get (change_last f xs) k) ≡ see (slice_get xs k)
look see f none [] k same = refl
look see f none (x ∷ []) zero same = same
look see f none (x ∷ []) (suc k) same = refl
look see f none (x ∷ y ∷ xs) zero same = refl
look see f none (x ∷ y ∷ xs) (suc k) same = look see f x (y ∷ xs) k same

module _ (h later : PrimaryHistory) (f : PrimaryConnection → PrimaryConnection) (connections : later.connections ≡ change_last f h.connections) where
  -- a look-up of a write's connection
  looked : {X : Type 0} (none : X) (see : ℕ → Option PrimaryConnection → X) (a : Accepted)
      → ((place : ℕ) → see place (Some (f (primary_connection h))) ≡ see place (Some (primary_connection h)))
      → elim a.home as (λ _. X) [ None ↦ none | Some home ↦ see home.place (slice_get later.connections home.index) ] ≡ elim a.home as
      (λ _. X) [ None ↦ none | Some home ↦ see home.place (slice_get h.connections home.index) ]
  looked {X} none see a same = go a.home
    where
      go : (v : Option StreamPosition) → elim v as (λ _. X) [ None ↦ none | Some home ↦ see home.place (slice_get later.connections home.index) ] ≡ elim v as
          (λ _. X) [ None ↦ none | Some home ↦ see home.place (slice_get h.connections home.index) ]
      go None = refl
      go (Some home) = ap (λ (l : List PrimaryConnection). see home.place (slice_get l home.index)) connections
          ∙ look (see home.place) f (no_primary_connection h.tuple) h.connections home.index (same home.place)

  -- whether it is without a connection
  pub alone-seen : (f (primary_connection h)).closed ≡ (primary_connection h).closed → (a : Accepted) → is_alone later a ≡ is_alone h a
  alone-seen closed a = looked true (λ place v. elim v as (λ _. Bool) [ None ↦ true | Some c ↦ c.closed ]) a (λ place. closed)

  -- whether its item was sent
  pub sent-seen : (f (primary_connection h)).pushed ≡ (primary_connection h).pushed → (a : Accepted) → elim a.home as (λ _. Bool) [
    | None ↦ false
    | Some home ↦ elim (slice_get later.connections home.index) as
        (λ _. Bool) [ None ↦ false | Some c ↦ nat_lt home.place (items_sent c) ]
  ] ≡ elim a.home as (λ _. Bool) [
    | None ↦ false
    | Some home ↦ elim (slice_get h.connections home.index) as
        (λ _. Bool) [ None ↦ false | Some c ↦ nat_lt home.place (items_sent c) ]
  ]
  sent-seen pushed a = looked false (λ place v. elim v as (λ _. Bool) [ None ↦ false | Some c ↦ nat_lt place (items_sent c) ]) a
      (λ place. ap (λ n. nat_lt place (n - 3)) pushed)

  -- whether it is answered
  pub answered-seen : later.settings ≡ h.settings
      → ((place : ℕ) (item : StreamItem)
      → is_answered_by h.settings.protocol (f (primary_connection h)) place item ≡ is_answered_by h.settings.protocol (primary_connection h) place item)
      → (a : Accepted) → is_answered later a ≡ is_answered h a
  answered-seen settings same a =
      ap (λ (x : Settings). elim a.home as (λ _. Bool) [
        | None ↦ false
        | Some home ↦ elim (slice_get later.connections home.index) as
            (λ _. Bool) [ None ↦ false | Some c ↦ is_answered_by x.protocol c home.place (WriteItem a.write) ]
      ]) settings
      ∙ looked false (λ place v. elim v as (λ _. Bool) [ None ↦ false | Some c ↦ is_answered_by h.settings.protocol c place (WriteItem a.write) ]) a
      (λ place. same place (WriteItem a.write))

  -- whether its epoch is acknowledged
  pub confirmed-seen : ((place : ℕ) → barrier_acknowledged (f (primary_connection h)) (epoch_of (f (primary_connection h)).stream place) ≡
      barrier_acknowledged (primary_connection h) (epoch_of (primary_connection h).stream place)) → (a : Accepted) → is_confirmed later a ≡ is_confirmed h a
  confirmed-seen same a = looked false (λ place v. elim v as (λ _. Bool) [ None ↦ false | Some c ↦ barrier_acknowledged c (epoch_of c.stream place) ]) a same
