-- Which item of those that wait may be applied.
use Rattle.std.proofs.Common.{ℕ, ◌≡◌, ◌⊎◌, inl, inr, Bool, true, false, cond, ◌||◌, List, [], ◌∷◌, map, Option, Some, None, slice_get, Ok, Err, refl, sym, ◌∙◌}
use Rattle.std.proofs.Common.{ap, subst, arith, ◌==◌, nat_lt, nat_eq}
use Rattle.std.specs.Prelude.{find, is_some, option_map, unwrap_or}
use Rattle.std.specs.List.{list_any}
use Rattle.std.proofs.lemmas.Bool.{eqb-true}
use Rattle.std.proofs.lemmas.Bool.Decides.{nat_tests}
use Rattle.blocks.specs.declared.refusal.Refusal.{Refusal}
use Rattle.blocks.specs.declared.refusal.Refusal.TheVariants.{EpochOpen, UnknownJob}
use Rattle.model.specs.Stream.{StreamItem, epoch_of, placed}
use Rattle.model.specs.Secondary.{SecondaryConnection, items_taken, is_pending, pending}
use Rattle.model.specs.SecondarySteps.{is_pending_at}
use Rattle.model.specs.SecondarySteps as step
use Rattle.laws.proofs.Lists.Picks.{pick-found, pick-filtered}
use Rattle.laws.proofs.Rules.DiskTurns.{earlier-by}
use Rattle.peerdisk.specs.Pending.{Pending, at_place, epoch_at, item_at, has_earlier, start}
use Rattle.secondary_protocol.specs.Leaves.{pending_in}
use Rattle.laws.proofs.Streams.Places.{placed-back}

-- Lists.

find-map : {X Y : Type 0} (f : X → Y) (q : Y → Bool) (xs : List X) → find q (map f xs) ≡ option_map f (find (λ x. q (f x)) xs)
find-map f q [] = refl
find-map {X} {Y} f q (x ∷ xs) = go (find-map f q xs) (q (f x))
  where
    go : find q (map f xs) ≡ option_map f (find (λ x. q (f x)) xs) → (b : Bool)
        → cond b (Some (f x)) (find q (map f xs)) ≡ option_map f (cond b (Some x) (find (λ x. q (f x)) xs))
    go rest true = refl
    go rest false = rest

pub any-map : {X Y : Type 0} (f : X → Y) (q : Y → Bool) (xs : List X) → list_any q (map f xs) ≡ list_any (λ x. q (f x)) xs
any-map f q [] = refl
any-map f q (x ∷ xs) = λ i. q (f x) || any-map f q xs i

any-same : {X : Type 0} (p q : X → Bool) (xs : List X) → ((x : X) → p x ≡ q x) → list_any p xs ≡ list_any q xs
any-same p q [] same = refl
any-same p q (x ∷ xs) same = λ i. same x i || any-same p q xs same i

any-found : {X : Type 0} (p : X → Bool) (xs : List X) → list_any p xs ≡ is_some (find p xs)
any-found p [] = refl
any-found {X} p (x ∷ xs) = go (any-found p xs) (p x)
  where
    go : list_any p xs ≡ is_some (find p xs) → (b : Bool) → (b || list_any p xs) ≡ is_some (cond b (Some x) (find p xs))
    go rest true = refl
    go rest false = rest

-- The item of a place may be applied.
pub record MayStart (d : SecondaryConnection) (place : ℕ) (ps : List (Pending StreamItem)) : Type 0 where
  pub item : StreamItem
  pub there : slice_get (items_taken d) place ≡ Some item
  pub waits : is_pending d (place, item) ≡ true
  pub listed : is_pending_at d place ≡ true
  pub first : step.has_earlier d place ≡ false
  pub starts : start place ps ≡ Ok item
  pub item_is : item_at place ps ≡ Some item
  pub epoch_is : epoch_at place ps ≡ epoch_of (items_taken d) place

-- it does not wait, or an earlier epoch does
pub record MayNot (d : SecondaryConnection) (place : ℕ) (ps : List (Pending StreamItem)) : Type 0 where
  pub refusal : Refusal
  pub starts : start place ps ≡ Err refusal
  pub tested : ((is_pending_at d place ≡ false) × (refusal ≡ UnknownJob))
      ⊎ ((is_pending_at d place ≡ true) × (step.has_earlier d place ≡ true) × (refusal ≡ EpochOpen))

-- an item may be applied exactly where the tests of the model let it
pub starting : (d : SecondaryConnection) (place : ℕ)
    → MayStart d place (map (pending_in (items_taken d)) (pending d)) ⊎ MayNot d place (map (pending_in (items_taken d)) (pending d))
starting d place = by-find (find test (pending d)) refl
  where
    items : List StreamItem
    items = items_taken d

    ps : List (Pending StreamItem)
    ps = map (pending_in (items_taken d)) (pending d)

    test : ℕ × StreamItem → Bool
    test entry = nat_eq place entry.0

    turned : (a b : ℕ) → (a == b) ≡ nat_eq b a
    turned a b = grind (arith, nat_tests)

    at : at_place place (map (pending_in (items_taken d)) (pending d)) ≡ option_map (pending_in (items_taken d)) (find test (pending d))
    at = find-map (pending_in (items_taken d)) (λ p. nat_eq place p.place) (pending d)

    listed : is_pending_at d place ≡ is_some (find test (pending d))
    listed = any-same (λ (entry : ℕ × StreamItem). entry.0 == place) test (pending d) (λ entry. turned entry.0 place) ∙ any-found test (pending d)

    by-find : (v : Option (ℕ × StreamItem)) → find test (pending d) ≡ v
        → MayStart d place (map (pending_in (items_taken d)) (pending d)) ⊎ MayNot d place (map (pending_in (items_taken d)) (pending d))
    by-find None none =
        let nothing : at_place place ps ≡ None = at ∙ ap (option_map (pending_in items)) none in
        inr (record { refusal = UnknownJob; starts = rw nothing refl; tested = inl (listed ∙ ap is_some none, refl) })
    by-find (Some entry) found =
        let picked = pick-found test (pending d) entry found in
        let filtered = pick-filtered (is_pending d) (placed items) picked.0 entry picked.1 in
        let back = placed-back 0 items filtered.0 entry filtered.1 in
        let here : entry.0 ≡ place = sym (eqb-true place entry.0 picked.2) in
        let index : filtered.0 ≡ place = omega (arith, back.0, here) in
        let there : slice_get items place ≡ Some entry.1 = subst (λ (k : ℕ). slice_get items k ≡ Some entry.1) index back.1 in
        let some : at_place place ps ≡ Some (pending_in items entry) = at ∙ ap (option_map (pending_in items)) found in
        let epoch : epoch_at place ps ≡ epoch_of items place = ap (λ o. unwrap_or (option_map (λ (p : Pending StreamItem). p.epoch) o) 0) some
        ∙ ap (epoch_of items) here in
        let earlier : has_earlier place ps ≡ step.has_earlier d place = any-map (pending_in items) (λ p. nat_lt p.epoch (epoch_at place ps)) (pending d)
        ∙ earlier-by d place (epoch_at place ps) epoch in
        let is_listed : is_pending_at d place ≡ true = listed ∙ ap is_some found in
        by-earlier entry there (subst (λ (k : ℕ). is_pending d (k, entry.1) ≡ true) here filtered.2) some epoch is_listed earlier
        (step.has_earlier d place) refl
      where
        by-earlier : (entry : ℕ × StreamItem) → slice_get (items_taken d) place ≡ Some entry.1 → is_pending d (place, entry.1) ≡ true
            → at_place place (map (pending_in (items_taken d)) (pending d)) ≡ Some (pending_in (items_taken d) entry)
            → epoch_at place (map (pending_in (items_taken d)) (pending d)) ≡ epoch_of (items_taken d) place → is_pending_at d place ≡ true
            → has_earlier place (map (pending_in (items_taken d)) (pending d)) ≡ step.has_earlier d place
            → (b : Bool) → step.has_earlier d place ≡ b
            → MayStart d place (map (pending_in (items_taken d)) (pending d)) ⊎ MayNot d place (map (pending_in (items_taken d)) (pending d))
        by-earlier entry there waits some epoch is_listed earlier true is =
            inr (record {
              refusal = EpochOpen;
              starts = let held : has_earlier place ps ≡ true = earlier
                  ∙ is in rw (some, held) refl;
              tested = inr (is_listed, is, refl);
            })
        by-earlier entry there waits some epoch is_listed earlier false is = inl (record {
          item = entry.1;
          there = there;
          waits = waits;
          listed = is_listed;
          first = is;
          starts = let held : has_earlier place ps ≡ false = earlier ∙ is in rw (some, held) refl;
          item_is = ap (option_map (λ (p : Pending StreamItem). p.item)) some;
          epoch_is = epoch;
        })
