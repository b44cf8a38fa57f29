-- Of a primary's connections the last one alone may be open.
use Rattle.std.proofs.Common.{ℕ, suc, ◌≡◌, ◌+◌, ◌-◌, ◌<◌, inl, inr, Bool, true, false, List, [], ◌∷◌, ◌++◌, length, Option, Some, None, slice_get, sym, ◌∙◌, ap}
use Rattle.std.proofs.Common.{subst, arith, length-append, not, refl}
use Rattle.std.proofs.lemmas.Bool.{both_ways, cases_lt, cases_Bool, and_from}
use Rattle.std.proofs.lemmas.Option.{slice_get_within}
use Rattle.blocks.specs.Positions.{StreamPosition}
use Rattle.blocks.specs.declared.outcome.Decision.{Decision}
use Rattle.blocks.specs.declared.outcome.Decision.TheVariants.{NoSync, BitmapSync, FullSync}
use Rattle.model.specs.Stream.{within}
use Rattle.model.specs.Primary.{Accepted, PrimaryConnection, PrimaryHistory, no_primary_connection, primary_connection, last_index, change_last, is_established}
use Rattle.model.specs.Primary.{is_alone}
use Rattle.model.specs.Primary.{new_primary_connection}
use Rattle.model.specs.PrimarySteps.{submitted, opened, faulted, accepted_at, submitted_with, faulted_by}
use Rattle.model.specs.Acknowledgements.{begun_with}
use Rattle.laws.proofs.Lists.Last.{get-change-back, last-at, length-change}
use Rattle.laws.proofs.Primary.Moves.{following-from, IsKeptByMoves}
use Rattle.laws.proofs.Lists.Elements.{get-more, same-at}
use Rattle.laws.proofs.Primary.Homes.{alone-homeless, HasHomes, alone-at}

-- every connection before the last one is closed
abbrev pub IsLastOpen : PrimaryHistory → Type 0
IsLastOpen h = (k : ℕ) (c : PrimaryConnection) → slice_get h.connections k ≡ Some c → suc k < length h.connections → c.closed ≡ true

-- so one that is open is the last
pub open-is-last : (h : PrimaryHistory) (k : ℕ) (c : PrimaryConnection) → IsLastOpen h → slice_get h.connections k ≡ Some c → c.closed ≡ false
    → (k ≡ last_index h.connections) × (c ≡ primary_connection h)
open-is-last h k c all at unshut =
    let within = slice_get_within h.connections k c at in
    elim (cases_lt (suc k) (length h.connections)) [
      | inl early ↦ absurd (both_ways c.closed unshut (all k c at early))
      | inr late ↦
          let index : k ≡ last_index h.connections = omega arith in
          elim (last-at (no_primary_connection h.tuple) h.connections) [
            | inl none ↦ absurd (let size : length h.connections ≡ 0 = ap length none in omega arith)
            | inr ends ↦ (
              index,
              same-at h.connections (last_index h.connections) c (primary_connection h) (subst (λ (n : ℕ). slice_get h.connections n ≡ Some c) index at)
                  ends,
            )
          ]
    ]

-- no stream stands: each home is on a closed connection
pub alone-at-rest : (h : PrimaryHistory) → HasHomes h → IsLastOpen h → is_established (primary_connection h) ≡ false → (i : ℕ) (w : Accepted)
    → slice_get h.writes i ≡ Some w
    → is_alone h w ≡ true
alone-at-rest h homes closed resting i w at = go w.home refl
  where
    go : (v : Option StreamPosition) → w.home ≡ v → is_alone h w ≡ true
    go None is = alone-homeless h w is
    go (Some home) is =
        let was = homes.housed i home.index home.place w at is in
        alone-at h w home was.0 is was.1 ∙ elim (cases_Bool was.0.closed) [
          | inl shut ↦ shut
          | inr unshut ↦ absurd (
              let end : was.0 ≡ primary_connection h = (open-is-last h home.index was.0 closed was.1 unshut).1 in
              let fresh : was.0.begun ≡ false = elim (cases_Bool was.0.begun) [
                | inr new ↦ new
                | inl begun ↦ absurd (both_ways (is_established (primary_connection h)) resting
                    (subst (λ (c : PrimaryConnection). is_established c ≡ true) end
                    (and_from (not was.0.closed) was.0.begun (subst (λ b. not b ≡ true) (sym unshut) refl) begun)))
              ] in
              let empty : was.0.stream ≡ [] = homes.empty home.index was.0 was.1 fresh in
              let item = was.2 in
              cc (empty, item))
        ]

-- a change of the last connection keeps it
pub changes : (cs : List PrimaryConnection) (f : PrimaryConnection → PrimaryConnection)
    → ((k : ℕ) (c : PrimaryConnection) → slice_get cs k ≡ Some c → suc k < length cs → c.closed ≡ true)
    → (k : ℕ) (c : PrimaryConnection) → slice_get (change_last f cs) k ≡ Some c → suc k < length (change_last f cs) → c.closed ≡ true
changes [] f all k c at less = absurd (cc)
changes (x ∷ cs) f all k c at less =
    let size = length-change f (x ∷ cs) in
    elim (get-change-back f x (x ∷ cs) k c at) [ inl same ↦ all k c same (omega arith) | inr changed ↦ absurd (let end = changed.2 in omega arith) ]

-- a new connection comes where the last one is closed
opens : (h : PrimaryHistory) (sync loss : ℕ) → (primary_connection h).closed ≡ true → IsLastOpen h → IsLastOpen (opened h sync loss)
opens h sync loss closed all k c at less =
    let new : PrimaryConnection = new_primary_connection sync loss h.tuple in
    let size : length (h.connections ++ new ∷ []) ≡ length h.connections + 1 = length-append h.connections (new ∷ []) in
    elim (get-more h.connections new k c at) [
      | inr added ↦ absurd (let here = added.0 in omega arith)
      | inl old ↦
          let within = slice_get_within h.connections k c old in
          elim (cases_lt (suc k) (length h.connections)) [
            | inl early ↦ all k c old early
            | inr last ↦ elim (last-at (no_primary_connection h.tuple) h.connections) [
              | inl none ↦ absurd (let size_too : length h.connections ≡ 0 = ap length none in omega arith)
              | inr there ↦
                  let index : length h.connections - 1 ≡ k = omega arith in
                  let here : slice_get h.connections k ≡ Some (primary_connection h) =
                  subst (λ (n : ℕ). slice_get h.connections n ≡ Some (primary_connection h)) index there in
                  let same : primary_connection h ≡ c = let e : Some (primary_connection h) ≡ Some c = sym here ∙ old in cc in
                  subst (λ (x : PrimaryConnection). x.closed ≡ true) same closed
            ]
          ]
    ]

submits : (h : PrimaryHistory) (first : ℕ) (contents : List (List ℕ)) → IsLastOpen h → IsLastOpen (submitted h first contents)
submits h first contents all = go (is_established (primary_connection h))
  where
    go : (b : Bool) → IsLastOpen (submitted_with b h first contents)
    go true = changes h.connections _ all
    go false = all

faults : (h : PrimaryHistory) (number : ℕ) (offsets : List ℕ) → IsLastOpen h → IsLastOpen (faulted number offsets h)
faults h number offsets all = go (accepted_at h number)
  where
    go : (v : Option Accepted) → IsLastOpen
        (faulted_by v number offsets h)
    go None = all
    go (Some accepted) = all

begins : (h : PrimaryHistory) (decided : Decision) → IsLastOpen h → IsLastOpen (begun_with decided h)
begins h NoSync all = changes h.connections _ all
begins h BitmapSync all = changes h.connections _ all
begins h FullSync all = changes h.connections _ all

-- Every move keeps it.
pub last-open-kept : IsKeptByMoves IsLastOpen IsLastOpen
last-open-kept = record {
  following = following-from IsLastOpen IsLastOpen IsLastOpen (λ h all. all) (λ g over all. changes g.connections _ all) (λ g on all. all)
      (λ g over all. changes g.connections _ all) (λ g all. all);
  opens = λ h sync loss closed fresh all. opens h sync loss closed all;
  submits = λ h first contents may all. submits h first contents all;
  writes = λ h number waits all. all;
  faults = λ h number offsets waits all. faults h number offsets all;
  sends = λ h standing due all. changes h.connections _ all;
  greets = λ h frame standing new met all. changes h.connections _ all;
  begins = λ h peer decided standing new late is fresh all. begins _ decided (changes h.connections _ all);
  receives = λ h ack standing begun may all. changes h.connections _ all;
  applies = λ h ack standing begun may all. changes h.connections _ all;
  clears = λ h ack standing begun may all. changes h.connections _ all;
  confirms = λ h number size standing begun turn all. changes h.connections _ all;
  refuses = λ h frame peer standing all. changes _ _ (changes _ _ (changes h.connections _ all));
  resyncs = λ h block read may runs alone is all. changes h.connections _ all;
  closes = λ h standing all. changes h.connections _ all;
  receipts = λ h number all. all;
}
