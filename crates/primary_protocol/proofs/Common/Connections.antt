-- A change of the last connection that the log does not see.
use Rattle.std.proofs.Common.{ℕ, ◌≡◌, ◌≤◌, inl, inr, Bool, false, not, List, ◌++◌, length, Option, Some, None, slice_get}
use Rattle.std.proofs.Common.{refl, sym, ◌∙◌, ap, subst, arith}
use Rattle.std.proofs.lemmas.Option.{slice_get_within}
use Rattle.blocks.specs.Positions.{StreamPosition}
use Rattle.blocks.specs.declared.settings.Protocol.{Protocol}
use Rattle.model.specs.Stream.{StreamItem, WriteItem, epoch_of}
use Rattle.model.specs.Primary.{Accepted, PrimaryConnection, PrimaryHistory, no_primary_connection, primary_connection, change_last, is_answered_by}
use Rattle.model.specs.Primary.{is_answered, is_alone}
use Rattle.model.specs.Primary.{is_confirmed, barrier_acknowledged, is_released}
use Rattle.laws.proofs.Lists.Last.{get-change}
use Rattle.laws.proofs.Primary.Homes.{HasHomes, confirmed-at}
use Rattle.laws.proofs.Streams.Places.{epoch-grows}
use Rattle.primary_protocol.specs.Leaves.{is_sent, logged_of}
use Rattle.laws.proofs.Rules.Releases.{released-same}
use Rattle.laws.proofs.Rules.Answered as rule
use Rattle.laws.proofs.Primary.WriteConnections.{alone-seen, sent-seen, answered-seen}

-- What the log sees of a connection is the same: whether it is closed, what was pushed, and the frames.
pub record SeesSame (c d : PrimaryConnection) : Type 0 where
  pub closed : d.closed ≡ c.closed
  pub pushed : d.pushed ≡ c.pushed
  pub taken : d.taken ≡ c.taken
  pub refused : d.refused ≡ c.refused

pub answered-same : (asked : Protocol) (c d : PrimaryConnection) (place : ℕ) (item : StreamItem) → SeesSame c d
    → is_answered_by asked d place item ≡ is_answered_by asked c place item
answered-same asked c d place item s = rule.answered-same asked c d place item s.pushed (rw (s.taken, s.refused) refl)

pub confirmed-same : (c d : PrimaryConnection) (epoch : ℕ) → SeesSame c d → barrier_acknowledged d epoch ≡ barrier_acknowledged c epoch
confirmed-same c d epoch s = rw (s.taken, s.refused) refl

module _ (h later : PrimaryHistory) (f : PrimaryConnection → PrimaryConnection) (settings : later.settings ≡ h.settings)
    (connections : later.connections ≡ change_last f h.connections) (same : SeesSame (primary_connection h) (f (primary_connection h))) where
  there : (k : ℕ) → slice_get later.connections k ≡ slice_get (change_last f h.connections) k
  there k = ap (λ (l : List PrimaryConnection). slice_get l k) connections

  pub alone-same : (a : Accepted) → is_alone later a ≡ is_alone h a
  alone-same = alone-seen h later f connections same.closed

  sent-same : (a : Accepted) → is_sent later a ≡ is_sent h a
  sent-same = sent-seen h later f connections same.pushed

  pub answers-same : (a : Accepted) → is_answered later a ≡ is_answered h a
  answers-same = answered-seen h later f connections settings
      (λ place item. answered-same h.settings.protocol (primary_connection h) (f (primary_connection h)) place item same)

  -- the log has the same of each write
  pub seen-same : (a : Accepted) → logged_of later a ≡ logged_of h a
  seen-same a = λ i. record (logged_of h a) { linked = not (alone-same a i); sent = sent-same a i; answered = answers-same a i }

  -- The stream went on, and no epoch of a write changed.
  module _ (homes : HasHomes h) (more : List StreamItem) (stream : (f (primary_connection h)).stream ≡ (primary_connection h).stream ++ more) where
    pub acknowledged-same : (i : ℕ) (a : Accepted) → slice_get h.writes i ≡ Some a → is_confirmed later a ≡ is_confirmed h a
    acknowledged-same i a at = go a.home refl
      where
        go : (v : Option StreamPosition) → a.home ≡ v → is_confirmed later a ≡ is_confirmed h a
        go None is = ap (λ (v : Option StreamPosition). elim v as
            (λ _. Bool) [
              | None ↦ false
              | Some home ↦ elim (slice_get later.connections home.index) as
                  (λ _. Bool) [ None ↦ false | Some c ↦ barrier_acknowledged c (epoch_of c.stream home.place) ]
            ]) is
            ∙ sym (ap (λ (v : Option StreamPosition). elim v as
            (λ _. Bool) [
              | None ↦ false
              | Some home ↦ elim (slice_get h.connections home.index) as
                  (λ _. Bool) [ None ↦ false | Some c ↦ barrier_acknowledged c (epoch_of c.stream home.place) ]
            ]) is)
        go (Some home) is =
            let was = homes.housed i home.index home.place a at is in
            let now = there home.index in
            elim (get-change f (no_primary_connection h.tuple) h.connections home.index was.0 was.1) [
              | inl stays ↦ confirmed-at later a home was.0 is (now ∙ stays) ∙ sym (confirmed-at h a home was.0 is was.1)
              | inr changed ↦
                  let last : was.0 ≡ primary_connection h = changed.1 in
                  let within = slice_get_within was.0.stream home.place (WriteItem a.write) was.2 in
                  let inside : home.place ≤ length (primary_connection h).stream = subst (λ (c : PrimaryConnection). home.place ≤ length c.stream) last
                  (omega arith) in
                  let epochs : epoch_of (f (primary_connection h)).stream home.place ≡ epoch_of (primary_connection h).stream home.place =
                  ap (λ (s : List StreamItem). epoch_of s home.place) stream
                  ∙ epoch-grows (primary_connection h).stream more home.place inside in
                  confirmed-at later a home (f was.0) is (now ∙ changed.0)
                  ∙ (ap (λ (c : PrimaryConnection). barrier_acknowledged (f c) (epoch_of (f c).stream home.place)) last
                  ∙ (ap (barrier_acknowledged (f (primary_connection h))) epochs
                  ∙ (confirmed-same (primary_connection h) (f (primary_connection h)) (epoch_of (primary_connection h).stream home.place) same
                  ∙ (ap (λ (c : PrimaryConnection). barrier_acknowledged c (epoch_of c.stream home.place)) (sym last)
                  ∙ sym (confirmed-at h a home was.0 is was.1)))))
            ]

    pub released-alike : (i : ℕ) (a : Accepted) → slice_get h.writes i ≡ Some a → is_released later a ≡ is_released h a
    released-alike i a at = released-same h later a (acknowledged-same i a at) (alone-same a)
