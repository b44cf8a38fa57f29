-- In which order a submission is refused: what holds of one that every test lets through, and the tests by what they ask.
use Rattle.std.proofs.Common.{ℕ, ◌≡◌, ◌<◌, Bool, true, false, not, ◌&&◌, List, ◌∷◌, length, drop, Option, None, subst, nat_le, ◌==◌}
use Rattle.std.specs.Prelude.{is_some, unwrap_or}
use Rattle.std.proofs.lemmas.Bool.{not-false, leb-false}
use Rattle.blocks.specs.declared.refusal.Refusal.TheVariants.{BadRange, Conflict, LogFull, ActivityFull, JournalFull, StreamFull, NotConnected}
use Rattle.model.specs.Contents.{is_range, extent_of}
use Rattle.model.specs.Refusals.{Test, first_refusal}
use Rattle.model.specs.Primary.{PrimaryHistory, primary_connection, is_established, unreleased}
use Rattle.model.specs.PrimarySteps.{conflict, activity_is_full, submission, submit_tests}
use Rattle.laws.proofs.Lists.Tests.{test-passed}

-- What every test lets through: a range of the device, where a stream stands or marks are kept, that no open write conflicts
-- with, of an extent that has a slot, and with a place in the stream that stands.
pub record IsAccepted (h : PrimaryHistory) (first : ℕ) (contents : List (List ℕ)) : Type 0 where
  pub range : is_range h.settings first (length contents) ≡ true
  pub connected : (not (is_established (primary_connection h)) && (h.tuple.bitmap == 0)) ≡ false
  pub free : is_some (conflict h (submission h first contents)) ≡ false
  pub active : activity_is_full h (extent_of first) ≡ false
  pub places : is_established (primary_connection h) ≡ true → length (primary_connection h).stream < 4294967288

-- the tests, by what each of them asks, but for the last
abbrev tests_of : Bool → Bool → ℕ → Bool → Option ℕ → Bool → Bool → List Test → List Test
tests_of ranged down written full met active long rest =
    (not ranged, BadRange) ∷ (down, NotConnected) ∷ (nat_le 1048576 written, JournalFull) ∷ (full, LogFull) ∷ (is_some met, Conflict (unwrap_or met 0))
    ∷ (active, ActivityFull) ∷ (long, StreamFull) ∷ rest

-- a submission that no test refuses
pub accepted-by-tests : (h : PrimaryHistory) (first : ℕ) (contents : List (List ℕ)) (out_of_memory : Bool)
    → first_refusal (submit_tests h first contents out_of_memory) ≡ None → IsAccepted h first contents
accepted-by-tests h first contents out_of_memory none = record {
  range = not-false (is_range h.settings first (length contents)) one.0;
  connected = two.0;
  free = five.0;
  active = six.0;
  places = λ standing. leb-false 4294967288 (length (primary_connection h).stream) (subst (λ b. (b && nat_le 4294967288 (length
      (primary_connection h).stream)) ≡ false) standing seven.0);
}
  where
    met : Option ℕ
    met = conflict h (submission h first contents)

    down : Bool
    down = not (is_established (primary_connection h)) && (h.tuple.bitmap == 0)

    long : Bool
    long = is_established (primary_connection h) && nat_le 4294967288 (length (primary_connection h).stream)

    after : ℕ → List Test
    after n = drop n (submit_tests h first contents out_of_memory)

    one : (not (is_range h.settings first (length contents)) ≡ false) × (first_refusal (after 1) ≡ None)
    one = test-passed (not (is_range h.settings first (length contents))) BadRange (after 1) none

    two : (down ≡ false) × (first_refusal (after 2) ≡ None)
    two = test-passed down NotConnected (after 2) one.1

    three : (nat_le 1048576 (length h.writes) ≡ false) × (first_refusal (after 3) ≡ None)
    three = test-passed (nat_le 1048576 (length h.writes)) JournalFull (after 3) two.1

    four : (nat_le h.settings.backlog (length (unreleased h)) ≡ false) × (first_refusal (after 4) ≡ None)
    four = test-passed (nat_le h.settings.backlog (length (unreleased h))) LogFull (after 4) three.1

    five : (is_some met ≡ false) × (first_refusal (after 5) ≡ None)
    five = test-passed (is_some met) (Conflict (unwrap_or met 0)) (after 5) four.1

    six : (activity_is_full h (extent_of first) ≡ false) × (first_refusal (after 6) ≡ None)
    six = test-passed (activity_is_full h (extent_of first)) ActivityFull (after 6) five.1

    seven : (long ≡ false) × (first_refusal (after 7) ≡ None)
    seven = test-passed long StreamFull (after 7) six.1

-- whatever asks the same has the same tests
pub tests-by : (h : PrimaryHistory) (first : ℕ) (contents : List (List ℕ)) (out_of_memory ranged down : Bool) (written : ℕ) (full : Bool) (met : Option ℕ)
    (active long : Bool)
    → ranged ≡ is_range h.settings first (length contents) → down ≡ (not (is_established (primary_connection h)) && (h.tuple.bitmap == 0))
    → written ≡ length h.writes
    → full ≡ nat_le h.settings.backlog (length (unreleased h)) → met ≡ conflict h (submission h first contents) → active ≡ activity_is_full h (extent_of first)
    → long ≡ (is_established (primary_connection h) && nat_le 4294967288 (length (primary_connection h).stream))
    → tests_of ranged down written full met active long (drop 7 (submit_tests h first contents out_of_memory)) ≡ submit_tests h first contents out_of_memory
tests-by h first contents out_of_memory ranged down written full met active long ranges downs writes fulls meets actives longs =
    λ i. tests_of (ranges i) (downs i) (writes i) (fulls i) (meets i) (actives i) (longs i) (drop 7 (submit_tests h first contents out_of_memory))
