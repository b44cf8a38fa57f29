-- A step that clears marks as it releases writes keeps the account of unmarked blocks; so does every run of a primary.
use Rattle.std.proofs.Common.{ℕ, ◌≡◌, ◌<◌, inl, inr, Bool, true, false, not, ◌&&◌, List, None, Some, slice_get, refl, sym, ◌∙◌, subst, arith}
use Rattle.std.specs.Prelude.{is_some}
use Rattle.std.proofs.lemmas.Bool.{cases_Bool, both_ways, cases_lt, and_cases, and_from, not-false, not_from_false}
use Rattle.blocks.specs.declared.settings.Settings.{Settings}
use Rattle.blocks.specs.declared.tuple.Tuple.{Tuple}
use Rattle.blocks.specs.SettingsRange.{IsInRange}
use Rattle.model.specs.Contents.{BlockMap, covers}
use Rattle.model.specs.Stream.{WriteItem}
use Rattle.model.specs.LocalRuns.{PrimaryEvent, primary_run}
use Rattle.model.specs.Marks.{is_cleared, releasing}
use Rattle.model.specs.Primary.{OnDisk, Accepted, PrimaryHistory, primary_opening, primary_connection, last_index, is_waiting}
use Rattle.model.specs.PrimarySteps.{with_outcome}
use Rattle.laws.proofs.Rules.EpochEnds.{takes-writes}
use Rattle.laws.specs.Reflections.{touches}
use Rattle.laws.proofs.Lists.Beginnings.{begins-self}
use Rattle.laws.proofs.Lists.Elements.{same-at}
use Rattle.laws.proofs.Blocks.Latest.{Touch, latest}
use Rattle.laws.proofs.Blocks.LatestPlaces.{latest-none}
use Rattle.laws.proofs.Primary.Moves.{IsKeptByReleases, both-kept, keeps-run}
use Rattle.laws.proofs.Releases.InOrder.{IsInOrder}
use Rattle.laws.proofs.Releases.InOrderMoves.{Ordered, OrderedAfter, in-order-kept}
use Rattle.laws.proofs.Releases.Cleared.{IsRelease, IsCleared, done-releases, confirmed-releases, release-clears}
use Rattle.laws.proofs.Tracked.Kept.{IsKnown}
use Rattle.laws.proofs.Tracked.Outcomes.{waiting-not-done}
use Rattle.laws.proofs.Releases.Runs.{sent-since, latest-since, ordered-release, ordered-opening}
use Rattle.laws.proofs.Accounted.{IsSure, IsAccounted, KeepsBegun}
use Rattle.laws.proofs.Accounted.Steps.{began-carries}
use Rattle.laws.proofs.Accounted.Kept.{accounted-kept, accounted-opening}

-- no write that has a block that is cleared waits for the local disk
done-with : (h : PrimaryHistory) (block i : ℕ) (b : Accepted) → IsInOrder h → IsCleared h block → slice_get h.writes i ≡ Some b → covers b.write block ≡ true
    → is_waiting b.outcome ≡ true → ⊥
done-with h block i b order c at covered waits = elim (cases_lt c.index i) [
  | inl later ↦ both_ways (covers b.write block) (c.last i b later at) covered
  | inr not_later ↦ elim (cases_lt i c.index) [
    | inl earlier ↦ both_ways (is_waiting b.outcome) (order.settled_first i c.index block b c.accepted earlier at c.at covered c.covered) waits
    | inr not_earlier ↦
        let index : i ≡ c.index = omega arith in
        let one : b ≡ c.accepted = same-at h.writes c.index b c.accepted (subst (λ (n : ℕ). slice_get h.writes n ≡ Some b) index at) c.at in
        waiting-not-done c.accepted.outcome (subst (λ (a : Accepted). is_waiting a.outcome ≡ true) one waits) c.done
  ]
]

-- the last write on a block that is cleared is sure, and what is sent behind it is the same
sure-cleared : (h : PrimaryHistory) (block : ℕ) (touch : Touch) → IsAccounted h → IsInOrder h → IsCleared h block → latest h.connections block ≡ Some touch
    → IsSure h.faithful h.connections block touch
sure-cleared h block touch a order c is =
    let last = latest-since h block a.known.tracked order c touch is in
    record {
      place = c.place;
      end = primary_connection h;
      item = WriteItem c.accepted.write;
      at = subst (λ (n : ℕ). slice_get h.connections n ≡ Some (primary_connection h)) last.0 c.connected;
      there = c.there;
      touched = c.covered;
      sure = c.confirmed;
      same = λ faithful next i from found touched. sent-since h block a.known.tracked order c next i from found touched faithful
          ∙ sym (sent-since h block a.known.tracked order c touch.place touch.item last.1.0 last.1.1.0 last.1.1.1 faithful);
    }

account-release : (h later : PrimaryHistory) → ((block : ℕ) → is_cleared h later block ≡ true → IsCleared later block) → IsInOrder later
    → IsKnown (releasing h later) → IsAccounted later → IsAccounted (releasing h later)
account-release h later clears order known a = record {
  known = known;
  waiting = λ i block b at alone waits covered. elim (cases_Bool (is_cleared h later block)) [
    | inr kept ↦ and_from (later.marks block) (not (is_cleared h later block)) (a.waiting i block b at alone waits covered)
        (not_from_false (is_cleared h later block) kept)
    | inl cleared ↦ absurd (done-with later block i b order (clears block cleared) at covered waits)
  ];
  settled = λ block touch unmarked is. elim (and_cases (later.marks block) (not (is_cleared h later block)) unmarked) [
    | inl clean ↦ a.settled block touch clean is
    | inr cleared ↦ inl (sure-cleared later block touch a order (clears block (not-false (is_cleared h later block) cleared)) is)
  ];
  untouched = λ block inside unmarked none. a.untouched block inside (clean block unmarked none) none;
  began = began-carries later (releasing h later) keeps refl refl (λ none. refl) (λ block inside unmarked none. (clean block unmarked none, none)) a.began;
}
  where
    -- a block that no item touches is not cleared
    clean : (block : ℕ) → (later.marks block && not (is_cleared h later block)) ≡ false → latest later.connections block ≡ None → later.marks block ≡ false
    clean block unmarked none = elim (and_cases (later.marks block) (not (is_cleared h later block)) unmarked) [
      | inl so ↦ so
      | inr cleared ↦ absurd (
          let c = clears block (not-false (is_cleared h later block) cleared) in
          both_ways (touches (WriteItem c.accepted.write) block)
          (latest-none later.connections block none (last_index later.connections) c.place (primary_connection later) (WriteItem c.accepted.write) c.connected
          c.there)
          c.covered)
    ]

    keeps : KeepsBegun later (releasing h later)
    keeps = record { forward = λ k c at begun. (c, at, begun, begins-self c.taken); back = λ k d at. inl (d, at, refl) }

-- The order and the account together.
abbrev pub Both : Settings → PrimaryHistory → Type 0
Both settings h = Ordered settings h × IsAccounted h

abbrev pub BothAfter : Settings → PrimaryHistory → Type 0
BothAfter settings h = OrderedAfter settings h × IsAccounted h

both-release : (settings : Settings) (h later : PrimaryHistory) → IsRelease h later → Both settings h → BothAfter settings later
    → BothAfter settings (releasing h later)
both-release settings h later release p q =
    let ordered = ordered-release settings h later release p.0 q.0 in
    (ordered, account-release h later (λ block cleared. release-clears settings h later block p.0 q.0.1.1.0.0 q.0.1.0 release cleared) q.0.1.1.1 ordered.0 q.1)

pub both-released : (settings : Settings) → IsKeptByReleases (Both settings) (BothAfter settings)
both-released settings = record {
  writes = λ h number waiting p q. both-release settings h (with_outcome number OnDisk h) (done-releases h number p.0.1.1.0.0) p q;
  confirms = λ h number size standing begun turn p q. both-release settings h _ (confirmed-releases settings h number size standing p.0) p q;
}

-- Every run of a primary keeps both.
pub accounted-run : (settings : Settings) (disk : BlockMap) (tuple : Tuple) (marks : ℕ → Bool) (events : List PrimaryEvent) → IsInRange settings
    → ((block : ℕ) → block < settings.blocks → is_some (disk block) ≡ true)
    → Ordered settings (primary_run events (primary_opening settings disk tuple marks))
    × IsAccounted (primary_run events (primary_opening settings disk tuple marks))
accounted-run settings disk tuple marks events range sized =
    let opening = ordered-opening settings disk tuple marks sized in
    keeps-run (Both settings) (BothAfter settings)
    (both-kept (Ordered settings) (OrderedAfter settings) IsAccounted IsAccounted (in-order-kept settings (takes-writes settings range)) accounted-kept)
    (both-released settings) events (primary_opening settings disk tuple marks)
    (opening, accounted-opening settings disk tuple marks opening.0)
