-- Something happens to the writes, and releases some: what the log makes of it, and what the history does.
use Rattle.std.proofs.Common.{ℕ, ◌≡◌, ◌-◌, Bool, true, false, not, ◌&&◌, List, [], ◌∷◌, length, map, filter, Some, slice_get, refl, sym, ◌∙◌, ap, subst, arith}
use Rattle.std.proofs.Common.{◌==◌}
use Rattle.std.specs.Prelude.{if◌then◌else◌}
use Rattle.std.specs.List.{list_any}
use Rattle.std.proofs.lemmas.Bool.{both_ways, false_from_ne_true}
use Rattle.std.proofs.lemmas.List.{length-map}
use Rattle.std.proofs.Math.Bool.{and-false, and-true}
use Rattle.blocks.specs.declared.settings.Settings.{Settings}
use Rattle.model.specs.Contents.{Write, covers, extent_of}
use Rattle.model.specs.Primary.{Accepted, PrimaryHistory, is_failed, is_released, is_completed, is_open, completes, unreleased}
use Rattle.model.specs.PrimarySteps.{newly_completed}
use Rattle.transferlog.specs.Log.{moved}
use Rattle.transferlog.specs.Writes as log
use Rattle.transferlog.specs.Writes.{LogWrite, completed_of, released_of}
use Rattle.laws.proofs.Lists.Picks.{pick-filtered}
use Rattle.laws.proofs.Primary.Homes.{HasHomes}
use Rattle.laws.proofs.Primary.LastOpen.{IsLastOpen}
use Rattle.primary_protocol.specs.Core.{PrimaryState, leaving}
use Rattle.primary_protocol.specs.Leaves.{logged_of, latest_in, writes_in, LeavesActivity, Leaves}
use Rattle.primary_protocol.proofs.Common.Activity.{counts-of, of-counts, counts-same, leaving-counts, released_in, split-count}
use Rattle.primary_protocol.proofs.Common.Filters.{filter-at, map-at, filter-map, filter-twice, map-twice}
use Rattle.primary_protocol.proofs.Common.Releasing.{released-not-open}
use Rattle.primary_protocol.proofs.Common.WriteStates.{completes-seen, open-seen, completes-not-failed}
use Rattle.transferlog.specs.declared.report.Released.{Released}

-- What happens to the writes in the history: what the log sees of each is the move, and it releases those that the history does. What
-- was released and what failed stays so.
pub record IsMoved (h h1 : PrimaryHistory) (move : LogWrite → LogWrite) (g : Accepted → Accepted) (upto : ℕ) : Type 0 where
  pub settings : h1.settings ≡ h.settings
  pub journal : h1.journal ≡ h.journal
  pub writes : h1.writes ≡ map g h.writes
  pub write : (a : Accepted) → (g a).write ≡ a.write
  pub logged : (i : ℕ) (a : Accepted) → slice_get h.writes i ≡ Some a → logged_of h1 (g a) ≡ move (logged_of h a)
  pub released : (i : ℕ) (a : Accepted) → slice_get h.writes i ≡ Some a → log.is_released upto (move (logged_of h a)) ≡ is_released h1 (g a)
  pub stays : (i : ℕ) (a : Accepted) → slice_get h.writes i ≡ Some a → is_released h a ≡ true → is_released h1 (g a) ≡ true
  pub failed : (i : ℕ) (a : Accepted) → slice_get h.writes i ≡ Some a → is_failed a.outcome ≡ true → is_failed (g a).outcome ≡ true

module _ (s : PrimaryState) (h h1 : PrimaryHistory) (move : LogWrite → LogWrite) (g : Accepted → Accepted) (upto : ℕ)
    (left : Leaves s h) (homes : HasHomes h) (last : IsLastOpen h) (m : IsMoved h h1 move g upto) where
  -- which writes are left
  kept-is : (i : ℕ) (a : Accepted) → slice_get h.writes i ≡ Some a
      → (not (is_released h a) && not (log.is_released upto (move (logged_of h a)))) ≡ not (is_released h1 (g a))
  kept-is i a at = ap (λ b. not (is_released h a) && not b) (m.released i a at) ∙ go (is_released h a) (is_released h1 (g a)) refl refl
    where
      go : (was now : Bool) → is_released h a ≡ was → is_released h1 (g a) ≡ now → (not was && not now) ≡ not now
      go false now is so = refl
      go true true is so = refl
      go true false is so = absurd (both_ways (is_released h1 (g a)) so (m.stays i a at is))

  -- the writes of the history that pass a test, as the log has them, mapped
  abbrev rel : Accepted → Bool
  rel a = not (is_released h a)

  seen-at : {Y : Type 0} (out : LogWrite → Y) (p : Accepted → Bool)
      → map (λ a. out (move (logged_of h a))) (filter p h.writes) ≡ map (λ a. out (logged_of h1 (g a))) (filter p h.writes)
  seen-at out p = map-at (λ a. out (move (logged_of h a))) (λ a. out (logged_of h1 (g a))) (filter p h.writes)
      (λ i a at. let there = pick-filtered p h.writes i a at in ap out (sym (m.logged there.0 a there.1)))

  pub left-then : (moved move upto s.log).writes ≡ map (logged_of h1) (unreleased h1)
  left-then =
      ap (λ (ws : List LogWrite). filter (λ w. not (log.is_released upto w)) (map move ws)) left.rest.log.writes
      ∙ (ap (filter (λ w. not (log.is_released upto w))) (map-twice move (logged_of h) (unreleased h))
      ∙ (filter-map (λ w. not (log.is_released upto w)) (λ a. move (logged_of h a)) (unreleased h)
      ∙ (ap (map (λ a. move (logged_of h a))) (filter-twice (λ a. not (log.is_released upto (move (logged_of h a)))) rel h.writes
      ∙ filter-at (λ a. rel a && not (log.is_released upto (move (logged_of h a)))) (λ a. not (is_released h1 (g a))) h.writes kept-is)
      ∙ (seen-at (λ w. w) (λ a. not (is_released h1 (g a)))
      ∙ (sym (map-twice (logged_of h1) g (filter (λ a. not (is_released h1 (g a))) h.writes))
      ∙ ap (map (logged_of h1)) (sym (filter-map (λ a. not (is_released h1 a)) g h.writes) ∙ ap (filter (λ a. not (is_released h1 a))) (sym m.writes)))))))

  -- what the log reports released
  pub moved-released : (moved move upto s.log).released ≡ map (λ a. released_of (logged_of h1 (g a)))
      (filter (λ a. not (is_released h a) && is_released h1 (g a)) h.writes)
  moved-released =
      ap (λ (ws : List LogWrite). map released_of (filter (log.is_released upto) (map move ws))) left.rest.log.writes
      ∙ (ap (λ (ws : List LogWrite). map released_of (filter (log.is_released upto) ws)) (map-twice move (logged_of h) (unreleased h))
      ∙ (ap (map released_of) (filter-map (log.is_released upto) (λ a. move (logged_of h a)) (unreleased h))
      ∙ (map-twice released_of (λ a. move (logged_of h a)) (filter (λ a. log.is_released upto (move (logged_of h a))) (unreleased h))
      ∙ (ap (map (λ a. released_of (move (logged_of h a)))) (filter-twice (λ a. log.is_released upto (move (logged_of h a))) rel h.writes
      ∙ filter-at (λ a. rel a && log.is_released upto (move (logged_of h a))) (λ a. rel a && is_released h1 (g a)) h.writes
      (λ i a at. ap (λ b. rel a && b) (m.released i a at)))
      ∙ seen-at released_of (λ a. not (is_released h a) && is_released h1 (g a))))))

  -- what is open in the log is open in the history, as long as the journal does not have what is completed now
  open-then : (i : ℕ) (a : Accepted) → slice_get h.writes i ≡ Some a
      → ((not (is_released h a) && log.is_open (logged_of h a)) && log.is_completed (move (logged_of h a))) ≡ (is_open h1 (g a) && completes h1 (g a))
  open-then i a at =
      ap (λ b. (not (is_released h a) && log.is_open (logged_of h a)) && b) (ap log.is_completed (sym (m.logged i a at)) ∙ completes-seen h1 (g a))
      ∙ go (completes h1 (g a)) refl
    where
      go : (b : Bool) → completes h1 (g a) ≡ b → ((not (is_released h a) && log.is_open (logged_of h a)) && b) ≡ (is_open h1 (g a) && b)
      go false is = and-false (not (is_released h a) && log.is_open (logged_of h a)) ∙ sym (and-false (is_open h1 (g a)))
      go true is = and-true (not (is_released h a) && log.is_open (logged_of h a)) ∙ (by-was (completes h a) refl ∙ sym (and-true (is_open h1 (g a))))
        where
          unfailed : is_failed (g a).outcome ≡ false
          unfailed = completes-not-failed h1 (g a) is

          unfailed-was : is_failed a.outcome ≡ false
          unfailed-was = false_from_ne_true (is_failed a.outcome) (λ did. both_ways (is_failed (g a).outcome) unfailed (m.failed i a at did))

          open-is : is_open h1 (g a) ≡ not (completes h a)
          open-is =
              (λ j. not (list_any (λ entry. entry.write.number == (m.write a j).number) (m.journal j)) && not (unfailed j))
              ∙ (and-true (not (is_completed h a.write.number)) ∙ ap not (left.rest.quiet i a at))

          by-was : (b : Bool) → completes h a ≡ b → (not (is_released h a) && log.is_open (logged_of h a)) ≡ is_open h1 (g a)
          by-was true was =
              ap (λ b. not (is_released h a) && b) (open-seen h a ∙ λ j. not (was j) && not (is_failed a.outcome))
              ∙ (and-false (not (is_released h a)) ∙ sym (open-is ∙ ap not was))
          by-was false was =
              let open_log : log.is_open (logged_of h a) ≡ true = open-seen h a ∙ λ j. not (was j) && not (unfailed-was j) in
              let unreleased_so : is_released h a ≡ false =
              false_from_ne_true (is_released h a)
              (λ rel. both_ways (log.is_open (logged_of h a)) (released-not-open h s.log homes last left.rest.log.protocol left.stream.on i a at rel)
              open_log) in
              (λ j. not (unreleased_so j) && open_log j) ∙ sym (open-is ∙ ap not was)

  -- what the log reports completed
  pub moved-completed : (moved move upto s.log).completed ≡ map (λ a. completed_of (logged_of h1 a)) (newly_completed h1)
  moved-completed =
      ap (λ (ws : List LogWrite). map completed_of (filter log.is_completed (map move (filter log.is_open ws)))) left.rest.log.writes
      ∙ (ap (λ (ws : List LogWrite). map completed_of (filter log.is_completed (map move ws))) (filter-map log.is_open (logged_of h) (unreleased h))
      ∙ (ap (λ (ws : List LogWrite). map completed_of (filter log.is_completed ws))
      (map-twice move (logged_of h) (filter (λ a. log.is_open (logged_of h a)) (unreleased h)))
      ∙ (ap (map completed_of) (filter-map log.is_completed (λ a. move (logged_of h a)) (filter (λ a. log.is_open (logged_of h a)) (unreleased h)))
      ∙ (map-twice completed_of (λ a. move (logged_of h a))
      (filter (λ a. log.is_completed (move (logged_of h a))) (filter (λ a. log.is_open (logged_of h a)) (unreleased h)))
      ∙ (ap (map (λ a. completed_of (move (logged_of h a))))
      (ap (filter (λ a. log.is_completed (move (logged_of h a)))) (filter-twice (λ a. log.is_open (logged_of h a)) rel h.writes)
      ∙ (filter-twice (λ a. log.is_completed (move (logged_of h a))) (λ a. rel a && log.is_open (logged_of h a)) h.writes
      ∙ filter-at (λ a. (rel a && log.is_open (logged_of h a)) && log.is_completed (move (logged_of h a))) (λ a. is_open h1 (g a) && completes h1 (g a))
      h.writes open-then))
      ∙ (seen-at completed_of (λ a. is_open h1 (g a) && completes h1 (g a))
      ∙ (sym (map-twice (λ a. completed_of (logged_of h1 a)) g (filter (λ a. is_open h1 (g a) && completes h1 (g a)) h.writes))
      ∙ ap (map (λ a. completed_of (logged_of h1 a))) (sym (filter-map (λ a. is_open h1 a && completes h1 a) g h.writes)
      ∙ ap (filter (λ a. is_open h1 a && completes h1 a)) (sym m.writes)))))))))

  pub latest-then : (block number : ℕ) → latest_in h1.writes block number ≡ latest_in h.writes block number
  latest-then block number = ap (λ (ws : List Accepted). latest_in ws block number) m.writes ∙ go h.writes number
    where
      go : (ws : List Accepted) (number : ℕ) → latest_in (map g ws) block number ≡ latest_in ws block number
      go [] number = refl
      go (a ∷ ws) number = go ws (if covers (g a).write block then (g a).write.number else number)
          ∙ ap (λ (w : Write). latest_in ws block (if covers w block then w.number else number)) (m.write a)

  -- the active extents are left
  pub moved-activity : LeavesActivity (leaving (moved move upto s.log).released s.activity) h1.settings.slots (unreleased h1)
  moved-activity =
      subst (λ (x : Settings). LeavesActivity (leaving (moved move upto s.log).released s.activity) x.slots (unreleased h1)) (sym m.settings)
      (of-counts (leaving (moved move upto s.log).released s.activity) h.settings.slots (unreleased h1)
      (counts-same (leaving (moved move upto s.log).released s.activity) h.settings.slots
      (λ extent. writes_in extent (unreleased h) - released_in extent (moved move upto s.log).released) (λ extent. writes_in extent (unreleased h1))
      pointwise
      (leaving-counts (moved move upto s.log).released s.activity h.settings.slots (λ extent. writes_in extent (unreleased h))
      (counts-of s.activity h.settings.slots (unreleased h) left.rest.activity))))
    where
      lies : ℕ → Accepted → Bool
      lies extent a = extent == extent_of a.write.first

      now : (extent : ℕ) → writes_in extent (unreleased h1) ≡ length (filter (lies extent) (filter (λ a. not (is_released h1 (g a))) h.writes))
      now extent =
          ap (λ (ws : List Accepted). length (filter (lies extent) (filter (λ a. not (is_released h1 a)) ws))) m.writes
          ∙ (ap (λ (ws : List Accepted). length (filter (lies extent) ws)) (filter-map (λ a. not (is_released h1 a)) g h.writes)
          ∙ (ap length (filter-map (lies extent) g (filter (λ a. not (is_released h1 (g a))) h.writes))
          ∙ (length-map (filter (λ a. lies extent (g a)) (filter (λ a. not (is_released h1 (g a))) h.writes)) g
          ∙ ap length (filter-at (λ a. lies extent (g a)) (lies extent) (filter (λ a. not (is_released h1 (g a))) h.writes)
          (λ i a at. ap (λ (w : Write). extent == extent_of w.first) (m.write a))))))

      gone : (extent : ℕ) → released_in extent (moved move upto s.log).released ≡ length
          (filter (lies extent) (filter (λ a. not (is_released h a) && is_released h1 (g a)) h.writes))
      gone extent =
          let some : List Accepted = filter (λ a. not (is_released h a) && is_released h1 (g a)) h.writes in
          ap (released_in extent) moved-released
          ∙ (ap length (filter-map (λ (r : Released). extent == extent_of r.first) (λ a. released_of (logged_of h1 (g a))) some)
          ∙ (length-map (filter (λ a. lies extent (g a)) some) (λ a. released_of (logged_of h1 (g a)))
          ∙ ap length (filter-at (λ a. lies extent (g a)) (lies extent) some (λ i a at. ap (λ (w : Write). extent == extent_of w.first) (m.write a)))))

      pointwise : (extent : ℕ) → writes_in extent (unreleased h) - released_in extent (moved move upto s.log).released ≡ writes_in extent (unreleased h1)
      pointwise extent =
          let split = split-count (is_released h) (λ a. is_released h1 (g a)) (lies extent) h.writes m.stays in
          let n1 = now extent in
          let g1 = gone extent in
          omega arith
