-- A block that a step clears as it releases writes: what was sent on it from the last write on is what the local disk comes to hold.
-- So what is known of a primary's blocks, and the order of its writes, are kept by such steps, and by every run.
use Rattle.std.proofs.Common.{ℕ, ◌≡◌, ◌<◌, ◌≤◌, inl, inr, Bool, true, false, not, List, Some, slice_get, refl, sym, ◌∙◌, ap, subst, arith, IsTrue}
use Rattle.std.specs.Prelude.{is_some}
use Rattle.std.proofs.lemmas.Bool.{both_ways, and_cases, cases_lt, not-false}
use Rattle.std.proofs.lemmas.Option.{slice_get_within}
use Rattle.blocks.specs.Positions.{StreamPosition}
use Rattle.blocks.specs.declared.settings.Settings.{Settings}
use Rattle.blocks.specs.declared.tuple.Tuple.{Tuple}
use Rattle.blocks.specs.SettingsRange.{IsInRange}
use Rattle.model.specs.Contents.{BlockMap, Write, covers}
use Rattle.model.specs.Stream.{StreamItem, WriteItem, ResyncItem, BarrierItem, SyncUuidItem, UuidsItem}
use Rattle.model.specs.LocalRuns.{PrimaryEvent, primary_run}
use Rattle.model.specs.Marks.{is_cleared, releasing}
use Rattle.model.specs.Primary.{OnDisk, Accepted, PrimaryHistory, primary_opening, primary_connection, last_index}
use Rattle.model.specs.PrimarySteps.{with_outcome}
use Rattle.laws.proofs.Rules.EpochEnds.{takes-writes}
use Rattle.laws.specs.Reflections.{touches, content_at}
use Rattle.laws.proofs.Lists.Elements.{same-at}
use Rattle.laws.proofs.Blocks.Latest.{Touch, latest, content_of, sent_map, settling_map}
use Rattle.laws.proofs.Blocks.LatestPlaces.{latest-at, latest-some, latest-last}
use Rattle.laws.proofs.Blocks.Overlays.{settling-last}
use Rattle.laws.proofs.Blocks.Ranges.{between-parts, touches-nothing}
use Rattle.laws.proofs.Primary.Moves.{IsKeptByReleases, keeps-run}
use Rattle.laws.proofs.Primary.HomesMoves.{homes-marks, homes-opening}
use Rattle.laws.proofs.Primary.LawfulMoves.{lawful-marks, lawful-opening}
use Rattle.laws.proofs.Releases.InOrder.{IsInOrder, order-same}
use Rattle.laws.proofs.Releases.InOrderMoves.{Ordered, OrderedAfter, in-order-kept}
use Rattle.laws.proofs.Releases.Cleared.{IsRelease, IsCleared, done-releases, confirmed-releases, release-clears}
use Rattle.laws.proofs.Primary.Writes.{keeps-writes}
use Rattle.laws.proofs.Tracked.{IsCopy, IsTracked}
use Rattle.laws.proofs.Tracked.Quiet.{copy-content}
use Rattle.laws.proofs.Tracked.Kept.{known-opening}

module _ (h : PrimaryHistory) (block : ℕ) (t : IsTracked h) (order : IsInOrder h) (c : IsCleared h block) where
  -- no write that stands behind it has the block
  behind : (next : ℕ) (write : Write) → c.place < next → slice_get (primary_connection h).stream next ≡ Some (WriteItem write) → covers write block ≡ false
  behind next write after at =
      let its = t.homes.homed (last_index h.connections) next (primary_connection h) write c.connected at in
      elim (cases_lt c.index its.0) [
        | inl later ↦ subst (λ (w : Write). covers w block ≡ false) its.3 (c.last its.0 its.1 later its.2)
        | inr not_later ↦ elim (cases_lt its.0 c.index) [
          | inl earlier ↦ absurd (elim (order.rise its.0 c.index its.1 c.accepted (record { index = last_index h.connections; place = next })
              (record { index = last_index h.connections; place = c.place }) earlier its.2 c.at its.4 c.home) [
                | inl before ↦ omega arith
                | inr here ↦ let less =
                    here.1 in omega arith
              ])
          | inr not_earlier ↦ absurd (
              let index : its.0 ≡ c.index = omega arith in
              let one : its.1 ≡ c.accepted = same-at h.writes c.index its.1 c.accepted (subst (λ (n : ℕ). slice_get h.writes n ≡ Some its.1) index its.2)
              c.at in
              let here : StreamPosition = record { index = last_index h.connections; place = next } in
              let there : StreamPosition = record { index = last_index h.connections; place = c.place } in
              let home : Some here ≡ Some there = sym its.4 ∙ (ap (λ (a : Accepted). a.home) one ∙ c.home) in
              let same : here ≡ there = cc in
              let place : next ≡ c.place = ap (λ (p : StreamPosition). p.place) same in
              omega arith)
        ]
      ]

  -- what a block of a resync has that stands behind it
  copied-behind : (next other : ℕ) (contents : List ℕ) → c.place ≤ next → slice_get (primary_connection h).stream next ≡ Some (ResyncItem other contents)
      → touches (ResyncItem other contents) block ≡ true → IsTrue h.faithful → content_at (ResyncItem other contents) block ≡ settling_map h block
  copied-behind next other contents from at touched faithful =
      let ends = between-parts other 1 block touched in
      let low = ends.0 in
      let high = ends.1 in
      let is : other ≡ block = omega arith in
      let copy : IsCopy (primary_connection h) next block contents = record {
        standing = c.standing;
        there = subst (λ (n : ℕ). slice_get (primary_connection h).stream next ≡ Some (ResyncItem n contents)) is at;
        last = λ later write after there. behind later write (omega arith) there;
      } in
      ap (λ (n : ℕ). content_at (ResyncItem n contents) block) is ∙ (copy-content block contents ∙ sym ((t.copied next block contents copy).0 faithful))

  -- what is sent on the block from there on has what the local disk comes to hold
  pub sent-since : (next : ℕ) (item : StreamItem) → c.place ≤ next → slice_get (primary_connection h).stream next ≡ Some item → touches item block ≡ true
      → IsTrue h.faithful → content_at item block ≡ settling_map h block
  sent-since next (WriteItem write) from at touched faithful = elim (cases_lt c.place next) [
    | inl after ↦ absurd (both_ways (covers write block) (behind next write after at) touched)
    | inr here ↦
        let place : next ≡ c.place = omega arith in
        let one : WriteItem write ≡ WriteItem c.accepted.write = same-at (primary_connection h).stream c.place (WriteItem write) (WriteItem c.accepted.write)
        (subst (λ (n : ℕ). slice_get (primary_connection h).stream n ≡ Some (WriteItem write)) place at) c.there in
        ap (λ (i : StreamItem). content_at i block) one ∙ sym (settling-last h c.index block c.accepted c.at c.covered c.done c.last)
  ]
  sent-since next (ResyncItem other contents) from at touched faithful = copied-behind next other contents from at touched faithful
  sent-since next (BarrierItem epoch) from at touched faithful = absurd (both_ways (touches (BarrierItem epoch) block) (touches-nothing 0 block) touched)
  sent-since next (SyncUuidItem word) from at touched faithful = absurd (both_ways (touches (SyncUuidItem word) block) (touches-nothing 0 block) touched)
  sent-since next (UuidsItem tuple) from at touched faithful = absurd (both_ways (touches (UuidsItem tuple) block) (touches-nothing 0 block) touched)

  -- the last item on the block stands on that stream, there or behind it
  pub latest-since : (touch : Touch) → latest h.connections block ≡ Some touch
      → (last_index h.connections ≡ touch.connection)
      × ((c.place ≤ touch.place) × ((slice_get (primary_connection h).stream touch.place ≡ Some touch.item) × (touches touch.item block ≡ true)))
  latest-since touch is =
      let there = latest-at h.connections block touch is in
      let within = slice_get_within h.connections touch.connection there.0 there.1 in
      elim (latest-last h.connections block touch is (last_index h.connections) c.place (primary_connection h)
      (WriteItem c.accepted.write) c.connected c.there c.covered) [
        | inl past ↦ absurd (omega arith)
        | inr here ↦
            let end = same-at h.connections (last_index h.connections) there.0 (primary_connection h)
            (subst (λ (n : ℕ). slice_get h.connections n ≡ Some there.0) (sym here.0) there.1) c.connected in
            (here.0, (here.1, (subst (λ e. slice_get e.stream touch.place ≡ Some touch.item) end there.2, there.3)))
      ]

  cleared-equal : IsTrue h.faithful → sent_map h block ≡ settling_map h block
  cleared-equal faithful =
      let some = latest-some h.connections block (last_index h.connections) c.place (primary_connection h) (WriteItem c.accepted.write) c.connected c.there
      c.covered in
      let last = latest-since some.0 some.1 in
      ap (content_of (h.opening_map block) block) some.1 ∙ sent-since some.0.place some.0.item last.1.0 last.1.1.0 last.1.1.1 faithful

-- Marks are cleared of blocks that are cleared so.
pub tracked-released : (h later : PrimaryHistory) → ((block : ℕ) → is_cleared h later block ≡ true → IsCleared later block) → IsInOrder later → IsTracked later
    → IsTracked (releasing h later)
tracked-released h later clears order t = record {
  homes = homes-marks later _ t.homes;
  sized = t.sized;
  writes_inside = t.writes_inside;
  items_inside = t.items_inside;
  on_disk = t.on_disk;
  under_way = t.under_way;
  copied = t.copied;
  equal = λ block within unmarked. elim (and_cases (later.marks block) (not (is_cleared h later block)) unmarked) [
    | inl clean ↦ t.equal block within clean
    | inr cleared ↦ cleared-equal later block t order (clears block (not-false (is_cleared h later block) cleared))
  ];
}

-- A step that releases writes keeps what is known of the blocks, and the order.
pub ordered-release : (settings : Settings) (h later : PrimaryHistory) → IsRelease h later → Ordered settings h → OrderedAfter settings later
    → OrderedAfter settings (releasing h later)
ordered-release settings h later release p q = (
  record {
    tracked = tracked-released h later (λ block cleared. release-clears settings h later block p q.1.1.0.0 q.1.0 release cleared) q.1.1.1 q.0.tracked;
    numbers = q.0.numbers;
  },
  (q.1.0, (lawful-marks settings later _ q.1.1.0, order-same later (releasing h later) q.1.1.1 refl (keeps-writes later.writes))),
)

pub ordered-released : (settings : Settings) → IsKeptByReleases (Ordered settings) (OrderedAfter settings)
ordered-released settings = record {
  writes = λ h number waiting p q. ordered-release settings h (with_outcome number OnDisk h) (done-releases h number p.1.1.0.0) p q;
  confirms = λ h number size standing begun turn p q. ordered-release settings h _ (confirmed-releases settings h number size standing p) p q;
}

-- At the opening nothing is written, or sent.
pub ordered-opening : (settings : Settings) (disk : BlockMap) (tuple : Tuple) (marks : ℕ → Bool)
    → ((block : ℕ) → block < settings.blocks → is_some (disk block) ≡ true) → Ordered settings (primary_opening settings disk tuple marks)
ordered-opening settings disk tuple marks sized = (
  known-opening settings disk tuple marks sized,
  (
    λ k c at less. absurd (cc),
    (
      (homes-opening settings disk tuple marks, lawful-opening settings disk tuple marks),
      record {
        settled_first = λ i j block a b less ata. absurd (cc);
        rise = λ i j a b home other less ata. absurd (cc);
        alone_later = λ i j a b home c less ata. absurd (cc);
        acknowledged = λ k c at. absurd (cc);
      },
    ),
  ),
)

-- Every run of a primary keeps them.
pub ordered-run : (settings : Settings) (disk : BlockMap) (tuple : Tuple) (marks : ℕ → Bool) (events : List PrimaryEvent) → IsInRange settings
    → ((block : ℕ) → block < settings.blocks → is_some (disk block) ≡ true)
    → Ordered settings (primary_run events (primary_opening settings disk tuple marks))
ordered-run settings disk tuple marks events range sized =
    keeps-run (Ordered settings) (OrderedAfter settings) (in-order-kept settings (takes-writes settings range)) (ordered-released settings) events
    (primary_opening settings disk tuple marks) (ordered-opening settings disk tuple marks sized)
