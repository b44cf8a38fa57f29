-- A primary's half of the cover, of every run of it.
use Rattle.std.proofs.Common.{ℕ, ◌≡◌, ◌<◌, ◌⊎◌, inl, inr, true, false, not, ◌&&◌, Option, Some, None, slice_get, refl, sym, ◌∙◌, ap, subst, arith, nat_lt}
use Rattle.std.specs.List.{list_any}
use Rattle.std.proofs.lemmas.Bool.{cases_Bool, both_ways, or_parts, or_cases, and_from, not-true, lt-ltb, cases_lt, le-ltb}
use Rattle.model.specs.Contents.{covers}
use Rattle.model.specs.Stream.{StreamItem, WriteItem}
use Rattle.model.specs.Primary.{Accepted, PrimaryConnection, PrimaryHistory, is_waiting, is_released, unreleased, local_map, primary_connection, is_established}
use Rattle.model.specs.Headline.{is_marked, is_covered}
use Rattle.laws.specs.Reflections.{touches, content_at, FromItem, FromOpening}
use Rattle.laws.proofs.Blocks.Latest.{Touch, latest, sent_map, content_of}
use Rattle.laws.proofs.Blocks.LatestPlaces.{latest-at, latest-none, latest-last}
use Rattle.laws.proofs.Blocks.Overlays.{settled-is-local}
use Rattle.laws.proofs.Tracked.Moves.{beyond-the-end}
use Rattle.laws.proofs.Lists.Picks.{pick-any, pick-filtered}
use Rattle.laws.proofs.Primary.Homes.{HasHomes}
use Rattle.laws.proofs.Primary.LastOpen.{IsLastOpen, alone-at-rest}
use Rattle.laws.proofs.Accounted.{IsAccounted, held-covers}
use Rattle.laws.proofs.Accounted.Steps.{covered-inside}
use Rattle.laws.proofs.Lists.Elements.{same-at}
use Rattle.laws.proofs.Rules.Releases.{freed-alone, released-by, held-waiting}
use Rattle.std.proofs.Common.{IsTrue}

-- A block that is neither marked nor under an unreleased write.
pub reflected : (h : PrimaryHistory) (block : ℕ) → IsAccounted h → IsTrue h.faithful → is_covered h block ≡ false → FromItem h block ⊎ FromOpening h block
reflected h block a faithful clean = elim (cases_lt block h.settings.blocks) [
  | inr past ↦
      let out = beyond-the-end h block a.known.tracked past in
      inr (record {
        content = sym out.1;
        unmarked = ap (λ b. b && h.opening_marks block) (le-ltb block h.settings.blocks past);
        items = λ k place c i at there touched. absurd (both_ways (touches i block) (latest-none h.connections block out.0 k place c i at there) touched);
        began = elim a.began [ inl none ↦ inl none | inr first ↦ inr (first.0, first.1, λ inside full. absurd (omega arith)) ];
      })
  | inl inside ↦
      let parts = or_parts (is_marked h block) (list_any (λ (x : Accepted). covers x.write block) (unreleased h)) clean in
      let unmarked : h.marks block ≡ false = sym (ap (λ b. b && h.marks block) (lt-ltb block h.settings.blocks inside)) ∙ parts.0 in
      let free : (i : ℕ) (accepted : Accepted) → slice_get h.writes i ≡ Some accepted → is_released h accepted ≡ false
      → covers accepted.write block ≡ false = λ i accepted at held. elim (cases_Bool (covers accepted.write block)) [
        | inl covered ↦ absurd (both_ways (list_any (λ (x : Accepted). covers x.write block) (unreleased h)) parts.1
            (held-covers h block i accepted at held covered))
        | inr not_so ↦ not_so
      ] in
      let same : sent_map h block ≡ local_map h block =
      a.known.tracked.equal block inside unmarked faithful
      ∙ settled-is-local h block (λ i accepted at waits. free i accepted at (held-waiting h accepted waits)) in
      by-last h block a faithful inside unmarked free same (latest h.connections block) refl
]
  where
    by-last : (h : PrimaryHistory) (block : ℕ) → IsAccounted h → IsTrue h.faithful → block < h.settings.blocks → h.marks block ≡ false
        → ((i : ℕ) (accepted : Accepted) → slice_get h.writes i ≡ Some accepted → is_released h accepted ≡ false → covers accepted.write block ≡ false)
        → sent_map h block ≡ local_map h block → (v : Option Touch) → latest h.connections block ≡ v → FromItem h block ⊎ FromOpening h block
    by-last h block a faithful inside unmarked free same None is = inr (record {
      content = sym (ap (content_of (h.opening_map block) block) is) ∙ same;
      unmarked = ap (λ b. b && h.opening_marks block) (lt-ltb block h.settings.blocks inside) ∙ a.untouched block inside unmarked is;
      items = λ k place c i at there touched. absurd (both_ways (touches i block) (latest-none h.connections block is k place c i at there) touched);
      began = elim a.began [ inl none ↦ inl none | inr first ↦ inr (first.0, first.1, λ within full. first.2 full block within unmarked is) ];
    })
    by-last h block a faithful inside unmarked free same (Some touch) is =
        let there = latest-at h.connections block touch is in
        elim (a.settled block touch unmarked is) [
          | inr held ↦ absurd (
              let accepted : Accepted = held.1 in
              let home = a.known.tracked.homes.housed held.0 touch.connection touch.place accepted held.2 held.3 in
              let end : there.0 ≡ home.0 = same-at h.connections touch.connection there.0 home.0 there.1 home.1 in
              let item : touch.item ≡ WriteItem accepted.write = same-at home.0.stream touch.place touch.item (WriteItem accepted.write)
              (subst (λ (c : PrimaryConnection). slice_get c.stream touch.place ≡ Some touch.item) end there.2) home.2 in
              both_ways (covers accepted.write block) (free held.0 accepted held.2 held.4) (subst (λ (x : StreamItem). touches x block ≡ true) item there.3))
          | inl sure ↦
              let last : content_at touch.item block ≡ local_map h block = sym (ap (content_of (h.opening_map block) block) is) ∙ same in
              inl (record {
                connection = touch.connection;
                place = sure.place;
                end = sure.end;
                item = sure.item;
                at = sure.at;
                there = sure.there;
                touched = sure.touched;
                sure = sure.sure;
                content = sure.same faithful sure.place sure.item (omega arith) sure.there sure.touched ∙ last;
                later = λ other next c i at is_established touched after. elim after [
                  | inl beyond_it ↦ absurd (elim (latest-last h.connections block touch is other next c i at is_established touched)
                      [ inl before ↦ omega arith | inr here ↦ let e = here.0 in omega arith ])
                  | inr behind ↦
                      let less = behind.1 in
                      let end : c ≡ sure.end = same-at h.connections touch.connection c sure.end
                      (subst (λ (n : ℕ). slice_get h.connections n ≡ Some c) (sym behind.0) at) sure.at in
                      sure.same faithful next i (omega arith) (subst (λ (x : PrimaryConnection). slice_get x.stream next ≡ Some i) end is_established) touched ∙ last
                ];
              })
        ]

-- Where no stream stands, an unreleased write waits without a connection, so its blocks are marked.
pub rest-marked : (h : PrimaryHistory) (block : ℕ) → IsAccounted h → IsLastOpen h → is_established (primary_connection h) ≡ false → is_covered h block ≡ true
    → is_marked h block ≡ true
rest-marked h block a closed resting covered = elim (or_cases (is_marked h block) (list_any (λ (x : Accepted). covers x.write block) (unreleased h)) covered) [
  | inl marked ↦ marked
  | inr under ↦
      let some = pick-any (λ (x : Accepted). covers x.write block) (unreleased h) under in
      let stood = pick-filtered (λ (x : Accepted). not (is_released h x)) h.writes some.0 some.1 some.2 in
      let alone = alone-at-rest h (homes-of h a) closed resting stood.0 some.1 stood.1 in
      let waits : is_waiting some.1.outcome ≡ true = elim (cases_Bool (is_waiting some.1.outcome)) [
        | inl is ↦ is
        | inr done ↦ absurd (both_ways (is_released h some.1) (not-true (is_released h some.1) stood.2) (
            released-by h some.1 done (freed-alone h some.1 alone)))
      ] in
      and_from (nat_lt block h.settings.blocks) (h.marks block) (lt-ltb block h.settings.blocks (covered-inside h a.known stood.0 block some.1 stood.1 some.3))
      (a.waiting stood.0 block some.1 stood.1 alone waits some.3)
]
  where
    homes-of : (h : PrimaryHistory) → IsAccounted h → HasHomes h
    homes-of h a = a.known.tracked.homes
