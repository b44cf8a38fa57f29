-- The order of writes of a secondary that adopted the tuple that ended a resync: what it has was applied on that connection, over
-- what the earlier writes leave on the primary's opening disk.
use Rattle.std.proofs.Common.{ℕ, suc, ◌≡◌, ◌-◌, ◌<◌, inl, inr, true, false, not, nat_lt, zero-add, List, [], length, take, map, Option, Some, slice_get, refl}
use Rattle.std.proofs.Common.{sym, ◌∙◌, ap, subst, arith}
use Rattle.std.specs.List.{list_any}
use Rattle.std.proofs.lemmas.Bool.{cases_Bool, cases_lt, both_ways, or_from, and_left, ltb-true, false_from_ne_true}
use Rattle.std.proofs.lemmas.Option.{slice_get_within}
use Rattle.blocks.specs.declared.tuple.Tuple.{Tuple}
use Rattle.model.specs.Contents.{BlockMap, covers}
use Rattle.model.specs.Stream.{StreamItem, SyncUuidItem, UuidsItem, IsBeginning, is_in, first_of, contents_of}
use Rattle.model.specs.Primary.{Accepted, PrimaryConnection, PrimaryHistory, is_sync_start, is_sync_end, local_layer, local_map, is_released, unreleased}
use Rattle.model.specs.Secondary.{SecondaryConnection, SecondaryHistory, items_taken, map_of, secondary_map}
use Rattle.model.specs.LocalRuns.{PrimaryEvent, primary_run, SecondaryEvent, secondary_run}
use Rattle.model.specs.Headline.{IsJoined, HoldsEarlierEpochs, IsGrounded, is_marked}
use Rattle.model.specs.Theorems.{Opening, IsSoundOpening, primary_at, secondary_at}
use Rattle.model.specs.WriteOrder.{has_adopted, base_of, IsUnharmed}
use Rattle.laws.specs.Reflections.{touches}
use Rattle.laws.proofs.Blocks.Overlays.{overlay-same, overlay-none, under-outside}
use Rattle.laws.proofs.Blocks.Ranges.{between-parts}
use Rattle.laws.proofs.Blocks.SameBlocks.{same-equal}
use Rattle.laws.proofs.Lists.Beginnings.{get-beginning}
use Rattle.laws.proofs.Lists.Elements.{same-at}
use Rattle.laws.proofs.Lists.Fronts.{get-front}
use Rattle.laws.proofs.Lists.Picks.{any-pick, pick-any, pick-filtered}
use Rattle.laws.proofs.Streams.Parts.{whole-has}
use Rattle.laws.proofs.Joining.Agreeing.{reaches-disk, joined-agrees}
use Rattle.laws.proofs.Joining.Ends.{AreEnds, secondary-end}
use Rattle.laws.proofs.Joining.OpeningDisks.{unmarked-agree}
use Rattle.laws.proofs.Joining.Openings.{kept-opening-primary, kept-opening-secondary}
use Rattle.laws.proofs.Joining.SureApplied.{sure-is-applied, sure-taken, taken-begins}
use Rattle.laws.proofs.Primary.Homes.{HasHomes}
use Rattle.laws.proofs.Secondary.Applied.{map-settles}
use Rattle.laws.proofs.Accounted.{IsAccounted}
use Rattle.laws.proofs.Accounted.Steps.{covered-inside}
use Rattle.laws.proofs.Accounted.Reflected.{reflected}
use Rattle.laws.proofs.WriteOrder.Layers.{full_layer, layers-bare}
use Rattle.laws.proofs.WriteOrder.Sets.{IsBehind}
use Rattle.laws.proofs.WriteOrder.Spans.{NoneFailed, left_by, FromBelow, OpeningBelow, IsSpan}
use Rattle.laws.proofs.WriteOrder.SpanMoves.{HasSpans}
use Rattle.laws.proofs.WriteOrder.Generations.{TakesOnly, IsLeft}
use Rattle.laws.proofs.WriteOrder.GenerationMoves.{HasLeft}
use Rattle.laws.proofs.WriteOrder.Consistent.{IsAdopted}
use Rattle.laws.proofs.WriteOrder.Ends.{none-in, first-in, brings-nothing, base-from-opening, base-from-end, rises, peer-hello, primary-connection-of}
use Rattle.laws.proofs.WriteOrder.Ends.{behind-of}
use Rattle.laws.proofs.WriteOrder.Ends.{none-failed}

module _ (o : Opening) (here : List PrimaryEvent) (there : List SecondaryEvent) (sound : IsSoundOpening o)
    (joined : IsJoined (primary_run here (primary_at o)) (secondary_run there (secondary_at o)))
    (unharmed : IsUnharmed (primary_run here (primary_at o)) (secondary_run there (secondary_at o))) (homes : HasHomes (primary_run here (primary_at o)))
    (accounted : IsAccounted (primary_run here (primary_at o)))
    (spans : HasSpans (primary_run here (primary_at o))) (left : HasLeft (primary_run here (primary_at o)))
    (epochs : HoldsEarlierEpochs (secondary_run there (secondary_at o))) (a : IsAdopted (secondary_run there (secondary_at o))) where
  abbrev p : PrimaryHistory
  p = primary_run here (primary_at o)

  abbrev s : SecondaryHistory
  s = secondary_run there (secondary_at o)

  abbrev j : ℕ
  j = a.index

  abbrev d : SecondaryConnection
  d = a.end

  -- the primary's end of the connection
  adopted-on : (k : ℕ) × (c : PrimaryConnection) × AreEnds (primary_run here (primary_at o)) (secondary_run there (secondary_at o)) k a.index c a.end
      × IsBeginning (items_taken a.end) c.stream
  adopted-on = primary-connection-of o here there joined a.index a.place a.end (UuidsItem s.tuple) a.at a.there

  abbrev k : ℕ
  k = adopted-on.0

  abbrev c : PrimaryConnection
  c = adopted-on.1

  -- the resync ended there
  ended-there : slice_get c.stream a.place ≡ Some (UuidsItem s.tuple)
  ended-there = get-beginning (items_taken d) c.stream a.place (UuidsItem s.tuple) adopted-on.3 a.there

  begun-there : c.begun ≡ true
  begun-there = elim (cases_Bool c.begun) [
    | inl is ↦ is
    | inr new ↦ absurd (let nothing : slice_get [] a.place ≡ Some (UuidsItem s.tuple) =
        subst (λ (l : List StreamItem). slice_get l a.place ≡ Some (UuidsItem s.tuple)) (homes.empty k c adopted-on.2.primary_connection new) ended-there in cc
        (nothing))
  ]

  -- it adopted a tuple
  adopted : has_adopted s ≡ true
  adopted = any-pick (λ (e : SecondaryConnection). list_any is_sync_end (items_taken e)) s.connections j d a.at
      (any-pick is_sync_end (items_taken d) a.place (UuidsItem s.tuple) a.there refl)

  base-same : (block : ℕ) → base_of p s block ≡ p.opening_map block
  base-same block = ap (λ b. elim b as (λ _. Option (List ℕ)) [ true ↦ p.opening_map block | false ↦ s.opening_map block ]) adopted

  -- of two connections the one with the lower number comes first
  comes-first : (m : ℕ) (e : SecondaryConnection) (i : ℕ) (f : SecondaryConnection) → slice_get s.connections m ≡ Some e → slice_get s.connections i ≡ Some f
      → e.number < f.number
      → m < i
  comes-first m e i f ate atf less = elim (cases_lt m i) [
    | inl is ↦ is
    | inr late ↦ absurd (elim (cases_lt i m) [
      | inl early ↦ (let rise = (rises o here there joined).rise i m f e early atf ate in omega arith)
      | inr not_early ↦
          let index : m ≡ i = omega arith in
          let same : e ≡ f = same-at s.connections i e f (subst (λ (x : ℕ). slice_get s.connections x ≡ Some e) index ate) atf in
          let number : e.number ≡ f.number = ap (λ (x : SecondaryConnection). x.number) same in
          omega arith
    ])
  ]

  -- each later peer has what it adopted
  only-adopted : TakesOnly s.tuple.current (suc k) p
  only-adopted i n e peer from at taken =
      let hello = peer-hello o here there joined i n e peer at taken in
      let one = hello.2.number in
      let two = adopted-on.2.number in
      let less = comes-first j d hello.0 hello.1 a.at hello.2.secondary_connection (omega arith) in
      ap (λ (t : Tuple). t.current) (hello.3 ∙ (a.later hello.0 hello.1 less hello.2.secondary_connection).hello)

  left-then : IsLeft s.tuple.current (suc k) p
  left-then = left.ended k a.place c s.tuple adopted-on.2.primary_connection ended-there only-adopted

  -- so it took nothing since
  later-empty : (m : ℕ) (e : SecondaryConnection) → j < m → slice_get s.connections m ≡ Some e → items_taken e ≡ []
  later-empty m e less at = elim (cases_Bool (nat_lt 0 (length (items_taken e)))) [
    | inr none ↦ none-in (items_taken e) none
    | inl some ↦ absurd (
        let head = first-in (items_taken e) some in
        let of = primary-connection-of o here there joined m 0 e head.0 at head.1 in
        let low = (rises o here there joined).rise j m d e less a.at at in
        let one = of.2.number in
        let two = adopted-on.2.number in
        let within = slice_get_within p.connections of.0 of.1 of.2.primary_connection in
        let there_too = get-beginning (items_taken e) of.1.stream 0 head.0 of.3 head.1 in
        elim left-then [
          | inl standing ↦ let last = standing.last in omega arith
          | inr gone ↦ elim (gone.resyncs of.0 of.1 (omega arith) of.2.primary_connection) [
            | inl new ↦ let nothing : slice_get [] 0 ≡ Some head.0 = subst (λ (l : List StreamItem). slice_get l 0 ≡ Some head.0)
                (homes.empty of.0 of.1 of.2.primary_connection new) there_too in cc (nothing)
            | inr resync ↦
                let same : head.0 ≡ SyncUuidItem resync.0 = same-at of.1.stream 0 head.0 (SyncUuidItem resync.0) there_too resync.1 in
                both_ways (is_sync_start head.0) ((a.later m e less at).items 0 head.0 head.1).0 (ap is_sync_start same)
          ]
        ])
  ]

  fine : NoneFailed p
  fine = none-failed o here there joined unharmed

  span : (older : ℕ) × (newer : ℕ) × IsSpan (primary_run here (primary_at o)) adopted-on.0 adopted-on.1 older newer
  span = spans.spans k c adopted-on.2.primary_connection begun-there

  grounded : IsGrounded p s
  grounded = (unharmed.faithful, inl (any-pick (λ (x : PrimaryConnection). x.begun) p.connections k c adopted-on.2.primary_connection begun-there))

  -- nothing of the connection is applied on a block
  abbrev IsBare : ℕ → Type 0
  IsBare block = (n : ℕ) (i : StreamItem) → slice_get (items_taken d) n ≡ Some i → touches i block ≡ true → is_in d.applied n (block - first_of i) ≡ false

  -- What the connection opened on, on such a block.

  -- where an item of an earlier connection is surely applied
  opened-below : (older block : ℕ) → FromBelow p k older block → d.base block ≡ left_by p older block
  opened-below older block from =
      let v = left_by p older block in
      let frame = sure-taken from.end from.place from.item from.sure in
      let end = secondary-end p s joined from.connection frame.0 from.end frame.1 from.at frame.2 in
      let e : SecondaryConnection = end.1 in
      let applied = sure-is-applied o here there joined from.connection end.0 from.place from.end e from.item end.2 from.there from.sure in
      let begins = taken-begins p s (rises o here there joined) joined from.connection end.0 from.end e end.2 in
      let holds : map_of e block ≡ v = map-settles e block v from.place from.item applied.0 from.touched applied.1 from.content (λ n i less at touched.
      from.later from.connection n from.end i from.less from.at (get-beginning (items_taken e) from.end.stream n i begins at) touched (inr (refl, less))) in
      let one = end.2.number in
      let two = adopted-on.2.number in
      let below_it = from.less in
      base-from-end s epochs block v end.0 e end.2.secondary_connection holds j d (comes-first end.0 e j d end.2.secondary_connection a.at (omega arith)) a.at
      (λ m f low high at n i taken touched.
      let of = primary-connection-of o here there joined m n f i at taken in
      let number = of.2.number in
      let after = (rises o here there joined).rise end.0 m e f low end.2.secondary_connection at in
      let before = (rises o here there joined).rise m j f d high at a.at in
      from.later of.0 n of.1 i (omega arith) of.2.primary_connection (get-beginning (items_taken f) of.1.stream n i of.3 taken) touched (inl (omega arith)))

  -- where it stands as at the opening
  opened-as-opening : (older block : ℕ) → OpeningBelow p k older block → d.base block ≡ left_by p older block
  opened-as-opening older block below =
      let v = left_by p older block in
      let mine = kept-opening-primary o here in
      let theirs = kept-opening-secondary o there in
      let same = unmarked-agree o here there sound joined grounded block below.unmarked (inr (below.began.0, below.began.1, λ inside. below.began.2)) in
      let was : s.opening_map block ≡ v = ap (λ (m : BlockMap). m block) theirs.disk
      ∙ (sym same ∙ (ap (λ (m : BlockMap). m block) (sym mine.disk) ∙ below.content)) in
      base-from-opening s epochs block v was j d a.at (λ m f high at n i taken touched.
      let of = primary-connection-of o here there joined m n f i at taken in
      let number = of.2.number in
      let two = adopted-on.2.number in
      let before = (rises o here there joined).rise m j f d high at a.at in
      below.items of.0 n of.1 i (omega arith) of.2.primary_connection (get-beginning (items_taken f) of.1.stream n i of.3 taken) touched)

  -- what is bare stays as the connection opened
  bare-map : (block : ℕ) → IsBare block → map_of d block ≡ d.base block
  bare-map block bare = layers-bare d.base 0 (items_taken d) d.applied block
      (λ n i at touched. subst (λ (m : ℕ). is_in d.applied m (block - first_of i) ≡ false) (sym (zero-add n)) (bare n i at touched))

  -- past the end of the device
  opened-outside : (older block : ℕ) → (block < p.settings.blocks → ⊥) → IsBare block → d.base block ≡ left_by p older block
  opened-outside older block out bare =
      let free : (i : ℕ) (w : Accepted) → slice_get p.writes i ≡ Some w
      → covers w.write block ≡ false = λ i w at. false_from_ne_true (covers w.write block)
      (λ covered. out (covered-inside p accounted.known i block w at covered)) in
      let unmarked : is_marked p block ≡ false = and_left (nat_lt block p.settings.blocks) (p.marks block)
      (false_from_ne_true (nat_lt block p.settings.blocks) (λ inside. out (ltb-true block p.settings.blocks inside))) in
      let unheld : list_any (λ (w : Accepted). covers w.write block) (unreleased p) ≡ false = false_from_ne_true _ (λ some.
      let found = pick-any (λ (w : Accepted). covers w.write block) (unreleased p) some in
      let stood = pick-filtered (λ (w : Accepted). not (is_released p w)) p.writes found.0 found.1 found.2 in
      both_ways (covers found.1.write block) (free stood.0 found.1 stood.1) found.3) in
      let same = same-equal (local_map p block) (secondary_map s block)
      (joined-agrees o here there sound joined grounded block (reflected p block accounted unharmed.faithful (or_from (is_marked p block) _ unmarked unheld))) in
      let here_map : local_map p block ≡ p.opening_map block = overlay-none local_layer p.opening_map p.writes block
      (λ i w at v. under-outside (local_layer w) block v (free i w at)) in
      let there_map : secondary_map s block ≡ map_of d block = reaches-disk s epochs block (map_of d block) j d a.at refl
      (λ m e less at. brings-nothing block (map_of d block) e (later-empty m e less at)) in
      let left_there : left_by p older block ≡ p.opening_map block = overlay-none full_layer p.opening_map (take older p.writes) block
      (λ i w at v. under-outside (full_layer w) block v (free i w (get-front older p.writes i w at).1)) in
      sym (bare-map block bare) ∙ (sym there_map ∙ (sym same ∙ (here_map ∙ sym left_there)))

  opened-on : (block : ℕ) → IsBare block → d.base block ≡ left_by p span.0 block
  opened-on block bare = elim (cases_lt block p.settings.blocks) [
    | inr past ↦ opened-outside span.0 block (λ inside. omega arith) bare
    | inl inside ↦ elim (span.2.synced fine a.place s.tuple ended-there block inside) [
      | inr below ↦ elim below [ inl from ↦ opened-below span.0 block from | inr opening ↦ opened-as-opening span.0 block opening ]
      | inl returned ↦ absurd (
          let applied = sure-is-applied o here there joined k j returned.place c d returned.item adopted-on.2 returned.there returned.sure in
          let parts = between-parts (first_of returned.item) (length (contents_of returned.item)) block returned.touched in
          let low = parts.0 in
          let high = parts.1 in
          both_ways (is_in d.applied returned.place (block - first_of returned.item)) (bare returned.place returned.item applied.0 returned.touched)
          (whole-has d.applied returned.place (block - first_of returned.item) returned.item applied.1 (omega arith)))
    ]
  ]

  -- So there is a set behind it.
  pub adopted-behind : IsBehind (primary_run here (primary_at o)) (secondary_run there (secondary_at o))
  adopted-behind = behind-of o here there joined k j span.0 span.1 c d adopted-on.2 adopted-on.3 epochs fine span.2 later-empty
      (λ place block contents at. base-same block)
      (λ block bare. opened-on block bare ∙ overlay-same p.opening_map (base_of p s) (map full_layer (take span.0 p.writes)) block (sym (base-same block)))
