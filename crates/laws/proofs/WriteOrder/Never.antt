-- The order of writes of a secondary that never took a SYNC_UUID: what it has was applied on the first connection whose stream
-- began, and before that there was no write.
use Rattle.std.proofs.Common.{ℕ, suc, ◌≡◌, ◌-◌, ◌<◌, ◌⊎◌, inl, inr, true, false, nat_lt, List, [], length, Option, Some, slice_get, refl, sym, ◌∙◌}
use Rattle.std.proofs.Common.{ap, subst, arith}
use Rattle.std.specs.List.{list_any}
use Rattle.std.proofs.lemmas.Bool.{cases_Bool, cases_lt, both_ways, lt-ltb, false_from_ne_true}
use Rattle.std.proofs.lemmas.Option.{slice_get_within}
use Rattle.blocks.specs.declared.tuple.Tuple.{Tuple}
use Rattle.model.specs.Stream.{StreamItem, ResyncItem, SyncUuidItem, IsBeginning}
use Rattle.model.specs.Primary.{PrimaryConnection, PrimaryHistory, last_of, is_sync_start, is_sync_end, is_resync}
use Rattle.model.specs.Secondary.{SecondaryConnection, SecondaryHistory, no_secondary_connection, secondary_connection, items_taken, whole}
use Rattle.model.specs.LocalRuns.{PrimaryEvent, primary_run, SecondaryEvent, secondary_run}
use Rattle.model.specs.Headline.{IsJoined, HoldsEarlierEpochs}
use Rattle.model.specs.Theorems.{Opening, IsSoundOpening, primary_at, secondary_at}
use Rattle.model.specs.WriteOrder.{Blocks, layer_of, has_adopted, base_of, IsOnDisk, IsUnharmed}
use Rattle.laws.proofs.Blocks.Overlays.{overlay-none}
use Rattle.laws.proofs.Lists.Beginnings.{get-beginning}
use Rattle.laws.proofs.Lists.Elements.{same-at}
use Rattle.laws.proofs.Lists.Last.{last-at}
use Rattle.laws.proofs.Lists.Picks.{pick-any}
use Rattle.laws.proofs.Rules.Usage.{whole-none}
use Rattle.laws.proofs.Joining.Agreeing.{from-opening}
use Rattle.laws.proofs.Joining.Ends.{AreEnds}
use Rattle.laws.proofs.Primary.Homes.{HasHomes}
use Rattle.laws.proofs.WriteOrder.Layers.{writes_over, under-bare, last-passing}
use Rattle.laws.proofs.WriteOrder.Sets.{IsBehind}
use Rattle.laws.proofs.WriteOrder.SpanMoves.{HasSpans}
use Rattle.laws.proofs.WriteOrder.Generations.{TakesOnly}
use Rattle.laws.proofs.WriteOrder.GenerationMoves.{HasLeft, NoneBegun, IsFirst}
use Rattle.laws.proofs.WriteOrder.Consistent.{IsNever}
use Rattle.laws.proofs.WriteOrder.Ends.{none-in, first-in, brings-nothing, base-from-opening, rises, peer-hello, primary-connection-of, behind-of, none-failed}

-- Where the secondary took no item, the empty set is behind it.
pub none-taken : (p : PrimaryHistory) (s : SecondaryHistory) → HoldsEarlierEpochs s → has_adopted s ≡ false
    → ((j : ℕ) (d : SecondaryConnection) → slice_get s.connections j ≡ Some d → items_taken d ≡ []) → (set : Blocks) × IsOnDisk p s set
none-taken p s epochs bare none = (
  λ number offset. false,
  record {
    ordered = λ m n offset place earlier later ata atb before has. absurd (cc);
    disk = λ block.
        from-opening s epochs block (s.opening_map block) refl (λ j e at. brings-nothing block (s.opening_map block) e (none j e at))
        ∙ (ap (λ b. elim b as (λ _. Option (List ℕ)) [ true ↦ p.opening_map block | false ↦ s.opening_map block ]) (sym bare)
        ∙ sym (overlay-none (layer_of (λ number offset. false)) (base_of p s) p.writes block
        (λ i a at v. under-bare (layer_of (λ number offset. false) a) block v (λ inside. refl))));
    epochs = λ n k place offset accepted at home number upto. absurd (let zero_whole = nothing-whole in omega arith);
  },
)
  where
    nothing-whole : whole s ≡ 0
    nothing-whole = whole-none s (elim (last-at (no_secondary_connection s) s.connections) [
      | inl empty ↦ ap (λ (l : List SecondaryConnection). items_taken (last_of (no_secondary_connection s) l)) empty
      | inr last ↦ none (length s.connections - 1) (secondary_connection s) last
    ])

module _ (o : Opening) (here : List PrimaryEvent) (there : List SecondaryEvent) (sound : IsSoundOpening o)
    (joined : IsJoined (primary_run here (primary_at o)) (secondary_run there (secondary_at o)))
    (unharmed : IsUnharmed (primary_run here (primary_at o)) (secondary_run there (secondary_at o))) (homes : HasHomes (primary_run here (primary_at o)))
    (spans : HasSpans (primary_run here (primary_at o))) (left : HasLeft (primary_run here (primary_at o)))
    (epochs : HoldsEarlierEpochs (secondary_run there (secondary_at o))) (never : IsNever (secondary_run there (secondary_at o))) where
  abbrev p : PrimaryHistory
  p = primary_run here (primary_at o)

  abbrev s : SecondaryHistory
  s = secondary_run there (secondary_at o)

  abbrev word : ℕ
  word = s.opening_tuple.current

  -- it adopted no tuple
  pub never-adopted : has_adopted (secondary_run there (secondary_at o)) ≡ false
  never-adopted = false_from_ne_true (has_adopted s) (λ adopted.
      let end = pick-any (λ (d : SecondaryConnection). list_any is_sync_end (items_taken d)) s.connections adopted in
      let item = pick-any is_sync_end (items_taken end.1) end.3 in
      both_ways (is_sync_end item.1) ((never.ends end.0 end.1 end.2).items item.0 item.1 item.2).1.0 item.3)

  -- each tuple that the primary took was its opening one
  only-opening : TakesOnly word 0 p
  only-opening j n c peer from at taken =
      let hello = peer-hello o here there joined j n c peer at taken in
      ap (λ (t : Tuple). t.current) (hello.3 ∙ (never.ends hello.0 hello.1 hello.2.secondary_connection).hello)

  -- The first stream that began, and what is known of it.
  first-stream : NoneBegun p ⊎ IsFirst word p
  first-stream = left.first word never.known unharmed.opening only-opening

  -- a connection on which it took an item is that one
  took-first : (first : IsFirst word p) (k j n : ℕ) (c : PrimaryConnection) (d : SecondaryConnection) (i : StreamItem) → AreEnds p s k j c d
      → IsBeginning (items_taken d) c.stream
      → slice_get (items_taken d) n ≡ Some i → (suc k ≡ first.from) × ((c.begun ≡ true) × (p.opening_tuple.bitmap ≡ 0))
  took-first first k j n c d i ends begins taken =
      let at = get-beginning (items_taken d) c.stream n i begins taken in
      let begun : c.begun ≡ true = elim (cases_Bool c.begun) [
        | inl is ↦ is
        | inr new ↦ absurd (let none = homes.empty k c ends.primary_connection new in let nothing : slice_get [] n ≡ Some i =
            subst (λ (l : List StreamItem). slice_get l n ≡ Some i) none at in cc (nothing))
      ] in
      let within = slice_get_within p.connections k c ends.primary_connection in
      let low : k < first.from = elim (cases_lt k first.from) [
        | inl is ↦ is
        | inr high ↦ absurd (elim first.left [
          | inl standing ↦ let last = standing.last in omega arith
          | inr gone ↦ elim (gone.resyncs k c (omega arith) ends.primary_connection) [
            | inl new ↦ both_ways c.begun new begun
            | inr resync ↦
                let some : nat_lt 0 (length (items_taken d)) ≡ true = taken-some (items_taken d) n i taken in
                let head = first-in (items_taken d) some in
                let same : head.0 ≡ SyncUuidItem resync.0 = same-at c.stream 0 head.0 (SyncUuidItem resync.0)
                (get-beginning (items_taken d) c.stream 0 head.0 begins head.1) resync.1 in
                both_ways (is_sync_start head.0) ((never.ends j d ends.secondary_connection).items 0 head.0 head.1).0 (ap is_sync_start same)
          ]
        ])
      ] in
      elim (cases_lt (suc k) first.from) [
        | inl early ↦ absurd (both_ways c.begun (first.earlier k c early ends.primary_connection) begun)
        | inr late ↦
            let index : suc k ≡ first.from = omega arith in
            elim (first.there k c index ends.primary_connection) [ inl new ↦ absurd (both_ways c.begun new begun) | inr bitmap ↦ (index, (begun, bitmap)) ]
      ]
    where
      taken-some : (xs : List StreamItem) (n : ℕ) (i : StreamItem) → slice_get xs n ≡ Some i → nat_lt 0 (length xs) ≡ true
      taken-some xs n i at = lt-ltb 0 (length xs) (let within = slice_get_within xs n i at in omega arith)

  -- So there is a set behind it.
  pub never-keeps : ((b : IsBehind (primary_run here (primary_at o)) (secondary_run there (secondary_at o)))
      → (set : Blocks) × IsOnDisk (primary_run here (primary_at o)) (secondary_run there (secondary_at o)) set)
      → (set : Blocks) × IsOnDisk (primary_run here (primary_at o)) (secondary_run there (secondary_at o)) set
  never-keeps keeps = elim (last-passing (λ (j : ℕ) (d : SecondaryConnection). nat_lt 0 (length (items_taken d))) s.connections) [
    | inr none ↦ none-taken p s epochs never-adopted (λ j d at. none-in (items_taken d) (none j d at))
    | inl l ↦
        let j = l.place in
        let d : SecondaryConnection = l.found in
        let head = first-in (items_taken d) l.passes in
        let of = primary-connection-of o here there joined j 0 d head.0 l.at head.1 in
        let k = of.0 in
        let c : PrimaryConnection = of.1 in
        elim first-stream [
          | inl none ↦ absurd (
              let at = get-beginning (items_taken d) c.stream 0 head.0 of.3 head.1 in
              let empty = homes.empty k c of.2.primary_connection (none k c of.2.primary_connection) in
              let nothing : slice_get [] 0 ≡ Some head.0 = subst (λ (l : List StreamItem). slice_get l 0 ≡ Some head.0) empty at in
              cc (nothing))
          | inr first ↦
              let its = took-first first k j 0 c d head.0 of.2 of.3 head.1 in
              let span = spans.spans k c of.2.primary_connection its.1.0 in
              let none_older : span.0 ≡ 0 = span.2.first (λ i e less at. first.earlier i e (let index = its.0 in omega arith) at) its.1.1 in
              let base_same : (block : ℕ) → base_of p s block ≡ s.opening_map block =
              λ block. ap (λ b. elim b as (λ _. Option (List ℕ)) [ true ↦ p.opening_map block | false ↦ s.opening_map block ]) never-adopted in
              keeps (behind-of o here there joined k j span.0 span.1 c d of.2 of.3 epochs (none-failed o here there joined unharmed) span.2
              (λ m e less at. none-in (items_taken e) (l.later m e less at))
              (λ place block contents at. absurd
              (both_ways (is_resync (ResyncItem block contents)) ((never.ends j d l.at).items place (ResyncItem block contents) at).1.1 refl))
              (λ block bare.
              base-from-opening s epochs block (s.opening_map block) refl j d l.at
              (λ m e less at. brings-nothing block (s.opening_map block) e (earlier-empty first j d k c of.2 its.0 m e less at))
              ∙ (sym (base_same block) ∙ ap (λ (n : ℕ). writes_over (base_of p s) n p.writes block) (sym none_older))))
        ]
  ]
    where
      -- it took nothing on an earlier connection
      earlier-empty : (first : IsFirst word p) (j : ℕ) (d : SecondaryConnection) (k : ℕ) (c : PrimaryConnection) → AreEnds p s k j c d → suc k ≡ first.from
          → (m : ℕ) (e : SecondaryConnection)
          → m < j → slice_get s.connections m ≡ Some e → items_taken e ≡ []
      earlier-empty first j d k c ends index m e less at = elim (cases_Bool (nat_lt 0 (length (items_taken e)))) [
        | inr none ↦ none-in (items_taken e) none
        | inl some ↦ absurd (
            let head = first-in (items_taken e) some in
            let of = primary-connection-of o here there joined m 0 e head.0 at head.1 in
            let its = took-first first of.0 m 0 of.1 e head.0 of.2 of.3 head.1 in
            let low = (rises o here there joined).rise m j e d less at ends.secondary_connection in
            let one = of.2.number in
            let two = ends.number in
            let three = its.0 in
            omega arith)
      ]
