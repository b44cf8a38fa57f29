-- A secondary's connection as it has to be, over all that happens to it: sound, and closed once a frame of it was refused.
use Rattle.std.proofs.Common.{ℕ, ◌≡◌, ◌-◌, inl, inr, true, false, List, [], ◌∷◌, ◌++◌, length, take, drop, map, Option, Some, None, slice_get, refl, sym, ◌∙◌}
use Rattle.std.proofs.Common.{ap, arith, subst, ◌<◌}
use Rattle.std.specs.Prelude.{filter_map, if◌then◌else◌}
use Rattle.std.proofs.lemmas.Bool.{cases_Bool, both_ways}
use Rattle.std.proofs.lemmas.List.{length-append}
use Rattle.std.proofs.lemmas.List.Elements.{filter_map-append}
use Rattle.std.proofs.Math.Seq.{take-append_seam}
use Rattle.blocks.specs.declared.settings.Protocol.{Protocol}
use Rattle.blocks.specs.declared.tuple.Tuple.{Tuple}
use Rattle.model.specs.Contents.{BlockMap}
use Rattle.model.specs.Stream.{StreamItem, below, contents_of}
use Rattle.model.specs.Frames.{Packet, Received}
use Rattle.model.specs.Secondary.{SecondaryConnection, items_taken, accepted_of, received_item, new_secondary_connection}
use Rattle.model.specs.SecondarySteps.{answering, barrier_answer, barriers_to_answer, is_pending_at, has_earlier, applying, failing}
use Rattle.model.specs.SecondarySteps.{applied_with}
use Rattle.laws.proofs.Rules.DiskFaults.{reached, fault-applied, reached-inside}
use Rattle.laws.proofs.Secondary.Sound.{IsSound, starting, sound-taking, sound-same, sound-applying, dropped, Started}
use Rattle.laws.proofs.Lists.Beginnings.{begins-drop}
use Rattle.laws.proofs.Lists.Elements.{same-at}
use Rattle.laws.proofs.Lists.Picks.{pick-below}
use Rattle.laws.proofs.Rules.RefusedFrames.{refused_in}

-- A connection as it has to be: sound, and closed once a frame of it was refused.
pub record IsGood (d : SecondaryConnection) : Type 0 where
  pub sound : IsSound d
  pub refused : d.refused ≡ true → d.closed ≡ true

-- Acknowledgements that become due change nothing of this.
pub good-due : (d : SecondaryConnection) (due : List Packet) → IsGood d → IsGood (record d { due = due })
good-due d due good = record { sound = sound-same d (record d { due = due }) good.sound refl refl refl (λ c. c); refused = good.refused }

-- an end that answers barriers stays good
pub good-answering : (d : SecondaryConnection) → IsGood d → IsGood (answering d)
good-answering d good = elim d.closed as
    (λ b. IsGood (elim b as (λ _. SecondaryConnection) [ true ↦ d | false ↦ record d { due = d.due ++ map (barrier_answer d) (barriers_to_answer d) } ])) [
      | true ↦ good
      | false ↦ good-due d (d.due ++ map (barrier_answer d) (barriers_to_answer d)) good
    ]

-- and its opening disk stays
pub base-answering : (d : SecondaryConnection) (block : ℕ) → (answering d).base block ≡ d.base block
base-answering d block =
    elim d.closed as (λ b. (elim b as
    (λ _. SecondaryConnection) [ true ↦ d | false ↦ record d { due = d.due ++ map (barrier_answer d) (barriers_to_answer d) } ]).base
    block ≡ d.base block) [ true ↦ refl | false ↦ refl ]

-- a new connection is good
pub good-new : (number : ℕ) (disk : BlockMap) (hello : Tuple)
    → IsGood (new_secondary_connection number disk hello)
good-new number disk hello = record {
  sound = record {
    epoch = 0;
    upto = omega arith;
    before = λ place offset item at early less. absurd (cc);
    after = λ place offset h. absurd (cc);
    within = λ place offset h. absurd (cc);
    named = λ place offset h. absurd (cc);
    stopped = inl refl;
  };
  refused = λ h. absurd (cc);
}

-- a frame more only adds to the items taken
pub taking-more : (frame : Received) (d : SecondaryConnection) → d.refused ≡ false
    → (more : List StreamItem) × (items_taken (record d { taken = d.taken ++ frame ∷ [] }) ≡ items_taken d ++ more)
taking-more frame d accepted =
    let split = begins-drop 3 d.taken (d.taken ++ frame ∷ []) (frame ∷ [], refl) in
    let old : accepted_of d ≡ drop 3 d.taken = ap (λ b. drop 3 (if b then take (length d.taken - 1) d.taken else d.taken)) accepted in
    let new : accepted_of (record d { taken = d.taken ++ frame ∷ [] }) ≡ drop 3 (d.taken ++ frame ∷ []) =
    ap (λ b. drop 3 (if b then take (length (d.taken ++ frame ∷ []) - 1) (d.taken ++ frame ∷ []) else (d.taken ++ frame ∷ []))) accepted in (
      filter_map received_item split.0,
      ap (filter_map received_item) (new ∙ sym split.1) ∙ (filter_map-append received_item (drop 3 d.taken) split.0
          ∙ ap (λ (l : List Received). filter_map received_item l ++ filter_map received_item split.0) (sym old)),
    )

-- an open end that takes a frame stays good
pub good-taking : (frame : Received) (d : SecondaryConnection) → d.closed ≡ false → IsGood d → IsGood (record d { taken = d.taken ++ frame ∷ [] })
good-taking frame d standing good =
    let accepted : d.refused ≡ false =
    elim (cases_Bool d.refused) [ inl was ↦ absurd (both_ways d.closed standing (good.refused was)) | inr not_so ↦ not_so ] in
    let more = taking-more frame d accepted in
    record {
      sound = sound-taking d (record d { taken = d.taken ++ frame ∷ [] }) more.0 good.sound standing more.1 refl refl;
      refused = λ h. absurd (both_ways d.refused accepted h);
    }

-- a frame that is refused brings nothing
pub items-refusing : (frame : Received) (d : SecondaryConnection) → d.refused ≡ false
    → items_taken (refused_in frame d) ≡ items_taken d
items-refusing frame d accepted =
    let old : accepted_of d ≡ drop 3 d.taken = ap (λ b. drop 3 (if b then take (length d.taken - 1) d.taken else d.taken)) accepted in
    let size : length (d.taken ++ frame ∷ []) - 1 ≡ length d.taken = let long = length-append d.taken (frame ∷ []) in omega arith in
    let whole : take (length (d.taken ++ frame ∷ []) - 1) (d.taken ++ frame ∷ []) ≡ d.taken = ap (λ n. take n (d.taken ++ frame ∷ [])) size
    ∙ take-append_seam d.taken (frame ∷ []) in
    ap (λ (l : List Received). filter_map received_item (drop 3 l)) whole ∙ ap (filter_map received_item) (sym old)

-- an open end that refuses a frame closes, and stays good
pub good-refusing : (frame : Received) (d : SecondaryConnection) → d.closed ≡ false → IsGood d
    → IsGood (refused_in frame d)
good-refusing frame d standing good =
    let accepted : d.refused ≡ false =
    elim (cases_Bool d.refused) [ inl was ↦ absurd (both_ways d.closed standing (good.refused was)) | inr not_so ↦ not_so ] in
    let old : accepted_of d ≡ drop 3 d.taken = ap (λ b. drop 3 (if b then take (length d.taken - 1) d.taken else d.taken)) accepted in
    let size : length (d.taken ++ frame ∷ []) - 1 ≡ length d.taken = let long = length-append d.taken (frame ∷ []) in omega arith in
    let whole : take (length (d.taken ++ frame ∷ []) - 1) (d.taken ++ frame ∷ []) ≡ d.taken = ap (λ n. take n (d.taken ++ frame ∷ [])) size
    ∙ take-append_seam d.taken (frame ∷ []) in
    let items : items_taken (refused_in frame d) ≡ items_taken d =
    ap (λ (l : List Received). filter_map received_item (drop 3 l)) whole ∙ ap (filter_map received_item) (sym old) in
    record {
      sound = sound-same d (refused_in frame d) good.sound items refl refl (λ c. refl);
      refused = λ h. refl;
    }

-- an item that is applied leaves the opening disk
pub base-applying : (asked : Protocol) (place : ℕ) (d : SecondaryConnection) (block : ℕ) → (applying asked place d).base block ≡ d.base block
base-applying asked place d block = go (slice_get (items_taken d) place)
  where
    go : (v : Option StreamItem) → (applied_with v asked place d).base block ≡ d.base block
    go None = refl
    go (Some item) = refl

-- a pending item is applied whose epoch has its turn
pub good-applying : (asked : Protocol) (place : ℕ) (d : SecondaryConnection) → is_pending_at d place ≡ true → has_earlier d place ≡ false → IsGood d
    → IsGood (applying asked place d)
good-applying asked place d waiting none good = go (slice_get (items_taken d) place) refl
  where
    start : Started d place good.sound
    start = starting d place good.sound waiting none

    go : (v : Option StreamItem) → slice_get (items_taken d) place ≡ v → IsGood (applied_with v asked place d)
    go None is = good
    go (Some item) is = record {
      sound = sound-applying d _ place (below (length (contents_of item))) good.sound start
          (λ n offset at. subst (λ (i : StreamItem). offset < length (contents_of i)) (same-at (items_taken d) place item start.item is start.there)
          (pick-below (length (contents_of item)) n offset at)) refl refl (inl (refl, refl));
      refused = good.refused;
    }

-- the disk fails at such an item, and the end closes
pub good-failing : (place : ℕ) (offsets : List ℕ) (d : SecondaryConnection) → is_pending_at d place ≡ true → has_earlier d place ≡ false → IsGood d
    → IsGood (failing place offsets d)
good-failing place offsets d waiting none good = record {
  sound = sound-applying d (failing place offsets d) place (reached place offsets d) good.sound start (reached-inside place offsets d start.item start.there)
      refl (fault-applied place offsets d) (inr (refl, dropped d place offsets));
  refused = λ h. refl;
}
  where
    start : Started d place good.sound
    start = starting d place good.sound waiting none
