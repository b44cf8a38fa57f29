-- An open connection that takes a frame, or applies an item, stays orderly.
use Rattle.std.proofs.Common.{ℕ, zero, suc, ◌≡◌, ◌-◌, ◌≤◌, ◌<◌, ◌⊎◌, inl, inr, Bool, true, false, not, ◌&&◌, List, [], ◌∷◌, ◌++◌, length, take, drop, Option}
use Rattle.std.proofs.Common.{Some, None, slice_get, Ok, refl, sym, ◌∙◌, ap, subst, arith, ◌==◌, nat_lt}
use Rattle.std.specs.Prelude.{filter_map, if◌then◌else◌}
use Rattle.std.specs.List.{list_any, cons_option}
use Rattle.std.proofs.lemmas.Bool.{cases_Bool, both_ways, and_parts, or_cases, or_right, or_left, not-true, eqb-true, eq-eqb, ltb-true, ltb-false}
use Rattle.std.proofs.lemmas.Bool.{false_from_ne_true}
use Rattle.std.proofs.lemmas.List.{append-nil, drop-append-le}
use Rattle.std.proofs.lemmas.List.Elements.{filter_map-append}
use Rattle.std.proofs.lemmas.List.Folds.{list_any-append}
use Rattle.std.proofs.lemmas.Option.{slice_get_within}
use Rattle.blocks.specs.declared.settings.Protocol.{Protocol}
use Rattle.blocks.specs.declared.settings.Protocol.TheVariants as protocol
use Rattle.model.specs.Contents.{Write}
use Rattle.model.specs.Stream.{StreamItem, WriteItem, ResyncItem, BarrierItem, SyncUuidItem, UuidsItem, Part, is_in, is_whole, has_blocks, below, contents_of}
use Rattle.model.specs.Frames.{Packet, DataFrame, RecvAckFrame, WriteAckFrame, RsWriteAckFrame, Received, naming}
use Rattle.model.specs.Primary.{is_recv_ack, is_write_ack, is_rs_write_ack}
use Rattle.model.specs.Secondary.{SecondaryConnection, items_taken, received_item}
use Rattle.model.specs.SecondarySteps.{is_pending_at, has_earlier, offsets_at, applied_answer, applying, applied_with}
use Rattle.laws.proofs.Lists.Elements.{get-more, get-end, same-at}
use Rattle.laws.proofs.Lists.Picks.{pick-any}
use Rattle.laws.proofs.Streams.Parts.{in-append, in-offsets, whole-has, whole-from}
use Rattle.laws.proofs.Secondary.TrueAnswers.{same-place}
use Rattle.laws.proofs.Secondary.Moves.{framed, receipting}
use Rattle.laws.proofs.Secondary.Sound.{Started, starting}
use Rattle.laws.proofs.Secondary.Good.{IsGood, good-due, good-taking, good-applying}
use Rattle.laws.proofs.Secondary.TrueBarriers.{applied-now}
use Rattle.laws.proofs.Secondary.Fits.{is_said, is_answered_to, FitsReceived, FitsWritten, FitsResynced, Fits, said-grows, answered-grows, same-self}
use Rattle.laws.proofs.Secondary.Orderly.{AllFit, IsOrderly, said-recv, said-write, said-resync, fits-change, none-more, orderly-same, plain}
use Rattle.laws.proofs.Secondary.Tuples.{taken-item}

-- A frame more brings its item at the next place, or none.
takes-one : (frame : Received) (d : SecondaryConnection) → d.refused ≡ false
    → (items_taken (framed frame d) ≡ items_taken d)
    ⊎ ((item : StreamItem) × (received_item frame ≡ Some item) × (items_taken (framed frame d) ≡ items_taken d ++ item ∷ []))
takes-one frame d accepted = elim (cases_Bool (nat_lt (length d.taken) 3)) [
  | inl early ↦ inl (new ∙ (few d.taken (ltb-true (length d.taken) 3 early) ∙ sym old))
  | inr late ↦ behind (received_item frame) refl (ltb-false (length d.taken) 3 late)
]
  where
    old : items_taken d ≡ filter_map received_item (drop 3 d.taken)
    old = ap (λ b. filter_map received_item (drop 3 (if b then take (length d.taken - 1) d.taken else d.taken))) accepted

    new : items_taken (framed frame d) ≡ filter_map received_item (drop 3 (d.taken ++ frame ∷ []))
    new = ap (λ b. filter_map received_item (drop 3 (if b then take (length (d.taken ++ frame ∷ []) - 1) (d.taken ++ frame ∷ []) else (d.taken ++ frame ∷ []))))
        accepted

    few : (taken : List Received) → length taken < 3 → filter_map received_item (drop 3 (taken ++ frame ∷ [])) ≡ filter_map received_item (drop 3 taken)
    few [] less = refl
    few (a ∷ []) less = refl
    few (a ∷ b ∷ []) less = refl
    few (a ∷ b ∷ c ∷ taken) less = absurd (omega arith)

    go : (v : Option StreamItem) → received_item frame ≡ v → items_taken (framed frame d) ≡ items_taken d ++ cons_option v []
        → (items_taken (framed frame d) ≡ items_taken d)
        ⊎ ((item : StreamItem) × (received_item frame ≡ Some item) × (items_taken (framed frame d) ≡ items_taken d ++ item ∷ []))
    go None is all = inl (all ∙ append-nil (items_taken d))
    go (Some item) is all = inr (item, is, all)

    behind : (v : Option StreamItem) → received_item frame ≡ v → 3 ≤ length d.taken
        → (items_taken (framed frame d) ≡ items_taken d)
        ⊎ ((item : StreamItem) × (received_item frame ≡ Some item) × (items_taken (framed frame d) ≡ items_taken d ++ item ∷ []))
    behind v is late = go v is (new
        ∙ (ap (filter_map received_item) (drop-append-le 3 d.taken (frame ∷ []) late) ∙ (filter_map-append received_item (drop 3 d.taken) (frame ∷ [])
        ∙ (ap (λ (l : List StreamItem). l ++ cons_option (received_item frame) []) (sym old)
        ∙ ap (λ (w : Option StreamItem). items_taken d ++ cons_option w []) is))))

-- what is applied was taken
applied-within : (d : SecondaryConnection) → IsGood d → (place : ℕ) (item : StreamItem) → has_blocks item ≡ true → is_whole d.applied place item ≡ true
    → place < length (items_taken d)
applied-within d good place item blocks whole =
    good.sound.within place 0 (whole-has d.applied place 0 item whole (ltb-true 0 (length (contents_of item)) blocks))

-- an item more was taken, which is not applied; a write under B is acknowledged with it
takes-item : (asked : Protocol) (d e : SecondaryConnection) (item : StreamItem) (more : List Packet) → IsOrderly asked d → IsGood e → d.closed ≡ false
    → items_taken e ≡ items_taken d ++ item ∷ [] → e.applied ≡ d.applied
    → e.due ≡ d.due ++ more → AllFit asked e
    → ((write : Write) → item ≡ WriteItem write → asked ≡ protocol.B → is_said (is_recv_ack (naming (length (items_taken d)) (WriteItem write))) e.due ≡ true)
    → IsOrderly asked e
takes-item asked d e item more o good standing taken applied due fits new = record {
  good = good;
  fits = fits;
  received = λ still asks place write at. elim
      (get-more (items_taken d) item place (WriteItem write) (subst (λ (l : List StreamItem). slice_get l place ≡ Some (WriteItem write)) taken at)) [
        | inl old ↦ subst (λ (l : List Packet). is_said (is_recv_ack (naming place (WriteItem write))) l ≡ true) (sym due)
            (said-grows (is_recv_ack (naming place (WriteItem write))) d.due more (o.received standing asks place write old))
        | inr added ↦ subst (λ (n : ℕ). is_said (is_recv_ack (naming n (WriteItem write))) e.due ≡ true) (sym added.0) (new write (sym added.1) asks)
      ];
  applied = λ still place x at blocks whole.
      let was : is_whole d.applied place x ≡ true = subst (λ (p : Part). is_whole p place x ≡ true) applied whole in
      elim (get-more (items_taken d) item place x (subst (λ (l : List StreamItem). slice_get l place ≡ Some x) taken at)) [
        | inl old ↦ subst (λ (l : List Packet). is_answered_to asked l place x ≡ true) (sym due)
            (answered-grows asked d.due more place x (o.applied standing place x old blocks was))
        | inr added ↦ absurd (let within = applied-within d o.good place x blocks was in let end = added.0 in omega arith)
      ];
}

-- A frame is taken that is no write under B.
pub orderly-taking : (asked : Protocol) (frame : Received) (d : SecondaryConnection) → d.closed ≡ false
    → ((write : Write) → received_item frame ≡ Some (WriteItem write) → asked ≡ protocol.B → ⊥) → IsOrderly asked d → IsOrderly asked (framed frame d)
orderly-taking asked frame d standing other o =
    let good = good-taking frame d standing o.good in
    elim (takes-one frame d (plain d o.good standing)) [
      | inl none ↦ record {
        good = good;
        fits = fits-change asked d (framed frame d) [] [] [] o.fits (none ∙ sym (append-nil (items_taken d))) (sym (append-nil d.applied))
            (sym (append-nil d.due)) (none-more asked (framed frame d) d.due);
        received = λ still asks place write at. o.received standing asks place write
            (subst (λ (l : List StreamItem). slice_get l place ≡ Some (WriteItem write)) none at);
        applied = λ still place item at blocks whole. o.applied standing place item (subst (λ (l : List StreamItem). slice_get l place ≡ Some item) none at)
            blocks
            whole;
      }
      | inr one ↦ takes-item asked d (framed frame d) one.0 [] o good standing one.2 refl (sym (append-nil d.due))
          (fits-change asked d (framed frame d) (one.0 ∷ []) [] [] o.fits one.2 (sym (append-nil d.applied)) (sym (append-nil d.due))
          (none-more asked (framed frame d) d.due))
          (λ write is asks. absurd (other write (one.1 ∙ ap (λ (i : StreamItem). Some i) is) asks))
    ]

-- no acknowledgement of a place is due that was not taken
not-received : (asked : Protocol) (d : SecondaryConnection) (write : Write) → AllFit asked d
    → is_said (is_recv_ack (naming (length (items_taken d)) (WriteItem write))) d.due ≡ false
not-received asked d write fits = false_from_ne_true _ (λ said.
    let found = pick-any (λ packet. is_recv_ack (naming (length (items_taken d)) (WriteItem write)) (Ok packet)) d.due said in
    let ack = said-recv (naming (length (items_taken d)) (WriteItem write)) found.1 found.3 in
    let fit : FitsReceived asked (items_taken d) (take found.0 d.due) ack.0 = subst (Fits asked (items_taken d) d.applied (take found.0 d.due)) ack.1
    (fits found.0 found.1 found.2) in
    let within = slice_get_within (items_taken d) ack.0.place (WriteItem fit.write) fit.there in
    let same : length (items_taken d) ≡ ack.0.place = same-place (naming (length (items_taken d)) (WriteItem write)) ack.0 ack.2 in
    omega arith)

-- Under B a write is taken, and acknowledged at once.
pub orderly-receipting : (asked : Protocol) (write : Write) (at : ℕ) (d : SecondaryConnection) → d.closed ≡ false → nat_lt (length d.taken) 3 ≡ false
    → asked ≡ protocol.B
    → IsOrderly asked d
    → IsOrderly asked (receipting (length (items_taken d)) write (framed (Ok (DataFrame write at)) d))
orderly-receipting asked write at d standing late asks o = takes-item asked d e (WriteItem write) (ack ∷ []) o
    (good-due (framed frame d) (d.due ++ ack ∷ []) (good-taking frame d standing o.good)) standing taken refl refl
    (fits-change asked d e (WriteItem write ∷ []) [] (ack ∷ []) o.fits taken (sym (append-nil d.applied)) refl fits)
    (λ other is asked_too. let same : write ≡ other = cc in subst (λ (w : Write). is_said (is_recv_ack (naming place (WriteItem w))) (d.due ++ ack ∷ []) ≡ true)
    same said)
  where
    frame : Received
    frame = Ok (DataFrame write at)

    place : ℕ
    place = length (items_taken d)

    ack : Packet
    ack = RecvAckFrame (naming (length (items_taken d)) (WriteItem write))

    e : SecondaryConnection
    e = receipting (length (items_taken d)) write (framed (Ok (DataFrame write at)) d)

    taken : items_taken (framed (Ok (DataFrame write at)) d) ≡ items_taken d ++ WriteItem write ∷ []
    taken = taken-item (Ok (DataFrame write at)) (WriteItem write) d (plain d o.good standing) late refl

    said : is_said (is_recv_ack (naming (length (items_taken d)) (WriteItem write)))
        (d.due ++ RecvAckFrame (naming (length (items_taken d)) (WriteItem write)) ∷ []) ≡ true
    said =
        let test : Packet → Bool = λ packet. is_recv_ack (naming (length (items_taken d)) (WriteItem write)) (Ok packet) in
        list_any-append test d.due (RecvAckFrame (naming (length (items_taken d)) (WriteItem write)) ∷ [])
        ∙ or_right (list_any test d.due) _ (or_left _ false (same-self (naming (length (items_taken d)) (WriteItem write))))

    fits : (n : ℕ) (packet : Packet) → slice_get (RecvAckFrame (naming (length (items_taken d)) (WriteItem write)) ∷ []) n ≡ Some packet
        → Fits asked (items_taken (framed (Ok (DataFrame write at)) d)) d.applied
        (d.due ++ take n (RecvAckFrame (naming (length (items_taken d)) (WriteItem write)) ∷ [])) packet
    fits zero packet there =
        let same : RecvAckFrame (naming (length (items_taken d)) (WriteItem write)) ≡ packet = cc in
        let fit : FitsReceived asked (items_taken (framed (Ok (DataFrame write at)) d)) (d.due ++ []) (naming (length (items_taken d)) (WriteItem write)) =
        record {
          protocol = asks;
          write = write;
          there = ap (λ (l : List StreamItem). slice_get l (length (items_taken d))) taken ∙ get-end (items_taken d) (WriteItem write);
          names = refl;
          first = ap (is_said (is_recv_ack (naming (length (items_taken d)) (WriteItem write)))) (append-nil d.due) ∙ not-received asked d write o.fits;
        } in
        subst (Fits asked (items_taken (framed (Ok (DataFrame write at)) d)) d.applied (d.due ++ [])) same fit
    fits (suc n) packet there = absurd (cc)

-- Applying an item.

-- an item that was not whole is so where another one is applied only if it was before
whole-elsewhere : (before : Part) (place other : ℕ) (offsets : List ℕ) (item : StreamItem) → (place ≡ other → ⊥)
    → is_whole (before ++ offsets_at place offsets) other item ≡ true → is_whole before other item ≡ true
whole-elsewhere before place other offsets item apart whole = whole-from before other item (λ offset less.
    elim (or_cases (is_in before other offset) (is_in (offsets_at place offsets) other offset) (sym (in-append before (offsets_at place offsets) other offset)
    ∙ whole-has (before ++ offsets_at place offsets) other offset item whole less)) [
      | inl old ↦ old
      | inr new ↦ absurd (apart (in-offsets place offsets other offset new))
    ])

-- no acknowledgement is due of a write that is not applied
not-written : (asked : Protocol) (d : SecondaryConnection) (place : ℕ) (write : Write) → AllFit asked d
    → slice_get (items_taken d) place ≡ Some (WriteItem write)
    → is_whole d.applied place (WriteItem write) ≡ false
    → is_said (is_write_ack (naming place (WriteItem write))) d.due ≡ false
not-written asked d place write fits at unfinished = false_from_ne_true _ (λ said.
    let found = pick-any (λ packet. is_write_ack (naming place (WriteItem write)) (Ok packet)) d.due said in
    let ack = said-write (naming place (WriteItem write)) found.1 found.3 in
    let fit : FitsWritten asked (items_taken d) d.applied (take found.0 d.due) ack.0 = subst (Fits asked (items_taken d) d.applied (take found.0 d.due)) ack.1
    (fits found.0 found.1 found.2) in
    let same : place ≡ ack.0.place = same-place (naming place (WriteItem write)) ack.0 ack.2 in
    let item : WriteItem fit.write ≡ WriteItem write = same-at (items_taken d) place (WriteItem fit.write) (WriteItem write)
    (subst (λ n. slice_get (items_taken d) n ≡ Some (WriteItem fit.write)) (sym same) fit.there) at in
    both_ways (is_whole d.applied place (WriteItem write)) unfinished
    (subst (λ (i : StreamItem). is_whole d.applied place i ≡ true) item (subst (λ n. is_whole d.applied n (WriteItem fit.write) ≡ true) (sym same) fit.whole)))

-- nor of a resync block
not-resynced : (asked : Protocol) (d : SecondaryConnection) (place block : ℕ) (contents : List ℕ) → AllFit asked d
    → slice_get (items_taken d) place ≡ Some (ResyncItem block contents) → is_whole d.applied place (ResyncItem block contents) ≡ false
    → is_said (is_rs_write_ack (naming place (ResyncItem block contents))) d.due ≡ false
not-resynced asked d place block contents fits at unfinished = false_from_ne_true _ (λ said.
    let found = pick-any (λ packet. is_rs_write_ack (naming place (ResyncItem block contents)) (Ok packet)) d.due said in
    let ack = said-resync (naming place (ResyncItem block contents)) found.1 found.3 in
    let fit : FitsResynced (items_taken d) d.applied (take found.0 d.due) ack.0 = subst (Fits asked (items_taken d) d.applied (take found.0 d.due)) ack.1
    (fits found.0 found.1 found.2) in
    let old : StreamItem = ResyncItem fit.block fit.contents in
    let same : place ≡ ack.0.place = same-place (naming place (ResyncItem block contents)) ack.0 ack.2 in
    let item : old ≡ ResyncItem block contents = same-at (items_taken d) place old (ResyncItem block contents)
    (subst (λ n. slice_get (items_taken d) n ≡ Some old) (sym same) fit.there) at in
    both_ways (is_whole d.applied place (ResyncItem block contents)) unfinished
    (subst (λ (i : StreamItem). is_whole d.applied place i ≡ true) item (subst (λ n. is_whole d.applied n old ≡ true) (sym same) fit.whole)))

-- what applying an item answers fits
answer-fits : (asked : Protocol) (d : SecondaryConnection) (place : ℕ) (item : StreamItem) (part : Part) → AllFit asked d
    → slice_get (items_taken d) place ≡ Some item
    → is_whole d.applied place item ≡ false → is_whole part place item ≡ true
    → (n : ℕ) (packet : Packet) → slice_get (applied_answer asked place item) n ≡ Some packet
    → Fits asked (items_taken d) part (d.due ++ take n (applied_answer asked place item)) packet
answer-fits protocol.A d place (WriteItem write) part fits at unfinished whole n packet there = absurd (cc)
answer-fits protocol.B d place (WriteItem write) part fits at unfinished whole n packet there = absurd (cc)
answer-fits protocol.C d place (WriteItem write) part fits at unfinished whole zero packet there =
    let same : WriteAckFrame (naming place (WriteItem write)) ≡ packet = cc in
    let fit : FitsWritten protocol.C (items_taken d) part (d.due ++ []) (naming place (WriteItem write)) = record {
      protocol = refl;
      write = write;
      there = at;
      names = refl;
      whole = whole;
      first = ap (is_said (is_write_ack (naming place (WriteItem write)))) (append-nil d.due) ∙ not-written protocol.C d place write fits at unfinished;
    } in
    subst (Fits protocol.C (items_taken d) part (d.due ++ [])) same fit
answer-fits protocol.C d place (WriteItem write) part fits at unfinished whole (suc n) packet there = absurd (cc)
answer-fits asked d place (ResyncItem block contents) part fits at unfinished whole zero packet there =
    let same : RsWriteAckFrame (naming place (ResyncItem block contents)) ≡ packet = cc in
    let fit : FitsResynced (items_taken d) part (d.due ++ []) (naming place (ResyncItem block contents)) = record {
      block = block;
      contents = contents;
      there = at;
      names = refl;
      whole = whole;
      first = ap (is_said (is_rs_write_ack (naming place (ResyncItem block contents)))) (append-nil d.due)
          ∙ not-resynced asked d place block contents fits at unfinished;
    } in
    subst (Fits asked (items_taken d) part (d.due ++ [])) same fit
answer-fits asked d place (ResyncItem block contents) part fits at unfinished whole (suc n) packet there = absurd (cc)
answer-fits asked d place (BarrierItem epoch) part fits at unfinished whole n packet there = absurd (cc)
answer-fits asked d place (SyncUuidItem word) part fits at unfinished whole n packet there = absurd (cc)
answer-fits asked d place (UuidsItem tuple) part fits at unfinished whole n packet there = absurd (cc)

-- and it is what the protocol asks, where a write under B is acknowledged already
answers-it : (asked : Protocol) (due : List Packet) (place : ℕ) (item : StreamItem)
    → ((write : Write) → item ≡ WriteItem write → asked ≡ protocol.B → is_said (is_recv_ack (naming place (WriteItem write))) due ≡ true)
    → is_answered_to asked (due ++ applied_answer asked place item) place item ≡ true
answers-it protocol.A due place (WriteItem write) before = refl
answers-it protocol.B due place (WriteItem write) before = said-grows (is_recv_ack (naming place (WriteItem write))) due [] (before write refl refl)
answers-it protocol.C due place (WriteItem write) before =
    let test : Packet → Bool = λ packet. is_write_ack (naming place (WriteItem write)) (Ok packet) in
    list_any-append test due (WriteAckFrame (naming place (WriteItem write)) ∷ [])
    ∙ or_right (list_any test due) _ (or_left _ false (same-self (naming place (WriteItem write))))
answers-it asked due place (ResyncItem block contents) before =
    let test : Packet → Bool = λ packet. is_rs_write_ack (naming place (ResyncItem block contents)) (Ok packet) in
    list_any-append test due (RsWriteAckFrame (naming place (ResyncItem block contents)) ∷ [])
    ∙ or_right (list_any test due) _ (or_left _ false (same-self (naming place (ResyncItem block contents))))
answers-it asked due place (BarrierItem epoch) before = refl
answers-it asked due place (SyncUuidItem word) before = refl
answers-it asked due place (UuidsItem tuple) before = refl

-- A pending item is applied whose epoch has its turn.
pub orderly-applying : (asked : Protocol) (place : ℕ) (d : SecondaryConnection) → is_pending_at d place ≡ true → has_earlier d place ≡ false → IsOrderly asked d
    → IsOrderly asked (applying asked place d)
orderly-applying asked place d waiting none o = go (slice_get (items_taken d) place) refl (good-applying asked place d waiting none o.good)
  where
    started : Started d place o.good.sound
    started = starting d place o.good.sound waiting none

    unfinished : is_whole d.applied place (starting d place o.good.sound waiting none).item ≡ false
    unfinished =
        let item : StreamItem = (starting d place o.good.sound waiting none).item in
        not-true (is_whole d.applied place item)
        (and_parts (has_blocks item) (not (is_whole d.applied place item))
        (and_parts (has_blocks item && not (is_whole d.applied place item)) _ (starting d place o.good.sound waiting none).waits).0).1

    go : (v : Option StreamItem) → slice_get (items_taken d) place ≡ v
        → IsGood (applied_with v asked place d)
        → IsOrderly asked (applied_with v asked place d)
    go None is good = o
    go (Some item) is good = due d.closed refl good
      where
        part : Part
        part = offsets_at place (below (length (contents_of item)))

        due : (b : Bool) → d.closed ≡ b
            → IsGood (record d {
              applied = d.applied ++ offsets_at place (below (length (contents_of item)));
              due = elim b as (λ _. List Packet) [ true ↦ d.due | false ↦ d.due ++ applied_answer asked place item ];
            })
            → IsOrderly asked (record d {
              applied = d.applied ++ offsets_at place (below (length (contents_of item)));
              due = elim b as (λ _. List Packet) [ true ↦ d.due | false ↦ d.due ++ applied_answer asked place item ];
            })
        due true shut good = orderly-same asked d (record d { applied = d.applied ++ offsets_at place (below (length (contents_of item))) }) part o good refl
            refl refl (inl shut)
        due false standing good = record {
          good = good;
          fits = fits-change asked d (record d {
            applied = d.applied ++ offsets_at place (below (length (contents_of item)));
            due = d.due ++ applied_answer asked place item;
          }) [] part (applied_answer asked place item) o.fits (sym (append-nil (items_taken d))) refl refl
              (answer-fits asked d place item (d.applied ++ part) o.fits is
              (subst (λ (i : StreamItem). is_whole d.applied place i ≡ false) (same-at (items_taken d) place started.item item started.there is) unfinished)
              (applied-now d.applied place item));
          received = λ still asks other write at. said-grows (is_recv_ack (naming other (WriteItem write))) d.due (applied_answer asked place item)
              (o.received standing asks other write at);
          applied = λ still other x at blocks whole. elim (cases_Bool (place == other)) [
            | inl same ↦
                let here : place ≡ other = eqb-true place other same in
                let there : slice_get (items_taken d) place ≡ Some x = subst (λ n. slice_get (items_taken d) n ≡ Some x) (sym here) at in
                let is_it : item ≡ x = same-at (items_taken d) place item x is there in
                subst (λ n. is_answered_to asked (d.due ++ applied_answer asked place item) n x ≡ true) here
                (subst (λ (i : StreamItem). is_answered_to asked (d.due ++ applied_answer asked place item) place i ≡ true) is_it
                (answers-it asked d.due place item (λ write is_write asks. o.received standing asks place write (is
                ∙ ap (λ (i : StreamItem). Some i) is_write))))
            | inr apart ↦ answered-grows asked d.due (applied_answer asked place item) other x
                (o.applied standing other x at blocks
                (whole-elsewhere d.applied place other (below (length (contents_of item))) x
                (λ same. both_ways (place == other) apart (eq-eqb place other same)) whole))
          ];
        }
