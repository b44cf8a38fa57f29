-- Taking a frame, whatever frame it is.
use Rattle.std.proofs.Common.{ℕ, suc, ◌≡◌, ◌+◌, ◌-◌, ◌<◌, inl, inr, Bool, true, false, cond, ◌&&◌, ◌||◌, List, [], ◌∷◌, ◌++◌, length, map, filter, Option, Some}
use Rattle.std.proofs.Common.{None, Result, Ok, Err, refl, sym, ◌∙◌, ap, subst, arith, ◌==◌, nat_lt, nat_le, ◌≤◌}
use Rattle.std.specs.Prelude.{is_none, option_map, if◌then◌else◌}
use Rattle.std.proofs.lemmas.Bool.{and_parts, ltb-true, leb-true}
use Rattle.std.proofs.lemmas.List.{append-nil}
use Rattle.blocks.specs.declared.tuple.Tuple.{Tuple}
use Rattle.blocks.specs.declared.settings.Settings.{Settings}
use Rattle.blocks.specs.declared.settings.Protocol.{Protocol}
use Rattle.blocks.specs.declared.refusal.Refusal.{Refusal}
use Rattle.blocks.specs.declared.refusal.Refusal.TheVariants.{NotConnected, NothingThere}
use Rattle.blocks.specs.declared.outcome.Done.{Done}
use Rattle.blocks.specs.declared.outcome.Reply.{Reply}
use Rattle.blocks.specs.declared.outcome.Reply.TheVariants as reply
use Rattle.blocks.specs.declared.outcome.What.TheVariants as what
use Rattle.blocks.specs.declared.command.Command.TheVariants as command
use Rattle.model.specs.Contents.{Write, is_range, extent_of}
use Rattle.model.specs.Stream.{StreamItem, WriteItem, ResyncItem, BarrierItem, SyncUuidItem, UuidsItem, last_epoch, has_blocks, placed, barriers_in}
use Rattle.model.specs.Frames.{Packet, DataFrame, RsDataReplyFrame, BarrierFrame, ProtocolFrame, UuidsFrame, SizesFrame, SyncUuidFrame, RecvAckFrame}
use Rattle.model.specs.Frames.{WriteAckFrame, RsWriteAckFrame, BarrierAckFrame, Received}
use Rattle.model.specs.Refusals.{done_with}
use Rattle.model.specs.Primary.{last_of, change_last}
use Rattle.model.specs.Secondary.{SecondaryConnection, SecondaryHistory, no_secondary_connection, secondary_connection, items_taken, is_pending, pending}
use Rattle.model.specs.Secondary.{received_item, with_secondary_connection}
use Rattle.model.specs.SecondarySteps.{Checked}
use Rattle.model.specs.SecondarySteps as step
use Rattle.laws.proofs.Lists.Last.{last-change}
use Rattle.laws.proofs.Rules.BarrierAnswers.{AnswerNone, none-answer}
use Rattle.laws.proofs.Secondary.Good.{items-refusing}
use Rattle.laws.proofs.Secondary.Moves.{framed}
use Rattle.laws.proofs.Secondary.Tuples.{taken-item}
use Rattle.peerdisk.specs.Pending.{Pending}
use Rattle.secondary_protocol.specs.Core.{Intake, EndState, SecondaryState, Judged, judging, judging_hello, judging_item, hearing, owing, receipt, and_item}
use Rattle.secondary_protocol.specs.Core.{waiting, is_apart, follows, answering, taking, take_frame, take_at, receive_tests}
use Rattle.secondary_protocol.specs.Leaves.{Leaves, LeavesLast, LeavesEnd, EndLeft, FailedLeft, intake_of, pending_in}
use Rattle.secondary_protocol.specs.Steps.{ReceivesAgree, Agrees}
use Rattle.secondary_protocol.proofs.Answering.{answering-open, left-answering}
use Rattle.secondary_protocol.proofs.Counted.{same-count}
use Rattle.secondary_protocol.proofs.Ends.{end-takes, end-barrier, hello-goes-on}
use Rattle.secondary_protocol.proofs.Intakes.{apart-by-blocks, intake-write, intake-resync, intake-barrier, intake-start, intake-end}
use Rattle.secondary_protocol.proofs.Items.{last-item, receipt-other, receiving-is, receiving-rest}
use Rattle.secondary_protocol.proofs.Judged.{SameJudged, hello-same, early-items, last-same}
use Rattle.secondary_protocol.proofs.Tested.{tested-agrees, passed, end-closed, end-there, secondary-connection-of, secondary-connection-with, open-some}
use Rattle.secondary_protocol.proofs.Tested.{open-whole, length-map}
use Rattle.std.proofs.Common.{drop}
use Rattle.laws.proofs.Rules.Memory.{receive-tests-by}
use Rattle.blocks.specs.declared.outcome.What.{What}
use Rattle.laws.proofs.Rules.RefusedFrames.{refused_in, refused_by_too, refused-last-too, item-has}
use Rattle.secondary_protocol.specs.Leaves.{highest_in}
use Rattle.laws.proofs.Rules.TakenItems.{apart-is, checked-alike, placed_by, placed-alike, above-highest, write-may, barrier_by, start_by, start-first, end_by}

-- What follows.

-- an open end acknowledges what it can, and a closed one nothing
pub leaves-follows : (s : SecondaryState) (h : SecondaryHistory) → Leaves s h → Leaves (follows s) (with_secondary_connection step.answering h)
leaves-follows s h left = record {
  settings = left.settings;
  tuple = left.tuple;
  consistent = left.consistent;
  last = elim (last-change step.answering (no_secondary_connection h) (no_secondary_connection (with_secondary_connection step.answering h)) h.connections) [
    | inl none ↦
        let same : secondary_connection (with_secondary_connection step.answering h) ≡ secondary_connection h =
        ap (λ (l : List SecondaryConnection). last_of (no_secondary_connection h) (change_last step.answering l)) none
        ∙ sym (ap (last_of (no_secondary_connection h)) none) in
        let shut : (secondary_connection h).closed ≡ true = ap (λ (l : List SecondaryConnection). (last_of (no_secondary_connection h) l).closed) none in
        let still : step.answering (secondary_connection h) ≡ secondary_connection h =
        ap (λ b. elim b as (λ _. SecondaryConnection) [
          | true ↦ d
          | false ↦ record d { due = d.due ++ map (step.barrier_answer d) (step.barriers_to_answer d) }
        ]) shut in
        subst (LeavesLast h.settings.blocks (follows s)) (still ∙ sym same) (go s.end refl left.last.end)
    | inr is ↦ subst (LeavesLast h.settings.blocks (follows s)) (sym is) (go s.end refl left.last.end)
  ];
}
  where
    d : SecondaryConnection
    d = secondary_connection h

    go : (v : Option EndState) → s.end ≡ v → EndLeft v (secondary_connection h)
        → LeavesLast h.settings.blocks (follows s) (step.answering (secondary_connection h))
    go None is shut = subst (LeavesLast h.settings.blocks (follows s))
        (sym (ap (λ b. elim b as (λ _. SecondaryConnection)
        [ true ↦ d | false ↦ record d { due = d.due ++ map (step.barrier_answer d) (step.barriers_to_answer d) } ])
        shut)) (record {
          number = left.last.number;
          intake = left.last.intake;
          named = left.last.named;
          pending = left.last.pending;
          applied = left.last.applied;
          failed = left.last.failed;
          end = subst (λ (v : Option EndState). EndLeft (option_map (answering s.pending) v) (secondary_connection h)) (sym is) shut;
        })
    go (Some e) is there =
        let whole = open-whole s.failed (secondary_connection h) left.last.failed there.is_open in
        let there_after : LeavesEnd (answering s.pending e) (step.answering (secondary_connection h)) =
        left-answering e (secondary_connection h) s.pending whole.1 left.last.pending there in
        let opens = answering-open (secondary_connection h) there.is_open in
        let after : LeavesEnd (answering s.pending e) (record d { due = d.due ++ map (step.barrier_answer d) (step.barriers_to_answer d) }) =
        subst (LeavesEnd (answering s.pending e)) opens there_after in
        subst (LeavesLast h.settings.blocks (follows s)) (sym opens) (record {
          number = left.last.number;
          intake = left.last.intake;
          named = left.last.named;
          pending = left.last.pending;
          applied = left.last.applied;
          failed = subst (λ (v : Option ℕ). FailedLeft v (record d { due = d.due ++ map (step.barrier_answer d) (step.barriers_to_answer d) }))
              (sym whole.0) whole.1;
          end = subst (λ (v : Option EndState). EndLeft (option_map (answering s.pending) v)
              (record d { due = d.due ++ map (step.barrier_answer d) (step.barriers_to_answer d) })) (sym is) after;
        })

-- Judging.

module _ (frame : Received) (s : SecondaryState) (h : SecondaryHistory) (e : EndState) (is : s.end ≡ Some e) (left : Leaves s h)
    (there : LeavesEnd e (secondary_connection h)) where
  abbrev d : SecondaryConnection
  d = secondary_connection h

  -- the frame counts as taken
  abbrev taken : SecondaryHistory
  taken = with_secondary_connection (framed frame) h

  some : h.connections ≡ [] → ⊥
  some = open-some h there.is_open

  framed-is : secondary_connection (with_secondary_connection (framed frame) h) ≡ framed frame (secondary_connection h)
  framed-is = secondary-connection-with (framed frame) h some

  -- the state that has heard one more
  abbrev heard : SecondaryState
  heard = record s { end = Some (hearing e) }

  whole : (s.failed ≡ None) × ((secondary_connection h).gone ≡ [])
  whole = open-whole s.failed (secondary_connection h) left.last.failed there.is_open

  -- the end that has taken a frame without an item
  end-same : items_taken (framed frame (secondary_connection h)) ≡ items_taken (secondary_connection h)
      → LeavesEnd (hearing e) (framed frame (secondary_connection h))
  end-same items = end-takes e (secondary_connection h) frame [] [] e.due (secondary_connection h).due there (items
      ∙ sym (append-nil (items_taken (secondary_connection h)))) refl
      (sym (append-nil e.due)) (sym (append-nil (secondary_connection h).due)) none-answer

  -- a frame of the hello leaves the items
  hello-left : length (secondary_connection h).taken < 3 → Leaves (record s { end = Some (hearing e) }) (with_secondary_connection (framed frame) h)
  hello-left early =
      let items = early-items frame (secondary_connection h) there.plain early in
      let end = end-same items in
      record {
        settings = left.settings;
        tuple = left.tuple;
        consistent = left.consistent;
        last = subst (LeavesLast h.settings.blocks (record s { end = Some (hearing e) })) (sym framed-is)
            (last-same h.settings.blocks s heard (hearing e) d (framed frame d) left.last items refl whole.1 whole.1 refl end refl refl refl refl whole.0 refl);
      }

  -- An item of the stream, whose frame brings it, and these acknowledgements due.
  module _ (late : nat_lt (length (secondary_connection h).taken) 3 ≡ false) (item : StreamItem) (brings : received_item frame ≡ Some item) where
    abbrev items : List StreamItem
    items = items_taken (secondary_connection h)

    -- the connection with the item, and what is due
    abbrev with_due : List Packet → SecondaryConnection
    with_due due = record (framed frame (secondary_connection h)) { due = due }

    abbrev place_of : Pending StreamItem
    place_of = record { place = length (items_taken (secondary_connection h)); epoch = last_epoch (items_taken (secondary_connection h)); item = item }

    item-there : items_taken (framed frame (secondary_connection h)) ≡ items_taken (secondary_connection h) ++ item ∷ []
    item-there = taken-item frame item (secondary_connection h) there.plain late brings

    -- what an item leaves
    item-left : (waits : Bool) (t : SecondaryState) (later : SecondaryHistory) (due : List Packet) (end : EndState) → later.settings ≡ h.settings
        → has_blocks item ≡ waits → secondary_connection later ≡ with_due due → LeavesEnd end (with_due due)
        → t.settings ≡ later.settings → t.tuple ≡ later.tuple → t.consistent ≡ later.consistent → t.number ≡ s.number
        → t.intake ≡ intake_of h.settings.blocks (items_taken (secondary_connection h) ++ item ∷ [])
        → t.pending ≡ s.pending ++ cond waits (place_of ∷ []) [] → t.items_applied ≡ s.items_applied → t.failed ≡ s.failed → t.end ≡ Some end → Leaves t later
    item-left waits t later due end same_settings blocks form left_end settings tuple consistent number intake waiting_is count failed end_is = record {
      settings = settings;
      tuple = tuple;
      consistent = consistent;
      last = subst (λ (x : Settings). LeavesLast x.blocks t (secondary_connection later)) (sym same_settings)
          (subst (LeavesLast h.settings.blocks t) (sym form)
          (last-item h.settings.blocks s t end d (with_due due) item waits left.last there.is_open item-there refl refl refl left_end blocks number intake
          waiting_is count failed end_is));
    }

    -- what is kept, by what the items are
    kept : and_item item s.intake ≡ and_item item (intake_of h.settings.blocks (items_taken (secondary_connection h)))
    kept = ap (and_item item) left.last.intake

    -- what waits, with the item
    waits-there : waiting item (record s { end = Some (hearing e) }) ≡ s.pending ++ cond true (place_of ∷ []) []
    waits-there = λ k. s.pending ++ record { place = (left.last.intake k).places; epoch = suc (left.last.intake k).barriers; item = item } ∷ []

    -- the end that has taken the item, where it ends no epoch
    end-there-with : (packets : List Packet) → barriers_in (item ∷ []) ≡ 0 → AnswerNone packets
        → LeavesEnd (record (hearing e) { due = e.due ++ packets }) (with_due ((secondary_connection h).due ++ packets))
    end-there-with packets plain other = end-takes e (secondary_connection h) frame (item ∷ []) packets (e.due ++ packets)
        ((secondary_connection h).due ++ packets) there item-there plain
        refl refl other

  -- a range lies inside the device
  inside : (first count : ℕ) → is_range h.settings first count ≡ true → first + count ≤ h.settings.blocks
  inside first count range =
      let fits = (and_parts ((nat_lt 0 count && nat_le count 32) && nat_le (first + count) h.settings.blocks) (extent_of first == extent_of (first + count - 1))
      range).0 in
      leb-true (first + count) h.settings.blocks (and_parts (nat_lt 0 count && nat_le count 32) (nat_le (first + count) h.settings.blocks) fits).1

  -- A write.
  data-same : (write : Write) (at : ℕ) → nat_lt (length (secondary_connection h).taken) 3 ≡ false → received_item frame ≡ Some (WriteItem write)
      → SameJudged (judging_item (DataFrame write at) (hearing e) (record s { end = Some (hearing e) }))
      (step.checking_item (DataFrame write at) (length (items_taken (secondary_connection h))) (secondary_connection h)
      (with_secondary_connection (framed frame) h))
  data-same write at late brings =
      let item : StreamItem = WriteItem write in
      let all : List StreamItem = items_taken (secondary_connection h) in
      let count : ℕ = length write.contents in
      let asked : Protocol = h.settings.protocol in
      let i : Intake = intake_of h.settings.blocks all in
      let tests : Settings → Intake → Bool =
      λ x j. placed_by at j.places x write.first count ((j.places == 0) || nat_lt j.highest write.number) (is_apart write.first count j) in
      let one : tests s.settings s.intake ≡ tests h.settings i = λ k. tests (left.settings k) (left.last.intake k) in
      let two = placed-alike at (length all) h.settings write.first count _ (is_apart write.first count i) _ _
      (sym (above-highest highest_in refl (λ x items. refl) write.number all))
      (λ range. sym (apart-is item all ∙ apart-by-blocks h.settings.blocks all item (inside write.first count range))) in
      checked-alike SameJudged _ Err _ _ (one ∙ two) _ (step.receiving (length all) item taken) (λ good. (
        λ k. what.Frame command.Data (Some (left.last.intake k).places),
        let may = write-may h.settings write at (length all) all good in
            let packets : List Packet = receipt asked (length all) item in
            let rest = receiving-rest (length all) item taken in
            let form : secondary_connection (step.receiving (length all) item taken) ≡ record (framed frame (secondary_connection h)) {
              due =
                  (secondary_connection h).due ++ packets;
            } =
            receiving-is asked (length all) item taken refl (λ none. some (unchanged h.connections none))
            ∙ ap (λ (c : SecondaryConnection). record c { due = c.due ++ packets }) framed-is in
            let end_is : Some (owing (receipt s.settings.protocol s.intake.places item) (hearing e)) ≡ Some (record (hearing e) { due = e.due ++ packets }) =
            λ k. Some (record (hearing e) { due = e.due ++ receipt (left.settings k).protocol (left.last.intake k).places item }) in
            item-left late item brings true _ (step.receiving (length all) item taken) ((secondary_connection h).due ++ packets)
            (record (hearing e) { due = e.due ++ packets }) rest.0 (blocks-of may.here.range) form
            (end-there-with late item brings packets refl (receipt-other asked (length all) item)) (left.settings ∙ sym rest.0) (left.tuple
            ∙ sym rest.1) (left.consistent ∙ sym rest.2) refl
            (kept late item brings ∙ sym (intake-write h.settings.blocks all write may.above)) (waits-there late item brings) refl refl end_is,
      )) (λ refusal. refl)
    where
      unchanged : (l : List SecondaryConnection) → change_last (framed frame) l ≡ [] → l ≡ []
      unchanged [] none = refl
      unchanged (x ∷ []) none = absurd (cc)
      unchanged (x ∷ y ∷ l) none = absurd (cc)

      blocks-of : is_range h.settings write.first (length write.contents) ≡ true → has_blocks (WriteItem write) ≡ true
      blocks-of range =
          let n : ℕ = length write.contents in
          (and_parts (nat_lt 0 n) (nat_le n 32)
          (and_parts (nat_lt 0 n && nat_le n 32) (nat_le (write.first + n) h.settings.blocks)
          (and_parts ((nat_lt 0 n && nat_le n 32) && nat_le (write.first + n) h.settings.blocks) (extent_of write.first == extent_of (write.first + n - 1))
          range).0).0).0

  -- an item that makes nothing due when it is taken
  plain-left : (item : StreamItem) (waits : Bool) (t : SecondaryState) (later : SecondaryHistory) → nat_lt (length (secondary_connection h).taken) 3 ≡ false
      → received_item frame ≡ Some item → has_blocks item ≡ waits → barriers_in (item ∷ []) ≡ 0
      → later.connections ≡ change_last (framed frame) h.connections → later.settings ≡ h.settings → t.settings ≡ later.settings → t.tuple ≡ later.tuple
      → t.consistent ≡ later.consistent → t.number ≡ s.number
      → t.intake ≡ intake_of h.settings.blocks (items_taken (secondary_connection h) ++ item ∷ [])
      → t.pending ≡ s.pending ++ cond waits
      (record { place = length (items_taken (secondary_connection h)); epoch = last_epoch (items_taken (secondary_connection h)); item = item } ∷ []) []
      → t.items_applied ≡ s.items_applied → t.failed ≡ s.failed → t.end ≡ Some (hearing e) → Leaves t later
  plain-left item waits t later late brings blocks plain connections same_settings settings tuple consistent number intake waiting_is count failed end_is =
      let none : (secondary_connection h).due ++ [] ≡ (secondary_connection h).due = append-nil (secondary_connection h).due in
      let none_e : e.due ++ [] ≡ e.due = append-nil e.due in
      let end : LeavesEnd (hearing e) (framed frame (secondary_connection h)) =
      end-takes e (secondary_connection h) frame (item ∷ []) [] e.due (secondary_connection h).due there
      (taken-item frame item (secondary_connection h) there.plain late brings) plain (sym none_e)
      (sym none) none-answer in
      item-left late item brings waits t later (secondary_connection h).due (hearing e) same_settings blocks
      (secondary-connection-of (framed frame) h later connections some) end settings
      tuple consistent number intake waiting_is count failed end_is

  -- A block of a resync.
  resync-same : (block : ℕ) (contents : List ℕ) (at : ℕ) → nat_lt (length (secondary_connection h).taken) 3 ≡ false
      → received_item frame ≡ Some (ResyncItem block contents)
      → SameJudged (judging_item (RsDataReplyFrame block contents at) (hearing e) (record s { end = Some (hearing e) }))
      (step.checking_item (RsDataReplyFrame block contents at) (length (items_taken (secondary_connection h))) (secondary_connection h)
      (with_secondary_connection (framed frame) h))
  resync-same block contents at late brings =
      let item : StreamItem = ResyncItem block contents in
      let all : List StreamItem = items_taken (secondary_connection h) in
      let i : Intake = intake_of h.settings.blocks all in
      let tests : Settings → Intake → Bool = λ x j. placed_by at j.places x block 1 j.resync (is_apart block 1 j) in
      let one : tests s.settings s.intake ≡ tests h.settings i = λ k. tests (left.settings k) (left.last.intake k) in
      let two = placed-alike at (length all) h.settings block 1 i.resync (is_apart block 1 i) i.resync _ refl
      (λ range. sym (apart-is item all ∙ apart-by-blocks h.settings.blocks all item (inside block 1 range))) in
      checked-alike SameJudged _ Err _ _ (one ∙ two) _ taken (λ good. (
        λ k. what.Frame command.RsDataReply (Some (left.last.intake k).places),
        plain-left item true _ taken late brings refl refl refl refl left.settings left.tuple left.consistent refl (kept late item brings
            ∙ sym (intake-resync h.settings.blocks all block contents)) (waits-there late item brings) refl refl refl,
      )) (λ refusal. refl)

  -- The end of an epoch.
  barrier-same : (number : ℕ) → nat_lt (length (secondary_connection h).taken) 3 ≡ false → received_item frame ≡ Some (BarrierItem number)
      → SameJudged (judging_item (BarrierFrame number) (hearing e) (record s { end = Some (hearing e) }))
      (step.checking_item (BarrierFrame number) (length (items_taken (secondary_connection h))) (secondary_connection h)
      (with_secondary_connection (framed frame) h))
  barrier-same number late brings =
      let item : StreamItem = BarrierItem number in
      let all : List StreamItem = items_taken (secondary_connection h) in
      let i : Intake = intake_of h.settings.blocks all in
      let tests : Intake → Bool = λ j. barrier_by number j.places (suc j.barriers) in
      let end : LeavesEnd (record (hearing e) { sizes = e.sizes ++ i.writes ∷ [] }) (framed frame (secondary_connection h)) =
      end-barrier e (secondary_connection h) frame number there
      (taken-item frame item (secondary_connection h) there.plain late brings) in
      let end_is : Some (record (hearing e) { sizes = e.sizes ++ s.intake.writes ∷ [] }) ≡ Some (record (hearing e) { sizes = e.sizes ++ i.writes ∷ [] }) =
      λ k. Some (record (hearing e) { sizes = e.sizes ++ (left.last.intake k).writes ∷ [] }) in
      checked-alike SameJudged _ Err _ _ (λ k. tests (left.last.intake k)) _ taken (λ good. (
        λ k. what.Frame command.Barrier (Some (left.last.intake k).places),
        item-left late item brings false _ taken (secondary_connection h).due (record (hearing e) { sizes = e.sizes ++ i.writes ∷ [] }) refl refl framed-is end
            left.settings
            left.tuple left.consistent refl (kept late item brings ∙ sym (intake-barrier h.settings.blocks all number))
            (sym (append-nil s.pending)) refl refl end_is,
      )) (λ refusal. refl)

  -- A resync begins.
  start-same : (word : ℕ) → nat_lt (length (secondary_connection h).taken) 3 ≡ false → received_item frame ≡ Some (SyncUuidItem word)
      → SameJudged (judging_item (SyncUuidFrame word) (hearing e) (record s { end = Some (hearing e) }))
      (step.checking_item (SyncUuidFrame word) (length (items_taken (secondary_connection h))) (secondary_connection h)
      (with_secondary_connection (framed frame) h))
  start-same word late brings =
      let item : StreamItem = SyncUuidItem word in
      let all : List StreamItem = items_taken (secondary_connection h) in
      let i : Intake = intake_of h.settings.blocks all in
      let tests : Intake → Bool = λ j. start_by word j.places in
      checked-alike SameJudged _ Err _ _ (λ k. tests (left.last.intake k)) _ (step.adopting (record h.tuple { current = word }) false taken) (λ good. (
        λ k. what.Frame command.SyncUuid (Some (left.last.intake k).places),
        let first = start-first word (length all) good in
            plain-left item false _ (step.adopting (record h.tuple { current = word }) false taken) late brings refl refl refl refl left.settings
            (ap (λ (x : Tuple). record x { current = word }) left.tuple) refl refl
            (kept late item brings ∙ sym (intake-start h.settings.blocks all word first)) (sym (append-nil s.pending)) refl refl refl,
      )) (λ refusal. refl)

  -- It ends.
  end-same-too : (tuple : Tuple) → nat_lt (length (secondary_connection h).taken) 3 ≡ false → received_item frame ≡ Some (UuidsItem tuple)
      → SameJudged (judging_item (UuidsFrame tuple) (hearing e) (record s { end = Some (hearing e) }))
      (step.checking_item (UuidsFrame tuple) (length (items_taken (secondary_connection h))) (secondary_connection h)
      (with_secondary_connection (framed frame) h))
  end-same-too tuple late brings =
      let item : StreamItem = UuidsItem tuple in
      let all : List StreamItem = items_taken (secondary_connection h) in
      let tests : Intake → Bool = λ j. end_by j.places j.resync in
      checked-alike SameJudged _ Err _ _ (λ k. tests (left.last.intake k)) _ (step.adopting tuple true taken) (λ good. (
        λ k. what.Frame command.Uuids (Some (left.last.intake k).places),
        plain-left item false _ (step.adopting tuple true taken) late brings refl refl refl refl left.settings refl refl refl (kept late item brings
            ∙ sym (intake-end h.settings.blocks all tuple)) (sym (append-nil s.pending)) refl refl refl,
      )) (λ refusal. refl)

  -- The hello is over, and a packet is judged as an item; one that is none is refused.
  late-same : (packet : Packet) → frame ≡ Ok packet → nat_lt (length (secondary_connection h).taken) 3 ≡ false
      → SameJudged (judging_item packet (hearing e) (record s { end = Some (hearing e) }))
      (step.checking_item packet (length (items_taken (secondary_connection h))) (secondary_connection h) (with_secondary_connection (framed frame) h))
  late-same (DataFrame write at) is_frame late = data-same write at late (ap received_item is_frame)
  late-same (RsDataReplyFrame block contents at) is_frame late = resync-same block contents at late (ap received_item is_frame)
  late-same (BarrierFrame number) is_frame late = barrier-same number late (ap received_item is_frame)
  late-same (ProtocolFrame asked) is_frame late = refl
  late-same (UuidsFrame tuple) is_frame late = end-same-too tuple late (ap received_item is_frame)
  late-same (SizesFrame blocks) is_frame late = refl
  late-same (SyncUuidFrame word) is_frame late = start-same word late (ap received_item is_frame)
  late-same (RecvAckFrame ack) is_frame late = refl
  late-same (WriteAckFrame ack) is_frame late = refl
  late-same (RsWriteAckFrame ack) is_frame late = refl
  late-same (BarrierAckFrame number size) is_frame late = refl

  -- a packet, or a fault in its place
  judged-same : (r : Received) → frame ≡ r → SameJudged (judging r e s) (step.checking r (secondary_connection h) (with_secondary_connection (framed frame) h))
  judged-same (Err fault) is_frame = refl
  judged-same (Ok packet) is_frame = go (nat_lt (length (secondary_connection h).taken) 3) refl
    where
      go : (b : Bool) → nat_lt (length (secondary_connection h).taken) 3 ≡ b
          → SameJudged (judging (Ok packet) e s) (step.checking (Ok packet) (secondary_connection h) (with_secondary_connection (framed frame) h))
      go true early =
          let less : length (secondary_connection h).taken < 3 = ltb-true (length (secondary_connection h).taken) 3 early in
          let goes_on : nat_lt e.hello_received 3 ≡ true = hello-goes-on e (secondary_connection h) there.hello_received ∙ early in
          let count : length (secondary_connection h).taken ≡ e.hello_received = omega (arith, there.hello_received) in
          subst (λ (b : Bool). SameJudged (if b then judging_hello e.hello_received packet heard
          else judging_item packet (hearing e) heard) (step.checking (Ok packet) (secondary_connection h) taken)) (sym goes_on)
          (subst (λ (b : Bool). SameJudged (judging_hello e.hello_received packet heard)
          (elim b as (λ _. Checked) [
            | true ↦ step.checking_hello (length (secondary_connection h).taken) packet taken
            | false ↦ step.checking_item packet
                (length (items_taken (secondary_connection h))) (secondary_connection h) taken
          ])) (sym early)
          (subst (λ (n : ℕ). SameJudged (judging_hello e.hello_received packet heard) (step.checking_hello n packet taken)) (sym count)
          (hello-same e.hello_received packet heard taken (hello-left less))))
      go false late =
          let over : nat_lt e.hello_received 3 ≡ false = hello-goes-on e (secondary_connection h) there.hello_received ∙ late in
          subst (λ (b : Bool). SameJudged (if b then judging_hello e.hello_received packet heard
          else judging_item packet (hearing e) heard) (step.checking (Ok packet) (secondary_connection h) taken)) (sym over)
          (subst (λ (b : Bool). SameJudged (judging_item packet (hearing e) heard)
          (elim b as (λ _. Checked) [
            | true ↦ step.checking_hello (length (secondary_connection h).taken) packet taken
            | false ↦ step.checking_item packet
                (length (items_taken (secondary_connection h))) (secondary_connection h) taken
          ])) (sym late)
          (late-same packet is_frame late))

  -- a protocol error closes the end
  refused-left : Leaves (record s { end = None }) (refused_by_too frame h)
  refused-left =
      let items : items_taken (refused_in frame (secondary_connection h)) ≡ items_taken (secondary_connection h) =
      items-refusing frame (secondary_connection h) there.plain in
      let form : secondary_connection (refused_by_too frame h) ≡ refused_in frame (secondary_connection h) =
      secondary-connection-of (refused_in frame) h (refused_by_too frame h)
      (refused-last-too frame h) some in
      record {
        settings = left.settings;
        tuple = left.tuple;
        consistent = left.consistent;
        last = subst (LeavesLast h.settings.blocks (record s { end = None })) (sym form) (record {
          number = left.last.number;
          intake = left.last.intake ∙ ap (intake_of h.settings.blocks) (sym items);
          named = λ place offset inside. subst (λ (l : List StreamItem). place < length l) (sym items) (left.last.named place offset inside);
          pending = left.last.pending ∙ ap (λ (l : List StreamItem). map (pending_in l) (filter (is_pending (secondary_connection h)) (placed l))) (sym items);
          applied = left.last.applied ∙ sym (same-count (refused_in frame (secondary_connection h)) (secondary_connection h) items refl refl);
          failed = subst (λ (v : Option ℕ). FailedLeft v (refused_in frame (secondary_connection h))) (sym whole.0) whole.1;
          end = refl;
        });
      }

-- A frame is taken at an open end.
take-agrees : (frame : Received) (s : SecondaryState) (h : SecondaryHistory) (e : EndState) → s.end ≡ Some e → Leaves s h → LeavesEnd e (secondary_connection h)
    → Agrees (λ done. done) (take_frame frame e s) (step.take_item frame h)
take-agrees frame s h e is left there = item-has (Agrees (λ done. done) (take_frame frame e s)) (SameJudged (judging frame e s)) frame h
    (judged-same frame s h e is left there frame refl) (accepted (judging frame e s)) (refused (judging frame e s))
  where
    accepted : (j : Judged) (done : What × SecondaryHistory) → SameJudged j (Ok done)
        → Agrees (λ done. done) (taking j s) (step.succeeding_secondary done.0 done.1)
    accepted (Ok judged) done same = record { reply = ap (λ n. reply.Ok (done_with n)) same.0; leaves = leaves-follows judged.1 done.1 same.1 }
    accepted (Err refusal) done same = absurd same

    refused : (j : Judged) (other : Refusal) → SameJudged j (Err other) → Agrees (λ done. done) (taking j s) (reply.Refused other, refused_by_too frame h)
    refused (Ok judged) other same = absurd same
    refused (Err refusal) other same = record { reply = ap reply.Refused same; leaves = refused-left frame s h e is left there }

-- The next frame is taken, whatever it is.
pub receives-agree : ReceivesAgree
receives-agree frame out_of_memory s h left =
    tested-agrees (λ done. done) s h
    (receive_tests frame out_of_memory s) (step.receive_tests h frame out_of_memory)
    (λ _. elim frame as (λ _. Result Done Refusal × SecondaryState) [ None ↦ (Err NothingThere, s) | Some taken ↦ take_at taken s.end s ])
    (λ _. elim frame as (λ _. Reply × SecondaryHistory) [ None ↦ (reply.Refused NothingThere, h) | Some taken ↦ step.take_item taken h ])
    (receive-tests-by h frame out_of_memory (is_none s.end) s.settings.pending (length s.pending) (end-closed s.end (secondary_connection h) left.last.end)
    (λ k. (left.settings k).pending) count)
    left (λ none.
    let is_established = (passed (secondary_connection h).closed NotConnected (drop 1 (step.receive_tests h frame out_of_memory)) none).0 in
    go frame (end-there s.end (end-closed s.end (secondary_connection h) left.last.end ∙ is_established)))
  where
    count : length s.pending ≡ length (pending (secondary_connection h))
    count = ap length left.last.pending ∙ length-map (pending_in (items_taken (secondary_connection h))) (pending (secondary_connection h))

    go : (f : Option Received) → ((e : EndState) × (s.end ≡ Some e))
        → Agrees (λ done. done) (elim f as (λ _. Result Done Refusal × SecondaryState) [ None ↦ (Err NothingThere, s) | Some taken ↦ take_at taken s.end s ])
        (elim f as (λ _. Reply × SecondaryHistory) [ None ↦ (reply.Refused NothingThere, h) | Some taken ↦ step.take_item taken h ])
    go None e = record { reply = refl; leaves = left }
    go (Some taken) e =
        subst (λ (v : Option EndState). Agrees (λ done. done) (take_at taken v s) (step.take_item taken h)) (sym e.1)
        (take-agrees taken s h e.0 e.1 left (subst (λ (v : Option EndState). EndLeft v (secondary_connection h)) e.1 left.last.end))
