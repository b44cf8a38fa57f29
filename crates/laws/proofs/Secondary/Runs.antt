-- A secondary by itself, over every list of its events: its parts are closed and its disks follow one another.
use Rattle.std.proofs.Common.{ℕ, zero, suc, ◌≡◌, Bool, true, false, cond, not, List, [], ◌∷◌, ◌++◌, length, Option, Some, None, Ok, Err, refl, sym}
use Rattle.std.proofs.Common.{subst, ◌==◌, nat_lt}
use Rattle.std.proofs.lemmas.Bool.{not-false}
use Rattle.blocks.specs.declared.refusal.Refusal.{Refusal}
use Rattle.blocks.specs.declared.outcome.What.{What}
use Rattle.blocks.specs.declared.outcome.Reply.{Reply}
use Rattle.blocks.specs.declared.settings.Settings.{Settings}
use Rattle.blocks.specs.declared.settings.Protocol.{Protocol}
use Rattle.blocks.specs.declared.settings.Protocol.TheVariants as protocol
use Rattle.blocks.specs.declared.tuple.Tuple.{Tuple}
use Rattle.model.specs.Contents.{BlockMap}
use Rattle.model.specs.Stream.{StreamItem, WriteItem}
use Rattle.model.specs.Frames.{Packet, DataFrame, RsDataReplyFrame, BarrierFrame, ProtocolFrame, UuidsFrame, SizesFrame, SyncUuidFrame, RecvAckFrame}
use Rattle.model.specs.Frames.{WriteAckFrame, RsWriteAckFrame, BarrierAckFrame, Received, naming}
use Rattle.model.specs.Refusals.{Test, first_refusal, done_with}
use Rattle.model.specs.Secondary.{SecondaryConnection, SecondaryHistory, secondary_opening, no_secondary_connection, secondary_connection}
use Rattle.model.specs.Secondary.{with_secondary_connection, items_taken, secondary_map}
use Rattle.model.specs.SecondarySteps.{answering, succeeding_secondary, tested_secondary, open_secondary_tests, opened_secondary, open_secondary, Checked}
use Rattle.model.specs.SecondarySteps.{checking_hello, checking_item, checking, adopting, receiving, take_item, receive, peer_tests, is_pending_at, has_earlier}
use Rattle.model.specs.SecondarySteps.{applying, peer, failing, peer_fault, ack_out_tests, answering_with, ack_out, close_secondary}
use Rattle.model.specs.Acknowledgements.{same_protocol}
use Rattle.blocks.specs.declared.outcome.Reply.TheVariants as reply
use Rattle.blocks.specs.declared.refusal.Refusal.TheVariants.{NotConnected, UnknownJob, EpochOpen}
use Rattle.blocks.specs.declared.outcome.What.TheVariants as what
use Rattle.model.specs.LocalRuns.{SecondaryEvent, OpensToo, Receives, Applies, FailsToApply, Acknowledges, ClosesToo, secondary_after, secondary_run}
use Rattle.model.specs.Theorems.{secondary_at}
use Rattle.laws.specs.Statements.{SecondaryHoldsEarlierEpochs}
use Rattle.laws.proofs.Secondary.Sound.{sound-same}
use Rattle.laws.proofs.Lists.Each.{Each, each-get, each-append, each-change}
use Rattle.laws.proofs.Lists.Tests.{test-passed}
use Rattle.laws.proofs.Secondary.Chained.{AreChained, chained-append, chained-change, chained-next, chained-first, last-disk}
use Rattle.laws.proofs.Secondary.Good.{IsGood, good-due, good-answering, base-answering, good-new, good-taking, good-refusing, base-applying, good-applying}
use Rattle.laws.proofs.Secondary.Good.{good-failing}
use Rattle.laws.proofs.Rules.Memory.{receive-has}
use Rattle.laws.proofs.Rules.RefusedFrames.{refused_end, refused_in, item-has, refused-last-too}

-- What every step of a secondary keeps: its connections are good, and its disks follow one another.
pub record IsKept (h : SecondaryHistory) : Type 0 where
  pub good : Each IsGood h.connections
  pub chained : AreChained h.opening_map h.connections

-- Tests.

-- a step that its tests refuse leaves the history
pub tested-keeps : (P : SecondaryHistory → Type 0) (h : SecondaryHistory) (tests : List Test) (done : Unit {0} → Reply × SecondaryHistory) → P h
    → (first_refusal tests ≡ None → P (done tt).1) → P (tested_secondary h tests done).1
tested-keeps P h tests done same new = go (first_refusal tests) refl
  where
    go : (v : Option Refusal) → first_refusal tests ≡ v
        → P (elim v as (λ _. Reply × SecondaryHistory) [ Some refusal ↦ (reply.Refused refusal, h) | None ↦ done tt ]).1
    go (Some refusal) is = same
    go None is = new is

-- A change of the last connection that keeps it good keeps the history.
kept-change : (f : SecondaryConnection → SecondaryConnection) (h : SecondaryHistory) → IsKept h
    → ((d : SecondaryConnection) (block : ℕ) → (f d).base block ≡ d.base block)
    → (IsGood (secondary_connection h) → IsGood (f (secondary_connection h))) → IsKept (with_secondary_connection f h)
kept-change f h kept base good = record {
  good = each-change IsGood f (no_secondary_connection h) h.connections kept.good good;
  chained = chained-change f base h.opening_map h.connections kept.chained;
}

kept-succeeding : (done : What) (h : SecondaryHistory) → IsKept h → IsKept (succeeding_secondary done h).1
kept-succeeding done h kept = kept-change answering h kept base-answering (good-answering (secondary_connection h))

-- Open.

kept-open : (unseen : ℕ) (h : SecondaryHistory) → IsKept h → IsKept (open_secondary unseen h).1
kept-open unseen h kept = tested-keeps IsKept h (open_secondary_tests h) (λ _. succeeding_secondary what.Nothing (opened_secondary unseen h)) kept
    (λ passed. kept-succeeding what.Nothing (opened_secondary unseen h) (record {
      good = each-append IsGood h.connections _ kept.good (good-new _ (secondary_map h) h.tuple);
      chained = chained-append h.opening_map h.connections _ kept.chained (λ block. last-disk (no_secondary_connection h) h.connections block);
    }))

-- The checks keep the history, but for the tuple and the acknowledgements due.

kept-adopting : (tuple : Tuple) (consistent : Bool) (h : SecondaryHistory) → IsKept h → IsKept (adopting tuple consistent h)
kept-adopting tuple consistent h kept = record { good = kept.good; chained = kept.chained }

kept-receiving : (place : ℕ) (item : StreamItem) (h : SecondaryHistory) → IsKept h → IsKept (receiving place item h)
kept-receiving place item h kept = go h.settings.protocol
  where
    go : (asked : Protocol) → IsKept
        (elim asked as (λ _. SecondaryHistory)
        [ protocol.A ↦ h | protocol.B ↦ with_secondary_connection (λ c. record c { due = c.due ++ RecvAckFrame (naming place item) ∷ [] }) h | protocol.C ↦ h ])
    go protocol.A = kept
    go protocol.B =
        kept-change (λ c. record c { due = c.due ++ RecvAckFrame (naming place item) ∷ [] }) h kept (λ d block. refl)
        (λ good. good-due (secondary_connection h) ((secondary_connection h).due ++ RecvAckFrame (naming place item) ∷ []) good)
    go protocol.C = kept

kept-if : (good : Bool) (done : What) (h : SecondaryHistory) (refusal : Refusal) (result : What × SecondaryHistory) → IsKept h
    → cond good (Ok (done, h)) (Err refusal) ≡ Ok result → IsKept result.1
kept-if true done h refusal result kept is = let same : h ≡ result.1 = cc in subst IsKept same kept
kept-if false done h refusal result kept is = absurd (cc)

kept-hello : (n : ℕ) (packet : Packet) (h : SecondaryHistory) (result : What × SecondaryHistory) → IsKept h → checking_hello n packet h ≡ Ok result
    → IsKept result.1
kept-hello zero (DataFrame write at) h result kept is = absurd (cc)
kept-hello zero (RsDataReplyFrame block contents at) h result kept is = absurd (cc)
kept-hello zero (BarrierFrame number) h result kept is = absurd (cc)
kept-hello zero (ProtocolFrame asked) h result kept is = kept-if (same_protocol asked h.settings.protocol) _ h _ result kept is
kept-hello zero (UuidsFrame tuple) h result kept is = absurd (cc)
kept-hello zero (SizesFrame blocks) h result kept is = absurd (cc)
kept-hello zero (SyncUuidFrame word) h result kept is = absurd (cc)
kept-hello zero (RecvAckFrame ack) h result kept is = absurd (cc)
kept-hello zero (WriteAckFrame ack) h result kept is = absurd (cc)
kept-hello zero (RsWriteAckFrame ack) h result kept is = absurd (cc)
kept-hello zero (BarrierAckFrame number size) h result kept is = absurd (cc)
kept-hello (suc zero) (DataFrame write at) h result kept is = absurd (cc)
kept-hello (suc zero) (RsDataReplyFrame block contents at) h result kept is = absurd (cc)
kept-hello (suc zero) (BarrierFrame number) h result kept is = absurd (cc)
kept-hello (suc zero) (ProtocolFrame asked) h result kept is = absurd (cc)
kept-hello (suc zero) (UuidsFrame tuple) h result kept is = absurd (cc)
kept-hello (suc zero) (SizesFrame blocks) h result kept is = kept-if (blocks == h.settings.blocks) _ h _ result kept is
kept-hello (suc zero) (SyncUuidFrame word) h result kept is = absurd (cc)
kept-hello (suc zero) (RecvAckFrame ack) h result kept is = absurd (cc)
kept-hello (suc zero) (WriteAckFrame ack) h result kept is = absurd (cc)
kept-hello (suc zero) (RsWriteAckFrame ack) h result kept is = absurd (cc)
kept-hello (suc zero) (BarrierAckFrame number size) h result kept is = absurd (cc)
kept-hello (suc (suc n)) (DataFrame write at) h result kept is = absurd (cc)
kept-hello (suc (suc n)) (RsDataReplyFrame block contents at) h result kept is = absurd (cc)
kept-hello (suc (suc n)) (BarrierFrame number) h result kept is = absurd (cc)
kept-hello (suc (suc n)) (ProtocolFrame asked) h result kept is = absurd (cc)
kept-hello (suc (suc n)) (UuidsFrame tuple) h result kept is = let same : h ≡ result.1 = cc in subst IsKept same kept
kept-hello (suc (suc n)) (SizesFrame blocks) h result kept is = absurd (cc)
kept-hello (suc (suc n)) (SyncUuidFrame word) h result kept is = absurd (cc)
kept-hello (suc (suc n)) (RecvAckFrame ack) h result kept is = absurd (cc)
kept-hello (suc (suc n)) (WriteAckFrame ack) h result kept is = absurd (cc)
kept-hello (suc (suc n)) (RsWriteAckFrame ack) h result kept is = absurd (cc)
kept-hello (suc (suc n)) (BarrierAckFrame number size) h result kept is = absurd (cc)

kept-item : (packet : Packet) (place : ℕ) (c : SecondaryConnection) (h : SecondaryHistory) (result : What × SecondaryHistory) → IsKept h
    → checking_item packet place c h ≡ Ok result → IsKept result.1
kept-item (DataFrame write at) place c h result kept is = kept-if _ _ (receiving place (WriteItem write) h) _ result
    (kept-receiving place (WriteItem write) h kept) is
kept-item (RsDataReplyFrame block contents at) place c h result kept is = kept-if _ _ h _ result kept is
kept-item (BarrierFrame number) place c h result kept is = kept-if _ _ h _ result kept is
kept-item (ProtocolFrame asked) place c h result kept is = absurd (cc)
kept-item (UuidsFrame tuple) place c h result kept is = kept-if _ _ (adopting tuple true h) _ result (kept-adopting tuple true h kept) is
kept-item (SizesFrame blocks) place c h result kept is = absurd (cc)
kept-item (SyncUuidFrame word) place c h result kept is = kept-if _ _ (adopting (record h.tuple { current = word }) false h) _ result
    (kept-adopting (record h.tuple { current = word }) false h kept) is
kept-item (RecvAckFrame ack) place c h result kept is = absurd (cc)
kept-item (WriteAckFrame ack) place c h result kept is = absurd (cc)
kept-item (RsWriteAckFrame ack) place c h result kept is = absurd (cc)
kept-item (BarrierAckFrame number size) place c h result kept is = absurd (cc)

kept-checking : (frame : Received) (c : SecondaryConnection) (h : SecondaryHistory) (result : What × SecondaryHistory) → IsKept h
    → checking frame c h ≡ Ok result
    → IsKept result.1
kept-checking (Err fault) c h result kept is = absurd (cc)
kept-checking (Ok packet) c h result kept is = go (nat_lt (length c.taken) 3) is
  where
    go : (early : Bool) → elim early as
        (λ _. Checked) [ true ↦ checking_hello (length c.taken) packet h | false ↦ checking_item packet (length (items_taken c)) c h ] ≡ Ok result
        → IsKept result.1
    go true is = kept-hello (length c.taken) packet h result kept is
    go false is = kept-item packet (length (items_taken c)) c h result kept is

kept-take : (frame : Received) (h : SecondaryHistory) → (secondary_connection h).closed ≡ false → IsKept h → IsKept (take_item frame h).1
kept-take frame h standing kept = item-has (λ r. IsKept r.1) (λ v. checking frame (secondary_connection h) taken ≡ v) frame h refl
    (λ done is. kept-succeeding done.0 done.1 (kept-checking frame (secondary_connection h) _ done kept-taken is)) (λ refusal is. record {
      good = subst (Each IsGood) (sym (refused-last-too frame h))
          (each-change IsGood (refused_in frame) (no_secondary_connection h) h.connections kept.good (good-refusing frame (secondary_connection h) standing));
      chained = chained-change refused_end (λ d block. refl) h.opening_map _ kept-taken.chained;
    })
  where
    taken : SecondaryHistory
    taken = with_secondary_connection (λ c. record c { taken = c.taken ++ frame ∷ [] }) h

    kept-taken : IsKept taken
    kept-taken = kept-change (λ c. record c { taken = c.taken ++ frame ∷ [] }) h kept (λ d block. refl) (good-taking frame (secondary_connection h) standing)

kept-receive : (frame : Option Received) (out_of_memory : Bool) (h : SecondaryHistory) → IsKept h → IsKept (receive frame out_of_memory h).1
kept-receive frame out_of_memory h kept =
    receive-has (λ r. IsKept r.1) frame out_of_memory h (λ refusal other. kept) (λ taken is standing. kept-take taken h standing kept)

-- The disk.

kept-peer : (place : ℕ) (h : SecondaryHistory) → IsKept h → IsKept (peer place h).1
kept-peer place h kept = tested-keeps IsKept h (peer_tests h place)
    (λ _. succeeding_secondary what.Nothing (with_secondary_connection (applying h.settings.protocol place) h)) kept (λ passed.
    let one = test-passed (not (is_pending_at (secondary_connection h) place)) UnknownJob ((has_earlier (secondary_connection h) place, EpochOpen) ∷ [])
    passed in
    let two = test-passed (has_earlier (secondary_connection h) place) EpochOpen [] one.1 in
    kept-succeeding what.Nothing (with_secondary_connection (applying h.settings.protocol place) h)
    (kept-change (applying h.settings.protocol place) h kept (base-applying h.settings.protocol place)
    (good-applying h.settings.protocol place (secondary_connection h) (not-false (is_pending_at (secondary_connection h) place) one.0) two.0)))

kept-fault : (place : ℕ) (offsets : List ℕ) (h : SecondaryHistory) → IsKept h → IsKept (peer_fault place offsets h).1
kept-fault place offsets h kept = tested-keeps IsKept h (peer_tests h place)
    (λ _. (reply.Ok (done_with what.Nothing), with_secondary_connection (failing place offsets) h))
    kept (λ passed.
    let one = test-passed (not (is_pending_at (secondary_connection h) place)) UnknownJob ((has_earlier (secondary_connection h) place, EpochOpen) ∷ [])
    passed in
    let two = test-passed (has_earlier (secondary_connection h) place) EpochOpen [] one.1 in
    kept-change (failing place offsets) h kept (λ d block. refl)
    (good-failing place offsets (secondary_connection h) (not-false (is_pending_at (secondary_connection h) place) one.0) two.0))

-- Pushing and closing.

kept-push : (room out_of_memory : Bool) (h : SecondaryHistory) → IsKept h → IsKept (ack_out room out_of_memory h).1
kept-push room out_of_memory h kept = tested-keeps IsKept h (ack_out_tests h room out_of_memory)
    (λ _. (reply.Ok (done_with (answering_with h)), with_secondary_connection (λ c. record c { pushed = suc c.pushed }) h)) kept (λ passed.
    kept-change (λ c. record c { pushed = suc c.pushed }) h kept (λ d block. refl)
    (λ good. record {
      sound = sound-same (secondary_connection h) (record (secondary_connection h) { pushed = suc (secondary_connection h).pushed }) good.sound refl refl refl
          (λ c. c);
      refused = good.refused;
    }))

kept-close : (h : SecondaryHistory) → IsKept h → IsKept (close_secondary h).1
kept-close h kept = tested-keeps IsKept h (((secondary_connection h).closed, NotConnected) ∷ [])
    (λ _. (reply.Ok (done_with what.Nothing), with_secondary_connection (λ c. record c { closed = true }) h)) kept (λ passed.
    kept-change (λ c. record c { closed = true }) h kept (λ d block. refl)
    (λ good. record {
      sound = sound-same (secondary_connection h) (record (secondary_connection h) { closed = true }) good.sound refl refl refl (λ c. refl);
      refused = λ r. refl;
    }))

-- Every step keeps it, and so does every run.

-- every step keeps it
pub kept-after : (event : SecondaryEvent) (h : SecondaryHistory) → IsKept h → IsKept (secondary_after event h)
kept-after (OpensToo unseen) h kept = kept-open unseen h kept
kept-after (Receives frame out_of_memory) h kept = kept-receive frame out_of_memory h kept
kept-after (Applies place) h kept = kept-peer place h kept
kept-after (FailsToApply place offsets) h kept = kept-fault place offsets h kept
kept-after (Acknowledges room out_of_memory) h kept = kept-push room out_of_memory h kept
kept-after ClosesToo h kept = kept-close h kept

-- every run keeps it
pub kept-run : (events : List SecondaryEvent) (h : SecondaryHistory) → IsKept h → IsKept (secondary_run events h)
kept-run [] h kept = kept
kept-run (event ∷ events) h kept = kept-run events (secondary_after event h) (kept-after event h kept)

-- it holds at the opening
pub kept-opening : (settings : Settings) (disk : BlockMap) (tuple : Tuple) → IsKept (secondary_opening settings disk tuple)
kept-opening settings disk tuple = record { good = tt; chained = tt }

-- In the words of the headline.
pub holds_earlier_epochs : SecondaryHoldsEarlierEpochs
holds_earlier_epochs o events =
    let h : SecondaryHistory = secondary_run events (secondary_at o) in
    let kept = kept-run events (secondary_at o) (kept-opening o.peer_settings o.peer o.peer_tuple) in
    record {
      closed_at = λ k d at.
          let sound = (each-get IsGood h.connections k d kept.good at).sound in
          (sound.epoch, record { before = sound.before; after = sound.after });
      taken = λ k place offset d at inside. (each-get IsGood h.connections k d kept.good at).sound.named place offset inside;
      goes_on = λ k block d e at next. chained-next h.opening_map h.connections k d e kept.chained at next block;
      begins = λ block d at. chained-first h.opening_map h.connections d kept.chained at block;
    }
