-- A secondary's steps, taken apart: what has to be shown of a property so that it holds after a step.
use Rattle.std.proofs.Common.{ℕ, zero, suc, ◌≡◌, ◌<◌, Bool, true, false, cond, not, ◌&&◌, List, [], ◌∷◌, ◌++◌, length, Option, Some, Ok, Err}
use Rattle.std.proofs.Common.{refl, ap, ◌⊎◌, inl, inr, nat_lt}
use Rattle.std.proofs.lemmas.Bool.{not-false, and_parts}
use Rattle.blocks.specs.declared.refusal.Refusal.{Refusal}
use Rattle.blocks.specs.declared.refusal.Refusal.TheVariants.{NotConnected, UnknownJob, EpochOpen, NotDrained}
use Rattle.blocks.specs.declared.outcome.What.{What}
use Rattle.blocks.specs.declared.outcome.What.TheVariants as what
use Rattle.blocks.specs.declared.outcome.Reply.TheVariants as reply
use Rattle.blocks.specs.declared.settings.Protocol.{Protocol}
use Rattle.blocks.specs.declared.settings.Protocol.TheVariants as protocol
use Rattle.blocks.specs.declared.tuple.Tuple.{Tuple}
use Rattle.model.specs.Contents.{Write}
use Rattle.model.specs.Stream.{StreamItem, WriteItem, ResyncItem, BarrierItem, SyncUuidItem, UuidsItem}
use Rattle.model.specs.Primary.{is_sync_start, is_sync_end, is_resync}
use Rattle.model.specs.Frames.{Packet, DataFrame, ProtocolFrame, UuidsFrame, SizesFrame, SyncUuidFrame, RecvAckFrame, Received}
use Rattle.model.specs.Frames.{naming}
use Rattle.model.specs.Refusals.{done_with}
use Rattle.model.specs.Secondary.{SecondaryConnection, SecondaryHistory, secondary_connection, with_secondary_connection, items_taken, received_item}
use Rattle.model.specs.Secondary.{is_drained, answers_due, is_in_resync}
use Rattle.model.specs.SecondarySteps.{answering, succeeding_secondary, open_secondary_tests, opened_secondary, open_secondary, Checked, checking_hello}
use Rattle.model.specs.SecondarySteps.{checking_item, checking, adopting, receiving, take_item, receive, peer_tests, is_pending_at, has_earlier}
use Rattle.model.specs.SecondarySteps.{applying, peer, failing, peer_fault, ack_out_tests, answering_with, ack_out, close_secondary}
use Rattle.model.specs.LocalRuns.{SecondaryEvent, OpensToo, Receives, Applies, FailsToApply, Acknowledges, ClosesToo, secondary_after}
use Rattle.laws.proofs.Secondary.Runs.{tested-keeps}
use Rattle.laws.proofs.Lists.Tests.{test-passed}
use Rattle.laws.proofs.Rules.Memory.{may-answer, receive-has}
use Rattle.laws.proofs.Rules.RefusedFrames.{refused_by_too, item-has}
use Rattle.std.proofs.Common.{subst}
use Rattle.laws.proofs.Rules.TakenItems.{item-checked}

-- a frame is taken
abbrev pub framed : Received → SecondaryConnection → SecondaryConnection
framed frame c = record c { taken = c.taken ++ frame ∷ [] }

-- the write at this place is acknowledged as received
abbrev pub receipting : ℕ → Write → SecondaryConnection → SecondaryConnection
receipting place write c = record c { due = c.due ++ RecvAckFrame (naming place (WriteItem write)) ∷ [] }

-- one more of the frames due is pushed
abbrev pub pushed_one : SecondaryConnection → SecondaryConnection
pushed_one c = record c { pushed = suc c.pushed }

-- the end closes
abbrev pub closed_end : SecondaryConnection → SecondaryConnection
closed_end c = record c { closed = true }

-- What a frame can lead to that an open end takes: it is accepted, a write of it may be acknowledged at once, a tuple of it
-- may be adopted, or it is refused.
pub record AfterFrame (R : SecondaryHistory → Type 0) (h : SecondaryHistory) (frame : Received) : Type 0 where
  pub accepts : R (with_secondary_connection answering (with_secondary_connection (framed frame) h))
  pub receipts : (write : Write) (at : ℕ) → frame ≡ Ok (DataFrame write at) → nat_lt (length (secondary_connection h).taken) 3 ≡ false
      → R (with_secondary_connection answering
      (with_secondary_connection (receipting (length (items_taken (secondary_connection h))) write) (with_secondary_connection (framed frame) h)))
  pub adopts : (item : StreamItem) (tuple : Tuple) (consistent : Bool) → received_item frame ≡ Some item
      → nat_lt (length (secondary_connection h).taken) 3 ≡ false
      → R (with_secondary_connection answering (adopting tuple consistent (with_secondary_connection (framed frame) h)))
  pub refuses : R (refused_by_too frame h)

-- A frame that is taken as one of the hello, or brings an item that neither begins nor ends a resync; a block of one comes in a
-- resync.
abbrev pub IsPlain : SecondaryHistory → Received → Type 0
IsPlain h frame =
    (nat_lt (length (secondary_connection h).taken) 3 ≡ true)
    ⊎ ((nat_lt (length (secondary_connection h).taken) 3 ≡ false) × ((item : StreamItem) → received_item frame ≡ Some item
    → (is_sync_start item ≡ false) × ((is_sync_end item ≡ false) × (is_resync item ≡ true → is_in_resync (secondary_connection h) ≡ true))))

-- The same in more detail: what kind of frame it is, and which tuple is adopted with which item.
pub record AfterKind (R : SecondaryHistory → Type 0) (h : SecondaryHistory) (frame : Received) : Type 0 where
  pub accepts : IsPlain h frame → R (with_secondary_connection answering (with_secondary_connection (framed frame) h))
  pub receipts : (write : Write) (at : ℕ) → frame ≡ Ok (DataFrame write at) → nat_lt (length (secondary_connection h).taken) 3 ≡ false
      → R (with_secondary_connection answering
      (with_secondary_connection (receipting (length (items_taken (secondary_connection h))) write) (with_secondary_connection (framed frame) h)))
  pub starts : (word : ℕ) → frame ≡ Ok (SyncUuidFrame word) → nat_lt (length (secondary_connection h).taken) 3 ≡ false
      → R (with_secondary_connection answering (adopting (record h.tuple { current = word }) false (with_secondary_connection (framed frame) h)))
  pub ends : (tuple : Tuple) → frame ≡ Ok (UuidsFrame tuple) → nat_lt (length (secondary_connection h).taken) 3 ≡ false
      → R (with_secondary_connection answering (adopting tuple true (with_secondary_connection (framed frame) h)))
  pub refuses : R (refused_by_too frame h)

-- what holds whatever the kind
of-kind : (R : SecondaryHistory → Type 0) (h : SecondaryHistory) (frame : Received) → AfterFrame R h frame → AfterKind R h frame
of-kind R h frame after = record {
  accepts = λ plain. after.accepts;
  receipts = after.receipts;
  starts = λ word is late. after.adopts (SyncUuidItem word) (record h.tuple { current = word }) false (ap received_item is) late;
  ends = λ tuple is late. after.adopts (UuidsItem tuple) tuple true (ap received_item is) late;
  refuses = after.refuses;
}

-- The same before the answers that follow.
abbrev Judged : (SecondaryHistory → Type 0) → Checked → Type 0
Judged R (Ok done) = R (with_secondary_connection answering done.1)
Judged R (Err refusal) = Unit {0}

judged-if : (R : SecondaryHistory → Type 0) (good : Bool) (done : What) (h : SecondaryHistory) (refusal : Refusal)
    → (good ≡ true → R (with_secondary_connection answering h))
    → Judged R (cond good (Ok (done, h)) (Err refusal))
judged-if R true done h refusal r = r refl
judged-if R false done h refusal r = tt

judged-hello : (R : SecondaryHistory → Type 0) (n : ℕ) (packet : Packet) (h : SecondaryHistory) → R (with_secondary_connection answering h)
    → Judged R (checking_hello n packet h)
judged-hello R zero (ProtocolFrame asked) h r = judged-if R _ _ h _ (λ good. r)
judged-hello R (suc zero) (SizesFrame blocks) h r = judged-if R _ _ h _ (λ good. r)
judged-hello R (suc (suc n)) (UuidsFrame tuple) h r = r
judged-hello R n packet h r = tt

-- an item that neither begins nor ends a resync
plain-item : (h : SecondaryHistory) (packet : Packet) (item : StreamItem) → nat_lt (length (secondary_connection h).taken) 3 ≡ false
    → received_item (Ok packet) ≡ Some item
    → is_sync_start item ≡ false → is_sync_end item ≡ false → (is_resync item ≡ true → is_in_resync (secondary_connection h) ≡ true) → IsPlain h (Ok packet)
plain-item h packet item late brings start end resync = inr (
  late,
  λ other is. subst (λ (x : StreamItem). (is_sync_start x ≡ false)
      × ((is_sync_end x ≡ false) × (is_resync x ≡ true → is_in_resync (secondary_connection h) ≡ true)))
      (let same : item ≡ other = cc in same) (start, (end, resync)),
)

judged-write : (R : SecondaryHistory → Type 0) (h : SecondaryHistory) (packet : Packet) (write : Write) (at : ℕ) → packet ≡ DataFrame write at
    → nat_lt (length (secondary_connection h).taken) 3 ≡ false → AfterKind R h (Ok packet)
    → R (with_secondary_connection answering
    (receiving (length (items_taken (secondary_connection h))) (WriteItem write) (with_secondary_connection (framed (Ok packet)) h)))
judged-write R h packet write at is late after = go h.settings.protocol
  where
    plain : IsPlain h (Ok packet)
    plain = plain-item h packet (WriteItem write) late (ap (λ (p : Packet). received_item (Ok p)) is) refl refl (λ block. absurd (cc))

    go : (asked : Protocol) → R (with_secondary_connection answering (elim asked as (λ _. SecondaryHistory) [
      | protocol.A ↦ with_secondary_connection (framed (Ok packet)) h
      | protocol.B ↦ with_secondary_connection (receipting (length (items_taken (secondary_connection h))) write)
          (with_secondary_connection (framed (Ok packet)) h)
      | protocol.C ↦ with_secondary_connection (framed (Ok packet)) h
    ]))
    go protocol.A = after.accepts plain
    go protocol.B = after.receipts write at (ap Ok is) late
    go protocol.C = after.accepts plain

judged-item : (R : SecondaryHistory → Type 0) (h : SecondaryHistory) (packet : Packet) → nat_lt (length (secondary_connection h).taken) 3 ≡ false
    → AfterKind R h (Ok packet)
    → Judged R (checking_item packet (length (items_taken (secondary_connection h))) (secondary_connection h)
    (with_secondary_connection (framed (Ok packet)) h))
judged-item R h packet late after = item-checked (Judged R) packet (length (items_taken (secondary_connection h))) (secondary_connection h)
    (with_secondary_connection (framed (Ok packet)) h)
    (λ write at is may. judged-write R h packet write at is late after)
    (λ block contents at is may. after.accepts (plain-item h packet (ResyncItem block contents) late (ap (λ (p : Packet). received_item (Ok p)) is) refl refl
    (λ resync. may.resync)))
    (λ number is. after.accepts (plain-item h packet (BarrierItem number) late (ap (λ (p : Packet). received_item (Ok p)) is) refl refl
    (λ resync. absurd (cc))))
    (λ word is. after.starts word (ap Ok is) late) (λ tuple is. after.ends tuple (ap Ok is) late) (λ refusal. tt)

judged : (R : SecondaryHistory → Type 0) (h : SecondaryHistory) (frame : Received) → AfterKind R h frame
    → Judged R (checking frame (secondary_connection h) (with_secondary_connection (framed frame) h))
judged R h (Err fault) after = tt
judged R h (Ok packet) after = go (nat_lt (length (secondary_connection h).taken) 3) refl
  where
    go : (early : Bool) → nat_lt (length (secondary_connection h).taken) 3 ≡ early → Judged R (elim early as (λ _. Checked) [
      | true ↦ checking_hello (length (secondary_connection h).taken) packet (with_secondary_connection (framed (Ok packet)) h)
      | false ↦ checking_item packet (length (items_taken (secondary_connection h))) (secondary_connection h) (with_secondary_connection (framed (Ok packet)) h)
    ])
    go true is = judged-hello R (length (secondary_connection h).taken) packet (with_secondary_connection (framed (Ok packet)) h) (after.accepts (inl is))
    go false is = judged-item R h packet is after

-- What holds before and after a frame was taken.
pub after-kind : (R : SecondaryHistory → Type 0) (h : SecondaryHistory) (frame : Received) → AfterKind R h frame → R (take_item frame h).1
after-kind R h frame after = item-has (λ r. R r.1) (Judged R) frame h (judged R h frame after) (λ done j. j) (λ refusal j. after.refuses)

-- the same in less detail
pub after-take : (R : SecondaryHistory → Type 0) (h : SecondaryHistory) (frame : Received) → AfterFrame R h frame → R (take_item frame h).1
after-take R h frame after = after-kind R h frame (of-kind R h frame after)

-- After a step that takes the next frame, if there is one.
pub receive-kind : (R : SecondaryHistory → Type 0) (h : SecondaryHistory) (frame : Option Received) (out_of_memory : Bool) → R h
    → ((taken : Received) → frame ≡ Some taken → (secondary_connection h).closed ≡ false → AfterKind R h taken) → R (receive frame out_of_memory h).1
receive-kind R h frame out_of_memory same takes =
    receive-has (λ r. R r.1) frame out_of_memory h (λ refusal other. same) (λ taken is standing. after-kind R h taken (takes taken is standing))

-- the same in less detail
pub after-receive : (R : SecondaryHistory → Type 0) (h : SecondaryHistory) (frame : Option Received) (out_of_memory : Bool) → R h
    → ((taken : Received) → frame ≡ Some taken → (secondary_connection h).closed ≡ false → AfterFrame R h taken) → R (receive frame out_of_memory h).1
after-receive R h frame out_of_memory same takes = receive-kind R h frame out_of_memory same (λ taken is standing. of-kind R h taken (takes taken is standing))

-- After an opening.
pub after-open : (R : SecondaryHistory → Type 0) (unseen : ℕ) (h : SecondaryHistory) → R h
    → ((secondary_connection h).closed ≡ true → R (with_secondary_connection answering (opened_secondary unseen h))) → R (open_secondary unseen h).1
after-open R unseen h same opens = tested-keeps R h (open_secondary_tests h) (λ _. succeeding_secondary what.Nothing (opened_secondary unseen h)) same
    (λ passed.
    let one = test-passed (not ((secondary_connection h).closed && is_drained h)) NotDrained [] passed in
    opens (and_parts (secondary_connection h).closed (is_drained h) (not-false ((secondary_connection h).closed && is_drained h) one.0)).0)

-- After an item was applied.
pub after-peer : (R : SecondaryHistory → Type 0) (h : SecondaryHistory) (place : ℕ) → R h
    → (is_pending_at (secondary_connection h) place ≡ true → has_earlier (secondary_connection h) place ≡ false
    → R (with_secondary_connection answering (with_secondary_connection (applying h.settings.protocol place) h))) → R (peer place h).1
after-peer R h place same applies = tested-keeps R h (peer_tests h place)
    (λ _. succeeding_secondary what.Nothing (with_secondary_connection (applying h.settings.protocol place) h)) same (λ passed.
    let one = test-passed (not (is_pending_at (secondary_connection h) place)) UnknownJob ((has_earlier (secondary_connection h) place, EpochOpen) ∷ [])
    passed in
    let two = test-passed (has_earlier (secondary_connection h) place) EpochOpen [] one.1 in
    applies (not-false (is_pending_at (secondary_connection h) place) one.0) two.0)

-- After an item failed.
pub after-fault : (R : SecondaryHistory → Type 0) (h : SecondaryHistory) (place : ℕ) (offsets : List ℕ) → R h
    → (is_pending_at (secondary_connection h) place ≡ true → has_earlier (secondary_connection h) place ≡ false
    → R (with_secondary_connection (failing place offsets) h))
    → R (peer_fault place offsets h).1
after-fault R h place offsets same fails = tested-keeps R h (peer_tests h place)
    (λ _. (reply.Ok (done_with what.Nothing), with_secondary_connection (failing place offsets) h)) same (λ passed.
    let one = test-passed (not (is_pending_at (secondary_connection h) place)) UnknownJob ((has_earlier (secondary_connection h) place, EpochOpen) ∷ [])
    passed in
    let two = test-passed (has_earlier (secondary_connection h) place) EpochOpen [] one.1 in
    fails (not-false (is_pending_at (secondary_connection h) place) one.0) two.0)

-- After an acknowledgement was pushed: one was due.
pub after-push : (R : SecondaryHistory → Type 0) (h : SecondaryHistory) (room out_of_memory : Bool) → R h
    → ((secondary_connection h).closed ≡ false → (secondary_connection h).pushed < length (answers_due h.settings (secondary_connection h))
    → R (with_secondary_connection pushed_one h)) → R (ack_out room out_of_memory h).1
after-push R h room out_of_memory same pushes = tested-keeps R h (ack_out_tests h room out_of_memory)
    (λ _. (reply.Ok (done_with (answering_with h)), with_secondary_connection pushed_one h)) same (λ passed.
    let may = may-answer h room out_of_memory passed in pushes may.is_open may.owes)

-- After a close.
pub after-close : (R : SecondaryHistory → Type 0) (h : SecondaryHistory) → R h
    → ((secondary_connection h).closed ≡ false → R (with_secondary_connection closed_end h))
    → R (close_secondary h).1
after-close R h same closes = tested-keeps R h (((secondary_connection h).closed, NotConnected) ∷ [])
    (λ _. (reply.Ok (done_with what.Nothing), with_secondary_connection closed_end h))
    same (λ passed.
    closes (test-passed (secondary_connection h).closed NotConnected [] passed).0)

-- What has to hold of each effect, and where nothing was done, so that `R` holds after every event.
pub record After (R : SecondaryHistory → Type 0) (h : SecondaryHistory) : Type 0 where
  pub same : R h
  pub opens : (unseen : ℕ) → (secondary_connection h).closed ≡ true → R (with_secondary_connection answering (opened_secondary unseen h))
  pub takes : (frame : Received) → (secondary_connection h).closed ≡ false → AfterFrame R h frame
  pub applies : (place : ℕ) → is_pending_at (secondary_connection h) place ≡ true → has_earlier (secondary_connection h) place ≡ false
      → R (with_secondary_connection answering (with_secondary_connection (applying h.settings.protocol place) h))
  pub fails : (place : ℕ) (offsets : List ℕ) → is_pending_at (secondary_connection h) place ≡ true → has_earlier (secondary_connection h) place ≡ false
      → R (with_secondary_connection (failing place offsets) h)
  pub pushes : (secondary_connection h).closed ≡ false → (secondary_connection h).pushed < length (answers_due h.settings (secondary_connection h))
      → R (with_secondary_connection pushed_one h)
  pub closes : (secondary_connection h).closed ≡ false → R (with_secondary_connection closed_end h)

-- The same, where the kind of a frame counts.
pub record AfterKinds (R : SecondaryHistory → Type 0) (h : SecondaryHistory) : Type 0 where
  pub same : R h
  pub opens : (unseen : ℕ) → (secondary_connection h).closed ≡ true → R (with_secondary_connection answering (opened_secondary unseen h))
  pub takes : (frame : Received) → (secondary_connection h).closed ≡ false → AfterKind R h frame
  pub applies : (place : ℕ) → R (with_secondary_connection answering (with_secondary_connection (applying h.settings.protocol place) h))
  pub fails : (place : ℕ) (offsets : List ℕ) → R (with_secondary_connection (failing place offsets) h)
  pub pushes : (secondary_connection h).closed ≡ false → R (with_secondary_connection pushed_one h)
  pub closes : (secondary_connection h).closed ≡ false → R (with_secondary_connection closed_end h)

-- it then holds after every event
pub after-kinds : (R : SecondaryHistory → Type 0) (h : SecondaryHistory) (event : SecondaryEvent) → AfterKinds R h → R (secondary_after event h)
after-kinds R h (OpensToo unseen) a = after-open R unseen h a.same (a.opens unseen)
after-kinds R h (Receives frame out_of_memory) a = receive-kind R h frame out_of_memory a.same (λ taken is standing. a.takes taken standing)
after-kinds R h (Applies place) a = after-peer R h place a.same (λ waiting first. a.applies place)
after-kinds R h (FailsToApply place offsets) a = after-fault R h place offsets a.same (λ waiting first. a.fails place offsets)
after-kinds R h (Acknowledges room out_of_memory) a = after-push R h room out_of_memory a.same (λ standing due. a.pushes standing)
after-kinds R h ClosesToo a = after-close R h a.same a.closes

-- It then does.
pub after-event : (R : SecondaryHistory → Type 0) (h : SecondaryHistory) (event : SecondaryEvent) → After R h → R (secondary_after event h)
after-event R h (OpensToo unseen) a = after-open R unseen h a.same (a.opens unseen)
after-event R h (Receives frame out_of_memory) a = after-receive R h frame out_of_memory a.same (λ taken is standing. a.takes taken standing)
after-event R h (Applies place) a = after-peer R h place a.same (a.applies place)
after-event R h (FailsToApply place offsets) a = after-fault R h place offsets a.same (a.fails place offsets)
after-event R h (Acknowledges room out_of_memory) a = after-push R h room out_of_memory a.same a.pushes
after-event R h ClosesToo a = after-close R h a.same a.closes
