-- What a secondary's acknowledgements say is true: what they name was taken, or is applied. Over every list of its events.
use Rattle.std.proofs.Common.{ℕ, zero, suc, ◌≡◌, ◌-◌, ◌<◌, ◌⊎◌, inl, inr, Bool, true, false, cond, not, ◌&&◌, ◌||◌, List, [], ◌∷◌, ◌++◌, length, take, drop}
use Rattle.std.proofs.Common.{map, Option, Some, None, slice_get, Ok, Err, refl, sym, ◌∙◌, ap, subst, arith, ◌==◌, nat_lt}
use Rattle.std.specs.Prelude.{filter_map, if◌then◌else◌}
use Rattle.std.proofs.lemmas.Bool.{cases_Bool, both_ways, not-false, and_from, or_left, or_right, eq-eqb, ltb-false, cases_lt, and_parts, eqb-true}
use Rattle.std.proofs.lemmas.List.Elements.{filter_map-append}
use Rattle.std.proofs.lemmas.List.{append-nil, map-append, drop-append-le}
use Rattle.blocks.specs.declared.refusal.Refusal.{Refusal}
use Rattle.blocks.specs.declared.refusal.Refusal.TheVariants.{NotConnected, UnknownJob, EpochOpen}
use Rattle.blocks.specs.declared.outcome.What.{What}
use Rattle.blocks.specs.declared.outcome.What.TheVariants as what
use Rattle.blocks.specs.declared.command.Command.TheVariants as command
use Rattle.blocks.specs.declared.outcome.Reply.TheVariants as reply
use Rattle.blocks.specs.declared.settings.Protocol.{Protocol}
use Rattle.blocks.specs.declared.settings.Protocol.TheVariants as protocol
use Rattle.blocks.specs.declared.tuple.Tuple.{Tuple}
use Rattle.model.specs.Contents.{BlockMap, Write}
use Rattle.model.specs.Stream.{StreamItem, WriteItem, ResyncItem, BarrierItem, SyncUuidItem, UuidsItem, Part, is_in, is_whole, below, contents_of}
use Rattle.model.specs.Frames.{Packet, DataFrame, RsDataReplyFrame, BarrierFrame, ProtocolFrame, UuidsFrame, SizesFrame, SyncUuidFrame, RecvAckFrame}
use Rattle.model.specs.Frames.{WriteAckFrame, RsWriteAckFrame, BarrierAckFrame, Acknowledged, Received, naming}
use Rattle.model.specs.Primary.{change_last, same_naming}
use Rattle.model.specs.Refusals.{done_with}
use Rattle.model.specs.Secondary.{SecondaryConnection, SecondaryHistory, no_secondary_connection, secondary_connection, with_secondary_connection, items_taken}
use Rattle.model.specs.Secondary.{accepted_of, received_item, secondary_map}
use Rattle.model.specs.Secondary.{new_secondary_connection}
use Rattle.model.specs.SecondarySteps.{answering, barrier_answer, barriers_to_answer, succeeding_secondary, open_secondary_tests, opened_secondary}
use Rattle.model.specs.SecondarySteps.{open_secondary, Checked, checking_hello, checking_item, checking, adopting, receiving, take_item, receive, peer_tests}
use Rattle.model.specs.SecondarySteps.{is_pending_at, has_earlier, offsets_at, applied_answer, applying, peer, failing, peer_fault, ack_out_tests}
use Rattle.model.specs.SecondarySteps.{answering_with, ack_out, close_secondary, applied_with}
use Rattle.model.specs.Acknowledgements.{same_protocol}
use Rattle.model.specs.LocalRuns.{SecondaryEvent, OpensToo, Receives, Applies, FailsToApply, Acknowledges, ClosesToo, secondary_after, secondary_run}
use Rattle.laws.proofs.Lists.Last.{change-twice}
use Rattle.laws.proofs.Rules.DiskFaults.{reached, fault-applied}
use Rattle.laws.proofs.Streams.Parts.{in-append, whole-grows, whole-from}
use Rattle.laws.proofs.Secondary.Runs.{tested-keeps}
use Rattle.laws.proofs.Secondary.Sound.{starting, sound-same, sound-applying}
use Rattle.laws.proofs.Lists.Elements.{get-left, get-end, get-split, same-at}
use Rattle.laws.proofs.Lists.Each.{Each, each-append, each-change}
use Rattle.laws.proofs.Lists.Tests.{test-passed}
use Rattle.laws.proofs.Secondary.Good.{IsGood, good-new, taking-more, good-taking, items-refusing, good-refusing, good-failing}
use Rattle.laws.proofs.Lists.Picks.{pick-below}
use Rattle.laws.proofs.Rules.Memory.{receive-has}
use Rattle.laws.proofs.Rules.RefusedFrames.{refused_in, item-has, refused-last-too}

-- the item that an acknowledgement names was taken
pub record NamesTaken (d : SecondaryConnection) (ack : Acknowledged) : Type 0 where
  pub item : StreamItem
  pub there : slice_get (items_taken d) ack.place ≡ Some item

-- and all of it is applied
pub record NamesApplied (d : SecondaryConnection) (ack : Acknowledged) : Type 0 where
  pub item : StreamItem
  pub there : slice_get (items_taken d) ack.place ≡ Some item
  pub whole : is_whole d.applied ack.place item ≡ true

-- what names an item names its place
pub same-place : (of ack : Acknowledged) → same_naming of ack ≡ true → of.place ≡ ack.place
same-place of ack h =
    let last = (and_parts ((of.first == ack.first) && (of.number == ack.number)) ((of.count == ack.count) && (of.place == ack.place)) h).1 in
    eqb-true of.place ack.place (and_parts (of.count == ack.count) (of.place == ack.place) last).1

abbrev pub IsTrueAnswer : SecondaryConnection → Packet → Type 0
IsTrueAnswer d (RecvAckFrame ack) = NamesTaken d ack
IsTrueAnswer d (WriteAckFrame ack) = NamesApplied d ack
IsTrueAnswer d _ = Unit {0}

-- A connection that is sound, and whose acknowledgements are true.
pub record IsTruthful (d : SecondaryConnection) : Type 0 where
  pub good : IsGood d
  pub answers : (n : ℕ) (packet : Packet) → slice_get d.due n ≡ Some packet → IsTrueAnswer d packet

-- true answers stay so as more is taken and applied
answer-grows : (d e : SecondaryConnection) (items : List StreamItem) (part : Part) → items_taken e ≡ items_taken d ++ items → e.applied ≡ d.applied ++ part
    → (packet : Packet)
    → IsTrueAnswer d packet → IsTrueAnswer e packet
answer-grows d e items part taken applied (DataFrame write at) a = tt
answer-grows d e items part taken applied (RsDataReplyFrame block contents at) a = tt
answer-grows d e items part taken applied (BarrierFrame number) a = tt
answer-grows d e items part taken applied (ProtocolFrame asked) a = tt
answer-grows d e items part taken applied (UuidsFrame tuple) a = tt
answer-grows d e items part taken applied (SizesFrame blocks) a = tt
answer-grows d e items part taken applied (SyncUuidFrame word) a = tt
answer-grows d e items part taken applied (RecvAckFrame ack) a =
    record { item = a.item; there = rw taken (get-left (items_taken d) items ack.place a.item a.there) }
answer-grows d e items part taken applied (WriteAckFrame ack) a =
    record {
      item = a.item;
      there = rw taken (get-left (items_taken d) items ack.place a.item a.there);
      whole = rw applied (whole-grows d.applied part ack.place a.item a.whole);
    }
answer-grows d e items part taken applied (RsWriteAckFrame ack) a = tt
answer-grows d e items part taken applied (BarrierAckFrame number size) a = tt

same-items : (items : List StreamItem) → items ≡ items ++ []
same-items items = sym (append-nil items)

-- nothing taken, applied or due is lost
truthful-same : (d e : SecondaryConnection) → IsTruthful d → IsGood e → items_taken e ≡ items_taken d → e.applied ≡ d.applied → e.due ≡ d.due → IsTruthful e
truthful-same d e t good items applied due = record {
  good = good;
  answers = λ n packet at. answer-grows d e [] [] (items ∙ same-items (items_taken d)) (applied
      ∙ sym (append-nil d.applied)) packet (t.answers n packet (rw (← due) at));
}

-- more acknowledgements, each of them true
truthful-due : (d : SecondaryConnection) (more : List Packet) → IsTruthful d → IsGood (record d { due = d.due ++ more })
    → ((n : ℕ) (packet : Packet) → slice_get more n ≡ Some packet → IsTrueAnswer d packet) → IsTruthful (record d { due = d.due ++ more })
truthful-due d more t good new = record {
  good = good;
  answers = λ n packet at. answer-grows d (record d { due = d.due ++ more }) [] [] (same-items (items_taken d)) (sym (append-nil d.applied)) packet
      (elim (get-split d.due more n packet at) [
        | inl old ↦ t.answers n packet old
        | inr added ↦ new added.0 packet added.2
      ]);
}

good-same : (d e : SecondaryConnection) → IsGood d → items_taken e ≡ items_taken d → e.applied ≡ d.applied → e.gone ≡ d.gone
    → (d.closed ≡ true → e.closed ≡ true)
    → e.refused ≡ d.refused → IsGood e
good-same d e good items applied gone closed refused = record {
  sound = sound-same d e good.sound items applied gone closed;
  refused = λ r. closed (good.refused (sym refused ∙ r));
}

-- barrier answers name no item
barriers-true : (d : SecondaryConnection) (epochs : List ℕ) (n : ℕ) (packet : Packet) → slice_get (map (barrier_answer d) epochs) n ≡ Some packet
    → IsTrueAnswer d packet
barriers-true d [] n packet at = absurd (cc)
barriers-true d (epoch ∷ epochs) zero packet at = let same : barrier_answer d epoch ≡ packet = cc in subst (IsTrueAnswer d) same tt
barriers-true d (epoch ∷ epochs) (suc n) packet at = barriers-true d epochs n packet at

truthful-answering : (d : SecondaryConnection) → IsTruthful d → IsTruthful (answering d)
truthful-answering d t = elim d.closed as
    (λ b. IsTruthful (elim b as (λ _. SecondaryConnection) [ true ↦ d | false ↦ record d { due = d.due ++ map (barrier_answer d) (barriers_to_answer d) } ])) [
      | true ↦ t
      | false ↦ truthful-due d (map (barrier_answer d) (barriers_to_answer d)) t (good-same d _ t.good refl refl refl (λ c. c) refl)
          (barriers-true d (barriers_to_answer d))
    ]

-- All connections of a history.
abbrev AreTruthful : SecondaryHistory → Type 0
AreTruthful h = Each IsTruthful h.connections

all-change : (f : SecondaryConnection → SecondaryConnection) (h : SecondaryHistory) → AreTruthful h
    → (IsTruthful (secondary_connection h) → IsTruthful (f (secondary_connection h))) → AreTruthful (with_secondary_connection f h)
all-change f h all keeps = each-change IsTruthful f (no_secondary_connection h) h.connections all keeps

all-succeeding : (done : What) (h : SecondaryHistory) → AreTruthful h → AreTruthful (succeeding_secondary done h).1
all-succeeding done h all = all-change answering h all (truthful-answering (secondary_connection h))

truthful-new : (number : ℕ) (disk : BlockMap) (hello : Tuple)
    → IsTruthful (new_secondary_connection number disk hello)
truthful-new number disk hello = record { good = good-new number disk hello; answers = λ n packet at. absurd (cc) }

-- an end that was never open owes nothing
pub truthful-none : (h : SecondaryHistory) → IsTruthful (no_secondary_connection h)
truthful-none h = record {
  good = record {
    sound = sound-same (record (no_secondary_connection h) { closed = false }) (no_secondary_connection h) (good-new 0 h.opening_map h.tuple).sound refl refl
        refl
        (λ c. refl);
    refused = λ r. refl;
  };
  answers = λ n packet at. absurd (cc);
}

all-open : (unseen : ℕ) (h : SecondaryHistory) → AreTruthful h → AreTruthful (open_secondary unseen h).1
all-open unseen h all = tested-keeps AreTruthful h (open_secondary_tests h) (λ _. succeeding_secondary what.Nothing (opened_secondary unseen h)) all (λ passed.
    all-succeeding what.Nothing (opened_secondary unseen h) (each-append IsTruthful h.connections _ all (truthful-new _ (secondary_map h) h.tuple)))

-- Taking a frame.

-- What an accepted frame does to the connections: nothing more, or under B a write's acknowledgement becomes due.
abbrev Accepts : Received → SecondaryConnection → SecondaryHistory → What × SecondaryHistory → Type 0
Accepts frame c h result = (result.1.connections ≡ h.connections)
    ⊎ ((write : Write) × (at : ℕ) × (frame ≡ Ok (DataFrame write at)) × (nat_lt (length c.taken) 3 ≡ false)
    × (result.1.connections ≡ change_last
    (λ (x : SecondaryConnection). record x { due = x.due ++ RecvAckFrame (naming (length (items_taken c)) (WriteItem write)) ∷ [] }) h.connections))

accepts-if : (frame : Received) (c : SecondaryConnection) (h : SecondaryHistory) (good : Bool) (done : What) (next : SecondaryHistory) (refusal : Refusal)
    (result : What × SecondaryHistory)
    → Accepts frame c h (done, next) → cond good (Ok (done, next)) (Err refusal) ≡ Ok result → Accepts frame c h result
accepts-if frame c h true done next refusal result a is = let same : (done, next) ≡ result = cc in subst (Accepts frame c h) same a
accepts-if frame c h false done next refusal result a is = absurd (cc)

accepts-hello : (n : ℕ) (packet : Packet) (c : SecondaryConnection) (h : SecondaryHistory) (result : What × SecondaryHistory)
    → checking_hello n packet h ≡ Ok result
    → Accepts (Ok packet) c h result
accepts-hello zero (DataFrame write at) c h result is = absurd (cc)
accepts-hello zero (RsDataReplyFrame block contents at) c h result is = absurd (cc)
accepts-hello zero (BarrierFrame number) c h result is = absurd (cc)
accepts-hello zero (ProtocolFrame asked) c h result is = accepts-if (Ok (ProtocolFrame asked)) c h (same_protocol asked h.settings.protocol) _ h _ result
    (inl refl) is
accepts-hello zero (UuidsFrame tuple) c h result is = absurd (cc)
accepts-hello zero (SizesFrame blocks) c h result is = absurd (cc)
accepts-hello zero (SyncUuidFrame word) c h result is = absurd (cc)
accepts-hello zero (RecvAckFrame ack) c h result is = absurd (cc)
accepts-hello zero (WriteAckFrame ack) c h result is = absurd (cc)
accepts-hello zero (RsWriteAckFrame ack) c h result is = absurd (cc)
accepts-hello zero (BarrierAckFrame number size) c h result is = absurd (cc)
accepts-hello (suc zero) (DataFrame write at) c h result is = absurd (cc)
accepts-hello (suc zero) (RsDataReplyFrame block contents at) c h result is = absurd (cc)
accepts-hello (suc zero) (BarrierFrame number) c h result is = absurd (cc)
accepts-hello (suc zero) (ProtocolFrame asked) c h result is = absurd (cc)
accepts-hello (suc zero) (UuidsFrame tuple) c h result is = absurd (cc)
accepts-hello (suc zero) (SizesFrame blocks) c h result is = accepts-if (Ok (SizesFrame blocks)) c h (blocks == h.settings.blocks) _ h _ result (inl refl) is
accepts-hello (suc zero) (SyncUuidFrame word) c h result is = absurd (cc)
accepts-hello (suc zero) (RecvAckFrame ack) c h result is = absurd (cc)
accepts-hello (suc zero) (WriteAckFrame ack) c h result is = absurd (cc)
accepts-hello (suc zero) (RsWriteAckFrame ack) c h result is = absurd (cc)
accepts-hello (suc zero) (BarrierAckFrame number size) c h result is = absurd (cc)
accepts-hello (suc (suc n)) (DataFrame write at) c h result is = absurd (cc)
accepts-hello (suc (suc n)) (RsDataReplyFrame block contents at) c h result is = absurd (cc)
accepts-hello (suc (suc n)) (BarrierFrame number) c h result is = absurd (cc)
accepts-hello (suc (suc n)) (ProtocolFrame asked) c h result is = absurd (cc)
accepts-hello (suc (suc n)) (UuidsFrame tuple) c h result is = let same : h ≡ result.1 = cc in inl (ap (λ (g : SecondaryHistory). g.connections) (sym same))
accepts-hello (suc (suc n)) (SizesFrame blocks) c h result is = absurd (cc)
accepts-hello (suc (suc n)) (SyncUuidFrame word) c h result is = absurd (cc)
accepts-hello (suc (suc n)) (RecvAckFrame ack) c h result is = absurd (cc)
accepts-hello (suc (suc n)) (WriteAckFrame ack) c h result is = absurd (cc)
accepts-hello (suc (suc n)) (RsWriteAckFrame ack) c h result is = absurd (cc)
accepts-hello (suc (suc n)) (BarrierAckFrame number size) c h result is = absurd (cc)

accepts-receiving : (write : Write) (at : ℕ) (done : What) (c : SecondaryConnection) (h : SecondaryHistory) → nat_lt (length c.taken) 3 ≡ false
    → Accepts (Ok (DataFrame write at)) c h (done, receiving (length (items_taken c)) (WriteItem write) h)
accepts-receiving write at done c h late = go h.settings.protocol
  where
    go : (asked : Protocol) → Accepts (Ok (DataFrame write at)) c h (
      done,
      elim asked as (λ _. SecondaryHistory) [
        | protocol.A ↦ h
        | protocol.B ↦ with_secondary_connection (λ c'. record c' { due = c'.due ++ RecvAckFrame (naming (length (items_taken c)) (WriteItem write)) ∷ [] }) h
        | protocol.C ↦ h
      ],
    )
    go protocol.A = inl refl
    go protocol.B = inr (write, at, refl, late, refl)
    go protocol.C = inl refl

accepts-item : (packet : Packet) (c : SecondaryConnection) (h : SecondaryHistory) (result : What × SecondaryHistory) → nat_lt (length c.taken) 3 ≡ false
    → checking_item packet (length (items_taken c)) c h ≡ Ok result → Accepts (Ok packet) c h result
accepts-item (DataFrame write at) c h result late is =
    accepts-if (Ok (DataFrame write at)) c h _ _ (receiving (length (items_taken c)) (WriteItem write) h) _ result
    (accepts-receiving write at (what.Frame command.Data (Some (length (items_taken c)))) c h late) is
accepts-item (RsDataReplyFrame block contents at) c h result late is = accepts-if (Ok (RsDataReplyFrame block contents at)) c h _ _ h _ result (inl refl) is
accepts-item (BarrierFrame number) c h result late is = accepts-if (Ok (BarrierFrame number)) c h _ _ h _ result (inl refl) is
accepts-item (ProtocolFrame asked) c h result late is = absurd (cc)
accepts-item (UuidsFrame tuple) c h result late is = accepts-if (Ok (UuidsFrame tuple)) c h _ _ (adopting tuple true h) _ result (inl refl) is
accepts-item (SizesFrame blocks) c h result late is = absurd (cc)
accepts-item (SyncUuidFrame word) c h result late is = accepts-if (Ok (SyncUuidFrame word)) c h _ _ (adopting (record h.tuple { current = word }) false h) _
    result (inl refl) is
accepts-item (RecvAckFrame ack) c h result late is = absurd (cc)
accepts-item (WriteAckFrame ack) c h result late is = absurd (cc)
accepts-item (RsWriteAckFrame ack) c h result late is = absurd (cc)
accepts-item (BarrierAckFrame number size) c h result late is = absurd (cc)

accepts-frame : (frame : Received) (c : SecondaryConnection) (h : SecondaryHistory) (result : What × SecondaryHistory) → checking frame c h ≡ Ok result
    → Accepts frame c h result
accepts-frame (Err fault) c h result is = absurd (cc)
accepts-frame (Ok packet) c h result is = go (nat_lt (length c.taken) 3) refl is
  where
    go : (early : Bool) → nat_lt (length c.taken) 3 ≡ early
        → elim early as (λ _. Checked) [ true ↦ checking_hello (length c.taken) packet h | false ↦ checking_item packet (length (items_taken c)) c h ] ≡ Ok
        result
        → Accepts (Ok packet) c h result
    go true eq is = accepts-hello (length c.taken) packet c h result is
    go false eq is = accepts-item packet c h result eq is

-- The end is open, so nothing was refused.
plain : (d : SecondaryConnection) → IsGood d → d.closed ≡ false → d.refused ≡ false
plain d good standing = elim (cases_Bool d.refused) [ inl was ↦ absurd (both_ways d.closed standing (good.refused was)) | inr not_so ↦ not_so ]

truthful-taking : (frame : Received) (d : SecondaryConnection) → d.closed ≡ false → IsTruthful d → IsTruthful (record d { taken = d.taken ++ frame ∷ [] })
truthful-taking frame d standing t =
    let more = taking-more frame d (plain d t.good standing) in
    record {
      good = good-taking frame d standing t.good;
      answers = λ n packet at. answer-grows d (record d { taken = d.taken ++ frame ∷ [] }) more.0 [] more.1 (sym (append-nil d.applied)) packet
          (t.answers n packet at);
    }

-- a write that was taken stands at the next place
taken-write : (write : Write) (at : ℕ) (d : SecondaryConnection) → d.refused ≡ false → nat_lt (length d.taken) 3 ≡ false
    → slice_get (items_taken (record d { taken = d.taken ++ Ok (DataFrame write at) ∷ [] })) (length (items_taken d)) ≡ Some (WriteItem write)
taken-write write at d accepted late =
    let frame : Received = Ok (DataFrame write at) in
    let old : accepted_of d ≡ drop 3 d.taken = ap (λ b. drop 3 (if b then take (length d.taken - 1) d.taken else d.taken)) accepted in
    let new : accepted_of (record d { taken = d.taken ++ frame ∷ [] }) ≡ drop 3 d.taken ++ frame ∷ [] =
    ap (λ b. drop 3 (if b then take (length (d.taken ++ frame ∷ []) - 1) (d.taken ++ frame ∷ []) else (d.taken ++ frame ∷ []))) accepted
    ∙ drop-append-le 3 d.taken (frame ∷ []) (ltb-false (length d.taken) 3 late) in
    let items : items_taken (record d { taken = d.taken ++ frame ∷ [] }) ≡ items_taken d ++ WriteItem write ∷ [] =
    ap (filter_map received_item) new
    ∙ (filter_map-append received_item (drop 3 d.taken) (frame ∷ [])
    ∙ ap (λ (l : List Received). filter_map received_item l ++ WriteItem write ∷ []) (sym old)) in
    rw items (get-end (items_taken d) (WriteItem write))

-- the acknowledgement of a write that was just taken names it
named : (frame : Received) (d : SecondaryConnection) (write : Write) (at : ℕ) → frame ≡ Ok (DataFrame write at) → d.refused ≡ false
    → nat_lt (length d.taken) 3 ≡ false
    → (n : ℕ) (packet : Packet) → slice_get (RecvAckFrame (naming (length (items_taken d)) (WriteItem write)) ∷ []) n ≡ Some packet
    → IsTrueAnswer (record d { taken = d.taken ++ frame ∷ [] }) packet
named frame d write at is accepted late zero packet there =
    let same : RecvAckFrame (naming (length (items_taken d)) (WriteItem write)) ≡ packet = cc in
    subst (IsTrueAnswer (record d { taken = d.taken ++ frame ∷ [] })) same (record {
      item = WriteItem write;
      there = subst (λ (f : Received). slice_get (items_taken (record d { taken = d.taken ++ f ∷ [] })) (length (items_taken d)) ≡ Some (WriteItem write))
          (sym is) (taken-write write at d accepted late);
    })
named frame d write at is accepted late (suc n) packet there = absurd (cc)

truthful-refusing : (frame : Received) (d : SecondaryConnection) → d.closed ≡ false → IsTruthful d
    → IsTruthful (refused_in frame d)
truthful-refusing frame d standing t = truthful-same d _ t (good-refusing frame d standing t.good) (items-refusing frame d (plain d t.good standing)) refl refl

all-take : (frame : Received) (h : SecondaryHistory) → (secondary_connection h).closed ≡ false → AreTruthful h → AreTruthful (take_item frame h).1
all-take frame h standing all = item-has (λ r. AreTruthful r.1)
    (λ v. checking frame (secondary_connection h) (with_secondary_connection (λ c. record c { taken = c.taken ++ frame ∷ [] }) h) ≡ v) frame h refl accepted
    (λ refusal is.
    subst (Each IsTruthful) (sym (refused-last-too frame h)) (each-change IsTruthful (refused_in frame) (no_secondary_connection h) h.connections all
    (truthful-refusing frame (secondary_connection h) standing)))
  where
    all-taken : AreTruthful (with_secondary_connection (λ c. record c { taken = c.taken ++ frame ∷ [] }) h)
    all-taken = all-change (λ c. record c { taken = c.taken ++ frame ∷ [] }) h all (truthful-taking frame (secondary_connection h) standing)

    accepted : (done : What × SecondaryHistory)
        → checking frame (secondary_connection h) (with_secondary_connection (λ c. record c { taken = c.taken ++ frame ∷ [] }) h) ≡ Ok done
        → AreTruthful (succeeding_secondary done.0 done.1).1
    accepted done is = all-succeeding done.0 done.1
        (elim (accepts-frame frame (secondary_connection h) (with_secondary_connection (λ c. record c { taken = c.taken ++ frame ∷ [] }) h) done is) [
          | inl same ↦ rw same all-taken
          | inr new ↦
              let ack : Packet = RecvAckFrame (naming (length (items_taken (secondary_connection h))) (WriteItem new.0)) in
              rw (
                new.4,
                change-twice (λ (c : SecondaryConnection). record c { taken = c.taken ++ frame ∷ [] })
                    (λ (x : SecondaryConnection). record x { due = x.due ++ ack ∷ [] })
                    h.connections,
              )
              (each-change IsTruthful (λ (c : SecondaryConnection). record c { taken = c.taken ++ frame ∷ []; due = c.due ++ ack ∷ [] })
              (no_secondary_connection h) h.connections all (λ t.
              let d : SecondaryConnection = record (secondary_connection h) { taken = (secondary_connection h).taken ++ frame ∷ [] } in
              let t' : IsTruthful d = truthful-taking frame (secondary_connection h) standing t in
              truthful-due d (ack ∷ []) t' (good-same d _ t'.good refl refl refl (λ c. c) refl)
              (named frame (secondary_connection h) new.0 new.1 new.2 (plain (secondary_connection h) t.good standing) new.3)))
        ])

all-receive : (frame : Option Received) (out_of_memory : Bool) (h : SecondaryHistory) → AreTruthful h → AreTruthful (receive frame out_of_memory h).1
all-receive frame out_of_memory h all =
    receive-has (λ r. AreTruthful r.1) frame out_of_memory h (λ refusal other. all) (λ taken is standing. all-take taken h standing all)

-- The disk.

-- an item whose offsets are all in is whole
pub in-below : (place n k : ℕ) → k < n → is_in (offsets_at place (below n)) place k ≡ true
in-below place zero k less = absurd (omega arith)
in-below place (suc n) k less =
    let split : is_in (offsets_at place (below (suc n))) place k ≡ (is_in (offsets_at place (below n)) place k || is_in (offsets_at place (n ∷ [])) place k) =
    ap (λ (l : Part). is_in l place k) (map-append (λ (offset : ℕ). (place, offset)) (below n) (n ∷ []))
    ∙ in-append (offsets_at place (below n)) (offsets_at place (n ∷ [])) place k in
    split ∙ elim (cases_lt k n) [
      | inl lower ↦ or_left (is_in (offsets_at place (below n)) place k) (is_in (offsets_at place (n ∷ [])) place k) (in-below place n k lower)
      | inr top ↦ or_right (is_in (offsets_at place (below n)) place k) (is_in (offsets_at place (n ∷ [])) place k)
          (or_left ((place == place) && (n == k)) false (and_from (place == place) (n == k) (eq-eqb place place refl) (eq-eqb n k (omega arith))))
    ]

-- what applying an item answers is true of it
answer-true : (asked : Protocol) (place : ℕ) (item : StreamItem) (d : SecondaryConnection) → slice_get (items_taken d) place ≡ Some item
    → is_whole (d.applied ++ offsets_at place (below (length (contents_of item)))) place item ≡ true
    → (n : ℕ) (packet : Packet) → slice_get (applied_answer asked place item) n ≡ Some packet
    → IsTrueAnswer (record d { applied = d.applied ++ offsets_at place (below (length (contents_of item))) }) packet
answer-true protocol.A place (WriteItem write) d is whole n packet at = absurd (cc)
answer-true protocol.B place (WriteItem write) d is whole n packet at = absurd (cc)
answer-true protocol.C place (WriteItem write) d is whole zero packet at =
    let same : WriteAckFrame (naming place (WriteItem write)) ≡ packet = cc in
    subst (IsTrueAnswer (record d { applied = d.applied ++ offsets_at place (below (length (contents_of (WriteItem write)))) })) same
    (record { item = WriteItem write; there = is; whole = whole })
answer-true protocol.C place (WriteItem write) d is whole (suc n) packet at = absurd (cc)
answer-true asked place (ResyncItem block contents) d is whole zero packet at =
    let same : RsWriteAckFrame (naming place (ResyncItem block contents)) ≡ packet = cc in
    subst (IsTrueAnswer (record d { applied = d.applied ++ offsets_at place (below (length (contents_of (ResyncItem block contents)))) })) same tt
answer-true asked place (ResyncItem block contents) d is whole (suc n) packet at = absurd (cc)
answer-true asked place (BarrierItem epoch) d is whole n packet at = absurd (cc)
answer-true asked place (SyncUuidItem word) d is whole n packet at = absurd (cc)
answer-true asked place (UuidsItem tuple) d is whole n packet at = absurd (cc)

truthful-applying : (asked : Protocol) (place : ℕ) (d : SecondaryConnection) → is_pending_at d place ≡ true → has_earlier d place ≡ false → IsTruthful d
    → IsTruthful (applying asked place d)
truthful-applying asked place d waiting none t = go (slice_get (items_taken d) place) refl
  where
    go : (v : Option StreamItem) → slice_get (items_taken d) place ≡ v → IsTruthful (applied_with v asked place d)
    go None is = t
    go (Some item) is = due d.closed
      where
        part : Part
        part = offsets_at place (below (length (contents_of item)))

        good : IsGood (record d { applied = d.applied ++ offsets_at place (below (length (contents_of item))) })
        good = record {
          sound = sound-applying d _ place (below (length (contents_of item))) t.good.sound (starting d place t.good.sound waiting none)
              (λ n offset at. subst (λ (i : StreamItem). offset < length (contents_of i))
              (same-at (items_taken d) place item (starting d place t.good.sound waiting none).item is (starting d place t.good.sound waiting none).there)
              (pick-below (length (contents_of item)) n offset at)) refl refl (inl (refl, refl));
          refused = t.good.refused;
        }

        before : IsTruthful (record d { applied = d.applied ++ offsets_at place (below (length (contents_of item))) })
        before = record {
          good = good;
          answers =
              λ n packet at. answer-grows d (record d { applied = d.applied ++ offsets_at place (below (length (contents_of item))) }) []
              (offsets_at place (below (length (contents_of item)))) (same-items (items_taken d)) refl packet (t.answers n packet at);
        }

        whole : is_whole (d.applied ++ offsets_at place (below (length (contents_of item)))) place item ≡ true
        whole = whole-from (d.applied ++ part) place item (λ k less. in-append d.applied part place k
            ∙ or_right (is_in d.applied place k) (is_in part place k) (in-below place (length (contents_of item)) k less))

        due : (b : Bool)
            → IsTruthful (record d {
              applied = d.applied ++ offsets_at place (below (length (contents_of item)));
              due = elim b as (λ _. List Packet) [ true ↦ d.due | false ↦ d.due ++ applied_answer asked place item ];
            })
        due true = before
        due false = truthful-due (record d { applied = d.applied ++ part }) (applied_answer asked place item) before
            (good-same _ _ good refl refl refl (λ c. c) refl) (answer-true asked place item d is whole)

all-peer : (place : ℕ) (h : SecondaryHistory) → AreTruthful h → AreTruthful (peer place h).1
all-peer place h all = tested-keeps AreTruthful h (peer_tests h place)
    (λ _. succeeding_secondary what.Nothing (with_secondary_connection (applying h.settings.protocol place) h)) all (λ passed.
    let one = test-passed (not (is_pending_at (secondary_connection h) place)) UnknownJob ((has_earlier (secondary_connection h) place, EpochOpen) ∷ [])
    passed in
    let two = test-passed (has_earlier (secondary_connection h) place) EpochOpen [] one.1 in
    all-succeeding what.Nothing (with_secondary_connection (applying h.settings.protocol place) h)
    (all-change (applying h.settings.protocol place) h all
    (truthful-applying h.settings.protocol place (secondary_connection h) (not-false (is_pending_at (secondary_connection h) place) one.0) two.0)))

all-fault : (place : ℕ) (offsets : List ℕ) (h : SecondaryHistory) → AreTruthful h → AreTruthful (peer_fault place offsets h).1
all-fault place offsets h all = tested-keeps AreTruthful h (peer_tests h place)
    (λ _. (reply.Ok (done_with what.Nothing), with_secondary_connection (failing place offsets) h)) all (λ passed.
    let one = test-passed (not (is_pending_at (secondary_connection h) place)) UnknownJob ((has_earlier (secondary_connection h) place, EpochOpen) ∷ [])
    passed in
    let two = test-passed (has_earlier (secondary_connection h) place) EpochOpen [] one.1 in
    all-change (failing place offsets) h all (λ t. record {
      good = good-failing place offsets (secondary_connection h) (not-false (is_pending_at (secondary_connection h) place) one.0) two.0 t.good;
      answers = λ n packet at. answer-grows (secondary_connection h) (failing place offsets (secondary_connection h)) []
          (offsets_at place (reached place offsets (secondary_connection h)))
          (same-items (items_taken (secondary_connection h))) (fault-applied place offsets (secondary_connection h)) packet (t.answers n packet at);
    }))

all-push : (room out_of_memory : Bool) (h : SecondaryHistory) → AreTruthful h → AreTruthful (ack_out room out_of_memory h).1
all-push room out_of_memory h all = tested-keeps AreTruthful h (ack_out_tests h room out_of_memory)
    (λ _. (reply.Ok (done_with (answering_with h)), with_secondary_connection (λ c. record c { pushed = suc c.pushed }) h)) all (λ passed.
    all-change (λ c. record c { pushed = suc c.pushed }) h all
    (λ t. truthful-same (secondary_connection h) _ t (good-same (secondary_connection h) _ t.good refl refl refl (λ c. c) refl) refl refl refl))

all-close : (h : SecondaryHistory) → AreTruthful h → AreTruthful (close_secondary h).1
all-close h all = tested-keeps AreTruthful h (((secondary_connection h).closed, NotConnected) ∷ [])
    (λ _. (reply.Ok (done_with what.Nothing), with_secondary_connection (λ c. record c { closed = true }) h)) all (λ passed.
    all-change (λ c. record c { closed = true }) h all
    (λ t. truthful-same (secondary_connection h) _ t
    (record { sound = sound-same (secondary_connection h) _ t.good.sound refl refl refl (λ c. refl); refused = λ r. refl }) refl refl
    refl))

pub all-after : (event : SecondaryEvent) (h : SecondaryHistory) → Each IsTruthful h.connections → Each IsTruthful (secondary_after event h).connections
all-after (OpensToo unseen) h all = all-open unseen h all
all-after (Receives frame out_of_memory) h all = all-receive frame out_of_memory h all
all-after (Applies place) h all = all-peer place h all
all-after (FailsToApply place offsets) h all = all-fault place offsets h all
all-after (Acknowledges room out_of_memory) h all = all-push room out_of_memory h all
all-after ClosesToo h all = all-close h all

pub all-run : (events : List SecondaryEvent) (h : SecondaryHistory) → Each IsTruthful h.connections → Each IsTruthful (secondary_run events h).connections
all-run [] h all = all
all-run (event ∷ events) h all = all-run events (secondary_after event h) (all-after event h all)
