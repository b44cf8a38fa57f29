-- Whatever frames a secondary takes and however its disk fails, its acknowledgements fit.
use Rattle.std.proofs.Common.{ℕ, zero, suc, ◌≡◌, Bool, true, false, cond, List, [], ◌∷◌, length, Option, Some, Ok, Err, refl, sym, ◌∙◌, ap}
use Rattle.std.proofs.Common.{subst, nat_lt}
use Rattle.blocks.specs.declared.refusal.Refusal.{Refusal}
use Rattle.blocks.specs.declared.outcome.What.{What}
use Rattle.blocks.specs.declared.settings.Settings.{Settings}
use Rattle.blocks.specs.declared.settings.Protocol.{Protocol}
use Rattle.blocks.specs.declared.settings.Protocol.TheVariants as protocol
use Rattle.blocks.specs.declared.tuple.Tuple.{Tuple}
use Rattle.model.specs.Contents.{BlockMap, Write}
use Rattle.model.specs.Stream.{WriteItem}
use Rattle.model.specs.Frames.{Packet, DataFrame, RsDataReplyFrame, BarrierFrame, ProtocolFrame, UuidsFrame, SizesFrame, SyncUuidFrame, Received}
use Rattle.model.specs.Primary.{change_last}
use Rattle.model.specs.Secondary.{SecondaryConnection, SecondaryHistory, secondary_opening, no_secondary_connection, secondary_connection}
use Rattle.model.specs.Secondary.{with_secondary_connection, items_taken, received_item}
use Rattle.model.specs.SecondarySteps.{answering, opened_secondary, Checked, checking_hello, checking_item, checking, adopting, receiving}
use Rattle.model.specs.SecondarySteps.{take_item, receive, applying, failing}
use Rattle.model.specs.LocalRuns.{SecondaryEvent, OpensToo, Receives, Applies, FailsToApply, Acknowledges, ClosesToo, secondary_after, secondary_run}
use Rattle.laws.proofs.Lists.Each.{Each, each-append, each-change}
use Rattle.laws.proofs.Lists.Last.{change-twice}
use Rattle.laws.proofs.Secondary.Moves.{framed, receipting, pushed_one, closed_end, after-open, after-peer, after-fault, after-push, after-close}
use Rattle.laws.proofs.Secondary.Orderly.{IsOrderly, orderly-new, orderly-answering, orderly-pushing, orderly-closing, orderly-failing, orderly-refusing}
use Rattle.laws.proofs.Secondary.OrderlyTaking.{orderly-taking, orderly-receipting, orderly-applying}
use Rattle.laws.proofs.Rules.Memory.{receive-has}
use Rattle.laws.proofs.Rules.RefusedFrames.{refused_in, refused-last-too, item-has}

-- every connection is orderly, under the protocol of the settings
pub record HasOrderlyEnds (asked : Protocol) (h : SecondaryHistory) : Type 0 where
  pub protocol : h.settings.protocol ≡ asked
  pub ends : Each (IsOrderly asked) h.connections

module _ (asked : Protocol) where
  -- the last connection changes
  orderly-change : (h later : SecondaryHistory) (f : SecondaryConnection → SecondaryConnection) → later.settings ≡ h.settings
      → later.connections ≡ change_last f h.connections
      → (IsOrderly asked (secondary_connection h) → IsOrderly asked (f (secondary_connection h)))
      → HasOrderlyEnds asked h → HasOrderlyEnds asked later
  orderly-change h later f same connections keeps a = record {
    protocol = ap (λ (s : Settings). s.protocol) same ∙ a.protocol;
    ends = subst (Each (IsOrderly asked)) (sym connections) (each-change (IsOrderly asked) f (no_secondary_connection h) h.connections a.ends keeps);
  }

  then-answering : (h : SecondaryHistory) → HasOrderlyEnds asked h → HasOrderlyEnds asked (with_secondary_connection answering h)
  then-answering h a = orderly-change h (with_secondary_connection answering h) answering refl refl (orderly-answering asked (secondary_connection h)) a

  -- Taking a frame.

  -- what an accepted frame leads to
  abbrev Judged : Checked → Type 0
  Judged (Ok done) = HasOrderlyEnds asked (with_secondary_connection answering done.1)
  Judged (Err refusal) = Unit {0}

  judged-if : (good : Bool) (done : What) (h : SecondaryHistory) (refusal : Refusal) → HasOrderlyEnds asked (with_secondary_connection answering h)
      → Judged (cond good (Ok (done, h)) (Err refusal))
  judged-if true done h refusal a = a
  judged-if false done h refusal a = tt

  -- a frame that is no write under B
  accepts : (h later : SecondaryHistory) (frame : Received) → later.settings ≡ h.settings → later.connections ≡ change_last (framed frame) h.connections
      → (secondary_connection h).closed ≡ false
      → ((write : Write) → received_item frame ≡ Some (WriteItem write) → asked ≡ protocol.B → ⊥) → HasOrderlyEnds asked h
      → HasOrderlyEnds asked (with_secondary_connection answering later)
  accepts h later frame same connections standing other a =
      then-answering later (orderly-change h later (framed frame) same connections (orderly-taking asked frame (secondary_connection h) standing other) a)

  judged-write : (h : SecondaryHistory) (write : Write) (at : ℕ) → (secondary_connection h).closed ≡ false
      → nat_lt (length (secondary_connection h).taken) 3 ≡ false
      → HasOrderlyEnds asked h
      → HasOrderlyEnds asked (with_secondary_connection answering
      (receiving (length (items_taken (secondary_connection h))) (WriteItem write) (with_secondary_connection (framed (Ok (DataFrame write at))) h)))
  judged-write h write at standing late a = go h.settings.protocol a.protocol
    where
      frame : Received
      frame = Ok (DataFrame write at)

      go : (v : Protocol) → v ≡ asked → HasOrderlyEnds asked (with_secondary_connection answering (elim v as (λ _. SecondaryHistory) [
        | protocol.A ↦ with_secondary_connection (framed (Ok (DataFrame write at))) h
        | protocol.B ↦ with_secondary_connection (receipting (length (items_taken (secondary_connection h))) write)
            (with_secondary_connection (framed (Ok (DataFrame write at))) h)
        | protocol.C ↦ with_secondary_connection (framed (Ok (DataFrame write at))) h
      ]))
      go protocol.A is = accepts h _ frame refl refl standing (λ w there asks. absurd (let no : protocol.A ≡ protocol.B = is ∙ asks in cc)) a
      go protocol.B is = then-answering _ (orderly-change h _ (λ c. receipting (length (items_taken (secondary_connection h))) write (framed frame c)) refl
          (change-twice (framed frame) (receipting (length (items_taken (secondary_connection h))) write) h.connections)
          (orderly-receipting asked write at (secondary_connection h) standing late (sym is)) a)
      go protocol.C is = accepts h _ frame refl refl standing (λ w there asks. absurd (let no : protocol.C ≡ protocol.B = is ∙ asks in cc)) a

  judged-hello : (n : ℕ) (packet : Packet) (h : SecondaryHistory) → (secondary_connection h).closed ≡ false → HasOrderlyEnds asked h
      → Judged (checking_hello n packet (with_secondary_connection (framed (Ok packet)) h))
  judged-hello zero (ProtocolFrame wanted) h standing a = judged-if _ _ _ _ (accepts h _ (Ok (ProtocolFrame wanted)) refl refl standing (λ w there asks. cc) a)
  judged-hello (suc zero) (SizesFrame blocks) h standing a = judged-if _ _ _ _ (accepts h _ (Ok (SizesFrame blocks)) refl refl standing (λ w there asks. cc) a)
  judged-hello (suc (suc n)) (UuidsFrame tuple) h standing a = accepts h _ (Ok (UuidsFrame tuple)) refl refl standing (λ w there asks. cc) a
  judged-hello n packet h standing a = tt

  judged-item : (packet : Packet) (h : SecondaryHistory) → (secondary_connection h).closed ≡ false → nat_lt (length (secondary_connection h).taken) 3 ≡ false
      → HasOrderlyEnds asked h
      → Judged (checking_item packet (length (items_taken (secondary_connection h))) (secondary_connection h)
      (with_secondary_connection (framed (Ok packet)) h))
  judged-item (DataFrame write at) h standing late a = judged-if _ _ _ _ (judged-write h write at standing late a)
  judged-item (RsDataReplyFrame block contents at) h standing late a =
      judged-if _ _ _ _ (accepts h _ (Ok (RsDataReplyFrame block contents at)) refl refl standing (λ w there asks. cc) a)
  judged-item (BarrierFrame number) h standing late a = judged-if _ _ _ _ (accepts h _ (Ok (BarrierFrame number)) refl refl standing (λ w there asks. cc) a)
  judged-item (UuidsFrame tuple) h standing late a = judged-if _ _ (adopting tuple true (with_secondary_connection (framed (Ok (UuidsFrame tuple))) h)) _
      (accepts h _ (Ok (UuidsFrame tuple)) refl refl standing (λ w there asks. cc) a)
  judged-item (SyncUuidFrame word) h standing late a =
      judged-if _ _ (adopting (record h.tuple { current = word }) false (with_secondary_connection (framed (Ok (SyncUuidFrame word))) h)) _
      (accepts h _ (Ok (SyncUuidFrame word)) refl refl standing (λ w there asks. cc) a)
  judged-item packet h standing late a = tt

  judged : (frame : Received) (h : SecondaryHistory) → (secondary_connection h).closed ≡ false → HasOrderlyEnds asked h
      → Judged (checking frame (secondary_connection h) (with_secondary_connection (framed frame) h))
  judged (Err fault) h standing a = tt
  judged (Ok packet) h standing a = go (nat_lt (length (secondary_connection h).taken) 3) refl
    where
      go : (early : Bool) → nat_lt (length (secondary_connection h).taken) 3 ≡ early → Judged (elim early as (λ _. Checked) [
        | true ↦ checking_hello (length (secondary_connection h).taken) packet (with_secondary_connection (framed (Ok packet)) h)
        | false ↦ checking_item packet (length (items_taken (secondary_connection h))) (secondary_connection h)
            (with_secondary_connection (framed (Ok packet)) h)
      ])
      go true is = judged-hello (length (secondary_connection h).taken) packet h standing a
      go false is = judged-item packet h standing is a

  orderly-take : (frame : Received) (h : SecondaryHistory) → (secondary_connection h).closed ≡ false → HasOrderlyEnds asked h
      → HasOrderlyEnds asked (take_item frame h).1
  orderly-take frame h standing a =
      item-has (λ r. HasOrderlyEnds asked r.1) Judged frame h (judged frame h standing a) (λ done j. j)
      (λ refusal j. orderly-change h _ (refused_in frame) refl (refused-last-too frame h) (orderly-refusing asked frame (secondary_connection h) standing) a)

  orderly-receive : (frame : Option Received) (out_of_memory : Bool) (h : SecondaryHistory) → HasOrderlyEnds asked h
      → HasOrderlyEnds asked (receive frame out_of_memory h).1
  orderly-receive frame out_of_memory h a =
      receive-has (λ r. HasOrderlyEnds asked r.1) frame out_of_memory h (λ refusal other. a) (λ taken is standing. orderly-take taken h standing a)

  -- Every event keeps it, and so does every run.

  orderly-after : (event : SecondaryEvent) (h : SecondaryHistory) → HasOrderlyEnds asked h → HasOrderlyEnds asked (secondary_after event h)
  orderly-after (OpensToo unseen) h a = after-open (HasOrderlyEnds asked) unseen h a
      (λ was. then-answering (opened_secondary unseen h)
      (record { protocol = a.protocol; ends = each-append (IsOrderly asked) h.connections _ a.ends (orderly-new asked _ _ _) }))
  orderly-after (Receives frame out_of_memory) h a = orderly-receive frame out_of_memory h a
  orderly-after (Applies place) h a = after-peer (HasOrderlyEnds asked) h place a
      (λ waiting first. then-answering _
      (orderly-change h (with_secondary_connection (applying h.settings.protocol place) h) (applying h.settings.protocol place) refl refl
      (subst (λ (p : Protocol). IsOrderly asked (secondary_connection h) → IsOrderly asked (applying p place (secondary_connection h))) (sym a.protocol)
      (orderly-applying asked place (secondary_connection h) waiting first)) a))
  orderly-after (FailsToApply place offsets) h a = after-fault (HasOrderlyEnds asked) h place offsets a
      (λ waiting first. orderly-change h _ (failing place offsets) refl refl (orderly-failing asked place offsets (secondary_connection h) waiting first) a)
  orderly-after (Acknowledges room out_of_memory) h a = after-push (HasOrderlyEnds asked) h room out_of_memory a
      (λ standing due. orderly-change h _ pushed_one refl refl (orderly-pushing asked (secondary_connection h)) a)
  orderly-after ClosesToo h a = after-close (HasOrderlyEnds asked) h a
      (λ standing. orderly-change h _ closed_end refl refl (orderly-closing asked (secondary_connection h)) a)

  orderly-run : (events : List SecondaryEvent) (h : SecondaryHistory) → HasOrderlyEnds asked h → HasOrderlyEnds asked (secondary_run events h)
  orderly-run [] h a = a
  orderly-run (event ∷ events) h a = orderly-run events (secondary_after event h) (orderly-after event h a)

-- Whatever frames a secondary takes, its acknowledgements fit.
pub secondary_orderly : (settings : Settings) (disk : BlockMap) (tuple : Tuple) (events : List SecondaryEvent)
    → HasOrderlyEnds settings.protocol (secondary_run events (secondary_opening settings disk tuple))
secondary_orderly settings disk tuple events = orderly-run settings.protocol events (secondary_opening settings disk tuple)
    (record { protocol = refl; ends = tt })
