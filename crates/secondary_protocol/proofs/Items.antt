-- An item of the stream is judged alike in the state and in the history.
use Rattle.std.proofs.Common.{ℕ, ◌≡◌, Bool, true, false, cond, not, ◌&&◌, List, [], ◌∷◌, ◌++◌, length, map, filter, Option, Some, refl, sym, ◌∙◌, ap, subst}
use Rattle.std.proofs.Common.{arith, ◌==◌}
use Rattle.std.specs.List.{list_any}
use Rattle.std.proofs.lemmas.List.{append-nil, length-append}
use Rattle.blocks.specs.declared.settings.Protocol.{Protocol}
use Rattle.blocks.specs.declared.settings.Protocol.TheVariants as protocol
use Rattle.model.specs.Stream.{StreamItem, has_blocks, is_in, is_whole, last_epoch, placed}
use Rattle.model.specs.Frames.{Packet, RecvAckFrame, naming}
use Rattle.model.specs.Secondary.{SecondaryConnection, SecondaryHistory, secondary_connection, items_taken, is_pending, with_secondary_connection}
use Rattle.model.specs.SecondarySteps.{Checked}
use Rattle.model.specs.SecondarySteps as step
use Rattle.secondary_protocol.specs.Core.{EndState, SecondaryState, receipt}
use Rattle.secondary_protocol.specs.Leaves.{LeavesLast, LeavesEnd, EndLeft, FailedLeft, intake_of, pending_in}
use Rattle.laws.proofs.Rules.BarrierAnswers.{AnswerNone, none-answer, receipt-answers}
use Rattle.secondary_protocol.proofs.Counted.{count-more}
use Rattle.secondary_protocol.proofs.Tested.{secondary-connection-with, open-whole}
use Rattle.secondary_protocol.proofs.Waiting.{waiting-more, new-waits, bare-waits-not}

-- What an item leaves that was taken: `c` is the connection with its frame, and `waits` says whether it has blocks.
pub last-item : (size : ℕ) (s t : SecondaryState) (e : EndState) (d c : SecondaryConnection) (item : StreamItem) (waits : Bool) → LeavesLast size s d
    → d.closed ≡ false
    → items_taken c ≡ items_taken d ++ item ∷ [] → c.applied ≡ d.applied → c.gone ≡ d.gone → c.number ≡ d.number
    → LeavesEnd e c → has_blocks item ≡ waits → t.number ≡ s.number → t.intake ≡ intake_of size (items_taken d ++ item ∷ [])
    → t.pending ≡ s.pending ++ cond waits (record { place = length (items_taken d); epoch = last_epoch (items_taken d); item = item } ∷ []) []
    → t.items_applied ≡ s.items_applied → t.failed ≡ s.failed → t.end ≡ Some e → LeavesLast size t c
last-item size s t e d c item waits left is_established items applied gone number there blocks is_number is_intake is_waiting is_count is_failed is_end =
    let whole = open-whole s.failed d left.failed is_established in
    record {
      number = is_number ∙ (left.number ∙ sym number);
      intake = is_intake ∙ ap (intake_of size) (sym items);
      named = λ place offset inside.
          let was = left.named place offset (ap (λ part. is_in part place offset) (sym applied) ∙ inside) in
          let longer = ap length items ∙ length-append (items_taken d) (item ∷ []) in
          omega arith;
      pending =
          is_waiting
          ∙ (ap (λ l. l ++ cond waits (record { place = length (items_taken d); epoch = last_epoch (items_taken d); item = item } ∷ []) []) left.pending
          ∙ (sym (waiting-more (is_pending d) (items_taken d) item waits (by-blocks whole.1 waits blocks))
          ∙ (ap (λ (l : List StreamItem). map (pending_in l) (filter (is_pending d) (placed l))) (sym items)
          ∙ ap (λ (p : ℕ × StreamItem → Bool). map (pending_in (items_taken c)) (filter p (placed (items_taken c)))) (λ i entry. alike entry i))));
      applied = is_count ∙ (left.applied ∙ sym (count-more c d item waits blocks (by-blocks whole.1 waits blocks) items applied gone));
      failed = subst (λ (v : Option ℕ). FailedLeft v c) (sym (is_failed ∙ whole.0)) (gone ∙ whole.1);
      end = subst (λ (v : Option EndState). EndLeft v c) (sym is_end) there;
    }
  where
    alike : (entry : ℕ × StreamItem) → is_pending d entry ≡ is_pending c entry
    alike entry = λ i. (has_blocks entry.1 && not (is_whole (sym applied i) entry.0 entry.1)) && not (list_any (λ place. place == entry.0) (sym gone i))

    by-blocks : d.gone ≡ [] → (b : Bool) → has_blocks item ≡ b → is_pending d (length (items_taken d), item) ≡ b
    by-blocks none true some = new-waits d (items_taken d) item some none left.named
    by-blocks none false bare = bare-waits-not d (length (items_taken d)) item bare

-- what the protocol makes due when a write is taken is no epoch's
pub receipt-other : (asked : Protocol) (place : ℕ) (item : StreamItem) → AnswerNone (receipt asked place item)
receipt-other protocol.A place item = none-answer
receipt-other protocol.B place item = receipt-answers (naming place item)
receipt-other protocol.C place item = none-answer

-- the history after a write was taken, by its last connection
pub receiving-is : (asked : Protocol) (place : ℕ) (item : StreamItem) (h : SecondaryHistory) → h.settings.protocol ≡ asked → (h.connections ≡ [] → ⊥)
    → secondary_connection (step.receiving place item h) ≡ record (secondary_connection h) { due = (secondary_connection h).due ++ receipt asked place item }
receiving-is asked place item h is some =
    subst (λ (p : Protocol). secondary_connection (by p) ≡ record (secondary_connection h) { due = (secondary_connection h).due ++ receipt asked place item })
    (sym is) (go asked)
  where
    by : Protocol → SecondaryHistory
    by p = elim p as (λ _. SecondaryHistory) [
      | protocol.A ↦ h
      | protocol.B ↦ with_secondary_connection (λ c. record c { due = c.due ++ RecvAckFrame (naming place item) ∷ [] }) h
      | protocol.C ↦ h
    ]

    go : (p : Protocol) → secondary_connection (by p) ≡ record (secondary_connection h) { due = (secondary_connection h).due ++ receipt p place item }
    go protocol.A = ap (λ (l : List Packet). record (secondary_connection h) { due = l }) (sym (append-nil (secondary_connection h).due))
    go protocol.B = secondary-connection-with (λ c. record c { due = c.due ++ RecvAckFrame (naming place item) ∷ [] }) h some
    go protocol.C = ap (λ (l : List Packet). record (secondary_connection h) { due = l }) (sym (append-nil (secondary_connection h).due))

-- and the rest of it
pub receiving-rest : (place : ℕ) (item : StreamItem) (h : SecondaryHistory)
    → ((step.receiving place item h).settings ≡ h.settings) × ((step.receiving place item h).tuple ≡ h.tuple)
    × ((step.receiving place item h).consistent ≡ h.consistent)
receiving-rest place item h = go h.settings.protocol
  where
    by : Protocol → SecondaryHistory
    by p = elim p as (λ _. SecondaryHistory) [
      | protocol.A ↦ h
      | protocol.B ↦ with_secondary_connection (λ c. record c { due = c.due ++ RecvAckFrame (naming place item) ∷ [] }) h
      | protocol.C ↦ h
    ]

    go : (p : Protocol) → ((by p).settings ≡ h.settings) × ((by p).tuple ≡ h.tuple) × ((by p).consistent ≡ h.consistent)
    go protocol.A = (refl, refl, refl)
    go protocol.B = (refl, refl, refl)
    go protocol.C = (refl, refl, refl)
