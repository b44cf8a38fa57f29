-- Of what a secondary took on a connection no two items of one epoch share a block.
use Rattle.std.proofs.Common.{ℕ, ◌-◌, ◌≡◌, ◌<◌, ◌⊎◌, inl, inr, Bool, true, false, List, [], ◌∷◌, ◌++◌, length, map, Option, Some, None, slice_get}
use Rattle.std.proofs.Common.{Ok, Err, refl, sym, ◌∙◌, ap, subst, arith, nat_lt}
use Rattle.std.proofs.lemmas.Bool.{both_ways, false_from_ne_true, ltb-true}
use Rattle.std.proofs.lemmas.Option.{slice_get_within}
use Rattle.blocks.specs.declared.refusal.Refusal.{Refusal}
use Rattle.blocks.specs.declared.settings.Protocol.{Protocol}
use Rattle.blocks.specs.declared.outcome.Reply.{Reply}
use Rattle.model.specs.Stream.{StreamItem, WriteItem, ResyncItem, BarrierItem, SyncUuidItem, UuidsItem, contents_of, items_meet, epoch_of, last_epoch}
use Rattle.model.specs.Frames.{Packet, Received}
use Rattle.model.specs.Primary.{last_of, change_last}
use Rattle.model.specs.Secondary.{SecondaryConnection, SecondaryHistory, secondary_opening, secondary_connection, no_secondary_connection}
use Rattle.model.specs.Secondary.{with_secondary_connection, items_taken, received_item}
use Rattle.model.specs.SecondarySteps.{Checked, checking, checking_hello, checking_item, adopting, take_item, applied_with}
use Rattle.model.specs.SecondarySteps.{receive, opened_secondary, answering, barrier_answer, barriers_to_answer, applying}
use Rattle.model.specs.SecondarySteps.{failing}
use Rattle.model.specs.LocalRuns.{SecondaryEvent, OpensToo, Receives, Applies, FailsToApply, Acknowledges, ClosesToo, secondary_after, secondary_run}
use Rattle.laws.proofs.Lists.Elements.{get-more}
use Rattle.laws.proofs.Lists.Last.{change-twice, last-change, last-more}
use Rattle.laws.proofs.Lists.Each.{each-get}
use Rattle.laws.proofs.Secondary.Good.{IsGood, items-refusing}
use Rattle.laws.proofs.Secondary.Moves.{framed, receipting, pushed_one, closed_end, after-take, after-open, after-peer, after-fault, after-push}
use Rattle.laws.proofs.Secondary.Moves.{after-close}
use Rattle.laws.proofs.Secondary.Runs.{IsKept, kept-after, kept-opening}
use Rattle.laws.proofs.Secondary.Tuples.{taken-item, open-there}
use Rattle.laws.proofs.Streams.Lawful.{epoch-end, meets-none}
use Rattle.laws.proofs.Streams.Places.{epoch-grows}
use Rattle.secondary_protocol.specs.Node.{IsReached}
use Rattle.secondary_protocol.proofs.Judged.{early-items}
use Rattle.laws.proofs.Rules.Memory.{receive-has}
use Rattle.laws.proofs.Rules.RefusedFrames.{refused_in, refused-last-too, item-refused, refused_by_too}
use Rattle.laws.proofs.Rules.TakenItems.{item-checked}

-- No two items of one epoch share a block.
pub record AreApart (items : List StreamItem) : Type 0 where
  pub apart : (place later : ℕ) (a b : StreamItem) → place < later → epoch_of items place ≡ epoch_of items later → slice_get items place ≡ Some a
      → slice_get items later ≡ Some b → items_meet a b ≡ false

none-apart : AreApart []
none-apart = record { apart = λ place later a b before same ata atb. absurd (cc) }

-- an item may follow that meets none of the last epoch
apart-append : (items : List StreamItem) (item : StreamItem) → AreApart items
    → ((place : ℕ) (a : StreamItem) → epoch_of items place ≡ last_epoch items → slice_get items place ≡ Some a → items_meet a item ≡ false)
    → AreApart (items ++ item ∷ [])
apart-append items item old new =
    record { apart = λ place later a b before same ata atb. go place later a b before same (get-more items item place a ata) (get-more items item later b atb) }
  where
    grown : (place : ℕ) (a : StreamItem) → slice_get items place ≡ Some a → epoch_of (items ++ item ∷ []) place ≡ epoch_of items place
    grown place a at = epoch-grows items (item ∷ []) place (let n = slice_get_within items place a at in omega arith)

    go : (place later : ℕ) (a b : StreamItem) → place < later → epoch_of (items ++ item ∷ []) place ≡ epoch_of (items ++ item ∷ []) later
        → (slice_get items place ≡ Some a) ⊎ ((place ≡ length items) × (a ≡ item)) → (slice_get items later ≡ Some b) ⊎ ((later ≡ length items) × (b ≡ item))
        → items_meet a b ≡ false
    go place later a b before same (inl ata) (inl atb) = old.apart place later a b before (sym (grown place a ata) ∙ (same ∙ grown later b atb)) ata atb
    go place later a b before same (inl ata) (inr last) =
        let end : epoch_of (items ++ item ∷ []) later ≡ last_epoch items = ap (epoch_of (items ++ item ∷ [])) last.0 ∙ epoch-end items (item ∷ []) in
        subst (λ (x : StreamItem). items_meet a x ≡ false) (sym last.1) (new place a (sym (grown place a ata) ∙ (same ∙ end)) ata)
    go place later a b before same (inr last) (inl atb) = absurd (let n = slice_get_within items later b atb in let e = last.0 in omega arith)
    go place later a b before same (inr last) (inr end) = absurd (let n = end.0 in let e = last.0 in omega arith)

-- A frame leaves the items apart, or is refused.
fine-or-refused : (frame : Received) (c : SecondaryConnection) (t : SecondaryHistory) → c.refused ≡ false → AreApart (items_taken c)
    → AreApart (items_taken (framed frame c)) ⊎ ((e : Refusal) × (checking frame c t ≡ Err e))
fine-or-refused (Err fault) c t plain was = inr (fault, refl)
fine-or-refused (Ok packet) c t plain was = go (nat_lt (length c.taken) 3) refl
  where
    Outcome : Checked → Type 0
    Outcome v = AreApart (items_taken (framed (Ok packet) c)) ⊎ ((e : Refusal) × (v ≡ Err e))

    with-item : (item : StreamItem) → nat_lt (length c.taken) 3 ≡ false → received_item (Ok packet) ≡ Some item
        → ((place : ℕ) (a : StreamItem) → epoch_of (items_taken c) place ≡ last_epoch (items_taken c) → slice_get (items_taken c) place ≡ Some a
        → items_meet a item ≡ false)
        → AreApart (items_taken (framed (Ok packet) c))
    with-item item late brings new = subst AreApart (sym (taken-item (Ok packet) item c plain late brings)) (apart-append (items_taken c) item was new)

    without : (item : StreamItem) → nat_lt (length c.taken) 3 ≡ false → received_item (Ok packet) ≡ Some item → length (contents_of item) ≡ 0
        → AreApart (items_taken (framed (Ok packet) c))
    without item late brings none = with-item item late brings (λ place a epoch at. meets-none a item none)

    by-item : nat_lt (length c.taken) 3 ≡ false → Outcome (checking_item packet (length (items_taken c)) c t)
    by-item late = item-checked Outcome packet (length (items_taken c)) c t
        (λ write at is may. inl (with-item (WriteItem write) late (ap (λ (p : Packet). received_item (Ok p)) is) may.apart))
        (λ block contents at is may. inl (with-item (ResyncItem block contents) late (ap (λ (p : Packet). received_item (Ok p)) is) may.apart))
        (λ number is. inl (without (BarrierItem number) late (ap (λ (p : Packet). received_item (Ok p)) is) refl))
        (λ word is. inl (without (SyncUuidItem word) late (ap (λ (p : Packet). received_item (Ok p)) is) refl))
        (λ tuple is. inl (without (UuidsItem tuple) late (ap (λ (p : Packet). received_item (Ok p)) is) refl)) (λ refusal. inr (refusal, refl))

    go : (b : Bool) → nat_lt (length c.taken) 3 ≡ b
        → AreApart (items_taken (framed (Ok packet) c))
        ⊎ ((e : Refusal) × (elim b as (λ _. Checked) [
          | true ↦ checking_hello (length c.taken) packet t
          | false ↦ checking_item packet
              (length (items_taken c)) c t
        ] ≡ Err e))
    go true early = inl (subst AreApart (sym (early-items (Ok packet) c plain (ltb-true (length c.taken) 3 early))) was)
    go false late = by-item late

-- The last connection's items are apart.
abbrev IsApart : SecondaryHistory → Type 0
IsApart h = AreApart (items_taken (secondary_connection h))

changed : (f : SecondaryConnection → SecondaryConnection) (h later : SecondaryHistory) → later.connections ≡ change_last f h.connections
    → AreApart (items_taken (f (secondary_connection h)))
    → IsApart later
changed f h later is fine = elim (last-change f (no_secondary_connection h) (no_secondary_connection later) h.connections) [
  | inl none ↦ subst (λ (l : List SecondaryConnection). AreApart (items_taken (last_of (no_secondary_connection later) l)))
      (sym (is ∙ ap (change_last f) none)) none-apart
  | inr same ↦ subst (λ (c : SecondaryConnection). AreApart (items_taken c)) (sym (ap (last_of (no_secondary_connection later)) is ∙ same)) fine
]

apart-answering : (d : SecondaryConnection) → AreApart (items_taken d) → AreApart (items_taken (answering d))
apart-answering d fine = go d.closed
  where
    go : (b : Bool) → AreApart (items_taken
        (elim b as (λ _. SecondaryConnection) [ true ↦ d | false ↦ record d { due = d.due ++ map (barrier_answer d) (barriers_to_answer d) } ]))
    go true = fine
    go false = fine

apart-applying : (asked : Protocol) (place : ℕ) (d : SecondaryConnection) → AreApart (items_taken d) → AreApart (items_taken (applying asked place d))
apart-applying asked place d fine = go (slice_get (items_taken d) place)
  where
    go : (v : Option StreamItem) → AreApart (items_taken (applied_with v asked place d))
    go None = fine
    go (Some item) = fine

-- a frame is taken at an open end
apart-take : (frame : Received) (h : SecondaryHistory) → (secondary_connection h).closed ≡ false → (secondary_connection h).refused ≡ false → IsApart h
    → IsApart (take_item frame h).1
apart-take frame h is_established plain was = elim (fine-or-refused frame (secondary_connection h) taken plain was) [
  | inl fine ↦ after-take IsApart h frame (record {
    accepts = changed (λ x. answering (framed frame x)) h (with_secondary_connection answering taken) (change-twice (framed frame) answering h.connections)
        (apart-answering (framed frame c) fine);
    receipts = λ write at is late. changed (λ x. answering (receipting (length (items_taken c)) write (framed frame x))) h
        (with_secondary_connection answering (with_secondary_connection (receipting (length (items_taken c)) write) taken))
        (ap (λ l. change_last answering l) (change-twice (framed frame) (receipting (length (items_taken c)) write) h.connections)
        ∙ change-twice (λ x. receipting (length (items_taken c)) write (framed frame x)) answering h.connections)
        (apart-answering (receipting (length (items_taken c)) write (framed frame c)) fine);
    adopts = λ item tuple consistent is late. changed (λ x. answering (framed frame x)) h
        (with_secondary_connection answering (adopting tuple consistent taken))
        (change-twice (framed frame) answering h.connections) (apart-answering (framed frame c) fine);
    refuses = refused;
  })
  | inr shut ↦ subst (λ (r : Reply × SecondaryHistory). IsApart r.1) (sym (item-refused frame h shut.0 shut.1)) refused
]
  where
    c : SecondaryConnection
    c = secondary_connection h

    taken : SecondaryHistory
    taken = with_secondary_connection (framed frame) h

    refused : IsApart (refused_by_too frame h)
    refused = changed (λ x. refused_in frame x) h (refused_by_too frame h) (refused-last-too frame h)
        (subst AreApart (sym (items-refusing frame c plain)) was)

apart-receive : (frame : Option Received) (out_of_memory : Bool) (h : SecondaryHistory) → IsKept h → IsApart h → IsApart (receive frame out_of_memory h).1
apart-receive frame out_of_memory h kept was = receive-has (λ r. IsApart r.1) frame out_of_memory h (λ refusal other. was) (λ taken is is_established.
    let good = each-get IsGood h.connections (length h.connections - 1) (secondary_connection h) kept.good (open-there h is_established) in
    apart-take taken h is_established
    (false_from_ne_true (secondary_connection h).refused (λ refused. both_ways (secondary_connection h).closed is_established (good.refused refused))) was)

-- Every step keeps them so.
apart-after : (event : SecondaryEvent) (h : SecondaryHistory) → IsKept h → IsApart h → IsApart (secondary_after event h)
apart-after (OpensToo unseen) h kept was =
    after-open IsApart unseen h was
    (λ shut. changed answering (opened_secondary unseen h) (with_secondary_connection answering (opened_secondary unseen h)) refl
    (apart-answering (secondary_connection (opened_secondary unseen h))
    (subst (λ (c : SecondaryConnection). AreApart (items_taken c)) (sym (last-more (no_secondary_connection (opened_secondary unseen h)) _ h.connections))
    none-apart)))
apart-after (Receives frame out_of_memory) h kept was = apart-receive frame out_of_memory h kept was
apart-after (Applies place) h kept was =
    after-peer IsApart h place was (λ waits first. changed (λ x. answering (applying h.settings.protocol place x)) h
    (with_secondary_connection answering (with_secondary_connection (applying h.settings.protocol place) h))
    (change-twice (applying h.settings.protocol place) answering h.connections)
    (apart-answering (applying h.settings.protocol place (secondary_connection h)) (apart-applying h.settings.protocol place (secondary_connection h) was)))
apart-after (FailsToApply place offsets) h kept was = after-fault IsApart h place offsets was
    (λ waits first. changed (failing place offsets) h (with_secondary_connection (failing place offsets) h) refl was)
apart-after (Acknowledges room out_of_memory) h kept was = after-push IsApart h room out_of_memory was
    (λ is_established some. changed pushed_one h (with_secondary_connection pushed_one h) refl was)
apart-after ClosesToo h kept was = after-close IsApart h was (λ is_established. changed closed_end h (with_secondary_connection closed_end h) refl was)

-- On every history that is reached its last connection is sound, and no two items of one epoch of it share a block.
pub record IsSettled (h : SecondaryHistory) : Type 0 where
  pub kept : IsKept h
  pub apart : AreApart (items_taken (secondary_connection h))

run-settled : (events : List SecondaryEvent) (h : SecondaryHistory) → IsSettled h → IsSettled (secondary_run events h)
run-settled [] h is = is
run-settled (event ∷ events) h is = run-settled events (secondary_after event h)
    (record { kept = kept-after event h is.kept; apart = apart-after event h is.kept is.apart })

-- Each reached history is.
pub reached-settled : (h : SecondaryHistory) → IsReached h → IsSettled h
reached-settled h is = subst IsSettled (sym is.reached)
    (run-settled is.events (secondary_opening is.settings is.disk is.tuple) (record { kept = kept-opening is.settings is.disk is.tuple; apart = none-apart }))
