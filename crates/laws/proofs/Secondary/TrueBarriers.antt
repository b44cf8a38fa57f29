-- The acknowledgements of barriers and of resync blocks are true: what they cover was taken and is applied. No tuple is due.
use Rattle.std.proofs.Common.{ℕ, zero, suc, ◌≡◌, ◌+◌, ◌≤◌, inl, inr, Bool, true, false, not, ◌&&◌, ◌||◌, List, [], ◌∷◌, ◌++◌, length, map, Option, Some, None}
use Rattle.std.proofs.Common.{slice_get, refl, sym, ◌∙◌, ap, subst, arith, nat_le}
use Rattle.std.specs.List.{list_all}
use Rattle.std.proofs.lemmas.Bool.{cases_Bool, both_ways, and_parts, or_right, le-leb, cases_lt}
use Rattle.std.proofs.lemmas.List.{append-nil}
use Rattle.blocks.specs.declared.settings.Settings.{Settings}
use Rattle.blocks.specs.declared.settings.Protocol.{Protocol}
use Rattle.blocks.specs.declared.settings.Protocol.TheVariants as protocol
use Rattle.blocks.specs.declared.tuple.Tuple.{Tuple}
use Rattle.model.specs.Contents.{BlockMap, Write}
use Rattle.model.specs.Stream.{StreamItem, WriteItem, ResyncItem, BarrierItem, SyncUuidItem, UuidsItem, Part, is_in, is_whole, has_blocks, below, contents_of}
use Rattle.model.specs.Stream.{barriers_in, epoch_of, placed_from, within}
use Rattle.model.specs.Frames.{Packet, UuidsFrame, RecvAckFrame, WriteAckFrame, RsWriteAckFrame, BarrierAckFrame, Acknowledged, Received, naming}
use Rattle.model.specs.Secondary.{SecondaryConnection, SecondaryHistory, secondary_opening, no_secondary_connection, secondary_connection}
use Rattle.model.specs.Secondary.{with_secondary_connection, items_taken, is_applied_to, new_secondary_connection}
use Rattle.model.specs.SecondarySteps.{answering, barrier_answer, barriers_to_answer, opened_secondary, offsets_at, applied_answer, applying}
use Rattle.model.specs.SecondarySteps.{failing, adopting, applied_with}
use Rattle.model.specs.LocalRuns.{SecondaryEvent, secondary_after, secondary_run}
use Rattle.laws.proofs.Rules.BarrierAnswers as rule
use Rattle.laws.proofs.Rules.DiskFaults.{reached, fault-applied}
use Rattle.laws.proofs.Streams.Parts.{in-append, whole-grows, whole-from}
use Rattle.laws.proofs.Streams.Places.{barriers-append, epoch-grows, epoch-behind, get-grows}
use Rattle.laws.proofs.Secondary.Moves.{framed, receipting, pushed_one, closed_end, after-event}
use Rattle.laws.proofs.Secondary.TrueAnswers.{NamesApplied, in-below}
use Rattle.laws.proofs.Lists.Elements.{get-left, get-split}
use Rattle.laws.proofs.Lists.Picks.{pick-image}
use Rattle.laws.proofs.Lists.Each.{Each, each-get, each-append, each-change}
use Rattle.laws.proofs.Secondary.Good.{taking-more, items-refusing}
use Rattle.laws.proofs.Rules.RefusedFrames.{refused_in, refused-last-too}

-- Every item of the epochs up to a number is taken to its barrier, and applied.
pub record AnswersBarrier (d : SecondaryConnection) (number : ℕ) : Type 0 where
  pub upto : number ≤ barriers_in (items_taken d)
  pub whole : (place : ℕ) (item : StreamItem) → slice_get (items_taken d) place ≡ Some item → epoch_of (items_taken d) place ≤ number → has_blocks item ≡ true
      → is_whole d.applied place item ≡ true

-- What an acknowledgement of a resync block or of a barrier has to say truly. A tuple is never due.
abbrev pub IsTrueToo : SecondaryConnection → Packet → Type 0
IsTrueToo d (RsWriteAckFrame ack) = NamesApplied d ack
IsTrueToo d (BarrierAckFrame number size) = AnswersBarrier d number
IsTrueToo d (UuidsFrame tuple) = ⊥
IsTrueToo d _ = Unit {0}

-- A connection whose acknowledgements are true in this, and that is closed once it refused a frame.
pub record HasTrueAnswers (d : SecondaryConnection) : Type 0 where
  pub refused : d.refused ≡ true → d.closed ≡ true
  pub answers : (n : ℕ) (packet : Packet) → slice_get d.due n ≡ Some packet → IsTrueToo d packet

-- Items taken later stand behind the barriers, and what is applied stays so.
barrier-grows : (d e : SecondaryConnection) (items : List StreamItem) (part : Part) (number : ℕ) → items_taken e ≡ items_taken d ++ items
    → e.applied ≡ d.applied ++ part
    → AnswersBarrier d number → AnswersBarrier e number
barrier-grows d e items part number taken applied a = record {
  upto = let upto = a.upto in let more : barriers_in (items_taken e) ≡ barriers_in (items_taken d) + barriers_in items = ap barriers_in taken
      ∙ barriers-append (items_taken d) items in omega arith;
  whole = λ place item at early blocks.
      let there : slice_get (items_taken d ++ items) place ≡ Some item = subst (λ (l : List StreamItem). slice_get l place ≡ Some item) taken at in
      let soon : epoch_of (items_taken d ++ items) place ≤ number = subst (λ (l : List StreamItem). epoch_of l place ≤ number) taken early in
      elim (cases_lt place (length (items_taken d))) [
        | inl within ↦ rw applied (whole-grows d.applied part place item (a.whole place item (sym (get-grows (items_taken d) items place within)
            ∙ there) (let same = epoch-grows (items_taken d) items place (omega arith) in omega arith) blocks))
        | inr behind ↦ absurd (let late = epoch-behind (items_taken d) items place behind in let upto = a.upto in omega arith)
      ];
}

true-grows : (d e : SecondaryConnection) (items : List StreamItem) (part : Part) → items_taken e ≡ items_taken d ++ items → e.applied ≡ d.applied ++ part
    → (packet : Packet)
    → IsTrueToo d packet → IsTrueToo e packet
true-grows d e items part taken applied (RsWriteAckFrame ack) a =
    record {
      item = a.item;
      there = rw taken (get-left (items_taken d) items ack.place a.item a.there);
      whole = rw applied (whole-grows d.applied part ack.place a.item a.whole);
    }
true-grows d e items part taken applied (BarrierAckFrame number size) a = barrier-grows d e items part number taken applied a
true-grows d e items part taken applied (UuidsFrame tuple) a = a
true-grows d e items part taken applied packet a = tt

-- more is taken, applied and due, and the new answers are true
true-change : (d e : SecondaryConnection) (items : List StreamItem) (part : Part) (more : List Packet) → HasTrueAnswers d
    → items_taken e ≡ items_taken d ++ items
    → e.applied ≡ d.applied ++ part
    → e.due ≡ d.due ++ more → (e.refused ≡ true → e.closed ≡ true)
    → ((n : ℕ) (packet : Packet) → slice_get more n ≡ Some packet → IsTrueToo e packet) → HasTrueAnswers e
true-change d e items part more t taken applied due refused new = record {
  refused = refused;
  answers = λ n packet at. elim (get-split d.due more n packet (subst (λ (l : List Packet). slice_get l n ≡ Some packet) due at)) [
    | inl old ↦ true-grows d e items part taken applied packet (t.answers n packet old)
    | inr added ↦ new added.0 packet added.2
  ];
}

none-more : (e : SecondaryConnection) (n : ℕ) (packet : Packet) → slice_get [] n ≡ Some packet → IsTrueToo e packet
none-more e n packet at = absurd (cc)

-- Barriers that are answered.

-- a test that all items at their places pass
all-at : (test : ℕ × StreamItem → Bool) (start : ℕ) (items : List StreamItem) (n : ℕ) (item : StreamItem) → slice_get items n ≡ Some item
    → list_all test (placed_from start items) ≡ true → test (start + n, item) ≡ true
all-at test start [] n item at all = absurd (cc)
all-at test start (x ∷ items) zero item at all =
    let same : x ≡ item = cc in
    let here : start + 0 ≡ start = omega arith in
    rw (here, ← same) (and_parts (test (start, x)) (list_all test (placed_from (suc start) items)) all).0
all-at test start (x ∷ items) (suc n) item at all =
    let here : start + suc n ≡ suc start + n = omega arith in
    rw here (all-at test (suc start) items n item at (and_parts (test (start, x)) (list_all test (placed_from (suc start) items)) all).1)

implied : (a b c : Bool) → a ≡ true → b ≡ true → (not (a && b) || c) ≡ true → c ≡ true
implied true true c ha hb h = h
implied true false c ha hb h = absurd (cc)
implied false b c ha hb h = absurd (cc)

-- where all up to an epoch is applied, each item up to it is whole
pub applied-whole : (d : SecondaryConnection) (epoch place : ℕ) (item : StreamItem) → is_applied_to d epoch ≡ true → slice_get (items_taken d) place ≡ Some item
    → epoch_of (items_taken d) place ≤ epoch
    → has_blocks item ≡ true → is_whole d.applied place item ≡ true
applied-whole d epoch place item applied there early blocks =
    let test : ℕ × StreamItem → Bool = λ entry. not (nat_le (epoch_of (items_taken d) entry.0) epoch && has_blocks entry.1)
    || is_whole d.applied entry.0 entry.1 in
    let start : 0 + place ≡ place = omega arith in
    let passed : test (place, item) ≡ true = subst (λ m. test (m, item) ≡ true) start (all-at test 0 (items_taken d) place item there applied) in
    implied (nat_le (epoch_of (items_taken d) place) epoch) (has_blocks item) (is_whole d.applied place item)
    (le-leb (epoch_of (items_taken d) place) epoch early) blocks passed

-- a barrier that is answered now was taken, and what is before it is applied
answered-now : (d : SecondaryConnection) (n : ℕ) (packet : Packet) → slice_get (map (barrier_answer d) (barriers_to_answer d)) n ≡ Some packet
    → IsTrueToo d packet
answered-now d n packet at =
    let epoch = pick-image (barrier_answer d) (barriers_to_answer d) n packet at in
    let one = rule.answered-now d n epoch.0 epoch.1 in
    subst (IsTrueToo d) epoch.2 (record {
      upto = one.upto;
      whole = λ place item there early blocks. applied-whole d epoch.0 place item one.applied there early blocks;
    })

-- Changes of a connection.

true-answering : (d : SecondaryConnection) → HasTrueAnswers d → HasTrueAnswers (answering d)
true-answering d t = go d.closed
  where
    more : List Packet
    more = map (barrier_answer d) (barriers_to_answer d)

    go : (b : Bool) → HasTrueAnswers
        (elim b as (λ _. SecondaryConnection) [ true ↦ d | false ↦ record d { due = d.due ++ map (barrier_answer d) (barriers_to_answer d) } ])
    go true = t
    go false = true-change d (record d { due = d.due ++ more }) [] [] more t (sym (append-nil (items_taken d))) (sym (append-nil d.applied)) refl t.refused
        (λ n packet at. true-grows d (record d { due = d.due ++ more }) [] [] (sym (append-nil (items_taken d))) (sym (append-nil d.applied)) packet
        (answered-now d n packet at))

-- the end is open, so nothing was refused
plain : (d : SecondaryConnection) → HasTrueAnswers d → d.closed ≡ false → d.refused ≡ false
plain d t standing = elim (cases_Bool d.refused) [ inl was ↦ absurd (both_ways d.closed standing (t.refused was)) | inr not_so ↦ not_so ]

true-taking : (frame : Received) (d : SecondaryConnection) → d.closed ≡ false → HasTrueAnswers d → HasTrueAnswers (framed frame d)
true-taking frame d standing t =
    let more = taking-more frame d (plain d t standing) in
    true-change d (framed frame d) more.0 [] [] t more.1 (sym (append-nil d.applied)) (sym (append-nil d.due)) t.refused (none-more (framed frame d))

true-refusing : (frame : Received) (d : SecondaryConnection) → d.closed ≡ false → HasTrueAnswers d → HasTrueAnswers (refused_in frame d)
true-refusing frame d standing t =
    true-change d (refused_in frame d) [] [] [] t (items-refusing frame d (plain d t standing)
    ∙ sym (append-nil (items_taken d))) (sym (append-nil d.applied)) (sym (append-nil d.due)) (λ r. refl) (none-more (refused_in frame d))

true-receipting : (place : ℕ) (write : Write) (d : SecondaryConnection) → HasTrueAnswers d → HasTrueAnswers (receipting place write d)
true-receipting place write d t = true-change d (receipting place write d) [] [] (answer ∷ []) t (sym (append-nil (items_taken d)))
    (sym (append-nil d.applied)) refl t.refused new
  where
    answer : Packet
    answer = RecvAckFrame (naming place (WriteItem write))

    new : (n : ℕ) (packet : Packet) → slice_get (answer ∷ []) n ≡ Some packet → IsTrueToo (receipting place write d) packet
    new zero packet at = let same : answer ≡ packet = cc in subst (IsTrueToo (receipting place write d)) same tt
    new (suc n) packet at = absurd (cc)

-- what applying an item answers is true of it
answer-true : (asked : Protocol) (place : ℕ) (item : StreamItem) (e : SecondaryConnection) → slice_get (items_taken e) place ≡ Some item
    → is_whole e.applied place item ≡ true
    → (n : ℕ) (packet : Packet) → slice_get (applied_answer asked place item) n ≡ Some packet → IsTrueToo e packet
answer-true protocol.A place (WriteItem write) e is whole n packet at = absurd (cc)
answer-true protocol.B place (WriteItem write) e is whole n packet at = absurd (cc)
answer-true protocol.C place (WriteItem write) e is whole zero packet at = let same : WriteAckFrame (naming place (WriteItem write)) ≡ packet =
    cc in subst (IsTrueToo e) same tt
answer-true protocol.C place (WriteItem write) e is whole (suc n) packet at = absurd (cc)
answer-true asked place (ResyncItem block contents) e is whole zero packet at =
    let same : RsWriteAckFrame (naming place (ResyncItem block contents)) ≡ packet =
    cc in subst (IsTrueToo e) same (record { item = ResyncItem block contents; there = is; whole = whole })
answer-true asked place (ResyncItem block contents) e is whole (suc n) packet at = absurd (cc)
answer-true asked place (BarrierItem epoch) e is whole n packet at = absurd (cc)
answer-true asked place (SyncUuidItem word) e is whole n packet at = absurd (cc)
answer-true asked place (UuidsItem tuple) e is whole n packet at = absurd (cc)

-- an item is whole once all of its offsets are applied
pub applied-now : (before : Part) (place : ℕ) (item : StreamItem) → is_whole (before ++ offsets_at place (below (length (contents_of item)))) place item ≡ true
applied-now before place item =
    let part : Part = offsets_at place (below (length (contents_of item))) in
    whole-from (before ++ part) place item (λ k less. in-append before part place k
    ∙ or_right (is_in before place k) (is_in part place k) (in-below place (length (contents_of item)) k less))

true-applying : (asked : Protocol) (place : ℕ) (d : SecondaryConnection) → HasTrueAnswers d → HasTrueAnswers (applying asked place d)
true-applying asked place d t = go (slice_get (items_taken d) place) refl
  where
    go : (v : Option StreamItem) → slice_get (items_taken d) place ≡ v → HasTrueAnswers (applied_with v asked place d)
    go None is = t
    go (Some item) is = due d.closed
      where
        part : Part
        part = offsets_at place (below (length (contents_of item)))

        due : (b : Bool)
            → HasTrueAnswers (record d {
              applied = d.applied ++ offsets_at place (below (length (contents_of item)));
              due = elim b as (λ _. List Packet) [ true ↦ d.due | false ↦ d.due ++ applied_answer asked place item ];
            })
        due true = true-change d _ [] part [] t (sym (append-nil (items_taken d))) refl (sym (append-nil d.due)) t.refused (none-more _)
        due false = true-change d _ [] part (applied_answer asked place item) t (sym (append-nil (items_taken d))) refl refl t.refused
            (answer-true asked place item _ is (applied-now d.applied place item))

true-failing : (place : ℕ) (offsets : List ℕ) (d : SecondaryConnection) → HasTrueAnswers d → HasTrueAnswers (failing place offsets d)
true-failing place offsets d t =
    true-change d (failing place offsets d) [] (offsets_at place (reached place offsets d)) [] t
    (sym (append-nil (items_taken d))) (fault-applied place offsets d) (sym (append-nil d.due)) (λ r. refl) (none-more (failing place offsets d))

true-same : (d e : SecondaryConnection) → HasTrueAnswers d → items_taken e ≡ items_taken d → e.applied ≡ d.applied → e.due ≡ d.due
    → (e.refused ≡ true → e.closed ≡ true)
    → HasTrueAnswers e
true-same d e t items applied due refused = true-change d e [] [] [] t (items ∙ sym (append-nil (items_taken d))) (applied ∙ sym (append-nil d.applied)) (due
    ∙ sym (append-nil d.due)) refused (none-more e)

true-new : (number : ℕ) (disk : BlockMap) (hello : Tuple)
    → HasTrueAnswers (new_secondary_connection number disk hello)
true-new number disk hello = record { refused = λ r. absurd (cc); answers = λ n packet at. absurd (cc) }

-- All connections, over every list of events.

-- the answers of every connection are true
abbrev AllTrue : SecondaryHistory → Type 0
AllTrue h = Each HasTrueAnswers h.connections

true-with : (f : SecondaryConnection → SecondaryConnection) (h : SecondaryHistory) → AllTrue h
    → (HasTrueAnswers (secondary_connection h) → HasTrueAnswers (f (secondary_connection h))) → AllTrue (with_secondary_connection f h)
true-with f h all keeps = each-change HasTrueAnswers f (no_secondary_connection h) h.connections all keeps

then-answering : (h : SecondaryHistory) → AllTrue h → AllTrue (with_secondary_connection answering h)
then-answering h all = true-with answering h all (true-answering (secondary_connection h))

true-after : (event : SecondaryEvent) (h : SecondaryHistory) → AllTrue h → AllTrue (secondary_after event h)
true-after event h all = after-event AllTrue h event (record {
  same = all;
  opens = λ unseen was. then-answering (opened_secondary unseen h) (each-append HasTrueAnswers h.connections _ all (true-new _ _ _));
  takes = λ frame standing.
      let taken : AllTrue (with_secondary_connection (framed frame) h) = true-with (framed frame) h all (true-taking frame (secondary_connection h) standing) in
      record {
        accepts = then-answering (with_secondary_connection (framed frame) h) taken;
        receipts =
            λ write at is late. then-answering
            (with_secondary_connection (receipting (length (items_taken (secondary_connection h))) write) (with_secondary_connection (framed frame) h))
            (true-with (receipting (length (items_taken (secondary_connection h))) write) (with_secondary_connection (framed frame) h) taken
            (true-receipting (length (items_taken (secondary_connection h))) write (secondary_connection (with_secondary_connection (framed frame) h))));
        adopts = λ item tuple consistent is late. then-answering (adopting tuple consistent (with_secondary_connection (framed frame) h)) taken;
        refuses = rw (refused-last-too frame h)
            (true-with (refused_in frame) h all (true-refusing frame (secondary_connection h) standing));
      };
  applies = λ place waiting first. then-answering (with_secondary_connection (applying h.settings.protocol place) h)
      (true-with (applying h.settings.protocol place) h all (true-applying h.settings.protocol place (secondary_connection h)));
  fails = λ place offsets waiting first. true-with (failing place offsets) h all (true-failing place offsets (secondary_connection h));
  pushes = λ standing due. true-with pushed_one h all
      (λ t. true-same (secondary_connection h) (pushed_one (secondary_connection h)) t refl refl refl t.refused);
  closes = λ standing. true-with closed_end h all (λ t. true-same (secondary_connection h) (closed_end (secondary_connection h)) t refl refl refl (λ r. refl));
})

true-run : (events : List SecondaryEvent) (h : SecondaryHistory) → AllTrue h → AllTrue (secondary_run events h)
true-run [] h all = all
true-run (event ∷ events) h all = true-run events (secondary_after event h) (true-after event h all)

-- what is due after a run of a secondary is true
due-true : (settings : Settings) (disk : BlockMap) (tuple : Tuple) (events : List SecondaryEvent) (k n : ℕ) (d : SecondaryConnection) (packet : Packet)
    → slice_get (secondary_run events (secondary_opening settings disk tuple)).connections k ≡ Some d → slice_get d.due n ≡ Some packet → IsTrueToo d packet
due-true settings disk tuple events k n d packet at there =
    (each-get HasTrueAnswers (secondary_run events (secondary_opening settings disk tuple)).connections k d
    (true-run events (secondary_opening settings disk tuple) tt) at).answers n packet there

-- What is due at a secondary is never a tuple.
pub due_is_no_tuple : (settings : Settings) (disk : BlockMap) (tuple : Tuple) (events : List SecondaryEvent) (k n : ℕ) (d : SecondaryConnection) (t : Tuple)
    → slice_get (secondary_run events (secondary_opening settings disk tuple)).connections k ≡ Some d → slice_get d.due n ≡ Some (UuidsFrame t) → ⊥
due_is_no_tuple settings disk tuple events k n d t at there = due-true settings disk tuple events k n d (UuidsFrame t) at there

-- A resync block that is acknowledged was taken, and all of it is applied.
pub resynced_is_applied : (settings : Settings) (disk : BlockMap) (tuple : Tuple) (events : List SecondaryEvent) (k n : ℕ) (d : SecondaryConnection)
    (ack : Acknowledged)
    → slice_get (secondary_run events (secondary_opening settings disk tuple)).connections k ≡ Some d → slice_get d.due n ≡ Some (RsWriteAckFrame ack)
    → (item : StreamItem) × (slice_get (items_taken d) ack.place ≡ Some item) × (is_whole d.applied ack.place item ≡ true)
resynced_is_applied settings disk tuple events k n d ack at there =
    let names : NamesApplied d ack = due-true settings disk tuple events k n d (RsWriteAckFrame ack) at there in
    (names.item, names.there, names.whole)

-- A barrier that is acknowledged was taken, and every block of the epochs up to it is applied.
pub barrier_is_applied : (settings : Settings) (disk : BlockMap) (tuple : Tuple) (events : List SecondaryEvent) (k n : ℕ) (d : SecondaryConnection)
    (number size : ℕ)
    → slice_get (secondary_run events (secondary_opening settings disk tuple)).connections k ≡ Some d → slice_get d.due n ≡ Some (BarrierAckFrame number size)
    → (number ≤ barriers_in (items_taken d)) × ((place : ℕ) (item : StreamItem) → slice_get (items_taken d) place ≡ Some item
    → epoch_of (items_taken d) place ≤ number → has_blocks item ≡ true → is_whole d.applied place item ≡ true)
barrier_is_applied settings disk tuple events k n d number size at there =
    let a : AnswersBarrier d number = due-true settings disk tuple events k n d (BarrierAckFrame number size) at there in
    (a.upto, a.whole)
