-- The primary accepts each frame that the secondary pushed, or refuses the tuple of its hello: an acknowledgement that was due
-- is of an item that was sent, comes once, and a barrier's comes in its turn.
use Rattle.std.proofs.Common.{ℕ, zero, suc, ◌≡◌, ◌-◌, ◌<◌, ◌⊎◌, inl, inr, Bool, true, false, cond, not, ◌&&◌, ◌||◌, List, [], ◌∷◌, ◌++◌, length, take, map}
use Rattle.std.proofs.Common.{Option, Some, None, slice_get, Result, Ok, Err, refl, sym, ◌∙◌, ap, subst, arith, nat_lt}
use Rattle.std.specs.List.{list_any}
use Rattle.std.proofs.lemmas.Bool.{cases_lt, and_parts, and_from, eq-eqb, lt-ltb, not_from_false}
use Rattle.std.proofs.lemmas.Option.{slice_get_within}
use Rattle.blocks.specs.declared.refusal.Refusal.{Refusal}
use Rattle.blocks.specs.declared.refusal.Refusal.TheVariants.{UsedIdentifier}
use Rattle.blocks.specs.declared.outcome.Decision.{Decision}
use Rattle.blocks.specs.declared.outcome.What.{What}
use Rattle.blocks.specs.declared.outcome.What.TheVariants as what
use Rattle.blocks.specs.declared.settings.Settings.{Settings}
use Rattle.blocks.specs.declared.settings.Protocol.{Protocol}
use Rattle.blocks.specs.declared.settings.Protocol.TheVariants as protocol
use Rattle.blocks.specs.declared.tuple.Tuple.{Tuple}
use Rattle.model.specs.Contents.{Write, is_range}
use Rattle.model.specs.Stream.{StreamItem, WriteItem, ResyncItem, BarrierItem, has_blocks, is_write, epoch_of, epoch_size}
use Rattle.model.specs.Stream.{IsBeginning}
use Rattle.model.specs.Frames.{Packet, ProtocolFrame, SizesFrame, UuidsFrame, RecvAckFrame, WriteAckFrame, RsWriteAckFrame, BarrierAckFrame, Acknowledged}
use Rattle.model.specs.Frames.{Received, naming, hello_of}
use Rattle.model.specs.Identifiers.{stands_in, decision}
use Rattle.model.specs.Primary.{PrimaryConnection, PrimaryHistory, primary_connection, items_sent, accepted_frames, same_naming, is_recv_ack, is_write_ack}
use Rattle.model.specs.Primary.{is_rs_write_ack}
use Rattle.model.specs.Primary.{is_answered_by, is_barrier_ack, was_received, was_written, was_resynced, barrier_acknowledged, is_resync}
use Rattle.model.specs.Secondary.{SecondaryConnection, items_taken, answers_due}
use Rattle.model.specs.Acknowledgements.{same_protocol, Taken, begun_with, meeting, taking_hello, names_sent, was_named, is_protocol}
use Rattle.model.specs.Acknowledgements.{taking_ack, taking}
use Rattle.laws.proofs.Rules.AckTurns.{IsTurn, turn-by}
use Rattle.laws.proofs.Rules.Decisions.{decision-has}
use Rattle.laws.specs.Statements.{is_protocol_error}
use Rattle.laws.proofs.Lists.Beginnings.{begins-take, begins-trans, get-beginning}
use Rattle.laws.proofs.Lists.Fronts.{get-front}
use Rattle.laws.proofs.Streams.Barriers.{barrier-of, behind-barrier}
use Rattle.laws.proofs.Streams.Places.{epoch-grows, epoch-behind, get-grows}
use Rattle.laws.proofs.Joining.Taking.{read}
use Rattle.laws.proofs.Joining.HonestEnds.{AreHonestEnds, protocol-self, accepted-front}
use Rattle.laws.proofs.Secondary.Fits.{is_said, is_answered_to, FitsReceived, FitsWritten, FitsResynced, FitsBarrier, Fits, size-stays, same-self}
use Rattle.laws.proofs.Rules.Answered.{answered-or}

-- a frame that is accepted, or refused but not as a protocol error
abbrev pub IsFineToo : Taken → Type 0
IsFineToo (Ok done) = Unit {0}
IsFineToo (Err error) = is_protocol_error error.0 ≡ false

fine-if : (good : Bool) (done : What × PrimaryHistory) (error : Refusal × PrimaryHistory) → good ≡ true → IsFineToo (cond good (Ok done) (Err error))
fine-if true done error is = tt
fine-if false done error is = absurd (cc)

-- The hello.

-- a decision that refuses does not refuse as a protocol error
abbrev IsMild : Result Decision Refusal → Type 0
IsMild (Ok decided) = Unit {0}
IsMild (Err refusal) = is_protocol_error refusal ≡ false

decision-mild : (own peer : Tuple) → IsMild (decision own peer)
decision-mild = decision-has IsMild (λ decided. tt) refl refl refl

meeting-fine : (peer : Tuple) (h : PrimaryHistory) → IsFineToo (meeting peer h)
meeting-fine peer h = go (stands_in (primary_connection h).sync peer || stands_in (primary_connection h).loss peer) (decision h.tuple peer)
    (decision-mild h.tuple peer)
  where
    go : (used : Bool) (v : Result Decision Refusal) → IsMild v → IsFineToo (elim used as (λ _. Taken) [
      | true ↦ Err (UsedIdentifier, record h { peer = Some peer })
      | false ↦ elim v as (λ _. Taken) [
        | Err refusal ↦ Err (refusal, record h { peer = Some peer })
        | Ok decided ↦ Ok (
          what.Decided decided,
          begun_with decided (record h { peer = Some peer }),
        )
      ]
    ])
    go true v mild = refl
    go false (Err refusal) mild = mild
    go false (Ok decided) mild = tt

hello-fine : (settings : Settings) (tuple : Tuple) (rest : List Packet) (n : ℕ) (packet : Packet) (h : PrimaryHistory) → h.settings ≡ settings → n < 3
    → slice_get (hello_of settings tuple ++ rest) n ≡ Some packet → IsFineToo (taking_hello n packet h)
hello-fine settings tuple rest zero packet h same early at =
    let is : ProtocolFrame settings.protocol ≡ packet = cc in
    subst (λ p. IsFineToo (taking_hello 0 p h)) is (fine-if _ _ _ (rw same (protocol-self settings.protocol)))
hello-fine settings tuple rest (suc zero) packet h same early at =
    let is : SizesFrame settings.blocks ≡ packet = cc in
    subst (λ p. IsFineToo (taking_hello 1 p h)) is (fine-if _ _ _ (eq-eqb settings.blocks h.settings.blocks (ap (λ (s : Settings). s.blocks) (sym same))))
hello-fine settings tuple rest (suc (suc zero)) packet h same early at =
    let is : UuidsFrame tuple ≡ packet = cc in
    subst (λ p. IsFineToo (taking_hello 2 p h)) is (meeting-fine tuple h)
hello-fine settings tuple rest (suc (suc (suc n))) packet h same early at = absurd (omega arith)

-- Acknowledgements.

-- What is known of an acknowledgement that comes: the end has taken the hello and so many acknowledgements, and what was taken
-- of the stream begins what was sent.
record Comes (settings : Settings) (h : PrimaryHistory) (d : SecondaryConnection) (m : ℕ) : Type 0 where
  pub setting : h.settings ≡ settings
  pub ends : AreHonestEnds settings (primary_connection h) d
  pub accepted : accepted_frames (primary_connection h) ≡ map read (hello_of settings d.hello ++ take m d.due)
  pub begins : IsBeginning (items_taken d) (take (items_sent (primary_connection h)) (primary_connection h).stream)

said-read : (test : Received → Bool) (packets : List Packet) → list_any test (map read packets) ≡ is_said test packets
said-read test [] = refl
said-read test (x ∷ packets) = ap (λ b. test (Ok x) || b) (said-read test packets)

-- what was accepted passes a test that no hello passes as what was due does
said-before : (settings : Settings) (h : PrimaryHistory) (d : SecondaryConnection) (m : ℕ) (test : Received → Bool) → Comes settings h d m
    → is_said test (hello_of settings d.hello ++ take m d.due) ≡ is_said test (take m d.due)
    → list_any test (accepted_frames (primary_connection h)) ≡ is_said test (take m d.due)
said-before settings h d m test k plain = ap (list_any test) k.accepted ∙ (said-read test (hello_of settings d.hello ++ take m d.due) ∙ plain)

-- an item that was taken was sent
was-sent : (settings : Settings) (h : PrimaryHistory) (d : SecondaryConnection) (m place : ℕ) (item : StreamItem) → Comes settings h d m
    → slice_get (items_taken d) place ≡ Some item
    → (slice_get (primary_connection h).stream place ≡ Some item) × (place < items_sent (primary_connection h))
was-sent settings h d m place item k at =
    let found = get-front (items_sent (primary_connection h)) (primary_connection h).stream place item
    (get-beginning (items_taken d) (take (items_sent (primary_connection h)) (primary_connection h).stream) place item k.begins at) in
    (found.1, found.0)

-- an acknowledgement that names an item taken names one that was sent
names-item : (settings : Settings) (h : PrimaryHistory) (d : SecondaryConnection) (m : ℕ) (kind : StreamItem → Bool) (ack : Acknowledged) (item : StreamItem)
    → Comes settings h d m
    → slice_get (items_taken d) ack.place ≡ Some item
    → kind item ≡ true → naming ack.place item ≡ ack → names_sent kind ack (primary_connection h) ≡ true
names-item settings h d m kind ack item k at is names =
    let sent = was-sent settings h d m ack.place item k at in
    ap (λ (v : Option StreamItem). elim v as (λ _. Bool) [
      | None ↦ false
      | Some i ↦ (kind i && same_naming (naming ack.place i) ack)
          && nat_lt ack.place (items_sent (primary_connection h))
    ]) sent.0
    ∙ and_from _ _ (and_from _ _ is (subst (λ (a : Acknowledged). same_naming (naming ack.place item) a ≡ true) names (same-self (naming ack.place item))))
    (lt-ltb ack.place (items_sent (primary_connection h)) sent.1)

-- and was not named before
not-named : (settings : Settings) (h : PrimaryHistory) (d : SecondaryConnection) (m : ℕ) (before : PrimaryConnection → ℕ → StreamItem
    → Bool) (ack : Acknowledged) (item : StreamItem)
    → Comes settings h d m → slice_get (items_taken d) ack.place ≡ Some item
    → before (primary_connection h) ack.place item ≡ false → not (was_named before ack (primary_connection h)) ≡ true
not-named settings h d m before ack item k at fresh =
    let sent = was-sent settings h d m ack.place item k at in
    not_from_false _ (ap (λ (v : Option StreamItem). elim v as (λ _. Bool) [ None ↦ false | Some i ↦ before (primary_connection h) ack.place i ]) sent.0
    ∙ fresh)

-- the protocol of the connection is the one that the acknowledgement is of
of-protocol : (settings : Settings) (h : PrimaryHistory) (asked : Protocol) → h.settings ≡ settings → settings.protocol ≡ asked → is_protocol asked h ≡ true
of-protocol settings h asked same is = ap (λ (s : Settings). same_protocol asked s.protocol) same ∙ (ap (same_protocol asked) is ∙ protocol-self asked)

-- a RECV_ACK that fits is accepted
received-fine : (settings : Settings) (h taken : PrimaryHistory) (d : SecondaryConnection) (m : ℕ) (ack : Acknowledged) → Comes settings h d m
    → FitsReceived settings.protocol (items_taken d) (take m d.due) ack → IsFineToo (taking_ack (RecvAckFrame ack) h taken)
received-fine settings h taken d m ack k f =
    fine-if _ _ _ (and_from _ _ (and_from _ _ (of-protocol settings h protocol.B k.setting f.protocol)
    (names-item settings h d m is_write ack (WriteItem f.write) k f.there refl f.names))
    (not-named settings h d m was_received ack (WriteItem f.write) k f.there
    (said-before settings h d m (is_recv_ack (naming ack.place (WriteItem f.write))) k refl ∙ f.first)))

-- so is a WRITE_ACK
written-fine : (settings : Settings) (h taken : PrimaryHistory) (d : SecondaryConnection) (m : ℕ) (ack : Acknowledged) → Comes settings h d m
    → FitsWritten settings.protocol (items_taken d) d.applied (take m d.due) ack → IsFineToo (taking_ack (WriteAckFrame ack) h taken)
written-fine settings h taken d m ack k f =
    fine-if _ _ _ (and_from _ _ (and_from _ _ (of-protocol settings h protocol.C k.setting f.protocol)
    (names-item settings h d m is_write ack (WriteItem f.write) k f.there refl f.names))
    (not-named settings h d m was_written ack (WriteItem f.write) k f.there
    (said-before settings h d m (is_write_ack (naming ack.place (WriteItem f.write))) k refl ∙ f.first)))

-- so is the acknowledgement of a resync block
resynced-fine : (settings : Settings) (h taken : PrimaryHistory) (d : SecondaryConnection) (m : ℕ) (ack : Acknowledged) → Comes settings h d m
    → FitsResynced (items_taken d) d.applied (take m d.due) ack → IsFineToo (taking_ack (RsWriteAckFrame ack) h taken)
resynced-fine settings h taken d m ack k f =
    fine-if _ _ _ (and_from _ _ (names-item settings h d m is_resync ack (ResyncItem f.block f.contents) k f.there refl f.names)
    (not-named settings h d m was_resynced ack (ResyncItem f.block f.contents) k f.there
    (said-before settings h d m (is_rs_write_ack (naming ack.place (ResyncItem f.block f.contents))) k refl ∙ f.first)))

-- Barriers.

-- the whole stream goes on behind what was taken
stream-begins : (settings : Settings) (h : PrimaryHistory) (d : SecondaryConnection) (m : ℕ) → Comes settings h d m
    → IsBeginning (items_taken d) (primary_connection h).stream
stream-begins settings h d m k = begins-trans (items_taken d) (take (items_sent (primary_connection h)) (primary_connection h).stream)
    (primary_connection h).stream k.begins
    (begins-take (items_sent (primary_connection h)) (primary_connection h).stream)

-- a barrier's acknowledgement was accepted if it was due before
barrier-before : (settings : Settings) (h : PrimaryHistory) (d : SecondaryConnection) (m epoch : ℕ) → Comes settings h d m
    → barrier_acknowledged (primary_connection h) epoch ≡ is_said (is_barrier_ack epoch) (take m d.due)
barrier-before settings h d m epoch k = said-before settings h d m (is_barrier_ack epoch) k refl

-- what the protocol asks of an item with blocks of the epoch was due
asked-of : (settings : Settings) (h : PrimaryHistory) (d : SecondaryConnection) (m number size place : ℕ) (item : StreamItem) → Comes settings h d m
    → FitsBarrier settings.protocol (items_taken d) (take m d.due) number size → slice_get (primary_connection h).stream place ≡ Some item
    → epoch_of (primary_connection h).stream place ≡ number → has_blocks item ≡ true → is_answered_to settings.protocol (take m d.due) place item ≡ true
asked-of settings h d m number size place item k f at is blocks =
    let begins = stream-begins settings h d m k in
    let whole : epoch_of (items_taken d ++ begins.0) place ≡ epoch_of (primary_connection h).stream place =
    ap (λ (l : List StreamItem). epoch_of l place) begins.1 in
    let upto = f.upto in
    elim (cases_lt place (length (items_taken d))) [
      | inl within ↦
          let taken : slice_get (items_taken d) place ≡ Some item = sym (get-grows (items_taken d) begins.0 place within)
          ∙ (ap (λ (l : List StreamItem). slice_get l place) begins.1 ∙ at) in
          let same = epoch-grows (items_taken d) begins.0 place (omega arith) in
          f.answered place item taken (omega arith) blocks
      | inr behind ↦ absurd (let late = epoch-behind (items_taken d) begins.0 place behind in omega arith)
    ]

-- A barrier's acknowledgement is in turn.
barrier-turn : (settings : Settings) (h : PrimaryHistory) (d : SecondaryConnection) (m number size : ℕ) → Comes settings h d m
    → FitsBarrier settings.protocol (items_taken d) (take m d.due) number size → IsTurn h number size
barrier-turn settings h d m number size k f =
    let begins = stream-begins settings h d m k in
    let there = barrier-of (items_taken d) number f.from f.upto in
    let within = slice_get_within (items_taken d) there.0 (BarrierItem there.1) there.2 in
    let sent = was-sent settings h d m there.0 (BarrierItem there.1) k there.2 in
    let within_stream = slice_get_within (primary_connection h).stream there.0 (BarrierItem there.1) sent.0 in
    let same : epoch_of (primary_connection h).stream there.0 ≡ epoch_of (items_taken d) there.0 = ap (λ (l : List StreamItem). epoch_of l there.0)
    (sym begins.1)
    ∙ epoch-grows (items_taken d) begins.0 there.0 (omega arith) in
    let epoch : there.1 ≡ number = k.ends.lawful.barriers there.0 there.1 sent.0 ∙ (same ∙ there.3) in
    let number_is : number ≡ epoch_of (primary_connection h).stream there.0 = sym (same ∙ there.3) in
    record {
      place = there.0;
      sent = sent.1;
      there = sent.0 ∙ ap (λ n. Some (BarrierItem n)) epoch;
      first = barrier-before settings h d m number k ∙ f.first;
      before = λ j e less at.
          let lawful : e ≡ epoch_of (primary_connection h).stream j = k.ends.lawful.barriers j e at in
          let later = behind-barrier (primary_connection h).stream j there.0 e less (omega arith) at in
          barrier-before settings h d m e k ∙ f.earlier e (omega arith) (omega arith);
      sized = f.counts ∙ (sym (size-stays (items_taken d) begins.0 number f.upto) ∙ ap (λ (l : List StreamItem). epoch_size l number) begins.1);
      blocks = λ place block contents at is. said-before settings h d m (is_rs_write_ack (naming place (ResyncItem block contents))) k refl
          ∙ asked-of settings h d m number size place (ResyncItem block contents) k f at is refl;
      writes = λ place write at is.
          subst (λ (x : Settings). (x.protocol ≡ protocol.A) ⊎ (is_answered_by x.protocol (primary_connection h) place (WriteItem write) ≡ true))
          (sym k.setting)
          (answers settings.protocol place write (asked-of settings h d m number size place (WriteItem write) k f at is
          (some-blocks write (k.ends.fit.stream.stands place (WriteItem write) at))));
    }
  where
    -- each write in a stream has blocks
    some-blocks : (write : Write) → is_range settings write.first (length write.contents) ≡ true → has_blocks (WriteItem write) ≡ true
    some-blocks write may = (and_parts (nat_lt 0 (length write.contents)) _ (and_parts _ _ (and_parts _ _ may).0).0).0

    answers : (asked : Protocol) (place : ℕ) (write : Write) → is_answered_to asked (take m d.due) place (WriteItem write) ≡ true
        → (asked ≡ protocol.A) ⊎ (is_answered_by asked (primary_connection h) place (WriteItem write) ≡ true)
    answers asked place write a = answered-or asked (primary_connection h) place (WriteItem write)
        (λ is. said-before settings h d m (is_recv_ack (naming place (WriteItem write))) k refl
        ∙ subst (λ (p : Protocol). is_answered_to p (take m d.due) place (WriteItem write) ≡ true) is a)
        (λ is. said-before settings h d m (is_write_ack (naming place (WriteItem write))) k refl
        ∙ subst (λ (p : Protocol). is_answered_to p (take m d.due) place (WriteItem write) ≡ true) is a)

barrier-fine : (settings : Settings) (h taken : PrimaryHistory) (d : SecondaryConnection) (m number size : ℕ) → Comes settings h d m
    → FitsBarrier settings.protocol (items_taken d) (take m d.due) number size
    → IsFineToo (taking_ack (BarrierAckFrame number size) h taken)
barrier-fine settings h taken d m number size k f = fine-if _ _ _ (turn-by h number size (barrier-turn settings h d m number size k f))

-- Each acknowledgement that was due is accepted.
ack-fine : (settings : Settings) (h taken : PrimaryHistory) (d : SecondaryConnection) (m : ℕ) (packet : Packet) → Comes settings h d m
    → Fits settings.protocol (items_taken d) d.applied (take m d.due) packet → IsFineToo (taking_ack packet h taken)
ack-fine settings h taken d m (RecvAckFrame ack) k f = received-fine settings h taken d m ack k f
ack-fine settings h taken d m (WriteAckFrame ack) k f = written-fine settings h taken d m ack k f
ack-fine settings h taken d m (RsWriteAckFrame ack) k f = resynced-fine settings h taken d m ack k f
ack-fine settings h taken d m (BarrierAckFrame number size) k f = barrier-fine settings h taken d m number size k f
ack-fine settings h taken d m packet k f = absurd f

-- Each frame that the secondary pushed is accepted when its turn comes, or its tuple is refused.
pub acknowledging-fine : (settings : Settings) (h taken : PrimaryHistory) (d : SecondaryConnection) (packet : Packet) → h.settings ≡ settings
    → taken.settings ≡ settings
    → AreHonestEnds settings (primary_connection h) d → (primary_connection h).closed ≡ false
    → IsBeginning (items_taken d) (take (items_sent (primary_connection h)) (primary_connection h).stream)
    → slice_get (take d.pushed (answers_due settings d)) (length (primary_connection h).taken) ≡ Some packet → IsFineToo (taking (Ok packet) h taken)
acknowledging-fine settings h taken d packet same same_too e standing begins next = go (primary_connection h).begun refl
  where
    there : slice_get (answers_due settings d) (length (primary_connection h).taken) ≡ Some packet
    there = (get-front d.pushed (answers_due settings d) (length (primary_connection h).taken) packet next).1

    behind : (m : ℕ) → length (primary_connection h).taken ≡ suc (suc (suc m)) → IsFineToo (taking_ack packet h taken)
    behind m size =
        let at : slice_get d.due m ≡ Some packet = subst (λ n. slice_get (answers_due settings d) n ≡ Some packet) size there in
        ack-fine settings h taken d m packet (record {
          setting = same;
          ends = e;
          accepted = accepted-front settings (primary_connection h) d m e standing size;
          begins = begins;
        }) (e.orderly.fits m packet at)

    go : (begun : Bool) → (primary_connection h).begun ≡ begun
        → IsFineToo (elim begun as (λ _. Taken) [ true ↦ taking_ack packet h taken | false ↦ taking_hello (length (primary_connection h).taken) packet taken ])
    go true is = let late = e.fit.late is in behind (length (primary_connection h).taken - 3) (omega arith)
    go false is = hello-fine settings d.hello d.due (length (primary_connection h).taken) packet taken same_too (e.fit.early standing is) there
