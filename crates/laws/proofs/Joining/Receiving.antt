-- The secondary accepts each frame that the primary pushed: a frame of the hello in its turn, and then the stream's items, each
-- of which may stand where it stands.
use Rattle.std.proofs.Common.{ℕ, zero, suc, ◌≡◌, ◌+◌, ◌-◌, ◌<◌, Bool, true, false, cond, List, length, take, Some, slice_get, Ok, Err, refl, sym}
use Rattle.std.proofs.Common.{◌∙◌, ap, subst, arith, nat_lt}
use Rattle.std.proofs.lemmas.Bool.{eq-eqb, ltb-true, ltb-false}
use Rattle.std.proofs.lemmas.List.{length-take-le}
use Rattle.std.proofs.lemmas.Option.{slice_get_within}
use Rattle.blocks.specs.declared.refusal.Refusal.{Refusal}
use Rattle.blocks.specs.declared.outcome.What.{What}
use Rattle.blocks.specs.declared.settings.Settings.{Settings}
use Rattle.blocks.specs.declared.tuple.Tuple.{Tuple}
use Rattle.model.specs.Contents.{Write, is_range}
use Rattle.model.specs.Stream.{StreamItem, WriteItem, ResyncItem, BarrierItem, SyncUuidItem, UuidsItem, epoch_of, last_epoch}
use Rattle.model.specs.Stream.{IsLawful, number_of}
use Rattle.model.specs.Frames.{Packet, ProtocolFrame, SizesFrame, UuidsFrame, frame_of, hello_of}
use Rattle.model.specs.Primary.{PrimaryConnection, frames_due}
use Rattle.model.specs.Secondary.{SecondaryConnection, SecondaryHistory, items_taken}
use Rattle.model.specs.SecondarySteps.{Checked, checking_hello, checking_item, checking}
use Rattle.laws.proofs.Rules.FramesDue.{due-hello, due-item}
use Rattle.laws.proofs.Rules.EpochEnds.{most_writes}
use Rattle.laws.specs.Statements.{is_protocol_error}
use Rattle.laws.proofs.Lists.Fronts.{get-front}
use Rattle.laws.proofs.Streams.Sendable.{MayStand}
use Rattle.laws.proofs.Joining.HonestEnds.{AreHonestEnds, protocol-self, items-front}
use Rattle.laws.proofs.Streams.Places.{epoch-front}
use Rattle.laws.proofs.Rules.TakenItems.{IsAbove, IsApartFrom, IsPlaced, takes-write, takes-block, takes-barrier, takes-start, takes-end}

-- a frame that is accepted, or refused but not as a protocol error
abbrev pub IsFine : Checked → Type 0
IsFine (Ok done) = Unit {0}
IsFine (Err refusal) = is_protocol_error refusal ≡ false

fine-if : (good : Bool) (done : What) (h : SecondaryHistory) (refusal : Refusal) → good ≡ true → IsFine (cond good (Ok (done, h)) (Err refusal))
fine-if true done h refusal is = tt
fine-if false done h refusal is = absurd (cc)

-- The hello.

hello-fine : (settings : Settings) (tuple : Tuple) (n : ℕ) (packet : Packet) (h : SecondaryHistory) → h.settings ≡ settings → n < 3
    → slice_get (hello_of settings tuple) n ≡ Some packet → IsFine (checking_hello n packet h)
hello-fine settings tuple zero packet h same early at =
    let is : ProtocolFrame settings.protocol ≡ packet = cc in
    subst (λ p. IsFine (checking_hello 0 p h)) is (fine-if _ _ _ _ (rw same (protocol-self settings.protocol)))
hello-fine settings tuple (suc zero) packet h same early at =
    let is : SizesFrame settings.blocks ≡ packet = cc in
    subst (λ p. IsFine (checking_hello 1 p h)) is (fine-if _ _ _ _ (eq-eqb settings.blocks h.settings.blocks (ap (λ (s : Settings). s.blocks) (sym same))))
hello-fine settings tuple (suc (suc zero)) packet h same early at =
    let is : UuidsFrame tuple ≡ packet = cc in
    subst (λ p. IsFine (checking_hello 2 p h)) is tt
hello-fine settings tuple (suc (suc (suc n))) packet h same early at = absurd (omega arith)

-- Items.

-- an item of a lawful stream shares no block with those of its epoch before it
apart-front : (most : ℕ) (stream : List StreamItem) (m : ℕ) (item : StreamItem) → IsLawful most stream → slice_get stream m ≡ Some item
    → IsApartFrom item (take m stream)
apart-front most stream m item lawful at place a epoch there =
    let within = slice_get_within stream m item at in
    let before = get-front m stream place a there in
    let epochs : epoch_of stream place ≡ epoch_of stream m = sym (epoch-front stream m place before.0 (omega arith)) ∙ epoch in
    lawful.apart place m a item before.0 epochs before.1 at

-- a write of a lawful stream has a number above those before it
above-front : (most : ℕ) (stream : List StreamItem) (m : ℕ) (write : Write) → IsLawful most stream → 0 < write.number
    → slice_get stream m ≡ Some (WriteItem write)
    → IsAbove write.number (take m stream)
above-front most stream m write lawful first at k x there = below k x (get-front m stream k x there)
  where
    below : (k : ℕ) (x : StreamItem) → (k < m) × (slice_get stream k ≡ Some x) → number_of x < write.number
    below k (WriteItem a) there = lawful.rising k m a write there.0 there.1 at
    below k (ResyncItem block contents) there = first
    below k (BarrierItem epoch) there = first
    below k (SyncUuidItem word) there = first
    below k (UuidsItem tuple) there = first

-- An item of the stream is accepted in its place.
item-fine : (settings : Settings) (c : PrimaryConnection) (d : SecondaryConnection) (m : ℕ) (item : StreamItem) (h : SecondaryHistory)
    → AreHonestEnds settings c d → h.settings ≡ settings
    → items_taken d ≡ take m c.stream → slice_get c.stream m ≡ Some item
    → IsFine (checking_item (frame_of m item) (length (items_taken d)) d h)
item-fine settings c d m item h e same items at =
    go item at (subst (λ (l : List StreamItem). MayStand settings l item) (sym items) (e.fit.stream.stands m item at))
  where
    within : m < length c.stream
    within = slice_get_within c.stream m item at

    size : length (items_taken d) ≡ m
    size = ap length items ∙ length-take-le m c.stream (let less = within in omega arith)

    room : length (items_taken d) < 4294967295
    room = let less = within in let short = e.fit.stream.short in let is = size in omega arith

    here : (first count : ℕ) → is_range settings first count ≡ true → IsPlaced h.settings m (length (items_taken d)) first count
    here first count range = record { next = sym size; room = room; range = subst (λ (s : Settings). is_range s first count ≡ true) (sym same) range }

    apart : (x : StreamItem) → slice_get c.stream m ≡ Some x → IsApartFrom x (items_taken d)
    apart x there = subst (IsApartFrom x) (sym items) (apart-front (most_writes settings) c.stream m x e.lawful there)

    go : (x : StreamItem) → slice_get c.stream m ≡ Some x → MayStand settings (items_taken d) x
        → IsFine (checking_item (frame_of m x) (length (items_taken d)) d h)
    go (WriteItem write) there may = takes-write IsFine (length (items_taken d)) d h (λ done. tt) write m (record {
      here = here write.first (length write.contents) may;
      above = subst (IsAbove write.number) (sym items) (above-front (most_writes settings) c.stream m write e.lawful (e.numbered m write there) there);
      apart = apart (WriteItem write) there;
    })
    go (ResyncItem block contents) there may = takes-block IsFine (length (items_taken d)) d h (λ done. tt) block contents m
        (record { here = here block 1 may.0; resync = may.1; apart = apart (ResyncItem block contents) there })
    go (BarrierItem epoch) there may =
        takes-barrier IsFine (length (items_taken d)) d h (λ done. tt) epoch room (e.lawful.barriers m epoch there ∙ ap last_epoch (sym items))
    go (SyncUuidItem word) there may = takes-start IsFine (length (items_taken d)) d h (λ done. tt) word room (ap length may.0) may.1
    go (UuidsItem tuple) there may = takes-end IsFine (length (items_taken d)) d h (λ done. tt) tuple room may

-- Each frame that the primary pushed is accepted when its turn comes.
pub receiving-fine : (settings : Settings) (c : PrimaryConnection) (d : SecondaryConnection) (packet : Packet) (h : SecondaryHistory)
    → AreHonestEnds settings c d → d.closed ≡ false
    → h.settings ≡ settings
    → slice_get (take c.pushed (frames_due settings c)) (length d.taken) ≡ Some packet → IsFine (checking (Ok packet) d h)
receiving-fine settings c d packet h e standing same next = go (nat_lt (length d.taken) 3) refl
  where
    there : slice_get (frames_due settings c) (length d.taken) ≡ Some packet
    there = (get-front c.pushed (frames_due settings c) (length d.taken) packet next).1

    behind : (m : ℕ) → length d.taken ≡ suc (suc (suc m)) → IsFine (checking_item packet (length (items_taken d)) d h)
    behind m size =
        let index : length d.taken ≡ 3 + m = omega arith in
        let found = due-item settings c m packet (subst (λ n. slice_get (frames_due settings c) n ≡ Some packet) index there) in
        subst (λ p. IsFine (checking_item p (length (items_taken d)) d h)) (sym found.2)
        (item-fine settings c d m found.0 h e same (items-front settings c d m e standing size) found.1)

    go : (early : Bool) → nat_lt (length d.taken) 3 ≡ early
        → IsFine (elim early as (λ _. Checked) [ true ↦ checking_hello (length d.taken) packet h | false ↦ checking_item packet (length (items_taken d)) d h ])
    go true is =
        let early = ltb-true (length d.taken) 3 is in
        hello-fine settings c.hello (length d.taken) packet h same early (sym (due-hello settings c (length d.taken) early) ∙ there)
    go false is = let late = ltb-false (length d.taken) 3 is in behind (length d.taken - 3) (omega arith)
