-- What has to be true of an acknowledgement that is due, by those that became due before it: it names what was taken or is
-- applied, nothing is acknowledged twice, and barriers come in their turn.
use Rattle.std.proofs.Common.{ℕ, ◌≡◌, ◌≤◌, ◌<◌, inl, inr, Bool, true, false, List, [], ◌∷◌, ◌++◌, length, Some, slice_get, Ok, refl, sym, ◌∙◌, ap, arith}
use Rattle.std.proofs.Common.{append_assoc}
use Rattle.std.specs.List.{list_any}
use Rattle.std.proofs.lemmas.Bool.{and_from, or_left, eq-eqb, cases_lt}
use Rattle.std.proofs.lemmas.List.Folds.{list_any-append}
use Rattle.std.proofs.lemmas.List.{append-nil}
use Rattle.blocks.specs.declared.settings.Protocol.{Protocol}
use Rattle.blocks.specs.declared.settings.Protocol.TheVariants as protocol
use Rattle.model.specs.Contents.{Write}
use Rattle.model.specs.Stream.{StreamItem, WriteItem, ResyncItem, BarrierItem, SyncUuidItem, UuidsItem, Part, is_whole, has_blocks, barriers_in, epoch_of}
use Rattle.model.specs.Stream.{last_epoch}
use Rattle.model.specs.Stream.{epoch_size}
use Rattle.model.specs.Frames.{Packet, RecvAckFrame, WriteAckFrame, RsWriteAckFrame, BarrierAckFrame, Acknowledged, Received, naming}
use Rattle.model.specs.Primary.{same_naming, is_recv_ack, is_write_ack, is_rs_write_ack, is_barrier_ack}
use Rattle.laws.proofs.Lists.Elements.{get-left}
use Rattle.laws.proofs.Streams.Parts.{whole-grows}
use Rattle.laws.proofs.Streams.Places.{barriers-append, epoch-grows, epoch-behind, get-grows}
use Rattle.laws.proofs.Streams.Lawful.{size-grow}

-- one of the packets passes, read as a frame
abbrev pub is_said : (Received → Bool) → List Packet → Bool
is_said test packets = list_any (λ packet. test (Ok packet)) packets

-- the acknowledgement that the protocol asks of an item is among the packets
abbrev pub is_answered_to : Protocol → List Packet → ℕ → StreamItem → Bool
is_answered_to asked packets place (WriteItem write) = elim asked [
  | protocol.A ↦ true
  | protocol.B ↦ is_said (is_recv_ack (naming place (WriteItem write))) packets
  | protocol.C ↦ is_said (is_write_ack (naming place (WriteItem write))) packets
]
is_answered_to asked packets place (ResyncItem block contents) = is_said (is_rs_write_ack (naming place (ResyncItem block contents))) packets
is_answered_to asked packets place (BarrierItem epoch) = true
is_answered_to asked packets place (SyncUuidItem word) = true
is_answered_to asked packets place (UuidsItem tuple) = true

-- a RECV_ACK of a write that was taken, the first of it
pub record FitsReceived (asked : Protocol) (items : List StreamItem) (front : List Packet) (ack : Acknowledged) : Type 0 where
  pub protocol : asked ≡ protocol.B
  pub write : Write
  pub there : slice_get items ack.place ≡ Some (WriteItem write)
  pub names : naming ack.place (WriteItem write) ≡ ack
  pub first : is_said (is_recv_ack (naming ack.place (WriteItem write))) front ≡ false

-- a WRITE_ACK of a write that is applied, the first of it
pub record FitsWritten (asked : Protocol) (items : List StreamItem) (part : Part) (front : List Packet) (ack : Acknowledged) : Type 0 where
  pub protocol : asked ≡ protocol.C
  pub write : Write
  pub there : slice_get items ack.place ≡ Some (WriteItem write)
  pub names : naming ack.place (WriteItem write) ≡ ack
  pub whole : is_whole part ack.place (WriteItem write) ≡ true
  pub first : is_said (is_write_ack (naming ack.place (WriteItem write))) front ≡ false

-- a RS_WRITE_ACK of a resync block that is applied, the first of it
pub record FitsResynced (items : List StreamItem) (part : Part) (front : List Packet) (ack : Acknowledged) : Type 0 where
  pub block : ℕ
  pub contents : List ℕ
  pub there : slice_get items ack.place ≡ Some (ResyncItem block contents)
  pub names : naming ack.place (ResyncItem block contents) ≡ ack
  pub whole : is_whole part ack.place (ResyncItem block contents) ≡ true
  pub first : is_said (is_rs_write_ack (naming ack.place (ResyncItem block contents))) front ≡ false

-- a BARRIER_ACK of a barrier that was taken, the next one, with its epoch's size, after all that its items want
pub record FitsBarrier (asked : Protocol) (items : List StreamItem) (front : List Packet) (number size : ℕ) : Type 0 where
  pub from : 0 < number
  pub upto : number ≤ barriers_in items
  pub counts : size ≡ epoch_size items number
  pub earlier : (epoch : ℕ) → 0 < epoch → epoch < number → is_said (is_barrier_ack epoch) front ≡ true
  pub first : is_said (is_barrier_ack number) front ≡ false
  pub answered : (place : ℕ) (item : StreamItem) → slice_get items place ≡ Some item → epoch_of items place ≤ number → has_blocks item ≡ true
      → is_answered_to asked front place item ≡ true

-- what is due, by what was due before it; no other packet is
abbrev pub Fits : Protocol → List StreamItem → Part → List Packet → Packet → Type 0
Fits asked items part front (RecvAckFrame ack) = FitsReceived asked items front ack
Fits asked items part front (WriteAckFrame ack) = FitsWritten asked items part front ack
Fits asked items part front (RsWriteAckFrame ack) = FitsResynced items part front ack
Fits asked items part front (BarrierAckFrame number size) = FitsBarrier asked items front number size
Fits asked items part front packet = ⊥

-- the size of an epoch whose barrier was taken stays
pub size-stays : (items more : List StreamItem) (epoch : ℕ) → epoch ≤ barriers_in items → epoch_size (items ++ more) epoch ≡ epoch_size items epoch
size-stays items [] epoch upto = ap (λ (l : List StreamItem). epoch_size l epoch) (append-nil items)
size-stays items (x ∷ more) epoch upto =
    let grown = barriers-append items (x ∷ []) in
    ap (λ (l : List StreamItem). epoch_size l epoch) (sym (append_assoc items (x ∷ []) more))
    ∙ (size-stays (items ++ x ∷ []) more epoch (omega arith)
    ∙ elim (size-grow items x epoch) [ inl same ↦ same | inr grew ↦ absurd (let last : last_epoch items ≡ epoch = grew.1 in omega arith) ])

-- a fitting acknowledgement stays so as more is taken and applied
pub fits-grow : (asked : Protocol) (items more : List StreamItem) (part further : Part) (front : List Packet) (packet : Packet)
    → Fits asked items part front packet
    → Fits asked (items ++ more) (part ++ further) front packet
fits-grow asked items more part further front (RecvAckFrame ack) f =
    record { protocol = f.protocol; write = f.write; there = get-left items more ack.place (WriteItem f.write) f.there; names = f.names; first = f.first }
fits-grow asked items more part further front (WriteAckFrame ack) f = record {
  protocol = f.protocol;
  write = f.write;
  there = get-left items more ack.place (WriteItem f.write) f.there;
  names = f.names;
  whole = whole-grows part further ack.place (WriteItem f.write) f.whole;
  first = f.first;
}
fits-grow asked items more part further front (RsWriteAckFrame ack) f = record {
  block = f.block;
  contents = f.contents;
  there = get-left items more ack.place (ResyncItem f.block f.contents) f.there;
  names = f.names;
  whole = whole-grows part further ack.place (ResyncItem f.block f.contents) f.whole;
  first = f.first;
}
fits-grow asked items more part further front (BarrierAckFrame number size) f = record {
  from = f.from;
  upto = let grown = barriers-append items more in let upto = f.upto in omega arith;
  counts = f.counts ∙ sym (size-stays items more number f.upto);
  earlier = f.earlier;
  first = f.first;
  answered = λ place item at early blocks. elim (cases_lt place (length items)) [
    | inl within ↦ f.answered place item (sym (get-grows items more place within)
        ∙ at) (let same = epoch-grows items more place (omega arith) in omega arith) blocks
    | inr behind ↦ absurd (let late = epoch-behind items more place behind in let upto = f.upto in omega arith)
  ];
}
fits-grow asked items more part further front packet f = absurd f

-- what is said is still said as more is
pub said-grows : (test : Received → Bool) (packets more : List Packet) → is_said test packets ≡ true → is_said test (packets ++ more) ≡ true
said-grows test packets more h = list_any-append (λ packet. test (Ok packet)) packets more ∙ or_left (is_said test packets) (is_said test more) h

-- so is what the protocol asks
pub answered-grows : (asked : Protocol) (packets more : List Packet) (place : ℕ) (item : StreamItem) → is_answered_to asked packets place item ≡ true
    → is_answered_to asked (packets ++ more) place item ≡ true
answered-grows protocol.A packets more place (WriteItem write) h = refl
answered-grows protocol.B packets more place (WriteItem write) h = said-grows (is_recv_ack (naming place (WriteItem write))) packets more h
answered-grows protocol.C packets more place (WriteItem write) h = said-grows (is_write_ack (naming place (WriteItem write))) packets more h
answered-grows asked packets more place (ResyncItem block contents) h = said-grows (is_rs_write_ack (naming place (ResyncItem block contents))) packets more h
answered-grows asked packets more place (BarrierItem epoch) h = refl
answered-grows asked packets more place (SyncUuidItem word) h = refl
answered-grows asked packets more place (UuidsItem tuple) h = refl

-- what names an item names it as itself
pub same-self : (ack : Acknowledged) → same_naming ack ack ≡ true
same-self ack = and_from _ _ (and_from _ _ (eq-eqb ack.first ack.first refl) (eq-eqb ack.number ack.number refl))
    (and_from _ _ (eq-eqb ack.count ack.count refl) (eq-eqb ack.place ack.place refl))
