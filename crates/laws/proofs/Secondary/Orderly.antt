-- A secondary's connection whose acknowledgements fit, and that owes none for what it took or applied while it is open: what
-- each change of a connection has to do with that.
use Rattle.std.proofs.Common.{ℕ, ◌≡◌, ◌⊎◌, inl, inr, Bool, true, false, List, [], ◌++◌, take, map, Some, slice_get, Ok, refl, sym, ◌∙◌, ap, subst, arith}
use Rattle.std.proofs.lemmas.Bool.{cases_Bool, both_ways}
use Rattle.std.proofs.lemmas.List.{append-nil, take-append-le}
use Rattle.std.proofs.lemmas.Option.{slice_get_within}
use Rattle.std.proofs.Math.Seq.{take-append-add}
use Rattle.blocks.specs.declared.settings.Protocol.{Protocol}
use Rattle.blocks.specs.declared.settings.Protocol.TheVariants as protocol
use Rattle.blocks.specs.declared.tuple.Tuple.{Tuple}
use Rattle.model.specs.Contents.{BlockMap, Write}
use Rattle.model.specs.Stream.{StreamItem, WriteItem, Part, is_whole, has_blocks}
use Rattle.model.specs.Frames.{Packet, RecvAckFrame, WriteAckFrame, RsWriteAckFrame, Acknowledged, Received, naming}
use Rattle.model.specs.Primary.{same_naming, is_recv_ack, is_write_ack, is_rs_write_ack}
use Rattle.model.specs.Secondary.{SecondaryConnection, items_taken, new_secondary_connection}
use Rattle.model.specs.SecondarySteps.{answering, barrier_answer, barriers_to_answer, is_pending_at, has_earlier, offsets_at, failing}
use Rattle.laws.proofs.Lists.Elements.{get-split}
use Rattle.laws.proofs.Rules.DiskFaults.{reached, fault-applied}
use Rattle.laws.proofs.Lists.Picks.{pick-image}
use Rattle.laws.proofs.Secondary.Moves.{pushed_one, closed_end}
use Rattle.laws.proofs.Secondary.Sound.{sound-same}
use Rattle.laws.proofs.Secondary.Good.{IsGood, good-due, good-new, good-refusing, items-refusing, good-failing}
use Rattle.laws.proofs.Secondary.Fits.{is_said, is_answered_to, Fits, fits-grow, said-grows, answered-grows}
use Rattle.laws.proofs.Secondary.InTurn.{answers-fit}
use Rattle.laws.proofs.Rules.RefusedFrames.{refused_in}

-- each acknowledgement that is due fits those that were due before it
abbrev pub AllFit : Protocol → SecondaryConnection → Type 0
AllFit asked d = (n : ℕ) (packet : Packet) → slice_get d.due n ≡ Some packet → Fits asked (items_taken d) d.applied (take n d.due) packet

-- A connection whose acknowledgements fit. While it is open each write that was taken is acknowledged under B, and whatever is
-- applied as the protocol asks.
pub record IsOrderly (asked : Protocol) (d : SecondaryConnection) : Type 0 where
  pub good : IsGood d
  pub fits : AllFit asked d
  pub received : d.closed ≡ false → asked ≡ protocol.B → (place : ℕ) (write : Write) → slice_get (items_taken d) place ≡ Some (WriteItem write)
      → is_said (is_recv_ack (naming place (WriteItem write))) d.due ≡ true
  pub applied : d.closed ≡ false → (place : ℕ) (item : StreamItem) → slice_get (items_taken d) place ≡ Some item → has_blocks item ≡ true
      → is_whole d.applied place item ≡ true → is_answered_to asked d.due place item ≡ true

-- the acknowledgement in a packet that passes
pub said-recv : (of : Acknowledged) (packet : Packet) → is_recv_ack of (Ok packet) ≡ true
    → (ack : Acknowledged) × (packet ≡ RecvAckFrame ack) × (same_naming of ack ≡ true)
said-recv of (RecvAckFrame ack) h = (ack, refl, h)
said-recv of packet h = absurd (cc)

-- the same of a write
pub said-write : (of : Acknowledged) (packet : Packet) → is_write_ack of (Ok packet) ≡ true
    → (ack : Acknowledged) × (packet ≡ WriteAckFrame ack) × (same_naming of ack ≡ true)
said-write of (WriteAckFrame ack) h = (ack, refl, h)
said-write of packet h = absurd (cc)

-- the same of a resync block
pub said-resync : (of : Acknowledged) (packet : Packet) → is_rs_write_ack of (Ok packet) ≡ true
    → (ack : Acknowledged) × (packet ≡ RsWriteAckFrame ack) × (same_naming of ack ≡ true)
said-resync of (RsWriteAckFrame ack) h = (ack, refl, h)
said-resync of packet h = absurd (cc)

-- more is taken, applied and due, and the new acknowledgements fit
pub fits-change : (asked : Protocol) (d e : SecondaryConnection) (items : List StreamItem) (part : Part) (more : List Packet) → AllFit asked d
    → items_taken e ≡ items_taken d ++ items → e.applied ≡ d.applied ++ part
    → e.due ≡ d.due ++ more → ((n : ℕ) (packet : Packet) → slice_get more n ≡ Some packet → Fits asked (items_taken e) e.applied (d.due ++ take n more) packet)
    → AllFit asked e
fits-change asked d e items part more fits taken applied due new n packet at =
    elim (get-split d.due more n packet (subst (λ (l : List Packet). slice_get l n ≡ Some packet) due at)) [
      | inl old ↦
          let front : take n d.due ≡ take n e.due = sym (take-append-le n d.due more (let within = slice_get_within d.due n packet old in omega arith))
          ∙ ap (take n) (sym due) in
          let grown = fits-grow asked (items_taken d) items d.applied part (take n d.due) packet (fits n packet old) in
          subst (λ (l : List Packet). Fits asked (items_taken e) e.applied l packet) front
          (subst (λ (i : List StreamItem). Fits asked i e.applied (take n d.due) packet) (sym taken)
          (subst (λ (p : Part). Fits asked (items_taken d ++ items) p (take n d.due) packet) (sym applied) grown))
      | inr added ↦
          let front : d.due ++ take added.0 more ≡ take n e.due = sym (take-append-add d.due more added.0)
          ∙ (ap (λ m. take m (d.due ++ more)) (sym added.1) ∙ ap (take n) (sym due)) in
          subst (λ (l : List Packet). Fits asked (items_taken e) e.applied l packet) front (new added.0 packet added.2)
    ]

-- where none is new
pub none-more : (asked : Protocol) (e : SecondaryConnection) (front : List Packet) (n : ℕ) (packet : Packet) → slice_get [] n ≡ Some packet
    → Fits asked (items_taken e) e.applied (front ++ take n []) packet
none-more asked e front n packet at = absurd (cc)

-- nothing taken or due is lost, and where the end is still open nothing more is taken or applied
pub orderly-same : (asked : Protocol) (d e : SecondaryConnection) (part : Part) → IsOrderly asked d → IsGood e → items_taken e ≡ items_taken d
    → e.applied ≡ d.applied ++ part → e.due ≡ d.due
    → (e.closed ≡ true) ⊎ ((d.closed ≡ e.closed) × (part ≡ [])) → IsOrderly asked e
orderly-same asked d e part o good taken applied due rest = record {
  good = good;
  fits = fits-change asked d e [] part [] o.fits (taken ∙ sym (append-nil (items_taken d))) applied (due ∙ sym (append-nil d.due)) (none-more asked e d.due);
  received = λ standing asks place write at. elim rest [
    | inl shut ↦ absurd (both_ways e.closed standing shut)
    | inr same ↦ subst (λ (l : List Packet). is_said (is_recv_ack (naming place (WriteItem write))) l ≡ true) (sym due)
        (o.received (same.0 ∙ standing) asks place write (subst (λ (l : List StreamItem). slice_get l place ≡ Some (WriteItem write)) taken at))
  ];
  applied = λ standing place item at blocks whole. elim rest [
    | inl shut ↦ absurd (both_ways e.closed standing shut)
    | inr same ↦
        let part_same : e.applied ≡ d.applied = applied ∙ (ap (λ (p : Part). d.applied ++ p) same.1 ∙ append-nil d.applied) in
        subst (λ (l : List Packet). is_answered_to asked l place item ≡ true) (sym due)
        (o.applied (same.0 ∙ standing) place item (subst (λ (l : List StreamItem). slice_get l place ≡ Some item) taken at) blocks
        (subst (λ (p : Part). is_whole p place item ≡ true) part_same whole))
  ];
}

-- Changes of a connection.

-- a new connection owes nothing
pub orderly-new : (asked : Protocol) (number : ℕ) (disk : BlockMap) (hello : Tuple)
    → IsOrderly asked (new_secondary_connection number disk hello)
orderly-new asked number disk hello = record {
  good = good-new number disk hello;
  fits = λ n packet at. absurd (cc);
  received = λ standing asks place write at. absurd (cc);
  applied = λ standing place item at blocks whole. absurd (cc);
}

-- the barriers that are applied are answered
pub orderly-answering : (asked : Protocol) (d : SecondaryConnection) → IsOrderly asked d → IsOrderly asked (answering d)
orderly-answering asked d o = go d.closed refl
  where
    more : List Packet
    more = map (barrier_answer d) (barriers_to_answer d)

    go : (b : Bool) → d.closed ≡ b → IsOrderly asked
        (elim b as (λ _. SecondaryConnection) [ true ↦ d | false ↦ record d { due = d.due ++ map (barrier_answer d) (barriers_to_answer d) } ])
    go true is = o
    go false is = record {
      good = good-due d (d.due ++ more) o.good;
      fits = fits-change asked d (record d { due = d.due ++ more }) [] [] more o.fits (sym (append-nil (items_taken d))) (sym (append-nil d.applied)) refl
          (λ n packet at.
          let epoch = pick-image (barrier_answer d) (barriers_to_answer d) n packet at in
          subst (Fits asked (items_taken d) d.applied (d.due ++ take n more)) epoch.2 (answers-fit asked d (o.applied is) n epoch.0 epoch.1));
      received = λ standing asks place write at. said-grows (is_recv_ack (naming place (WriteItem write))) d.due more (o.received standing asks place write at);
      applied = λ standing place item at blocks whole. answered-grows asked d.due more place item (o.applied standing place item at blocks whole);
    }

-- the end pushes an acknowledgement
pub orderly-pushing : (asked : Protocol) (d : SecondaryConnection) → IsOrderly asked d → IsOrderly asked (pushed_one d)
orderly-pushing asked d o =
    orderly-same asked d (pushed_one d) [] o (record { sound = sound-same d (pushed_one d) o.good.sound refl refl refl (λ c. c); refused = o.good.refused })
    refl (sym (append-nil d.applied)) refl (inr (refl, refl))

-- the end closes
pub orderly-closing : (asked : Protocol) (d : SecondaryConnection) → IsOrderly asked d → IsOrderly asked (closed_end d)
orderly-closing asked d o =
    orderly-same asked d (closed_end d) [] o (record { sound = sound-same d (closed_end d) o.good.sound refl refl refl (λ c. refl); refused = λ r. refl }) refl
    (sym (append-nil d.applied)) refl (inl refl)

-- an item fails, and the end closes
pub orderly-failing : (asked : Protocol) (place : ℕ) (offsets : List ℕ) (d : SecondaryConnection) → is_pending_at d place ≡ true → has_earlier d place ≡ false
    → IsOrderly asked d → IsOrderly asked (failing place offsets d)
orderly-failing asked place offsets d waiting none o = orderly-same asked d (failing place offsets d) (offsets_at place (reached place offsets d)) o
    (good-failing place offsets d waiting none o.good) refl (fault-applied place offsets d) refl (inl refl)

-- the end is open, so nothing was refused
pub plain : (d : SecondaryConnection) → IsGood d → d.closed ≡ false → d.refused ≡ false
plain d good standing = elim (cases_Bool d.refused) [ inl was ↦ absurd (both_ways d.closed standing (good.refused was)) | inr not_so ↦ not_so ]

-- a frame is refused, and the end closes
pub orderly-refusing : (asked : Protocol) (frame : Received) (d : SecondaryConnection) → d.closed ≡ false → IsOrderly asked d
    → IsOrderly asked (refused_in frame d)
orderly-refusing asked frame d standing o =
    orderly-same asked d (refused_in frame d) [] o (good-refusing frame d standing o.good) (items-refusing frame d (plain d o.good standing))
    (sym (append-nil d.applied)) refl (inl refl)
