-- Both disks keep the blocks of their device, and get none past its end: what a secondary takes lies in the device.
use Rattle.std.proofs.Common.{ℕ, suc, ◌≡◌, ◌+◌, ◌-◌, ◌≤◌, ◌<◌, inl, inr, Bool, true, false, ◌&&◌, List, [], ◌∷◌, ◌++◌, length, map, Option, Some}
use Rattle.std.proofs.Common.{None, slice_get, Ok, Err, refl, sym, ◌∙◌, ap, subst, arith, ◌==◌, nat_lt, nat_le}
use Rattle.std.specs.Prelude.{is_some}
use Rattle.std.proofs.lemmas.Bool.{cases_Bool, cases_lt, both_ways, and_parts, lt-ltb, ltb-true, leb-true}
use Rattle.blocks.specs.declared.settings.Settings.{Settings}
use Rattle.blocks.specs.declared.settings.Protocol.{Protocol}
use Rattle.blocks.specs.declared.outcome.What.{What}
use Rattle.blocks.specs.declared.outcome.Reply.{Reply}
use Rattle.model.specs.Contents.{BlockMap, IsDisk, Layer, block_under, overlay, extent_of, is_range}
use Rattle.model.specs.Stream.{StreamItem, WriteItem, ResyncItem, BarrierItem, SyncUuidItem, UuidsItem, first_of, contents_of, Part, is_in, layers_from}
use Rattle.model.specs.Frames.{Packet}
use Rattle.model.specs.Frames.{Received}
use Rattle.model.specs.Primary.{PrimaryHistory, last_of, change_last, local_layer, local_map}
use Rattle.model.specs.Secondary.{SecondaryConnection, SecondaryHistory, no_secondary_connection, secondary_connection, with_secondary_connection}
use Rattle.model.specs.Secondary.{received_item, items_taken, map_of, secondary_map}
use Rattle.model.specs.SecondarySteps.{answering, barrier_answer, barriers_to_answer, opened_secondary, Checked, checking_hello, applied_with}
use Rattle.model.specs.SecondarySteps.{checking_item, checking, take_item, receive}
use Rattle.model.specs.SecondarySteps.{applying, failing}
use Rattle.model.specs.LocalRuns.{PrimaryEvent, primary_run, SecondaryEvent, OpensToo, Receives, Applies, FailsToApply, Acknowledges, ClosesToo}
use Rattle.model.specs.LocalRuns.{secondary_after, secondary_run}
use Rattle.model.specs.Theorems.{Opening, HasRanges, primary_at, secondary_at}
use Rattle.laws.proofs.Accounted.Released.{accounted-run}
use Rattle.laws.proofs.Blocks.Overlays.{overlay-some, under-some, under-outside}
use Rattle.laws.proofs.Blocks.Ranges.{outside-range}
use Rattle.laws.proofs.Joining.Openings.{HasOpening, kept-opening-primary}
use Rattle.laws.proofs.Lists.Each.{Each, each-get, each-append, each-change}
use Rattle.laws.proofs.Lists.Elements.{get-more}
use Rattle.laws.proofs.Lists.Last.{last-at}
use Rattle.laws.proofs.Secondary.Good.{items-refusing}
use Rattle.laws.proofs.Secondary.Tuples.{taken-item}
use Rattle.laws.proofs.Secondary.Moves.{framed, receipting, pushed_one, closed_end, after-take, after-open, after-peer, after-fault, after-push}
use Rattle.laws.proofs.Secondary.Moves.{after-close}
use Rattle.laws.proofs.Tracked.{IsTracked}
use Rattle.laws.proofs.Tracked.Moves.{beyond-the-end}
use Rattle.laws.proofs.Rules.Memory.{receive-has}
use Rattle.laws.proofs.Rules.RefusedFrames.{refused_in, refused_by_too, refused-last-too, item-refused}
use Rattle.laws.proofs.Rules.TakenItems.{item-checked}
use Rattle.secondary_protocol.proofs.Judged.{early-items}

-- The primary's disk.

pub local-disk : (o : Opening) (events : List PrimaryEvent) → HasRanges o → IsDisk o.settings.blocks o.local
    → IsDisk o.settings.blocks (local_map (primary_run events (primary_at o)))
local-disk o events ranges sized block = elim (cases_lt block o.settings.blocks) [
  | inl inside ↦ overlay-some p.opening_map (map local_layer p.writes) block (ap (λ (m : BlockMap). is_some (m block)) mine.disk ∙ within block inside)
      ∙ sym (lt-ltb block o.settings.blocks inside)
  | inr past ↦ ap is_some (beyond-the-end p block tracked (subst (λ (x : Settings). x.blocks ≤ block) (sym mine.settings) past)).1
      ∙ ap (λ (m : BlockMap). is_some (m block)) mine.disk ∙ sized block
]
  where
    p : PrimaryHistory
    p = primary_run events (primary_at o)

    within : (b : ℕ) → b < o.settings.blocks → is_some (o.local b) ≡ true
    within b inside = sized b ∙ lt-ltb b o.settings.blocks inside

    mine : HasOpening o (primary_run events (primary_at o))
    mine = kept-opening-primary o events

    tracked : IsTracked (primary_run events (primary_at o))
    tracked = (accounted-run o.settings o.local o.own o.marks events ranges.here within).1.known.tracked

-- The secondary's disk.

-- the items lie in a device of this many blocks
abbrev AreInside : ℕ → List StreamItem → Type 0
AreInside blocks items = (n : ℕ) (item : StreamItem) → slice_get items n ≡ Some item → first_of item + length (contents_of item) ≤ blocks

-- A connection: the disk that it began on has the blocks of the device, and what was taken lies in it. An end that refused a
-- frame is closed.
record IsInside (blocks : ℕ) (d : SecondaryConnection) : Type 0 where
  pub base : IsDisk blocks d.base
  pub items : AreInside blocks (items_taken d)
  pub refused : d.refused ≡ true → d.closed ≡ true

-- a layer in the device
under-disk : (blocks : ℕ) (layer : Layer) (block : ℕ) (v : Option (List ℕ)) → layer.first + length layer.contents ≤ blocks → is_some v ≡ nat_lt block blocks
    → is_some (block_under layer block v) ≡ nat_lt block blocks
under-disk blocks layer block v inside same = elim (cases_lt block blocks) [
  | inl within ↦ under-some layer block v (same ∙ lt-ltb block blocks within) ∙ sym (lt-ltb block blocks within)
  | inr past ↦ ap is_some (under-outside layer block v (outside-range layer.first (length layer.contents) blocks block inside past)) ∙ same
]

layers-disk : (blocks place : ℕ) (items : List StreamItem) (part : Part) (base : BlockMap) (block : ℕ) → AreInside blocks items
    → is_some (base block) ≡ nat_lt block blocks → is_some (overlay base (layers_from place items part) block) ≡ nat_lt block blocks
layers-disk blocks place [] part base block inside same = same
layers-disk blocks place (item ∷ items) part base block inside same =
    let layer : Layer = record { first = first_of item; contents = contents_of item; laid = λ offset. is_in part place offset } in
    layers-disk blocks (suc place) items part (λ b. block_under layer b (base b)) block (λ n i at. inside (suc n) i at)
    (under-disk blocks layer block (base block) (inside 0 item refl) same)

map-disk : (blocks : ℕ) (d : SecondaryConnection) → IsInside blocks d → IsDisk blocks (map_of d)
map-disk blocks d i block = layers-disk blocks 0 (items_taken d) d.applied d.base block i.items (i.base block)

-- A history: the opening disk has the blocks of the device, and so it is with each connection.
record HasInside (blocks : ℕ) (h : SecondaryHistory) : Type 0 where
  pub size : h.settings.blocks ≡ blocks
  pub opening : IsDisk blocks h.opening_map
  pub ends : Each (IsInside blocks) h.connections

last-inside : (blocks : ℕ) (h : SecondaryHistory) → HasInside blocks h → IsInside blocks (secondary_connection h)
last-inside blocks h a = elim (last-at (no_secondary_connection h) h.connections) [
  | inl none ↦ subst (λ (l : List SecondaryConnection). IsInside blocks (last_of (no_secondary_connection h) l)) (sym none)
      (record { base = a.opening; items = λ n item at. absurd (cc); refused = λ was. refl })
  | inr at ↦ each-get (IsInside blocks) h.connections (length h.connections - 1) (secondary_connection h) a.ends at
]

inside-change : (blocks : ℕ) (h later : SecondaryHistory) (f : SecondaryConnection → SecondaryConnection) → later.settings ≡ h.settings
    → later.opening_map ≡ h.opening_map
    → later.connections ≡ change_last f h.connections
    → (IsInside blocks (secondary_connection h) → IsInside blocks (f (secondary_connection h))) → HasInside blocks h → HasInside blocks later
inside-change blocks h later f settings opening connections keeps a = record {
  size = ap (λ (x : Settings). x.blocks) settings ∙ a.size;
  opening = subst (IsDisk blocks) (sym opening) a.opening;
  ends = subst (Each (IsInside blocks)) (sym connections) (each-change (IsInside blocks) f (no_secondary_connection h) h.connections a.ends keeps);
}

-- Changes of a connection.

inside-answering : (blocks : ℕ) (d : SecondaryConnection) → IsInside blocks d → IsInside blocks (answering d)
inside-answering blocks d i = go d.closed
  where
    go : (b : Bool) → IsInside blocks
        (elim b as (λ _. SecondaryConnection) [ true ↦ d | false ↦ record d { due = d.due ++ map (barrier_answer d) (barriers_to_answer d) } ])
    go true = i
    go false = record { base = i.base; items = i.items; refused = i.refused }

inside-applying : (blocks : ℕ) (asked : Protocol) (place : ℕ) (d : SecondaryConnection) → IsInside blocks d → IsInside blocks (applying asked place d)
inside-applying blocks asked place d i = go (slice_get (items_taken d) place)
  where
    go : (v : Option StreamItem) → IsInside blocks (applied_with v asked place d)
    go None = i
    go (Some item) = record { base = i.base; items = i.items; refused = i.refused }

-- an open end refused nothing
plain : (blocks : ℕ) (d : SecondaryConnection) → IsInside blocks d → d.closed ≡ false → d.refused ≡ false
plain blocks d i standing = elim (cases_Bool d.refused) [ inl was ↦ absurd (both_ways d.closed standing (i.refused was)) | inr not_so ↦ not_so ]

inside-refusing : (blocks : ℕ) (frame : Received) (d : SecondaryConnection) → d.closed ≡ false → IsInside blocks d → IsInside blocks (refused_in frame d)
inside-refusing blocks frame d standing i =
    record { base = i.base; items = subst (AreInside blocks) (sym (items-refusing frame d (plain blocks d i standing))) i.items; refused = λ was. refl }

-- What a frame behind the hello has to bring to be accepted: an item in the device.
abbrev BringsInside : ℕ → ℕ → Received → Type 0
BringsInside blocks taken frame =
    nat_lt taken 3 ≡ false → (item : StreamItem) × (received_item frame ≡ Some item) × (first_of item + length (contents_of item) ≤ blocks)

inside-taking : (blocks : ℕ) (frame : Received) (d : SecondaryConnection) → d.closed ≡ false → BringsInside blocks (length d.taken) frame → IsInside blocks d
    → IsInside blocks (framed frame d)
inside-taking blocks frame d standing brings i = record { base = i.base; items = items (nat_lt (length d.taken) 3) refl; refused = i.refused }
  where
    accepted : d.refused ≡ false
    accepted = plain blocks d i standing

    items : (early : Bool) → nat_lt (length d.taken) 3 ≡ early → AreInside blocks (items_taken (framed frame d))
    items true is = subst (AreInside blocks) (sym (early-items frame d accepted (ltb-true (length d.taken) 3 is))) i.items
    items false is =
        let (item, brought, inside) = brings is in
        subst (AreInside blocks) (sym (taken-item frame item d accepted is brought)) (λ n x at. elim (get-more (items_taken d) item n x at) [
          | inl before ↦ i.items n x before
          | inr last ↦ subst (λ (y : StreamItem). first_of y + length (contents_of y) ≤ blocks) (sym last.1) inside
        ])

-- What is checked of a frame.

range-inside : (s : Settings) (first count : ℕ) → is_range s first count ≡ true → first + count ≤ s.blocks
range-inside s first count range =
    let all = and_parts ((nat_lt 0 count && nat_le count 32) && nat_le (first + count) s.blocks) (extent_of first == extent_of (first + count - 1)) range in
    leb-true (first + count) s.blocks (and_parts (nat_lt 0 count && nat_le count 32) (nat_le (first + count) s.blocks) all.0).1

-- an item that is accepted lies in the device
item-inside : (packet : Packet) (place : ℕ) (c : SecondaryConnection) (h : SecondaryHistory) (done : What × SecondaryHistory)
    → checking_item packet place c h ≡ Ok done
    → (item : StreamItem) × (received_item (Ok packet) ≡ Some item) × (first_of item + length (contents_of item) ≤ h.settings.blocks)
item-inside packet place c h done =
    item-checked
    (λ v. v ≡ Ok done → (item : StreamItem) × (received_item (Ok packet) ≡ Some item) × (first_of item + length (contents_of item) ≤ h.settings.blocks)) packet
    place c h
    (λ write at of may taken. (WriteItem write, brings of, range-inside h.settings write.first (length write.contents) may.here.range))
    (λ block contents at of may taken. (ResyncItem block contents, brings of, range-inside h.settings block 1 may.here.range))
    (λ number of taken. (BarrierItem number, brings of, omega arith)) (λ word of taken. (SyncUuidItem word, brings of, omega arith))
    (λ tuple of taken. (UuidsItem tuple, brings of, omega arith)) (λ refusal taken. absurd (cc))
  where
    brings : {other : Packet} → packet ≡ other → received_item (Ok packet) ≡ received_item (Ok other)
    brings of = ap (λ (p : Packet). received_item (Ok p)) of

checked-inside : (frame : Received) (c : SecondaryConnection) (h : SecondaryHistory) (done : What × SecondaryHistory) → checking frame c h ≡ Ok done
    → BringsInside h.settings.blocks (length c.taken) frame
checked-inside (Err fault) c h done is late = absurd (cc)
checked-inside (Ok packet) c h done is late =
    let late_is : checking_item packet (length (items_taken c)) c h ≡ Ok done =
    sym (ap (λ b. elim b as (λ _. Checked) [ true ↦ checking_hello (length c.taken) packet h | false ↦ checking_item packet (length (items_taken c)) c h ])
    late) ∙ is in
    item-inside packet (length (items_taken c)) c h done late_is

-- Steps.

then-answering : (blocks : ℕ) (h : SecondaryHistory) → HasInside blocks h → HasInside blocks (with_secondary_connection answering h)
then-answering blocks h a = inside-change blocks h (with_secondary_connection answering h) answering refl refl refl
    (inside-answering blocks (secondary_connection h)) a

inside-take : (blocks : ℕ) (frame : Received) (h : SecondaryHistory) → (secondary_connection h).closed ≡ false → HasInside blocks h
    → HasInside blocks (take_item frame h).1
inside-take blocks frame h standing a = go (checking frame (secondary_connection h) (with_secondary_connection (framed frame) h)) refl
  where
    refuses : HasInside blocks (refused_by_too frame h)
    refuses = inside-change blocks h _ (refused_in frame) refl refl (refused-last-too frame h)
        (inside-refusing blocks frame (secondary_connection h) standing) a

    go : (v : Checked) → checking frame (secondary_connection h) (with_secondary_connection (framed frame) h) ≡ v → HasInside blocks (take_item frame h).1
    go (Err refusal) is = subst (λ (r : Reply × SecondaryHistory). HasInside blocks r.1) (sym (item-refused frame h refusal is)) refuses
    go (Ok done) is =
        let brings : BringsInside blocks (length (secondary_connection h).taken) frame =
        subst (λ (n : ℕ). BringsInside n (length (secondary_connection h).taken) frame) a.size
        (checked-inside frame (secondary_connection h) (with_secondary_connection (framed frame) h) done is) in
        let taken : HasInside blocks (with_secondary_connection (framed frame) h) = inside-change blocks h _ (framed frame) refl refl refl
        (inside-taking blocks frame (secondary_connection h) standing brings) a in
        after-take (HasInside blocks) h frame (record {
          accepts = then-answering blocks _ taken;
          receipts = λ write at same late. then-answering blocks _
              (inside-change blocks (with_secondary_connection (framed frame) h) _ (receipting (length (items_taken (secondary_connection h))) write) refl refl
              refl
              (λ i. record { base = i.base; items = i.items; refused = i.refused }) taken);
          adopts = λ item tuple consistent same late. then-answering blocks _ (record { size = taken.size; opening = taken.opening; ends = taken.ends });
          refuses = refuses;
        })

inside-receive : (blocks : ℕ) (frame : Option Received) (out_of_memory : Bool) (h : SecondaryHistory) → HasInside blocks h
    → HasInside blocks (receive frame out_of_memory h).1
inside-receive blocks frame out_of_memory h a =
    receive-has (λ r. HasInside blocks r.1) frame out_of_memory h (λ refusal other. a) (λ taken is standing. inside-take blocks taken h standing a)

inside-after : (blocks : ℕ) (event : SecondaryEvent) (h : SecondaryHistory) → HasInside blocks h → HasInside blocks (secondary_after event h)
inside-after blocks (OpensToo unseen) h a = after-open (HasInside blocks) unseen h a (λ was. then-answering blocks (opened_secondary unseen h) (record {
  size = a.size;
  opening = a.opening;
  ends = each-append (IsInside blocks) h.connections _ a.ends
      (record { base = map-disk blocks (secondary_connection h) (last-inside blocks h a); items = λ n item at. absurd (cc); refused = λ was. absurd (cc) });
}))
inside-after blocks (Receives frame out_of_memory) h a = inside-receive blocks frame out_of_memory h a
inside-after blocks (Applies place) h a = after-peer (HasInside blocks) h place a (λ waiting first.
    then-answering blocks _ (inside-change blocks h _ (applying h.settings.protocol place) refl refl refl
    (inside-applying blocks h.settings.protocol place (secondary_connection h)) a))
inside-after blocks (FailsToApply place offsets) h a = after-fault (HasInside blocks) h place offsets a (λ waiting first.
    inside-change blocks h _ (failing place offsets) refl refl refl (λ i. record { base = i.base; items = i.items; refused = λ was. refl }) a)
inside-after blocks (Acknowledges room out_of_memory) h a = after-push (HasInside blocks) h room out_of_memory a
    (λ standing due. inside-change blocks h _ pushed_one refl refl refl (λ i. record { base = i.base; items = i.items; refused = i.refused }) a)
inside-after blocks ClosesToo h a =
    after-close (HasInside blocks) h a
    (λ standing. inside-change blocks h _ closed_end refl refl refl (λ i. record { base = i.base; items = i.items; refused = λ was. refl }) a)

inside-run : (blocks : ℕ) (events : List SecondaryEvent) (h : SecondaryHistory) → HasInside blocks h → HasInside blocks (secondary_run events h)
inside-run blocks [] h a = a
inside-run blocks (event ∷ events) h a = inside-run blocks events (secondary_after event h) (inside-after blocks event h a)

pub peer-disk : (o : Opening) (events : List SecondaryEvent) → IsDisk o.peer_settings.blocks o.peer
    → IsDisk o.peer_settings.blocks (secondary_map (secondary_run events (secondary_at o)))
peer-disk o events sized =
    let s : SecondaryHistory = secondary_run events (secondary_at o) in
    map-disk o.peer_settings.blocks (secondary_connection s)
    (last-inside o.peer_settings.blocks s (inside-run o.peer_settings.blocks events (secondary_at o) (record { size = refl; opening = sized; ends = tt })))
