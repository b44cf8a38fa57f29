-- A stream begins.
use Rattle.std.proofs.Common.{ℕ, zero, suc, ◌≡◌, ◌+◌, ◌-◌, ◌<◌, ◌≤◌, Bool, true, false, not, ◌&&◌, ◌||◌, List, [], ◌∷◌, ◌++◌, length, map, drop, Option, Some}
use Rattle.std.proofs.Common.{None, slice_get, refl, sym, ◌∙◌, ap, subst, arith}
use Rattle.std.proofs.Math.Bool.{or-false}
use Rattle.std.specs.Prelude.{if◌then◌else◌}
use Rattle.std.specs.List.{list_any}
use Rattle.std.proofs.lemmas.Bool.{both_ways, lt-ltb, lt-leb}
use Rattle.std.proofs.lemmas.Option.{slice_get_within}
use Rattle.std.proofs.Math.Bool.{or-true}
use Rattle.blocks.specs.declared.tuple.Tuple.{Tuple}
use Rattle.blocks.specs.Identifiers.{sync_start}
use Rattle.bitmap.specs.Marks.{marking}
use Rattle.epochs.specs.Epochs.{EpochsState, empty, uncounted}
use Rattle.model.specs.Contents.{Write}
use Rattle.model.specs.Frames.{Received}
use Rattle.model.specs.Marks.{marking_all}
use Rattle.model.specs.Stream.{StreamItem, WriteItem, ResyncItem, SyncUuidItem, barriers_in, last_epoch, epoch_size, items_of_epoch}
use Rattle.model.specs.Primary.{Accepted, PrimaryConnection, PrimaryHistory, primary_connection, last_index, is_established, barrier_acknowledged, is_resync}
use Rattle.model.specs.Primary.{in_resync, under_way}
use Rattle.model.specs.Primary.{open_writes}
use Rattle.model.specs.PrimarySteps.{epoch_is_over}
use Rattle.transferlog.specs.Log.{LogState}
use Rattle.laws.proofs.Rules.EpochEnds.{TakesWrites, room-none, not-over, empty-on}
use Rattle.laws.proofs.Lists.Last.{length-change}
use Rattle.laws.proofs.Primary.Homes.{HasHomes}
use Rattle.laws.proofs.Primary.Moves.{with_frame}
use Rattle.primary_protocol.specs.Core.{EndState, PrimaryState}
use Rattle.primary_protocol.specs.Taking.{hearing}
use Rattle.primary_protocol.specs.Leaves.{numbers_after, total, holding_item, holding_write, marks_in, LeavesEnd, LeavesEpochs, LeavesStream, Leaves}
use Rattle.primary_protocol.proofs.Common.Epochs.{epochs-plain}
use Rattle.primary_protocol.proofs.Common.Following.{IsDue}
use Rattle.primary_protocol.proofs.Connect.Greeting.{IsNoAnswer, applied-same, unasked-same, heard-more, way-none, empty-way, unseen-new}
use Rattle.primary_protocol.proofs.Common.Reached.{primary-connection-of}
use Rattle.primary_protocol.proofs.Common.Marks.{marks-same, marking-in}
use Rattle.primary_protocol.proofs.Common.EndChanges.{turned, unreported, unseen-due}

-- The end of a stream that begins.

-- without a resync
abbrev pub joining : Received → PrimaryConnection → PrimaryConnection
joining frame c = record (with_frame frame c) { begun = true }

-- with a resync: its SYNC_UUID comes first
abbrev pub leading : Received → ℕ → PrimaryConnection → PrimaryConnection
leading frame word c = record (with_frame frame c) { begun = true; stream = SyncUuidItem word ∷ [] }

-- an end that has that to send
abbrev pub led : EndState → EndState
led e = record e { unsent = SyncUuidItem e.sync ∷ []; resync = true }

pub joined-end : (e : EndState) (c : PrimaryConnection) (frame : Received) → LeavesEnd e c → c.stream ≡ [] → c.begun ≡ false → IsNoAnswer frame
    → LeavesEnd (hearing e) (joining frame c)
joined-end e c frame l none fresh other = record {
  is_open = l.is_open;
  plain = l.plain;
  sync = l.sync;
  loss = l.loss;
  hello = l.hello;
  hello_received = heard-more c frame e.hello_received l.hello_received;
  hello_sent = l.hello_sent;
  pushed = l.pushed;
  unsent = l.unsent;
  resync = l.resync ∙ ((λ i. (not c.closed && fresh i) && in_resync (none i))
      ∙ (nothing (not c.closed) ∙ sym (ap (λ (items : List StreamItem). (not c.closed && true) && in_resync items) none ∙ nowhere (not c.closed))));
  under_way = way-none e.under_way c (joining frame c) l.under_way (empty-way c none) (empty-way (joining frame c) none);
  unasked = λ place item later. unasked-same c frame l.plain other place item (l.unasked place item later);
  unbegun = λ new epoch. absurd (cc);
}
  where
    nothing : (b : Bool) → ((b && false) && false) ≡ false
    nothing true = refl
    nothing false = refl

    nowhere : (b : Bool) → ((b && true) && false) ≡ false
    nowhere true = refl
    nowhere false = refl

pub led-end : (e : EndState) (c : PrimaryConnection) (frame : Received) → LeavesEnd e c → c.stream ≡ [] → IsNoAnswer frame
    → LeavesEnd (led (hearing e)) (leading frame c.sync c)
led-end e c frame l none other = record {
  is_open = l.is_open;
  plain = l.plain;
  sync = l.sync;
  loss = l.loss;
  hello = l.hello;
  hello_received = heard-more c frame e.hello_received l.hello_received;
  hello_sent = l.hello_sent;
  pushed = let few : c.pushed - 3 ≤ 0 = unsaid in omega arith;
  unsent = ap (λ word. SyncUuidItem word ∷ []) l.sync
      ∙ sym (ap (λ n. drop n (SyncUuidItem c.sync ∷ [])) (let few = unsaid in let zero_is : c.pushed - 3 ≡ 0 = omega arith in zero_is));
  resync = sym (ap (λ b. (not b && true) && true) l.is_open);
  under_way = way-none e.under_way c (leading frame c.sync c) l.under_way (empty-way c none) refl;
  unasked = λ place item later. unasked-same c frame l.plain other place item
      (l.unasked place item (let size : length c.stream ≡ 0 = ap length none in omega arith));
  unbegun = λ new epoch. absurd (cc);
}
  where
    unsaid : c.pushed - 3 ≤ 0
    unsaid = subst (λ (items : List StreamItem). c.pushed - 3 ≤ length items) none l.pushed

-- The log's epochs at the beginning.
epochs-none : (l : LogState) (c : PrimaryConnection) (max_epoch : ℕ) → c.stream ≡ [] → ((epoch : ℕ) → barrier_acknowledged c epoch ≡ false)
    → l.epochs ≡ empty max_epoch
    → l.acknowledged_through ≡ l.accepted → LeavesEpochs l c
epochs-none l c max_epoch stream unsaid epochs confirmed = record {
  acked = 0;
  acknowledged = λ epoch some. unsaid epoch ∙ sym (lt-leb epoch 0 some);
  within = omega arith;
  places = ap (λ (x : EpochsState). x.places) epochs ∙ sym (ap length stream);
  ended = ap (λ (x : EpochsState). x.ended) epochs ∙ sym (ap barriers_in stream);
  sizes = ap (λ (x : EpochsState). x.sizes) epochs
      ∙ sym (ap (λ (items : List StreamItem). map (epoch_size items) (numbers_after 0 (barriers_in items - 0))) stream);
  size = ap (λ (x : EpochsState). x.size) epochs ∙ sym (ap (λ (items : List StreamItem). epoch_size items (last_epoch items)) stream);
  resync = ap (λ (x : EpochsState). x.resync) epochs
      ∙ sym (ap (λ (items : List StreamItem). list_any (λ (entry : ℕ × StreamItem). is_resync entry.1) (items_of_epoch items (last_epoch items))) stream);
  upto = λ k place write within at. absurd (nowhere place write at);
  newest = (λ i. l.acknowledged_through + total (epochs i).sizes + (epochs i).size) ∙ (let same = confirmed in omega arith);
  first = λ some. absurd (let none : 0 < 0 = subst (λ (x : EpochsState). 0 < x.size) epochs some in omega arith);
  answered = λ place write at upto. absurd (nowhere place write at);
}
  where
    nowhere : (place : ℕ) (write : Write) → slice_get c.stream place ≡ Some (WriteItem write) → ⊥
    nowhere place write at = let none = sym (ap (λ (items : List StreamItem). slice_get items place) stream) ∙ at in cc

-- An epoch that has no write goes on.
goes-on-empty : (h : PrimaryHistory) (d : PrimaryConnection) → primary_connection h ≡ d → TakesWrites h.settings → d.stream ≡ [] → epoch_is_over h ≡ false
goes-on-empty h d last bound none = empty-on h d last bound (ap (λ (items : List StreamItem). items_of_epoch items (last_epoch items)) none)

goes-on-led : (h : PrimaryHistory) (d : PrimaryConnection) (word : ℕ) → primary_connection h ≡ d → TakesWrites h.settings → d.stream ≡ SyncUuidItem word ∷ []
    → epoch_is_over h ≡ false
goes-on-led h d word last bound one = not-over h d last (record {
  unsettled = record {
    writes = λ j place write at i a ati same. absurd (let no = only j place (WriteItem write) (among j at) in cc);
    blocks = λ j place block contents at. absurd (let no = only j place (ResyncItem block contents) (among j at) in cc);
  };
  room = room-none h.settings (epoch_size d.stream (last_epoch d.stream)) bound (ap (λ (items : List StreamItem). epoch_size items (last_epoch items)) one);
})
  where
    led : List (ℕ × StreamItem)
    led = (0, SyncUuidItem word) ∷ []

    among : (j : ℕ) {v : Option (ℕ × StreamItem)} → slice_get (items_of_epoch d.stream (last_epoch d.stream)) j ≡ v → slice_get led j ≡ v
    among j at = ap (λ (items : List StreamItem). slice_get (items_of_epoch items (last_epoch items)) j) (sym one) ∙ at

    only : (j place : ℕ) (item : StreamItem) → slice_get led j ≡ Some (place, item) → SyncUuidItem word ≡ item
    only zero place item at =
        let first : ℕ × StreamItem = (0, SyncUuidItem word) in
        let same : first ≡ (place, item) = cc in
        ap (λ (x : ℕ × StreamItem). x.1) same
    only (suc j) place item at = absurd (cc)

-- Marks.

-- every block of the device
pub all-marked : (blocks : ℕ) (marks : ℕ → Bool) → marking (λ block. true) (marks_in blocks marks) ≡ marks_in blocks (marking_all blocks)
all-marked blocks marks = marking-in blocks (λ block. true) marks
    ∙ marks-same blocks (λ block. marks block || true) (marking_all blocks) (λ block inside. or-true (marks block) ∙ sym (lt-ltb block blocks inside))

-- no more than before
pub none-marked : (blocks : ℕ) (marks : ℕ → Bool) → marking (λ block. false) (marks_in blocks marks) ≡ marks_in blocks marks
none-marked blocks marks = marking-in blocks (λ block. false) marks
    ∙ marks-same blocks (λ block. marks block || false) marks (λ block inside. or-false (marks block))

-- The stream begins, before what follows.
module _ (s : PrimaryState) (h : PrimaryHistory) (left : Leaves s h) (homes : HasHomes h) (bound : TakesWrites h.settings) (e : EndState)
    (end : LeavesEnd e (primary_connection h)) (none : (primary_connection h).stream ≡ []) (fresh : (primary_connection h).begun ≡ false)
    (frame : Received) (other : IsNoAnswer frame) (peer : Tuple) where
  down : is_established (primary_connection h) ≡ false
  down = λ i. not (end.is_open i) && fresh i

  -- all accepted writes are confirmed
  behind-none : (i : ℕ) (a : Accepted) → slice_get h.writes i ≡ Some a → s.log.accepted < a.write.number → ⊥
  behind-none i a at behind =
      let number = homes.numbered i a at in
      let within = slice_get_within h.writes i a at in
      let accepted = left.rest.log.accepted in
      omega arith

  unsaid : (epoch : ℕ) → barrier_acknowledged (with_frame frame (primary_connection h)) epoch ≡ false
  unsaid epoch = applied-same (primary_connection h) frame end.plain other epoch ∙ end.unbegun fresh epoch

  index : s.connections - 1 ≡ last_index h.connections
  index = ap (λ m. m - 1) left.rest.connections

  held-of-writes : s.held ≡ map holding_write (open_writes h)
  held-of-writes = left.rest.held ∙ ap (λ b. map holding_item (if b then under_way (primary_connection h) else []) ++ map holding_write (open_writes h)) down

  module _ (f : PrimaryConnection → PrimaryConnection) (tuple : Tuple) (marks : ℕ
      → Bool) (epochs : EpochsState) (closed : (f (primary_connection h)).closed ≡ (primary_connection h).closed)
      (begun : (f (primary_connection h)).begun ≡ true) (way : under_way (f (primary_connection h)) ≡ [])
      (max_epoch : epochs.max_epoch ≡ s.log.epochs.max_epoch)
      (leaves : LeavesEpochs (unreported (Some (s.connections - 1)) s.log.accepted epochs s.log) (f (primary_connection h))) where
    out : primary_connection (turned f tuple (Some peer) marks h) ≡ f (primary_connection h)
    out = primary-connection-of f h (turned f tuple (Some peer) marks h) refl end.is_open

    up : is_established (primary_connection (turned f tuple (Some peer) marks h)) ≡ true
    up = ap is_established out ∙ λ i. not ((closed ∙ end.is_open) i) && begun i

    same_index : last_index (turned f tuple (Some peer) marks h).connections ≡ last_index h.connections
    same_index = ap (λ m. m - 1) (length-change f h.connections)

    begun-stream : LeavesStream (unreported (Some (s.connections - 1)) s.log.accepted epochs s.log) (turned f tuple (Some peer) marks h)
    begun-stream = record {
      max_epoch = max_epoch ∙ left.stream.max_epoch;
      on = λ so. subst (LeavesEpochs (unreported (Some (s.connections - 1)) s.log.accepted epochs s.log)) (sym out) leaves;
      here = λ so i a at behind. absurd (behind-none i a at behind);
      off = λ off. absurd (both_ways (is_established (primary_connection (turned f tuple (Some peer) marks h))) off up);
    }

    pub begun-due : HasHomes (turned f tuple (Some peer) marks h) → epoch_is_over (turned f tuple (Some peer) marks h) ≡ false
        → (core_tuple : Tuple) → core_tuple ≡ tuple → (bits : List Bool) → bits ≡ marks_in h.settings.blocks marks → (g : EndState)
        → LeavesEnd g (f (primary_connection h))
        → IsDue (record s {
          tuple = core_tuple;
          peer = Some peer;
          log = unreported (Some (s.connections - 1)) s.log.accepted epochs s.log;
          marks = bits;
          held = s.held;
          end = Some g;
        }) None (turned f tuple (Some peer) marks h)
    begun-due later on core_tuple tuple_is bits bits_are g g_end =
        unseen-due s h left f tuple (Some peer) marks (unseen-new h homes none f tuple (Some peer) marks) later on end.is_open core_tuple tuple_is
        (Some peer) refl
        (Some (s.connections - 1)) s.log.accepted epochs
        (ap (λ n. Some n) (index ∙ sym same_index) ∙ sym (ap (λ b. if b then Some (last_index (turned f tuple (Some peer) marks h).connections) else None) up))
        begun-stream bits bits_are s.held
        (held-of-writes ∙ sym (λ i. map holding_item (if up i then (ap under_way out ∙ way) i else []) ++ map holding_write (open_writes h))) g g_end

  -- without a resync
  pub joined-due : HasHomes (turned (joining frame) h.tuple (Some peer) h.marks h)
      → IsDue (record s {
        tuple = s.tuple;
        peer = Some peer;
        log = unreported (Some (s.connections - 1)) s.log.accepted (empty s.log.epochs.max_epoch) s.log;
        marks = s.marks;
        held = s.held;
        end = Some (hearing e);
      }) None (turned (joining frame) h.tuple (Some peer) h.marks h)
  joined-due later =
      begun-due (joining frame) h.tuple h.marks (empty s.log.epochs.max_epoch) refl refl (empty-way (joining frame (primary_connection h)) none) refl
      (epochs-none (unreported (Some (s.connections - 1)) s.log.accepted (empty s.log.epochs.max_epoch) s.log)
      (joining frame (primary_connection h)) s.log.epochs.max_epoch none unsaid refl refl)
      later
      (goes-on-empty (turned (joining frame) h.tuple (Some peer) h.marks h) (joining frame (primary_connection h))
      (primary-connection-of (joining frame) h (turned (joining frame) h.tuple (Some peer) h.marks h) refl end.is_open) bound none)
      s.tuple left.rest.tuple s.marks left.rest.marks (hearing e) (joined-end e (primary_connection h) frame end none fresh other)

  -- with a resync, which may mark more
  pub led-due : (such marks : ℕ → Bool) → marking such s.marks ≡ marks_in h.settings.blocks marks
      → HasHomes (turned (leading frame (primary_connection h).sync) (sync_start (primary_connection h).sync h.tuple) (Some peer) marks h)
      → IsDue (record s {
        tuple = sync_start e.sync s.tuple;
        peer = Some peer;
        log = unreported (Some (s.connections - 1)) s.log.accepted (uncounted (empty s.log.epochs.max_epoch)).1 s.log;
        marks = marking such s.marks;
        held = s.held;
        end = Some (led (hearing e));
      }) None
      (turned (leading frame (primary_connection h).sync) (sync_start (primary_connection h).sync h.tuple) (Some peer) marks h)
  led-due such marks bits later =
      begun-due (leading frame (primary_connection h).sync) (sync_start (primary_connection h).sync h.tuple) marks (uncounted (empty s.log.epochs.max_epoch)).1
      refl refl refl refl
      (epochs-plain (unreported (Some (s.connections - 1)) s.log.accepted (empty s.log.epochs.max_epoch) s.log)
      (unreported (Some (s.connections - 1)) s.log.accepted (uncounted (empty s.log.epochs.max_epoch)).1 s.log)
      (record (with_frame frame (primary_connection h)) { begun = true; stream = [] }) (leading frame (primary_connection h).sync (primary_connection h))
      (SyncUuidItem (primary_connection h).sync)
      (epochs-none (unreported (Some (s.connections - 1)) s.log.accepted (empty s.log.epochs.max_epoch) s.log)
      (record (with_frame frame (primary_connection h)) { begun = true; stream = [] }) s.log.epochs.max_epoch refl unsaid refl refl)
      (record { closed = refl; pushed = refl; taken = refl; refused = refl }) refl refl refl refl refl refl refl refl)
      later
      (goes-on-led (turned (leading frame (primary_connection h).sync) (sync_start (primary_connection h).sync h.tuple) (Some peer) marks h)
      (leading frame (primary_connection h).sync (primary_connection h)) (primary_connection h).sync
      (primary-connection-of (leading frame (primary_connection h).sync) h
      (turned (leading frame (primary_connection h).sync) (sync_start (primary_connection h).sync h.tuple) (Some peer) marks h)
      refl end.is_open) bound refl)
      (sync_start e.sync s.tuple) (λ i. sync_start (end.sync i) (left.rest.tuple i)) (marking such s.marks) bits (led (hearing e))
      (led-end e (primary_connection h) frame end none other)
