-- An end whose stream has not begun takes a frame that is no acknowledgement.
use Rattle.std.proofs.Common.{ℕ, suc, ◌≡◌, inl, inr, Bool, true, false, not, ◌&&◌, ◌||◌, List, [], ◌∷◌, ◌++◌, length, map, filter, Option, Some, None}
use Rattle.std.proofs.Common.{slice_get, Ok, refl, sym, ◌∙◌, ap, subst, arith, nat_lt}
use Rattle.std.proofs.Math.Bool.{or-false}
use Rattle.std.specs.Prelude.{min, if◌then◌else◌}
use Rattle.std.specs.List.{list_any}
use Rattle.std.proofs.lemmas.Bool.{cases_lt, both_ways, lt-ltb, le-ltb}
use Rattle.std.proofs.lemmas.List.{length-append}
use Rattle.std.proofs.lemmas.List.Folds.{list_any-append}
use Rattle.blocks.specs.Positions.{StreamPosition}
use Rattle.blocks.specs.declared.tuple.Tuple.{Tuple}
use Rattle.blocks.specs.declared.outcome.What.{What}
use Rattle.blocks.specs.declared.outcome.Reply.TheVariants as reply
use Rattle.model.specs.Frames.{Acknowledged, Received, naming}
use Rattle.model.specs.Refusals.{done_with}
use Rattle.model.specs.Stream.{StreamItem, WriteItem, epoch_of, placed}
use Rattle.model.specs.Primary.{Accepted, PrimaryConnection, PrimaryHistory, no_primary_connection, primary_connection, last_index, change_last}
use Rattle.model.specs.Primary.{with_primary_connection, is_established, items_sent}
use Rattle.model.specs.Primary.{accepted_frames, is_recv_ack, is_write_ack, is_rs_write_ack, is_barrier_ack, was_received, was_written, was_resynced}
use Rattle.model.specs.Primary.{barrier_acknowledged, is_answered_by, is_answered, is_alone, is_confirmed, is_resync, under_way, open_writes}
use Rattle.model.specs.PrimarySteps as step
use Rattle.laws.proofs.Rules.EpochEnds.{down-on}
use Rattle.laws.proofs.Lists.Last.{get-change}
use Rattle.laws.proofs.Primary.Ends.{accepted-all}
use Rattle.laws.proofs.Primary.Homes.{HasHomes}
use Rattle.laws.proofs.Primary.Moves.{with_frame}
use Rattle.primary_protocol.specs.Core.{UnderWay, EndState, PrimaryState}
use Rattle.primary_protocol.specs.Taking.{hearing}
use Rattle.primary_protocol.specs.Leaves.{is_sent, logged_of, holding_item, holding_write, UnderWayLeft, LeavesEnd, Leaves}
use Rattle.primary_protocol.specs.Steps.{Agrees}
use Rattle.primary_protocol.proofs.Common.Reached.{primary-connection-of}
use Rattle.primary_protocol.proofs.Common.NothingFollows.{still, down-rests}
use Rattle.primary_protocol.proofs.Common.EndChanges.{IsUnseen, turned, writes-same, quiet-same, connections-same, activity-same}
use Rattle.laws.proofs.Rules.Releases.{released-same}

-- Frames.

-- a frame that answers no item and no epoch
pub record IsNoAnswer (frame : Received) : Type 0 where
  pub received : (of : Acknowledged) → is_recv_ack of frame ≡ false
  pub written : (of : Acknowledged) → is_write_ack of frame ≡ false
  pub resynced : (of : Acknowledged) → is_rs_write_ack of frame ≡ false
  pub applied : (epoch : ℕ) → is_barrier_ack epoch frame ≡ false

-- a test that the frame does not pass says the same once it is taken
any-framed : (p : Received → Bool) (c : PrimaryConnection) (frame : Received) → c.refused ≡ false → p frame ≡ false
    → list_any p (accepted_frames (with_frame frame c)) ≡ list_any p (accepted_frames c)
any-framed p c frame plain none =
    ap (list_any p) (accepted-all (with_frame frame c) plain)
    ∙ (list_any-append p c.taken (frame ∷ [])
    ∙ (ap (λ b. list_any p c.taken || (b || false)) none ∙ (or-false (list_any p c.taken) ∙ sym (ap (list_any p) (accepted-all c plain)))))

pub applied-same : (c : PrimaryConnection) (frame : Received) → c.refused ≡ false → IsNoAnswer frame → (epoch : ℕ)
    → barrier_acknowledged (with_frame frame c) epoch ≡ barrier_acknowledged c epoch
applied-same c frame plain none epoch = any-framed (is_barrier_ack epoch) c frame plain (none.applied epoch)

pub unasked-same : (c : PrimaryConnection) (frame : Received) → c.refused ≡ false → IsNoAnswer frame → (place : ℕ) (item : StreamItem)
    → (was_received c place item ≡ false) × (was_written c place item ≡ false) × (was_resynced c place item ≡ false)
    → (was_received (with_frame frame c) place item ≡ false) × (was_written (with_frame frame c) place item ≡ false)
    × (was_resynced (with_frame frame c) place item ≡ false)
unasked-same c frame plain none place item old = (
  any-framed (is_recv_ack (naming place item)) c frame plain (none.received (naming place item)) ∙ old.0,
  any-framed (is_write_ack (naming place item)) c frame plain (none.written (naming place item)) ∙ old.1,
  any-framed (is_rs_write_ack (naming place item)) c frame plain (none.resynced (naming place item)) ∙ old.2,
)

-- one frame more was heard, of which three count
pub heard-more : (c : PrimaryConnection) (frame : Received) (heard : ℕ) → heard ≡ min (length c.taken) 3
    → (if nat_lt heard 3 then suc heard else heard) ≡ min (length (c.taken ++ frame ∷ [])) 3
heard-more c frame heard is =
    let long = length-append c.taken (frame ∷ []) in
    elim (cases_lt heard 3) [
      | inl early ↦ let more : suc heard ≡ min (length (c.taken ++ frame ∷ [])) 3 = omega arith in ap (λ b. if b then suc heard
          else heard) (lt-ltb heard 3 early) ∙ more
      | inr late ↦ let same : heard ≡ min (length (c.taken ++ frame ∷ [])) 3 = omega arith in ap (λ b. if b then suc heard else heard) (le-ltb heard 3 late)
          ∙ same
    ]

-- The end.

-- nothing is under way in a stream without blocks of a resync
pub way-none : (v : Option UnderWay) (c d : PrimaryConnection) → UnderWayLeft v c → under_way c ≡ [] → under_way d ≡ [] → UnderWayLeft v d
way-none None c d left none new = new
way-none (Some way) c d left none new = absurd (let both = sym none ∙ left.1 in cc)

pub empty-way : (c : PrimaryConnection) → c.stream ≡ [] → under_way c ≡ []
empty-way c empty = ap (λ (items : List StreamItem). filter (λ (entry : ℕ × StreamItem). is_resync entry.1 && not (was_resynced c entry.0 entry.1))
    (placed items)) empty

pub greeted-end : (e : EndState) (c : PrimaryConnection) (frame : Received) → LeavesEnd e c → c.stream ≡ [] → c.begun ≡ false → IsNoAnswer frame
    → LeavesEnd (hearing e) (with_frame frame c)
greeted-end e c frame l empty fresh none = record {
  is_open = l.is_open;
  plain = l.plain;
  sync = l.sync;
  loss = l.loss;
  hello = l.hello;
  hello_received = heard-more c frame e.hello_received l.hello_received;
  hello_sent = l.hello_sent;
  pushed = l.pushed;
  unsent = l.unsent;
  resync = l.resync;
  under_way = way-none e.under_way c (with_frame frame c) l.under_way (empty-way c empty) (empty-way (with_frame frame c) empty);
  unasked = λ place item later. unasked-same c frame l.plain none place item (l.unasked place item later);
  unbegun = λ new epoch. applied-same c frame l.plain none epoch ∙ l.unbegun new epoch;
}

-- No write has its home in a stream without items, so that no write sees a change of that end.
module _ (h : PrimaryHistory) (homes : HasHomes h) (empty : (primary_connection h).stream ≡ []) (f : PrimaryConnection
    → PrimaryConnection) (tuple : Tuple) (peer : Option Tuple) (marks : ℕ
    → Bool) where
  untouched : (i : ℕ) (a : Accepted) (home : StreamPosition) → slice_get h.writes i ≡ Some a → a.home ≡ Some home
      → slice_get (change_last f h.connections) home.index ≡ slice_get h.connections home.index
  untouched i a home at is =
      let was = homes.housed i home.index home.place a at is in
      elim (get-change f (no_primary_connection h.tuple) h.connections home.index was.0 was.1) [
        | inl stays ↦ stays ∙ sym was.1
        | inr changed ↦ absurd (let there : slice_get (primary_connection h).stream home.place ≡ Some (WriteItem a.write) =
            subst (λ (c : PrimaryConnection). slice_get c.stream home.place ≡ Some (WriteItem a.write)) changed.1 was.2 in let none =
            sym (ap (λ (items : List StreamItem). slice_get items home.place) empty) ∙ there in cc)
      ]

  -- a look-up of a write's connection
  looked : {X : Type 0} (none : X) (see : StreamPosition → Option PrimaryConnection → X) (i : ℕ) (a : Accepted) → slice_get h.writes i ≡ Some a
      → elim a.home as (λ _. X) [ None ↦ none | Some home ↦ see home (slice_get (change_last f h.connections) home.index) ] ≡ elim a.home as
      (λ _. X) [ None ↦ none | Some home ↦ see home (slice_get h.connections home.index) ]
  looked {X} none see i a at = go a.home refl
    where
      go : (v : Option StreamPosition) → a.home ≡ v
          → elim v as (λ _. X) [ None ↦ none | Some home ↦ see home (slice_get (change_last f h.connections) home.index) ] ≡ elim v as
          (λ _. X) [ None ↦ none | Some home ↦ see home (slice_get h.connections home.index) ]
      go None is = refl
      go (Some home) is = ap (see home) (untouched i a home at is)

  alone-as : (i : ℕ) (a : Accepted) → slice_get h.writes i ≡ Some a → is_alone (turned f tuple peer marks h) a ≡ is_alone h a
  alone-as = looked true (λ home v. elim v as (λ _. Bool) [ None ↦ true | Some c ↦ c.closed ])

  sent-as : (i : ℕ) (a : Accepted) → slice_get h.writes i ≡ Some a → is_sent (turned f tuple peer marks h) a ≡ is_sent h a
  sent-as = looked false (λ home v. elim v as (λ _. Bool) [ None ↦ false | Some c ↦ nat_lt home.place (items_sent c) ])

  answered-as : (i : ℕ) (a : Accepted) → slice_get h.writes i ≡ Some a → is_answered (turned f tuple peer marks h) a ≡ is_answered h a
  answered-as i a =
      looked false (λ home v. elim v as (λ _. Bool) [ None ↦ false | Some c ↦ is_answered_by h.settings.protocol c home.place (WriteItem a.write) ]) i
      a

  confirmed-as : (i : ℕ) (a : Accepted) → slice_get h.writes i ≡ Some a → is_confirmed (turned f tuple peer marks h) a ≡ is_confirmed h a
  confirmed-as = looked false (λ home v. elim v as (λ _. Bool) [ None ↦ false | Some c ↦ barrier_acknowledged c (epoch_of c.stream home.place) ])

  pub unseen-new : IsUnseen h (turned f tuple peer marks h)
  unseen-new = record {
    logged = λ i a at. λ j. record (logged_of h a) { linked = not (alone-as i a at j); sent = sent-as i a at j; answered = answered-as i a at j };
    released = λ i a at. released-same h (turned f tuple peer marks h) a (confirmed-as i a at) (alone-as i a at);
  }

-- The frame is taken, and nothing follows.
module _ (s : PrimaryState) (h : PrimaryHistory) (left : Leaves s h) (homes : HasHomes h) (e : EndState) (end : LeavesEnd e (primary_connection h))
    (empty : (primary_connection h).stream ≡ []) (fresh : (primary_connection h).begun ≡ false) (frame : Received) (none : IsNoAnswer frame) where
  out : primary_connection (with_primary_connection (with_frame frame) h) ≡ with_frame frame (primary_connection h)
  out = primary-connection-of (with_frame frame) h (with_primary_connection (with_frame frame) h) refl end.is_open

  down : is_established (primary_connection h) ≡ false
  down = λ i. not (end.is_open i) && fresh i

  down-too : is_established (primary_connection (with_primary_connection (with_frame frame) h)) ≡ false
  down-too = ap is_established out ∙ down

  unseen : IsUnseen h (turned (with_frame frame) h.tuple h.peer h.marks h)
  unseen = unseen-new h homes empty (with_frame frame) h.tuple h.peer h.marks

  greeted-leaves : Leaves (record s { end = Some (hearing e) }) (with_primary_connection (with_frame frame) h)
  greeted-leaves = record {
    rest = record {
      settings = left.rest.settings;
      tuple = left.rest.tuple;
      peer = left.rest.peer;
      connections = connections-same s h left (with_frame frame) h.tuple h.peer h.marks unseen;
      log = record {
        protocol = left.rest.log.protocol;
        backlog = left.rest.log.backlog;
        accepted = left.rest.log.accepted;
        connection = left.rest.log.connection
            ∙ (ap (λ b. if b then Some (last_index h.connections) else None) down
            ∙ sym (ap (λ b. if b then Some (last_index (with_primary_connection (with_frame frame) h).connections) else None) down-too));
        writes = writes-same s h left (with_frame frame) h.tuple h.peer h.marks unseen;
        last_writes = left.rest.log.last_writes;
      };
      entries = record { entries = left.rest.entries.entries; receipts = left.rest.entries.receipts };
      marks = left.rest.marks;
      held = left.rest.held ∙ (ap (λ b. map holding_item (if b then under_way (primary_connection h) else []) ++ map holding_write (open_writes h)) down
          ∙ sym (ap (λ b. map holding_item (if b then under_way (primary_connection (with_primary_connection (with_frame frame) h))
          else []) ++ map holding_write (open_writes h))
          down-too));
      activity = activity-same s h left (with_frame frame) h.tuple h.peer h.marks unseen;
      end = subst (LeavesEnd (hearing e)) (sym out) (greeted-end e (primary_connection h) frame end empty fresh none);
      quiet = quiet-same s h left (with_frame frame) h.tuple h.peer h.marks unseen;
    };
    stream = record {
      max_epoch = left.stream.max_epoch;
      on = λ so. absurd (both_ways (is_established (primary_connection (with_primary_connection (with_frame frame) h))) down-too so);
      here = λ so. absurd (both_ways (is_established (primary_connection (with_primary_connection (with_frame frame) h))) down-too so);
      off = λ none. left.stream.off down;
    };
  }

  pub greeted-agrees : (name : What)
      → Agrees reply.Ok (Ok (done_with name), record s { end = Some (hearing e) }) (step.succeeding name (with_primary_connection (with_frame frame) h))
  greeted-agrees name =
      subst (Agrees reply.Ok (Ok (done_with name), record s { end = Some (hearing e) }))
      (sym (still (with_primary_connection (with_frame frame) h) greeted-leaves.rest.quiet (down-on (with_primary_connection (with_frame frame) h) down-too)
      (down-rests (with_primary_connection (with_frame frame) h) down-too) name)) (record { reply = refl; leaves = greeted-leaves })
