-- The peer answers a write: what that leaves, before what follows.
use Rattle.std.proofs.Common.{ℕ, ◌≡◌, inl, inr, Bool, true, false, not, ◌&&◌, ◌||◌, List, [], ◌∷◌, ◌++◌, length, filter, Option, Some, None, slice_get}
use Rattle.std.proofs.Common.{refl, sym, ◌∙◌, ap, subst, ◌==◌}
use Rattle.std.proofs.Math.Bool.{or-false}
use Rattle.std.specs.Prelude.{if◌then◌else◌}
use Rattle.std.specs.List.{list_any}
use Rattle.std.proofs.lemmas.Bool.{both_ways, and_parts, eqb-true}
use Rattle.std.proofs.lemmas.List.Folds.{list_any-append}
use Rattle.std.proofs.lemmas.List.{map-id}
use Rattle.std.proofs.Math.Bool.{or-true}
use Rattle.blocks.specs.Positions.{StreamPosition}
use Rattle.blocks.specs.declared.settings.Settings.{Settings}
use Rattle.blocks.specs.declared.settings.Protocol.{Protocol}
use Rattle.model.specs.Stream.{StreamItem, WriteItem, epoch_of}
use Rattle.model.specs.Frames.{Acknowledged, Received, naming, counting}
use Rattle.model.specs.Primary.{Accepted, PrimaryConnection, PrimaryHistory, no_primary_connection, primary_connection, last_index, change_last}
use Rattle.model.specs.Primary.{with_primary_connection, is_established, same_naming}
use Rattle.model.specs.Primary.{accepted_frames, is_answered_by, is_answered, is_alone, is_confirmed, is_released, is_on_disk, barrier_acknowledged}
use Rattle.model.specs.Primary.{was_resynced, completes}
use Rattle.transferlog.specs.Log.{changing}
use Rattle.transferlog.specs.Ring.{on}
use Rattle.transferlog.specs.Writes as writes
use Rattle.transferlog.specs.Writes.{released_of}
use Rattle.transferlog.specs.declared.report.Released.{Released}
use Rattle.laws.proofs.Rules.Completions.{completes-parts}
use Rattle.laws.proofs.Lists.Last.{get-change, get-last-changed}
use Rattle.laws.proofs.Lists.Picks.{pick-filtered, pick-image}
use Rattle.laws.proofs.Primary.Ends.{established-parts}
use Rattle.laws.proofs.Primary.Homes.{HasHomes, open-at}
use Rattle.laws.proofs.Releases.InOrderMoves.{Ordered, OrderedAfter}
use Rattle.laws.proofs.Primary.Moves.{with_frame}
use Rattle.primary_protocol.specs.Core as core
use Rattle.primary_protocol.specs.Core.{EndState, PrimaryState}
use Rattle.primary_protocol.specs.Leaves.{is_sent, logged_of, LeavesEnd, EndLeft, Leaves}
use Rattle.primary_protocol.proofs.Acknowledge.AwaitedWrite.{Names}
use Rattle.primary_protocol.proofs.Common.OneWriteLeaves.{change-due, entries-stay, held-stays}
use Rattle.primary_protocol.proofs.Common.OneWrite.{IsChange, released-is}
use Rattle.primary_protocol.proofs.Common.Following.{IsDue}
use Rattle.primary_protocol.proofs.Common.Reached.{primary-connection-of}
use Rattle.primary_protocol.proofs.Common.Marks.{unmarking-none}
use Rattle.primary_protocol.proofs.Common.WriteStates.{completes-seen, disk-seen}
use Rattle.primary_protocol.proofs.LocalDisk.Writes.{one}
use Rattle.laws.proofs.Rules.Releases.{released-same}
use Rattle.laws.proofs.Primary.WriteConnections.{alone-seen, sent-seen, confirmed-seen}

-- A frame that is accepted is the last of those that count.
pub frames-more : (c : PrimaryConnection) (frame : Received) → c.refused ≡ false → accepted_frames (with_frame frame c) ≡ accepted_frames c ++ frame ∷ []
frames-more c frame plain = ap (λ b. counting b (c.taken ++ frame ∷ [])) plain ∙ sym (ap (λ b. counting b c.taken ++ frame ∷ []) plain)

pub any-frame : (p : Received → Bool) (c : PrimaryConnection) (frame : Received) → c.refused ≡ false
    → list_any p (accepted_frames (with_frame frame c)) ≡ (list_any p (accepted_frames c) || p frame)
any-frame p c frame plain = ap (list_any p) (frames-more c frame plain)
    ∙ (list_any-append p (accepted_frames c) (frame ∷ []) ∙ ap (λ b. list_any p (accepted_frames c) || b) (or-false (p frame)))

-- what a write sees of its connection, which is the same but for the last one
pub looked : {X : Type 0} (see : Option PrimaryConnection → X) (f : PrimaryConnection → PrimaryConnection) (h : PrimaryHistory) (k : ℕ) (c : PrimaryConnection)
    → slice_get h.connections k ≡ Some c
    → (c ≡ primary_connection h → see (Some (f (primary_connection h))) ≡ see (Some (primary_connection h)))
    → see (slice_get (change_last f h.connections) k) ≡ see (slice_get h.connections k)
looked see f h k c at same = elim (get-change f (no_primary_connection h.tuple) h.connections k c at) [
  | inl stays ↦ ap see (stays ∙ sym at)
  | inr changed ↦ ap see changed.0
      ∙ (ap (λ (x : PrimaryConnection). see (Some (f x))) changed.1
      ∙ (same changed.1 ∙ (ap (λ (x : PrimaryConnection). see (Some x)) (sym changed.1) ∙ ap see (sym at))))
]

module _ (settings : Settings) (s : PrimaryState) (h : PrimaryHistory) (e : EndState) (ack : Acknowledged) (frame : Received) (left : Leaves s h)
    (ordered : Ordered settings h) (after : OrderedAfter settings (with_primary_connection (with_frame frame) h))
    (standing : is_established (primary_connection h) ≡ true) (names : Names h ack) (is : s.end ≡ Some e)
    (end : LeavesEnd e (with_frame frame (primary_connection h)))
    (answers : (place : ℕ) (item : StreamItem)
    → is_answered_by h.settings.protocol (with_frame frame (primary_connection h)) place item ≡
    (is_answered_by h.settings.protocol (primary_connection h) place item || same_naming (naming place item) ack))
    (answered-mono : (asked : Protocol) (place : ℕ) (item : StreamItem) → is_answered_by asked (primary_connection h) place item ≡ true
    → is_answered_by asked (with_frame frame (primary_connection h)) place item ≡ true)
    (no_barrier : (epoch : ℕ) → barrier_acknowledged (with_frame frame (primary_connection h)) epoch ≡ barrier_acknowledged (primary_connection h) epoch)
    (no_block : (place : ℕ) (item : StreamItem)
    → was_resynced (with_frame frame (primary_connection h)) place item ≡ was_resynced (primary_connection h) place item) where
  homes : HasHomes h
  homes = ordered.1.1.0.0

  abbrev later : PrimaryHistory
  later = with_primary_connection (with_frame frame) h

  there : slice_get h.connections (last_index h.connections) ≡ Some (primary_connection h)
  there = open-at h (established-parts (primary_connection h) standing).0

  there-then : slice_get later.connections (last_index h.connections) ≡ Some (with_frame frame (primary_connection h))
  there-then = get-last-changed (with_frame frame) (no_primary_connection h.tuple) h.connections (primary_connection h) there refl

  out : primary_connection later ≡ with_frame frame (primary_connection h)
  out = primary-connection-of (with_frame frame) h later refl (established-parts (primary_connection h) standing).0

  alone-framed : (a : Accepted) → is_alone later a ≡ is_alone h a
  alone-framed = alone-seen h later (with_frame frame) refl refl

  sent-framed : (a : Accepted) → is_sent later a ≡ is_sent h a
  sent-framed = sent-seen h later (with_frame frame) refl refl

  confirmed-framed : (a : Accepted) → is_confirmed later a ≡ is_confirmed h a
  confirmed-framed = confirmed-seen h later (with_frame frame) refl (λ place. no_barrier (epoch_of (primary_connection h).stream place))

  -- the logged write, by what is answered of it
  framed-as : (a : Accepted) (answered : Bool) → is_answered later a ≡ answered → logged_of later a ≡ record (logged_of h a) { answered = answered }
  framed-as a answered so = λ j. record (logged_of h a) { linked = not (alone-framed a j); sent = sent-framed a j; answered = so j }

  answered-other : (i : ℕ) (a : Accepted) → slice_get h.writes i ≡ Some a → (a.write.number == ack.number) ≡ false → is_answered later a ≡ is_answered h a
  answered-other i a at other = go a.home refl
    where
      see : ℕ → Option PrimaryConnection → Bool
      see place v = elim v as (λ _. Bool) [ None ↦ false | Some c ↦ is_answered_by h.settings.protocol c place (WriteItem a.write) ]

      unnamed : (place : ℕ) → same_naming (naming place (WriteItem a.write)) ack ≡ false
      unnamed place = ap (λ b. ((a.write.first == ack.first) && b) && ((length a.write.contents == ack.count) && (place == ack.place))) other
          ∙ go2 (a.write.first == ack.first)
        where
          go2 : (b : Bool) → ((b && false) && ((length a.write.contents == ack.count) && (place == ack.place))) ≡ false
          go2 true = refl
          go2 false = refl

      go : (v : Option StreamPosition) → a.home ≡ v
          → elim v as (λ _. Bool) [ None ↦ false | Some home ↦ see home.place (slice_get (change_last (with_frame frame) h.connections) home.index) ]
          ≡ elim v as
          (λ _. Bool) [ None ↦ false | Some home ↦ see home.place (slice_get h.connections home.index) ]
      go None so = refl
      go (Some home) so =
          let was = homes.housed i home.index home.place a at so in
          looked (see home.place) (with_frame frame) h home.index was.0 was.1 (λ last. answers home.place (WriteItem a.write)
          ∙ (ap (λ b. is_answered_by h.settings.protocol (primary_connection h) home.place (WriteItem a.write) || b) (unnamed home.place)
          ∙ or-false (is_answered_by h.settings.protocol (primary_connection h) home.place (WriteItem a.write))))

  answered-its : (i : ℕ) (a : Accepted) → slice_get h.writes i ≡ Some a → (a.write.number == ack.number) ≡ true → is_answered later a ≡ true
  answered-its i a at same =
      let parts = and_parts ((names.accepted.write.first == ack.first) && (names.accepted.write.number == ack.number))
      ((length names.accepted.write.contents == ack.count) && (ack.place == ack.place)) names.naming_is in
      let number = and_parts (names.accepted.write.first == ack.first) (names.accepted.write.number == ack.number) parts.0 in
      let equal : names.accepted ≡ a = one s h ack.number left homes names.index i names.accepted a names.at at
      (eqb-true names.accepted.write.number ack.number number.1 ∙ sym (eqb-true a.write.number ack.number same)) in
      ap (is_answered later) (sym equal)
      ∙ (ap (λ (v : Option StreamPosition). elim v as
      (λ _. Bool) [
        | None ↦ false
        | Some home ↦ elim (slice_get (change_last (with_frame frame) h.connections) home.index) as
            (λ _. Bool) [ None ↦ false | Some c ↦ is_answered_by h.settings.protocol c home.place (WriteItem names.accepted.write) ]
      ]) names.home
      ∙ (ap (λ (v : Option PrimaryConnection). elim v as
      (λ _. Bool) [ None ↦ false | Some c ↦ is_answered_by h.settings.protocol c ack.place (WriteItem names.accepted.write) ]) there-then
      ∙ (answers ack.place (WriteItem names.accepted.write)
      ∙ (ap (λ b. is_answered_by h.settings.protocol (primary_connection h) ack.place (WriteItem names.accepted.write) || b) names.naming_is
      ∙ or-true (is_answered_by h.settings.protocol (primary_connection h) ack.place (WriteItem names.accepted.write))))))

  sees : (i : ℕ) (a : Accepted) → slice_get h.writes i ≡ Some a → logged_of later a ≡ on ack.number writes.answering (logged_of h a)
  sees i a at = go (a.write.number == ack.number) refl
    where
      go : (b : Bool) → (a.write.number == ack.number) ≡ b → logged_of later a ≡ (if b then writes.answering (logged_of h a) else logged_of h a)
      go true same = framed-as a true (answered-its i a at same)
      go false other = framed-as a (is_answered h a) (answered-other i a at other)

  completes-still : (i : ℕ) (a : Accepted) → slice_get h.writes i ≡ Some a → completes h a ≡ true → completes later a ≡ true
  completes-still i a at done =
      let parts = completes-parts h a done in
      sym (completes-seen later a) ∙ (ap writes.is_completed (sees i a at) ∙ by-number (a.write.number == ack.number) parts.0)
    where
      by-number : (b : Bool) → is_on_disk a.outcome ≡ true → writes.is_completed (if b then writes.answering (logged_of h a) else logged_of h a) ≡ true
      by-number false disk = completes-seen h a ∙ done
      by-number true disk = λ j. (disk-seen a.outcome ∙ disk) j && (true || not (not (is_alone h a)))

  answered-change : IsChange h later ack.number writes.answering (λ a. a) (with_frame frame)
  answered-change = record {
    settings = refl;
    journal = refl;
    connections = refl;
    last = out;
    writes = sym (map-id h.writes);
    write = λ a. refl;
    home = λ a. refl;
    logged = sees;
    alone = λ i a at. alone-framed a;
    confirmed = λ i a at. confirmed-framed a;
    settled = λ i a at settled. settled;
    failed = λ i a at failed. failed;
    completed = completes-still;
    stream = refl;
    closed = refl;
    begun = refl;
    acknowledged = no_barrier;
    resynced = no_block;
    answered = answered-mono;
  }

  clears-none : (n : ℕ) (r : Released) → slice_get (changing ack.number writes.answering s.log).1.released n ≡ Some r → r.clears ≡ false
  clears-none n r at =
      let of = pick-image (λ a. released_of (logged_of later a)) (filter (λ a. not (is_released h a) && is_released later a) h.writes) n r
      (subst (λ (rs : List Released). slice_get rs n ≡ Some r)
      (released-is s h later ack.number writes.answering (λ a. a) (with_frame frame) left homes ordered.1.0 answered-change) at) in
      let stood = pick-filtered (λ a. not (is_released h a) && is_released later a) h.writes n of.0 of.1 in
      let parts = and_parts (not (is_released h of.0)) (is_released later of.0) stood.2 in
      let same : is_released later of.0 ≡ is_released h of.0 = released-same h later of.0 (confirmed-framed of.0) (alone-framed of.0) in
      absurd (both_ways (not (is_released h of.0)) (ap not (sym same ∙ parts.1)) parts.0)

  pub answered-due : IsDue (record s { log = (changing ack.number writes.answering s.log).1 }) (changing ack.number writes.answering s.log).0 later
  answered-due =
      change-due s h later ack.number writes.answering (λ a. a) (with_frame frame) left homes ordered.1.0 ordered.1.1.0.1.on after.1.1.0.0 answered-change
      s.entries s.held s.marks s.end refl refl refl
      (entries-stay s h later ack.number writes.answering (λ a. a) (with_frame frame) left homes ordered.1.0 ordered.1.1.0.1.on after.1.1.0.0 answered-change
      (λ i a at. refl) refl)
      (held-stays s h later ack.number writes.answering (λ a. a) (with_frame frame) left homes ordered.1.0 ordered.1.1.0.1.on after.1.1.0.0 answered-change
      (λ i a at. refl))
      (ap (core.unmarking (changing ack.number writes.answering s.log).1.released (changing ack.number writes.answering s.log).1.last_writes) left.rest.marks
      ∙ unmarking-none (changing ack.number writes.answering s.log).1.released (changing ack.number writes.answering s.log).1.last_writes h.settings.blocks h.marks
      clears-none)
      (subst (λ v. EndLeft v (primary_connection later)) (sym is) (subst (LeavesEnd e) (sym out) end))
