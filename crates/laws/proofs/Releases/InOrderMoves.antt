-- Every move of a primary keeps the order in which its writes stand.
use Rattle.std.proofs.Common.{ℕ, ◌≡◌, ◌-◌, ◌<◌, inl, inr, Bool, true, false, List, [], ◌∷◌, ◌++◌, length, take, Option}
use Rattle.std.proofs.Common.{Some, None, slice_get, Ok, refl, sym, ◌∙◌, ap, subst, arith}
use Rattle.std.specs.Prelude.{is_some, unwrap_or}
use Rattle.std.proofs.lemmas.Bool.{cases_Bool, cases_lt}
use Rattle.std.proofs.lemmas.Option.{slice_get_within}
use Rattle.blocks.specs.Positions.{StreamPosition}
use Rattle.blocks.specs.declared.settings.Settings.{Settings}
use Rattle.blocks.specs.declared.tuple.Tuple.{Tuple}
use Rattle.blocks.specs.declared.outcome.Decision.{Decision}
use Rattle.blocks.specs.declared.outcome.Decision.TheVariants.{NoSync, BitmapSync, FullSync}
use Rattle.model.specs.Contents.{Write, covers}
use Rattle.model.specs.Stream.{StreamItem, WriteItem, ResyncItem, BarrierItem, SyncUuidItem, UuidsItem, IsLawful, epoch_of, last_epoch, within}
use Rattle.model.specs.Frames.{BarrierAckFrame, UuidsFrame, Received, RecvAckFrame, WriteAckFrame, RsWriteAckFrame}
use Rattle.model.specs.Primary.{OnDisk, Failed, Accepted, PrimaryConnection, PrimaryHistory, primary_connection, last_index, with_primary_connection}
use Rattle.model.specs.Primary.{is_established, change_last}
use Rattle.model.specs.Primary.{barrier_acknowledged, is_waiting, is_open, accepted_frames, is_barrier_ack, local_map, new_primary_connection}
use Rattle.model.specs.PrimarySteps.{conflict, submission, submitted, opened, with_outcome, accepted_at, faulted, with_completions, ending_resync, given}
use Rattle.model.specs.PrimarySteps.{follows, closing, submitted_with, faulted_by}
use Rattle.model.specs.Acknowledgements.{begun_with, is_in_turn}
use Rattle.laws.proofs.Rules.AckTurns.{turn-has}
use Rattle.laws.proofs.Rules.Conflicts.{open-apart}
use Rattle.laws.proofs.Rules.EpochEnds.{TakesWrites, most_writes}
use Rattle.laws.specs.Reflections.{IsLater}
use Rattle.laws.proofs.Lists.Elements.{get-more, same-at}
use Rattle.laws.proofs.Lists.Fronts.{get-front}
use Rattle.laws.proofs.Lists.Last.{change-none, change-twice}
use Rattle.laws.proofs.Lists.Picks.{filtered-pick}
use Rattle.laws.proofs.Streams.Barriers.{barrier-of}
use Rattle.laws.proofs.Streams.Places.{epoch-front}
use Rattle.laws.proofs.Primary.Homes.{HasHomes, open-at, alone-at}
use Rattle.laws.proofs.Primary.Moves.{IsKeptByMoves, IsGreeting, MaySubmit, following-from, with_frame, pushing}
use Rattle.laws.proofs.Primary.Ends.{not-refused, frames-refusing, established-parts}
use Rattle.laws.proofs.Primary.LastOpen.{IsLastOpen, last-open-kept, alone-at-rest}
use Rattle.laws.proofs.Primary.LawfulMoves.{Before, After, lawful-kept}
use Rattle.laws.proofs.Releases.InOrder.{AreInTurn, IsInOrder, KeepsTurn, order-change, order-same, order-added, turn-frames, turn-other, turn-next}
use Rattle.laws.proofs.Tracked.Kept.{IsKnown, known-kept, waits-open}
use Rattle.laws.proofs.Primary.Writes.{keeps-writes, keeps-outcome, KeepsWrites}
use Rattle.model.specs.Identifiers.{sync_end}
use Rattle.laws.proofs.Rules.RefusedFrames.{refused_out, refused-last}

-- Between steps: what is known of the blocks, that the last end alone may be open, lawful streams, and the order.
abbrev pub Ordered : Settings → PrimaryHistory → Type 0
Ordered settings h = IsKnown h × (IsLastOpen h × (Before settings h × IsInOrder h))

-- after a step's effect
abbrev pub OrderedAfter : Settings → PrimaryHistory → Type 0
OrderedAfter settings h = IsKnown h × (IsLastOpen h × (After settings h × IsInOrder h))

-- An end that stays as it is, but for what no order speaks of.
turn-same : (c d : PrimaryConnection) → (c.closed ≡ true → d.closed ≡ true) → (AreInTurn c → AreInTurn d) → KeepsTurn c d
turn-same c d closed turn = record { closed = closed; turn = turn }

-- Submissions.

-- no open write shares a block with a write without conflict, so none that shares one waits
settled-before : (h : PrimaryHistory) (write : Write) → IsKnown h → is_some (conflict h write) ≡ false → (i block : ℕ) (a : Accepted)
    → slice_get h.writes i ≡ Some a → covers a.write block ≡ true → covers write block ≡ true → is_waiting a.outcome ≡ false
settled-before h write known free i block a at cova covb = elim (cases_Bool (is_waiting a.outcome)) [
  | inr done ↦ done
  | inl waits ↦ absurd (
      let found = filtered-pick (is_open h) h.writes i a at (waits-open h known i a at waits) in
      open-apart h write free found.0 a found.1 block cova covb)
]

-- a write's home comes before the end of the standing stream
home-before : (h : PrimaryHistory) → HasHomes h → (primary_connection h).closed ≡ false → (i : ℕ) (a : Accepted) (home : StreamPosition)
    → slice_get h.writes i ≡ Some a
    → a.home ≡ Some home → IsLater home.index home.place (last_index h.connections) (length (primary_connection h).stream)
home-before h homes standing i a home at is =
    let was = homes.housed i home.index home.place a at is in
    let within = slice_get_within h.connections home.index was.0 was.1 in
    elim (cases_lt home.index (length h.connections - 1)) [
      | inl early ↦ inl early
      | inr last ↦
          let index : home.index ≡ length h.connections - 1 = omega arith in
          let end : was.0 ≡ primary_connection h = same-at h.connections (length h.connections - 1) was.0 (primary_connection h)
          (subst (λ (n : ℕ). slice_get h.connections n ≡ Some was.0) index was.1) (open-at h standing) in
          let inside = slice_get_within was.0.stream home.place (WriteItem a.write) was.2 in
          inr (index, subst (λ (c : PrimaryConnection). home.place < length c.stream) end inside)
    ]

order-submits : (h : PrimaryHistory) (first : ℕ) (contents : List (List ℕ)) → MaySubmit h first contents → HasHomes h → IsKnown h → IsLastOpen h → IsInOrder h
    → IsInOrder (submitted h first contents)
order-submits h first contents may homes known last order = go (is_established (primary_connection h)) refl
  where
    go : (b : Bool) → is_established (primary_connection h) ≡ b → IsInOrder (submitted_with b h first contents)
    go true is = order-added h _ (λ c. record c { stream = c.stream ++ WriteItem (submission h first contents) ∷ [] }) _ order refl refl
        (turn-same (primary_connection h)
        (record (primary_connection h) { stream = (primary_connection h).stream ++ WriteItem (submission h first contents) ∷ [] }) (λ c. c)
        (λ turn. turn-frames (primary_connection h)
        (record (primary_connection h) { stream = (primary_connection h).stream ++ WriteItem (submission h first contents) ∷ [] }) refl turn))
        (record {
          settled = λ i block a at cova covb. settled-before h (submission h first contents) known may.free i block a at cova covb;
          later_home = λ i a home other at ha hb.
              let here : StreamPosition = record { index = last_index h.connections; place = length (primary_connection h).stream } in
              let same : Some here ≡ Some other = hb in
              let equal : here ≡ other = cc in
              subst (λ (x : StreamPosition). IsLater home.index home.place x.index x.place) equal
              (home-before h homes (established-parts (primary_connection h) is).0 i a home at ha);
          closed = λ i a home c at ha hb there. absurd (cc);
        })
    go false is = order-added h _ (λ c. c) _ order (sym (change-none h.connections)) refl
        (turn-same (primary_connection h) (primary_connection h) (λ c. c) (λ turn. turn)) (record {
          settled = λ i block a at cova covb. settled-before h (submission h first contents) known may.free i block a at cova covb;
          later_home = λ i a home other at ha hb. absurd (cc);
          closed = λ i a home c at ha hb there. closed-end i a home c at ha there;
        })
      where
        closed-end : (i : ℕ) (a : Accepted) (home : StreamPosition) (c : PrimaryConnection) → slice_get h.writes i ≡ Some a → a.home ≡ Some home
            → slice_get h.connections home.index ≡ Some c → c.closed ≡ true
        closed-end i a home c at ha there = sym (alone-at h a home c ha there) ∙ alone-at-rest h homes last is i a at

order-faults : (h : PrimaryHistory) (number : ℕ) (offsets : List ℕ) → IsInOrder h → IsInOrder (faulted number offsets h)
order-faults h number offsets order = go (accepted_at h number)
  where
    go : (v : Option Accepted) → IsInOrder
        (faulted_by v number offsets h)
    go None = order
    go (Some accepted) = order-same h _ order refl (keeps-outcome number (Failed (within (length accepted.write.contents) offsets)) h.writes refl)

-- A new connection has taken nothing, and no write has its home there.
order-opens : (h : PrimaryHistory) (sync loss : ℕ) → HasHomes h → IsInOrder h → IsInOrder (opened h sync loss)
order-opens h sync loss homes order = record {
  settled_first = order.settled_first;
  rise = order.rise;
  alone_later = λ i j a b home c less ata atb ha hb at. elim (get-more h.connections new home.index c at) [
    | inl old ↦ order.alone_later i j a b home c less ata atb ha hb old
    | inr added ↦ absurd (
        let was = homes.housed i home.index home.place a ata ha in
        let within = slice_get_within h.connections home.index was.0 was.1 in
        let here = added.0 in
        omega arith)
  ];
  acknowledged = λ k c at. elim (get-more h.connections new k c at) [
    | inl old ↦ order.acknowledged k c old
    | inr added ↦ subst AreInTurn (sym added.1) (λ e f low less said. absurd (cc))
  ];
}
  where
    new : PrimaryConnection
    new = new_primary_connection sync loss h.tuple

order-begins : (h : PrimaryHistory) (peer : Tuple) (decided : Decision) → HasHomes h → (primary_connection h).closed ≡ false → IsInOrder h
    → IsInOrder (begun_with decided (record (with_primary_connection (with_frame (Ok (UuidsFrame peer))) h) { peer = Some peer }))
order-begins h peer decided homes standing order = go decided
  where
    plain : (primary_connection h).refused ≡ false
    plain = not-refused h homes standing (length h.connections - 1) (open-at h standing)

    twice : (later : PrimaryHistory) (g : PrimaryConnection → PrimaryConnection)
        → later.connections ≡ change_last g (change_last (with_frame (Ok (UuidsFrame peer))) h.connections)
        → later.writes ≡ h.writes → ((c : PrimaryConnection) → (g c).closed ≡ c.closed) → ((c : PrimaryConnection) → accepted_frames (g c) ≡ accepted_frames c)
        → IsInOrder later
    twice later g connections writes closed frames =
        order-change h later (λ c. g (with_frame (Ok (UuidsFrame peer)) c)) order (connections
        ∙ change-twice (with_frame (Ok (UuidsFrame peer))) g h.connections) (subst (KeepsWrites h.writes) (sym writes) (keeps-writes h.writes)) (record {
          closed = λ shut. closed (with_frame (Ok (UuidsFrame peer)) (primary_connection h)) ∙ shut;
          turn = λ turn. turn-frames (with_frame (Ok (UuidsFrame peer)) (primary_connection h)) (g (with_frame (Ok (UuidsFrame peer)) (primary_connection h)))
              (frames (with_frame (Ok (UuidsFrame peer)) (primary_connection h)))
              (turn-other (primary_connection h) (Ok (UuidsFrame peer)) plain (λ n. refl) turn);
        })

    go : (v : Decision) → IsInOrder (begun_with v (record (with_primary_connection (with_frame (Ok (UuidsFrame peer))) h) { peer = Some peer }))
    go NoSync = twice _ (λ c. record c { begun = true }) refl refl (λ c. refl) (λ c. refl)
    go BitmapSync = twice _ (λ c. record c {
      begun = true;
      stream = SyncUuidItem (primary_connection (with_primary_connection (with_frame (Ok (UuidsFrame peer))) h)).sync ∷ [];
    })
        refl refl (λ c. refl) (λ c. refl)
    go FullSync = twice _ (λ c. record c {
      begun = true;
      stream = SyncUuidItem (primary_connection (with_primary_connection (with_frame (Ok (UuidsFrame peer))) h)).sync ∷ [];
    }) refl
        refl (λ c. refl) (λ c. refl)

-- Acknowledgements of epochs.

-- in a lawful stream each epoch before that of a barrier is acknowledged, where each barrier before it is
pub earlier-said : (most : ℕ) (c : PrimaryConnection) (number place : ℕ) → IsLawful most c.stream → slice_get c.stream place ≡ Some (BarrierItem number)
    → ((j epoch : ℕ) → j < place → slice_get c.stream j ≡ Some (BarrierItem epoch) → barrier_acknowledged c epoch ≡ true) → (e : ℕ) → 0 < e → e < number
    → barrier_acknowledged c e ≡ true
earlier-said most c number place lawful at before e low less =
    let within = slice_get_within c.stream place (BarrierItem number) at in
    let numbered : number ≡ epoch_of c.stream place = lawful.barriers place number at in
    let early = barrier-of (take place c.stream) e low (omega arith) in
    let there = get-front place c.stream early.0 (BarrierItem early.1) early.2 in
    let its : early.1 ≡ epoch_of c.stream early.0 = lawful.barriers early.0 early.1 there.1 in
    let number_is : early.1 ≡ e = its ∙ (sym (epoch-front c.stream place early.0 there.0 (omega arith)) ∙ early.3) in
    subst (λ (n : ℕ). barrier_acknowledged c n ≡ true) number_is (before early.0 early.1 there.0 there.1)

-- Every move keeps the order.

-- the end that takes a frame which acknowledges no epoch
order-takes : (h later : PrimaryHistory) (frame : Received) → later.connections ≡ change_last (with_frame frame) h.connections → later.writes ≡ h.writes
    → HasHomes h → (primary_connection h).closed ≡ false → ((n : ℕ) → is_barrier_ack n frame ≡ false) → IsInOrder h → IsInOrder later
order-takes h later frame connections writes homes standing other order =
    order-change h later (with_frame frame) order connections (subst (KeepsWrites h.writes) (sym writes) (keeps-writes h.writes)) (record {
      closed = λ shut. shut;
      turn = turn-other (primary_connection h) frame (not-refused h homes standing (length h.connections - 1) (open-at h standing)) other;
    })

-- a frame of the hello acknowledges none
greeting-other : (h : PrimaryHistory) (frame : Received) → IsGreeting h frame → (n : ℕ) → is_barrier_ack n frame ≡ false
greeting-other h frame (inl first) n = ap (is_barrier_ack n) first.1.1
greeting-other h frame (inr second) n = ap (is_barrier_ack n) second.1

-- an item goes to the end of the stream, or nothing but what no order speaks of
order-appends : (h later : PrimaryHistory) (item : StreamItem)
    → later.connections ≡ change_last (λ c. record c { stream = c.stream ++ item ∷ [] }) h.connections
    → later.writes ≡ h.writes → IsInOrder h → IsInOrder later
order-appends h later item connections writes order =
    order-change h later (λ c. record c { stream = c.stream ++ item ∷ [] }) order connections
    (subst (KeepsWrites h.writes) (sym writes) (keeps-writes h.writes)) (record {
      closed = λ shut. shut;
      turn = turn-frames (primary_connection h) (record (primary_connection h) { stream = (primary_connection h).stream ++ item ∷ [] }) refl;
    })

order-following : (h : PrimaryHistory) → IsInOrder h → IsInOrder (follows h).history
order-following = following-from IsInOrder IsInOrder IsInOrder (λ h order. order-same h (with_completions h) order refl (keeps-writes h.writes))
    (λ g over order. order-appends g _ (BarrierItem (last_epoch (primary_connection g).stream)) refl refl order) (λ g on order. order)
    (λ g over order. order-appends g (ending_resync g) (UuidsItem (sync_end g.tuple)) refl refl order) (λ g order. order)

pub in-order-kept : (settings : Settings) → TakesWrites settings → IsKeptByMoves (Ordered settings) (OrderedAfter settings)
in-order-kept settings bound = record {
  following = λ h p. (
    known-kept.following h p.0,
    (last-open-kept.following h p.1.0, ((lawful-kept settings bound).following h p.1.1.0, order-following h p.1.1.1)),
  );
  opens = λ h sync loss closed fresh p. (
    known-kept.opens h sync loss closed fresh p.0,
    (
      last-open-kept.opens h sync loss closed fresh p.1.0,
      ((lawful-kept settings bound).opens h sync loss closed fresh p.1.1.0, order-opens h sync loss p.1.1.0.0 p.1.1.1),
    ),
  );
  submits = λ h first contents may p. (
    known-kept.submits h first contents may p.0,
    (
      last-open-kept.submits h first contents may p.1.0,
      (
        (lawful-kept settings bound).submits h first contents may p.1.1.0,
        order-submits h first contents may p.1.1.0.0 p.0 p.1.0 p.1.1.1,
      ),
    ),
  );
  writes = λ h number waiting p. (
    known-kept.writes h number waiting p.0,
    (
      last-open-kept.writes h number waiting p.1.0,
      (
        (lawful-kept settings bound).writes h number waiting p.1.1.0,
        order-same h (with_outcome number OnDisk h) p.1.1.1 refl (keeps-outcome number OnDisk h.writes refl),
      ),
    ),
  );
  faults = λ h number offsets waiting p. (
    known-kept.faults h number offsets waiting p.0,
    (
      last-open-kept.faults h number offsets waiting p.1.0,
      (
        (lawful-kept settings bound).faults h number offsets waiting p.1.1.0,
        order-faults h number offsets p.1.1.1,
      ),
    ),
  );
  sends = λ h standing due p. (
    known-kept.sends h standing due p.0,
    (
      last-open-kept.sends h standing due p.1.0,
      (
        (lawful-kept settings bound).sends h standing due p.1.1.0,
        order-change h (with_primary_connection pushing h) pushing p.1.1.1 refl (keeps-writes h.writes)
            (record { closed = λ shut. shut; turn = turn-frames (primary_connection h) (pushing (primary_connection h)) refl }),
      ),
    ),
  );
  greets = λ h frame standing new met p. (
    known-kept.greets h frame standing new met p.0,
    (
      last-open-kept.greets h frame standing new met p.1.0,
      (
        (lawful-kept settings bound).greets h frame standing new met p.1.1.0,
        order-takes h (with_primary_connection (with_frame frame) h) frame refl refl p.1.1.0.0 standing (greeting-other h frame met) p.1.1.1,
      ),
    ),
  );
  begins = λ h peer decided standing new late is fresh p. (
    known-kept.begins h peer decided standing new late is fresh p.0,
    (
      last-open-kept.begins h peer decided standing new late is fresh p.1.0,
      (
        (lawful-kept settings bound).begins h peer decided standing new late is fresh p.1.1.0,
        order-begins h peer decided p.1.1.0.0 standing p.1.1.1,
      ),
    ),
  );
  receives = λ h ack standing begun may p. (
    known-kept.receives h ack standing begun may p.0,
    (
      last-open-kept.receives h ack standing begun may p.1.0,
      (
        (lawful-kept settings bound).receives h ack standing begun may p.1.1.0,
        order-takes h (with_primary_connection (with_frame (Ok (RecvAckFrame ack))) h) (Ok (RecvAckFrame ack)) refl refl p.1.1.0.0 standing (λ n. refl) p.1.1.1,
      ),
    ),
  );
  applies = λ h ack standing begun may p. (
    known-kept.applies h ack standing begun may p.0,
    (
      last-open-kept.applies h ack standing begun may p.1.0,
      (
        (lawful-kept settings bound).applies h ack standing begun may p.1.1.0,
        order-takes h (with_primary_connection (with_frame (Ok (WriteAckFrame ack))) h) (Ok (WriteAckFrame ack)) refl refl p.1.1.0.0 standing
            (λ n. refl) p.1.1.1,
      ),
    ),
  );
  clears = λ h ack standing begun may p. (
    known-kept.clears h ack standing begun may p.0,
    (
      last-open-kept.clears h ack standing begun may p.1.0,
      (
        (lawful-kept settings bound).clears h ack standing begun may p.1.1.0,
        order-takes h _ (Ok (RsWriteAckFrame ack)) refl refl p.1.1.0.0 standing (λ n. refl) p.1.1.1,
      ),
    ),
  );
  confirms = λ h number size standing begun turn p. (
    known-kept.confirms h number size standing begun turn p.0,
    (
      last-open-kept.confirms h number size standing begun turn p.1.0,
      (
        (lawful-kept settings bound).confirms h number size standing begun turn p.1.1.0,
        order-confirms h number size standing turn p,
      ),
    ),
  );
  refuses = λ h frame peer standing p. (
    known-kept.refuses h frame peer standing p.0,
    (
      last-open-kept.refuses h frame peer standing p.1.0,
      (
        (lawful-kept settings bound).refuses h frame peer standing p.1.1.0,
        order-change h _ (refused_out frame) p.1.1.1
            (refused-last frame peer h) (keeps-writes h.writes)
            (record {
              closed = λ shut. refl;
              turn = turn-frames (primary_connection h) (refused_out frame (primary_connection h))
                  (frames-refusing (primary_connection h) frame (not-refused h p.1.1.0.0 standing (length h.connections - 1) (open-at h standing)));
            }),
      ),
    ),
  );
  resyncs = λ h block read may runs alone is p. (
    known-kept.resyncs h block read may runs alone is p.0,
    (
      last-open-kept.resyncs h block read may runs alone is p.1.0,
      (
        (lawful-kept settings bound).resyncs h block read may runs alone is p.1.1.0,
        order-appends h _ (ResyncItem block (given read h block)) refl refl p.1.1.1,
      ),
    ),
  );
  closes = λ h standing p. (
    known-kept.closes h standing p.0,
    (
      last-open-kept.closes h standing p.1.0,
      (
        (lawful-kept settings bound).closes h standing p.1.1.0,
        order-change h (closing h) (λ c. record c { closed = true }) p.1.1.1 refl (keeps-writes h.writes)
            (record { closed = λ shut. refl; turn = turn-frames (primary_connection h) (record (primary_connection h) { closed = true }) refl }),
      ),
    ),
  );
  receipts = λ h number p. (
    known-kept.receipts h number p.0,
    (last-open-kept.receipts h number p.1.0, ((lawful-kept settings bound).receipts h number p.1.1.0, order-same h _ p.1.1.1 refl (keeps-writes h.writes))),
  );
}
  where
    order-confirms : (h : PrimaryHistory) (number size : ℕ) → (primary_connection h).closed ≡ false → is_in_turn h number size ≡ true → Ordered settings h
        → IsInOrder (with_primary_connection (with_frame (Ok (BarrierAckFrame number size))) h)
    order-confirms h number size standing turn p =
        let k = length h.connections - 1 in
        let there = open-at h standing in
        let its = turn-has h number size turn in
        order-change h (with_primary_connection (with_frame (Ok (BarrierAckFrame number size))) h) (with_frame (Ok (BarrierAckFrame number size))) p.1.1.1 refl
        (keeps-writes h.writes) (record {
          closed = λ shut. shut;
          turn = turn-next (primary_connection h) number size (not-refused h p.1.1.0.0 standing k there)
              (earlier-said (most_writes settings) (primary_connection h) number its.place (p.1.1.0.1.streams.lawful k (primary_connection h) there) its.there
              its.before);
        })
