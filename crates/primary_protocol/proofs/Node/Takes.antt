-- A node takes a frame.
use Rattle.std.proofs.Common.{ℕ, zero, suc, ◌≡◌, ◌-◌, Bool, true, false, cond, not, ◌||◌, List, [], ◌∷◌, ◌++◌, length, Option, Some, None, Result, Ok}
use Rattle.std.proofs.Common.{Err, refl, sym, ◌∙◌, ap, subst}
use Rattle.std.specs.Prelude.{is_some, if◌then◌else◌}
use Rattle.std.proofs.lemmas.Bool.{and_parts, not-true}
use Rattle.std.proofs.lemmas.List.{append-nil}
use Rattle.blocks.specs.declared.tuple.Tuple.{Tuple}
use Rattle.blocks.specs.declared.refusal.Refusal.{Refusal}
use Rattle.blocks.specs.declared.refusal.Refusal.TheVariants.{NoMemory, NotConnected, NothingThere, UsedIdentifier}
use Rattle.blocks.specs.declared.outcome.Decision.{Decision}
use Rattle.blocks.specs.declared.outcome.Decision.TheVariants.{NoSync, BitmapSync, FullSync}
use Rattle.blocks.specs.declared.outcome.Done.{Done}
use Rattle.blocks.specs.declared.outcome.What.{What}
use Rattle.blocks.specs.declared.outcome.What.TheVariants as what
use Rattle.blocks.specs.declared.outcome.Reply.{Reply}
use Rattle.blocks.specs.declared.outcome.Reply.TheVariants as reply
use Rattle.model.specs.Stream.{StreamItem, SyncUuidItem}
use Rattle.model.specs.Frames.{Packet, DataFrame, RsDataReplyFrame, ProtocolFrame, SizesFrame, UuidsFrame, RecvAckFrame, WriteAckFrame, RsWriteAckFrame}
use Rattle.model.specs.Frames.{BarrierAckFrame, Received}
use Rattle.model.specs.Identifiers.{decision, stands_in}
use Rattle.model.specs.Marks.{clearing, releasing}
use Rattle.model.specs.Primary.{PrimaryConnection, PrimaryHistory, change_last, primary_connection, with_primary_connection, local_map}
use Rattle.model.specs.PrimarySteps as step
use Rattle.model.specs.Acknowledgements as model
use Rattle.model.specs.LocalRuns.{Takes}
use Rattle.laws.proofs.Primary.Homes.{HasHomes, open-at}
use Rattle.laws.proofs.Primary.Moves.{with_frame}
use Rattle.primary_protocol.specs.Core.{EndState, PrimaryState, is_established, tested}
use Rattle.primary_protocol.specs.Taking.{Taken, hearing, taking, taking_hello, taking_ack, taken_by, take_at, take_tests, ack_in}
use Rattle.primary_protocol.specs.Node.{NodeState, NodeHas, NodeIsHad, NodeSteps}
use Rattle.primary_protocol.specs.Steps.{Agrees, replied}
use Rattle.primary_protocol.proofs.Common.Reached.{end-open, primary-connection-of, reached-ordered, established-same}
use Rattle.primary_protocol.proofs.Node.Due.{IsStill, is-still, kept-leaves}
use Rattle.primary_protocol.proofs.Node.Keeps.{Change, Keeps, unchanged, keeps-self, keeps-change, keeps-rest, keeps-following, closing-keeps}
use Rattle.primary_protocol.proofs.Node.Runs.{node-steps, node-refused}
use Rattle.primary_protocol.proofs.Acknowledge.Takes.{takes-agree}
use Rattle.laws.proofs.Rules.Memory.{takes-there, ack-in-takes, out-of-memory-takes}
use Rattle.laws.proofs.Rules.RefusedFrames.{refusing, frame-has}

-- the frame is taken, and the stream has begun or not
abbrev pub took : PrimaryHistory → Received → Bool → Change
took h frame begun = record (unchanged h) { taken = (primary_connection h).taken ++ frame ∷ []; begun = begun }

module _ (h : PrimaryHistory) (frame : Received) (unshut : (primary_connection h).closed ≡ false) where
  abbrev taken : PrimaryHistory
  taken = with_primary_connection (with_frame frame) h

  out : primary_connection (with_primary_connection (with_frame frame) h) ≡ with_frame frame (primary_connection h)
  out = primary-connection-of (with_frame frame) h (with_primary_connection (with_frame frame) h) refl unshut

  open-taken : (primary_connection (with_primary_connection (with_frame frame) h)).closed ≡ false
  open-taken = ap (λ (c : PrimaryConnection). c.closed) out ∙ unshut

  -- before what it says is looked at
  keeps-taken : Keeps h (took h frame (primary_connection h).begun) (with_primary_connection (with_frame frame) h)
  keeps-taken = keeps-change h h (with_primary_connection (with_frame frame) h) (unchanged h) (took h frame (primary_connection h).begun) (with_frame frame) []
      (keeps-self h) unshut refl refl refl refl (sym (append-nil (primary_connection h).stream)) refl refl (λ block. refl) refl

  -- what does not touch the end's stream
  keeps-marked : (later : PrimaryHistory) → later.settings ≡ h.settings → later.connections ≡ (with_primary_connection (with_frame frame) h).connections
      → primary_connection later ≡ primary_connection (with_primary_connection (with_frame frame) h)
      → ((block : ℕ) → local_map later block ≡ local_map h block) → later.faithful ≡ h.faithful
      → Keeps h (took h frame (primary_connection h).begun) later
  keeps-marked later settings connections same disk faithful = keeps-rest h (with_primary_connection (with_frame frame) h) later
      (took h frame (primary_connection h).begun)
      (took h frame (primary_connection h).begun) keeps-taken settings same (ap length connections) refl refl disk faithful

  -- What comes of it: the frame is accepted, or only the peer's tuple may have changed.
  abbrev Comes : model.Taken → Type 0
  Comes (Ok done) = (begun : Bool) × Keeps h (took h frame begun) done.1
  Comes (Err error) = (peer : Option Tuple) × (error.1 ≡ record (with_primary_connection (with_frame frame) h) { peer = peer })

  comes-if : (good : Bool) (name : What) (refusal : Refusal) (done : PrimaryHistory) → Keeps h (took h frame (primary_connection h).begun) done
      → Comes (cond good (Ok (name, done)) (Err (refusal, with_primary_connection (with_frame frame) h)))
  comes-if true name refusal done k = ((primary_connection h).begun, k)
  comes-if false name refusal done k = (h.peer, refl)

  comes-ack : (packet : Packet) → Comes (model.taking_ack packet h (with_primary_connection (with_frame frame) h))
  comes-ack (RecvAckFrame ack) = comes-if _ _ _ _ keeps-taken
  comes-ack (WriteAckFrame ack) = comes-if _ _ _ _ keeps-taken
  comes-ack (RsWriteAckFrame ack) = comes-if _ _ _ (record (with_primary_connection (with_frame frame) h) { marks = clearing ack.first h.marks })
      (keeps-marked _ refl refl refl (λ block. refl) refl)
  comes-ack (BarrierAckFrame number size) = comes-if _ _ _ (releasing h (with_primary_connection (with_frame frame) h))
      (keeps-marked _ refl refl refl (λ block. refl) refl)
  comes-ack packet = (h.peer, refl)

  -- a stream that begins was empty
  comes-begun : (peer : Tuple) → (primary_connection h).stream ≡ [] → (decided : Decision)
      → Keeps h (took h frame true) (model.begun_with decided (record (with_primary_connection (with_frame frame) h) { peer = Some peer }))
  comes-begun peer empty decided = go decided
    where
      g : PrimaryHistory
      g = record (with_primary_connection (with_frame frame) h) { peer = Some peer }

      seen : Keeps h (took h frame (primary_connection h).begun) g
      seen = keeps-marked g refl refl refl (λ block. refl) refl

      was : (primary_connection g).stream ≡ []
      was = ap (λ (c : PrimaryConnection). c.stream) out ∙ empty

      had : (primary_connection g).taken ≡ (primary_connection h).taken ++ frame ∷ []
      had = ap (λ (c : PrimaryConnection). c.taken) out

      with-start : (later : PrimaryHistory) → later.settings ≡ h.settings
          → later.connections ≡ change_last (λ c. record c { begun = true; stream = SyncUuidItem (primary_connection g).sync ∷ [] }) g.connections
          → ((block : ℕ) → local_map later block ≡ local_map h block) → later.faithful ≡ h.faithful → Keeps h (took h frame true) later
      with-start later settings connections disk faithful =
          keeps-change h g later (took h frame (primary_connection h).begun) (took h frame true)
          (λ c. record c { begun = true; stream = SyncUuidItem (primary_connection g).sync ∷ [] }) (SyncUuidItem (primary_connection g).sync ∷ []) seen
          open-taken settings
          connections
          refl refl (sym (ap (λ (l : List StreamItem). l ++ SyncUuidItem (primary_connection g).sync ∷ []) was)) had refl disk faithful

      go : (v : Decision) → Keeps h (took h frame true) (model.begun_with v g)
      go NoSync = keeps-change h g _ (took h frame (primary_connection h).begun) (took h frame true) (λ c. record c { begun = true }) [] seen open-taken refl
          refl refl
          refl (sym (append-nil (primary_connection g).stream)) had refl (λ block. refl) refl
      go BitmapSync = with-start _ refl refl (λ block. refl) refl
      go FullSync = with-start _ refl refl (λ block. refl) refl

  comes-meeting : (peer : Tuple) → (primary_connection h).stream ≡ [] → Comes (model.meeting peer (with_primary_connection (with_frame frame) h))
  comes-meeting peer empty = go (stands_in (primary_connection (with_primary_connection (with_frame frame) h)).sync peer
      || stands_in (primary_connection (with_primary_connection (with_frame frame) h)).loss peer) (decision h.tuple peer)
    where
      go : (used : Bool) (v : Result Decision Refusal) → Comes (elim used as (λ _. model.Taken) [
        | true ↦ Err (UsedIdentifier, record (with_primary_connection (with_frame frame) h) { peer = Some peer })
        | false ↦ elim v as (λ _. model.Taken) [
          | Err refusal ↦ Err (refusal, record (with_primary_connection (with_frame frame) h) { peer = Some peer })
          | Ok decided ↦ Ok
              (what.Decided decided, model.begun_with decided (record (with_primary_connection (with_frame frame) h) { peer = Some peer }))
        ]
      ])
      go true v = (Some peer, refl)
      go false (Err refusal) = (Some peer, refl)
      go false (Ok decided) = (true, comes-begun peer empty decided)

  comes-hello : (n : ℕ) (packet : Packet) → (primary_connection h).stream ≡ []
      → Comes (model.taking_hello n packet (with_primary_connection (with_frame frame) h))
  comes-hello zero (ProtocolFrame asked) empty = comes-if _ _ _ _ keeps-taken
  comes-hello (suc zero) (SizesFrame blocks) empty = comes-if _ _ _ _ keeps-taken
  comes-hello (suc (suc n)) (UuidsFrame peer) empty = comes-meeting peer empty
  comes-hello n packet empty = (h.peer, refl)

  comes : HasHomes h → Comes (model.taking frame h (with_primary_connection (with_frame frame) h))
  comes homes = go frame
    where
      go : (v : Received) → Comes (model.taking v h (with_primary_connection (with_frame frame) h))
      go (Err fault) = (h.peer, refl)
      go (Ok packet) = by-begun (primary_connection h).begun refl
        where
          by-begun : (b : Bool) → (primary_connection h).begun ≡ b → Comes (elim b as (λ _. model.Taken) [
            | true ↦ model.taking_ack packet h (with_primary_connection (with_frame frame) h)
            | false ↦ model.taking_hello (length (primary_connection h).taken) packet (with_primary_connection (with_frame frame) h)
          ])
          by-begun true is = comes-ack packet
          by-begun false is = comes-hello (length (primary_connection h).taken) packet
              (homes.empty (length h.connections - 1) (primary_connection h) (open-at h unshut) is)

  -- A frame that is taken stands last among those taken, and more may be due.
  pub takes-keep : HasHomes h → (begun : Bool) × Keeps h (took h frame begun) (model.take_frame frame h).1
  takes-keep homes = frame-has (λ r. (begun : Bool) × Keeps h (took h frame begun) r.1) Comes frame h (comes homes)
      (λ done so. (so.0, keeps-following h done.1 (took h frame so.0) so.1)) refused-keep
    where
      refused-keep : (error : Refusal × PrimaryHistory) → Comes (Err error)
          → (begun : Bool) × Keeps h (took h frame begun) (step.follows (step.closing (with_primary_connection refusing error.1))).history
      refused-keep error so =
          let g : PrimaryHistory = record (with_primary_connection (with_frame frame) h) { peer = so.0 } in
          let shut : (primary_connection (with_primary_connection refusing g)).closed ≡ false =
          ap (λ (c : PrimaryConnection). c.closed) (primary-connection-of refusing g (with_primary_connection refusing g) refl open-taken) ∙ open-taken in
          let seen : Keeps h (took h frame (primary_connection h).begun) g = keeps-marked g refl refl refl (λ block. refl) refl in
          let refused : Keeps h (took h frame (primary_connection h).begun) (with_primary_connection refusing g) =
          keeps-change h g (with_primary_connection refusing g) (took h frame (primary_connection h).begun) (took h frame (primary_connection h).begun) refusing
          [] seen open-taken refl refl
          refl refl (sym (append-nil (primary_connection g).stream)) seen.taken seen.begun (λ block. refl) refl in (
            (primary_connection h).begun,
            subst (λ (x : PrimaryHistory). Keeps h (took h frame (primary_connection h).begun)
                (step.follows (step.closing (with_primary_connection refusing x))).history) (sym so.1)
                (keeps-following h (step.closing (with_primary_connection refusing g)) (took h frame (primary_connection h).begun)
                (closing-keeps h (with_primary_connection refusing g) (took h frame (primary_connection h).begun) shut refused)),
          )

-- The step, where an end is open.

-- the transition takes the frame
pub takes-frame : (frame : Received) (s : PrimaryState) → is_some s.end ≡ true → ack_in (Some frame) false s ≡ take_at frame s
takes-frame frame s some = go s.end some
  where
    go : (v : Option EndState) → is_some v ≡ true → (elim v as (λ _. Result Done Refusal × PrimaryState) [
      | None ↦ (Err NotConnected, s)
      | Some e ↦ tested s (take_tests (Some frame) false s) (λ _. take_at frame s)
    ]) ≡ take_at frame s
    go None none = absurd (cc)
    go (Some e) some = ap (λ (v : Option Refusal). elim v as (λ _. Result Done Refusal × PrimaryState)
        [ Some refusal ↦ (Err refusal, s) | None ↦ take_at frame s ]) (takes-there frame (is_established s))

module _ (n : NodeState) (frame : Received) (result : Result Done Refusal) (core : PrimaryState) (some : is_some n.core.end ≡ true)
    (is : (result, core) ≡ take_at frame n.core) where
  -- the end is open in the history
  pub unshut-end : (h : PrimaryHistory) → NodeHas n h → (primary_connection h).closed ≡ false
  unshut-end h has = not-true (primary_connection h).closed (sym (end-open n.core.end (primary_connection h) has.leaves.core.rest.end) ∙ some)

  kept : (h : PrimaryHistory) → NodeHas n h → (begun : Bool) × Keeps h (took h frame begun) (model.ack_in (Some frame) false h).1
  kept h has =
      let k = takes-keep h frame (unshut-end h has) (reached-ordered h has.reached).ordered.1.1.0.0 in
      (k.0, subst (λ (p : Reply × PrimaryHistory). Keeps h (took h frame k.0) p.1) (sym (ack-in-takes frame h (unshut-end h has))) k.1)

  -- the call is the step
  pub node-takes : NodeSteps (Takes (Some frame) false) n (replied reply.Ok result) (record n { core = core; taken = n.taken ++ frame ∷ [] })
  node-takes = node-steps (Takes (Some frame) false) n (replied reply.Ok result) (record n { core = core; taken = n.taken ++ frame ∷ [] }) (λ h has.
      let k = kept h has in
      let here : (result, core) ≡ ack_in (Some frame) false n.core = is ∙ sym (takes-frame frame n.core some) in
      let agrees = subst (λ (p : Result Done Refusal × PrimaryState). Agrees reply.Ok p (model.ack_in (Some frame) false h)) (sym here)
      (takes-agree (Some frame) false n.core h has.reached has.leaves.core) in
      record {
        reply = agrees.reply;
        leaves = kept-leaves n core n.disk (n.taken ++ frame ∷ []) h (model.ack_in (Some frame) false h).1
            (took h frame k.0) has.leaves agrees.leaves k.1 has.leaves.disk (ap (λ (l : List Received). l ++ frame ∷ []) has.leaves.taken) n.faithful has.leaves.faithful;
      })

  -- what was due is due still
  pub takes-still : NodeIsHad n → IsStill n.core core
  takes-still had =
      let h = had.history in
      let later = node-takes.after h had.has in
      is-still n.core core h (model.ack_in (Some frame) false h).1 (took h frame (kept h had.has).0) had.has.leaves.core had.has.reached later.leaves.core
      later.reached (kept h had.has).1

  -- a stream stands only at an open end
  pub established-open : NodeIsHad n → is_established core ≡ true → is_some core.end ≡ true
  established-open had standing =
      let h = had.history in
      let later : PrimaryHistory = (model.ack_in (Some frame) false h).1 in
      let left = (node-takes.after h had.has).leaves.core in
      end-open core.end (primary_connection later) left.rest.end
      ∙ (and_parts (not (primary_connection later).closed) (primary_connection later).begun (sym (established-same core later left) ∙ standing)).0

-- A frame that was not taken.
pub node-not-taken : (n : NodeState) (out_of_memory : Bool) (e : Refusal) → (ack_in None out_of_memory n.core).0 ≡ Err e
    → NodeSteps (Takes None out_of_memory) n (reply.Refused e) n
node-not-taken n out_of_memory e is = node-refused (Takes None out_of_memory) tt n e (λ h has. ap (replied reply.Ok) (sym is)
    ∙ (takes-agree None out_of_memory n.core h has.reached has.leaves.core).reply)

-- the end is closed
pub not-open : (s : PrimaryState) → is_some s.end ≡ false → (ack_in None false s).0 ≡ Err NotConnected
not-open s none = go s.end none
  where
    go : (v : Option EndState) → is_some v ≡ false → (elim v as (λ _. Result Done Refusal × PrimaryState) [
      | None ↦ (Err NotConnected, s)
      | Some e ↦ tested s (take_tests None false s) (λ _. (Err NothingThere, s))
    ]).0 ≡ Err NotConnected
    go None none = refl
    go (Some e) some = absurd (cc)

-- there is no room for a frame
pub not-ready : (s : PrimaryState) → is_some s.end ≡ true → is_established s ≡ false → (ack_in None true s).0 ≡ Err NoMemory
not-ready s some down = go s.end some
  where
    go : (v : Option EndState) → is_some v ≡ true → (elim v as (λ _. Result Done Refusal × PrimaryState) [
      | None ↦ (Err NotConnected, s)
      | Some e ↦ tested s (take_tests None true s) (λ _. (Err NothingThere, s))
    ]).0 ≡ Err NoMemory
    go None none = absurd (cc)
    go (Some e) some = ap (λ (v : Option Refusal). (elim v as (λ _. Result Done Refusal × PrimaryState)
        [ Some refusal ↦ (Err refusal, s) | None ↦ (Err NothingThere, s) ]).0) (out-of-memory-takes None (is_established s) down)

-- A frame that leaves the end open.

-- the packet has no blocks
abbrev pub IsShort : Packet → Type 0
IsShort (DataFrame write at) = ⊥
IsShort (RsDataReplyFrame block contents at) = ⊥
IsShort packet = Unit {0}

accepted-short : (packet : Packet) (e : EndState) (s : PrimaryState) (done : Done × PrimaryState) → taking (Ok packet) e s ≡ Ok done → IsShort packet
accepted-short (DataFrame write at) e s done is = go (is_established s) e.hello_received is
  where
    go : (b : Bool) (n : ℕ) → (if b then taking_ack (DataFrame write at) e s else taking_hello n (DataFrame write at) (hearing e) s) ≡ Ok done → ⊥
    go true n is = cc
    go false zero is = cc
    go false (suc zero) is = cc
    go false (suc (suc n)) is = cc
accepted-short (RsDataReplyFrame block contents at) e s done is = go (is_established s) e.hello_received is
  where
    go : (b : Bool) (n : ℕ) → (if b then taking_ack (RsDataReplyFrame block contents at) e s
        else taking_hello n (RsDataReplyFrame block contents at) (hearing e) s) ≡ Ok done → ⊥
    go true n is = cc
    go false zero is = cc
    go false (suc zero) is = cc
    go false (suc (suc n)) is = cc
accepted-short packet e s done is = tt

-- The end is open still only where the frame was a packet without blocks.
pub open-short : (frame : Received) (s core : PrimaryState) (result : Result Done Refusal) → is_some s.end ≡ true → (result, core) ≡ take_at frame s
    → is_some core.end ≡ true → (packet : Packet) × (frame ≡ Ok packet) × IsShort packet
open-short frame s core result some is standing = go s.end some (sym (ap (λ (p : Result Done Refusal × PrimaryState). is_some p.1.end) is) ∙ standing)
  where
    accepted : (e : EndState) (v : Received) (got : Taken) → taking v e s ≡ got → is_some (taken_by e got).1.end ≡ true
        → (packet : Packet) × (v ≡ Ok packet) × IsShort packet
    accepted e v (Err error) at closed = absurd (cc)
    accepted e (Err fault) (Ok done) at here = absurd (cc)
    accepted e (Ok packet) (Ok done) at here = (packet, refl, accepted-short packet e s done at)

    go : (v : Option EndState) → is_some v ≡ true
        → is_some (elim v as (λ _. Result Done Refusal × PrimaryState) [ None ↦ (Err NotConnected, s) | Some e ↦ taken_by e (taking frame e s) ]).1.end ≡ true
        → (packet : Packet) × (frame ≡ Ok packet) × IsShort packet
    go None none here = absurd (cc)
    go (Some e) some here = accepted e frame (taking frame e s) refl here
