-- A primary takes a frame of its peer's hello.
use Rattle.std.proofs.Common.{ℕ, zero, suc, ◌≡◌, ◌-◌, ◌<◌, ◌⊎◌, inl, inr, Bool, true, false, ◌||◌, [], ◌∷◌, length, Some, None, Result, Ok, Err, refl, sym, ◌∙◌}
use Rattle.std.proofs.Common.{ap, subst, arith}
use Rattle.std.specs.Prelude.{min}
use Rattle.std.proofs.lemmas.Bool.{or_parts}
use Rattle.blocks.specs.declared.tuple.Tuple.{Tuple}
use Rattle.blocks.specs.declared.settings.Settings.{Settings}
use Rattle.blocks.specs.declared.settings.Protocol.{Protocol}
use Rattle.blocks.specs.declared.refusal.Refusal.{Refusal}
use Rattle.blocks.specs.declared.refusal.Refusal.TheVariants.{UsedIdentifier}
use Rattle.blocks.specs.declared.outcome.Decision.{Decision}
use Rattle.blocks.specs.declared.outcome.Decision.TheVariants.{NoSync, BitmapSync, FullSync}
use Rattle.blocks.specs.declared.outcome.Reply.TheVariants as reply
use Rattle.blocks.specs.declared.outcome.What.TheVariants as what
use Rattle.bitmap.specs.Marks.{marking}
use Rattle.blocks.specs.Identifiers.{stands_in, decision, sync_start}
use Rattle.model.specs.Acknowledgements as model
use Rattle.model.specs.Acknowledgements.{same_protocol}
use Rattle.model.specs.Frames.{Packet, ProtocolFrame, UuidsFrame, SizesFrame}
use Rattle.model.specs.Frames.{Received}
use Rattle.model.specs.Marks.{marking_all}
use Rattle.model.specs.Primary.{PrimaryConnection, PrimaryHistory, primary_connection, with_primary_connection}
use Rattle.model.specs.PrimarySteps as step
use Rattle.model.specs.PrimarySteps.{resync_is_over}
use Rattle.model.specs.Stream.{SyncUuidItem}
use Rattle.model.specs.Refusals.{done_with}
use Rattle.laws.proofs.Rules.EpochEnds.{TakesWrites}
use Rattle.laws.proofs.Rules.Hellos.{hello_by, taking-is, hello-alike}
use Rattle.laws.proofs.Lists.Last.{change-twice}
use Rattle.laws.proofs.Primary.Homes.{HasHomes, open-at}
use Rattle.laws.proofs.Releases.InOrderMoves.{Ordered, in-order-kept}
use Rattle.laws.proofs.Primary.Moves.{with_frame}
use Rattle.primary_protocol.specs.Core.{EndState, PrimaryState, following}
use Rattle.primary_protocol.specs.Taking as core
use Rattle.primary_protocol.specs.Taking.{hearing}
use Rattle.primary_protocol.specs.Leaves.{LeavesEnd, Leaves}
use Rattle.primary_protocol.specs.Steps.{Agrees}
use Rattle.primary_protocol.proofs.Common.Following.{follow}
use Rattle.primary_protocol.proofs.Connect.Greeting.{IsNoAnswer, greeted-agrees}
use Rattle.primary_protocol.proofs.Common.Reached.{primary-connection-of, from-follow}
use Rattle.primary_protocol.proofs.Connect.StreamBegins.{joining, leading, joined-due, led-due, all-marked, none-marked}
use Rattle.primary_protocol.proofs.Common.TakenAlike.{TakenAlike}
use Rattle.primary_protocol.proofs.Common.EndChanges.{turned}

module _ (settings : Settings) (bound : TakesWrites settings) (s : PrimaryState) (h : PrimaryHistory) (e : EndState) (left : Leaves s h)
    (ordered : Ordered settings h) (end : LeavesEnd e (primary_connection h)) (fresh : (primary_connection h).begun ≡ false) where
  homes : HasHomes h
  homes = ordered.1.1.0.0

  none : (primary_connection h).stream ≡ []
  none = homes.empty (length h.connections - 1) (primary_connection h) (open-at h end.is_open) fresh

  room : TakesWrites h.settings
  room = subst TakesWrites (sym ordered.1.1.0.1.streams.setting) bound

  -- Greetings.

  -- a frame that is not as it should be
  refused : (frame : Received) (refusal : Refusal) → TakenAlike frame s h (Err (refusal, s)) (Err (refusal, with_primary_connection (with_frame frame) h))
  refused frame refusal = (refl, (s.peer, refl, λ i. record (with_primary_connection (with_frame frame) h) { peer = sym left.rest.peer i }))

  -- The meeting.

  module _ (peer : Tuple) (late : 1 < length (primary_connection h).taken) where
    other : IsNoAnswer (Ok (UuidsFrame peer))
    other = record { received = λ of. refl; written = λ of. refl; resynced = λ of. refl; applied = λ epoch. refl }

    out : primary_connection (with_primary_connection (with_frame (Ok (UuidsFrame peer))) h) ≡ with_frame (Ok (UuidsFrame peer)) (primary_connection h)
    out = primary-connection-of (with_frame (Ok (UuidsFrame peer))) h (with_primary_connection (with_frame (Ok (UuidsFrame peer))) h) refl end.is_open

    word : (primary_connection (record (with_primary_connection (with_frame (Ok (UuidsFrame peer))) h) { peer = Some peer })).sync ≡ (primary_connection h).sync
    word = ap (λ (c : PrimaryConnection). c.sync) out

    joined-is : model.begun_with NoSync (record (with_primary_connection (with_frame (Ok (UuidsFrame peer))) h) { peer = Some peer }) ≡ turned
        (joining (Ok (UuidsFrame peer))) h.tuple (Some peer) h.marks h
    joined-is = λ i. record h {
      connections = change-twice (with_frame (Ok (UuidsFrame peer))) (λ c. record c { begun = true }) h.connections i;
      peer = Some peer;
    }

    led-is : (marks : ℕ → Bool) (w v : ℕ) → w ≡ v
        → with_primary_connection (λ c. record c { begun = true; stream = SyncUuidItem w ∷ [] })
        (record (with_primary_connection (with_frame (Ok (UuidsFrame peer))) h) { peer = Some peer; tuple = sync_start w h.tuple; marks = marks })
        ≡ turned (leading (Ok (UuidsFrame peer)) v) (sync_start v h.tuple) (Some peer) marks h
    led-is marks w v same =
        (λ i. record h {
          connections = change-twice (with_frame (Ok (UuidsFrame peer))) (λ c. record c { begun = true; stream = SyncUuidItem w ∷ [] })
              h.connections i;
          peer = Some peer;
          tuple = sync_start w h.tuple;
          marks = marks;
        })
        ∙ (λ i. turned (leading (Ok (UuidsFrame peer)) (same i)) (sync_start (same i) h.tuple) (Some peer) marks h)

    begins : (decided : Decision) → decision h.tuple peer ≡ Ok decided → stands_in (primary_connection h).loss peer ≡ false
        → Agrees reply.Ok (
          Ok (following (what.Decided decided) None (core.begun_with decided (hearing e) (record s { peer = Some peer }))).0,
          (following (what.Decided decided) None (core.begun_with decided (hearing e) (record s { peer = Some peer }))).1,
        )
        (step.succeeding (what.Decided decided)
        (model.begun_with decided (record (with_primary_connection (with_frame (Ok (UuidsFrame peer))) h) { peer = Some peer })))
    begins NoSync is unused =
        subst (λ (g : PrimaryHistory). Agrees reply.Ok (
          Ok (following (what.Decided NoSync) None (core.begun_with NoSync (hearing e) (record s { peer = Some peer }))).0,
          (following (what.Decided NoSync) None (core.begun_with NoSync (hearing e) (record s { peer = Some peer }))).1,
        )
        (step.succeeding (what.Decided NoSync) g))
        (sym joined-is)
        (from-follow _ _ (follow _ None (turned (joining (Ok (UuidsFrame peer))) h.tuple (Some peer) h.marks h)
        (joined-due s h left homes room e end none fresh (Ok (UuidsFrame peer)) other peer
        (subst HasHomes joined-is ((in-order-kept settings bound).begins h peer NoSync end.is_open fresh late is unused ordered).1.1.0.0))
        (what.Decided NoSync)))
    begins BitmapSync is unused =
        subst (λ (g : PrimaryHistory). Agrees reply.Ok (
          Ok (following (what.Decided BitmapSync) None (core.begun_with BitmapSync (hearing e) (record s { peer = Some peer }))).0,
          (following (what.Decided BitmapSync) None (core.begun_with BitmapSync (hearing e) (record s { peer = Some peer }))).1,
        )
        (step.succeeding (what.Decided BitmapSync) g))
        (sym (led-is h.marks _ _ word))
        (from-follow _ _ (follow _ None (turned (leading (Ok (UuidsFrame peer)) (primary_connection h).sync) (sync_start (primary_connection h).sync h.tuple)
        (Some peer) h.marks h)
        (led-due s h left homes room e end none fresh (Ok (UuidsFrame peer)) other peer (λ block. false) h.marks (ap (marking (λ block. false)) left.rest.marks
        ∙ none-marked h.settings.blocks h.marks)
        (subst HasHomes (led-is h.marks _ _ word) ((in-order-kept settings bound).begins h peer BitmapSync end.is_open fresh late is unused ordered).1.1.0.0))
        (what.Decided BitmapSync)))
    begins FullSync is unused =
        subst (λ (g : PrimaryHistory). Agrees reply.Ok (
          Ok (following (what.Decided FullSync) None (core.begun_with FullSync (hearing e) (record s { peer = Some peer }))).0,
          (following (what.Decided FullSync) None (core.begun_with FullSync (hearing e) (record s { peer = Some peer }))).1,
        )
        (step.succeeding (what.Decided FullSync) g))
        (sym (led-is (marking_all h.settings.blocks) _ _ word))
        (from-follow _ _ (follow _ None (turned (leading (Ok (UuidsFrame peer)) (primary_connection h).sync) (sync_start (primary_connection h).sync h.tuple)
        (Some peer)
        (marking_all h.settings.blocks) h)
        (led-due s h left homes room e end none fresh (Ok (UuidsFrame peer)) other peer (λ block. true) (marking_all h.settings.blocks)
        (ap (marking (λ block. true)) left.rest.marks ∙ all-marked h.settings.blocks h.marks)
        (subst HasHomes (led-is (marking_all h.settings.blocks) _ _ word)
        ((in-order-kept settings bound).begins h peer FullSync end.is_open fresh late is unused ordered).1.1.0.0))
        (what.Decided FullSync)))

    meets : TakenAlike (Ok (UuidsFrame peer)) s h (core.meeting peer (hearing e) s)
        (model.meeting peer (with_primary_connection (with_frame (Ok (UuidsFrame peer))) h))
    meets =
        subst (λ (x : core.Taken). TakenAlike (Ok (UuidsFrame peer)) s h x (model.meeting peer (with_primary_connection (with_frame (Ok (UuidsFrame peer))) h)))
        (sym (λ i. core-by (stands_in (end.sync i) peer || stands_in (end.loss i) peer) (decision (left.rest.tuple i) peer)))
        (subst (TakenAlike (Ok (UuidsFrame peer)) s h (core-by (stands_in (primary_connection h).sync peer || stands_in (primary_connection h).loss peer)
        (decision h.tuple peer)))
        (sym (λ i. model-by (stands_in (out i).sync peer || stands_in (out i).loss peer) (decision h.tuple peer)))
        (go (stands_in (primary_connection h).sync peer || stands_in (primary_connection h).loss peer) refl (decision h.tuple peer) refl))
      where
        core-by : Bool → Result Decision Refusal → core.Taken
        core-by b v = elim b [
          | true ↦ Err (UsedIdentifier, record s { peer = Some peer })
          | false ↦ elim v [
            | Err refusal ↦ Err (refusal, record s { peer = Some peer })
            | Ok decided ↦ Ok (following (what.Decided decided) None (core.begun_with decided (hearing e) (record s { peer = Some peer })))
          ]
        ]

        model-by : Bool → Result Decision Refusal → model.Taken
        model-by b v = elim b [
          | true ↦ Err (UsedIdentifier, record (with_primary_connection (with_frame (Ok (UuidsFrame peer))) h) { peer = Some peer })
          | false ↦ elim v [
            | Err refusal ↦ Err (refusal, record (with_primary_connection (with_frame (Ok (UuidsFrame peer))) h) { peer = Some peer })
            | Ok decided ↦ Ok (
              what.Decided decided,
              model.begun_with decided (record (with_primary_connection (with_frame (Ok (UuidsFrame peer))) h) { peer = Some peer }),
            )
          ]
        ]

        go : (b : Bool) → (stands_in (primary_connection h).sync peer || stands_in (primary_connection h).loss peer) ≡ b → (v : Result Decision Refusal)
            → decision h.tuple peer ≡ v
            → TakenAlike (Ok (UuidsFrame peer)) s h (core-by b v) (model-by b v)
        go true used v is = (refl, (Some peer, refl, refl))
        go false unused (Err refusal) is = (refl, (Some peer, refl, refl))
        go false unused (Ok decided) is =
            begins decided is (or_parts (stands_in (primary_connection h).sync peer) (stands_in (primary_connection h).loss peer) unused).1

  -- Which frame comes next.

  -- the state takes it as whatever takes a hello, with these settings
  abbrev core_by : Settings → ℕ → Packet → core.Taken
  core_by x n packet = hello_by (λ name. Ok (done_with name, record s { end = Some (hearing e) })) (λ refusal. Err (refusal, s))
      (λ peer. core.meeting peer (hearing e) s) x n packet

  core-is : (n : ℕ) (packet : Packet) → core_by s.settings n packet ≡ core.taking_hello n packet (hearing e) s
  core-is zero (ProtocolFrame asked) = refl
  core-is (suc zero) (SizesFrame blocks) = refl
  core-is (suc (suc n)) (UuidsFrame peer) = refl
  core-is n packet = refl

  -- three frames at most are counted
  counted : (n m : ℕ) (packet : Packet) → m ≡ min n 3 → core_by s.settings n packet ≡ core_by s.settings m packet
  counted zero m packet heard = let is : 0 ≡ m = omega arith in ap (λ k. core_by s.settings k packet) is
  counted (suc zero) m packet heard = let is : 1 ≡ m = omega arith in ap (λ k. core_by s.settings k packet) is
  counted (suc (suc n)) m packet heard =
      let is : suc (suc (m - 2)) ≡ m = omega arith in late n (m - 2) packet ∙ ap (λ k. core_by s.settings k packet) is
    where
      late : (a b : ℕ) (packet : Packet) → core_by s.settings (suc (suc a)) packet ≡ core_by s.settings (suc (suc b)) packet
      late a b (UuidsFrame peer) = refl
      late a b packet = refl

  by-count : (n m : ℕ) → length (primary_connection h).taken ≡ n → m ≡ min n 3 → (packet : Packet)
      → TakenAlike (Ok packet) s h (core.taking_hello m packet (hearing e) s) (model.taking_hello n packet (with_primary_connection (with_frame (Ok packet)) h))
  by-count n m many heard packet =
      subst (λ (x : core.Taken). TakenAlike (Ok packet) s h x (model.taking_hello n packet taken))
      ((λ i. core_by (sym left.rest.settings i) n packet) ∙ (counted n m packet heard ∙ core-is m packet))
      (subst (TakenAlike (Ok packet) s h (core_by h.settings n packet)) (taking-is n packet taken)
      (hello-alike (TakenAlike (Ok packet) s h) (λ name. Ok (done_with name, record s { end = Some (hearing e) })) (λ refusal. Err (refusal, s))
      (λ peer. core.meeting peer (hearing e) s) (λ name. Ok (name, taken)) (λ refusal. Err (refusal, taken)) (λ peer. model.meeting peer taken)
      h.settings n packet
      (λ of name. greeted-agrees s h left homes e end none fresh (Ok packet) (no-answer of) name) (λ refusal. refused (Ok packet) refusal)
      (λ k peer late of.
      subst (λ (x : Packet). TakenAlike (Ok x) s h (core.meeting peer (hearing e) s) (model.meeting peer (with_primary_connection (with_frame (Ok x)) h)))
      (sym of)
      (meets peer (omega (arith, many, late))))))
    where
      taken : PrimaryHistory
      taken = with_primary_connection (with_frame (Ok packet)) h

      no-answer : ((asked : Protocol) × (packet ≡ ProtocolFrame asked)) ⊎ ((blocks : ℕ) × (packet ≡ SizesFrame blocks)) → IsNoAnswer (Ok packet)
      no-answer (inl first) = subst (λ (x : Packet). IsNoAnswer (Ok x)) (sym first.1)
          (record { received = λ of. refl; written = λ of. refl; resynced = λ of. refl; applied = λ epoch. refl })
      no-answer (inr second) = subst (λ (x : Packet). IsNoAnswer (Ok x)) (sym second.1)
          (record { received = λ of. refl; written = λ of. refl; resynced = λ of. refl; applied = λ epoch. refl })

-- A frame is taken by an end whose stream has not begun.
pub hello-agrees : (settings : Settings) (bound : TakesWrites settings) (s : PrimaryState) (h : PrimaryHistory) (e : EndState) → Leaves s h → Ordered settings h
    → resync_is_over h ≡ false → s.end ≡ Some e → LeavesEnd e (primary_connection h) → (primary_connection h).begun ≡ false → (packet : Packet)
    → TakenAlike (Ok packet) s h (core.taking_hello e.hello_received packet (hearing e) s)
    (model.taking_hello (length (primary_connection h).taken) packet (with_primary_connection (with_frame (Ok packet)) h))
hello-agrees settings bound s h e left ordered rests is end fresh packet = by-count settings bound s h e left ordered end fresh
    (length (primary_connection h).taken) e.hello_received refl end.hello_received packet
