-- What a frame that is taken covers that was not covered: nothing, unless a full copy begins by it.
use Rattle.std.proofs.Common.{ℕ, ◌≡◌, ◌≤◌, ◌<◌, ◌⊎◌, inl, inr, Bool, true, false, cond, not, ◌&&◌, ◌||◌, List, length, Option, Some, None, Result, Ok, Err}
use Rattle.std.proofs.Common.{refl, subst, arith, slice_get}
use Rattle.std.specs.List.{list_any}
use Rattle.std.proofs.lemmas.Bool.{both_ways, cases_Bool, or_parts}
use Rattle.std.proofs.lemmas.Option.{slice_get_within}
use Rattle.blocks.specs.declared.outcome.Decision.{Decision}
use Rattle.blocks.specs.declared.outcome.Decision.TheVariants.{NoSync, BitmapSync, FullSync}
use Rattle.blocks.specs.declared.outcome.Done.{Done}
use Rattle.blocks.specs.declared.outcome.Reply.{Reply}
use Rattle.blocks.specs.declared.outcome.Reply.TheVariants as reply
use Rattle.blocks.specs.declared.outcome.What.{What}
use Rattle.blocks.specs.declared.outcome.What.TheVariants as what
use Rattle.blocks.specs.declared.refusal.Refusal.{Refusal}
use Rattle.blocks.specs.declared.refusal.Refusal.TheVariants.{UsedIdentifier}
use Rattle.blocks.specs.declared.tuple.Tuple.{Tuple}
use Rattle.model.specs.Acknowledgements.{Taken, ack_in, begun_with, meeting, taking, taking_ack, taking_hello}
use Rattle.model.specs.Contents.{covers}
use Rattle.model.specs.Frames.{Packet, DataFrame, RsDataReplyFrame, BarrierFrame, ProtocolFrame, UuidsFrame, SizesFrame, SyncUuidFrame, RecvAckFrame}
use Rattle.model.specs.Frames.{WriteAckFrame, RsWriteAckFrame, BarrierAckFrame, Received}
use Rattle.model.specs.Headline.{is_covered, is_marked}
use Rattle.model.specs.Identifiers.{decision, stands_in}
use Rattle.model.specs.LocalRuns.{PrimaryEvent, Takes, primary_after, primary_run}
use Rattle.model.specs.Primary.{PrimaryHistory, primary_connection, unreleased, with_primary_connection}
use Rattle.model.specs.PrimarySteps.{closing, follows, succeeding}
use Rattle.model.specs.Theorems.{Opening, primary_at}
use Rattle.laws.proofs.Primary.Moves.{following-from, with_frame}
use Rattle.laws.proofs.Rules.Hellos.{hello-has, taking-is}
use Rattle.laws.proofs.Rules.Memory.{ack-in-has}
use Rattle.laws.proofs.Rules.RefusedFrames.{frame-has, refusing}
use Rattle.stops.proofs.Events.{IsQuiet, events_cover, quiet-change, quiet-follows}
use Rattle.stops.specs.Hooks.{HasGrown, begun_count}

-- the reply says that a full copy begins
abbrev pub BeginsFullCopy : Reply → Type 0
BeginsFullCopy said = (done : Done) × (said ≡ reply.Ok done) × (done.what ≡ what.Decided FullSync)

-- No more writes; and no more streams that began, or the block is not marked, or a full copy begins.
record IsCalm (n m block : ℕ) (said : Reply) (g : PrimaryHistory) : Type 0 where
  writes : length g.writes ≤ n
  streams : (begun_count g.connections ≤ m) ⊎ ((is_marked g block ≡ false) ⊎ BeginsFullCopy said)

module _ (n m block : ℕ) where
  abbrev Calm : Reply × PrimaryHistory → Type 0
  Calm r = IsCalm n m block r.0 r.1

  calm-quiet : (said : Reply) (g : PrimaryHistory) → IsQuiet n m g → IsCalm n m block said g
  calm-quiet said g q = record { writes = q.writes; streams = inl q.streams }

  abbrev Few : PrimaryHistory → Type 0
  Few g = length g.writes ≤ n

  few-follows : (g : PrimaryHistory) → Few g → Few (follows g).history
  few-follows = following-from Few Few Few (λ h few. few) (λ g over few. few) (λ g on few. few) (λ g over few. few) (λ g few. few)

  abbrev Clean : PrimaryHistory → Type 0
  Clean g = is_marked g block ≡ false

  clean-follows : (g : PrimaryHistory) → Clean g → Clean (follows g).history
  clean-follows = following-from Clean Clean Clean (λ h off. off) (λ g over off. off) (λ g on off. off) (λ g over off. off) (λ g off. off)

  -- a frame that is accepted leaves a calm history after what follows, and one that is refused a quiet one before
  abbrev Good : Taken → Type 0
  Good (Ok done) = Calm (succeeding done.0 done.1)
  Good (Err error) = IsQuiet n m error.1

  succeeds : (name : What) (g : PrimaryHistory) → IsQuiet n m g → Calm (succeeding name g)
  succeeds name g q = calm-quiet (succeeding name g).0 (succeeding name g).1 (quiet-follows n m g q)

  good-if : (taken done : PrimaryHistory) (good : Bool) (name : What) (refusal : Refusal) → IsQuiet n m taken → IsQuiet n m done
      → Good (cond good (Ok (name, done)) (Err (refusal, taken)))
  good-if taken done true name refusal q r = succeeds name done r
  good-if taken done false name refusal q r = q

  meets : (peer : Tuple) (h : PrimaryHistory) → IsQuiet n m h → Clean h → Good (meeting peer h)
  meets peer h q clean = go (stands_in (primary_connection h).sync peer || stands_in (primary_connection h).loss peer) (decision h.tuple peer)
    where
      seen : PrimaryHistory
      seen = record h { peer = Some peer }

      quiet : IsQuiet n m seen
      quiet = record { writes = q.writes; streams = q.streams }

      begins : (v : Decision) → Calm (succeeding (what.Decided v) (begun_with v seen))
      begins NoSync = record { writes = few-follows (begun_with NoSync seen) q.writes; streams = inr (inl (clean-follows (begun_with NoSync seen) clean)) }
      begins BitmapSync = record {
        writes = few-follows (begun_with BitmapSync seen) q.writes;
        streams = inr (inl (clean-follows (begun_with BitmapSync seen) clean));
      }
      begins FullSync = record { writes = few-follows (begun_with FullSync seen) q.writes; streams = inr (inr (_, refl, refl)) }

      go : (used : Bool) (v : Result Decision Refusal) → Good (elim used as (λ _. Taken) [
        | true ↦ Err (UsedIdentifier, seen)
        | false ↦ elim v as (λ _. Taken) [ Err refusal ↦ Err (refusal, seen) | Ok decided ↦ Ok (what.Decided decided, begun_with decided seen) ]
      ])
      go true v = quiet
      go false (Err refusal) = quiet
      go false (Ok decided) = begins decided

  greets : (k : ℕ) (packet : Packet) (taken : PrimaryHistory) → IsQuiet n m taken → Clean taken → Good (taking_hello k packet taken)
  greets k packet taken q clean = subst Good (taking-is k packet taken)
      (hello-has Good (λ name. Ok (name, taken)) (λ refusal. Err (refusal, taken)) (λ peer. meeting peer taken) taken.settings k packet
      (λ asked none of same. succeeds _ taken q) (λ one of. succeeds _ taken q) (λ later peer late of. meets peer taken q clean) q q q)

  acknowledges : (packet : Packet) (h taken : PrimaryHistory) → IsQuiet n m taken → Good (taking_ack packet h taken)
  acknowledges (DataFrame write at) h taken q = q
  acknowledges (RsDataReplyFrame block contents at) h taken q = q
  acknowledges (BarrierFrame number) h taken q = q
  acknowledges (ProtocolFrame asked) h taken q = q
  acknowledges (UuidsFrame tuple) h taken q = q
  acknowledges (SizesFrame blocks) h taken q = q
  acknowledges (SyncUuidFrame word) h taken q = q
  acknowledges (RecvAckFrame ack) h taken q = good-if taken taken _ _ _ q q
  acknowledges (WriteAckFrame ack) h taken q = good-if taken taken _ _ _ q q
  acknowledges (RsWriteAckFrame ack) h taken q = good-if taken _ _ _ _ q (record { writes = q.writes; streams = q.streams })
  acknowledges (BarrierAckFrame number size) h taken q = good-if taken _ _ _ _ q (record { writes = q.writes; streams = q.streams })

  takes : (frame : Received) (h : PrimaryHistory) → IsQuiet n m h → Clean h → Good (taking frame h (with_primary_connection (with_frame frame) h))
  takes frame h q clean = by frame (quiet-change n m h (with_primary_connection (with_frame frame) h) (with_frame frame) refl refl (λ c. refl) q)
    where
      by : (frame : Received) → IsQuiet n m (with_primary_connection (with_frame frame) h) → Good (taking frame h (with_primary_connection (with_frame frame) h))
      by (Err fault) quiet = quiet
      by (Ok packet) quiet = go (primary_connection h).begun
        where
          taken : PrimaryHistory
          taken = with_primary_connection (with_frame (Ok packet)) h

          go : (begun : Bool) → Good (elim begun as (λ _. Taken) [
            | true ↦ taking_ack packet h taken
            | false ↦ taking_hello (length (primary_connection h).taken) packet taken
          ])
          go true = acknowledges packet h taken quiet
          go false = greets (length (primary_connection h).taken) packet taken quiet clean

  calm-frame : (frame : Option Received) (out_of_memory : Bool) (h : PrimaryHistory) → IsQuiet n m h → Clean h → Calm (ack_in frame out_of_memory h)
  calm-frame frame out_of_memory h q clean = ack-in-has Calm frame out_of_memory h (λ refusal other. calm-quiet (reply.Refused refusal) h q)
      (λ taken is standing. frame-has Calm Good taken h (takes taken h q clean) (λ done good. good) (λ error quiet.
      let refused : PrimaryHistory = with_primary_connection refusing error.1 in
      let shut : PrimaryHistory = closing refused in
      calm-quiet (reply.Refused error.0) (follows shut).history (quiet-follows n m shut
      (quiet-change n m refused shut (λ c. record c { closed = true }) refl refl (λ c. refl)
      (quiet-change n m error.1 refused refusing refl refl (λ c. refl) quiet)))))

-- A frame that is taken covers a block that was not covered only if the reply says that a full copy begins.
pub frame-covers : (o : Opening) (events : List PrimaryEvent) (frame : Option Received) (out_of_memory : Bool) (block : ℕ)
    → is_covered (primary_after (Takes frame out_of_memory) (primary_run events (primary_at o))) block ≡ true
    → (is_covered (primary_run events (primary_at o)) block ≡ true) ⊎ BeginsFullCopy (ack_in frame out_of_memory (primary_run events (primary_at o))).0
frame-covers o events frame out_of_memory block covered = elim (cases_Bool (is_covered h block)) [
  | inl was ↦ inl was
  | inr clean ↦ elim (events_cover o events (Takes frame out_of_memory) block covered) [
    | inl was ↦ inl was
    | inr grown ↦ inr (begins grown (calm-frame (length h.writes) (begun_count h.connections) block frame out_of_memory h
        (record { writes = omega arith; streams = omega arith })
        (or_parts (is_marked h block) (list_any (λ accepted. covers accepted.write block) (unreleased h)) clean).0))
  ]
]
  where
    h : PrimaryHistory
    h = primary_run events (primary_at o)

    begins : HasGrown (length h.writes) (begun_count h.connections) block (primary_after (Takes frame out_of_memory) h)
        → IsCalm (length h.writes) (begun_count h.connections) block (ack_in frame out_of_memory h).0 (ack_in frame out_of_memory h).1
        → BeginsFullCopy (ack_in frame out_of_memory h).0
    begins (inl new) calm = absurd (let inside = slice_get_within _ new.0 new.1 new.3 in omega (arith, inside, calm.writes, new.2))
    begins (inr began) calm = elim calm.streams [
      | inl few ↦ absurd (omega (arith, few, began.0))
      | inr rest ↦ elim rest [
        | inl off ↦ absurd (both_ways (is_marked (ack_in frame out_of_memory h).1 block) off began.1)
        | inr full ↦ full
      ]
    ]
