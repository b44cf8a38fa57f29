-- What is refused of a frame is its own fault, or a rule of the protocol: never that there is none.
use Rattle.std.proofs.Common.{subst, ℕ, ◌≡◌, Bool, true, false, cond, ◌||◌, length, Some, Result, Ok, Err, refl, sym, ◌∙◌, ap}
use Rattle.std.specs.Prelude.{is_some}
use Rattle.blocks.specs.declared.tuple.Tuple.{Tuple}
use Rattle.blocks.specs.declared.refusal.Refusal.{Refusal}
use Rattle.blocks.specs.declared.refusal.Refusal.TheVariants.{BadBarrierAck, NothingThere, UnknownAck, UsedIdentifier}
use Rattle.blocks.specs.declared.outcome.Decision.{Decision}
use Rattle.blocks.specs.declared.outcome.Done.{Done}
use Rattle.blocks.specs.declared.outcome.What.{What}
use Rattle.blocks.specs.declared.outcome.What.TheVariants as what
use Rattle.blocks.specs.declared.outcome.Reply.{Reply}
use Rattle.blocks.specs.declared.outcome.Reply.TheVariants as reply
use Rattle.blocks.specs.Identifiers.{decision, stands_in}
use Rattle.model.specs.Frames.{Packet, RecvAckFrame, WriteAckFrame, RsWriteAckFrame, BarrierAckFrame, Received}
use Rattle.model.specs.Primary.{PrimaryHistory, primary_connection, with_primary_connection}
use Rattle.model.specs.Acknowledgements as model
use Rattle.laws.proofs.Rules.Hellos.{taking-is, hello-has}
use Rattle.laws.proofs.Rules.Decisions.{decision-has}
use Rattle.laws.proofs.Primary.Moves.{with_frame}
use Rattle.primary_protocol.specs.Core.{PrimaryState}
use Rattle.primary_protocol.specs.Taking.{take_at}
use Rattle.primary_protocol.specs.Node.{NodeState, NodeIsHad}
use Rattle.primary_protocol.specs.Steps.{replied}
use Rattle.primary_protocol.proofs.Node.Takes.{node-takes, unshut-end}
use Rattle.laws.proofs.Rules.Memory.{ack-in-takes}
use Rattle.laws.proofs.Rules.RefusedFrames.{frame-has}

-- it says something else
abbrev HasFrame : model.Taken → Type 0
HasFrame (Ok done) = Unit {0}
HasFrame (Err error) = error.0 ≡ NothingThere → ⊥

has-if : (good : Bool) (name : What) (refusal : Refusal) (done taken : PrimaryHistory) → (refusal ≡ NothingThere → ⊥)
    → HasFrame (cond good (Ok (name, done)) (Err (refusal, taken)))
has-if true name refusal done taken other = tt
has-if false name refusal done taken other = other

has-ack : (packet : Packet) (before h : PrimaryHistory) → HasFrame (model.taking_ack packet before h)
has-ack (RecvAckFrame ack) before h = has-if _ _ UnknownAck _ _ (λ same. absurd (cc))
has-ack (WriteAckFrame ack) before h = has-if _ _ UnknownAck _ _ (λ same. absurd (cc))
has-ack (RsWriteAckFrame ack) before h = has-if _ _ UnknownAck _ _ (λ same. absurd (cc))
has-ack (BarrierAckFrame number size) before h = has-if _ _ BadBarrierAck _ _ (λ same. absurd (cc))
has-ack packet before h = λ same. absurd (cc)

-- a decision that is refused is by the generations
has-decision : (own peer : Tuple) → decision own peer ≡ Err NothingThere → ⊥
has-decision = decision-has (λ v. v ≡ Err NothingThere → ⊥) (λ decided same. cc) (λ same. cc) (λ same. cc) (λ same. cc)

has-meeting : (peer : Tuple) (h : PrimaryHistory) → HasFrame (model.meeting peer h)
has-meeting peer h = go (stands_in (primary_connection h).sync peer || stands_in (primary_connection h).loss peer) (decision h.tuple peer) refl
  where
    go : (used : Bool) (v : Result Decision Refusal) → decision h.tuple peer ≡ v → HasFrame (elim used as (λ _. model.Taken) [
      | true ↦ Err (UsedIdentifier, record h { peer = Some peer })
      | false ↦ elim v as (λ _. model.Taken) [
        | Err refusal ↦ Err (refusal, record h { peer = Some peer })
        | Ok decided ↦ Ok (
          what.Decided decided,
          model.begun_with decided (record h { peer = Some peer }),
        )
      ]
    ])
    go true v is = λ same. absurd (cc)
    go false (Err refusal) is = λ same. has-decision h.tuple peer (is ∙ ap Err same)
    go false (Ok decided) is = tt

has-hello : (n : ℕ) (packet : Packet) (h : PrimaryHistory) → HasFrame (model.taking_hello n packet h)
has-hello n packet h = subst HasFrame (taking-is n packet h)
    (hello-has HasFrame (λ name. Ok (name, h)) (λ refusal. Err (refusal, h)) (λ peer. model.meeting peer h) h.settings n packet
    (λ asked none of same. tt) (λ one of. tt) (λ m peer late of. has-meeting peer h) (λ same. absurd (cc)) (λ same. absurd (cc)) (λ same. absurd (cc)))

has-frame : (frame : Received) (before h : PrimaryHistory) → (frame ≡ Err NothingThere → ⊥) → HasFrame (model.taking frame before h)
has-frame (Err fault) before h other = λ same. other (ap Err same)
has-frame (Ok packet) before h other = go (primary_connection before).begun
  where
    go : (begun : Bool) → HasFrame (elim begun as
        (λ _. model.Taken) [ true ↦ model.taking_ack packet before h | false ↦ model.taking_hello (length (primary_connection before).taken) packet h ])
    go true = has-ack packet before h
    go false = has-hello (length (primary_connection before).taken) packet h

-- the step does not say that there was none
has-step : (frame : Received) (h : PrimaryHistory) → (frame ≡ Err NothingThere → ⊥) → reply.Refused NothingThere ≡ (model.take_frame frame h).0 → ⊥
has-step frame h other = frame-has (λ r. reply.Refused NothingThere ≡ r.0
    → ⊥) HasFrame frame h (has-frame frame h (with_primary_connection (with_frame frame) h) other)
    (λ done fine is. cc) (λ error fine is. fine (let same : error.0 ≡ NothingThere = cc in same))

-- A frame that is taken is not answered by that there is none.
pub takes-frame : (n : NodeState) (frame : Received) (result : Result Done Refusal) (core : PrimaryState) → is_some n.core.end ≡ true
    → (result, core) ≡ take_at frame n.core → NodeIsHad n → (frame ≡ Err NothingThere → ⊥) → result ≡ Err NothingThere → ⊥
takes-frame n frame result core some is had other none =
    let h = had.history in
    has-step frame h other (ap (replied reply.Ok) (sym none)
    ∙ ((node-takes n frame result core some is).replies h had.has
    ∙ ap (λ (p : Reply × PrimaryHistory). p.0) (ack-in-takes frame h (unshut-end n frame result core some is h had.has))))
