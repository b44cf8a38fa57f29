-- What a taken frame comes to.
use Rattle.std.proofs.Common.{ℕ, suc, ◌≡◌, ◌==◌, Bool, true, false, sym}
use Rattle.std.proofs.Common.{◌∙◌, ap, Option, Some, None}
use Rattle.std.specs.Prelude.{zero, if◌then◌else◌, Result, Ok, Err, is_err}
use Rattle.blocks.specs.declared.outcome.Done.{Done}
use Rattle.blocks.specs.declared.refusal.Refusal.{Refusal}
use Rattle.blocks.specs.declared.refusal.Refusal.TheVariants.{BadCommand, NotConnected}
use Rattle.blocks.specs.declared.command.Command.{Command}
use Rattle.blocks.specs.declared.command.Command.TheVariants as command
use Rattle.blocks.specs.declared.outcome.What.{What}
use Rattle.blocks.specs.declared.outcome.What.TheVariants as what
use Rattle.endpoint.specs.Meaning.{meaning}
use Rattle.handshakes.specs.Handshake.{judged}
use Rattle.model.specs.Acknowledgements.{same_protocol}
use Rattle.packets.specs.declared.packet.Packet.{Packet}
use Rattle.packets.specs.declared.packet.Packet.TheVariants as packet
use Rattle.model.specs.Frames.{Received}
use Rattle.primary_protocol.specs.Core.{EndState, PrimaryState}
use Rattle.primary_protocol.specs.Transitions.{closing}
use Rattle.primary_protocol.specs.Taking.{Taken, greeted, take_at, taken_by, taking, taking_hello}
use Rattle.primary_core.specs.Take.{taken_as}

-- A frame at an open end.

taken-at : (frame : Received) (s : PrimaryState) (e : EndState) → s.end ≡ Some e → take_at frame s ≡ taken_by e (taking frame e s)
taken-at frame s e is = ap (λ (o : Option EndState). elim o as (λ _. Result Done Refusal × PrimaryState)
    [ None ↦ (Err NotConnected, s) | Some x ↦ taken_by x (taking frame x s) ]) is

pub take-refused : (frame : Received) (s : PrimaryState) (e : EndState) (t : PrimaryState) (r : Result Done Refusal) (closed : ℕ × PrimaryState)
    → s.end ≡ Some e → taken_as r t ≡ taking frame e s → is_err r ≡ true → closed ≡ closing e t
    → (let got : Result Done Refusal × PrimaryState = (r, closed.1) in got ≡ take_at frame s)
take-refused frame s e t (Ok done) closed is taken err closes = absurd (cc)
take-refused frame s e t (Err refusal) closed is taken err closes =
    ap (λ (p : ℕ × PrimaryState). (Err refusal, p.1)) closes ∙ (ap (taken_by e) taken ∙ sym (taken-at frame s e is))

-- What is no frame of the hello is refused.

strange : (refusal r : Refusal) (s : PrimaryState) → (let returned : Result Command Refusal = Err refusal in returned ≡ Err r)
    → (let taken : Taken = Err (refusal, s) in taken ≡ Err (r, s))
strange refusal r s is = let same : refusal ≡ r = cc in ap (λ (x : Refusal). Err (x, s)) same

greeted-not : (good : Bool) (name : What) (returned : Command) (refusal : Refusal) (e : EndState) (s : PrimaryState) (r : Refusal)
    → (if good then Ok returned else Err refusal) ≡ Err r → greeted good name refusal e s ≡ Err (r, s)
greeted-not true name returned refusal e s r is = absurd (cc)
greeted-not false name returned refusal e s r is = strange refusal r s is

pub hello-refused : (n : ℕ) (p : Packet) (e : EndState) (s : PrimaryState) (r : Refusal) → judged n p s.settings ≡ Err r
    → taking_hello n (meaning p) e s ≡ Err (r, s)
hello-refused zero (packet.Protocol asked) e s r is = greeted-not _ (what.Frame command.Protocol None) command.Protocol _ e s r is
hello-refused zero (packet.Sizes blocks) e s r is = strange BadCommand r s is
hello-refused zero (packet.Uuids tuple) e s r is = strange BadCommand r s is
hello-refused zero (packet.Data first number place contents) e s r is = strange BadCommand r s is
hello-refused zero (packet.RsDataReply first place contents) e s r is = strange BadCommand r s is
hello-refused zero (packet.Barrier number) e s r is = strange BadCommand r s is
hello-refused zero (packet.SyncUuid word) e s r is = strange BadCommand r s is
hello-refused zero (packet.RecvAck ack) e s r is = strange BadCommand r s is
hello-refused zero (packet.WriteAck ack) e s r is = strange BadCommand r s is
hello-refused zero (packet.RsWriteAck ack) e s r is = strange BadCommand r s is
hello-refused zero (packet.BarrierAck number size) e s r is = strange BadCommand r s is
hello-refused (suc zero) (packet.Protocol asked) e s r is = strange BadCommand r s is
hello-refused (suc zero) (packet.Sizes blocks) e s r is = greeted-not _ (what.Frame command.Sizes None) command.Sizes _ e s r is
hello-refused (suc zero) (packet.Uuids tuple) e s r is = strange BadCommand r s is
hello-refused (suc zero) (packet.Data first number place contents) e s r is = strange BadCommand r s is
hello-refused (suc zero) (packet.RsDataReply first place contents) e s r is = strange BadCommand r s is
hello-refused (suc zero) (packet.Barrier number) e s r is = strange BadCommand r s is
hello-refused (suc zero) (packet.SyncUuid word) e s r is = strange BadCommand r s is
hello-refused (suc zero) (packet.RecvAck ack) e s r is = strange BadCommand r s is
hello-refused (suc zero) (packet.WriteAck ack) e s r is = strange BadCommand r s is
hello-refused (suc zero) (packet.RsWriteAck ack) e s r is = strange BadCommand r s is
hello-refused (suc zero) (packet.BarrierAck number size) e s r is = strange BadCommand r s is
hello-refused (suc (suc n)) (packet.Protocol asked) e s r is = strange BadCommand r s is
hello-refused (suc (suc n)) (packet.Sizes blocks) e s r is = strange BadCommand r s is
hello-refused (suc (suc n)) (packet.Uuids tuple) e s r is = absurd (cc)
hello-refused (suc (suc n)) (packet.Data first number place contents) e s r is = strange BadCommand r s is
hello-refused (suc (suc n)) (packet.RsDataReply first place contents) e s r is = strange BadCommand r s is
hello-refused (suc (suc n)) (packet.Barrier number) e s r is = strange BadCommand r s is
hello-refused (suc (suc n)) (packet.SyncUuid word) e s r is = strange BadCommand r s is
hello-refused (suc (suc n)) (packet.RecvAck ack) e s r is = strange BadCommand r s is
hello-refused (suc (suc n)) (packet.WriteAck ack) e s r is = strange BadCommand r s is
hello-refused (suc (suc n)) (packet.RsWriteAck ack) e s r is = strange BadCommand r s is
hello-refused (suc (suc n)) (packet.BarrierAck number size) e s r is = strange BadCommand r s is
