-- What an acknowledgement names, as a packet.
use Rattle.std.proofs.Common.{◌≡◌, ℕ, ◌-◌, Bool, true, false, List, length, take, drop, Result, Ok, Err, sym, ap, ◌∙◌, arith}
use Rattle.std.proofs.lemmas.List.{take_all, length-drop}
use Rattle.blocks.specs.declared.command.Command.{Command}
use Rattle.blocks.specs.declared.command.Command.TheVariants as command
use Rattle.blocks.specs.declared.refusal.Refusal.{Refusal}
use Rattle.blocks.specs.declared.refusal.Refusal.TheVariants.{BadField}
use Rattle.packets.specs.declared.packet.Acknowledgement.{Acknowledgement}
use Rattle.packets.specs.declared.packet.Packet.{Packet}
use Rattle.packets.specs.declared.packet.Packet.TheVariants as packet
use Rattle.packets.specs.Numbers.{number_in}
use Rattle.packets.specs.Reading.{checked, protocol_at, acknowledgement_at, names_write, names_resync, payload_at}
use Rattle.packets.specs.Headed.{named}

abbrev found : Packet → Result Packet Refusal
found p = Ok p

abbrev refused : Refusal → Result Packet Refusal
refused e = Err e

pub named_found : (fields : Bool) (ack given : Acknowledgement) (packet : Acknowledgement → Packet) → named fields ack ≡ Ok given
    → checked fields (packet ack) ≡ Ok (packet given)
named_found true ack given packet e = let same : ack ≡ given = cc in ap (λ (x : Acknowledgement). found (packet x)) same
named_found false ack given packet e = absurd cc

pub named_refused : (fields : Bool) (ack : Acknowledgement) (e : Refusal) (p : Packet) → named fields ack ≡ Err e → checked fields p ≡ Err e
named_refused true ack e p is = absurd cc
named_refused false ack e p is = let same : BadField ≡ e = cc in ap refused same

-- the slice behind a frame's header is the frame from there on
pub payload_seen : (frame seen : List ℕ) → seen ≡ frame → take (length seen - 8) (drop 8 seen) ≡ drop 8 frame
payload_seen frame seen same =
    take_all (length seen - 8) (drop 8 seen) (omega (arith, length-drop 8 seen)) ∙ ap (drop 8) same

-- what a frame's payload says that is refused
pub recv_ack_refused : (c : Command) (frame payload : List ℕ) (e : Refusal) → payload ≡ drop 8 frame → c ≡ command.RecvAck
    → named (names_write payload) (acknowledgement_at payload) ≡ Err e → refused e ≡ payload_at c (drop 8 frame)
unfolding payload_at
recv_ack_refused c frame payload e same is said =
    sym (named_refused (names_write payload) (acknowledgement_at payload) e (packet.RecvAck (acknowledgement_at payload)) said)
    ∙ ap (payload_at command.RecvAck) same ∙ ap (λ (x : Command). payload_at x (drop 8 frame)) (sym is)

pub write_ack_refused : (c : Command) (frame payload : List ℕ) (e : Refusal) → payload ≡ drop 8 frame → c ≡ command.WriteAck
    → named (names_write payload) (acknowledgement_at payload) ≡ Err e → refused e ≡ payload_at c (drop 8 frame)
unfolding payload_at
write_ack_refused c frame payload e same is said =
    sym (named_refused (names_write payload) (acknowledgement_at payload) e (packet.WriteAck (acknowledgement_at payload)) said)
    ∙ ap (payload_at command.WriteAck) same ∙ ap (λ (x : Command). payload_at x (drop 8 frame)) (sym is)

pub rs_write_ack_refused : (c : Command) (frame payload : List ℕ) (e : Refusal) → payload ≡ drop 8 frame → c ≡ command.RsWriteAck
    → named (names_resync payload) (acknowledgement_at payload) ≡ Err e → refused e ≡ payload_at c (drop 8 frame)
unfolding payload_at
rs_write_ack_refused c frame payload e same is said =
    sym (named_refused (names_resync payload) (acknowledgement_at payload) e (packet.RsWriteAck (acknowledgement_at payload)) said)
    ∙ ap (payload_at command.RsWriteAck) same ∙ ap (λ (x : Command). payload_at x (drop 8 frame)) (sym is)

pub protocol_said : (c : Command) (frame payload : List ℕ) (number : ℕ) (r : Result Packet Refusal) → payload ≡ drop 8 frame → c ≡ command.Protocol
    → number ≡ number_in 4 0 payload → r ≡ protocol_at number → r ≡ payload_at c (drop 8 frame)
unfolding payload_at
protocol_said c frame payload number r same is read said =
    said ∙ ap protocol_at read ∙ ap (payload_at command.Protocol) same ∙ ap (λ (x : Command). payload_at x (drop 8 frame)) (sym is)
