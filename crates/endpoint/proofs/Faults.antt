-- What stands in a packet's place is a fault of the frame, and never that there was none.
use Rattle.std.proofs.Common.{◌≡◌, true, false, Result, Ok, Err, sym, ◌∙◌, ap}
use Rattle.std.specs.Prelude.{IfErr}
use Rattle.blocks.specs.declared.refusal.Refusal.{Refusal}
use Rattle.blocks.specs.declared.refusal.Refusal.TheVariants.{NothingThere}
use Rattle.packets.specs.declared.packet.Packet.{Packet}
use Rattle.packets.specs.Frames.{is_fault}
use Rattle.endpoint.specs.Meaning.{received}

pub never-nothing : (read : Result Packet Refusal) → IfErr read (λ e. is_fault e ≡ true) → received read ≡ Err NothingThere → ⊥
never-nothing (Ok p) fault is = cc
never-nothing (Err e) fault is = let same : e ≡ NothingThere = cc in let both : false ≡ true = ap is_fault (sym same) ∙ fault in cc
