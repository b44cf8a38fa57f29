-- A frame that spells a packet is whole.
use Rattle.std.proofs.Common.{List, ℕ, Result, Ok, Err}
use Rattle.std.specs.Prelude.{IfOk}
use Rattle.packets.specs.declared.packet.Packet.{Packet}
use Rattle.packets.specs.Spelling.{IsSpellable, Spells}
use Rattle.packets.specs.Cutting.{IsCut}
use Rattle.packets.proofs.Cuts.{spelled_cut}
use Rattle.test_parts.proofs.ruled.connections.spelled.Goals as goal

whole : {E : Type 0} (r : Result (List ℕ) E) (p : Packet) → IsSpellable p → IfOk r (λ frame. Spells p frame) → IfOk r (λ frame. IsCut frame)
whole (Ok frame) p rules spells = spelled_cut p frame rules spells
whole (Err e) p rules spells = tt

pub returns : goal.returns
returns c = whole c.encode.result c.args.packet.now c.requires c.encode.ensures.spelled
