use Rattle.std.proofs.Common.{take, ap, sym, subst, ◌∙◌}
use Rattle.packets.specs.Held.{IsHeld, held_bytes}
use Rattle.packets.proofs.Fronts.{fronted_take}
use Rattle.packets.proofs.frame.Frame.parts.Goals as goal

pub returns-in-Fronted-clause-numbers : goal.returns-in-Fronted-clause-numbers
returns-in-Fronted-clause-numbers c =
    let kept = subst IsHeld c.in-Fronted.is c.self.invariant in
    ap (take 32) c.as_slice-in-Fronted.ensures.value
    ∙ fronted_take c.in-Fronted.front c.in-Fronted.blocks kept.0
    ∙ ap (take 32) (ap held_bytes (sym c.in-Fronted.is) ∙ c.self.view_is)
