use Rattle.std.proofs.Common.{drop, ap, sym, subst, ◌∙◌}
use Rattle.packets.specs.Held.{IsHeld, held_bytes}
use Rattle.packets.proofs.Fronts.{fronted_drop}
use Rattle.packets.proofs.frame.Frame.into_blocks.Goals as goal

pub returns-in-Fronted : goal.returns-in-Fronted
returns-in-Fronted c =
    let kept = subst IsHeld c.in-Fronted.is c.self.invariant in
    c.in-Fronted.blocks-is ∙ fronted_drop c.in-Fronted.field-0 c.in-Fronted.blocks kept.0 ∙ ap (drop 32) (ap held_bytes (sym c.in-Fronted.is) ∙ c.self.view_is)
