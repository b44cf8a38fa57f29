use Rattle.std.proofs.Common.{◌≡◌, true, Bool, Ok, subst, ◌∙◌, ap}
use Rattle.blocks.specs.Identifiers.{decision}
use Rattle.blocks.specs.declared.outcome.Decision.TheVariants.{NoSync}
use Rattle.blocks.specs.declared.tuple.Tuple.{Tuple}
use Rattle.image_metadata.specs.Opening.{turned}
use Rattle.image_metadata.proofs.Turning.{turned-copies}
use Rattle.image_metadata.proofs.opening.opening_identifiers.Goals as goal

pub returns-in-Marked-clause-copies : goal.returns-in-Marked-clause-copies
returns-in-Marked-clause-copies c = λ marked fresh unparted none.
    turned-copies c.args.own c.args.peer c.args.word fresh unparted
    (subst (λ (t : Tuple). decision t c.args.peer ≡ Ok NoSync)
    (c.turned.ensures ∙ ap (λ (m : Bool). turned c.args.own c.args.peer m c.args.word) marked) none)
