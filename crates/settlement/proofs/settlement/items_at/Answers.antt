use Rattle.std.proofs.Common.{◌∙◌, sym}
use Rattle.settlement.proofs.Settling.{items-last, items-none}
use Rattle.settlement.proofs.settlement.items_at.Goals as goal

pub returns-then-connection_number-number : goal.returns-then-connection_number-number
returns-then-connection_number-number g c = λ s has. items-none s c.args.number (λ is. c.if-connection_number-number.true (c.connection_number.ensures.history s has ∙ is))

pub returns : goal.returns
returns g c = λ s has. items-last s c.args.number _ _ (sym (c.connection_number.ensures.history s has) ∙ c.if-connection_number-number.false) (c.items_taken.ensures s has)
    (c.items_applied.ensures s has)
