use Rattle.std.proofs.Common.{◌≡◌, drop}
use Rattle.program_values.specs.Numbers.{decimal_from}
use Rattle.program_values.proofs.number.decimal.Given as goal

-- what the digits that are left make of the number so far is what all of them spell
abbrev pub invariant-loop-digit : goal.invariant-loop-digit
invariant-loop-digit l = decimal_from l.value (drop l.digit-index l.digit-items) ≡ decimal_from 0 l.digit-items
