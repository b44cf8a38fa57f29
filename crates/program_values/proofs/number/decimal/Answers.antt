-- Where the number so far with the next digit is too large, so is what all the digits spell.
use Rattle.std.proofs.Common.{◌∙◌, sym, ap, arith}
use Rattle.program_values.specs.Numbers.{decimal_from}
use Rattle.program_values.proofs.Decimals.{too_large}
use Rattle.program_values.proofs.number.decimal.Goals as goal

pub returns-in_err-checked_mul-clause-none : goal.returns-in_err-checked_mul-clause-none
returns-in_err-checked_mul-clause-none c =
    rw c.from_residual-in_err-checked_mul.ensures (λ n small spelled.
    let least = too_large c.as_bytes-digit-items.result.now c.loop-digit.digit-index c.loop-digit.value c.in_ok-decimal_digit.field-0 n c.loop-digit-test.true
    (sym c.decimal_digit.ensures ∙ c.in_ok-decimal_digit.was) c.loop-digit.invariant (ap (decimal_from 0) c.as_bytes-digit-items.ensures.value
    ∙ spelled.1) in
    c.in_err-checked_mul.ensures (omega arith))

pub returns-in_err-value-clause-none : goal.returns-in_err-value-clause-none
returns-in_err-value-clause-none c =
    rw c.from_residual-in_err-value.ensures (λ n small spelled.
    let least = too_large c.as_bytes-digit-items.result.now c.loop-digit.digit-index c.loop-digit.value c.in_ok-decimal_digit.field-0 n c.loop-digit-test.true
    (sym c.decimal_digit.ensures ∙ c.in_ok-decimal_digit.was) c.loop-digit.invariant (ap (decimal_from 0) c.as_bytes-digit-items.ensures.value
    ∙ spelled.1) in
    c.in_err-value.ensures (omega arith))
