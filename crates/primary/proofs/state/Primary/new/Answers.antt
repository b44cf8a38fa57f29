use Rattle.std.proofs.Common.{◌≡◌, ◌∙◌, refl, arith}
use Rattle.primary.proofs.state.Primary.new.Goals as goal

pub from_marks-requires : goal.from_marks-requires
from_marks-requires g c =
    let in_range = c.in_ok-check.ensures.accepted.0 refl in
    omega (arith, in_range.blocks)

pub returns-clause-history : goal.returns-clause-history
returns-clause-history g c =
    let same : c.in_ok-marks.marks ≡ c.args.marks.items = c.in_ok-marks.ensures.made ∙ c.deref.ensures.value in
    rw (← same) c.with_bitmap.ensures.history

pub returns-clause-begun : goal.returns-clause-begun
returns-clause-begun g c =
    let same : c.in_ok-marks.marks ≡ c.args.marks.items = c.in_ok-marks.ensures.made ∙ c.deref.ensures.value in
    rw (← same) c.with_bitmap.ensures.begun

pub returns-clause-refused : goal.returns-clause-refused
returns-clause-refused g c =
    let same : c.in_ok-marks.marks ≡ c.args.marks.items = c.in_ok-marks.ensures.made ∙ c.deref.ensures.value in
    rw (← same) c.with_bitmap.ensures.refused
