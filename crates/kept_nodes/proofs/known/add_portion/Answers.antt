use Rattle.std.proofs.Common.{◌||◌, length, ◌∙◌, sym, ap}
use Rattle.std.proofs.lemmas.Slice.Eq.{bytes_eq-Decides}
use Rattle.bitmap.specs.Marks.{marked}
use Rattle.kept_nodes.proofs.Filed.{filed-zeros, or-none}
use Rattle.kept_nodes.proofs.known.add_portion.Goals as goal

pub returns-then-eq-clause-marks : goal.returns-then-eq-clause-marks
returns-then-eq-clause-marks c block low =
    let none = filed-zeros c.args.first (length c.args.marks.now) c.args.marks.now block ((bytes_eq-Decides c.args.marks.now _).0 (sym c.eq.ensures ∙ c.if-eq.true)) in
    sym (ap (λ m. marked c.args.known.now block || m) none ∙ or-none (marked c.args.known.now block))
