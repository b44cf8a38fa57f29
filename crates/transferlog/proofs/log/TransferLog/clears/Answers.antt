use Rattle.std.proofs.Common.{◌≡◌, ℕ, ◌-◌, ◌≤◌, nat_le, nat_lt, true, refl, sym, ◌∙◌, arith, Option, Some, None, eqb}
use Rattle.std.specs.Option.{option_eq}
use Rattle.std.proofs.lemmas.Bool.Decides.{nat_tests}
use Rattle.blocks.specs.Ranges.{is_between}
use Rattle.transferlog.specs.Log.{is_number}
use Rattle.transferlog.proofs.Noted.{clears_is}
use Rattle.transferlog.proofs.log.TransferLog.clears.Goals.{then-released, else-released, then-released-block, else-released-block}
use Rattle.transferlog.proofs.log.TransferLog.clears.Goals as goal

eq_is : (found : Option ℕ) (n : ℕ) → option_eq eqb found (Some n) ≡ is_number n found
eq_is None n = refl
eq_is (Some k) n = refl

between_of : (first count block : ℕ) → first ≤ block → nat_lt (block - first) count ≡ true → is_between first count block ≡ true
between_of first count block from below = grind (arith, nat_tests)

from_of : (first block : ℕ) → nat_le first block ≡ true → first ≤ block
from_of first block is = grind (arith, nat_tests)

pub returns-then-inside : goal.returns-then-inside
returns-then-inside c =
    let r = c.args.released.now in
    let s = c.args.self.now.state in
    let block = c.args.block.0 in
    let found = c.last_write_to.result in
    elim c.if-released.branch [
      | then-released w ↦ elim c.if-released-block.branch [
        | then-released-block v ↦
            let below : nat_lt (block - r.first) r.count ≡ true = sym v.inside-is ∙ (sym w.value-is ∙ c.if-inside.true) in
            let inside = between_of r.first r.count block v.if-released-block.true below in
            c.eq.ensures ∙ (eq_is found r.number ∙ clears_is r block s.last_writes s.released found w.if-released.true inside c.last_write_to.ensures.last
            c.last_write_to.ensures.known c.requires.reported)
        | else-released-block v ↦ absurd (omega (arith, from_of r.first block (sym v.inside-is ∙ (sym w.value-is ∙ c.if-inside.true)), v.if-released-block.false))
      ]
      | else-released w ↦ cc
    ]
