use Rattle.std.proofs.Common.{◌≡◌, length, refl, arith}
use Rattle.std.proofs.lemmas.Bool.Decides.{nat_tests}
use Rattle.primary.proofs.Kept.{new-is, new-has}
use Rattle.primary.proofs.state.Primary.with_bitmap.Goals as goal

pub invariant_of-result : goal.invariant_of-result
invariant_of-result g c =
    let size : length (g.S.Store.contents c.args.store) ≡ c.args.settings.blocks = grind (arith, nat_tests, c.blocks-2.ensures, c.if-blocks-settings.false) in
    new-is c.args.settings _ c.args.tuple _ _ _ _ _ c.in_ok-new.ensures.fresh size

pub returns-clause-history : goal.returns-clause-history
returns-clause-history g c =
    let size : length (g.S.Store.contents c.args.store) ≡ c.args.settings.blocks = grind (arith, nat_tests, c.blocks-2.ensures, c.if-blocks-settings.false) in
    new-has c.args.settings _ c.args.tuple _ _ _ c.in_ok-new.ensures.fresh refl size _
