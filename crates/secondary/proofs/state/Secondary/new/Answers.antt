use Rattle.std.proofs.Common.{◌≡◌, length, ap, arith}
use Rattle.std.proofs.lemmas.Bool.Decides.{nat_tests}
use Rattle.secondary.proofs.Kept.{new-is, new-has}
use Rattle.secondary.proofs.state.Secondary.new.Goals as goal

pub invariant_of-result : goal.invariant_of-result
invariant_of-result g c =
    let size : length (g.S.Store.contents c.args.store) ≡ c.args.settings.blocks = grind (arith, nat_tests, c.blocks-2.ensures, c.if-blocks-settings.false) in
    new-is c.args.settings c.args.tuple _ _ _ _ _ (ap (λ x. x.state) c.in_ok-new.ensures.fresh.1) c.in_ok-new.ensures.fresh.0 size

pub returns-clause-history : goal.returns-clause-history
returns-clause-history g c =
    let size : length (g.S.Store.contents c.args.store) ≡ c.args.settings.blocks = grind (arith, nat_tests, c.blocks-2.ensures, c.if-blocks-settings.false) in
    new-has c.args.settings c.args.tuple _ _ (ap (λ x. x.state) c.in_ok-new.ensures.fresh.1) c.in_ok-new.ensures.fresh.0 size
