use Rattle.std.proofs.Common.{◌∙◌, false, length, refl, ap, arith}
use Rattle.peerdisk.proofs.Flags.{length-flags}
use Rattle.secondary_core.proofs.Places.{of-none}
use Rattle.secondary_core.proofs.state.SecondaryCore.new.Goals as goal

pub invariant_of-result : goal.invariant_of-result
invariant_of-result c =
    let none = ap (λ d. length d.pending) c.in_ok-new-2.ensures.empty in
    record {
      in_range = c.in_ok-check.ensures.accepted.0 refl;
      pending = record {
        limit = ap (λ d. d.limit) c.in_ok-new-2.ensures.empty;
        size = ap (λ t. length t.blocks) c.in_ok-new.ensures.nothing ∙ length-flags c.args.settings.blocks (λ block. false);
        few = omega (arith, none);
        pending = of-none _ _ none;
        counted = omega (arith, none);
      };
      served = tt;
      place = λ is. absurd (cc);
      room = λ is. tt;
    }
