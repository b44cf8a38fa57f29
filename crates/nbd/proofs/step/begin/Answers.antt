-- A request that is given out ends below 2^64, and is no WRITE.
use Rattle.std.proofs.Common.{◌≡◌, sym, ◌∙◌, arith}
use Rattle.std.proofs.lemmas.Grind.{common_steps}
use Rattle.nbd.proofs.Waiting.{given_ends}
use Rattle.nbd.proofs.step.begin.Goals as goal

pub give-requires : goal.give-requires
give-requires c = record {
  inside = given_ends c.args.export.now c.args.header.now c.in-Ok.command (sym c.requires ∙ c.in-Ok.is)
      (λ same. first_of (cc, grind (arith, common_steps))) c.is_bounded.ensures;
  whole = λ same. first_of (cc, grind (arith, common_steps));
}
