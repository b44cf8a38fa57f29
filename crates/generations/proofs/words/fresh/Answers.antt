use Rattle.std.proofs.Common.{◌≡◌, ◌∙◌, sym, true, false, nat_lt, rules, arith}
use Rattle.std.specs.List.{list_any}
use borrow.Author.Tests.{tests}
use Rattle.std.proofs.lemmas.Bool.Decides.{nat_tests}
use Rattle.std.proofs.lemmas.Iterator.{YieldsList-from_slice}
use Rattle.std.proofs.lemmas.Iterator.Search.{any_from_yields_List}
use Rattle.blocks.specs.Identifiers.{stands_in}
use Rattle.generations.proofs.words.fresh.Goals as goal

pub returns-clause-fresh : goal.returns-clause-fresh
returns-clause-fresh c =
    let nowhere : list_any (stands_in c.args.word) c.args.known.now ≡ false =
    sym (any_from_yields_List (stands_in c.args.word) _ _ c.any.result c.any.ensures.ran (YieldsList-from_slice c.args.known.now cc)
    (λ x b q k. search (rules, tests))) ∙ c.if-any.false in
    let some : nat_lt 0 c.args.word ≡ true = grind (arith, nat_tests) in
    rw (some, nowhere) (search rules)
