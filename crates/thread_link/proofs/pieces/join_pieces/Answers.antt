-- With both parts a pass knows the whole.
use Rattle.std.proofs.Common.{List, ◌++◌, map, sym, ap, ◌∙◌, rules}
use Rattle.thread_link.specs.Pieces.{EndState, PieceState}
use Rattle.thread_link.specs.Row.{piece_of}
use Rattle.thread_link.specs.declared.pieces.Log.{Log}
use Rattle.thread_link.proofs.Rows.{forks, merges, totals}
use Rattle.thread_link.proofs.pieces.join_pieces.Goals as goal

pub absorb-requires-clause-rule : goal.absorb-requires-clause-rule
absorb-requires-clause-rule g c = merges _ _ _ _ _ (search rules) (search rules)

pub learn_as-requires-clause-rule : goal.learn_as-requires-clause-rule
learn_as-requires-clause-rule g c = totals _ _ _ (search rules) (search rules)

pub another-taker-requires-clause-rule : goal.another-taker-requires-clause-rule
another-taker-requires-clause-rule g c = forks _ _ _ (search rules) (search rules)

pub returns-clause-begins : goal.returns-clause-begins
returns-clause-begins g c =
    let both = c.absorb.ensures.rule in
    let learned = c.learn_as.ensures.rule in
    let there : List PieceState = map piece_of learned.0 in (
      there,
      ap (λ (s : EndState). s.pieces ++ there) (sym c.inward.view_is) ∙ ap (λ (v : Log). v.taken ++ there) (sym both) ∙ sym learned.1
          ∙ ap (λ (v : Log). v.pushed) both
          ∙ ap (λ (s : EndState). s.pieces) c.outward.view_is,
    )
