-- No more pieces were taken than pushed, and no push and no pop changes that.
use Rattle.std.proofs.Common.{◌≤◌, List, [], ◌∷◌, ◌++◌, length, arith}
use Rattle.std.proofs.lemmas.List.{length-append}
use Rattle.thread_link.specs.Pieces.{PieceState}

pub pushed_more : (pushed taken : List PieceState) (piece : PieceState) → length taken ≤ length pushed → length taken ≤ length (pushed ++ piece ∷ [])
pushed_more pushed taken piece fewer = omega (arith, length-append pushed (piece ∷ []))

pub taken_more : (taken there : List PieceState) (piece : PieceState) → length taken ≤ length (taken ++ piece ∷ there)
    → length (taken ++ piece ∷ []) ≤ length (taken ++ piece ∷ there)
taken_more taken there piece fewer = omega (arith, length-append taken (piece ∷ []), length-append taken (piece ∷ there))
