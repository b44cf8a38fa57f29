use Rattle.std.proofs.Common.{◌∙◌, ap, List, ℕ}
use Rattle.metadata.specs.Words.{sum_of, word}
use Rattle.metadata.proofs.codec.sum_of.Goals as goal

pub returns : goal.returns
unfolding sum_of
returns c = c.word.ensures ∙ ap (λ (l : List ℕ). word l 0) c.digest-digest.ensures
