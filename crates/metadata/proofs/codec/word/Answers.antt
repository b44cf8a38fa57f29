use Rattle.std.proofs.Common.{rules}
use Rattle.metadata.specs.Words.{word}
use Rattle.metadata.proofs.codec.word.Goals as goal

pub returns : goal.returns
unfolding word
returns c = search rules
