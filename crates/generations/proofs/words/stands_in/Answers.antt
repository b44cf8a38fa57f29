use Rattle.std.proofs.Common.{rules}
use Rattle.generations.proofs.words.stands_in.Goals as goal

pub returns-else-word-tuple-3 : goal.returns-else-word-tuple-3
returns-else-word-tuple-3 c = search rules
