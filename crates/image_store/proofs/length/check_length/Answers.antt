use Rattle.std.proofs.Common.{rules}
use Rattle.image_store.proofs.length.check_length.Goals as goal

pub returns-then-found-wanted-clause-refused : goal.returns-then-found-wanted-clause-refused
returns-then-found-wanted-clause-refused c = search rules

pub returns-clause-accepted : goal.returns-clause-accepted
returns-clause-accepted c = search rules
