-- What was taken begins what was pushed; an acknowledgement that was taken was due, and what was due is true; what is surely
-- applied is then applied.
use Rattle.laws.proofs.Theorems.Joined.{keeps_promises, joined_headline, joined_covers, joined_settles, joined_settles_anyhow, takes_a_beginning}
use Rattle.laws.proofs.joined.Goals as goal

pub returns-clause-beginning : goal.returns-clause-beginning
returns-clause-beginning c = takes_a_beginning

pub returns-clause-promises : goal.returns-clause-promises
returns-clause-promises c = keeps_promises

pub returns-clause-headline : goal.returns-clause-headline
returns-clause-headline c = joined_headline

pub returns-clause-cover : goal.returns-clause-cover
returns-clause-cover c = joined_covers

pub returns-clause-settlement : goal.returns-clause-settlement
returns-clause-settlement c = joined_settles

pub returns-clause-anyhow : goal.returns-clause-anyhow
returns-clause-anyhow c = joined_settles_anyhow
