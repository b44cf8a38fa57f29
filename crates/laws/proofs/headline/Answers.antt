-- What joined nodes have, every run of the pair has.
use Rattle.laws.proofs.Theorems.Headline.{every_beginning, every_close, every_epochs, every_promises, every_marks, every_headline}
use Rattle.laws.proofs.headline.Goals as goal

pub returns-clause-beginning : goal.returns-clause-beginning
returns-clause-beginning c = every_beginning

pub returns-clause-closed : goal.returns-clause-closed
returns-clause-closed c = every_close

pub returns-clause-epochs : goal.returns-clause-epochs
returns-clause-epochs c = every_epochs

pub returns-clause-promises : goal.returns-clause-promises
returns-clause-promises c = every_promises

pub returns-clause-marks : goal.returns-clause-marks
returns-clause-marks c = every_marks

pub returns-clause-whole : goal.returns-clause-whole
returns-clause-whole c = every_headline
