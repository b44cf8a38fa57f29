use Rattle.epochs.proofs.Lawful.{lawful}
use Rattle.epochs.proofs.law.streams_are_lawful.Goals as goal

pub returns : goal.returns
returns c = lawful
