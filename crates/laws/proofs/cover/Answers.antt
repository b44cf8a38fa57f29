-- What joined nodes have, every run of the pair has.
use Rattle.laws.proofs.Theorems.Cover.{every_cover}
use Rattle.laws.proofs.cover.Goals as goal

pub returns : goal.returns
returns c = record { covered = every_cover }
