-- `cover`: in every run of the pair a block on which the disks differ is marked or under an unreleased write.
use Rattle.model.specs.Headline.{CoversDifferences}
use Rattle.model.specs.Theorems.{IsSoundOpening, EveryRunCoversDifferences}
use Rattle.laws.proofs.Theorems.JoinedHeadline.{joined_covers}
use Rattle.laws.proofs.Theorems.PairIsJoined.{of-joined}

-- in every run of the pair the cover holds
pub every_cover : EveryRunCoversDifferences
every_cover = of-joined IsSoundOpening CoversDifferences joined_covers
