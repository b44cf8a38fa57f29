-- What the nodes of a session have shown.
use Rattle.std.specs.Prelude.{Bool, Option}
use Rattle.model.specs.Primary.{PrimaryHistory}
use Rattle.model.specs.Secondary.{SecondaryHistory}
use Rattle.model.specs.Theorems.{Opening}
use Rattle.node_lines.specs.Progress.{PrimaryShows, SecondaryShows}
use Rattle.node_lines.specs.declared.primary_progress.PrimaryProgress.{PrimaryProgress}
use Rattle.node_lines.specs.declared.secondary_progress.SecondaryProgress.{SecondaryProgress}
use Rattle.session_nodes.specs.Primaries.{PrimaryBegan}
use Rattle.session_nodes.specs.Secondaries.{SecondaryBegan}

-- some primary that began with this opening had come as far
pub record PrimaryHasShown (opening : Option Opening) (progress : PrimaryProgress) : Type 0 where
  pub history : PrimaryHistory
  pub began : PrimaryBegan opening history
  pub shows : PrimaryShows progress history

-- some secondary that began with this opening had come as far, its disk doubted or not
pub record SecondaryHasShown (opening : Option Opening) (progress : SecondaryProgress) : Type 0 where
  pub history : SecondaryHistory
  pub began : SecondaryBegan opening history
  pub is_doubted : Bool
  pub shows : SecondaryShows is_doubted progress history
