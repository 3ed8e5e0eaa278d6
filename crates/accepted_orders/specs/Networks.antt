-- What is proved of the networks of checked files.
use Rattle.accepted_files.specs.Accepted.{NetworkRunsAreRuns, RunsAreNetworkRuns}
use Rattle.accepted_files.specs.AboveProjection.{ProjectionIsAbove}
use Rattle.accepted_files.specs.FaultlessLaws.{ProjectionIsFaultless}

-- their programs have no fault of names and calls, and their runs are those of the choreography
pub record AreNetworksOfFiles : Type 0 where
  pub faultless : ProjectionIsFaultless
  pub above : ProjectionIsAbove
  pub to : NetworkRunsAreRuns
  pub back : RunsAreNetworkRuns
