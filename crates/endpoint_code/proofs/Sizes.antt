-- How many nodes and arms a code has.
use Rattle.std.specs.Prelude.{ℕ, ◌+◌}
use Rattle.endpoint_code.specs.Trees.{CodeTree, Does, Offers, Tests, Calls, Ends, Arms, NoArms, Arm}

abbrev mutual
  pub size : CodeTree → ℕ
  size (Does a rest) = size rest + 1
  size (Offers k a arms) = size_of_arms arms + 1
  size (Tests e first second) = size first + size second + 1
  size (Calls f p ss) = 1
  size Ends = 1

  pub size_of_arms : Arms → ℕ
  size_of_arms NoArms = 0
  size_of_arms (Arm l c rest) = size c + size_of_arms rest + 2
