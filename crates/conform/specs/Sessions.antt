-- One session of a log.
use Rattle.std.specs.Prelude.{ℕ, List}

-- the number of its protocol in the file, and for each role of that the number of its type's state
pub record SessionView : Type 0 where
  pub protocol : ℕ
  pub states : List ℕ
