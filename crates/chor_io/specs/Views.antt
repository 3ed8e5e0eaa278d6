-- What contracts see of the shelf and the sink in memory.
use Rattle.std.specs.Prelude.{ℕ, List}

pub record ShelfView : Type 0 where
  -- names with their bytes
  pub files : List (List ℕ × List ℕ)
  -- the numbers of the calls that fail
  pub fails : List ℕ
  -- how many calls were made
  pub calls : ℕ
  -- the names of the calls that failed
  pub failed : List (List ℕ)

pub record SinkView : Type 0 where
  -- the bytes written
  pub written : List ℕ
  -- how many bytes fit in all
  pub room : ℕ
  -- the numbers of the calls that fail, each with how many bytes are taken before
  pub fails : List (ℕ × ℕ)
  -- how many calls were made
  pub calls : ℕ
  -- how many of them failed
  pub failures : ℕ
