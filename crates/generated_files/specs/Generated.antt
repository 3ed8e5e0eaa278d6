-- A file that is the generated one, however it was made.
use Rattle.std.specs.Prelude.{ℕ, ◌≡◌, ◌≤◌}
use Rattle.chor_tree.specs.declared.file.File.{File}
use Rattle.chor_tree.specs.Source.{source_of}
use Rattle.chor_gen.specs.Words.{named_in, generated_names}
use Rattle.chor_gen.specs.Generated.{generated}

-- The file is the generated source with so many rounds, with its table of names
pub record IsGenerated (f : File) (count : ℕ) : Type 0 where
  pub some : 1 ≤ count
  pub few : count ≤ 4000
  pub names : f.names ≡ generated_names count
  pub source : source_of f ≡ generated (named_in f.names) count
