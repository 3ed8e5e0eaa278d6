use Rattle.merged_codes.proofs.ScopedTables.{tree_tells}
use Rattle.merged_codes.proofs.trees_tell_scopes.Goals as goal

pub returns : goal.returns
returns c e id bs there fine = tree_tells e id bs there fine
