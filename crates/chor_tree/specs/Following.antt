-- What follows a node, as a list (this project's own).
use Rattle.std.specs.Prelude.{List, [], ◌∷◌}
use Rattle.chor_tree.specs.declared.tree.NodeId.{NodeId}
use Rattle.chor_tree.specs.declared.walks.Following.{Following}
use Rattle.chor_tree.specs.declared.walks.Following.TheVariants.{Nothing, One, Either}

abbrev pub followers : Following → List NodeId
followers Nothing = []
followers (One next) = next ∷ []
followers (Either first second) = first ∷ second ∷ []
