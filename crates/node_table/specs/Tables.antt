-- A table of nodes seen as trees (this project's own). `make` tells the tree of a node, where the trees of the nodes before it in the
-- table are known.
use Rattle.std.specs.Prelude.{List, [], ◌∷◌, ◌++◌}

-- the trees of all nodes, after those that are known
abbrev pub grown : {N T : Type 0} → (List T → N → T) → List T → List N → List T
grown make ts [] = ts
grown make ts (n ∷ ns) = grown make (ts ++ make ts n ∷ []) ns

-- The tree that begins at each node of a table
abbrev pub trees_of : {N T : Type 0} → (List T → N → T) → List N → List T
trees_of make ns = grown make [] ns
