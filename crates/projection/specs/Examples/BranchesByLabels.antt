-- Branches told by labels. Channel c has the active roles R and P:
--     start c(h): r[R], p[P];
--     if r.true {
--       r[R] -> p[P] : h.ok;
--       end
--     } else {
--       r[R] -> p[P] : h.ko;
--       end
--     }
use Rattle.std.specs.Prelude.{ℕ, true, List, [], ◌∷◌}
use Rattle.chor_base.specs.declared.names.NameId.{NameId}
use Rattle.chor_base.specs.declared.value.Value.TheVariants.{Bool as Truth}
use Rattle.chor_base.specs.declared.expr.Expr.TheVariants.{Lit}
use Rattle.chor_tree.specs.declared.tree.Form.TheVariants.{Start, Label, If, Show, End as Stop}
use Rattle.chor_semantics.specs.Choreography.{Choreography}
use Rattle.chor_semantics.specs.Sources.{tree_in, trees_of}
use Rattle.chor_semantics.specs.Examples.Source.{Source, nodes_of, written, at, node, number}
use Rattle.chor_semantics.specs.Examples.Names.{p, r, c, h}
use Rattle.endpoint_code.specs.declared.code.CodeId.{CodeId}
use Rattle.endpoint_code.specs.declared.code.CodeNode.TheVariants.{Join, Pick, Branch, If as Decide, End}
use Rattle.endpoint_code.specs.Trees.{CodeTree, code_at}

-- ---- names that no other example has

abbrev pub R : NameId
R = record { 0 = 30 }

abbrev pub P : NameId
P = record { 0 = 31 }

abbrev pub ok : NameId
ok = record { 0 = 32 }

abbrev pub ko : NameId
ko = record { 0 = 33 }

-- ---- the source

abbrev pub source : Source
source = record {
  procs = [];
  processes = r ∷ p ∷ [];
  forms =
      Stop
      ∷ Label (at r R) (at p P) (written h) ko (node 0)
      ∷ Stop
      ∷ Label (at r R) (at p P) (written h) ok (node 2)
      ∷ If (written r) (Lit (Truth true)) (node 3) (node 1)
      ∷ Start (written c) (written h) (at r R ∷ at p P ∷ []) [] (node 4)
      ∷ [];
}

abbrev pub main : Choreography
main = tree_in (trees_of (nodes_of source)) (node 5)

-- if r.true { p show 1; end } else { p show 2; end }
abbrev pub untold : Source
untold = record {
  procs = [];
  processes = r ∷ p ∷ [];
  forms =
      Stop
      ∷ Show (written p) (number 2) (node 0)
      ∷ Stop
      ∷ Show (written p) (number 1) (node 2)
      ∷ If (written r) (Lit (Truth true)) (node 3) (node 1)
      ∷ [];
}

abbrev pub untold_main : Choreography
untold_main = tree_in (trees_of (nodes_of untold)) (node 4)

-- ---- codes

abbrev pub code : ℕ → CodeId
code n = record { 0 = n }

-- join c[R](h); if true { pick h P ok; end } else { pick h P ko; end }
abbrev pub code_of_r : CodeTree
code_of_r = code_at (End ∷ Pick h P ko (code 0) ∷ End ∷ Pick h P ok (code 2) ∷ Decide (Lit (Truth true)) (code 3) (code 1) ∷ Join c R h (code 4) ∷ []) (code 5)

-- join c[P](h); branch h R { .. }, where each arm of the branch has the label given and ends
abbrev pub offers : List (NameId × CodeId) → CodeTree
offers arms = code_at (End ∷ Branch h R arms ∷ Join c P h (code 1) ∷ []) (code 2)

-- l { end }
abbrev pub arm : NameId → NameId × CodeId
arm l = (l, code 0)
