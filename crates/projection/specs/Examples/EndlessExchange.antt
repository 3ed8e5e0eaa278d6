-- The endless exchange: the codes of process p, in a procedure that calls itself and in main.
use Rattle.std.specs.Prelude.{ℕ, [], ◌∷◌, pos}
use Rattle.chor_base.specs.declared.value.Value.TheVariants.{Int}
use Rattle.chor_base.specs.declared.expr.Expr.{Expr}
use Rattle.chor_base.specs.Expr.{Constant}
use Rattle.chor_tree.specs.declared.file.Proc.{Proc}
use Rattle.chor_semantics.specs.Choreography.{Choreography}
use Rattle.chor_semantics.specs.Sources.{tree_in, trees_of}
use Rattle.chor_semantics.specs.Examples.Source.{nodes_of, node, written}
use Rattle.chor_semantics.specs.Examples.Names.{p, q, y, k, a, A, B, Loop, Ping, begin}
use Rattle.chor_semantics.specs.Examples.EndlessExchange.{source}
use Rattle.endpoint_code.specs.Trees.{CodeTree, Does, Calls, Joins, Sends, Receives}

-- what stands at a node, where x + 1 is written as e
abbrev pub from : ℕ → Expr → Choreography
from n e = tree_in (trees_of (nodes_of (source e))) (node n)

-- call Loop p (k)
abbrev pub goes_on : CodeTree
goes_on = Calls Loop p (k ∷ [])

-- send k B 1; recv k B y; call Loop p (k)
abbrev pub body_of_p : CodeTree
body_of_p = Does (Sends k B (Constant (Int (pos 1)))) (Does (Receives k B y) goes_on)

-- join a[A](k); call Loop p (k)
abbrev pub code_of_p : CodeTree
code_of_p = Does (Joins a A k) goes_on

-- Loop with k : Ping.begin {B = q}, which doesn't list p
abbrev pub unlisted : Proc
unlisted = record {
  name = written Loop;
  params = record { name = written p; vars = [] } ∷ record { name = written q; vars = [] } ∷ [];
  sessions = record { name = written k; protocol = written Ping; state = written begin; holders = (written B, written q) ∷ [] } ∷ [];
  body = node 2;
}
