-- The endless exchange: a procedure that calls itself. Channel a has the roles A and B:
--     proc Loop (p, q; k : Ping.begin {A = p, B = q}) {
--       p[A].1 -> q[B].x : k;
--       q[B].x + 1 -> p[A].y : k;
--       call Loop(p, q; k)
--     }
--     main (p, q) {
--       start a(k): p[A], q[B];
--       call Loop(p, q; k)
--     }
use Rattle.std.specs.Prelude.{List, [], ◌∷◌, ◌++◌, pos}
use Rattle.chor_base.specs.declared.value.Value.TheVariants.{Int}
use Rattle.chor_base.specs.declared.expr.Expr.{Expr}
use Rattle.chor_base.specs.declared.expr.BinOp.TheVariants.{Add}
use Rattle.chor_base.specs.declared.event.Event.{Event}
use Rattle.chor_base.specs.declared.event.Event.TheVariants.{Start, Send, Recv}
use Rattle.chor_base.specs.Expr.{Term, Constant, Variable, Binary}
use Rattle.chor_tree.specs.declared.file.Proc.{Proc}
use Rattle.chor_tree.specs.declared.tree.Form.TheVariants.{Start as Starts, Value, Call}
use Rattle.chor_semantics.specs.Examples.Source.{Source, written, at, node, number, load}
use Rattle.chor_semantics.specs.Examples.Names.{p, q, x, y, k, a, A, B, Loop, Ping, begin}

-- Loop, whose body begins at node 2
abbrev pub loop : Proc
loop = record {
  name = written Loop;
  params = record { name = written p; vars = [] } ∷ record { name = written q; vars = [] } ∷ [];
  sessions =
      record {
        name = written k;
        protocol = written Ping;
        state = written begin;
        holders = (written A, written p) ∷ (written B, written q) ∷ [];
      } ∷ [];
  body = node 2;
}

-- x + 1
abbrev pub x_and_one : Term
x_and_one = Binary Add (Variable x) (Constant (Int (pos 1)))

-- the source, with an expression that stands for x + 1
abbrev pub source : Expr → Source
source e = record {
  procs = loop ∷ [];
  processes = p ∷ q ∷ [];
  forms =
      Call (written Loop) (written p ∷ written q ∷ []) (written k ∷ [])
      ∷ Value (at q B) e (at p A) y (written k) (node 0)
      ∷ Value (at p A) (number 1) (at q B) x (written k) (node 1)
      ∷ Call (written Loop) (written p ∷ written q ∷ []) (written k ∷ [])
      ∷ Starts (written a) (written k) (at p A ∷ at q B ∷ []) [] (node 3)
      ∷ [];
}

-- ---- events, in which p and q are processes 0 and 1

-- start a #0 A=p B=q
abbrev pub start : Event
start = Start a 0 ((A, 0) ∷ (B, 1) ∷ [])

-- send p #0 A>B 1
abbrev pub asking : Event
asking = Send 0 0 A B (load 1)

-- then recv q #0 A>B 1, send q #0 B>A 2
abbrev pub asked : List Event
asked = asking ∷ Recv 1 0 A B (load 1) ∷ Send 1 0 B A (load 2) ∷ []

-- then recv p #0 B>A 2
abbrev pub exchange : List Event
exchange = asked ++ Recv 0 0 B A (load 2) ∷ []

abbrev pub ten_events : List Event
ten_events = start ∷ exchange ++ exchange ++ asking ∷ []
