-- An event before another's decision: p sends to q before r has decided. Channel a has the roles A and B, and b has C and D:
--     start a(k): p[A], q[B];
--     start b(h): r[C], p[D];
--     if r.true {
--       p[A].1 -> q[B].x : k;
--       r[C] -> p[D] : h.go;
--       end
--     } else {
--       p[A].1 -> q[B].x : k;
--       r[C] -> p[D] : h.go;
--       end
--     }
use Rattle.std.specs.Prelude.{ℕ, List, [], ◌∷◌, ◌++◌, true}
use Rattle.chor_base.specs.declared.value.Value.TheVariants.{Bool as Truth}
use Rattle.chor_base.specs.declared.value.Load.TheVariants.{Label as Picks}
use Rattle.chor_base.specs.declared.expr.Expr.TheVariants.{Lit}
use Rattle.chor_base.specs.declared.event.Event.{Event}
use Rattle.chor_base.specs.declared.event.Event.TheVariants.{Start, Send, Recv, Test}
use Rattle.chor_tree.specs.declared.tree.Form.TheVariants.{Start as Starts, Value, Label, If, End}
use Rattle.chor_semantics.specs.Examples.Source.{Source, written, at, node, number, load}
use Rattle.chor_semantics.specs.Examples.Names.{p, q, r, x, k, h, a, b, A, B, C, D, go}

-- the source whose second branch sends this number where the first sends 1
abbrev pub source : ℕ → Source
source other = record {
  procs = [];
  processes = p ∷ q ∷ r ∷ [];
  forms =
      End
      ∷ Label (at r C) (at p D) (written h) go (node 0)
      ∷ Value (at p A) (number 1) (at q B) x (written k) (node 1)
      ∷ End
      ∷ Label (at r C) (at p D) (written h) go (node 3)
      ∷ Value (at p A) (number other) (at q B) x (written k) (node 4)
      ∷ If (written r) (Lit (Truth true)) (node 2) (node 5)
      ∷ Starts (written b) (written h) (at r C ∷ at p D ∷ []) [] (node 6)
      ∷ Starts (written a) (written k) (at p A ∷ at q B ∷ []) [] (node 7)
      ∷ [];
}

-- ---- events, in which p, q and r are processes 0, 1 and 2

-- start a #0 A=p B=q
abbrev pub start : Event
start = Start a 0 ((A, 0) ∷ (B, 1) ∷ [])

-- then start b #1 C=r D=p
abbrev pub starts : List Event
starts = start ∷ Start b 1 ((C, 2) ∷ (D, 0) ∷ []) ∷ []

-- send p #0 A>B 1
abbrev pub sending : Event
sending = Send 0 0 A B (load 1)

-- recv q #0 A>B 1
abbrev pub receiving : Event
receiving = Recv 1 0 A B (load 1)

-- test r true
abbrev pub deciding : Event
deciding = Test 2 true

-- pick r #1 C>D go
abbrev pub picking : Event
picking = Send 2 1 C D (Picks go)

-- branch p #1 C>D go
abbrev pub branching : Event
branching = Recv 0 1 C D (Picks go)

-- p sends before the decision
abbrev pub early : List Event
early = starts ++ sending ∷ deciding ∷ receiving ∷ picking ∷ branching ∷ []

-- p sends after it
abbrev pub late : List Event
late = starts ++ deciding ∷ sending ∷ receiving ∷ picking ∷ branching ∷ []
