-- A service started twice. Channel d has the active role A and the service role S:
--     start d(k): p[A] new s[S];
--     p[A] -> s[S] : k.up;
--     s[S].1 -> p[A].x : k;
--     start d(h): q[A] new z[S];
--     q[A] -> z[S] : h.down;
--     z[S].2 -> q[A].y : h;
--     end
use Rattle.std.specs.Prelude.{ℕ, List, [], ◌∷◌}
use Rattle.chor_base.specs.declared.value.Load.TheVariants.{Label as Picks}
use Rattle.chor_base.specs.declared.event.Event.{Event}
use Rattle.chor_base.specs.declared.event.Event.TheVariants.{Start, Send, Recv}
use Rattle.chor_tree.specs.declared.tree.Form.TheVariants.{Start as Starts, Value, Label, End}
use Rattle.chor_semantics.specs.Examples.Source.{Source, written, at, node, number, load}
use Rattle.chor_semantics.specs.Examples.Names.{p, q, s, z, x, y, k, h, d, A, S, up, down}

abbrev pub source : Source
source = record {
  procs = [];
  processes = p ∷ q ∷ [];
  forms =
      End
      ∷ Value (at z S) (number 2) (at q A) y (written h) (node 0)
      ∷ Label (at q A) (at z S) (written h) down (node 1)
      ∷ Starts (written d) (written h) (at q A ∷ []) (at z S ∷ []) (node 2)
      ∷ Value (at s S) (number 1) (at p A) x (written k) (node 3)
      ∷ Label (at p A) (at s S) (written k) up (node 4)
      ∷ Starts (written d) (written k) (at p A ∷ []) (at s S ∷ []) (node 5)
      ∷ [];
}

-- ---- events, in which p and q are processes 0 and 1

-- start d #0 A=p, with service process n
abbrev pub first_start : ℕ → Event
first_start n = Start d 0 ((A, 0) ∷ (S, n) ∷ [])

-- start d #1 A=q, with service process n
abbrev pub second_start : ℕ → Event
second_start n = Start d 1 ((A, 1) ∷ (S, n) ∷ [])

-- both starts, and then pick p #0 A>S up, branch %2 #0 A>S up, pick q #1 A>S down, branch %3 #1 A>S down,
-- send %2 #0 S>A 1, send %3 #1 S>A 2, recv p #0 S>A 1, recv q #1 S>A 2
abbrev pub events : List Event
events =
    first_start 2
    ∷ second_start 3
    ∷ Send 0 0 A S (Picks up)
    ∷ Recv 2 0 A S (Picks up)
    ∷ Send 1 1 A S (Picks down)
    ∷ Recv 3 1 A S (Picks down)
    ∷ Send 2 0 S A (load 1)
    ∷ Send 3 1 S A (load 2)
    ∷ Recv 0 0 S A (load 1)
    ∷ Recv 1 1 S A (load 2)
    ∷ []
