-- Delegation while a message waits: s hands the role of the seller to c, and the buyer has sent its message before that.
-- Channel sale has the roles Buyer and Seller, and hand has From and To:
--     start sale(k): b[Buyer], s[Seller];
--     start hand(h): s[From], c[To];
--     s[From] -> c[To] : h(k[Seller]);
--     b[Buyer].5 -> c[Seller].x : k;
--     end
use Rattle.std.specs.Prelude.{ℕ, List, [], ◌∷◌, ◌++◌}
use Rattle.chor_base.specs.declared.value.Value.TheVariants.{Part as Endpoint}
use Rattle.chor_base.specs.declared.value.Load.{Load}
use Rattle.chor_base.specs.declared.value.Load.TheVariants.{Value as Carries}
use Rattle.chor_base.specs.declared.event.Event.{Event}
use Rattle.chor_base.specs.declared.event.Event.TheVariants.{Start, Send, Recv}
use Rattle.chor_tree.specs.declared.tree.Form.TheVariants.{Start as Starts, Value, Give, End}
use Rattle.chor_semantics.specs.Examples.Source.{Source, written, at, node, number, load}
use Rattle.chor_semantics.specs.Examples.Names.{b, s, c, x, k, h, sale, hand, Buyer, Seller, From, To}

abbrev pub source : Source
source = record {
  procs = [];
  processes = b ∷ s ∷ c ∷ [];
  forms =
      End
      ∷ Value (at b Buyer) (number 5) (at c Seller) x (written k) (node 0)
      ∷ Give (at s From) (at c To) (written h) (at k Seller) (node 1)
      ∷ Starts (written hand) (written h) (at s From ∷ at c To ∷ []) [] (node 2)
      ∷ Starts (written sale) (written k) (at b Buyer ∷ at s Seller ∷ []) [] (node 3)
      ∷ [];
}

-- ---- events, in which b, s and c are processes 0, 1 and 2

-- the role that is handed over
abbrev pub seller : Load
seller = Carries (Endpoint 0 Seller)

-- start sale #0 Buyer=b Seller=s, start hand #1 From=s To=c, send b #0 Buyer>Seller 5, give s #1 From>To #0.Seller
abbrev pub given : List Event
given =
    Start sale 0 ((Buyer, 0) ∷ (Seller, 1) ∷ [])
    ∷ Start hand 1 ((From, 1) ∷ (To, 2) ∷ [])
    ∷ Send 0 0 Buyer Seller (load 5)
    ∷ Send 1 1 From To seller
    ∷ []

-- process n receives what the buyer sent
abbrev pub receiving : ℕ → Load → Event
receiving n sent = Recv n 0 Buyer Seller sent

-- then gain c #1 From>To #0.Seller, recv c #0 Buyer>Seller 5
abbrev pub events : List Event
events = given ++ Recv 2 1 From To seller ∷ receiving 2 (load 5) ∷ []
