-- A service started twice, with the channel's one service code:
--     start d(k): p[A] new s[S];
--     p[A] -> s[S] : k.up;
--     s[S].1 -> p[A].x : k;
--     start d(h): q[A] new z[S];
--     q[A] -> z[S] : h.down;
--     z[S].2 -> q[A].y : h;
--     end
use Rattle.std.specs.Prelude.{ℕ, List, [], ◌∷◌}
use Rattle.chor_base.specs.declared.names.NameId.{NameId}
use Rattle.chor_tree.specs.Headers.{no_header}
use Rattle.chor_tree.specs.declared.file.File.{File}
use Rattle.chor_tree.specs.declared.file.Service.{Service}
use Rattle.chor_tree.specs.Children.{IsClosed as IsClosedTree}
use Rattle.chor_tree.specs.Kept.{Keeps}
use Rattle.chor_semantics.specs.Sources.{tree_in, trees_of}
use Rattle.chor_semantics.specs.Examples.Source.{nodes_of, node, number, written}
use Rattle.chor_semantics.specs.Examples.Names.{words, p, q, x, y, k, h, a, d, A, S, D, up, down}
use Rattle.chor_semantics.specs.Examples.ServiceTwice.{source}
use Rattle.endpoint_code.specs.declared.code.CodeId.{CodeId}
use Rattle.endpoint_code.specs.declared.code.CodeNode.{CodeNode}
use Rattle.endpoint_code.specs.declared.code.CodeNode.TheVariants.{Join, Send, Recv, Pick, Branch, End}
use Rattle.endpoint_code.specs.declared.endpoints.Channel.{Channel}
use Rattle.endpoint_code.specs.declared.endpoints.ServiceCode.{ServiceCode}
use Rattle.endpoint_code.specs.declared.endpoints.Process.{Process}
use Rattle.endpoint_code.specs.declared.endpoints.Endpoints.{Endpoints}
use Rattle.endpoint_code.specs.Code.{IsClosed}
use Rattle.endpoint_code.specs.Bodies.{AreInside}
use Rattle.endpoint_code.specs.Kept.{AreNumbered}
use Rattle.endpoint_code.specs.Trees.{CodeTree, code_at}
use Rattle.projection.specs.Projects.{Started, starts_in}

-- the two starts of d
abbrev pub starts : List Started
starts = starts_in d (tree_in (trees_of (nodes_of source)) (node 6))

abbrev pub code : ℕ → CodeId
code n = record { 0 = n }

-- end; send d A 2; end; send d A 1; end: the codes with the numbers 0, 1 and 2
abbrev pub offers : List (NameId × CodeId) → CodeTree
offers arms = code_at (End ∷ Send d A (number 2) (code 0) ∷ Send d A (number 1) (code 0) ∷ Branch d A arms ∷ []) (code 3)

-- send d A 2; end
abbrev pub sends_two : CodeId
sends_two = code 1

-- send d A 1; end
abbrev pub sends_one : CodeId
sends_one = code 2

-- ---- the whole file, with a channel that no start names, and its endpoints

-- service c : D (A | S);
abbrev pub service : NameId → Service
service c = record { name = written c; protocol = written D; active = written A ∷ []; serve = written S ∷ [] }

abbrev pub FileIsKept : Type 0
FileIsKept = Keeps no_header words [] [] (service a ∷ service d ∷ []) [] (written p ∷ written q ∷ []) (nodes_of source) (node 6)

abbrev pub file : IsClosedTree (nodes_of source) → FileIsKept → File
file closed kept = record {
  header = no_header;
  names = words;
  texts = [];
  protocols = [];
  services = service a ∷ service d ∷ [];
  procs = [];
  processes = written p ∷ written q ∷ [];
  tree = record { nodes = nodes_of source; closed = closed };
  body = node 6;
  kept = kept;
}

-- process p { join d[A](k); pick k S up; recv k S x; end }
-- process q { join d[A](h); pick h S down; recv h S y; end }
abbrev pub nodes : List CodeNode
nodes =
    End
    ∷ Send d A (number 2) (code 0)
    ∷ Send d A (number 1) (code 0)
    ∷ Branch d A ((down, code 1) ∷ (up, code 2) ∷ [])
    ∷ Recv k S x (code 0)
    ∷ Pick k S up (code 4)
    ∷ Join d A k (code 5)
    ∷ Recv h S y (code 0)
    ∷ Pick h S down (code 7)
    ∷ Join d A h (code 8)
    ∷ []

-- channel d (A | S);
abbrev pub channels : List Channel
channels = record { name = d; active = A ∷ []; serve = S ∷ [] } ∷ []

abbrev pub services : List ServiceCode
services = record { channel = d; role = S; body = code 3 } ∷ []

abbrev pub processes : List Process
processes = record { name = p; body = code 6 } ∷ record { name = q; body = code 9 } ∷ []

abbrev pub AreKept : Type 0
AreKept = AreNumbered words [] channels [] services processes nodes

abbrev pub endpoints : IsClosed nodes → AreInside nodes [] services processes → AreKept → Endpoints
endpoints closed inside numbered = record {
  names = words;
  texts = [];
  channels = channels;
  procedures = [];
  services = services;
  processes = processes;
  code = record { nodes = nodes; closed = closed };
  inside = inside;
  numbered = numbered;
}
