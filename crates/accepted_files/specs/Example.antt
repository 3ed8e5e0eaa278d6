-- The service started twice, with its protocol: a checked file, so that nothing is asked in vain.
--     protocol D (A, S) {
--         begin: A -> S : { up: go, down: go };
--         go: S -> A : int; To;
--         To: end
--     }
use Rattle.std.specs.Prelude.{[], ◌∷◌}
use Rattle.chor_base.specs.declared.value.Sort.TheVariants.{Int}
use Rattle.chor_base.specs.Meaning.{Hosts}
use Rattle.chor_tree.specs.declared.file.File.{File}
use Rattle.chor_tree.specs.declared.protocol.Payload.TheVariants.{Plain}
use Rattle.chor_tree.specs.declared.protocol.ProtoArm.{ProtoArm}
use Rattle.chor_tree.specs.declared.protocol.ProtoStep.TheVariants.{End, Value, Choice}
use Rattle.chor_tree.specs.Headers.{no_header}
use Rattle.chor_tree.specs.Protocols.{Protocol}
use Rattle.chor_tree.specs.Children.{IsClosed as IsClosedTree}
use Rattle.chor_tree.specs.Kept.{Keeps}
use Rattle.chor_base.specs.declared.names.NameId.{NameId}
use Rattle.chor_semantics.specs.Examples.Source.{nodes_of, node, written}
use Rattle.chor_semantics.specs.Examples.Names.{words, p, q, a, d, A, S, D, To, go, up, down, begin}
use Rattle.chor_semantics.specs.Examples.ServiceTwice.{source}
use Rattle.endpoint_code.specs.declared.endpoints.Endpoints.{Endpoints}
use Rattle.endpoint_code.specs.Code.{IsClosed}
use Rattle.endpoint_code.specs.Bodies.{AreInside}
use Rattle.well_formed.specs.Asked.{IsAnswered}
use Rattle.projection.specs.Projects.{Projects}
use Rattle.projection.specs.Examples.ServiceTwice.{service, nodes, services, processes, AreKept, endpoints}
use Rattle.accepted_files.specs.Accepted.{IsChecked}

abbrev pub arm : NameId → ProtoArm
arm l = record { label = written l; next = written go }

abbrev pub protocol : Protocol
protocol = record {
  name = written D;
  roles = written A ∷ written S ∷ [];
  states =
      record { name = written begin; step = Choice (written A) (written S) (arm up ∷ arm down ∷ []) }
      ∷ record { name = written go; step = Value (written S) (written A) (Plain Int) (written To) }
      ∷ record { name = written To; step = End }
      ∷ [];
}

abbrev pub FileIsKept : Type 0
FileIsKept = Keeps no_header words [] (protocol ∷ []) (service a ∷ service d ∷ []) [] (written p ∷ written q ∷ []) (nodes_of source) (node 6)

abbrev pub file : IsClosedTree (nodes_of source) → FileIsKept → File
file closed kept = record {
  header = no_header;
  names = words;
  texts = [];
  protocols = protocol ∷ [];
  services = service a ∷ service d ∷ [];
  procs = [];
  processes = written p ∷ written q ∷ [];
  tree = record { nodes = nodes_of source; closed = closed };
  body = node 6;
  kept = kept;
}

-- it is checked, even where there is no host function
abbrev pub ServiceTwiceIsChecked : Type 0
ServiceTwiceIsChecked = (tree : IsClosedTree (nodes_of source)) (kept : FileIsKept) → IsChecked (file tree kept) []

-- it asks no host function
abbrev pub ServiceTwiceIsAnswered : Type 0
ServiceTwiceIsAnswered = (tree : IsClosedTree (nodes_of source)) (kept : FileIsKept) (hosts : Hosts) → IsAnswered (file tree kept) hosts

-- and it has a projection
abbrev pub ServiceTwiceIsProjected : Type 0
ServiceTwiceIsProjected =
    (tree : IsClosedTree (nodes_of source)) (kept : FileIsKept) (code : IsClosed nodes) (inside : AreInside nodes [] services processes) (numbered : AreKept)
    → Projects (file tree kept) (endpoints code inside numbered)

-- so there are a checked file, which asks no host function, and its projection
pub record HasProjection : Type 0 where
  pub file : File
  pub endpoints : Endpoints
  pub checked : IsChecked file []
  pub answered : (hosts : Hosts) → IsAnswered file hosts
  pub projects : Projects file endpoints
