-- The code of each service follows what stands after each start of its channel.
use Rattle.std.specs.Prelude.{ℕ, List, [], ◌∷◌}
use Rattle.chor_base.specs.declared.names.NameId.{NameId}
use Rattle.chor_semantics.specs.Choreography.{Named, Node, Starts, Communicates, InTransit, Alone, Choreography, Then, Either, Calls, Ends}
use Rattle.chor_semantics.specs.Sources.{Procedure}
use Rattle.endpoint_code.specs.declared.endpoints.Endpoints.{Endpoints}
use Rattle.endpoint_code.specs.Network.{service_of}
use Rattle.well_formed.specs.Follows.{no_sessions, with_session, IsEqualUpToPruning}

-- the code of each of these services follows what stands after the start, at the name of its new process; in it the
-- session has the channel's name
abbrev pub EachServiceFollows : Endpoints → List Procedure → Choreography → NameId → ℕ → ℕ → List (ℕ × NameId) → Type 0
EachServiceFollows e procs rest c d k [] = Unit {0}
EachServiceFollows e procs rest c d k (s ∷ ss) =
    IsEqualUpToPruning e procs (Named s.0 d) rest (service_of e.services c s.1) (with_session no_sessions c (Named k d, s.1)) × EachServiceFollows e procs rest c d k ss

-- at a node: if it is a start, its services
abbrev pub ServicesFollowAt : Endpoints → List Procedure → Choreography → Node → Type 0
ServicesFollowAt e procs rest (Starts c d k active serve) = EachServiceFollows e procs rest c d k serve
ServicesFollowAt e procs rest (Communicates s p a q b w) = Unit {0}
ServicesFollowAt e procs rest (InTransit s a b m q) = Unit {0}
ServicesFollowAt e procs rest (Alone p o) = Unit {0}

-- at each start in a choreography
abbrev pub ServicesFollow : Endpoints → List Procedure → Choreography → Type 0
ServicesFollow e procs (Then n rest) = ServicesFollowAt e procs rest n × ServicesFollow e procs rest
ServicesFollow e procs (Either p x c d) = ServicesFollow e procs c × ServicesFollow e procs d
ServicesFollow e procs (Calls f d ps ss) = Unit {0}
ServicesFollow e procs Ends = Unit {0}
