-- Trees of sources: nothing is in transit, and no name has a depth yet.
use Rattle.std.specs.Prelude.{◌≡◌, List, [], ◌∷◌, Some}
use Rattle.chor_base.specs.declared.names.NameId.{NameId}
use Rattle.chor_semantics.specs.Choreography.{Ref, Live, Named, Content, OfValue, OfLabel, OfPart, Node, Starts, Communicates, InTransit, Alone, Choreography, Then, Either, Calls, Ends}
use Rattle.chor_semantics.specs.Sources.{Procedure}
use Rattle.chor_semantics.specs.Steps.{procedure_named}

-- a name with no depth
abbrev pub IsName : Ref → Type 0
IsName (Live n) = ⊥
IsName (Named x d) = d ≡ 0

-- all of them
abbrev pub AreNames : List Ref → Type 0
AreNames [] = Unit {0}
AreNames (r ∷ rs) = IsName r × AreNames rs

-- all active processes of a start
abbrev pub AreParts : List (Ref × NameId) → Type 0
AreParts [] = Unit {0}
AreParts (p ∷ ps) = IsName p.0 × AreParts ps

-- the session of an endpoint that is sent
abbrev pub IsContent : Content → Type 0
IsContent (OfValue e x) = Unit {0}
IsContent (OfLabel l) = Unit {0}
IsContent (OfPart s r) = IsName s

-- a node of a source
abbrev pub IsSourceNode : Node → Type 0
IsSourceNode (Starts c d k active serve) = (d ≡ 0) × AreParts active
IsSourceNode (Communicates s p a q b w) = IsName s × IsName p × IsName q × IsContent w
IsSourceNode (InTransit s a b m q) = ⊥
IsSourceNode (Alone p o) = IsName p

-- a choreography as a source says it
abbrev pub IsSource : Choreography → Type 0
IsSource (Then n rest) = IsSourceNode n × IsSource rest
IsSource (Either p e c d) = IsName p × IsSource c × IsSource d
IsSource (Calls f d ps ss) = AreNames ps × AreNames ss
IsSource Ends = Unit {0}

-- the body of each procedure
abbrev pub AllSources : List Procedure → Type 0
AllSources procs = (f : NameId) (p : Procedure) → procedure_named procs f ≡ Some p → IsSource p.body
