-- The choreography that a block of a source is.
use Rattle.std.specs.Prelude.{map}
use Rattle.chor_tree.specs.Source.{Statement, Starts as StartsAt, Sends, Selects, Gives, Sets as SetsTo, Asks as AsksFor, Shows as ShowsAt, Block, Then as After, Either as Tests, Calls as Goes, Ends as Stops}
use Rattle.chor_semantics.specs.Choreography.{OfValue, OfLabel, OfPart, Sets, Shows, Asks, Node, Starts, Communicates, Alone, Choreography, Then, Either, Calls, Ends}
use Rattle.chor_semantics.specs.Sources.{name_ref, parts_of, served_of}

-- the node that a statement of a source is
abbrev pub node_of : Statement → Node
node_of (StartsAt c k active serve) = Starts c.name 0 k.name.0 (parts_of active) (served_of serve)
node_of (Sends from e to x k) = Communicates (name_ref k) (name_ref from.process) from.role.name (name_ref to.process) to.role.name (OfValue e x)
node_of (Selects from to k l) = Communicates (name_ref k) (name_ref from.process) from.role.name (name_ref to.process) to.role.name (OfLabel l)
node_of (Gives from to k h) = Communicates (name_ref k) (name_ref from.process) from.role.name (name_ref to.process) to.role.name (OfPart (name_ref h.process) h.role.name)
node_of (SetsTo p x e) = Alone (name_ref p) (Sets x e)
node_of (AsksFor p x f a b) = Alone (name_ref p) (Asks x f.name a b)
node_of (ShowsAt p e) = Alone (name_ref p) (Shows e)

-- the choreography that a block of a source is
abbrev pub choreography_of : Block → Choreography
choreography_of (After place s next) = Then (node_of s) (choreography_of next)
choreography_of (Tests place p e first second) = Either (name_ref p) e (choreography_of first) (choreography_of second)
choreography_of (Goes place f ps ss) = Calls f.name 0 (map name_ref ps) (map name_ref ss)
choreography_of (Stops place) = Ends
