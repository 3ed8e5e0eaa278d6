-- A file and endpoints that meet all that is asked of a projection, so that nothing is asked in vain.
use Rattle.std.specs.Prelude.{ℕ, ◌≡◌, true, [], Option}
use Rattle.chor_base.specs.declared.names.NameId.{NameId}
use Rattle.chor_base.specs.Meaning.{Hosts}
use Rattle.chor_tree.specs.Children.{IsClosed as IsClosedTree}
use Rattle.chor_semantics.specs.Examples.Source.{nodes_of}
use Rattle.chor_semantics.specs.Examples.ServiceTwice.{source}
use Rattle.endpoint_code.specs.Code.{IsClosed}
use Rattle.endpoint_code.specs.Bodies.{AreInside}
use Rattle.endpoint_code.specs.Network.{has_room}
use Rattle.projection.specs.Examples.ServiceTwice.{FileIsKept, AreKept, file, nodes, services, processes, endpoints}
use Rattle.well_formed.specs.Linear.{ParameterSets}
use Rattle.well_formed.specs.Holders.{ListedHolders}
use Rattle.correspondence.specs.Premises.{IsUnhindered}
use Rattle.accepted_files.specs.Premises.{IsProjectionOf}

-- so do the endpoints of the service started twice
abbrev pub ServiceTwiceIsProjection : Type 0
ServiceTwiceIsProjection =
    (tree : IsClosedTree (nodes_of source)) (kept : FileIsKept) (code : IsClosed nodes) (inside : AreInside nodes [] services processes) (numbered : AreKept)
    → (sets : NameId → ParameterSets) × (lists : ListedHolders) × IsProjectionOf (endpoints code inside numbered) (file tree kept) sets lists

-- nobody waits in vain in it: it asks no host function, and its channel has an active role
abbrev pub ServiceTwiceIsUnhindered : Type 0
ServiceTwiceIsUnhindered =
    (tree : IsClosedTree (nodes_of source)) (kept : FileIsKept) (code : IsClosed nodes) (inside : AreInside nodes [] services processes) (numbered : AreKept)
    → (hosts : Hosts) (cap : Option ℕ) → has_room cap [] ≡ true → IsUnhindered (endpoints code inside numbered) (file tree kept) hosts cap
