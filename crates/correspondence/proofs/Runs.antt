-- Each run of the network is a run of the choreography.
use Rattle.std.proofs.Common.{ℕ, List, [], ◌∷◌, Option, refl, subst}
use Rattle.chor_base.specs.declared.names.NameId.{NameId}
use Rattle.chor_base.specs.declared.event.Event.{Event}
use Rattle.chor_base.specs.Meaning.{Hosts}
use Rattle.chor_semantics.specs.Sources.{Procedure, Configuration}
use Rattle.chor_semantics.specs.Runs.{Leads}
use Rattle.endpoint_code.specs.declared.endpoints.Endpoints.{Endpoints}
use Rattle.endpoint_code.specs.Network.{NetworkState, NetworkSteps, acts, begins}
use Rattle.endpoint_code.specs.NetworkRuns.{NetworkLeads}
use Rattle.well_formed.specs.Linear.{ParameterSets}
use Rattle.well_formed.specs.Holders.{ListedHolders}
use Rattle.correspondence.proofs.Bodies.{Bodies}
use Rattle.correspondence.specs.Corresponds.{Corresponds}
use Rattle.correspondence.proofs.Renamed.{BodiesRenamed}
use Rattle.correspondence.proofs.FromNetwork.{Did}
use Rattle.correspondence.proofs.ByNode.{acts_too}
use Rattle.correspondence.proofs.Starting.{begins_too}

module _ (e : Endpoints) (procs : List Procedure) (sets : NameId → ParameterSets) (lists : ListedHolders) (hosts : Hosts) (bd : Bodies e procs sets lists) (renamed : BodiesRenamed e.channels procs) where
  -- a step of the network, under any capacity, is one of the choreography, and the correspondence holds after
  pub steps_too : (cap : Option ℕ) (c : Configuration) (n m : NetworkState) (x : Event) (co : Corresponds e procs sets lists c n) → NetworkSteps e hosts cap n x m → Did e procs sets lists hosts bd c n co x m
  steps_too cap c n m x co (acts p v an h) = acts_too e procs sets lists hosts bd c n co cap p v x m an h
  steps_too cap c n m x co (begins a ps h) = begins_too e procs sets lists hosts bd renamed c n co a ps x m h

  -- and so are runs
  pub leads_too : (cap : Option ℕ) (h : List Event) (c : Configuration) (n m : NetworkState) → Corresponds e procs sets lists c n → NetworkLeads e hosts cap n h m → (d : Configuration) × Leads procs hosts c h d × Corresponds e procs sets lists d m
  leads_too cap [] c n m co h = (c, refl, subst (Corresponds e procs sets lists c) h co)
  leads_too cap (x ∷ xs) c n m co (mid, s, rest) =
      let d = steps_too cap c n mid x co s in
      let r = leads_too cap xs d.next mid m d.corresponds rest in
      (r.0, (d.next, d.steps, r.1), r.2)
