-- Each run of the choreography is a run of the network, where each event has room.
use Rattle.std.proofs.Common.{ℕ, List, [], ◌∷◌, Option, None, refl, subst}
use Rattle.chor_base.specs.declared.names.NameId.{NameId}
use Rattle.chor_base.specs.declared.event.Event.{Event}
use Rattle.chor_base.specs.declared.event.Event.TheVariants as event
use Rattle.chor_base.specs.Meaning.{Hosts}
use Rattle.chor_semantics.specs.Sources.{Procedure, Configuration}
use Rattle.chor_semantics.specs.Steps.{Steps}
use Rattle.chor_semantics.specs.Runs.{Leads}
use Rattle.endpoint_code.specs.declared.endpoints.Endpoints.{Endpoints}
use Rattle.endpoint_code.specs.Network.{NetworkState, NetworkSteps}
use Rattle.endpoint_code.specs.NetworkRuns.{NetworkLeads}
use Rattle.well_formed.specs.Linear.{ParameterSets}
use Rattle.well_formed.specs.Holders.{ListedHolders}
use Rattle.correspondence.proofs.Bodies.{Bodies}
use Rattle.correspondence.specs.Corresponds.{Corresponds}
use Rattle.correspondence.proofs.Renamed.{BodiesRenamed}
use Rattle.correspondence.proofs.ToNetwork.{acts_both}
use Rattle.correspondence.proofs.StartingBack.{begins_both}
use Rattle.correspondence.specs.Premises.{NoCallFirst, HasRoomFor}

-- each event of the run has room, in the state in which it is made
abbrev pub HasRoom : Endpoints → Hosts → Option ℕ → NetworkState → List Event → Type 0
HasRoom e hosts cap n [] = Unit {0}
HasRoom e hosts cap n (x ∷ xs) = HasRoomFor cap n x × ((m : NetworkState) → NetworkSteps e hosts cap n x m → HasRoom e hosts cap m xs)

module _ (e : Endpoints) (procs : List Procedure) (sets : NameId → ParameterSets) (lists : ListedHolders) (hosts : Hosts) (bd : Bodies e procs sets lists) (renamed : BodiesRenamed e.channels procs) (no_call : NoCallFirst e) where
  pub record Back (cap : Option ℕ) (n : NetworkState) (x : Event) (c' : Configuration) : Type 0 where
    pub after : NetworkState
    pub steps : NetworkSteps e hosts cap n x after
    pub corresponds : Corresponds e procs sets lists c' after

  pub steps_back : (cap : Option ℕ) (c c' : Configuration) (n : NetworkState) (x : Event) → Corresponds e procs sets lists c n → Steps procs hosts c x c' → HasRoomFor cap n x → Back cap n x c'
  steps_back cap c c' n (event.Start a s parts) co st room = let b = begins_both e procs sets lists hosts bd renamed no_call c n co a s parts c' st in record { after = b.after; steps = b.steps cap; corresponds = b.corresponds }
  steps_back cap c c' n (event.Send p s a b l) co st room = let d = acts_both e procs sets lists hosts bd no_call cap c n co (event.Send p s a b l) tt c' st room in record { after = d.after; steps = d.steps; corresponds = d.corresponds }
  steps_back cap c c' n (event.Recv p s a b l) co st room = let d = acts_both e procs sets lists hosts bd no_call cap c n co (event.Recv p s a b l) tt c' st room in record { after = d.after; steps = d.steps; corresponds = d.corresponds }
  steps_back cap c c' n (event.Test p b) co st room = let d = acts_both e procs sets lists hosts bd no_call cap c n co (event.Test p b) tt c' st room in record { after = d.after; steps = d.steps; corresponds = d.corresponds }
  steps_back cap c c' n (event.Set p y v) co st room = let d = acts_both e procs sets lists hosts bd no_call cap c n co (event.Set p y v) tt c' st room in record { after = d.after; steps = d.steps; corresponds = d.corresponds }
  steps_back cap c c' n (event.Show p v) co st room = let d = acts_both e procs sets lists hosts bd no_call cap c n co (event.Show p v) tt c' st room in record { after = d.after; steps = d.steps; corresponds = d.corresponds }
  steps_back cap c c' n (event.Host p y f v w z) co st room = let d = acts_both e procs sets lists hosts bd no_call cap c n co (event.Host p y f v w z) tt c' st room in record { after = d.after; steps = d.steps; corresponds = d.corresponds }

  pub leads_back : (cap : Option ℕ) (h : List Event) (c d : Configuration) (n : NetworkState) → Corresponds e procs sets lists c n → Leads procs hosts c h d → HasRoom e hosts cap n h → (m : NetworkState) × NetworkLeads e hosts cap n h m × Corresponds e procs sets lists d m
  leads_back cap [] c d n co h room = (n, refl, subst (λ y. Corresponds e procs sets lists y n) h co)
  leads_back cap (x ∷ xs) c d n co (mid, s, rest) room =
      let b = steps_back cap c mid n x co s room.0 in
      let r = leads_back cap xs mid d b.after b.corresponds rest (room.1 b.after b.steps) in
      (r.0, (b.after, b.steps, r.1), r.2)

-- without a capacity there is room
pub always_room : (e : Endpoints) (hosts : Hosts) (h : List Event) (n : NetworkState) → HasRoom e hosts None n h
always_room e hosts [] n = tt
always_room e hosts (x ∷ xs) n = (one x, λ m s. always_room e hosts xs m)
  where
    one : (x : Event) → HasRoomFor None n x
    one (event.Start a s parts) = tt
    one (event.Send p s a b l) = refl
    one (event.Recv p s a b l) = tt
    one (event.Test p b) = tt
    one (event.Set p y v) = tt
    one (event.Show p v) = tt
    one (event.Host p y f v w z) = tt
