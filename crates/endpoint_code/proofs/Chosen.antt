-- What a process chooses to make is a step of the network.
use Rattle.std.proofs.Common.{◌≡◌, ℕ, suc, List, Option, Some, None, ℤ, refl}
use Rattle.std.specs.Prelude.{slice_get}
use Rattle.chor_base.specs.declared.names.NameId.{NameId}
use Rattle.chor_base.specs.declared.event.Event.{Event}
use Rattle.chor_base.specs.Meaning.{Hosts}
use Rattle.endpoint_code.specs.declared.code.CodeNode.{CodeNode}
use Rattle.endpoint_code.specs.declared.code.CodeNode.TheVariants.{Join, Send, Recv, Pick, Branch, Throw, Catch, Set, Show, Host, If, Call, End}
use Rattle.endpoint_code.specs.declared.endpoints.Channel.{Channel}
use Rattle.endpoint_code.specs.declared.endpoints.Endpoints.{Endpoints}
use Rattle.endpoint_code.specs.Network.{NetworkState, Place, Sessions, Makes, place_at, channel_of, MachineAnswers, NetworkSteps, acts, begins}
use Rattle.endpoint_code.specs.Scheduled.{partners, started, started_on, chosen_at, Chooses, IsScheduled, closed, goes, Close}
use Rattle.endpoint_code.specs.NetworkRuns.{NetworkLeads}

module _ (e : Endpoints) (hosts : Hosts) (cap : Option ℕ) (n : NetworkState) (p : ℕ) (x : Event) (m : NetworkState) where
  partners_start : (c : NameId) (o : Option (List ℕ)) → started e n c o ≡ Some (Makes x m) → NetworkSteps e hosts cap n x m
  partners_start c None h = absurd cc
  partners_start c (Some ps) h = begins c ps h

  channel_starts : (c r : NameId) (o : Option Channel) → started_on e n p c r o ≡ Some (Makes x m) → NetworkSteps e hosts cap n x m
  channel_starts c r None h = absurd cc
  channel_starts c r (Some k) h = partners_start c (partners e n.machines c p r k.active) h

  place_steps : (v : ℤ) → MachineAnswers hosts e (slice_get n.machines p) v → (o : Option Place) → chosen_at e cap n p v o ≡ Some (Makes x m) → NetworkSteps e hosts cap n x m
  place_steps v a None h = absurd cc
  place_steps v a (Some q) h = node_steps q.node q.sessions h
    where
      node_steps : (w : CodeNode) (ss : Sessions) → chosen_at e cap n p v (Some (record { node = w; sessions = ss })) ≡ Some (Makes x m) → NetworkSteps e hosts cap n x m
      node_steps (Join c r k next) ss i = channel_starts c r (channel_of e.channels c) i
      node_steps (Send k b g next) ss i = acts p v a i
      node_steps (Recv k b g next) ss i = acts p v a i
      node_steps (Pick k b g next) ss i = acts p v a i
      node_steps (Branch k b arms) ss i = acts p v a i
      node_steps (Throw k b g next) ss i = acts p v a i
      node_steps (Catch k b g next) ss i = acts p v a i
      node_steps (Set y g next) ss i = acts p v a i
      node_steps (Show g next) ss i = acts p v a i
      node_steps (Host y f g w next) ss i = acts p v a i
      node_steps (If g c d) ss i = acts p v a i
      node_steps (Call f q ks) ss i = acts p v a i
      node_steps End ss i = acts p v a i

  pub chooses_steps : Chooses e hosts cap n p x m → NetworkSteps e hosts cap n x m
  chooses_steps c = place_steps c.answer c.allowed (place_at e (slice_get n.machines p)) c.made

-- A scheduled run is a run
pub scheduled_leads : (e : Endpoints) (hosts : Hosts) (cap : Option ℕ) (seed steps : ℕ) (h : List Event) (n last : NetworkState) (events : ℕ) (close : Close)
    → IsScheduled e hosts cap seed steps n events h last close → NetworkLeads e hosts cap n h last
scheduled_leads e hosts cap seed steps h n last events close (closed c) = refl
scheduled_leads e hosts cap seed steps h n last events close (goes {m = m} {p = p} {x = x} {xs = xs} a b picks chooses rest) =
    (m, chooses_steps e hosts cap n p x m chooses, scheduled_leads e hosts cap seed steps xs m last (suc events) close rest)
