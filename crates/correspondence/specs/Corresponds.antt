-- The correspondence between a choreography that runs and the network of its endpoints.
use Rattle.std.specs.Prelude.{ℕ, ◌≡◌, ◌≤◌, List, [], length, map, Option, Some, None, slice_get}
use Rattle.std.specs.FinMap as fin
use Rattle.chor_base.specs.declared.names.NameId.{NameId}
use Rattle.chor_base.specs.Events.{Triple}
use Rattle.chor_semantics.specs.Choreography.{Ref, Live}
use Rattle.chor_semantics.specs.Sources.{Procedure, Configuration}
use Rattle.endpoint_code.specs.declared.endpoints.Channel.{Channel}
use Rattle.endpoint_code.specs.declared.endpoints.Endpoints.{Endpoints}
use Rattle.endpoint_code.specs.Network.{Machine, NetworkState, Sessions, queue_of, channel_of}
use Rattle.well_formed.specs.Follows.{SessionMap, IsEqualUpToPruning}
use Rattle.well_formed.specs.WellFormed.{IsWellFormed, ArePlain, Scope}
use Rattle.well_formed.specs.Linear.{ParameterSets, IsLinear, everyone}
use Rattle.well_formed.specs.Holders.{ListedHolders, HoldersFit, HolderIn}
use Rattle.well_formed.specs.Transit.{AreInTransit}
use Rattle.correspondence.specs.Services.{ServicesFollow}

-- what a process's session name stands for, as following asks it
abbrev pub live_session : Option (ℕ × NameId) → Option (Ref × NameId)
live_session None = None
live_session (Some (s, r)) = Some (Live s, r)

-- what all its session names stand for
abbrev pub session_map : Sessions → SessionMap
session_map m = λ y. live_session (fin.get m y)

-- the scope of a choreography that runs: the processes and sessions that there are by now, and no names
abbrev pub live_scope : Configuration → Scope
live_scope c = record { pid = length c.vars; processes = []; sid = c.sid; sessions = [] }

-- a configuration and a network state correspond, where the endpoints are e, the procedures procs, and sets and lists
-- say which parameters depend on a channel's last start and which hold a role
pub record Corresponds (e : Endpoints) (procs : List Procedure) (sets : NameId → ParameterSets) (lists : ListedHolders) (c : Configuration) (n : NetworkState) : Type 0 where
  -- each process has the same variables in both
  pub vars : map (λ m. m.vars) n.machines ≡ c.vars
  -- the next session has the same number
  pub sid : n.sid ≡ c.sid
  -- the code of each process follows the choreography, where its session names stand for what they do in the network
  pub follows : (p : ℕ) (m : Machine) → slice_get n.machines p ≡ Some m → IsEqualUpToPruning e procs (Live p) c.tree m.at (session_map m.sessions)
  -- at each start to come, the code of each service follows what stands after it
  pub services : ServicesFollow e procs c.tree
  -- the messages in transit are those in the queues, in their order
  pub in_transit : (t : Triple) → AreInTransit t c.tree (queue_of n t)
  -- each role of each session has one holder at most, which is a live process
  pub holders : Ref → NameId → Option Ref
  pub holders_in : (u : Ref) (r : NameId) → HolderIn (live_scope c) (holders u r)
  -- whoever uses a role is its holder then
  pub holders_fit : (u : Ref) (r : NameId) → HoldersFit lists u r c.tree (holders u r)
  -- each channel with two or more active roles is linear
  pub linear : (a : NameId) (k : Channel) → channel_of e.channels a ≡ Some k → 2 ≤ length k.active → IsLinear a (sets a) everyone c.tree
  -- the choreography is well formed
  pub well_formed : IsWellFormed e.channels procs (live_scope c) c.tree
  -- no variable has an endpoint as its value
  pub plain : (p : ℕ) (m : Machine) → slice_get n.machines p ≡ Some m → ArePlain m.vars
