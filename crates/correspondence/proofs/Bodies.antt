-- What holds of the bodies of calls, with their arguments.
use Rattle.std.specs.Prelude.{ℕ, ◌≡◌, ◌≤◌, true, false, List, [], length, Option, Some}
use Rattle.chor_base.specs.declared.names.NameId.{NameId}
use Rattle.chor_base.specs.Events.{Triple}
use Rattle.chor_semantics.specs.Choreography.{Ref, Live, among, Choreography}
use Rattle.chor_semantics.specs.Sources.{Procedure}
use Rattle.chor_semantics.specs.Steps.{procedure_named, body_of}
use Rattle.endpoint_code.specs.declared.endpoints.Channel.{Channel}
use Rattle.endpoint_code.specs.declared.endpoints.Endpoints.{Endpoints}
use Rattle.endpoint_code.specs.Network.{channel_of}
use Rattle.well_formed.specs.WellFormed.{Scope, AreDistinctRoles, CallFits, IsWellFormed}
use Rattle.well_formed.specs.Linear.{ParameterSets, given, IsLinear}
use Rattle.well_formed.specs.Guarded.{IsGuardedFor}
use Rattle.well_formed.specs.Holders.{ListedHolders, PassedHeld, HoldersFit}
use Rattle.well_formed.specs.Transit.{AreInTransit}
use Rattle.correspondence.specs.Services.{ServicesFollow}
use Rattle.well_formed.proofs.Absent.{IsNoDeeper, IsAbsent}

-- c is the body of this call
abbrev pub IsBody : List Procedure → NameId → ℕ → List Ref → List Ref → Choreography → Type 0
IsBody procs f d ps ss c = body_of (procedure_named procs f) d ps ss ≡ Some c

-- what the bodies of calls keep
pub record Bodies (e : Endpoints) (procs : List Procedure) (sets : NameId → ParameterSets) (lists : ListedHolders) : Type 0 where
  pub fit : (sc : Scope) (f : NameId) (d : ℕ) (ps ss : List Ref) (c : Choreography) → IsBody procs f d ps ss c → CallFits procs sc f d ps ss → IsWellFormed e.channels procs sc c
  pub outside : (sc : Scope) (p : Ref) (f : NameId) (d : ℕ) (ps ss : List Ref) (c : Choreography) → IsBody procs f d ps ss c → CallFits procs sc f d ps ss → among p ps ≡ false → IsNoDeeper d p → IsAbsent p c
  pub guarded : (p : ℕ) (f : NameId) (d : ℕ) (ps ss : List Ref) (c : Choreography) → IsBody procs f d ps ss c → among (Live p) ps ≡ true → IsGuardedFor (Live p) c
  pub empty : (t : Triple) (f : NameId) (d : ℕ) (ps ss : List Ref) (c : Choreography) → IsBody procs f d ps ss c → AreInTransit t c []
  pub holders_fit : (sc : Scope) (u : Ref) (r : NameId) (o : Option Ref) (f : NameId) (d : ℕ) (ps ss : List Ref) (c : Choreography) → IsBody procs f d ps ss c → CallFits procs sc f d ps ss → PassedHeld (lists f) u r o ps 0 ss → HoldersFit lists u r c o
  pub services : (sc : Scope) (f : NameId) (d : ℕ) (ps ss : List Ref) (c : Choreography) → IsBody procs f d ps ss c → CallFits procs sc f d ps ss → ServicesFollow e procs c
  pub linear : (a : NameId) (k : Channel) → channel_of e.channels a ≡ Some k → 2 ≤ length k.active → (sc : Scope) (f : NameId) (d : ℕ) (ps ss : List Ref) (c : Choreography) → IsBody procs f d ps ss c → CallFits procs sc f d ps ss → IsLinear a (sets a) (given (sets a f) 0 ps) c
  -- no channel has an active role twice
  pub roles : (a : NameId) (k : Channel) → channel_of e.channels a ≡ Some k → AreDistinctRoles k.active
