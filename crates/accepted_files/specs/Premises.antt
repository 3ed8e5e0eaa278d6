-- What is asked of a file, beside that the endpoints are its projection.
use Rattle.std.specs.Prelude.{ℕ, ◌≡◌, ◌==◌, ◌≤◌, true, false, [], length, map, Some, None, slice_get}
use Rattle.std.specs.List.{AllByRecursion}
use Rattle.chor_base.specs.declared.names.NameId.{NameId}
use Rattle.chor_tree.specs.declared.file.File.{File}
use Rattle.chor_tree.specs.declared.file.Named.{Named as Written}
use Rattle.chor_tree.specs.declared.file.Proc.{Proc}
use Rattle.chor_semantics.specs.Choreography.{Named, among, Starts, Communicates, InTransit, Alone, Choreography, Then, Either, Calls, Ends}
use Rattle.chor_semantics.specs.Sources.{procedures_of}
use Rattle.endpoint_code.specs.declared.endpoints.Channel.{Channel}
use Rattle.endpoint_code.specs.declared.endpoints.Endpoints.{Endpoints}
use Rattle.endpoint_code.specs.Network.{channel_of}
use Rattle.projection.specs.Codes.{proc_named}
use Rattle.projection.specs.Projects.{parameters_of, body_at, Projects}
use Rattle.well_formed.specs.WellFormed.{AreDistinctRoles, AreDistinctRefs, IsWellFormed, names_in_scope, declared_scope, AllFit}
use Rattle.well_formed.specs.Guarded.{IsGuardedFor}
use Rattle.well_formed.specs.Linear.{ParameterSets, everyone, IsLinear, AllLinear}
use Rattle.well_formed.specs.Holders.{ListedHolders, ListsFit, HoldersFit, AllHoldersFit}
use Rattle.accepted_files.specs.PlayedRoles.{has_name, params_of, sessions_of, roles_of, HoldsRoles, ServicesHold}

-- each parameter of each procedure holds the roles that it plays, beginning with those for which it is listed
abbrev pub ProceduresHold : File → Type 0
ProceduresHold f = (h p : NameId) (x : Proc) → proc_named f.procs h ≡ Some x → has_name p (params_of x) ≡ true → HoldsRoles f.procs p (body_at f x.body) (roles_of p x.sessions)

-- so does each process of main, beginning with none
abbrev pub MainHolds : File → Type 0
MainHolds f = (p : ℕ) (w : Written) → slice_get f.processes p ≡ Some w → HoldsRoles f.procs w.name (body_at f f.body) (λ y. None)

-- so do the services that procedures start
abbrev pub AllServicesHold : File → Type 0
AllServicesHold f = (h : NameId) (x : Proc) → proc_named f.procs h ≡ Some x → ServicesHold f.procs (body_at f x.body)

-- everybody holds the roles that it plays
pub record HoldsItsRoles (f : File) : Type 0 where
  pub procedures : ProceduresHold f
  pub main : MainHolds f
  pub starts : ServicesHold f.procs (body_at f f.body)
  pub procedure_starts : AllServicesHold f

-- each parameter of each procedure is guarded in the procedure's body
abbrev pub EachGuarded : File → Type 0
EachGuarded f = AllByRecursion (λ z. IsGuardedFor (Named z.1.name.name.0 0) (body_at f z.0.body)) (parameters_of f.procs)

-- no start binds a session with the number a
abbrev pub BindsNo : ℕ → Choreography → Type 0
BindsNo a (Then (Starts c e h act srv) rest) = ((h == a) ≡ false) × BindsNo a rest
BindsNo a (Then (Communicates u p x q y v) rest) = BindsNo a rest
BindsNo a (Then (InTransit u x y m q) rest) = BindsNo a rest
BindsNo a (Then (Alone p o) rest) = BindsNo a rest
BindsNo a (Either p x c d) = BindsNo a c × BindsNo a d
BindsNo a (Calls f d ps ss) = Unit {0}
BindsNo a Ends = Unit {0}

-- what is asked of procedures
pub record ProceduresChecked (e : Endpoints) (f : File) (sets : NameId → ParameterSets) (lists : ListedHolders) : Type 0 where
  -- they are well formed
  pub fit : AllFit e.channels (procedures_of f)
  -- each parameter is guarded
  pub guarded : EachGuarded f
  -- each channel with two or more active roles is linear in them
  pub linear : (a : NameId) (k : Channel) → channel_of e.channels a ≡ Some k → 2 ≤ length k.active → AllLinear a (sets a) (procedures_of f)
  -- no channel has an active role twice
  pub roles : (a : NameId) (k : Channel) → channel_of e.channels a ≡ Some k → AreDistinctRoles k.active
  -- nor a service role
  pub serve_roles : (a : NameId) (k : Channel) → channel_of e.channels a ≡ Some k → AreDistinctRoles k.serve
  -- no session has a channel's name
  pub other_names : (a : NameId) (k : Channel) → channel_of e.channels a ≡ Some k → (h : NameId) (x : Proc) → proc_named f.procs h ≡ Some x → (among (Named a.0 0) (names_in_scope (sessions_of x)) ≡ false) × BindsNo a.0 (body_at f x.body)
  -- the listed holders are parameters
  pub lists_fit : ListsFit lists (procedures_of f)
  -- whoever uses a role in a body is its holder
  pub holders_fit : AllHoldersFit lists (procedures_of f)

-- what is asked of main
pub record MainChecked (e : Endpoints) (f : File) (sets : NameId → ParameterSets) (lists : ListedHolders) : Type 0 where
  -- it is well formed in the scope of its processes
  pub fit : IsWellFormed e.channels (procedures_of f) (declared_scope (map (λ p. p.name) f.processes) []) (body_at f f.body)
  -- no process is declared twice
  pub apart : AreDistinctRefs (names_in_scope (map (λ p. p.name) f.processes))
  -- each channel with two or more active roles is linear in it
  pub linear : (a : NameId) (k : Channel) → channel_of e.channels a ≡ Some k → 2 ≤ length k.active → IsLinear a (sets a) everyone (body_at f f.body)
  -- whoever uses a role is its holder, where nobody holds one at first
  pub holders_fit : (y : ℕ) (r : NameId) → HoldersFit lists (Named y 0) r (body_at f f.body) None
  -- no session has a channel's name
  pub other_names : (a : NameId) (k : Channel) → channel_of e.channels a ≡ Some k → BindsNo a.0 (body_at f f.body)

-- the endpoints are the projection of a file that keeps all this
pub record IsProjectionOf (e : Endpoints) (f : File) (sets : NameId → ParameterSets) (lists : ListedHolders) : Type 0 where
  pub projects : Projects f e
  pub roles : HoldsItsRoles f
  pub procedures : ProceduresChecked e f sets lists
  pub main : MainChecked e f sets lists
