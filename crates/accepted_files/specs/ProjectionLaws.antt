-- What is proved of projections: their code follows, and the network runs as the choreography does.
use Rattle.std.specs.Prelude.{ℕ, ◌≡◌, List, Option, Some, slice_get}
use Rattle.chor_base.specs.declared.names.NameId.{NameId}
use Rattle.chor_base.specs.declared.event.Event.{Event}
use Rattle.chor_base.specs.Meaning.{Hosts}
use Rattle.chor_tree.specs.declared.file.File.{File}
use Rattle.chor_semantics.specs.Choreography.{Ref, Live, Choreography}
use Rattle.chor_semantics.specs.Sources.{Procedure, procedures_of, first_configuration}
use Rattle.chor_semantics.specs.Steps.{procedure_named, body_of}
use Rattle.chor_semantics.specs.Runs.{IsRun}
use Rattle.endpoint_code.specs.declared.code.CodeId.{CodeId}
use Rattle.endpoint_code.specs.declared.code.CodeNode.TheVariants.{Call}
use Rattle.endpoint_code.specs.declared.endpoints.Procedure.{Procedure as ProcedureCode}
use Rattle.endpoint_code.specs.declared.endpoints.Process.{Process}
use Rattle.endpoint_code.specs.declared.endpoints.Endpoints.{Endpoints}
use Rattle.endpoint_code.specs.Network.{NetworkState, procedure_of, node_at}
use Rattle.endpoint_code.specs.NetworkRuns.{IsNetworkRun}
use Rattle.well_formed.specs.Follows.{SessionMap, passed, Follows, IsEqualUpToPruning}
use Rattle.well_formed.specs.WellFormed.{Scope, CallFits}
use Rattle.well_formed.specs.Linear.{ParameterSets}
use Rattle.well_formed.specs.Holders.{ListedHolders}
use Rattle.correspondence.specs.Services.{ServicesFollow}
use Rattle.correspondence.specs.Premises.{Realizes, IsUnhindered}
use Rattle.correspondence.specs.Laws.{CannotStep, HasEndedEmpty}
use Rattle.accepted_files.specs.Premises.{IsProjectionOf}

-- ---- following

-- the code of each process of main follows main
abbrev pub MainFollows : Type 0
MainFollows =
    (e : Endpoints) (f : File) (sets : NameId → ParameterSets) (lists : ListedHolders) → IsProjectionOf e f sets lists
    → (p : ℕ) (q : Process) (m : SessionMap) → slice_get e.processes p ≡ Some q → IsEqualUpToPruning e (procedures_of f) (Live p) (first_configuration f).tree q.body m

-- the code of each service follows what stands after each start in main
abbrev pub MainServicesFollow : Type 0
MainServicesFollow =
    (e : Endpoints) (f : File) (sets : NameId → ParameterSets) (lists : ListedHolders) → IsProjectionOf e f sets lists
    → ServicesFollow e (procedures_of f) (first_configuration f).tree

-- and what stands after each start in the body of a call
abbrev pub BodyServicesFollow : Type 0
BodyServicesFollow =
    (e : Endpoints) (f : File) (sets : NameId → ParameterSets) (lists : ListedHolders) → IsProjectionOf e f sets lists
    → (sc : Scope) (h : NameId) (d : ℕ) (ps ss : List Ref) (c : Choreography) → body_of (procedure_named (procedures_of f) h) d ps ss ≡ Some c → CallFits (procedures_of f) sc h d ps ss
    → ServicesFollow e (procedures_of f) c

-- where code stands at a call whose body follows, it follows itself, with the same fuel
abbrev pub CallFollows : Type 0
CallFollows =
    (e : Endpoints) (procs : List Procedure) (r : Ref) (h p : NameId) (ss : List NameId) (u : ProcedureCode) (q : CodeId) (m : SessionMap) (n : ℕ) (c : Choreography)
    → procedure_of e.procedures h p ≡ Some u → node_at e q ≡ Some (Call h p ss) → Follows e procs n r c u.body (passed u.sessions ss m) → Follows e procs n r c q m

-- ---- runs

-- a projection meets the premises of the correspondence
abbrev pub ProjectionRealizes : Type 0
ProjectionRealizes = (e : Endpoints) (f : File) (sets : NameId → ParameterSets) (lists : ListedHolders) → IsProjectionOf e f sets lists → Realizes e f sets lists

-- each run of its network is a run of the choreography with the same events, under the same capacity
abbrev pub ProjectionRunsAreRuns : Type 0
ProjectionRunsAreRuns =
    (e : Endpoints) (f : File) (sets : NameId → ParameterSets) (lists : ListedHolders) → IsProjectionOf e f sets lists
    → (hosts : Hosts) (cap : Option ℕ) (h : List Event) (last : NetworkState) → IsNetworkRun e hosts cap h last → IsRun f hosts cap h

-- and each run of the choreography is one of its network
abbrev pub RunsAreProjectionRuns : Type 0
RunsAreProjectionRuns =
    (e : Endpoints) (f : File) (sets : NameId → ParameterSets) (lists : ListedHolders) → IsProjectionOf e f sets lists
    → (hosts : Hosts) (cap : Option ℕ) (h : List Event) → IsRun f hosts cap h → (last : NetworkState) × IsNetworkRun e hosts cap h last

-- its network, once it was reached and nothing can happen in it, has ended
abbrev pub ProjectionNeverStuck : Type 0
ProjectionNeverStuck =
    (e : Endpoints) (f : File) (sets : NameId → ParameterSets) (lists : ListedHolders) → IsProjectionOf e f sets lists
    → (hosts : Hosts) (cap : Option ℕ) → IsUnhindered e f hosts cap → (h : List Event) (n : NetworkState) → IsNetworkRun e hosts cap h n → CannotStep e hosts cap n → HasEndedEmpty e n
