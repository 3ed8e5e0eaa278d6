-- What is proved of well-formed choreographies.
use Rattle.std.specs.Prelude.{ℕ, ◌≡◌, List, Some}
use Rattle.chor_base.specs.declared.names.NameId.{NameId}
use Rattle.chor_semantics.specs.Choreography.{Ref, Choreography}
use Rattle.chor_semantics.specs.Sources.{Procedure}
use Rattle.chor_semantics.specs.Steps.{procedure_named, body_of}
use Rattle.endpoint_code.specs.declared.endpoints.Channel.{Channel}
use Rattle.well_formed.specs.WellFormed.{Scope, CallFits, IsWellFormed, AllFit}
use Rattle.well_formed.specs.SourceTrees.{AllSources}

-- where procedures are well formed in the scope of their parameters, the body of a call is well formed in the call's scope
abbrev pub BodiesFit : Type 0
BodiesFit =
    (ks : List Channel) (procs : List Procedure) → AllSources procs → AllFit ks procs
    → (sc : Scope) (f : NameId) (d : ℕ) (ps ss : List Ref) (c : Choreography) → body_of (procedure_named procs f) d ps ss ≡ Some c → CallFits procs sc f d ps ss
    → IsWellFormed ks procs sc c
