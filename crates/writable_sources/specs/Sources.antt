-- Sources whose processes have code that an endpoint file can spell within its limits (this project's own).
use Rattle.std.specs.Prelude.{◌<◌, ◌≤◌, ◌+◌, List, length}
use Rattle.std.specs.List.{AllByRecursion}
use Rattle.chor_tree.specs.declared.file.Named.{Named}
use Rattle.chor_tree.specs.declared.file.Service.{Service}
use Rattle.chor_tree.specs.Source.{Procedure, Source}
use Rattle.endpoint_code.specs.declared.endpoints.Endpoints.{Endpoints}
use Rattle.endpoint_laws.specs.Spelled.{IsNamed}
use Rattle.chor_semantics.specs.Blocks.{choreography_of}
use Rattle.writable_sources.specs.Written.{IsWritableIn}

abbrev pub AreNamedThere : Endpoints → List Named → Type 0
AreNamedThere e xs = AllByRecursion (λ x. IsNamed e x.name) xs

-- a service with at least one active role and at most 16 roles
pub record IsWritableService (e : Endpoints) (s : Service) : Type 0 where
  pub name : IsNamed e s.name.name
  pub active : AreNamedThere e s.active
  pub serve : AreNamedThere e s.serve
  pub some : 0 < length s.active
  pub few : length s.active + length s.serve ≤ 16

-- a procedure with at most eight session parameters, and 1,024 statements on a path
pub record IsWritableProcedure (e : Endpoints) (p : Procedure) : Type 0 where
  pub name : IsNamed e p.name.name
  pub params : AllByRecursion (λ q. IsNamed e q.name.name) p.params
  pub sessions : AllByRecursion (λ k. IsNamed e k.name.name) p.sessions
  pub few : length p.sessions ≤ 8
  pub body : IsWritableIn e 1024 (choreography_of p.body)

-- a source with at most 64 processes, and 1,024 statements on a path
pub record IsWritableSource (e : Endpoints) (s : Source) : Type 0 where
  pub services : AllByRecursion (IsWritableService e) s.items.services
  pub procedures : AllByRecursion (IsWritableProcedure e) s.items.procedures
  pub processes : AreNamedThere e s.processes
  pub few : length s.processes ≤ 64
  pub body : IsWritableIn e 1024 (choreography_of s.body)
