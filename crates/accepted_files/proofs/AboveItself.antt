-- A projection is, unit by unit, above itself.
use Rattle.std.proofs.Common.{◌<◌, List, [], ◌∷◌, length, refl, sym}
use Rattle.std.specs.Prelude.{All}
use Rattle.std.specs.List.{AllZip}
use Rattle.std.proofs.lemmas.List.Elements.{All-head, All-tail}
use Rattle.std.proofs.lemmas.List.{append-nil}
use Rattle.chor_base.specs.declared.names.NameId.{NameId}
use Rattle.chor_tree.specs.declared.file.File.{File}
use Rattle.chor_tree.specs.declared.file.Named.{Named as Written}
use Rattle.chor_tree.specs.declared.file.Proc.{Proc}
use Rattle.chor_tree.specs.declared.file.ProcParam.{ProcParam}
use Rattle.endpoint_code.specs.declared.code.CodeId.{CodeId}
use Rattle.endpoint_code.specs.declared.endpoints.Procedure.{Procedure}
use Rattle.endpoint_code.specs.declared.endpoints.ServiceCode.{ServiceCode}
use Rattle.endpoint_code.specs.declared.endpoints.Process.{Process}
use Rattle.endpoint_code.specs.declared.endpoints.Endpoints.{Endpoints}
use Rattle.endpoint_code.specs.Covers.{IsCovered}
use Rattle.endpoint_code.specs.Labels.{HasDistinctLabels}
use Rattle.endpoint_code.specs.Trees.{code_at}
use Rattle.endpoint_code.proofs.AboveOrder.{above_self}
use Rattle.projection.specs.Projects.{Projects, IsProcedureOf, IsServiceOf, IsProcessOf, parameters_of, service_roles, started_services, body_at}
use Rattle.endpoint_code.specs.AboveUnits.{IsProcedureAbove, IsServiceAbove, IsProcessAbove}
use Rattle.accepted_files.specs.AboveProjection.{IsAboveProjection}
use Rattle.accepted_files.proofs.Passing.{code_distinct}

-- each item of the second list that a relation holds of is related to itself, where it lies inside
along : {A B : Type 0} (R : A → B → Type 0) (P : B → Type 0) (S : B → B → Type 0) → ((a : A) (b : B) → R a b → P b → S b b) → (xs : List A) (ys : List B) → AllZip R xs ys → All P ys → AllZip S ys ys
along R P S one [] [] z all = tt
along R P S one [] (y ∷ ys) z all = absurd z
along R P S one (x ∷ xs) [] z all = absurd z
along R P S one (x ∷ xs) (y ∷ ys) z all = (one x y z.0 (All-head P y ys all), along R P S one xs ys z.1 (All-tail P y ys all))

module _ (f : File) (e : Endpoints) where
  covers_itself : (q : CodeId) → q.0 < length e.code.nodes → HasDistinctLabels (code_at e.code.nodes q) → IsCovered e e q q
  covers_itself q inside distinct = record { inside = inside; above = above_self (code_at e.code.nodes q); distinct = distinct }

  procedure_above : (z : Proc × ProcParam) (q : Procedure) → IsProcedureOf f e z q → q.body.0 < length e.code.nodes → IsProcedureAbove e e q q
  procedure_above z q is inside = record { name = refl; param = refl; sessions = refl; body = covers_itself q.body inside (code_distinct f.procs z.1.name.name (body_at f z.0.body) (code_at e.code.nodes q.body) is.body) }

  service_above : (a : NameId × NameId) (s : ServiceCode) → IsServiceOf f e a s → s.body.0 < length e.code.nodes → IsServiceAbove e e s s
  service_above a s is inside = record { channel = refl; role = refl; body = covers_itself s.body inside is.body.merged.distinct }

  process_above : (w : Written) (p : Process) → IsProcessOf f e w p → p.body.0 < length e.code.nodes → IsProcessAbove e e p p
  process_above w p is inside = record { name = refl; body = covers_itself p.body inside (code_distinct f.procs w.name (body_at f f.body) (code_at e.code.nodes p.body) is.body) }

  pub projection_above : Projects f e → IsAboveProjection f e
  projection_above pr = record {
    projection = e;
    projects = pr;
    above = record {
      names = ([], sym (append-nil e.names));
      texts = ([], sym (append-nil e.texts));
      channels = refl;
      procedures = along (IsProcedureOf f e) (λ q. q.body.0 < length e.code.nodes) (IsProcedureAbove e e) procedure_above (parameters_of f.procs) e.procedures pr.procedures e.inside.in_procedures;
      services = along (IsServiceOf f e) (λ s. s.body.0 < length e.code.nodes) (IsServiceAbove e e) service_above (service_roles (started_services f)) e.services pr.services e.inside.in_services;
      processes = along (IsProcessOf f e) (λ p. p.body.0 < length e.code.nodes) (IsProcessAbove e e) process_above f.processes e.processes pr.processes e.inside.in_processes;
    };
  }
