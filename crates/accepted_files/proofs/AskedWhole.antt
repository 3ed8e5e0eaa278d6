-- The endpoint programs of a file without fault of names ask only host functions that are known.
use Rattle.std.proofs.Common.{◌≡◌, List, [], ◌∷◌, ℕ, map, true, sym, subst}
use Rattle.std.specs.Prelude.{bytes_eq}
use Rattle.std.specs.List.{AllByRecursion, AllZip, list_any}
use Rattle.chor_base.specs.declared.names.NameId.{NameId}
use Rattle.chor_base.specs.declared.fault.Fault.{Fault}
use Rattle.chor_base.specs.Writing.{name_in}
use Rattle.chor_tree.specs.declared.file.File.{File}
use Rattle.chor_tree.specs.declared.file.Named.{Named as Written}
use Rattle.chor_tree.specs.declared.file.Proc.{Proc}
use Rattle.chor_tree.specs.declared.file.ProcParam.{ProcParam}
use Rattle.chor_tree.specs.Names.{IsNameFault}
use Rattle.chor_semantics.specs.Choreography.{Choreography}
use Rattle.endpoint_code.specs.declared.endpoints.Procedure.{Procedure}
use Rattle.endpoint_code.specs.declared.endpoints.ServiceCode.{ServiceCode}
use Rattle.endpoint_code.specs.declared.endpoints.Process.{Process}
use Rattle.endpoint_code.specs.declared.endpoints.Endpoints.{Endpoints}
use Rattle.endpoint_code.specs.Faults.{AsksKnown, is_listed}
use Rattle.endpoint_code.specs.Trees.{code_at}
use Rattle.well_formed.specs.Asked.{AllAsked}
use Rattle.projection.specs.Projects.{body_at, starts_of, parameters_of, service_roles, started_services, IsProcedureOf, IsServiceOf, IsProcessOf, Projects}
use Rattle.endpoint_code.specs.Asked.{AsksTree}
use Rattle.accepted_files.proofs.AskedBodies.{is_known, main_known, procs_known}
use Rattle.accepted_files.proofs.AskedCodes.{Known, code_known}
use Rattle.accepted_files.proofs.AskedServices.{each_append, all_started, service_known}

-- ---- lists

-- what the items of one list and what they are make of those of the other
zip_all : {A B : Type 0} (R : A → B → Type 0) (Q : A → Type 0) (P : B → Type 0) (xs : List A) (ys : List B) → AllZip R xs ys → AllByRecursion Q xs → ((x : A) (y : B) → R x y → Q x → P y) → AllByRecursion P ys
zip_all R Q P [] [] z q more = tt
zip_all R Q P [] (y ∷ ys) z q more = absurd z
zip_all R Q P (x ∷ xs) [] z q more = absurd z
zip_all R Q P (x ∷ xs) (y ∷ ys) z q more = (more x y z.0 q.0, zip_all R Q P xs ys z.1 q.1 more)

-- what the items of one list alone make of those of the other
zip_each : {A B : Type 0} (R : A → B → Type 0) (P : B → Type 0) (xs : List A) (ys : List B) → AllZip R xs ys → ((x : A) (y : B) → R x y → P y) → AllByRecursion P ys
zip_each R P [] [] z more = tt
zip_each R P [] (y ∷ ys) z more = absurd z
zip_each R P (x ∷ xs) [] z more = absurd z
zip_each R P (x ∷ xs) (y ∷ ys) z more = (more x y z.0, zip_each R P xs ys z.1 more)

-- what holds of a procedure, for each of its parameters
with_params : (P : Proc → Type 0) (h : Proc) (ps : List ProcParam) → P h → AllByRecursion (λ (z : Proc × ProcParam). P z.0) (map (λ p. (h, p)) ps)
with_params P h [] w = tt
with_params P h (p ∷ ps) w = (w, with_params P h ps w)

params_all : (P : Proc → Type 0) (hs : List Proc) → AllByRecursion P hs → AllByRecursion (λ (z : Proc × ProcParam). P z.0) (parameters_of hs)
params_all P [] w = tt
params_all P (h ∷ hs) w = each_append (λ (z : Proc × ProcParam). P z.0) (map (λ p. (h, p)) h.params) (parameters_of hs) (with_params P h h.params w.0) (params_all P hs w.1)

each_so : {A : Type 0} (P Q : A → Type 0) (xs : List A) → ((x : A) → P x → Q x) → AllByRecursion P xs → AllByRecursion Q xs
each_so P Q [] f h = tt
each_so P Q (x ∷ xs) f h = (f x h.0, each_so P Q xs f h.1)

module _ (f : File) (words : List (List ℕ)) (clean : (x : Fault) → IsNameFault f words x → ⊥) (e : Endpoints) (pr : Projects f e) where
  -- the file and its projection have the same names
  same_known : (c : Choreography) → Known (is_known f words) c → Known (is_listed words e) c
  same_known c h = subst (λ (ns : List (List ℕ)). AllAsked (λ x. list_any (bytes_eq (name_in ns x)) words ≡ true) c) (sym pr.names) h

  body : Known (is_listed words e) (body_at f f.body)
  body = same_known (body_at f f.body) (main_known f words clean)

  bodies : AllByRecursion (λ h. Known (is_listed words e) (body_at f h.body)) f.procs
  bodies = each_so (λ h. Known (is_known f words) (body_at f h.body)) (λ h. Known (is_listed words e) (body_at f h.body)) f.procs (λ h w. same_known (body_at f h.body) w) (procs_known f words clean)

  procedure_asks : (z : Proc × ProcParam) (q : Procedure) → IsProcedureOf f e z q → Known (is_listed words e) (body_at f z.0.body) → AsksTree (is_listed words e) (code_at e.code.nodes q.body)
  procedure_asks z q h w = code_known (is_listed words e) f.procs z.1.name.name (body_at f z.0.body) _ h.body w

  service_asks : (a : NameId × NameId) (s : ServiceCode) → IsServiceOf f e a s → AsksTree (is_listed words e) (code_at e.code.nodes s.body)
  service_asks a s h = service_known (is_listed words e) f.procs a.0 a.1 (starts_of f a.0) _ (all_started (is_listed words e) f a.0 bodies body) h.body

  process_asks : (x : Written) (p : Process) → IsProcessOf f e x p → AsksTree (is_listed words e) (code_at e.code.nodes p.body)
  process_asks x p h = code_known (is_listed words e) f.procs x.name (body_at f f.body) _ h.body body

  -- Each body of the projection asks only known host functions
  pub bodies_known : AsksKnown (is_listed words e) e
  bodies_known = record {
    procedures =
        zip_all (IsProcedureOf f e) (λ (z : Proc × ProcParam). Known (is_listed words e) (body_at f z.0.body)) (λ p. AsksTree (is_listed words e) (code_at e.code.nodes p.body)) (parameters_of f.procs) e.procedures
        pr.procedures (params_all (λ h. Known (is_listed words e) (body_at f h.body)) f.procs bodies) procedure_asks;
    services = zip_each (IsServiceOf f e) (λ s. AsksTree (is_listed words e) (code_at e.code.nodes s.body)) (service_roles (started_services f)) e.services pr.services service_asks;
    processes = zip_each (IsProcessOf f e) (λ p. AsksTree (is_listed words e) (code_at e.code.nodes p.body)) f.processes e.processes pr.processes process_asks;
  }
