-- The endpoints of a file are its projection.
use Rattle.std.proofs.Common.{◌≡◌, ℕ, true, List, [], ◌∷◌, ◌++◌, length, refl, sym, ap, ◌∙◌, subst}
use Rattle.std.specs.Prelude.{◌<◌, All, map}
use Rattle.std.specs.List.{AllZip, flat_map}
use Rattle.std.proofs.lemmas.Bool.{and_parts}
use Rattle.std.proofs.lemmas.List.{map-append}
use Rattle.chor_base.specs.declared.names.NameId.{NameId}
use Rattle.chor_tree.specs.declared.file.File.{File}
use Rattle.chor_tree.specs.declared.file.Named.{Named as Written}
use Rattle.chor_tree.specs.declared.file.Service.{Service}
use Rattle.endpoint_code.specs.declared.code.CodeNode.{CodeNode}
use Rattle.endpoint_code.specs.declared.endpoints.Endpoints.{Endpoints}
use Rattle.endpoint_code.specs.declared.endpoints.Channel.{Channel}
use Rattle.endpoint_code.specs.declared.endpoints.Procedure.{Procedure}
use Rattle.endpoint_code.specs.declared.endpoints.ServiceCode.{ServiceCode}
use Rattle.endpoint_code.specs.declared.endpoints.Process.{Process}
use Rattle.endpoint_code.specs.Bodies.{AreInside}
use Rattle.endpoint_code.specs.Kept.{has_name, has_text, node_there, AreNumbered}
use Rattle.projection.specs.Projects.{Projects, IsProcedureOf, IsServiceOf, IsProcessOf, parameters_of, service_roles, started_services, channel_from, is_some_start, starts_of}
use Rattle.projection.specs.Making.{IsProcessIn}
use Rattle.projection.specs.MergeFaults.{services_of}
use Rattle.block_codes.proofs.Zips.{zip_weaker, zip_seconds}
use Rattle.service_codes.specs.Services.{IsServiceIn}
use Rattle.file_codes.specs.Units.{IsProcedureIn}
use Rattle.file_codes.proofs.Numbers.{channels_are, processes_are, procedures_are, all_params_there, roles_there, services_are}

-- ---- services

abbrev names_in : Written × Written → NameId × NameId
names_in x = (x.0.name, x.1.name)

module _ (f : File) (e : Endpoints) where
  services_project : (xs : List (Written × Written)) (qs : List ServiceCode) → AllZip (IsServiceIn f e.code.nodes) xs qs → AllZip (IsServiceOf f e) (map names_in xs) qs
  services_project [] [] z = tt
  services_project [] (q ∷ qs) z = absurd z
  services_project (x ∷ xs) [] z = absurd z
  services_project (x ∷ xs) (q ∷ qs) z = (record { channel = z.0.channel; role = z.0.role; body = z.0.code }, services_project xs qs z.1)

roles_named : (ss : List Service) → map names_in (flat_map (λ s. map (λ r. (s.name, r)) s.serve) ss) ≡ service_roles ss
roles_named [] = refl
roles_named (s ∷ ss) = map-append names_in (map (λ r. (s.name, r)) s.serve) (flat_map (λ s. map (λ r. (s.name, r)) s.serve) ss) ∙ (λ i. one s.serve i ++ roles_named ss i)
  where
    one : (rs : List Written) → map names_in (map (λ r. (s.name, r)) rs) ≡ map (λ r. (s.name.name, r.name)) rs
    one [] = refl
    one (r ∷ rs) = ap (λ l. (s.name.name, r.name) ∷ l) (one rs)

-- ---- the whole

module _ (f : File) (nodes : List CodeNode) (procedures : List Procedure) (services : List ServiceCode) (processes : List Process)
    (p : AllZip (IsProcedureIn f nodes) (parameters_of f.procs) procedures) (s : AllZip (IsServiceIn f nodes) (services_of f) services) (q : AllZip (IsProcessIn f nodes) f.processes processes) where
  pub units_inside : AreInside nodes procedures services processes
  units_inside = record {
    in_procedures = zip_seconds (IsProcedureIn f nodes) (λ (x : Procedure). x.body.0 < length nodes) (λ h x i. i.body.inside) (parameters_of f.procs) procedures p;
    in_services = zip_seconds (IsServiceIn f nodes) (λ (x : ServiceCode). x.body.0 < length nodes) (λ h x i. i.inside) (services_of f) services s;
    in_processes = zip_seconds (IsProcessIn f nodes) (λ (x : Process). x.body.0 < length nodes) (λ w x i. i.body.inside) f.processes processes q;
  }

  numbered_by : All (λ o. node_there (has_name f.names) (has_text f.texts) o ≡ true) nodes → AreNumbered f.names f.texts (map channel_from (started_services f)) procedures services processes nodes
  numbered_by there =
      let all = and_parts _ _ f.kept.numbered in
      let front = and_parts _ _ all.0 in
      let procs = and_parts _ _ front.0 in
      let declared = (and_parts _ _ procs.0).1 in
      let n = has_name f.names in
      record {
        in_channels = channels_are n (λ s. is_some_start (starts_of f s.name.name)) f.services declared;
        in_procedures = procedures_are n f nodes (parameters_of f.procs) procedures (all_params_there n f.procs procs.1) p;
        in_services = services_are n f nodes (services_of f) services (roles_there n (λ s. is_some_start (starts_of f s.name.name)) f.services declared) s;
        in_processes = processes_are n f nodes f.processes processes front.1 q;
        in_nodes = there;
      }

  pub units_numbered : (names texts : List (List ℕ)) (channels : List Channel) → names ≡ f.names → texts ≡ f.texts → channels ≡ map channel_from (started_services f)
      → All (λ o. node_there (has_name f.names) (has_text f.texts) o ≡ true) nodes → AreNumbered names texts channels procedures services processes nodes
  units_numbered names texts channels named texted made there =
      subst (λ (ns : List (List ℕ)). AreNumbered ns texts channels procedures services processes nodes) (sym named)
      (subst (λ (ts : List (List ℕ)). AreNumbered f.names ts channels procedures services processes nodes) (sym texted)
      (subst (λ (cs : List Channel). AreNumbered f.names f.texts cs procedures services processes nodes) (sym made)
      (numbered_by there)))

pub projects_units : (f : File) (e : Endpoints) → e.names ≡ f.names → e.texts ≡ f.texts → e.channels ≡ map channel_from (started_services f)
    → AllZip (IsProcedureIn f e.code.nodes) (parameters_of f.procs) e.procedures → AllZip (IsServiceIn f e.code.nodes) (services_of f) e.services → AllZip (IsProcessIn f e.code.nodes) f.processes e.processes → Projects f e
projects_units f e names texts channels procedures services processes = record {
  names = names;
  texts = texts;
  channels = channels;
  procedures =
      zip_weaker (IsProcedureIn f e.code.nodes) (IsProcedureOf f e) (λ h q p. record { name = p.name; param = p.param; sessions = p.sessions; body = p.body.code }) (parameters_of f.procs) e.procedures procedures;
  services = subst (λ (rs : List (NameId × NameId)). AllZip (IsServiceOf f e) rs e.services) (roles_named (started_services f)) (services_project f e (services_of f) e.services services);
  processes = zip_weaker (IsProcessIn f e.code.nodes) (IsProcessOf f e) (λ w q p. record { name = p.name; body = p.body.code }) f.processes e.processes processes;
}
