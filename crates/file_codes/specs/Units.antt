-- The procedures and processes of a file with their codes.
use Rattle.std.specs.Prelude.{◌≡◌, List, map}
use Rattle.std.specs.List.{AllZip, All, flat_map}
use Rattle.chor_base.specs.declared.names.NameId.{NameId}
use Rattle.chor_tree.specs.declared.file.File.{File}
use Rattle.chor_tree.specs.declared.file.Proc.{Proc}
use Rattle.chor_tree.specs.declared.file.ProcParam.{ProcParam}
use Rattle.chor_tree.specs.Source.{body_of}
use Rattle.endpoint_code.specs.declared.code.CodeNode.{CodeNode}
use Rattle.endpoint_code.specs.declared.endpoints.Procedure.{Procedure}
use Rattle.endpoint_code.specs.declared.endpoints.Process.{Process}
use Rattle.branch_merge.specs.Merged.{Keeps}
use Rattle.projection.specs.Codes.{sessions_for}
use Rattle.projection.specs.Projects.{body_at, parameters_of}
use Rattle.projection.specs.Making.{HasCode, IsProcessIn}
use Rattle.projection.specs.MergeFaults.{Site, sites_in, sites_of, HasClash}
use Rattle.block_codes.specs.declared.coded.Coded.{Coded}
use Rattle.file_codes.specs.declared.units.Units.{Units}

abbrev pub params_of : List ProcParam → List NameId
params_of ps = map (λ p. p.name.name) ps

-- the endpoint procedure of a parameter with its code
abbrev pub procedure_from : Proc → Coded → Procedure
procedure_from h x = record { name = h.name.name; param = x.process; sessions = sessions_for x.process h.sessions; body = x.code }

abbrev pub process_from : Coded → Process
process_from x = record { name = x.process; body = x.code }

-- the sites in these procedures
abbrev pub sites_in_procs : File → List Proc → List Site
sites_in_procs f hs = flat_map (λ h. sites_in (params_of h.params) (body_of f h.body)) hs

-- the endpoint procedure of a parameter, whose code stands in the table
pub record IsProcedureIn (f : File) (nodes : List CodeNode) (h : Proc × ProcParam) (q : Procedure) : Type 0 where
  pub name : q.name ≡ h.0.name.name
  pub param : q.param ≡ h.1.name.name
  pub sessions : q.sessions ≡ sessions_for h.1.name.name h.0.sessions
  pub body : HasCode f h.1.name.name (body_at f h.0.body) nodes q.body

-- these procedures have endpoint procedures, one for each parameter, and no site in them has a clash; old nodes stay
pub record AreProcedures (f : File) (hs : List Proc) (old new : List CodeNode) (qs : List Procedure) : Type 0 where
  pub kept : Keeps old new
  pub each : AllZip (IsProcedureIn f new) (parameters_of hs) qs
  pub clean : All (λ s. HasClash f s → ⊥) (sites_in_procs f hs)

-- the units of the file, one for one; no site has a clash
pub record AreUnits (f : File) (u : Units) : Type 0 where
  pub procedures : AllZip (IsProcedureIn f u.code.nodes) (parameters_of f.procs) u.procedures
  pub processes : AllZip (IsProcessIn f u.code.nodes) f.processes u.processes
  pub clean : All (λ s. HasClash f s → ⊥) (sites_of f)
