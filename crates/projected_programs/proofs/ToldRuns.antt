-- Runs of programs that are read are told.
use Rattle.std.proofs.Common.{ℕ, ℤ, List}
use denote.Param.Members.{Mut}
use Rattle.chor_host.specs.declared.table.HostTable.{HostTable}
use Rattle.chor_host.specs.Tables.{functions_of}
use Rattle.endpoint_code.specs.declared.endpoints.Endpoints.{Endpoints}
use Rattle.endpoint_code.specs.Faults.{IsFaultless}
use Rattle.endpoint_check.specs.Programs.{AreProgramsOf}
use Rattle.endpoint_laws.proofs.Files.{made_is_faultless}
use Rattle.projected_programs.proofs.SizedRuns.{run_told, short_run_told}
use Rattle.projected_programs.specs.Laws.{RunsAreTold, ShortRunsAreTold}
use Rattle.projected_programs.proofs.Literals.{all_sized}
use Rattle.projected_programs.proofs.Hosts.{table_sized}

faultless : {words : List (List ℕ)} {bytes : List ℕ} {e : Endpoints} → AreProgramsOf words bytes e → IsFaultless e
faultless {words} {e = e} p = made_is_faultless p.written p.input.names.now p.input.texts.now words e p.made p.fine.faultless

module _ {X : Type 0} {g : Mut X (ℤ × (ℤ × Unit {0})) ℤ} (t : HostTable X g) (bytes : List ℕ) where
  pub runs_told : RunsAreTold (functions_of t) bytes
  runs_told e capacity h last p run small = run_told e (faultless p) _ capacity (all_sized p) (table_sized e.names t) h last run small

  pub short_runs_told : ShortRunsAreTold (functions_of t) bytes
  short_runs_told e capacity h last p run short = short_run_told e (faultless p) _ capacity (all_sized p) (table_sized e.names t) h last run short
