-- The projection of the text of a file can be written.
use Rattle.std.proofs.Common.{◌≡◌, ℕ, ◌≤◌, List, [], length, sym, subst, true, arith}
use Rattle.std.specs.List.{AllByRecursion}
use Rattle.std.proofs.lemmas.Slice.Zip.{AllZip-long}
use Rattle.chor_lexer.specs.Tokens.{AreTokensOf}
use Rattle.chor_tree.specs.declared.file.File.{File}
use Rattle.chor_tree.specs.declared.file.Service.{Service}
use Rattle.chor_tree.specs.declared.tree.NodeId.{NodeId}
use Rattle.chor_tree.specs.Source.{body_of, procedure_of, source_of}
use Rattle.source_grammar.specs.Faults.{IsWithin}
use Rattle.chor_lexer.proofs.DistinctTables.{distinct_names, distinct_texts}
use Rattle.endpoint_code.specs.declared.endpoints.Endpoints.{Endpoints}
use Rattle.endpoint_laws.specs.Spelled.{AreSpelled, IsChannelSpelled, IsProcedureSpelled, IsServiceSpelled, IsProcessSpelled}
use Rattle.endpoint_laws.specs.PrintedLaws.{AreWritable}
use Rattle.endpoint_laws.specs.Limits.{IsBodyWithin, IsChannelWithin, IsProcedureWithin, AreWithin}
use Rattle.projection.specs.Projects.{Projects, starts_of, body_at, is_some_start, started_services, channel_from, IsProcessOf}
use Rattle.chor_semantics.specs.Blocks.{choreography_of}
use Rattle.chor_semantics.proofs.Blocks.{block_choreography}
use Rattle.source_check.specs.Source.{IsFileOf}
use Rattle.writable_sources.specs.Written.{IsWritableIn, IsWritableHead}
use Rattle.writable_sources.specs.Sources.{IsWritableService, IsWritableProcedure, IsWritableSource}
use Rattle.writable_sources.proofs.Sources.{source_writable}
use Rattle.writable_sources.proofs.Units.{change, map_all, map_back, filter_all, IsChannelWritable, channel_written, IsProcedureWritable, procedures_written, IsServiceWritable, services_written, IsProcessWritable, processes_written}

module _ (bytes : List ℕ) (f : File) (is : IsFileOf bytes f) (e : Endpoints) (pr : Projects f e) where
  -- ---- the source

  tokens : AreTokensOf bytes [] [] e.names e.texts is.tokens
  tokens = subst (λ (ns : List (List ℕ)). AreTokensOf bytes [] [] ns e.texts is.tokens) (sym pr.names) (subst (λ (ts : List (List ℕ)). AreTokensOf bytes [] [] f.names ts is.tokens) (sym pr.texts) is.are)

  source : IsWritableSource e (source_of f)
  source = source_writable e bytes is.tokens (source_of f) tokens (subst (λ (ns : List (List ℕ)). IsWithin ns is.tokens (source_of f)) (sym pr.names) is.within)

  as_choreography : (id : NodeId) → IsWritableIn e 1024 (choreography_of (body_of f id)) → IsWritableIn e 1024 (body_at f id)
  as_choreography id w = subst (IsWritableIn e 1024) (block_choreography f.tree.nodes id) w

  heads : AllByRecursion (IsWritableHead e) f.procs
  heads = map_back (procedure_of f.tree.nodes) (IsWritableProcedure e) (IsWritableHead e) f.procs (λ h w. record { name = w.name; params = w.params; sessions = w.sessions; few = w.few }) source.procedures

  bodies : AllByRecursion (λ h. IsWritableIn e 1024 (body_at f h.body)) f.procs
  bodies = map_back (procedure_of f.tree.nodes) (IsWritableProcedure e) (λ h. IsWritableIn e 1024 (body_at f h.body)) f.procs (λ h w. as_choreography h.body w.body) source.procedures

  body : IsWritableIn e 1024 (body_at f f.body)
  body = as_choreography f.body source.body

  -- ---- the units

  started : AllByRecursion (λ s. IsWritableService e s × (is_some_start (starts_of f s.name.name) ≡ true)) (started_services f)
  started = filter_all (λ (s : Service). is_some_start (starts_of f s.name.name)) (IsWritableService e) f.services source.services

  channels : AllByRecursion (IsChannelWritable e) e.channels
  channels =
      subst (AllByRecursion (IsChannelWritable e)) (sym pr.channels)
      (map_all channel_from (λ s. IsWritableService e s × (is_some_start (starts_of f s.name.name) ≡ true)) (IsChannelWritable e) (started_services f) (λ s w. channel_written e s w.0) started)

  procedures : AllByRecursion (IsProcedureWritable e f heads bodies body) e.procedures
  procedures = procedures_written e f heads bodies body e.procedures pr.procedures

  services : AllByRecursion (IsServiceWritable e f heads bodies body) e.services
  services = services_written e f heads bodies body (started_services f) e.services pr.services started

  processes : AllByRecursion (IsProcessWritable e f heads bodies body) e.processes
  processes = processes_written e f heads bodies body f.processes e.processes pr.processes source.processes

  -- ---- the whole

  spelled : AreSpelled e
  spelled = record {
    channels = change (IsChannelWritable e) (IsChannelSpelled e) e.channels (λ c w. w.spelled) channels;
    procedures = change (IsProcedureWritable e f heads bodies body) (IsProcedureSpelled e) e.procedures (λ q w. w.spelled) procedures;
    services = change (IsServiceWritable e f heads bodies body) (IsServiceSpelled e) e.services (λ s w. w.spelled) services;
    processes = change (IsProcessWritable e f heads bodies body) (IsProcessSpelled e) e.processes (λ p w. w.spelled) processes;
  }

  within : AreWithin e
  within = record {
    channels = change (IsChannelWritable e) IsChannelWithin e.channels (λ c w. w.within) channels;
    procedures = change (IsProcedureWritable e f heads bodies body) (IsProcedureWithin e) e.procedures (λ q w. w.within) procedures;
    services = change (IsServiceWritable e f heads bodies body) (λ s. IsBodyWithin e s.body) e.services (λ s w. w.within) services;
    processes = change (IsProcessWritable e f heads bodies body) (λ p. IsBodyWithin e p.body) e.processes (λ p w. w.within) processes;
    few = (let long = AllZip-long (IsProcessOf f e) f.processes e.processes pr.processes in let few : length f.processes ≤ 64 = source.few in omega (arith, long, few));
  }

  -- It can be written
  pub text_writable : AreWritable e
  text_writable = record { names = distinct_names tokens; texts = distinct_texts tokens; spelled = spelled; within = within }
