-- Endpoint programs that some bytes are the text of can be written.
use Rattle.std.proofs.Common.{◌≡◌, ℕ, List, [], ◌∷◌, length, map, sym, ap, subst, arith}
use Rattle.std.specs.List.{AllByRecursion}
use Rattle.std.proofs.lemmas.List.{length-map}
use Rattle.chor_base.specs.Words.{AllDistinct}
use Rattle.chor_lexer.proofs.DistinctTables.{distinct_names, distinct_texts}
use Rattle.canonical_laws.proofs.Tables.{are_words}
use Rattle.endpoint_reader.specs.declared.input.Input.{Input}
use Rattle.endpoint_reader.specs.declared.lines.LineId.{LineId}
use Rattle.endpoint_reader.specs.declared.written.Channel.{Channel}
use Rattle.endpoint_reader.specs.declared.written.Procedure.{Procedure}
use Rattle.endpoint_reader.specs.declared.written.Service.{Service}
use Rattle.endpoint_reader.specs.declared.written.Process.{Process}
use Rattle.endpoint_reader.specs.declared.written.Written.{Written}
use Rattle.endpoint_reader.specs.Lines as text
use Rattle.endpoint_reader.specs.declared.input.Named.{Named}
use Rattle.endpoint_reader.specs.Tokens.{named as lexeme_named, all_named}
use Rattle.endpoint_reader.specs.Units.{channel_unit, procedure_unit, service_unit, process_unit}
use Rattle.endpoint_reader.specs.Files.{units_written}
use Rattle.endpoint_names.specs.Bodies.{body_at}
use Rattle.endpoint_names.specs.Faults.{names_in}
use Rattle.endpoint_making.specs.Codes.{code_id, code_of}
use Rattle.endpoint_making.specs.Making.{channel_made, procedure_made, service_made, process_made}
use Rattle.endpoint_code.specs.declared.endpoints.Endpoints.{Endpoints}
use Rattle.endpoint_code.specs.Trees.{code_at}
use Rattle.endpoint_check.specs.Programs.{AreProgramsOf}
use Rattle.endpoint_laws.specs.Spelled.{IsNamed, AreNamed, IsCodeSpelled, IsBodySpelled, IsChannelSpelled, IsProcedureSpelled, IsServiceSpelled, IsProcessSpelled}
use Rattle.endpoint_laws.specs.Limits.{Fits, IsBodyWithin, IsChannelWithin, IsProcedureWithin}
use Rattle.endpoint_laws.specs.PrintedLaws.{AreWritable}
use Rattle.endpoint_laws.proofs.Bodies.{code_same}
use Rattle.endpoint_laws.proofs.Naming.{IsName, AreNames, IsBodyNamed, IsChannelNamed, IsProcedureNamed, IsServiceNamed, IsProcessNamed, AreUnitsNamed}
use Rattle.endpoint_laws.proofs.There.{body_there}
use Rattle.endpoint_laws.proofs.Trees.{bodies_written}
use Rattle.endpoint_laws.proofs.Verdicts.{named_so}
use Rattle.written_programs.proofs.Bodies.{name_named, names_named, names_long, body_spelled, body_within}
use Rattle.written_programs.proofs.Limits.{BodyFits, ChannelFits, ProcedureFits, UnitsFit, file_fits}
use Rattle.written_programs.proofs.Tables.{are_texts}

-- what holds of each unit as it is written holds of what is made of it
each_made : {W U M : Type 0} (f : W → U) (make : W → M) (P Q : U → Type 0) (R : M → Type 0) → ((x : W) → P (f x) → Q (f x) → R (make x)) → (xs : List W) → AllByRecursion P (map f xs) → AllByRecursion Q (map f xs) → AllByRecursion R (map make xs)
each_made f make P Q R one [] p q = tt
each_made f make P Q R one (x ∷ xs) p q = (one x p.0 q.0, each_made f make P Q R one xs p.1 q.1)

module _ (hosts : List (List ℕ)) (bytes : List ℕ) (e : Endpoints) (a : AreProgramsOf hosts bytes e) where
  abbrev i : Input
  i = a.input

  abbrev w : Written
  w = a.written

  abbrev ns : List (List ℕ)
  ns = i.names.now

  abbrev xs : List (List ℕ)
  xs = i.texts.now

  named : AreUnitsNamed ns xs (units_written i w)
  named = named_so i a.tokens a.fine.written

  fits : UnitsFit 64 (units_written i w)
  fits = subst (UnitsFit 64) a.fine.written.units (file_fits a.fine.written.is)

  a_name : (n : Named) → IsName ns xs (lexeme_named i n) → IsNamed e n.name
  a_name n h = name_named i e a.made.names_are a.made.texts_are (are_words a.tokens) (are_texts a.tokens) n h

  some_names : (ls : List Named) → AreNames ns xs (all_named i ls) → AreNamed e (names_in ls)
  some_names ls h = names_named i e a.made.names_are a.made.texts_are (are_words a.tokens) (are_texts a.tokens) ls h

  -- ---- bodies

  code_is : (id : LineId) → code_at e.code.nodes (code_id id) ≡ code_of (body_at w.lines.items id)
  code_is id = code_same w ns xs hosts e a.made id

  body_named : (id : LineId) → IsBodyNamed ns xs (text.body_at i w.lines.items id) → IsBodySpelled e (code_id id)
  body_named id h =
      subst (IsCodeSpelled e) (sym (code_is id))
      (body_spelled i e a.made.names_are a.made.texts_are (are_words a.tokens) (are_texts a.tokens) (body_at w.lines.items id) (body_there i w.lines.items a.fine.there.lines id)
      (subst (IsBodyNamed ns xs) (sym (bodies_written i w.lines.items id)) h))

  body_fine : (id : LineId) → BodyFits 1024 (text.body_at i w.lines.items id) → IsBodyWithin e (code_id id)
  body_fine id h =
      subst (Fits e 1024) (sym (code_is id))
      (body_within i e a.made.names_are a.made.texts_are (are_words a.tokens) (are_texts a.tokens) (body_at w.lines.items id) 1024
      (subst (BodyFits 1024) (sym (bodies_written i w.lines.items id)) h))

  -- ---- units

  record IsWritten {M : Type 0} (S T : M → Type 0) (m : M) : Type 0 where
    spelled : S m
    within : T m

  channel_long : (ls : List Named) → length (all_named i ls) ≡ length (names_in ls)
  channel_long ls = names_long i e a.made.names_are a.made.texts_are (are_words a.tokens) (are_texts a.tokens) ls

  channel : (c : Channel) → IsChannelNamed ns xs (channel_unit i c) → ChannelFits (channel_unit i c) → IsWritten (IsChannelSpelled e) IsChannelWithin (channel_made c)
  channel c h k = record {
    spelled = (a_name c.name h.0, some_names c.roles.active h.1.0, some_names c.roles.serve h.1.1);
    within = (omega (arith, k.0, channel_long c.roles.active), omega (arith, k.1, channel_long c.roles.active, channel_long c.roles.serve));
  }

  procedure : (p : Procedure) → IsProcedureNamed ns xs (procedure_unit i w.lines.items p) → ProcedureFits (procedure_unit i w.lines.items p) → IsWritten (IsProcedureSpelled e) (IsProcedureWithin e) (procedure_made p)
  procedure p h k = record {
    spelled = (a_name p.signature.name h.0, a_name p.signature.param h.1, some_names p.signature.sessions h.2, body_named p.body h.3);
    within = (omega (arith, k.0, channel_long p.signature.sessions), body_fine p.body k.1);
  }

  service : (s : Service) → IsServiceNamed ns xs (service_unit i w.lines.items s) → BodyFits 1024 (text.body_at i w.lines.items s.body) → IsWritten (IsServiceSpelled e) (λ r. IsBodyWithin e r.body) (service_made s)
  service s h k = record { spelled = (a_name s.channel h.0, a_name s.role h.1, body_named s.body h.2); within = body_fine s.body k }

  process : (p : Process) → IsProcessNamed ns xs (process_unit i w.lines.items p) → BodyFits 1024 (text.body_at i w.lines.items p.body) → IsWritten (IsProcessSpelled e) (λ r. IsBodyWithin e r.body) (process_made p)
  process p h k = record { spelled = (a_name p.name h.0, body_named p.body h.1); within = body_fine p.body k }

  channels : AllByRecursion (IsWritten (IsChannelSpelled e) IsChannelWithin) e.channels
  channels = subst (AllByRecursion (IsWritten (IsChannelSpelled e) IsChannelWithin)) (sym a.made.channels) (each_made (channel_unit i) channel_made (IsChannelNamed ns xs) ChannelFits (IsWritten (IsChannelSpelled e) IsChannelWithin) channel w.channels named.0 fits.channels)

  procedures : AllByRecursion (IsWritten (IsProcedureSpelled e) (IsProcedureWithin e)) e.procedures
  procedures = subst (AllByRecursion (IsWritten (IsProcedureSpelled e) (IsProcedureWithin e))) (sym a.made.procedures) (each_made (procedure_unit i w.lines.items) procedure_made (IsProcedureNamed ns xs) ProcedureFits (IsWritten (IsProcedureSpelled e) (IsProcedureWithin e)) procedure w.procedures named.1 fits.procedures)

  services : AllByRecursion (IsWritten (IsServiceSpelled e) (λ r. IsBodyWithin e r.body)) e.services
  services = subst (AllByRecursion (IsWritten (IsServiceSpelled e) (λ r. IsBodyWithin e r.body))) (sym a.made.services) (each_made (service_unit i w.lines.items) service_made (IsServiceNamed ns xs) (λ s. BodyFits 1024 s.body) (IsWritten (IsServiceSpelled e) (λ r. IsBodyWithin e r.body)) service w.services named.2 fits.services)

  processes : AllByRecursion (IsWritten (IsProcessSpelled e) (λ r. IsBodyWithin e r.body)) e.processes
  processes = subst (AllByRecursion (IsWritten (IsProcessSpelled e) (λ r. IsBodyWithin e r.body))) (sym a.made.processes) (each_made (process_unit i w.lines.items) process_made (IsProcessNamed ns xs) (λ p. BodyFits 1024 p.body) (IsWritten (IsProcessSpelled e) (λ r. IsBodyWithin e r.body)) process w.processes named.3 fits.processes)

  all_spelled : {M : Type 0} (S T : M → Type 0) (ms : List M) → AllByRecursion (IsWritten S T) ms → AllByRecursion S ms
  all_spelled S T [] h = tt
  all_spelled S T (m ∷ ms) h = (h.0.spelled, all_spelled S T ms h.1)

  all_within : {M : Type 0} (S T : M → Type 0) (ms : List M) → AllByRecursion (IsWritten S T) ms → AllByRecursion T ms
  all_within S T [] h = tt
  all_within S T (m ∷ ms) h = (h.0.within, all_within S T ms h.1)

  pub writable : AreWritable e
  writable = record {
    names = subst AllDistinct (sym a.made.names_are) (distinct_names a.tokens);
    texts = subst AllDistinct (sym a.made.texts_are) (distinct_texts a.tokens);
    spelled = record {
      channels = all_spelled _ _ e.channels channels;
      procedures = all_spelled _ _ e.procedures procedures;
      services = all_spelled _ _ e.services services;
      processes = all_spelled _ _ e.processes processes;
    };
    within = record {
      channels = all_within _ _ e.channels channels;
      procedures = all_within _ _ e.procedures procedures;
      services = all_within _ _ e.services services;
      processes = all_within _ _ e.processes processes;
      few = (let few = fits.few in omega (arith, ap length a.made.processes, length-map w.processes process_made, length-map w.processes (process_unit i w.lines.items), few));
    };
  }
