-- A source that tokens derive within the limits can be written.
use Rattle.std.proofs.Common.{ℕ, ◌≤◌, ◌<◌, ◌-◌, List, [], ◌∷◌, length, arith}
use Rattle.std.specs.List.{AllByRecursion}
use Rattle.chor_lexer.specs.declared.token.Token.{Token}
use Rattle.chor_lexer.specs.Tokens.{AreTokensOf}
use Rattle.chor_lexer.specs.Spelling.{IsSource}
use Rattle.source_grammar.specs.Symbols.{nowhere}
use Rattle.chor_tree.specs.declared.file.Named.{Named}
use Rattle.chor_tree.specs.declared.file.Service.{Service}
use Rattle.chor_tree.specs.declared.file.ProcParam.{ProcParam}
use Rattle.chor_tree.specs.declared.file.SessionParam.{SessionParam}
use Rattle.chor_tree.specs.Source.{Procedure, Source}
use Rattle.source_grammar.specs.Grammar.{NameIs, ListIs, a_list, NamesAre, AnyNamesAre, no_names, some_names, ServedAre, none_served, some_served, ServiceIs, a_service, ProcParamIs, a_param, SessionParamIs, a_session, SessionsAre, no_sessions, some_sessions, ParamsAre, no_params, some_params, ProcedureIs, a_procedure, FileIs, a_file}
use Rattle.source_grammar.specs.Limits.{KeepsNames, KeepsAnyNames, KeepsServed, KeepsService, KeepsSessions, KeepsParams, KeepsProcedure, KeepsAll}
use Rattle.source_grammar.specs.Faults.{IsWithin}
use Rattle.source_grammar.specs.Parts.{ServicePart}
use Rattle.source_grammar.specs.Files.{ProcedurePart}
use Rattle.canonical_laws.specs.Terms.{AllInBlock, AllTerms}
use Rattle.canonical_laws.proofs.Cutting.{AreWords}
use Rattle.canonical_laws.proofs.Derived.{Derived, list_derived, gathered}
use Rattle.canonical_laws.proofs.Known.{file_sound}
use Rattle.canonical_laws.proofs.Tables.{are_words, known}
use Rattle.canonical_laws.proofs.Tokens.{Stands, name_begins}
use Rattle.endpoint_code.specs.declared.endpoints.Endpoints.{Endpoints}
use Rattle.endpoint_laws.specs.Spelled.{IsNamed}
use Rattle.writable_sources.specs.Sources.{IsWritableService, IsWritableProcedure, IsWritableSource}
use Rattle.writable_sources.proofs.Limits.{list_few, derived_all}
use Rattle.writable_sources.proofs.Blocks.{name_named, names_named, any_names_named, block_writable}

-- ---- lengths

names_few : (n : ℕ) {names : List (List ℕ)} (ns : List Named) {us vs : List Token} (d : NamesAre names us ns vs) → KeepsNames nowhere n d → length ns ≤ n
names_few n {names} ns d keeps = list_few {Item = NameIs names} (λ ts x rest i. Unit {0}) (λ ts x rest i. name_begins i) n ns d keeps

any_names_few : (n : ℕ) {names : List (List ℕ)} (ns : List Named) {us vs : List Token} (d : AnyNamesAre names us ns vs) → KeepsAnyNames nowhere n d → length ns ≤ n
any_names_few n ns no_names keeps = omega arith
any_names_few n ns (some_names d) keeps = names_few n ns d keeps

some_there : {A : Type 0} {Item : List Token → A → List Token → Type 0} (xs : List A) {us vs : List Token} → ListIs Item us xs vs → 0 < length xs
some_there xs (a_list i m) = omega arith

served_few : (n : ℕ) {names : List (List ℕ)} (ns : List Named) {us vs : List Token} (d : ServedAre names us ns vs) → KeepsServed nowhere n d → length ns ≤ n
served_few n ns none_served keeps = omega arith
served_few n ns (some_served d1 d2) keeps = names_few n ns d2 keeps

session_begins : {names : List (List ℕ)} (k : SessionParam) {us vs : List Token} → SessionParamIs names us k vs → Stands us
session_begins k (a_session d1 d2 d3 d4 d5 d6 d7 d8) = name_begins d1

sessions_few : {names : List (List ℕ)} (ks : List SessionParam) {us vs : List Token} (d : SessionsAre names us ks vs) → KeepsSessions nowhere d → length ks ≤ 8
sessions_few ks no_sessions keeps = omega arith
sessions_few {names} ks (some_sessions d1 d2) keeps = list_few {Item = SessionParamIs names} (λ ts x rest i. Unit {0}) (λ ts k rest i. session_begins k i) 8 ks d2 keeps

params_few : {names : List (List ℕ)} (ps : List ProcParam) (ks : List SessionParam) {us vs : List Token} (d : ParamsAre names us ps ks vs) → KeepsParams nowhere d → length ks ≤ 8
params_few ps ks no_params keeps = omega arith
params_few ps ks (some_params d1 d2) keeps = sessions_few ks d2 keeps.1

module _ (e : Endpoints) (words : AreWords e.names) where
  -- ---- services

  served_named : (ns : List Named) {us vs : List Token} → ServedAre e.names us ns vs → AllByRecursion (λ n. IsNamed e n.name) ns
  served_named ns none_served = tt
  served_named ns (some_served d1 d2) = names_named e words ns d2

  service_writable : (s : Service) {us vs : List Token} (d : ServiceIs e.names us s vs) → KeepsService nowhere d → IsWritableService e s
  service_writable s (a_service {n = n} {active = active} {serve = serve} d1 d2 d3 d4 d5 d6 d7 d8 d9) keeps =
      let front = names_few 16 active d6 keeps.0 in
      let back = served_few (16 - length active) serve d7 keeps.1 in
      record { name = name_named e words n d2; active = names_named e words active d6; serve = served_named serve d7; some = some_there active d6; few = omega (arith, front, back) }

  -- ---- procedures

  param_named : (p : ProcParam) {us vs : List Token} → ProcParamIs e.names us p vs → IsNamed e p.name.name
  param_named p (a_param {n = n} d1 d2) = name_named e words n d1

  session_named : (k : SessionParam) {us vs : List Token} → SessionParamIs e.names us k vs → IsNamed e k.name.name
  session_named k (a_session {n = n} d1 d2 d3 d4 d5 d6 d7 d8) = name_named e words n d1

  sessions_named : (ks : List SessionParam) {us vs : List Token} → SessionsAre e.names us ks vs → AllByRecursion (λ k. IsNamed e k.name.name) ks
  sessions_named ks no_sessions = tt
  sessions_named ks (some_sessions d1 d2) = derived_all {Item = SessionParamIs e.names} (λ k. IsNamed e k.name.name) ks (λ us k vs i. session_named k i) (list_derived ks d2)

  record AreParamsNamed (ps : List ProcParam) (ks : List SessionParam) : Type 0 where
    params : AllByRecursion (λ p. IsNamed e p.name.name) ps
    sessions : AllByRecursion (λ k. IsNamed e k.name.name) ks

  params_named : (ps : List ProcParam) (ks : List SessionParam) {us vs : List Token} → ParamsAre e.names us ps ks vs → AreParamsNamed ps ks
  params_named ps ks no_params = record { params = tt; sessions = tt }
  params_named ps ks (some_params d1 d2) = record {
    params = derived_all {Item = ProcParamIs e.names} (λ p. IsNamed e p.name.name) ps (λ us p vs i. param_named p i) (list_derived ps d1);
    sessions = sessions_named ks d2;
  }

  procedure_writable : (p : Procedure) {us vs : List Token} (d : ProcedureIs e.names us p vs) → KeepsProcedure nowhere d → AllInBlock (IsSource e.names e.texts) p.body → IsWritableProcedure e p
  procedure_writable p (a_procedure {n = n} {ps = ps} {ss = ks} {b = b} d1 d2 d3 d4 d5 d6) keeps ok =
      let heads = params_named ps ks d4 in
      record {
        name = name_named e words n d2;
        params = heads.params;
        sessions = heads.sessions;
        few = params_few ps ks d4 keeps.0;
        body = block_writable e words b 64 1024 d6 keeps.1 ok;
      }

  procedures_writable : (ps : List Procedure) → AllByRecursion (Derived (ProcedurePart nowhere e.names)) ps → AllByRecursion (λ p. AllInBlock (IsSource e.names e.texts) p.body) ps → AllByRecursion (IsWritableProcedure e) ps
  procedures_writable [] d ok = tt
  procedures_writable (p ∷ ps) d ok = (procedure_writable p d.0.is.0 d.0.is.1 ok.0, procedures_writable ps d.1 ok.1)

  -- ---- the whole

  file_writable : (s : Source) {us : List Token} (d : FileIs e.names us s) → KeepsAll d → AllTerms (IsSource e.names e.texts) s → IsWritableSource e s
  file_writable s (a_file {is = is} {ps = ps} {b = b} d0 d1 d2 d3 d4 d5 d6 d7) keeps ok =
      let items = gathered is d1 keeps.1 in
      record {
        services = derived_all {Item = ServicePart nowhere e.names} (IsWritableService e) is.services (λ us x vs i. service_writable x i.0 i.1) items.services;
        procedures = procedures_writable is.procedures items.procedures ok.0;
        processes = any_names_named e words ps d4;
        few = any_names_few 64 ps d4 keeps.2;
        body = block_writable e words b 64 1024 d6 keeps.3 ok.1;
      }

-- A source that tokens derive within the limits can be written
pub source_writable : (e : Endpoints) (bytes : List ℕ) (ts : List Token) (s : Source) → AreTokensOf bytes [] [] e.names e.texts ts → IsWithin e.names ts s → IsWritableSource e s
source_writable e bytes ts s h d = file_writable e (are_words h) s d.is d.keeps (file_sound s d.is (known h))
