-- Programs that are read from the text of others are the same.
use Rattle.std.proofs.Common.{◌≡◌, ℕ, List, [], ◌∷◌, map, sym, subst}
use Rattle.std.specs.List.{AllZip}
use Rattle.chor_base.specs.Words.{AllDistinct}
use Rattle.endpoint_reader.specs.declared.input.Input.{Input}
use Rattle.endpoint_reader.specs.declared.lines.LineId.{LineId}
use Rattle.endpoint_reader.specs.declared.written.Channel.{Channel}
use Rattle.endpoint_reader.specs.declared.written.Procedure.{Procedure}
use Rattle.endpoint_reader.specs.declared.written.Service.{Service}
use Rattle.endpoint_reader.specs.declared.written.Process.{Process}
use Rattle.endpoint_reader.specs.declared.written.Written.{Written}
use Rattle.endpoint_reader.specs.Known.{IsWrittenThere}
use Rattle.endpoint_code.specs.declared.code.CodeId.{CodeId}
use Rattle.endpoint_code.specs.declared.endpoints.Channel.{Channel as CodeChannel}
use Rattle.endpoint_code.specs.declared.endpoints.Procedure.{Procedure as CodeProcedure}
use Rattle.endpoint_code.specs.declared.endpoints.ServiceCode.{ServiceCode}
use Rattle.endpoint_code.specs.declared.endpoints.Process.{Process as CodeProcess}
use Rattle.endpoint_code.specs.declared.endpoints.Endpoints.{Endpoints}
use Rattle.endpoint_code.specs.Faults.{IsFaultless}
use Rattle.endpoint_code.specs.Trees.{code_at}
use Rattle.endpoint_names.specs.Bodies.{body_at}
use Rattle.endpoint_names.specs.Faults.{names_in}
use Rattle.endpoint_making.specs.Codes.{code_id, code_of}
use Rattle.endpoint_making.specs.Making.{channel_made, procedure_made, service_made, process_made, IsMadeOf}
use Rattle.endpoint_laws.proofs.Bodies.{code_same}
use Rattle.chor_lexer.proofs.DistinctTables.{distinct_names, distinct_texts}
use Rattle.same_programs.specs.Programs.{SameCodeAt, SameChannel, SameProcedure, SameService, SameProcess, SamePrograms, IsCopy}
use Rattle.same_programs.specs.Codes.{SameCode}
use Rattle.endpoint_laws.specs.Symbols.{ordered_at}
use Rattle.endpoint_laws.proofs.PrintedFaults.{ChannelSame, ProcedureSame, ServiceSame, ProcessSame, CodeSaid}
use Rattle.endpoint_laws.proofs.Whole.{same_units}
use Rattle.endpoint_laws.specs.ReadBack.{AreReadBack}
use Rattle.endpoint_laws.proofs.There.{body_there}
use Rattle.endpoint_laws.proofs.Codes.{N, T, name_same, names_same, body_same}
use Rattle.endpoint_laws.proofs.Reordered.{code_back}

module _ (e e' : Endpoints) (i : Input) (w : Written) (made : IsMadeOf w i.names.now i.texts.now e') (there : IsWrittenThere i w) where
  same_code : (q : CodeId) (id : LineId) → CodeSaid e i (ordered_at e q) (body_at w.lines.items id) → SameCodeAt e e' q (code_id id)
  same_code q id s =
      let b = body_at w.lines.items id in
      let is : code_at e'.code.nodes (code_id id) ≡ code_of b = code_same w i.names.now i.texts.now [] e' made id in
      let same = body_same e e' i made.names_are made.texts_are (ordered_at e q) b s.says s.spelled (body_there i w.lines.items there.lines id) in
      subst (λ p. SameCode (N e e' i made.names_are made.texts_are) (T e e' i made.names_are made.texts_are) (code_at e.code.nodes q) p) (sym is)
      (code_back (N e e' i made.names_are made.texts_are) (T e e' i made.names_are made.texts_are) e.names (code_at e.code.nodes q) same)

  channels_same : (cs : List CodeChannel) (xs : List Channel) → AllZip (ChannelSame e i) cs xs → AllZip (SameChannel e e') cs (map channel_made xs)
  channels_same [] [] h = tt
  channels_same [] (x ∷ xs) h = absurd h
  channels_same (c ∷ cs) [] h = absurd h
  channels_same (c ∷ cs) (x ∷ xs) h = (
    record {
      name = name_same e e' i made.names_are made.texts_are h.0.name;
      active = names_same e e' i made.names_are made.texts_are c.active (names_in x.roles.active) h.0.active;
      serve = names_same e e' i made.names_are made.texts_are c.serve (names_in x.roles.serve) h.0.serve;
    },
    channels_same cs xs h.1,
  )

  procedures_same : (qs : List CodeProcedure) (ps : List Procedure) → AllZip (ProcedureSame e i w) qs ps → AllZip (SameProcedure e e') qs (map procedure_made ps)
  procedures_same [] [] h = tt
  procedures_same [] (p ∷ ps) h = absurd h
  procedures_same (q ∷ qs) [] h = absurd h
  procedures_same (q ∷ qs) (p ∷ ps) h = (
    record {
      name = name_same e e' i made.names_are made.texts_are h.0.name;
      param = name_same e e' i made.names_are made.texts_are h.0.param;
      sessions = names_same e e' i made.names_are made.texts_are q.sessions (names_in p.signature.sessions) h.0.sessions;
      body = same_code q.body p.body h.0.body;
    },
    procedures_same qs ps h.1,
  )

  services_same : (ss : List ServiceCode) (vs : List Service) → AllZip (ServiceSame e i w) ss vs → AllZip (SameService e e') ss (map service_made vs)
  services_same [] [] h = tt
  services_same [] (v ∷ vs) h = absurd h
  services_same (s ∷ ss) [] h = absurd h
  services_same (s ∷ ss) (v ∷ vs) h = (
    record {
      channel = name_same e e' i made.names_are made.texts_are h.0.channel;
      role = name_same e e' i made.names_are made.texts_are h.0.role;
      body = same_code s.body v.body h.0.body;
    },
    services_same ss vs h.1,
  )

  processes_same : (qs : List CodeProcess) (ps : List Process) → AllZip (ProcessSame e i w) qs ps → AllZip (SameProcess e e') qs (map process_made ps)
  processes_same [] [] h = tt
  processes_same [] (p ∷ ps) h = absurd h
  processes_same (q ∷ qs) [] h = absurd h
  processes_same (q ∷ qs) (p ∷ ps) h = (record { name = name_same e e' i made.names_are made.texts_are h.0.name; body = same_code q.body p.body h.0.body }, processes_same qs ps h.1)

pub are_same : (words : List (List ℕ)) (e e' : Endpoints) → AreReadBack words e e' → SamePrograms e e'
are_same words e e' h =
    let i = h.read.input in
    let w = h.read.written in
    let made = h.read.made in
    let same = same_units e i w h.writable h.read.tokens h.read.fine.written in
    record {
      channels = subst (AllZip (SameChannel e e') e.channels) (sym made.channels) (channels_same e e' i w made h.read.fine.there e.channels w.channels same.channels);
      procedures = subst (AllZip (SameProcedure e e') e.procedures) (sym made.procedures) (procedures_same e e' i w made h.read.fine.there e.procedures w.procedures same.procedures);
      services = subst (AllZip (SameService e e') e.services) (sym made.services) (services_same e e' i w made h.read.fine.there e.services w.services same.services);
      processes = subst (AllZip (SameProcess e e') e.processes) (sym made.processes) (processes_same e e' i w made h.read.fine.there e.processes w.processes same.processes);
    }

pub are_copies : (words : List (List ℕ)) (e e' : Endpoints) → AreReadBack words e e' → IsFaultless e → IsCopy e e'
are_copies words e e' h f = record {
  same = are_same words e e' h;
  faultless = f;
  words = record { names = h.writable.names; texts = h.writable.texts };
  copied_words = record {
    names = subst AllDistinct (sym h.read.made.names_are) (distinct_names h.read.tokens);
    texts = subst AllDistinct (sym h.read.made.texts_are) (distinct_texts h.read.tokens);
  };
}
