-- Units that say programs without a fault have none.
use Rattle.std.proofs.Common.{◌≡◌, ◌==◌, ◌&&◌, ◌||◌, List, [], ◌∷◌, map, refl, sym, ◌∙◌, subst}
use Rattle.std.specs.List.{AllZip, flat_map, AllByRecursion}
use Rattle.chor_base.specs.declared.names.NameId.{NameId}
use Rattle.chor_base.specs.Words.{AllDistinct}
use Rattle.endpoint_reader.specs.declared.input.Input.{Input}
use Rattle.endpoint_reader.specs.declared.written.Channel.{Channel}
use Rattle.endpoint_reader.specs.declared.written.Procedure.{Procedure}
use Rattle.endpoint_reader.specs.declared.written.Service.{Service}
use Rattle.endpoint_reader.specs.declared.written.Process.{Process}
use Rattle.endpoint_reader.specs.declared.written.Written.{Written}
use Rattle.endpoint_code.specs.declared.endpoints.Channel.{Channel as CodeChannel}
use Rattle.endpoint_code.specs.declared.endpoints.Procedure.{Procedure as CodeProcedure}
use Rattle.endpoint_code.specs.declared.endpoints.ServiceCode.{ServiceCode}
use Rattle.endpoint_code.specs.declared.endpoints.Process.{Process as CodeProcess}
use Rattle.endpoint_code.specs.declared.endpoints.Endpoints.{Endpoints}
use Rattle.endpoint_code.specs.Faults.{is_among, AreDistinct, all_among, is_listed}
use Rattle.endpoint_code.specs.Trees.{Action, CodeTree, Arms}
use Rattle.endpoint_code.specs.Trees as tree
use Rattle.endpoint_names.specs.Bodies.{body_at}
use Rattle.endpoint_laws.proofs.Lists.{two_nothings}
use Rattle.endpoint_laws.specs.Symbols.{ordered_at}
use Rattle.endpoint_laws.specs.Spelled.{IsCodeSpelled, IsChannelSpelled, IsProcedureSpelled, IsServiceSpelled, IsProcessSpelled, AreSpelled}
use Rattle.endpoint_laws.specs.Says.{BodySays, ChannelSays, ProcedureSays, ServiceSays, ProcessSays, AreUnitsOf}
use Rattle.endpoint_laws.proofs.SameNames.{same_number}
use Rattle.std.specs.Prelude.{All}
use Rattle.std.proofs.lemmas.List.Elements.{All-head, All-tail}
use Rattle.chor_base.specs.declared.fault.Fault.{Fault}
use Rattle.endpoint_reader.specs.declared.lines.LineId.{LineId}
use Rattle.endpoint_reader.specs.Files.{units_written}
use Rattle.endpoint_reader.specs.Lines as lines
use Rattle.endpoint_reader.specs.Units.{channel_unit, procedure_unit, service_unit, process_unit}
use Rattle.endpoint_code.specs.declared.code.CodeId.{CodeId}
use Rattle.endpoint_code.specs.Faults as code
use Rattle.endpoint_making.specs.Making.{procedure_made, service_made}
use Rattle.endpoint_laws.proofs.Trees.{bodies_written}
use Rattle.endpoint_laws.proofs.SymbolOrdering.{ordered_spelled}
use Rattle.endpoint_laws.proofs.PrintedFaults.{IsSame, AreSame, is_same, are_same, ChannelSame, ProcedureSame, ServiceSame, ProcessSame, CodeSaid, UnitsSame}

-- where each of the one list is fine, nothing is told of the other
pub no_faults : {X Y : Type 0} (R : X → Y → Type 0) (P Q : X → Type 0) (f : Y → List Fault) → ((x : X) (y : Y) → R x y → P x → Q x → f y ≡ [])
    → (xs : List X) (ys : List Y) → AllZip R xs ys → All P xs → All Q xs → flat_map f ys ≡ []
no_faults R P Q f one [] [] h p q = refl
no_faults R P Q f one [] (y ∷ ys) h p q = absurd h
no_faults R P Q f one (x ∷ xs) [] h p q = absurd h
no_faults R P Q f one (x ∷ xs) (y ∷ ys) h p q =
    two_nothings (f y) (flat_map f ys) (one x y h.0 (All-head P x xs p) (All-head Q x xs q)) (no_faults R P Q f one xs ys h.1 (All-tail P x xs p) (All-tail Q x xs q))

-- ---- the units that are written say the programs

module _ (e : Endpoints) (i : Input) where
  channels_same : (cs : List CodeChannel) (xs : List Channel) → AllByRecursion (IsChannelSpelled e) cs → AllZip (ChannelSays e) cs (map (channel_unit i) xs) → AllZip (ChannelSame e i) cs xs
  channels_same [] [] h s = tt
  channels_same [] (x ∷ xs) h s = absurd s
  channels_same (c ∷ cs) [] h s = absurd s
  channels_same (c ∷ cs) (x ∷ xs) h s =
      (record { name = is_same e i x.name h.0.0 s.0.name; active = are_same e i c.active x.roles.active h.0.1 s.0.active; serve = are_same e i c.serve x.roles.serve h.0.2 s.0.serve }, channels_same cs xs h.1 s.1)

  module _ (w : Written) where
    said_at : (q : CodeId) (b : LineId) → IsCodeSpelled e (tree.code_at e.code.nodes q) → BodySays e (ordered_at e q) (lines.body_at i w.lines.items b) → CodeSaid e i (ordered_at e q) (body_at w.lines.items b)
    said_at q b h s = record { spelled = ordered_spelled e (tree.code_at e.code.nodes q) h; says = subst (BodySays e (ordered_at e q)) (sym (bodies_written i w.lines.items b)) s }

    procedures_same : (qs : List CodeProcedure) (ps : List Procedure) → AllByRecursion (IsProcedureSpelled e) qs → AllZip (ProcedureSays e) qs (map (procedure_unit i w.lines.items) ps) → AllZip (ProcedureSame e i w) qs ps
    procedures_same [] [] h s = tt
    procedures_same [] (p ∷ ps) h s = absurd s
    procedures_same (q ∷ qs) [] h s = absurd s
    procedures_same (q ∷ qs) (p ∷ ps) h s = (
      record {
        name = is_same e i p.signature.name h.0.0 s.0.name;
        param = is_same e i p.signature.param h.0.1 s.0.param;
        sessions = are_same e i q.sessions p.signature.sessions h.0.2 s.0.sessions;
        body = said_at q.body p.body h.0.3 s.0.body;
      },
      procedures_same qs ps h.1 s.1,
    )

    services_same : (ss : List ServiceCode) (vs : List Service) → AllByRecursion (IsServiceSpelled e) ss → AllZip (ServiceSays e) ss (map (service_unit i w.lines.items) vs) → AllZip (ServiceSame e i w) ss vs
    services_same [] [] h s = tt
    services_same [] (v ∷ vs) h s = absurd s
    services_same (x ∷ ss) [] h s = absurd s
    services_same (x ∷ ss) (v ∷ vs) h s =
        (record { channel = is_same e i v.channel h.0.0 s.0.channel; role = is_same e i v.role h.0.1 s.0.role; body = said_at x.body v.body h.0.2 s.0.body }, services_same ss vs h.1 s.1)

    processes_same : (qs : List CodeProcess) (ps : List Process) → AllByRecursion (IsProcessSpelled e) qs → AllZip (ProcessSays e) qs (map (process_unit i w.lines.items) ps) → AllZip (ProcessSame e i w) qs ps
    processes_same [] [] h s = tt
    processes_same [] (p ∷ ps) h s = absurd s
    processes_same (q ∷ qs) [] h s = absurd s
    processes_same (q ∷ qs) (p ∷ ps) h s = (record { name = is_same e i p.name h.0.0 s.0.name; body = said_at q.body p.body h.0.1 s.0.body }, processes_same qs ps h.1 s.1)

    pub units_same : AreSpelled e → AreUnitsOf e (units_written i w) → UnitsSame e i w
    units_same h s = record {
      channels = channels_same e.channels w.channels h.channels s.channels;
      procedures = procedures_same e.procedures w.procedures h.procedures s.procedures;
      services = services_same e.services w.services h.services s.services;
      processes = processes_same e.processes w.processes h.processes s.processes;
    }

-- ---- names of units

module _ (e : Endpoints) (i : Input) (w : Written) (dn : AllDistinct e.names) (dm : AllDistinct i.names.now) where
  pub channel_names : (cs : List CodeChannel) (xs : List Channel) → AllZip (ChannelSame e i) cs xs → AreSame e i (map (λ k. k.name) cs) (map (λ x. x.name.name) xs)
  channel_names [] [] h = tt
  channel_names [] (x ∷ xs) h = absurd h
  channel_names (c ∷ cs) [] h = absurd h
  channel_names (c ∷ cs) (x ∷ xs) h = (h.0.name, channel_names cs xs h.1)

  pub process_names : (qs : List CodeProcess) (ps : List Process) → AllZip (ProcessSame e i w) qs ps → AreSame e i (map (λ p. p.name) qs) (map (λ p. p.name.name) ps)
  process_names [] [] h = tt
  process_names [] (p ∷ ps) h = absurd h
  process_names (q ∷ qs) [] h = absurd h
  process_names (q ∷ qs) (p ∷ ps) h = (h.0.name, process_names qs ps h.1)

  pub numbers : {x n y m : NameId} → IsSame e i x n → IsSame e i y m → (x.0 == y.0) ≡ (n.0 == m.0)
  numbers h k = same_number e.names i.names.now dn dm h k

  unit_there : {f g x y : NameId} → IsSame e i f g → IsSame e i x y → (qs : List CodeProcedure) (ps : List Procedure) → AllZip (ProcedureSame e i w) qs ps → code.unit_among f x qs ≡ code.unit_among g y (map procedure_made ps)
  unit_there s t [] [] h = refl
  unit_there s t [] (p ∷ ps) h = absurd h
  unit_there s t (q ∷ qs) [] h = absurd h
  unit_there s t (q ∷ qs) (p ∷ ps) h =
      let a = numbers s h.0.name in
      let b = numbers t h.0.param in
      let r = unit_there s t qs ps h.1 in
      λ j. (a j && b j) || r j

  pub apart : (qs : List CodeProcedure) (ps : List Procedure) → AllZip (ProcedureSame e i w) qs ps → code.AreApart qs → code.AreApart (map procedure_made ps)
  apart [] [] h a = code.no_unit
  apart [] (p ∷ ps) h a = absurd h
  apart (q ∷ qs) [] h a = absurd h
  apart (q ∷ qs) (p ∷ ps) h (code.one_unit g a) = code.one_unit (sym (unit_there h.0.name h.0.param qs ps h.1) ∙ g) (apart qs ps h.1 a)

  pub service_there : {c n r m : NameId} → IsSame e i c n → IsSame e i r m → (ss : List ServiceCode) (vs : List Service) → AllZip (ServiceSame e i w) ss vs → code.has_service c r ss ≡ code.has_service n m (map service_made vs)
  service_there s t [] [] h = refl
  service_there s t [] (v ∷ vs) h = absurd h
  service_there s t (x ∷ ss) [] h = absurd h
  service_there s t (x ∷ ss) (v ∷ vs) h =
      let a = numbers s h.0.channel in
      let b = numbers t h.0.role in
      let r = service_there s t ss vs h.1 in
      λ j. (a j && b j) || r j

  pub single : (ss : List ServiceCode) (vs : List Service) → AllZip (ServiceSame e i w) ss vs → code.AreSingle ss → code.AreSingle (map service_made vs)
  single [] [] h a = code.no_service
  single [] (v ∷ vs) h a = absurd h
  single (x ∷ ss) [] h a = absurd h
  single (x ∷ ss) (v ∷ vs) h (code.one_service g a) = code.one_service (sym (service_there h.0.channel h.0.role ss vs h.1) ∙ g) (single ss vs h.1 a)
