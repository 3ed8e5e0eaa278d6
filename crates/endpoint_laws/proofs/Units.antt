-- The faults of a file, from its units as they are written.
use Rattle.std.proofs.Common.{sym, ◌≡◌, ℕ, Bool, List, [], ◌∷◌, ◌++◌, refl, ap, ◌∙◌, subst}
use Rattle.std.specs.Prelude.{map}
use Rattle.std.specs.List.{flat_map, AllByRecursion}
use Rattle.chor_base.specs.Words.{AllDistinct}
use Rattle.chor_base.specs.declared.fault.Fault.{Fault}
use Rattle.chor_base.specs.declared.names.NameId.{NameId}
use Rattle.endpoint_grammar.specs.Written.{Units, Channel as ChannelText, Procedure as ProcedureText, Service as ServiceText, Process as ProcessText}
use Rattle.endpoint_reader.specs.declared.input.Input.{Input}
use Rattle.endpoint_reader.specs.declared.input.Named.{Named}
use Rattle.endpoint_reader.specs.declared.lists.Signature.{Signature}
use Rattle.endpoint_reader.specs.declared.lines.LineId.{LineId}
use Rattle.endpoint_reader.specs.Lines as text
use Rattle.endpoint_reader.specs.declared.written.Channel.{Channel}
use Rattle.endpoint_reader.specs.declared.written.Procedure.{Procedure}
use Rattle.endpoint_reader.specs.declared.written.Service.{Service}
use Rattle.endpoint_reader.specs.declared.written.Process.{Process}
use Rattle.endpoint_reader.specs.declared.written.Written.{Written}
use Rattle.endpoint_reader.specs.Files.{units_written}
use Rattle.endpoint_reader.specs.Units.{channel_unit, procedure_unit, service_unit, process_unit}
use Rattle.endpoint_names.specs.declared.key.Sign.{Sign}
use Rattle.endpoint_names.specs.Keys.{sign_of_name, sign_of_two, sign_of_procedure, sign_of_service, sign_of_process}
use Rattle.endpoint_names.specs.Bodies.{body_at}
use Rattle.endpoint_names.specs.Faults.{Setting, repeated, names_in, channel_of, unserved, unknown_channel, body_faults, procedure_faults, service_faults, process_faults}
use Rattle.endpoint_names.specs.Class.{opening_faults, begin_faults}
use Rattle.endpoint_laws.proofs.Naming.{IsBodyNamed, IsChannelNamed, IsProcedureNamed, IsServiceNamed, IsProcessNamed, AreUnitsNamed}
use Rattle.endpoint_laws.proofs.Trees.{bodies_written}
use Rattle.endpoint_laws.proofs.Faults.{name_back, names_back, signature_back, body_back, same_name, same_names, body, opening}

-- ---- lists

module _ {X Y Z : Type 0} (P : Y → Type 0) (h : X → Y) where
  mapped : (g : Y → Z) (f : X → Z) → ((x : X) → P (h x) → g (h x) ≡ f x) → (xs : List X) → AllByRecursion P (map h xs) → map g (map h xs) ≡ map f xs
  mapped g f same [] a = refl
  mapped g f same (x ∷ xs) a = λ j. same x a.0 j ∷ mapped g f same xs a.1 j

  flattened : (g : Y → List Z) (f : X → List Z) → ((x : X) → P (h x) → g (h x) ≡ f x) → (xs : List X) → AllByRecursion P (map h xs) → flat_map g (map h xs) ≡ flat_map f xs
  flattened g f same [] a = refl
  flattened g f same (x ∷ xs) a = λ j. same x a.0 j ++ flattened g f same xs a.1 j

mapped_back : {X Y : Type 0} (P : Y → Type 0) (h : X → Y) (g : Y → X) → ((x : X) → P (h x) → g (h x) ≡ x) → (xs : List X) → AllByRecursion P (map h xs) → map g (map h xs) ≡ xs
mapped_back P h g same [] a = refl
mapped_back P h g same (x ∷ xs) a = λ j. same x a.0 j ∷ mapped_back P h g same xs a.1 j

-- ---- what units say

module _ (names : List (List ℕ)) where
  abbrev pub channel_back : ChannelText → Channel
  channel_back c = record { name = name_back names c.name; roles = record { active = names_back names c.roles.active; serve = names_back names c.roles.serve } }

  abbrev pub signature_of : ProcedureText → Signature
  signature_of p = signature_back names p.name p.param p.sessions

  abbrev pub procedure_sign : ProcedureText → Sign
  procedure_sign p = sign_of_two (name_back names p.name) (name_back names p.param)

  abbrev pub service_sign : ServiceText → Sign
  service_sign s = sign_of_two (name_back names s.channel) (name_back names s.role)

  abbrev pub process_sign : ProcessText → Sign
  process_sign p = sign_of_name (name_back names p.name)

  abbrev pub procedure_says : Setting → ProcedureText → List Fault
  procedure_says s p = repeated [] (map sign_of_name (names_back names p.sessions)) ++ body_faults s (names_in (names_back names p.sessions)) (body_back names p.body)

  abbrev pub service_says : Setting → ServiceText → List Fault
  service_says s v =
      unknown_channel s.written (name_back names v.channel) ++ unserved (channel_of s.written (name_back names v.channel).name) (name_back names v.role)
      ++ body_faults s ((name_back names v.channel).name ∷ []) (body_back names v.body)

  abbrev pub process_says : Setting → ProcessText → List Fault
  process_says s p = body_faults s [] (body_back names p.body)

  abbrev pub beginning_says : ProcedureText → List Fault
  beginning_says p = opening_faults (body_back names p.body)

-- ---- a file says what its units say

module _ (i : Input) (distinct : AllDistinct i.names.now) (w : Written) where
  abbrev ns : List (List ℕ)
  ns = i.names.now

  abbrev xs : List (List ℕ)
  xs = i.texts.now

  abbrev u : Units
  u = units_written i w

  channel_same : (c : Channel) → IsChannelNamed ns xs (channel_unit i c) → channel_back ns (channel_unit i c) ≡ c
  channel_same c h = λ j. record { name = same_name i distinct c.name h.0 j; roles = record { active = same_names i distinct c.roles.active h.1.0 j; serve = same_names i distinct c.roles.serve h.1.1 j } }

  signature_same : (p : Procedure) → IsProcedureNamed ns xs (procedure_unit i w.lines.items p) → signature_of ns (procedure_unit i w.lines.items p) ≡ p.signature
  signature_same p h = λ j. record { name = same_name i distinct p.signature.name h.0 j; param = same_name i distinct p.signature.param h.1 j; sessions = same_names i distinct p.signature.sessions h.2 j }

  procedure_sign_same : (p : Procedure) → IsProcedureNamed ns xs (procedure_unit i w.lines.items p) → procedure_sign ns (procedure_unit i w.lines.items p) ≡ sign_of_procedure p
  procedure_sign_same p h = λ j. sign_of_two (same_name i distinct p.signature.name h.0 j) (same_name i distinct p.signature.param h.1 j)

  service_sign_same : (s : Service) → IsServiceNamed ns xs (service_unit i w.lines.items s) → service_sign ns (service_unit i w.lines.items s) ≡ sign_of_service s
  service_sign_same s h = λ j. sign_of_two (same_name i distinct s.channel h.0 j) (same_name i distinct s.role h.1 j)

  process_sign_same : (p : Process) → IsProcessNamed ns xs (process_unit i w.lines.items p) → process_sign ns (process_unit i w.lines.items p) ≡ sign_of_process p
  process_sign_same p h = λ j. sign_of_name (same_name i distinct p.name h.0 j)

  module _ (f : NameId → Bool) where
    abbrev s : Setting
    s = record { written = w; is_function = f }

    body_says : (bs : List NameId) (id : LineId) → IsBodyNamed ns xs (text.body_at i w.lines.items id) → body_faults s bs (body_back ns (text.body_at i w.lines.items id)) ≡ body_faults s bs (body_at w.lines.items id)
    body_says bs id h =
        let e = sym (bodies_written i w.lines.items id) in
        ap (λ b. body_faults s bs (body_back ns b)) e ∙ body i distinct s bs (body_at w.lines.items id) (subst (IsBodyNamed ns xs) e h)

    procedure_same : (p : Procedure) → IsProcedureNamed ns xs (procedure_unit i w.lines.items p) → procedure_says ns s (procedure_unit i w.lines.items p) ≡ procedure_faults s p
    procedure_same p h =
        let sessions = same_names i distinct p.signature.sessions h.2 in
        let inside = ap (λ ys. body_faults s (names_in ys) (body_back ns (text.body_at i w.lines.items p.body))) sessions ∙ body_says (names_in p.signature.sessions) p.body h.3 in
        λ j. repeated [] (map sign_of_name (sessions j)) ++ inside j

    service_same : (v : Service) → IsServiceNamed ns xs (service_unit i w.lines.items v) → service_says ns s (service_unit i w.lines.items v) ≡ service_faults s v
    service_same v h =
        let c = same_name i distinct v.channel h.0 in
        let r = same_name i distinct v.role h.1 in
        let inside = ap (λ (x : Named). body_faults s (x.name ∷ []) (body_back ns (text.body_at i w.lines.items v.body))) c ∙ body_says (v.channel.name ∷ []) v.body h.2 in
        λ j. unknown_channel w (c j) ++ unserved (channel_of w (c j).name) (r j) ++ inside j

    process_same : (p : Process) → IsProcessNamed ns xs (process_unit i w.lines.items p) → process_says ns s (process_unit i w.lines.items p) ≡ process_faults s p
    process_same p h = body_says [] p.body h.1

  beginning_same : (p : Procedure) → beginning_says ns (procedure_unit i w.lines.items p) ≡ opening_faults (body_at w.lines.items p.body)
  beginning_same p = ap (λ b. opening_faults (body_back ns b)) (sym (bodies_written i w.lines.items p.body)) ∙ opening i (body_at w.lines.items p.body)

  beginnings : (ps : List Procedure) → flat_map (beginning_says ns) (map (procedure_unit i w.lines.items) ps) ≡ flat_map (λ p. opening_faults (body_at w.lines.items p.body)) ps
  beginnings [] = refl
  beginnings (p ∷ ps) = λ j. beginning_same p j ++ beginnings ps j

  pub begins_so : flat_map (beginning_says ns) u.procedures ≡ begin_faults w
  begins_so = beginnings w.procedures

  -- the units of a file give what is asked of it elsewhere
  pub record Gives (v : Units) : Type 0 where
    pub channels : map (channel_back ns) v.channels ≡ w.channels
    pub signatures : map (signature_of ns) v.procedures ≡ map (λ p. p.signature) w.procedures
    pub services : map (service_sign ns) v.services ≡ map sign_of_service w.services
    pub processes : map (process_sign ns) v.processes ≡ map sign_of_process w.processes

  pub gives : AreUnitsNamed ns xs u → Gives u
  gives h = record {
    channels = mapped_back (IsChannelNamed ns xs) (channel_unit i) (channel_back ns) channel_same w.channels h.0;
    signatures = mapped (IsProcedureNamed ns xs) (procedure_unit i w.lines.items) (signature_of ns) (λ p. p.signature) signature_same w.procedures h.1;
    services = mapped (IsServiceNamed ns xs) (service_unit i w.lines.items) (service_sign ns) sign_of_service service_sign_same w.services h.2;
    processes = mapped (IsProcessNamed ns xs) (process_unit i w.lines.items) (process_sign ns) sign_of_process process_sign_same w.processes h.3;
  }

  -- and all faults in bodies
  pub record Tells (f : NameId → Bool) (v : Units) : Type 0 where
    pub procedures : flat_map (procedure_says ns (s f)) v.procedures ≡ flat_map (procedure_faults (s f)) w.procedures
    pub services : flat_map (service_says ns (s f)) v.services ≡ flat_map (service_faults (s f)) w.services
    pub processes : flat_map (process_says ns (s f)) v.processes ≡ flat_map (process_faults (s f)) w.processes

  pub tells : (f : NameId → Bool) → AreUnitsNamed ns xs u → Tells f u
  tells f h = record {
    procedures = flattened (IsProcedureNamed ns xs) (procedure_unit i w.lines.items) (procedure_says ns (s f)) (procedure_faults (s f)) (procedure_same f) w.procedures h.1;
    services = flattened (IsServiceNamed ns xs) (service_unit i w.lines.items) (service_says ns (s f)) (service_faults (s f)) (service_same f) w.services h.2;
    processes = flattened (IsProcessNamed ns xs) (process_unit i w.lines.items) (process_says ns (s f)) (process_faults (s f)) (process_same f) w.processes h.3;
  }
