-- What the same units say, wherever their lines stand.
use Rattle.std.proofs.Common.{◌≡◌, ℕ, Bool, List, [], ◌∷◌, ◌++◌, refl, sym, ap, ◌∙◌, subst}
use Rattle.std.specs.Prelude.{map, bytes_eq}
use Rattle.std.specs.List.{flat_map, list_any}
use Rattle.chor_base.specs.Words.{AllDistinct}
use Rattle.chor_base.specs.Writing.{name_in}
use Rattle.chor_base.specs.declared.names.NameId.{NameId}
use Rattle.endpoint_reader.specs.declared.input.Input.{Input}
use Rattle.endpoint_reader.specs.declared.written.Channel.{Channel}
use Rattle.endpoint_reader.specs.declared.written.Procedure.{Procedure}
use Rattle.endpoint_reader.specs.declared.written.Written.{Written}
use Rattle.endpoint_reader.specs.Files.{units_written}
use Rattle.endpoint_names.specs.Keys.{sign_of_name, sign_of_channel, sign_of_procedure, sign_of_process}
use Rattle.endpoint_names.specs.Faults.{Setting, setting, repeated, names_in, faults_of_channels, faults_of_procedures, faults_of_services, faults_of_processes, name_faults, procedure_faults, service_faults, process_faults}
use Rattle.endpoint_names.specs.Class.{begin_faults}
use Rattle.endpoint_laws.proofs.Naming.{AreUnitsNamed}
use Rattle.endpoint_laws.proofs.Faults.{name_back, names_back, body_back}
use Rattle.endpoint_laws.proofs.Units.{channel_back, signature_of, service_sign, process_sign, procedure_says, service_says, process_says, beginning_says, begins_so, gives, tells}
use Rattle.endpoint_laws.proofs.Alike.{sign_of, AreAlike, of_channel, no_channel, not_served, of_body}

signs_are : (ps : List Procedure) → map sign_of_procedure ps ≡ map sign_of (map (λ p. p.signature) ps)
signs_are [] = refl
signs_are (p ∷ ps) = ap (λ ss. sign_of_procedure p ∷ ss) (signs_are ps)

module _ (i j : Input) (w v : Written) (e : i.names.now ≡ j.names.now) (g : i.texts.now ≡ j.texts.now) (same : units_written i w ≡ units_written j v) (distinct : AllDistinct i.names.now) (named : AreUnitsNamed i.names.now i.texts.now (units_written i w)) where
  there : AllDistinct j.names.now
  there = subst AllDistinct e distinct

  named_there : AreUnitsNamed j.names.now j.texts.now (units_written j v)
  named_there = subst (λ (ns : List (List ℕ)). AreUnitsNamed ns j.texts.now (units_written j v)) e (subst (λ (xs : List (List ℕ)). AreUnitsNamed i.names.now xs (units_written j v)) g (subst (AreUnitsNamed i.names.now i.texts.now) same named))

  channels : w.channels ≡ v.channels
  channels = sym (gives i distinct w named).channels ∙ (λ k. map (channel_back (e k)) (same k).channels) ∙ (gives j there v named_there).channels

  processes : map sign_of_process w.processes ≡ map sign_of_process v.processes
  processes = sym (gives i distinct w named).processes ∙ (λ k. map (process_sign (e k)) (same k).processes) ∙ (gives j there v named_there).processes

  alike : AreAlike w v
  alike = record {
    channels = channels;
    signatures = sym (gives i distinct w named).signatures ∙ (λ k. map (signature_of (e k)) (same k).procedures) ∙ (gives j there v named_there).signatures;
    services = sym (gives i distinct w named).services ∙ (λ k. map (service_sign (e k)) (same k).services) ∙ (gives j there v named_there).services;
  }

  pub same_beginnings : begin_faults w ≡ begin_faults v
  same_beginnings = sym (begins_so i distinct w) ∙ (λ k. flat_map (beginning_says (e k)) (same k).procedures) ∙ begins_so j there v

  module _ (f : NameId → Bool) where
    abbrev s : Setting
    s = record { written = w; is_function = f }

    abbrev t : Setting
    t = record { written = v; is_function = f }

    of_channels : faults_of_channels w ≡ faults_of_channels v
    of_channels = λ k. repeated [] (map sign_of_channel (channels k)) ++ flat_map (λ (c : Channel). of_channel w v alike c k) (channels k)

    in_procedures : flat_map (procedure_says i.names.now s) (units_written i w).procedures ≡ flat_map (procedure_says j.names.now t) (units_written j v).procedures
    in_procedures = λ k. flat_map (λ p. repeated [] (map sign_of_name (names_back (e k) p.sessions)) ++ of_body w v alike f (names_in (names_back (e k) p.sessions)) (body_back (e k) p.body) k) (same k).procedures

    in_services : flat_map (service_says i.names.now s) (units_written i w).services ≡ flat_map (service_says j.names.now t) (units_written j v).services
    in_services = λ k. flat_map (λ x. no_channel w v alike (name_back (e k) x.channel) k ++ not_served w v alike (name_back (e k) x.channel) (name_back (e k) x.role) k ++ of_body w v alike f ((name_back (e k) x.channel).name ∷ []) (body_back (e k) x.body) k) (same k).services

    in_processes : flat_map (process_says i.names.now s) (units_written i w).processes ≡ flat_map (process_says j.names.now t) (units_written j v).processes
    in_processes = λ k. flat_map (λ p. of_body w v alike f [] (body_back (e k) p.body) k) (same k).processes

    of_procedures : faults_of_procedures s ≡ faults_of_procedures t
    of_procedures =
        let signs : map sign_of_procedure w.procedures ≡ map sign_of_procedure v.procedures = signs_are w.procedures ∙ ap (map sign_of) alike.signatures ∙ sym (signs_are v.procedures) in
        let bodies : flat_map (procedure_faults s) w.procedures ≡ flat_map (procedure_faults t) v.procedures = sym (tells i distinct w f named).procedures ∙ in_procedures ∙ (tells j there v f named_there).procedures in
        λ k. repeated [] (signs k) ++ bodies k

    of_services : faults_of_services s ≡ faults_of_services t
    of_services =
        let bodies : flat_map (service_faults s) w.services ≡ flat_map (service_faults t) v.services = sym (tells i distinct w f named).services ∙ in_services ∙ (tells j there v f named_there).services in
        λ k. repeated [] (alike.services k) ++ bodies k

    of_processes : faults_of_processes s ≡ faults_of_processes t
    of_processes =
        let bodies : flat_map (process_faults s) w.processes ≡ flat_map (process_faults t) v.processes = sym (tells i distinct w f named).processes ∙ in_processes ∙ (tells j there v f named_there).processes in
        λ k. repeated [] (processes k) ++ bodies k

    all_same : name_faults s ≡ name_faults t
    all_same = λ k. of_channels k ++ of_procedures k ++ of_services k ++ of_processes k

  pub same_names : (hosts : List (List ℕ)) → name_faults (setting w i.names.now hosts) ≡ name_faults (setting v j.names.now hosts)
  same_names hosts = all_same (λ x. list_any (bytes_eq (name_in i.names.now x)) hosts) ∙ (λ k. name_faults (setting v (e k) hosts))
