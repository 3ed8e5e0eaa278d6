-- Names and texts of units are in the tables.
use Rattle.std.proofs.Common.{◌≡◌, List, [], ◌∷◌, ◌++◌, All}
use Rattle.std.proofs.lemmas.List.Elements.{All-nil, All-push, All-same}
use Rattle.endpoint_reader.specs.declared.input.Input.{Input}
use Rattle.endpoint_reader.specs.declared.lines.Line.{Line}
use Rattle.endpoint_reader.specs.declared.written.Channel.{Channel}
use Rattle.endpoint_reader.specs.declared.written.Procedure.{Procedure}
use Rattle.endpoint_reader.specs.declared.written.Service.{Service}
use Rattle.endpoint_reader.specs.declared.written.Process.{Process}
use Rattle.endpoint_reader.specs.Known.{IsThere, AreRolesThere, IsSignatureThere, AreLinesThere, IsLineThere, AreUnitsThere}
use Rattle.endpoint_units.specs.declared.parts.Parts.{Parts}
use Rattle.endpoint_units.specs.Parts.{ArePartsThere}

and_one : {X : Type 0} (P : X → Type 0) (xs zs : List X) (x : X) → All P xs → P x → zs ≡ xs ++ x ∷ [] → All P zs
and_one P xs zs x h k e = All-same P zs (xs ++ x ∷ []) e (All-push P xs x h k)

none_of : {X : Type 0} (P : X → Type 0) (xs : List X) → xs ≡ [] → All P xs
none_of P xs e = All-same P xs [] e (All-nil P)

module _ (i : Input) {old : List Line} {cs : List Channel} {ps : List Procedure} {ss : List Service} {qs : List Process} where
  pub channel_there : (x : Channel) (zs : List Channel) → AreUnitsThere i old cs ps ss qs → IsThere i x.name × AreRolesThere i x.roles → zs ≡ cs ++ x ∷ [] → AreUnitsThere i old zs ps ss qs
  channel_there x zs h k e = record { lines = h.lines; channels = and_one (λ c. IsThere i c.name × AreRolesThere i c.roles) cs zs x h.channels k e; procedures = h.procedures; services = h.services; processes = h.processes }

  pub procedure_there : {new : List Line} (x : Procedure) (zs : List Procedure) → AreUnitsThere i old cs ps ss qs → AreLinesThere i new → IsSignatureThere i x.signature → zs ≡ ps ++ x ∷ [] → AreUnitsThere i new cs zs ss qs
  procedure_there x zs h l k e = record { lines = l; channels = h.channels; procedures = and_one (λ p. IsSignatureThere i p.signature) ps zs x h.procedures k e; services = h.services; processes = h.processes }

  pub service_there : {new : List Line} (x : Service) (zs : List Service) → AreUnitsThere i old cs ps ss qs → AreLinesThere i new → IsThere i x.channel × IsThere i x.role → zs ≡ ss ++ x ∷ [] → AreUnitsThere i new cs ps zs qs
  service_there x zs h l k e = record { lines = l; channels = h.channels; procedures = h.procedures; services = and_one (λ s. IsThere i s.channel × IsThere i s.role) ss zs x h.services k e; processes = h.processes }

  pub process_there : {new : List Line} (x : Process) (zs : List Process) → AreUnitsThere i old cs ps ss qs → AreLinesThere i new → IsThere i x.name → zs ≡ qs ++ x ∷ [] → AreUnitsThere i new cs ps ss zs
  process_there x zs h l k e = record { lines = l; channels = h.channels; procedures = h.procedures; services = h.services; processes = and_one (λ p. IsThere i p.name) qs zs x h.processes k e }

pub parts_there : (i : Input) (p : Parts) → p.lines.items ≡ [] → p.channels ≡ [] → p.procedures ≡ [] → p.services ≡ [] → p.processes ≡ [] → ArePartsThere i p
parts_there i p l a b c d = record {
  lines = none_of (IsLineThere i) p.lines.items l;
  channels = none_of (λ x. IsThere i x.name × AreRolesThere i x.roles) p.channels a;
  procedures = none_of (λ x. IsSignatureThere i x.signature) p.procedures b;
  services = none_of (λ x. IsThere i x.channel × IsThere i x.role) p.services c;
  processes = none_of (λ x. IsThere i x.name) p.processes d;
}
