-- What endpoint programs keep.
use Rattle.std.proofs.Common.{◌≡◌, ℕ, ◌<◌, true, List, length, map, sym, subst}
use Rattle.std.specs.Prelude.{All}
use Rattle.std.proofs.lemmas.List.Elements.{All-map}
use Rattle.endpoint_reader.specs.declared.written.Written.{Written}
use Rattle.endpoint_code.specs.declared.code.CodeNode.{CodeNode}
use Rattle.endpoint_code.specs.declared.endpoints.Channel.{Channel}
use Rattle.endpoint_code.specs.declared.endpoints.Procedure.{Procedure}
use Rattle.endpoint_code.specs.declared.endpoints.ServiceCode.{ServiceCode}
use Rattle.endpoint_code.specs.declared.endpoints.Process.{Process}
use Rattle.endpoint_code.specs.Bodies.{AreInside}
use Rattle.endpoint_code.specs.Kept as kept
use Rattle.endpoint_making.specs.Making.{channel_made, procedure_made, service_made, process_made, AreNumbered}

-- what holds of each item that is made holds of all that are made
pub moved : {X Y : Type 0} (P : Y → Type 0) (f : X → Y) (xs : List X) (ys : List Y) → ys ≡ map f xs → All (λ x. P (f x)) xs → All P ys
moved P f xs ys e h = subst (λ l. All P l) (sym e) (All-map P f xs h)

module _ (w : Written) (nodes : List CodeNode) (cs : List Channel) (ps : List Procedure) (ss : List ServiceCode) (qs : List Process)
    (channels : cs ≡ map channel_made w.channels) (procedures : ps ≡ map procedure_made w.procedures) (services : ss ≡ map service_made w.services) (processes : qs ≡ map process_made w.processes) where
  pub whole_inside : length nodes ≡ length w.lines.items → AreInside nodes ps ss qs
  whole_inside count = record {
    in_procedures = subst (λ (n : ℕ). All (λ p. p.body.0 < n) ps) (sym count) (moved (λ p. p.body.0 < length w.lines.items) procedure_made w.procedures ps procedures w.inside.procedures);
    in_services = subst (λ (n : ℕ). All (λ p. p.body.0 < n) ss) (sym count) (moved (λ p. p.body.0 < length w.lines.items) service_made w.services ss services w.inside.services);
    in_processes = subst (λ (n : ℕ). All (λ p. p.body.0 < n) qs) (sym count) (moved (λ p. p.body.0 < length w.lines.items) process_made w.processes qs processes w.inside.processes);
  }

  pub whole_numbered : (names texts : List (List ℕ)) → AreNumbered names texts w → All (λ o. kept.node_there (kept.has_name names) (kept.has_text texts) o ≡ true) nodes
      → kept.AreNumbered names texts cs ps ss qs nodes
  whole_numbered names texts numbered there = record {
    in_channels = moved (λ c. kept.channel_there (kept.has_name names) c ≡ true) channel_made w.channels cs channels numbered.channels;
    in_procedures = moved (λ p. kept.procedure_there (kept.has_name names) p ≡ true) procedure_made w.procedures ps procedures numbered.procedures;
    in_services = moved (λ s. kept.service_there (kept.has_name names) s ≡ true) service_made w.services ss services numbered.services;
    in_processes = moved (λ p. kept.has_name names p.name ≡ true) process_made w.processes qs processes numbered.processes;
    in_nodes = there;
  }
