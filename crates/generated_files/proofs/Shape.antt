-- A generated file with its declarations in full, so that what is asked of it can be computed.
use Rattle.std.proofs.Common.{◌≡◌, ◌∙◌, ℕ, List, [], ◌∷◌, map, sym, ap, subst}
use Rattle.chor_tree.specs.declared.file.File.{File}
use Rattle.chor_tree.specs.declared.header.Header.{Header}
use Rattle.chor_tree.specs.declared.file.Named.{Named}
use Rattle.chor_tree.specs.declared.file.Proc.{Proc}
use Rattle.chor_tree.specs.declared.file.Service.{Service}
use Rattle.chor_tree.specs.declared.tree.NodeId.{NodeId}
use Rattle.chor_tree.specs.declared.tree.Tree.{Tree}
use Rattle.chor_tree.specs.Headers.{no_header}
use Rattle.chor_tree.specs.Kept.{Keeps}
use Rattle.chor_tree.specs.Protocols.{Protocol}
use Rattle.chor_tree.specs.Source.{Source, source_of, procedure_of, block_in, blocks_of}
use Rattle.chor_gen.specs.Words.{named_in, generated_names}
use Rattle.chor_gen.specs.Generated.{round, fork, round_service, fork_service, p_and_q, call, procedures, generated}
use Rattle.generated_files.specs.Generated.{IsGenerated}
use Rattle.generated_files.proofs.Rounds.{at}

-- where a file keeps its procedures and their bodies, with its texts
pub record Bodies : Type 0 where
  pub texts : List (List ℕ)
  pub procs : List Proc
  pub tree : Tree
  pub body : NodeId

abbrev bodies_of : File → Bodies
bodies_of f = record { texts = f.texts; procs = f.procs; tree = f.tree; body = f.body }

abbrev Kept : Bodies → Header → List (List ℕ) → List Protocol → List Service → List Named → Type 0
Kept w header names protocols services processes = Keeps header names w.texts protocols services w.procs processes w.tree.nodes w.body

abbrev file_of : (w : Bodies) (header : Header) (names : List (List ℕ)) (protocols : List Protocol) (services : List Service) (processes : List Named) → Kept w header names protocols services processes → File
file_of w header names protocols services processes kept = record {
  header = header;
  names = names;
  texts = w.texts;
  protocols = protocols;
  services = services;
  procs = w.procs;
  processes = processes;
  tree = w.tree;
  body = w.body;
  kept = kept;
}

module _ (count : ℕ) where
  abbrev protocols_at : List Protocol
  protocols_at = round (at count) ∷ fork (at count) ∷ []

  abbrev services_at : List Service
  services_at = round_service (at count) ∷ fork_service (at count) ∷ []

  abbrev pub IsKept : Bodies → Type 0
  IsKept w = Kept w no_header (generated_names count) protocols_at services_at (p_and_q (at count))

  -- the file with these declarations
  abbrev pub file_at : (w : Bodies) → IsKept w → File
  file_at w kept = file_of w no_header (generated_names count) protocols_at services_at (p_and_q (at count)) kept

  -- what stands there is what is generated
  pub record AreRounds (w : Bodies) : Type 0 where
    pub procedures : map (procedure_of w.tree.nodes) w.procs ≡ procedures (at count) count count
    pub main : block_in (blocks_of w.tree.nodes) w.body ≡ call (at count) 1

  source_at : (f : File) → IsGenerated f count → source_of f ≡ generated (at count) count
  source_at f g = g.source ∙ ap (λ (ns : List (List ℕ)). generated (named_in ns) count) g.names

  abbrev Says : (File → Type 0) → Bodies → Header → List (List ℕ) → List Protocol → List Service → List Named → Type 0
  Says P w header names protocols services processes = (kept : Kept w header names protocols services processes) → P (file_of w header names protocols services processes kept)

  -- what holds of each file with these declarations holds of each generated file
  pub by_shape : (P : File → Type 0) → ((w : Bodies) (kept : IsKept w) → AreRounds w → P (file_at w kept)) → (f : File) → IsGenerated f count → P f
  by_shape P h f g =
      let w = bodies_of f in
      let s = source_at f g in
      let holds : AreRounds w = record { procedures = ap (λ (o : Source). o.items.procedures) s; main = ap (λ (o : Source). o.body) s } in
      let one : Says P w no_header (generated_names count) protocols_at services_at (p_and_q (at count)) = λ k. h w k holds in
      let two = subst (λ (x : List Named). Says P w no_header (generated_names count) protocols_at services_at x) (sym (ap (λ (o : Source). o.processes) s)) one in
      let three = subst (λ (x : List Service). Says P w no_header (generated_names count) protocols_at x f.processes) (sym (ap (λ (o : Source). o.items.services) s)) two in
      let four = subst (λ (x : List Protocol). Says P w no_header (generated_names count) x f.services f.processes) (sym (ap (λ (o : Source). o.items.protocols) s)) three in
      let five = subst (λ (x : List (List ℕ)). Says P w no_header x f.protocols f.services f.processes) (sym g.names) four in
      subst (λ (x : Header). Says P w x f.names f.protocols f.services f.processes) (sym (ap (λ (o : Source). o.header) s)) five f.kept
