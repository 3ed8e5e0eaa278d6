-- The protocols of a generated file have no fault.
use Rattle.std.proofs.Common.{◌≡◌, ◌≤◌, ℕ, List, [], ap}
use Rattle.std.specs.List.{flat_map}
use Rattle.chor_tree.specs.declared.file.File.{File}
use Rattle.chor_tree.specs.declared.file.SessionParam.{SessionParam}
use Rattle.chor_tree.specs.Names.{protocol_named}
use Rattle.global_types.specs.Faults.{faults_of, unknown_state_in, procedure_faults}
use Rattle.generated_files.specs.Generated.{IsGenerated}
use Rattle.generated_files.proofs.Lists.{none_of}
use Rattle.generated_files.proofs.Rounds.{declared}
use Rattle.generated_files.proofs.Shape.{Bodies, IsKept, file_at, AreRounds, by_shape}

module _ (count : ℕ) (few : count ≤ 4000) (w : Bodies) (kept : IsKept count w) (holds : AreRounds count w) where
  abbrev f : File
  f = file_at count w kept

  fine : faults_of f ≡ []
  fine = none_of (procedure_faults f.protocols) w.procs (λ p m.
      let d = declared count few w.tree.nodes w.procs holds.procedures p m in
      let r = d.2 in
      ap (λ (ks : List SessionParam). flat_map (λ k. unknown_state_in (protocol_named f.protocols k.protocol.name) k.state) ks) r.sessions)

pub all_fine : (f : File) (count : ℕ) → IsGenerated f count → faults_of f ≡ []
all_fine f count g = by_shape count (λ (h : File). faults_of h ≡ []) (λ w kept holds. fine count g.few w kept holds) f g
