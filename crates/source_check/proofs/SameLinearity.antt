-- Files with the same source have the same faults of linearity.
use Rattle.std.proofs.Common.{◌≡◌, ◌∙◌, List, map, sym, ap, subst, inl, inr}
use Rattle.std.specs.Prelude.{Contains}
use Rattle.std.proofs.lemmas.Simd.{map-map}
use Rattle.chor_base.specs.declared.names.NameId.{NameId}
use Rattle.chor_base.specs.declared.fault.Fault.{Fault}
use Rattle.chor_tree.specs.declared.file.File.{File}
use Rattle.chor_tree.specs.declared.file.Proc.{Proc}
use Rattle.chor_tree.specs.declared.tree.Node.{Node}
use Rattle.chor_tree.specs.Source.{Procedure, Source, procedure_of, source_of}
use Rattle.chor_semantics.specs.Choreography.{Choreography}
use Rattle.chor_semantics.specs.Sources as tree
use Rattle.chor_semantics.specs.Blocks.{choreography_of}
use Rattle.chor_semantics.proofs.Blocks.{block_choreography}
use Rattle.typing_rules.specs.Guarded.{IsUnguardedCall, IsGuardFault}
use Rattle.well_formed.specs.Linear.{ParameterSets, everyone}
use Rattle.linearity.specs.Linear.{set_of, IsGreatest}
use Rattle.linearity.specs.OrderFaults.{IsUnorderedStart, IsUnorderedIn, in_main, in_a_procedure, main_of, IsOrderFault}
use Rattle.linear_check.specs.Class.{IsLinearityFault}
use Rattle.source_check.proofs.SameTypes.{its}

-- ---- the choreographies of a source

abbrev running : Procedure → tree.Procedure
running h = record { name = h.name.name; params = map (λ q. q.name.name) h.params; sessions = map (λ s. s.name.name) h.sessions; body = choreography_of h.body }

procedure_is : (nodes : List Node) (p : Proc) → running (procedure_of nodes p) ≡ tree.procedure_from nodes p
procedure_is nodes p = λ i. record {
  name = p.name.name;
  params = map (λ q. q.name.name) p.params;
  sessions = map (λ s. s.name.name) p.sessions;
  body = block_choreography nodes p.body i;
}

procedures_are : (f : File) → map running (source_of f).items.procedures ≡ tree.procedures_of f
procedures_are f = map-map running (procedure_of f.tree.nodes) f.procs ∙ (λ i. map (λ p. procedure_is f.tree.nodes p i) f.procs)

-- ---- two files with the same source

module _ (f g : File) (same : source_of f ≡ source_of g) where
  procedures_same : tree.procedures_of f ≡ tree.procedures_of g
  procedures_same = sym (procedures_are f) ∙ ap (λ (s : Source). map running s.items.procedures) same ∙ procedures_are g

  main_same : main_of f ≡ main_of g
  main_same = sym (block_choreography f.tree.nodes f.body) ∙ ap (λ (s : Source). choreography_of s.body) same ∙ block_choreography g.tree.nodes g.body

  greatest_same : (a : NameId) (sets : ParameterSets) → IsGreatest (tree.procedures_of f) (main_of f) a sets → IsGreatest (tree.procedures_of g) (main_of g) a sets
  greatest_same a sets h =
      subst (λ (procs : List tree.Procedure). IsGreatest procs (main_of g) a sets) procedures_same
      (subst (λ (main : Choreography). IsGreatest (tree.procedures_of f) main a sets) main_same h)

  unordered_same : (a : NameId) (sets : ParameterSets) (x : Fault) → IsUnorderedIn f a sets x → IsUnorderedIn g a sets x
  unordered_same a sets x (in_main u) = in_main (subst (IsUnorderedStart a x everyone) (ap (λ (s : Source). s.body) same) u)
  unordered_same a sets x (in_a_procedure {h = p} m u) =
      let q = its f g same p m in
      in_a_procedure q.declared (subst (λ (h : Procedure). IsUnorderedStart a x (set_of sets (running h)) h.body) q.is u)

  guard_fault : (x : Fault) → IsGuardFault f x → IsGuardFault g x
  guard_fault x h =
      let q = its f g same h.procedure h.is_declared in
      record {
        procedure = q.other;
        param = h.param;
        is_declared = q.declared;
        is_param = subst (λ (p : Procedure). Contains p.params h.param) q.is h.is_param;
        is_call = subst (λ (p : Procedure). IsUnguardedCall h.param.name.name x p.body) q.is h.is_call;
      }

  order_fault : (x : Fault) → IsOrderFault f x → IsOrderFault g x
  order_fault x h = record {
    service = h.service;
    declared = subst (λ (s : Source). Contains s.items.services h.service) same h.declared;
    several = h.several;
    sets = h.sets;
    greatest = greatest_same h.service.name.name h.sets h.greatest;
    unordered = unordered_same h.service.name.name h.sets x h.unordered;
  }

  pub linearity_fault : (x : Fault) → IsLinearityFault f x → IsLinearityFault g x
  linearity_fault x (inl h) = inl (guard_fault x h)
  linearity_fault x (inr h) = inr (order_fault x h)
