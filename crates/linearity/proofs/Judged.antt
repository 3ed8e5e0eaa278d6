-- A file is linear where no start is a fault, and only there.
use Rattle.std.proofs.Common.{sym, subst, List, [], ◌∷◌, map}
use Rattle.std.specs.Prelude.{All, Contains}
use Rattle.std.proofs.lemmas.List.Elements.{All-nil, All-cons, All-head, All-tail, All-contains, All-contains_itself, All-weaker, All-map}
use Rattle.chor_base.specs.declared.names.NameId.{NameId}
use Rattle.chor_base.specs.declared.fault.Fault.{Fault}
use Rattle.chor_tree.specs.declared.file.File.{File}
use Rattle.chor_tree.specs.declared.file.Service.{Service}
use Rattle.chor_tree.specs.declared.tree.NodeId.{NodeId}
use Rattle.chor_tree.specs.Source.{body_of}
use Rattle.chor_semantics.specs.Sources.{procedure_from, procedures_of, tree_in, trees_of}
use Rattle.chor_semantics.specs.Blocks.{choreography_of}
use Rattle.chor_semantics.proofs.Blocks.{block_choreography}
use Rattle.well_formed.specs.Linear.{Members, ParameterSets, everyone}
use Rattle.linearity.specs.Linear.{AreOrdered, set_of, MeetsStarts, IsGreatest}
use Rattle.linearity.specs.OrderFaults.{IsUnorderedIn, in_main, in_a_procedure, main_of, IsOrderFault, IsLinearFile}
use Rattle.linearity.proofs.Greatest.{greatest_orders, orders_linear}
use Rattle.linearity.proofs.Orders.{no_fault, all_ordered}

each_of : {X Y : Type 0} (P : Y → Type 0) (g : X → Y) (xs : List X) → All P (map g xs) → All (λ x. P (g x)) xs
each_of P g [] h = All-nil (λ x. P (g x))
each_of P g (x ∷ xs) h = All-cons (λ y. P (g y)) x xs (All-head P (g x) (map g xs) h) (each_of P g xs (All-tail P (g x) (map g xs) h))

module _ (f : File) where
  -- the block and the choreography of a body
  of_block : (a : NameId) (m : Members) (id : NodeId) → AreOrdered a m (choreography_of (body_of f id)) → AreOrdered a m (tree_in (trees_of f.tree.nodes) id)
  of_block a m id h = subst (AreOrdered a m) (block_choreography f.tree.nodes id) h

  to_block : (a : NameId) (m : Members) (id : NodeId) → AreOrdered a m (tree_in (trees_of f.tree.nodes) id) → AreOrdered a m (choreography_of (body_of f id))
  to_block a m id h = subst (AreOrdered a m) (sym (block_choreography f.tree.nodes id)) h

  module _ (a : NameId) (sets : ParameterSets) where
    pub ordered_no_fault : MeetsStarts (procedures_of f) (main_of f) a sets → (x : Fault) → IsUnorderedIn f a sets x → ⊥
    ordered_no_fault m x (in_main h) = no_fault a (body_of f f.body) everyone (to_block a everyone f.body m.in_main) x h
    ordered_no_fault m x (in_a_procedure {h = p} among u) =
        let each = each_of (λ h. AreOrdered a (set_of sets h) h.body) (procedure_from f.tree.nodes) f.procs m.in_procs in
        let s = set_of sets (procedure_from f.tree.nodes p) in
        let o = All-contains (λ q. AreOrdered a (set_of sets (procedure_from f.tree.nodes q)) (procedure_from f.tree.nodes q).body) f.procs p each among in
        no_fault a (body_of f p.body) s (to_block a s p.body o) x u

    pub no_fault_ordered : ((x : Fault) → IsUnorderedIn f a sets x → ⊥) → MeetsStarts (procedures_of f) (main_of f) a sets
    no_fault_ordered n = record {
      in_procs = All-map (λ h. AreOrdered a (set_of sets h) h.body) (procedure_from f.tree.nodes) f.procs
          (All-weaker (Contains f.procs) (λ q. AreOrdered a (set_of sets (procedure_from f.tree.nodes q)) (procedure_from f.tree.nodes q).body)
          (λ q among. of_block a (set_of sets (procedure_from f.tree.nodes q)) q.body (all_ordered a (body_of f q.body) (set_of sets (procedure_from f.tree.nodes q)) (λ x u. n x (in_a_procedure among u))))
          f.procs (All-contains_itself f.procs));
      in_main = of_block a everyone f.body (all_ordered a (body_of f f.body) everyone (λ x u. n x (in_main u)));
    }

  pub linear_has_none : IsLinearFile f → (x : Fault) → IsOrderFault f x → ⊥
  linear_has_none l x o =
      ordered_no_fault o.service.name.name o.sets
      (greatest_orders (procedures_of f) (main_of f) o.service.name.name o.sets o.greatest (l o.service o.declared o.several)) x o.unordered

  pub none_is_linear : ((s : Service) → Contains f.services s → (sets : ParameterSets) × IsGreatest (procedures_of f) (main_of f) s.name.name sets)
      → ((x : Fault) → IsOrderFault f x → ⊥) → IsLinearFile f
  none_is_linear g n s among several =
      let k = g s among in
      orders_linear (procedures_of f) (main_of f) s.name.name k.0 k.1
      (no_fault_ordered s.name.name k.0 (λ x u. n x (record { service = s; declared = among; several = several; sets = k.0; greatest = k.1; unordered = u })))
