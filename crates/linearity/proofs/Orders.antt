-- No start of a block is unordered exactly where all are ordered; linear files meet what the correspondence asks.
use Rattle.std.proofs.Common.{◌≡◌, ◌==◌, ℕ, Bool, true, false, refl, ap, subst, List, [], ◌∷◌, map, Some, if◌then◌else◌, arith}
use Rattle.std.specs.Prelude.{All}
use Rattle.std.proofs.lemmas.Bool.Decides.{nat_tests}
use Rattle.std.proofs.lemmas.List.Elements.{All-head, All-tail}
use Rattle.chor_base.specs.declared.names.NameId.{NameId}
use Rattle.chor_base.specs.declared.fault.Fault.{Fault}
use Rattle.chor_base.specs.declared.rule.Rule.TheVariants.{U2}
use Rattle.chor_base.specs.Faults.{fault}
use Rattle.chor_tree.specs.Source.{Block, Then as After, Either as Tests, Calls as Goes, Ends as Stops}
use Rattle.chor_semantics.specs.Choreography.{Named, Choreography, Then, Either, Calls, Ends}
use Rattle.chor_semantics.specs.Sources.{Procedure}
use Rattle.chor_semantics.specs.Steps.{procedure_named}
use Rattle.chor_semantics.specs.Blocks.{node_of, choreography_of}
use Rattle.well_formed.specs.Linear.{Members, ParameterSets, everyone, members_after, joins_from, given, IsLinear, AllLinear}
use Rattle.linearity.specs.Linear.{AreOrdered, ArePassed, set_of, IsLinearFor}
use Rattle.linearity.specs.OrderFaults.{IsUnorderedStart, here, after, first, second}

module _ (a : NameId) where
  contrary : (b : Bool) → b ≡ true → b ≡ false → ⊥
  contrary true e f = cc
  contrary false e f = cc

  -- ordered starts are no faults
  pub no_fault : (b : Block) (members : Members) → AreOrdered a members (choreography_of b) → (x : Fault) → IsUnorderedStart a x members b → ⊥
  no_fault (After place s next) members o x (here e f) = contrary (joins_from a members (node_of s)) o.0 e
  no_fault (After place s next) members o x (after h) = no_fault next (members_after a members (node_of s)) o.1 x h
  no_fault (Tests place p e c d) members o x (first h) = no_fault c members o.0 x h
  no_fault (Tests place p e c d) members o x (second h) = no_fault d members o.1 x h
  no_fault (Goes place f ps ss) members o x h = elim h [ ]
  no_fault (Stops place) members o x h = elim h [ ]

  -- where no start is a fault, all are ordered
  pub all_ordered : (b : Block) (members : Members) → ((x : Fault) → IsUnorderedStart a x members b → ⊥) → AreOrdered a members (choreography_of b)
  all_ordered (After place s next) members n =
      (go (joins_from a members (node_of s)) refl, all_ordered next (members_after a members (node_of s)) (λ x h. n x (after h)))
    where
      go : (b : Bool) → joins_from a members (node_of s) ≡ b → joins_from a members (node_of s) ≡ true
      go true e = e
      go false e = absurd (n (fault U2 place) (here e refl))
  all_ordered (Tests place p e c d) members n = (all_ordered c members (λ x h. n x (first h)), all_ordered d members (λ x h. n x (second h)))
  all_ordered (Goes place f ps ss) members n = tt
  all_ordered (Stops place) members n = tt

  -- ---- what the correspondence asks

  both_conditions : (sets : ParameterSets) (c : Choreography) (members : Members) → ArePassed a sets members c → AreOrdered a members c → IsLinear a sets members c
  both_conditions sets (Then n rest) members p o = (o.0, both_conditions sets rest (members_after a members n) p o.1)
  both_conditions sets (Either r e c d) members p o = (both_conditions sets c members p.0 o.0, both_conditions sets d members p.1 o.1)
  both_conditions sets (Calls f d ps ss) members p o = p
  both_conditions sets Ends members p o = tt

  module _ (sets : ParameterSets) where
    -- the procedure of a name, from its set on
    named_linear : (hs : List Procedure) → All (λ h. ArePassed a sets (set_of sets h) h.body) hs → All (λ h. AreOrdered a (set_of sets h) h.body) hs → AllLinear a sets hs
    named_linear [] p o f q e = absurd cc
    named_linear (h ∷ hs) p o f q e =
        go (h.name.0 == f.0) refl (named_linear hs (All-tail (λ y. ArePassed a sets (set_of sets y) y.body) h hs p) (All-tail (λ y. AreOrdered a (set_of sets y) y.body) h hs o) f q) e
      where
        go : (b : Bool) → (h.name.0 == f.0) ≡ b → (procedure_named hs f ≡ Some q → IsLinear a sets (given (sets f) 0 (map (λ x. Named x.0 0) q.params)) q.body) → (if b then Some h else procedure_named hs f) ≡ Some q → IsLinear a sets (given (sets f) 0 (map (λ x. Named x.0 0) q.params)) q.body
        go true t further g =
            let n : h.name.0 ≡ f.0 = grind (arith, nat_tests) in
            let name : ℕ → NameId = λ m. record { 0 = m } in
            let same : h.name ≡ f = ap name n in
            let is : h ≡ q = cc in
            subst (λ (y : Procedure). IsLinear a sets (given (sets f) 0 (map (λ x. Named x.0 0) y.params)) y.body) is
            (subst (λ (y : NameId). IsLinear a sets (given (sets y) 0 (map (λ x. Named x.0 0) h.params)) h.body) same
            (both_conditions sets h.body (set_of sets h) (All-head (λ y. ArePassed a sets (set_of sets y) y.body) h hs p) (All-head (λ y. AreOrdered a (set_of sets y) y.body) h hs o)))
        go false t further g = further g

  pub linear_procedures : (procs : List Procedure) (main : Choreography) (l : IsLinearFor procs main a) → AllLinear a l.sets procs
  linear_procedures procs main l = named_linear l.sets procs l.passed.in_procs l.ordered.in_procs

  pub linear_main : (procs : List Procedure) (main : Choreography) (l : IsLinearFor procs main a) → IsLinear a l.sets everyone main
  linear_main procs main l = both_conditions l.sets main everyone l.passed.in_main l.ordered.in_main
