-- When a file is typed, and else the faults of its types (rules T1 to T9), each with its place.
use Rattle.std.specs.Prelude.{◌≡◌, not, List, [], map, Some, None, Contains}
use Rattle.std.specs.List.{flat_map}
use Rattle.chor_base.specs.declared.fault.Fault.{Fault}
use Rattle.chor_base.specs.declared.rule.Rule.TheVariants.{T9}
use Rattle.chor_base.specs.Faults.{fault_if}
use Rattle.chor_tree.specs.declared.file.File.{File}
use Rattle.chor_tree.specs.declared.file.Proc.{Proc}
use Rattle.chor_tree.specs.declared.file.SessionParam.{SessionParam}
use Rattle.chor_tree.specs.Source.{Block, place_of, tails_of, body_of}
use Rattle.typing_rules.specs.Environment.{Environment, at_main, at_procedure}
use Rattle.delegation.specs.Checks.{all_differ}
use Rattle.typing_rules.specs.Checks.{rule_at}
use Rattle.typing_rules.specs.After.{after}

-- T9, at the name of a session parameter that lists one process twice
abbrev pub holder_fault : SessionParam → List Fault
holder_fault k = fault_if (not (all_differ (map (λ h. h.1.name) k.holders))) T9 k.name.place

-- the faults in the head of a procedure
abbrev pub head_faults : Proc → List Fault
head_faults p = flat_map holder_fault p.sessions

-- x is a fault of a block where this much is known: of its first statement or tail, or, where that has none, of a block that
-- follows it. So what follows a fault on its path isn't judged
pub data IsBodyFault (f : File) (x : Fault) : Environment → Block → Type 0 where
  here : {e : Environment} {b : Block} → rule_at f e b ≡ Some x.rule → place_of b ≡ x.place → IsBodyFault f x e b
  further : {e : Environment} {b next : Block}
      → rule_at f e b ≡ None → Contains (tails_of b) next → IsBodyFault f x (after f e b) next
      → IsBodyFault f x e b

-- A fault of the types of a file: in main, in the head of a procedure, or in the body of one whose head has none
pub data IsTypeFault (f : File) (x : Fault) : Type 0 where
  in_main : IsBodyFault f x at_main (body_of f f.body) → IsTypeFault f x
  in_a_head : {p : Proc} → Contains f.procs p → Contains (head_faults p) x → IsTypeFault f x
  in_a_procedure : {p : Proc} → Contains f.procs p → head_faults p ≡ [] → IsBodyFault f x (at_procedure p) (body_of f p.body) → IsTypeFault f x

-- No statement, no tail and no head of a procedure is at fault
abbrev pub IsTyped : File → Type 0
IsTyped f = (x : Fault) → ¬ IsTypeFault f x
